-- Expressions whose names are resolved, with their kinds: what is made of operands, and what is
-- asked of them. ISO/IEC 9075-2, 6.6 (identifier chain), 6.26 (value expression), 10.4 (routine
-- invocation) and 10.9 (aggregate function).
use Rattle.std.specs.Prelude.{ℕ, ◌==◌, Bool, true, not, List, [], ◌∷◌, ◌++◌, map, length, nat_le}
use Rattle.std.specs.Prelude.{Option, Some, None}
use Rattle.sql_values.specs.declared.fold.FoldKind.{FoldKind}
use Rattle.sql_values.specs.declared.fold.FoldKind.TheVariants.{Count}
use Rattle.syntax_trees.specs.declared.anchor.Anchor.{Anchor}
use Rattle.syntax_trees.specs.declared.anchor.Ident.{Ident}
use Rattle.syntax_trees.specs.declared.expr.ChainOperator.{ChainOperator}
use Rattle.syntax_trees.specs.declared.expr.Literal.{Literal}
use Rattle.syntax_trees.specs.declared.expr.Operation.{Operation}
use Rattle.bound_trees.specs.declared.expr.BoundExpr.{BoundExpr}
use Rattle.bound_trees.specs.declared.expr.BoundExpr.TheVariants as bound
use Rattle.catalog_store.specs.declared.entry.FunctionHead.{FunctionHead}
use Rattle.bind_faults.specs.declared.fault.Fault.{Fault}
use Rattle.bind_faults.specs.declared.fault.FaultKind.TheVariants.{UnknownName, DuplicateName}
use Rattle.bind_faults.specs.declared.fault.FaultKind.TheVariants.{WrongCount, NotPermitted}
use Rattle.bind_faults.specs.Faults.{Noted, give, as_value, ◌>>◌, fault_if}
use Rattle.bind_kinds.specs.declared.kind.Kind.{Kind}
use Rattle.bind_kinds.specs.declared.kind.Kind.TheVariants.{Null}
use Rattle.bind_kinds.specs.declared.kind.OperandHead.{OperandHead}
use Rattle.bind_kinds.specs.Kinds.{kind_of_type, kind_of_literal, head_of, settled, in_turn}
use Rattle.bind_kinds.specs.Operations.{asked, given}
use Rattle.bind_kinds.specs.Aggregates.{aggregate_asked, aggregate_given, argument_of}
use Rattle.bind_kinds.specs.Chains.{links_faults, kind_of_chain, chain_place}
use Rattle.bind_kinds.specs.Words.{value_of, missing, tree_of, chain_of}
use Rattle.bind_sight.specs.declared.sight.Referent.{Referent}
use Rattle.bind_sight.specs.declared.sight.Referent.TheVariants.{Column, Guessed, Variable, Barred}
use Rattle.bind_sight.specs.declared.sight.Referent.TheVariants.{Several, Unknown}
use Rattle.bind_parts.specs.declared.aggregates.Parts.{Parts}
pub use Rattle.bind_names.specs.Calls.{head_in, head_named, is_own, own_head, function_known}
pub use Rattle.bind_names.specs.Calls.{function_in_sight, is_modifying, call_faults, call_uses}
pub use Rattle.bind_names.specs.Calls.{call_head}
use Rattle.bind_parts.specs.declared.typed.Typed.{Typed}
use Rattle.bind_parts.specs.declared.typed.Operands.{Operands}

-- ---- the parts of a group

-- of a query without grouping columns, before its first aggregate
abbrev pub no_parts : Parts
no_parts = record { trees = []; aggregates = [] }

-- the grouping columns are the first parts
abbrev pub first_parts : List BoundExpr → Parts
first_parts trees = record { trees = trees; aggregates = [] }

-- a value, and the parts of the group so far
pub record Beside (A : Type 0) : Type 0 where
  pub value : A
  pub parts : Parts

-- what leaves the parts as they are
abbrev pub keeping : {A : Type 0} → Parts → Noted A → Noted (Beside A)
keeping parts = as_value (λ a. record { value = a; parts = parts })

-- what stands outside of groups leaves no parts
abbrev pub alone : {A : Type 0} → Noted (Beside A) → Noted A
alone = as_value (λ b. b.value)

-- ---- expressions without operands

-- a bound expression of a kind, at a token, without a fault inside
abbrev pub with_kind : Kind → Anchor → BoundExpr → Typed
with_kind kind at tree = record { head = head_of kind at; tree = tree }

-- the expression with whether no fault is inside; it is of kind Null where one is
abbrev pub settle : Bool → Typed → Typed
settle free t = record { head = settled free t.head; tree = t.tree }

-- a literal, of its own kind
abbrev pub literal : Anchor → Literal → Typed
literal at l = with_kind (kind_of_literal l) at (bound.Literal (value_of l))

-- what a name stands for as an expression; where it stands for no one column it is NULL, with the
-- fault that says why
abbrev pub named : Anchor → Referent → Noted Typed
named at (Column level place kind) = give (with_kind kind at (bound.Column level place))
named at (Guessed level item) = give (with_kind Null at missing)
named at (Variable place kind) = give (with_kind kind at (bound.Variable place))
named at Barred = fault_if true NotPermitted at >> give (with_kind Null at missing)
named at Several = fault_if true DuplicateName at >> give (with_kind Null at missing)
named at Unknown = fault_if true UnknownName at >> give (with_kind Null at missing)

-- ---- operands

-- no operand
abbrev pub no_operands : Operands
no_operands = record { heads = []; trees = [] }

-- one operand more, left of the others
abbrev pub in_front : Typed → Operands → Operands
in_front t so = record { heads = t.head ∷ so.heads; trees = t.tree ∷ so.trees }

-- one operand more, right of the others
abbrev pub with_last : Operands → Typed → Operands
with_last so t = record { heads = so.heads ++ t.head ∷ []; trees = so.trees ++ t.tree ∷ [] }

-- a word over its operands
abbrev pub operated_typed : Anchor → Operation → Operands → Typed
operated_typed at operation so = with_kind (given operation so.heads) at
    (tree_of operation so.trees)

-- what a word asks of its operands
abbrev pub asked_of : Operation → Operands → List Fault
asked_of operation so = asked operation so.heads

-- a chain, by its operators and their places, over its first operand and the others
abbrev pub chained_typed : List ChainOperator → List Anchor → Typed → Operands → Typed
chained_typed operators places first so =
    with_kind (kind_of_chain first.head.kind operators) (chain_place first.head.at places)
    (chain_of first.tree operators so.trees)

-- what the operators of a chain ask of their operands, from left to right
abbrev pub asked_by_chain : List ChainOperator → List Anchor → Typed → Operands → List Fault
asked_by_chain operators places first so = links_faults (chain_place first.head.at places)
    first.head operators so.heads

-- ---- aggregates

-- An aggregate becomes a column of its group's row: it stands where its argument does among the
-- parts.
abbrev pub aggregate_typed : Anchor → FoldKind → Parts → Operands → Typed
aggregate_typed at kind parts so = with_kind (aggregate_given kind so.heads) at
    (bound.Column 0 (length parts.trees))

-- each has one argument, but COUNT(*), which has none
abbrev pub takes_arguments : FoldKind → ℕ → Bool
takes_arguments Count n = nat_le n 1
takes_arguments _ n = n == 1

-- what an aggregate asks of its argument, and how many arguments it takes
abbrev pub aggregate_faults : Anchor → FoldKind → List OperandHead → List Fault
aggregate_faults at kind hs = aggregate_asked kind hs ++ fault_if
    (not (takes_arguments kind (length hs))) WrongCount at

-- one part more
abbrev pub with_aggregate : FoldKind → Parts → Operands → Parts
with_aggregate kind parts so = record {
  trees = parts.trees ++ argument_of so.trees ∷ [];
  aggregates = parts.aggregates ++ kind ∷ [];
}

-- ---- calls

-- each argument is of its parameter's kind
abbrev pub argument_faults : Option FunctionHead → List OperandHead → List Fault
argument_faults None hs = []
argument_faults (Some f) hs = in_turn (map kind_of_type f.parameters) hs

-- a call over its arguments, of the kind that its function returns; of no function nothing is known
abbrev pub call_typed : Ident → Option FunctionHead → Operands → Typed
call_typed i None so = with_kind Null i.anchor missing
call_typed i (Some f) so = with_kind (kind_of_type f.returns) i.anchor (bound.Call i.name so.trees)
