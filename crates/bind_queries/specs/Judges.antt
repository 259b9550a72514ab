-- What judges of expressions, lists and queries make of those of their parts. A judge is a function
-- of the sight; one of an expression also of the parts of the group so far. ISO/IEC 9075-2, 6.6
-- (identifier chain), 6.26 (value expression), 7.19 (subquery), 10.4 (routine invocation) and 10.9
-- (aggregate function).
use Rattle.std.specs.Prelude.{ℕ, Bool, not, List, [], ◌∷◌, ◌++◌, map, length, Option, None}
use Rattle.std.specs.List.{list_any}
use Rattle.sql_values.specs.declared.fold.FoldKind.{FoldKind}
use Rattle.syntax_trees.specs.declared.anchor.Anchor.{Anchor}
use Rattle.syntax_trees.specs.declared.anchor.ColumnName.{ColumnName}
use Rattle.syntax_trees.specs.declared.anchor.Ident.{Ident}
use Rattle.syntax_trees.specs.Columns.{anchor_of_column}
use Rattle.syntax_trees.specs.declared.expr.ChainOperator.{ChainOperator}
use Rattle.syntax_trees.specs.declared.expr.Literal.{Literal}
use Rattle.syntax_trees.specs.declared.expr.Operation.{Operation}
use Rattle.catalog_store.specs.declared.entry.FunctionHead.{FunctionHead}
use Rattle.bind_faults.specs.declared.fault.Fault.{Fault}
use Rattle.bind_faults.specs.declared.fault.FaultKind.TheVariants.{NotPermitted}
use Rattle.bind_faults.specs.Faults.{Noted, give, after, as_value, ◌>>=◌, fault_if, is_faultless}
use Rattle.bind_kinds.specs.declared.kind.Kind.{Kind}
use Rattle.bind_sight.specs.Sight.{Seen, stands_for, may_stand, inside_aggregate}
use Rattle.bind_parts.specs.declared.aggregates.Parts.{Parts}
use Rattle.bind_parts.specs.declared.from.Opened.{Opened}
use Rattle.bind_parts.specs.declared.list.Outputs.{Outputs}
use Rattle.bind_parts.specs.declared.typed.Typed.{Typed}
use Rattle.bind_parts.specs.declared.typed.Operands.{Operands}
use Rattle.bind_parts.specs.declared.typed.TypedSource.{TypedSource}
use Rattle.bind_parts.specs.declared.typed.TypedQuery.{TypedQuery}
use Rattle.bind_parts.specs.Typed.{Beside, keeping, no_parts, settle, literal, named, no_operands}
use Rattle.bind_parts.specs.Typed.{in_front, operated_typed, asked_of, chained_typed}
use Rattle.bind_parts.specs.Typed.{asked_by_chain, aggregate_typed, aggregate_faults}
use Rattle.bind_parts.specs.Typed.{with_aggregate, function_in_sight, call_head, argument_faults}
use Rattle.bind_parts.specs.Typed.{call_typed}
use Rattle.bind_parts.specs.Subqueries.{single, exists, member, width_faults, member_faults}

-- ---- judges

-- how an expression is judged, after the parts so far
abbrev pub Judge : Type 0
Judge = Seen → Parts → Noted (Beside Typed)

-- an expression: the name that it has by itself, whether an aggregate stands directly in it, and
-- how it is judged
pub record Expression : Type 0 where
  pub name : Option (List ℕ)
  pub aggregates : Bool
  pub judge : Judge

-- an operator where it stands, and what stands right of it
pub record JudgedLink : Type 0 where
  pub operator : ChainOperator
  pub anchor : Anchor
  pub operand : Expression

-- an item of a select list: whether an aggregate stands directly in it, and how it is judged after
-- the output columns before it
pub record JudgedItem : Type 0 where
  pub aggregates : Bool
  pub judge : Seen → Outputs → Noted Outputs

-- how a query is judged whose columns are stored into what is of these kinds
abbrev pub QueryJudge : Type 0
QueryJudge = List Kind → Seen → Noted TypedQuery

-- how an item of FROM is judged after those before it
abbrev pub FromJudge : Type 0
FromJudge = Seen → Opened → Noted Opened

-- how a table or a derived table in FROM is judged, by what is in sight outside of FROM
abbrev pub RefJudge : Type 0
RefJudge = Seen → Noted TypedSource

-- a row of VALUES is judged by its expressions
abbrev pub JudgedRow : Type 0
JudgedRow = List Expression

-- an expression with a fault inside is of kind Null, so that it makes no second fault above it
abbrev pub looked : Noted (Beside Typed) → Noted (Beside Typed)
looked x = record {
  value = record { value = settle (is_faultless x.faults) x.value.value; parts = x.value.parts };
  faults = x.faults;
  uses = x.uses;
}

-- the judge of an expression, with whether a fault is inside
abbrev pub look : Judge → Judge
look j seen parts = looked (j seen parts)

-- ---- operands

-- one operand more, left of the others
abbrev pub in_front_of : Typed → Beside Operands → Beside Operands
in_front_of t so = record { value = in_front t so.value; parts = so.parts }

-- several, from left to right
abbrev pub all_of : Seen → Parts → List Expression → Noted (Beside Operands)
all_of seen parts [] = give (record { value = no_operands; parts = parts })
all_of seen parts (e ∷ es) = look e.judge seen parts >>= λ t. as_value (in_front_of t.value)
    (all_of seen t.parts es)

-- what is made of operands, and asked of them
abbrev pub made : (Operands → Typed) → (Operands → List Fault) → Noted (Beside Operands) →
    Noted (Beside Typed)
made value faults so = record {
  value = record { value = value so.value.value; parts = so.value.parts };
  faults = so.faults ++ faults so.value.value;
  uses = so.uses;
}

-- a word over its operands
abbrev pub operated : Anchor → Operation → Noted (Beside Operands) → Noted (Beside Typed)
operated at operation = made (operated_typed at operation) (asked_of operation)

-- a chain, by its operators and their places, over its first operand and the others
abbrev pub over_first : List ChainOperator → List Anchor → (Parts → Noted (Beside Operands)) →
    Beside Typed → Noted (Beside Typed)
over_first operators places others t = made (chained_typed operators places t.value)
    (asked_by_chain operators places t.value) (others t.parts)

-- a chain, whose other operands are judged after the first, with the parts that it left
abbrev pub chained : List ChainOperator → List Anchor → Noted (Beside Typed) →
    (Parts → Noted (Beside Operands)) → Noted (Beside Typed)
chained operators places first others = first >>= over_first operators places others

-- ---- aggregates

-- it may stand there or not
abbrev pub aggregated : Anchor → FoldKind → Bool → Parts → Noted (Beside Operands) →
    Noted (Beside Typed)
aggregated at kind may parts so = record {
  value = record {
    value = aggregate_typed at kind parts so.value.value;
    parts =
        with_aggregate kind parts so.value.value;
  };
  faults = fault_if (not may) NotPermitted at ++
      (so.faults ++ aggregate_faults at kind so.value.value.heads);
  uses = so.uses;
}

-- its argument is over FROM's row, and no aggregate stands in it
abbrev pub aggregate_in : Anchor → FoldKind → Seen → Parts → List Expression → Noted (Beside Typed)
aggregate_in at kind seen parts es = aggregated at kind (may_stand seen.levels) parts
    (all_of (inside_aggregate seen) no_parts es)

-- ---- calls

-- what stands in the arguments is judged in any case
abbrev pub called : Bool → Ident → ℕ → Option FunctionHead → Noted (Beside Operands) →
    Noted (Beside Typed)
called writing i arguments f so = after (call_head writing i arguments f)
    (made (call_typed i f) (λ o. argument_faults f o.heads) so)

-- ---- subqueries

-- what is made of a query, and asked of it; the parts of the group stay as they are
abbrev pub over_query : (TypedQuery → Typed) → (TypedQuery → List Fault) → Parts →
    Noted TypedQuery → Noted (Beside Typed)
over_query value faults parts q = record {
  value = record { value = value q.value; parts = parts };
  faults = q.faults ++ faults q.value;
  uses = q.uses;
}

-- EXISTS of a query; the parts of the group stay as they are
abbrev pub exists_in : Anchor → Parts → Noted TypedQuery → Noted (Beside Typed)
exists_in at parts q = as_value (λ t. record { value = exists at t; parts = parts }) q

-- IN of a query or NOT IN, after its left side
abbrev pub member_in : Anchor → Bool → Noted TypedQuery → Beside Typed → Noted (Beside Typed)
member_in at negated q left = over_query (member at negated left.value) (member_faults left.value)
    left.parts q

-- ---- each form of expression

-- whether an aggregate stands directly in one of these expressions
abbrev pub any_aggregate : List Expression → Bool
any_aggregate es = list_any (λ e. e.aggregates) es

-- whether an aggregate stands directly right of one of these operators
abbrev pub any_in_links : List JudgedLink → Bool
any_in_links ls = list_any (λ l. l.operand.aggregates) ls

-- the operators of a chain
abbrev pub operators : List JudgedLink → List ChainOperator
operators ls = map (λ l. l.operator) ls

-- the tokens of a chain's operators
abbrev pub places : List JudgedLink → List Anchor
places ls = map (λ l. l.anchor) ls

-- the operands of a chain after its first
abbrev pub operands : List JudgedLink → List Expression
operands ls = map (λ l. l.operand) ls

-- a literal asks nothing
abbrev pub judge_literal : Anchor → Literal → Judge
judge_literal at l seen parts = keeping parts (give (literal at l))

-- a column, a variable or a parameter is what its name stands for
abbrev pub judge_name : ColumnName → Judge
judge_name c seen parts = keeping parts (named (anchor_of_column c) (stands_for c seen))

-- a call, of the function in sight that has its name
abbrev pub judge_call : Ident → List Expression → Judge
judge_call i args seen parts = called seen.writing i (length args) (function_in_sight i.name seen)
    (all_of seen parts args)

-- a word over operands
abbrev pub judge_operation : Anchor → Operation → List Expression → Judge
judge_operation at operation es seen parts = operated at operation (all_of seen parts es)

-- an aggregate, where the innermost query allows one
abbrev pub judge_aggregate : Anchor → FoldKind → List Expression → Judge
judge_aggregate at kind args seen parts = aggregate_in at kind seen parts args

-- a chain of operators, from left to right
abbrev pub judge_chain : Expression → List JudgedLink → Judge
judge_chain first links seen parts =
    chained (operators links) (places links) (look first.judge seen parts)
    (λ more. all_of seen more (operands links))

-- a scalar subquery, of one column
abbrev pub judge_single : QueryJudge → Judge
judge_single query seen parts = over_query single width_faults parts (query [] seen)

-- EXISTS of a subquery, which may have any number of columns
abbrev pub judge_exists : Anchor → QueryJudge → Judge
judge_exists at query seen parts = exists_in at parts (query [] seen)

-- IN of a subquery or NOT IN, the left side first
abbrev pub judge_member : Anchor → Bool → Expression → QueryJudge → Judge
judge_member at negated left query seen parts =
    look left.judge seen parts >>= member_in at negated (query [] seen)

-- an expression that has no name by itself
abbrev pub unnamed : Bool → Judge → Expression
unnamed aggregates judge = record { name = None; aggregates = aggregates; judge = judge }
