use Rattle.std.proofs.Common.{◌≡◌, refl, sym, ap, ◌∙◌, ℕ, pos, true, false, ◌&&◌, List, [], ◌∷◌}
use Rattle.std.proofs.Common.{◌++◌, Some, codes}
use Rattle.sql_values.specs.declared.value.SqlType.TheVariants as type
use Rattle.sql_values.specs.declared.value.Value.{Value}
use Rattle.sql_values.specs.declared.value.Value.TheVariants as value
use Rattle.bound_trees.specs.declared.expr.BoundExpr.TheFolds.{fold-roll-BoundExpr}
use Rattle.bound_trees.specs.declared.expr.BoundExpr.TheOpen.{BoundExpr-F}
use Rattle.bound_trees.specs.declared.expr.BoundExpr.TheVariants as bound
use Rattle.bound_trees.specs.declared.expr.BoundExpr.TheVariants.{rolls-Literal, rolls-Variable}
use Rattle.bound_trees.specs.declared.statement.BoundStmt.TheOpen.{BoundBlock-F}
use Rattle.bind_kinds.specs.declared.kind.Kind.TheVariants.{Integer, Text}
use Rattle.typing_trees.specs.Kinds.{kind_of_value}
use Rattle.typing_trees.specs.Around.{Around, stored, only_if, kind_in_slot}
use Rattle.typing_trees.specs.Examples.{here, inside, one, letter, target, variable}
use Rattle.typing_trees.specs.Queries.{ExprKind, QueryKinds, FromKinds, LinkKind, GroupKinds}
use Rattle.typing_trees.specs.Queries.{expr_kind, item_kinds, query_kinds, row_exprs, source_kinds}
use Rattle.typing_trees.specs.Queries.{link_kind, group_kinds, select_kinds, kind_of}
use Rattle.typing_trees.specs.Statements.{Typed, TypedBranch, TypedHandler, holds, is_of}
use Rattle.typing_trees.specs.Statements.{takes_value, in_block, after_variables}
use Rattle.typing_trees.proofs.law.statements_are_typed.Goals as goal

literal-kind : (v : Value) (a : Around) → kind_of (bound.Literal v) a ≡ Some (kind_of_value v)
literal-kind v a =
    ap (λ e. kind_of e a) (sym (rolls-Literal v))
    ∙ ap (λ (k : ExprKind). k a) (fold-roll-BoundExpr ExprKind FromKinds QueryKinds
    (List ExprKind) QueryKinds LinkKind GroupKinds QueryKinds expr_kind item_kinds query_kinds
    row_exprs source_kinds link_kind group_kinds select_kinds (BoundExpr-F.Literal v))

variable-kind : (slot : ℕ) (a : Around) → kind_of (bound.Variable slot) a ≡
    kind_in_slot a.slots slot
variable-kind slot a =
    ap (λ e. kind_of e a) (sym (rolls-Variable slot))
    ∙ ap (λ (k : ExprKind). k a) (fold-roll-BoundExpr ExprKind FromKinds QueryKinds
    (List ExprKind) QueryKinds LinkKind GroupKinds QueryKinds expr_kind item_kinds query_kinds
    row_exprs source_kinds link_kind group_kinds select_kinds (BoundExpr-F.Variable slot))

number : kind_of one here ≡ Some Integer
number = literal-kind (value.Int (pos 1)) here

text : kind_of letter here ≡ Some Text
text = literal-kind (value.Str (codes "a")) here

-- with one variable, whose default is a slot
abbrev block : ℕ → BoundBlock-F Typed Typed TypedBranch TypedHandler
block slot = record {
  atomic = false;
  variables = variable 3 (bound.Variable slot) ∷ [];
  first_cursor = 1;
  cursors = [];
  handlers = [];
  statements = [];
}

pub returns : goal.returns
returns c = record {
  set_number = λ i. takes_value here.slots (target 0 type.Integer) (number i);
  set_text = λ i. takes_value here.slots (target 0 type.Integer) (text i);
  set_shorter = refl;
  set_column = refl;
  left = refl;
  left_too_far = refl;
  iterated = refl;
  iterated_compound = refl;
  left_declaring = refl;
  left_in_action = refl;
  left_around = refl;
  undone = refl;
  undone_atomic = λ i. (takes_value here.slots (target 0 type.Integer) (number i) && true) && true;
  fetched = refl;
  fetched_into_one = refl;
  no_cursor = refl;
  returned = λ i. is_of Integer (number i);
  returned_text = λ i. is_of Integer (text i);
  returned_elsewhere = refl;
  called = λ i. is_of Integer (number i) && true;
  value_for_out = λ i. is_of Integer (number i) && false;
  text_for_out = λ i. is_of Integer (number i) && false;
  given = λ i. is_of Integer (number i) && true;
  default = λ i. holds (only_if (is_of Integer (variable-kind 0 here i))
      (Some (here.slots ++ stored type.Integer ∷ [])))
      (after_variables (block 0) (in_block inside));
  default_itself = λ i. holds (only_if (is_of Integer (variable-kind 3 here i))
      (Some (here.slots ++ stored type.Integer ∷ [])))
      (after_variables (block 3) (in_block inside));
  slot_left_out = refl;
  if_number = refl;
  signalled_number = λ i. is_of Text (number i);
  read_into_text = refl;
}
