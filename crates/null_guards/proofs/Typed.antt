-- The kind of the CASE is that of the expression in it.
use Rattle.std.proofs.Common.{◌≡◌, ◌≤◌, ◌<◌, ◌+◌, refl, sym, ap, ap₂, ◌∙◌, arith, ℕ, zero, suc}
use Rattle.std.proofs.Common.{true, List, [], ◌∷◌, map, length, Option, Some, None}
use Rattle.sql_values.specs.declared.value.Value.TheVariants as value
use Rattle.bound_trees.specs.declared.expr.BoundExpr.{BoundExpr, roll-BoundExpr}
use Rattle.bound_trees.specs.declared.expr.BoundExpr.TheVariants as bound
use Rattle.bound_trees.specs.declared.expr.BoundExpr.TheVariants.{rolls-Literal, rolls-Variable}
use Rattle.bound_trees.specs.declared.expr.BoundExpr.TheVariants.{rolls-Operation}
use Rattle.bound_trees.specs.declared.expr.BoundExpr.TheOpen.{BoundExpr-F}
use Rattle.bound_trees.specs.declared.expr.BoundExpr.TheFolds.{map-BoundExpr, fold-roll-BoundExpr}
use Rattle.bound_trees.specs.declared.expr.BoundLink.{BoundLink}
use Rattle.bound_trees.specs.declared.expr.BoundOperation.{BoundOperation}
use Rattle.bound_trees.specs.declared.expr.BoundOperation.TheVariants as word
use Rattle.bound_trees.specs.declared.query.BoundFromItem.{BoundFromItem}
use Rattle.bound_trees.specs.declared.query.BoundGrouping.{BoundGrouping}
use Rattle.bound_trees.specs.declared.query.BoundQuery.{BoundQuery}
use Rattle.bound_trees.specs.declared.query.BoundRow.{BoundRow}
use Rattle.bound_trees.specs.declared.query.BoundSelect.{BoundSelect}
use Rattle.bound_trees.specs.declared.query.BoundSource.{BoundSource}
use Rattle.bind_kinds.specs.declared.kind.Kind.{Kind}
use Rattle.bind_kinds.specs.declared.kind.Kind.TheVariants.{Boolean, Null}
use Rattle.typing_trees.specs.Around.{Around, Slot, then, only_if, kind_of_slot, kind_in_slot}
use Rattle.typing_trees.specs.Kinds.{all_fit, allows, gives}
use Rattle.typing_trees.specs.Queries.{ExprKind, QueryKinds, FromKinds, LinkKind, GroupKinds}
use Rattle.typing_trees.specs.Queries.{kinds_of, expr_kind, item_kinds, query_kinds, row_exprs}
use Rattle.typing_trees.specs.Queries.{source_kinds, link_kind, group_kinds, select_kinds, kind_of}
use Rattle.typing_trees.specs.Queries.{kinds_of_item, kinds_of_query, exprs_of_row}
use Rattle.typing_trees.specs.Queries.{kinds_of_source, kind_of_link, kinds_of_grouping}
use Rattle.typing_trees.specs.Queries.{kinds_of_select}
use Rattle.null_guards.specs.Guards.{null_test, null_tests}
use Rattle.null_guards.specs.Laws.{GuardsKeepKinds}

-- ---- one layer

abbrev Layer : Type 0
Layer = BoundExpr-F BoundExpr BoundFromItem BoundQuery BoundRow BoundSource BoundLink BoundGrouping
    BoundSelect

kind_of-at : (x : Layer) → kind_of (roll-BoundExpr x) ≡ expr_kind
    (map-BoundExpr BoundExpr BoundFromItem BoundQuery BoundRow BoundSource BoundLink BoundGrouping
    BoundSelect ExprKind FromKinds QueryKinds (List ExprKind) QueryKinds LinkKind GroupKinds
    QueryKinds kind_of kinds_of_item kinds_of_query exprs_of_row kinds_of_source kind_of_link
    kinds_of_grouping kinds_of_select x)
kind_of-at x = fold-roll-BoundExpr ExprKind FromKinds QueryKinds (List ExprKind) QueryKinds LinkKind
    GroupKinds QueryKinds expr_kind item_kinds query_kinds row_exprs source_kinds link_kind
    group_kinds select_kinds x

module _ (a : Around) where
  null-kind : kind_of (bound.Literal value.Null) a ≡ Some Null
  null-kind = ap (λ (f : ExprKind). f a) (ap kind_of (sym (rolls-Literal value.Null)) ∙
      kind_of-at (BoundExpr-F.Literal value.Null))

  variable-kind : (slot : ℕ) → kind_of (bound.Variable slot) a ≡ kind_in_slot a.slots slot
  variable-kind slot = ap (λ (f : ExprKind). f a) (ap kind_of (sym (rolls-Variable slot)) ∙
      kind_of-at (BoundExpr-F.Variable slot))

  operation-kind : (w : BoundOperation) (es : List BoundExpr) →
      kind_of (bound.Operation w es) a ≡ then (kinds_of a (map kind_of es))
      (λ ks. only_if (allows w ks) (Some (gives w ks)))
  operation-kind w es = ap (λ (f : ExprKind). f a) (ap kind_of (sym (rolls-Operation w es)) ∙
      kind_of-at (BoundExpr-F.Operation w es))

  -- ---- the tests

  held : (slots : List Slot) (place : ℕ) → place < length slots →
      (k : Kind) × (kind_in_slot slots place ≡ Some k)
  held [] place h = absurd (omega (arith, h))
  held (s ∷ slots) zero h = (kind_of_slot s, refl)
  held (s ∷ slots) (suc place) h = held slots place (omega (arith, h))

  test-kind : (place : ℕ) → place < length a.slots → kind_of (null_test place) a ≡ Some Boolean
  test-kind place h =
      let k = held a.slots place h in
      operation-kind word.NullTest (bound.Variable place ∷ [])
      ∙ ap (λ (o : Option Kind). then (then o (λ k. Some (k ∷ []))) (λ ks.
      only_if (allows word.NullTest ks) (Some (gives word.NullTest ks))))
      (variable-kind place ∙ k.1)

  -- so many truth values
  abbrev truths : ℕ → List Kind
  truths zero = []
  truths (suc n) = Boolean ∷ truths n

  all-truths : (n : ℕ) → all_fit Boolean (truths n) ≡ true
  all-truths zero = refl
  all-truths (suc n) = all-truths n

  tests-kinds : (place n : ℕ) → place + n ≤ length a.slots →
      kinds_of a (map kind_of (null_tests place n)) ≡ Some (truths n)
  tests-kinds place zero h = refl
  tests-kinds place (suc n) h =
      ap₂ (λ (o : Option Kind) (os : Option (List Kind)). then o (λ k. then os
      (λ ks. Some (k ∷ ks)))) (test-kind place (omega (arith, h)))
      (tests-kinds (suc place) n (omega (arith, h)))

  any-kind : (n : ℕ) → n ≤ length a.slots →
      kind_of (bound.Operation word.Or (null_tests 0 n)) a ≡ Some Boolean
  any-kind n h =
      operation-kind word.Or (null_tests 0 n)
      ∙ ap (λ (o : Option (List Kind)). then o (λ ks. only_if (all_fit Boolean ks) (Some Boolean)))
      (tests-kinds 0 n (omega (arith, h)))
      ∙ ap (λ b. only_if b (Some Boolean)) (all-truths n)

  -- ---- the CASE

  abbrev case_kind : Option Kind → Option Kind → Option Kind → Option Kind
  case_kind test null last = then (then test (λ j. then (then null (λ k. then (then last
      (λ l. Some (l ∷ []))) (λ ks. Some (k ∷ ks)))) (λ ks. Some (j ∷ ks))))
      (λ ks. only_if (allows word.Case ks) (Some (gives word.Case ks)))

  last-kind : (o : Option Kind) → case_kind (Some Boolean) (Some Null) o ≡ o
  last-kind None = refl
  last-kind (Some k) = refl

pub guards_keep_kinds : GuardsKeepKinds
guards_keep_kinds zero e a h = refl
guards_keep_kinds (suc n) e a h =
    let any = bound.Operation word.Or (null_tests 0 (suc n)) in
    operation-kind a word.Case (any ∷ bound.Literal value.Null ∷ e ∷ [])
    ∙ ap₂ (λ (o p : Option Kind). case_kind a o p (kind_of e a)) (any-kind a (suc n) h)
    (null-kind a)
    ∙ last-kind a (kind_of e a)
