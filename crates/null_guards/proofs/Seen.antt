-- The bound CASE: which plain tree it stands for, whether it has a plan, and what it uses.
use Rattle.std.proofs.Common.{◌≡◌, refl, ap, ap₂, ◌∙◌, ℕ, zero, suc, Bool, true, false, ◌&&◌}
use Rattle.std.proofs.Common.{[], ◌∷◌, ◌++◌, map}
use Rattle.sql_values.specs.declared.value.Value.TheVariants.{Null}
use Rattle.bound_trees.specs.declared.expr.BoundExpr.TheVariants as bound
use Rattle.bound_trees.specs.declared.expr.BoundOperation.TheVariants as word
use Rattle.rel_algebra.specs.Tree.{Expr, Or, Case}
use Rattle.rel_algebra.specs.Tree.{NoExpr, MoreExprs}
use Rattle.rel_algebra.specs.Plain.{planned_expr, planned_all}
use Rattle.catalog_store.specs.Catalog.{Catalog}
use Rattle.catalog_store.specs.Uses.{Uses, joined, uses_in}
use Rattle.catalog_store.specs.View.{exprs_of, operated, tree_of}
use Rattle.catalog_store.proofs.Laws.{tree_of-Literal, tree_of-Variable, tree_of-Operation}
use Rattle.catalog_store.proofs.Laws.{uses_in-Literal, uses_in-Variable, uses_in-Operation}
use Rattle.null_guards.specs.Guards.{null_test, null_tests, null_test_tree}
use Rattle.null_guards.specs.Guards.{null_test_trees}
use Rattle.null_guards.specs.Laws.{GuardsAreSeen, GuardsArePlanned, GuardsUseNothing}

-- ---- which tree it stands for

module _ (known : Catalog) where
  test-seen : (place : ℕ) → tree_of known (null_test place) ≡ null_test_tree place
  test-seen place =
      tree_of-Operation known word.NullTest (bound.Variable place ∷ [])
      ∙ ap (λ (e : Expr). operated word.NullTest (e ∷ [])) (tree_of-Variable known place)

  tests-seen : (place n : ℕ) → exprs_of known (null_tests place n) ≡ null_test_trees place n
  tests-seen place zero = refl
  tests-seen place (suc n) = ap₂ MoreExprs (test-seen place) (tests-seen (suc place) n)

  any-seen : (n : ℕ) → tree_of known (bound.Operation word.Or (null_tests 0 n)) ≡ Or
      (null_test_trees 0 n)
  any-seen n = tree_of-Operation known word.Or (null_tests 0 n) ∙ ap Or (tests-seen 0 n)

pub guards_are_seen : GuardsAreSeen
guards_are_seen known zero e = refl
guards_are_seen known (suc n) e =
    let any = bound.Operation word.Or (null_tests 0 (suc n)) in
    tree_of-Operation known word.Case (any ∷ bound.Literal Null ∷ e ∷ [])
    ∙ ap₂ (λ (test null : Expr). Case (MoreExprs test (MoreExprs null
    (MoreExprs (tree_of known e) NoExpr)))) (any-seen known (suc n)) (tree_of-Literal known Null)

-- ---- whether it has a plan

tests-planned : (place n : ℕ) → planned_all (null_test_trees place n) ≡ true
tests-planned place zero = refl
tests-planned place (suc n) = tests-planned (suc place) n

and-true : (b : Bool) → (b && true) ≡ b
and-true true = refl
and-true false = refl

pub guards_are_planned : GuardsArePlanned
guards_are_planned zero e = refl
guards_are_planned (suc n) e = ap (λ b. b && (planned_expr e && true)) (tests-planned 0 (suc n)) ∙
    and-true (planned_expr e)

-- ---- what it uses

test-uses : (place : ℕ) → uses_in (null_test place) ≡ []
test-uses place = uses_in-Operation word.NullTest (bound.Variable place ∷ []) ∙
    ap (λ (us : Uses). us ++ []) (uses_in-Variable place)

tests-use : (place n : ℕ) → joined (map uses_in (null_tests place n)) ≡ []
tests-use place zero = refl
tests-use place (suc n) = ap₂ (λ (us vs : Uses). us ++ vs) (test-uses place)
    (tests-use (suc place) n)

any-uses : (n : ℕ) → uses_in (bound.Operation word.Or (null_tests 0 n)) ≡ []
any-uses n = uses_in-Operation word.Or (null_tests 0 n) ∙ tests-use 0 n

append-none : (us : Uses) → us ++ [] ≡ us
append-none [] = refl
append-none (u ∷ us) = ap (λ (vs : Uses). u ∷ vs) (append-none us)

pub guards_use_nothing : GuardsUseNothing
guards_use_nothing zero e = refl
guards_use_nothing (suc n) e =
    let any = bound.Operation word.Or (null_tests 0 (suc n)) in
    uses_in-Operation word.Case (any ∷ bound.Literal Null ∷ e ∷ [])
    ∙ ap₂ (λ (us vs : Uses). us ++ (vs ++ (uses_in e ++ []))) (any-uses (suc n))
    (uses_in-Literal Null) ∙ append-none (uses_in e)
