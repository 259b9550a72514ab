-- The checks of a call's arguments.
use Rattle.std.proofs.Common.{ℕ, ◌≡◌, ◌<◌, ◌≤◌, ◌+◌, ◌||◌, suc, ◌∷◌, [], List, Bool, true, false}
use Rattle.std.proofs.Common.{length, drop, get_or, refl, sym, ap, ◌∙◌, arith}
use Rattle.std.proofs.lemmas.List.{drop_all}
use Rattle.bound_trees.specs.declared.expr.BoundExpr.{BoundExpr}
use Rattle.catalog_store.specs.Catalog.{Catalog}
use Rattle.catalog_store.specs.View.{tree_of, exprs_of}
use Rattle.rel_algebra.specs.declared.scalar.Scalar.{Scalar as ScalarCode}
use Rattle.sql_values.specs.declared.value.SqlType.{SqlType}
use Rattle.rel_algebra.specs.Tree.{Expr, Exprs, MoreExprs}
use Rattle.rel_algebra.specs.Plan.{case_word, and_word, word, Scalar, Scalars, none, more}
use Rattle.rel_algebra.specs.PlanView.{scalars_of}
use Rattle.rel_algebra.specs.Emit.{checks, raising, may_refuse, computed, place_if, if_values}
use Rattle.plan_expressions.specs.Emission.{guarded, check_if, put}
use Rattle.plan_expressions.proofs.Lists.{rest, drop-next, put-none}

checks-if : (b : Bool) (m : ℕ) (is : List ℕ) → checks (place_if b m is) ≡ check_if b m (checks is)
checks-if true m is = refl
checks-if false m is = refl

pub checks-first : (e : Expr) (es : Exprs) (types : List SqlType) (m : ℕ) →
    checks (raising (MoreExprs e es) types m) ≡ check_if (may_refuse types || computed e) m
    (checks (raising es (drop 1 types) (suc m)))
checks-first e es types m = checks-if (may_refuse types || computed e) m
    (raising es (drop 1 types) (suc m))

-- what stands before a place, and the checks of the arguments from there on
pub record Checking (known : Catalog) (es : List BoundExpr) (types : List SqlType) (first i : ℕ)
    (front : List ScalarCode) : Type 0 where
  pub same : put front (checks (raising (exprs_of known (drop i es)) (drop i types) (first + i))) ≡
      checks (raising (exprs_of known es) types first)

pub checking_first : (known : Catalog) (es : List BoundExpr) (types : List SqlType) (first : ℕ) →
    Checking known es types first 0 []
checking_first known es types first = record {
  same =
      ap (λ m. checks (raising (exprs_of known es) types m)) (omega arith);
}

pub checking_next : (known : Catalog) (es : List BoundExpr) (types : List SqlType) (first i : ℕ)
    (x : BoundExpr) (refused : Bool) (m : ℕ) (old new : List ScalarCode) →
    i < length es → x ≡ get_or es i x → refused ≡ may_refuse (drop i types) → m ≡ first + i →
    ((k : Catalog) (r : Scalars) → put new r ≡ put old
    (check_if (refused || computed (tree_of k x)) m r)) → Checking known es types first i old →
    Checking known es types first (i + 1) new
checking_next known es types first i x refused m old new h is told at added c =
    let others : List SqlType → ℕ → Scalars =
    λ ts n. checks (raising (exprs_of known (drop (i + 1) es)) ts n) in
    let next : first + (i + 1) ≡ suc m = omega (arith, at) in
    record {
      same =
          added known (others (drop (i + 1) types) (first + (i + 1)))
          ∙ (λ j. put old (check_if (told j || computed (tree_of known x)) m
          (others (sym (drop-next i types) j) (next j))))
          ∙ ap (put old) (sym (checks-first (tree_of known x) (exprs_of known (drop (i + 1) es))
          (drop i types) m))
          ∙ ap (λ n. put old
          (checks (raising (exprs_of known (x ∷ drop (i + 1) es)) (drop i types) n))) at
          ∙ ap (λ (xs : List BoundExpr). put old
          (checks (raising (exprs_of known xs) (drop i types) (first + i))))
          (sym (rest es i x h is))
          ∙ c.same;
    }

pub checking_done : (known : Catalog) (es : List BoundExpr) (types : List SqlType) (first i : ℕ)
    (front : List ScalarCode) → length es ≤ i → Checking known es types first i front →
    scalars_of front ≡ checks (raising (exprs_of known es) types first)
checking_done known es types first i front h c =
    sym (put-none front) ∙ ap (λ (xs : List BoundExpr).
    put front (checks (raising (exprs_of known xs) (drop i types) (first + i))))
    (sym (drop_all i es h)) ∙ c.same

pub guarded-some : (ss : List ScalarCode) (s : Scalar) → ¬ (ss ≡ []) →
    guarded (scalars_of ss) s ≡ word case_word (more (word and_word (scalars_of ss)) (more s none))
guarded-some [] s h = absurd (h refl)
guarded-some (x ∷ ss) s h = refl

pub guarded-values : (is : List ℕ) (s : Scalar) → guarded (checks is) s ≡ if_values is s
guarded-values [] s = refl
guarded-values (i ∷ is) s = refl
