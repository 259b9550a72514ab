-- Which queries are folded, and their aggregates.
use Rattle.std.proofs.Common.{ℕ, zero, suc, IsTrue, ◌<◌, ◌≤◌, ◌≡◌, ◌∷◌, [], List, Bool, true, false}
use Rattle.std.proofs.Common.{length, refl, ap, arith}
use Rattle.bound_trees.specs.declared.expr.BoundExpr.{BoundExpr}
use Rattle.rel_algebra.specs.Tree.{Aggregate}
use Rattle.rel_algebra.specs.Joins.{numbered}
use Rattle.plan_drafts.specs.Folding.{is_fold}

pub numbered-long : (i : ℕ) (ags : List Aggregate) → length (numbered i ags) ≡ length ags
numbered-long i [] = refl
numbered-long i (a ∷ ags) = ap suc (numbered-long (suc i) ags)

-- ---- whether a query is folded

pub keyed : (keys : ℕ) (ags : List Aggregate) (having : List BoundExpr) → 0 < keys →
    false ≡ is_fold keys ags having
keyed zero ags having h = absurd (omega (arith, h))
keyed (suc n) ags having h = refl

pub without_aggregates : (keys : ℕ) (ags : List Aggregate) (having : List BoundExpr) → ags ≡ [] →
    false ≡ is_fold keys ags having
without_aggregates zero [] having h = refl
without_aggregates (suc n) [] having h = refl
without_aggregates keys (a ∷ ags) having h = absurd (let never = h in cc)

pub by_having : (keys : ℕ) (ags : List Aggregate) (having : List BoundExpr) (b : Bool) → keys ≤ 0 →
    ¬ (ags ≡ []) → (IsTrue b → having ≡ []) → (having ≡ [] → IsTrue b) → b ≡ is_fold keys ags having
by_having zero [] having b k some f g = absurd (some refl)
by_having zero (a ∷ ags) [] true k some f g = refl
by_having zero (a ∷ ags) [] false k some f g = absurd (let never = g refl in cc)
by_having zero (a ∷ ags) (x ∷ having) true k some f g = absurd (let never = f refl in cc)
by_having zero (a ∷ ags) (x ∷ having) false k some f g = refl
by_having (suc n) ags having b k some f g = absurd (omega (arith, k))
