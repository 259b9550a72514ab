-- A call that is met adds as many places as the uses of its expression say.
use Rattle.std.proofs.Common.{◌≡◌, ℕ, List, length, map, sym, ap, ◌∙◌}
use Rattle.std.proofs.lemmas.List.{length-map}
use Rattle.bound_trees.specs.declared.expr.BoundExpr.{BoundExpr}
use Rattle.bound_trees.specs.declared.expr.BoundExpr.TheVariants as expr
use Rattle.catalog_store.specs.Uses.{joined, uses_in}
use Rattle.catalog_store.proofs.Bound.{uses_in-Call}
use Rattle.block_plans.specs.Callees.{Callees}
use Rattle.call_places.specs.declared.places.CallPlaces.{CallPlaces}
use Rattle.call_places.specs.Found.{with_call, with_uses}

-- first the call, with as many arguments as stand there, and then what these use
pub call_met : (k : Callees) (found : CallPlaces) (e : BoundExpr) (name : List ℕ)
    (es xs : List BoundExpr) (n : ℕ) (inside result : CallPlaces) → e ≡ expr.Call name es →
    n ≡ length es → xs ≡ es → inside ≡ with_call k found name n →
    result ≡ with_uses k inside (joined (map uses_in xs)) →
    result ≡ with_uses k found (uses_in e)
call_met k found e name es xs n inside result is many same met h =
    h ∙ ap (λ ys. with_uses k inside (joined (map uses_in ys))) same
    ∙ ap (λ (p : CallPlaces). with_uses k p (joined (map uses_in es))) met
    ∙ ap (λ m. with_uses k (with_call k found name m) (joined (map uses_in es)))
    (many ∙ sym (length-map es uses_in))
    ∙ sym (ap (λ x. with_uses k found (uses_in x)) is
    ∙ ap (with_uses k found) (uses_in-Call name es))
