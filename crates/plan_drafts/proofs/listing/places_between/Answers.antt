use Rattle.std.proofs.Common.{ℕ, ◌++◌, ◌∷◌, [], ◌+◌, ◌-◌, List, sym, ap, ◌∙◌, append_assoc}
use Rattle.rel_algebra.specs.Joins.{places}
use Rattle.plan_drafts.proofs.Places.{places-next}
use Rattle.plan_drafts.proofs.listing.places_between.Goals as goal

pub loop-place-preserved : goal.loop-place-preserved
loop-place-preserved c =
    let p = c.loop-place.place in
    let others = places (p + 1) (c.args.end - (p + 1)) in
    ap (λ (ps : List ℕ). ps ++ others) c.in_ok-push.ensures.ok ∙
    append_assoc c.loop-place.places (p ∷ []) others
    ∙ ap (λ (ps : List ℕ). c.loop-place.places ++ ps)
    (sym (places-next p c.args.end c.loop-place-test.true)) ∙ c.loop-place.invariant
