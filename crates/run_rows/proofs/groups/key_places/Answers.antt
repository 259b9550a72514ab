use Rattle.std.proofs.Common.{ℕ, ◌≡◌, ◌<◌, ◌+◌, ◌-◌, ◌++◌, suc, List, [], ◌∷◌, sym, ap, ◌∙◌}
use Rattle.std.proofs.Common.{append_assoc, arith}
use Rattle.rel_algebra.specs.Joins.{places}
use Rattle.run_rows.proofs.groups.key_places.Goals as goal

next : (p end : ℕ) → p < end → places p (end - p) ≡ p ∷ places (p + 1) (end - (p + 1))
next p end h =
    let e : end - p ≡ suc (end - (p + 1)) = omega (arith, h) in
    let f : suc p ≡ p + 1 = omega arith in
    ap (places p) e ∙ ap (λ q. p ∷ places q (end - (p + 1))) f

pub loop-place-preserved : goal.loop-place-preserved
loop-place-preserved c =
    let p = c.loop-place.place in
    let others = places (p + 1) (c.args.keys - (p + 1)) in
    ap (λ (ps : List ℕ). ps ++ others) c.in_ok-push.ensures.ok ∙
    append_assoc c.loop-place.places (p ∷ []) others
    ∙ ap (λ (ps : List ℕ). c.loop-place.places ++ ps)
    (sym (next p c.args.keys c.loop-place-test.true)) ∙ c.loop-place.invariant
