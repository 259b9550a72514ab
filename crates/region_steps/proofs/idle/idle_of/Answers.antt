use Rattle.std.proofs.Common.{◌≡◌, ◌++◌, ◌∷◌, [], arith, rules, to_z, of_z, w64}
use Rattle.rel_algebra.specs.declared.plan.Node.TheVariants.{Extend, Keep}
use Rattle.region_steps.proofs.Fronts.{idle_nodes}
use Rattle.region_steps.proofs.idle.idle_of.Goals as goal

pub returns : goal.returns
returns c row outer args l n =
    let cut : c.args.nodes.now ≡ c.in_ok-front.front.now ++
    (Extend c.in_ok-front.scalars.now ∷ Keep c.in_ok-front.places.now ∷ []) = search rules in
    idle_nodes c.args.nodes.now c.in_ok-front.front.now c.in_ok-front.scalars.now
    c.in_ok-front.places.now (to_z w64 (of_z w64 c.in_ok-code.code)) c.args.width c.in_ok-wide.wide
    cut c.in_ok-wide.ensures (omega (arith, c.if-places-width.false))
    (c.are_kept.ensures c.if-not-are_kept.false) row outer args l n
