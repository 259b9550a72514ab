use Rattle.std.proofs.Common.{◌+◌, ◌++◌, drop, ap, sym, ◌∙◌}
use Rattle.rel_algebra.specs.Calls.{outs_of}
use Rattle.routine_views.specs.Routines.{with_modes}
use Rattle.run_outcomes.proofs.GivenBack.{one_given, ended}
use Rattle.run_outcomes.proofs.ending.outs_among.Goals as goal

pub returns-in-None : goal.returns-in-None
returns-in-None c =
    sym (ended c.loop-place.given c.args.modes.now c.args.types.now c.args.values.now
    c.loop-place.place (sym c.in-None.ensures))
    ∙ c.loop-place.invariant

pub loop-place-preserved : goal.loop-place-preserved
loop-place-preserved c =
    let next = c.loop-place.place + 1 in
    let others = outs_of (with_modes (drop next c.args.modes.now) (drop next c.args.types.now))
    (drop next c.args.values.now)
    in
    ap (λ g. g ++ others) c.in_ok-give_back-in-Some.ensures
    ∙ one_given c.loop-place.given c.args.modes.now c.args.types.now c.args.values.now
    c.loop-place.place c.in-Some.value.now c.loop-place-test.true (sym c.in-Some.ensures)
    ∙ c.loop-place.invariant
