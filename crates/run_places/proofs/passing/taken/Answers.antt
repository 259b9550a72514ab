use Rattle.std.proofs.Common.{sym, rules, map}
use Rattle.rel_algebra.specs.Doing.{take_values}
use Rattle.routine_views.specs.Views.{target as target_of}
use Rattle.run_places.proofs.Passed.{stop_tells, targets_end, taken_ends, taken_goes, taken_stops}
use Rattle.run_places.proofs.passing.taken.Goals as goal

pub returns-in-None : goal.returns-in-None
returns-in-None c = λ w. targets_end c.args.targets.now c.args.values.now c.loop-place.taken
    c.loop-place.place w _ (sym c.in-None.ensures) (c.loop-place.invariant w)

pub returns-in-None-item_at : goal.returns-in-None-item_at
returns-in-None-item_at c = λ w. taken_ends c.args.targets.now c.args.values.now c.loop-place.taken
    c.loop-place.place w _ (sym c.in-None-item_at.ensures) (c.loop-place.invariant w)

pub loop-place-preserved : goal.loop-place-preserved
loop-place-preserved c = λ w. taken_goes c.args.targets.now c.args.values.now c.loop-place.taken
    c.loop-place.place w c.in-Some.target.now c.in-Some-item_at.value.now
    c.in_ok-taken-in-Some-item_at.taken _ (sym c.in-Some.ensures) (sym c.in-Some-item_at.ensures)
    (c.in_ok-taken-in-Some-item_at.ensures w) (c.loop-place.invariant w)

pub returns-in_err-taken-in-Some-item_at : goal.returns-in_err-taken-in-Some-item_at
returns-in_err-taken-in-Some-item_at c = λ w.
    stop_tells c.from_residual.result c.in_err-taken-in-Some-item_at.field-0.0 w
    (take_values (map target_of c.args.targets.now) c.args.values.now w) (search rules)
    (taken_stops c.args.targets.now c.args.values.now c.loop-place.taken
    c.loop-place.place w c.in-Some.target.now c.in-Some-item_at.value.now
    c.in_err-taken-in-Some-item_at.field-0.0 _ (sym c.in-Some.ensures)
    (sym c.in-Some-item_at.ensures) (c.in_err-taken-in-Some-item_at.ensures w)
    (c.loop-place.invariant w))
