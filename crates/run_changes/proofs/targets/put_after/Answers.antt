use Rattle.std.proofs.Common.{ap, sym, ◌∙◌, take, drop, Some}
use Rattle.std.proofs.lemmas.List.{get_or_default}
use Rattle.sql_values.specs.declared.value.Value.{Value}
use Rattle.run_changes.proofs.After.{put_none, put_one}
use Rattle.run_changes.proofs.targets.put_after.Goals as goal

pub returns-in_default : goal.returns-in_default
returns-in_default c =
    sym (put_none (drop c.loop-i.i c.args.targets.now) (drop c.args.width c.loop-i.row) c.loop-i.i
    (take c.args.width c.loop-i.row) c.in_default.ensures) ∙ c.loop-i.invariant

pub loop-i-preserved : goal.loop-i-preserved
loop-i-preserved c =
    put_one c.args.targets.now c.args.width c.loop-i.i _ c.in_ok-value.value c.loop-i.row
    c.put_value.new.row c.loop-i-test.true
    (get_or_default c.args.targets.now c.loop-i.i 0 _ c.loop-i-test.true)
    (sym c.in-Some.ensures ∙ ap (λ (v : Value). Some v) (sym c.in_ok-value.ensures))
    c.put_value.ensures.columns c.put_value.ensures.after
    ∙ c.loop-i.invariant
