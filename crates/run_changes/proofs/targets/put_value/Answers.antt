use Rattle.std.proofs.Common.{take, ap, ◌∙◌}
use Rattle.std.proofs.Math.Seq.{take-set-lt}
use Rattle.run_changes.proofs.targets.put_value.Goals as goal

pub returns-then-target-len-clause-columns : goal.returns-then-target-len-clause-columns
returns-then-target-len-clause-columns c =
    ap (take c.args.width) c.set.ensures ∙ take-set-lt c.args.width c.args.row.now c.args.target
    c.args.value c.if-target-width.true
