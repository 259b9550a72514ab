use Rattle.run_choices.specs.Sight.{seen}
use Rattle.run_operands.proofs.Given.{opposite_gives}
use Rattle.run_operands.proofs.values.turned.Goals as goal

pub returns-in-Some : goal.returns-in-Some
returns-in-Some c =
    opposite_gives c.args.operand.now c.in-Some.value.now c.opposite.result
    (seen c.args.rows.now) c.args.frame.now c.in-Some.ensures c.opposite.ensures
