use Rattle.run_choices.specs.Sight.{seen}
use Rattle.run_operands.proofs.Given.{null_test_gives}
use Rattle.run_operands.proofs.values.is_null.Goals as goal

pub returns-in-Some : goal.returns-in-Some
returns-in-Some c =
    null_test_gives c.args.operand.now c.in-Some.value.now c.is_null.result
    (seen c.args.rows.now) c.args.frame.now c.in-Some.ensures c.is_null.ensures
