use Rattle.run_choices.specs.Sight.{seen}
use Rattle.run_operands.proofs.Given.{compared_gives}
use Rattle.run_operands.proofs.values.compared.Goals as goal

pub returns-in-Some-Some : goal.returns-in-Some-Some
returns-in-Some-Some c =
    compared_gives c.args.comparison c.args.left.now c.args.right.now c.in-Some-Some.left.now
    c.in-Some-Some.right.now c.of.result (seen c.args.rows.now) c.args.frame.now
    c.in-Some-Some.ensures c.in-Some-Some.ensures' c.of.ensures
