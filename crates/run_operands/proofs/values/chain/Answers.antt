use Rattle.run_choices.specs.Sight.{seen}
use Rattle.run_operands.proofs.Given.{chain_ends, one_link}
use Rattle.run_operands.proofs.values.chain.Goals as goal

pub returns-in-Some-Some : goal.returns-in-Some-Some
returns-in-Some-Some c =
    one_link c.args.first.now c.args.links.now c.link-item.result (seen c.args.rows.now)
    c.args.frame.now c.operated.result c.in-len1.len_at_least c.in-len1.len_below c.link-item.is
    (chain_ends c.args.first.now c.link-item.result c.in-Some-Some.left.now
    c.in-Some-Some.right.now (seen c.args.rows.now) c.args.frame.now c.operated.result
    c.in-Some-Some.ensures c.in-Some-Some.ensures' c.operated.ensures)
