use Rattle.std.proofs.Common.{◌∙◌}
use Rattle.plan_bodies.proofs.Parameters.{last_is}
use Rattle.plan_bodies.proofs.inline.last_cell.Goals as goal
use Rattle.plan_expressions.proofs.Laws.{scalar_of-Listed}
use Rattle.rel_algebra.specs.declared.scalar.ListWord.TheVariants as listed

pub returns : goal.returns
returns c =
    scalar_of-Listed listed.Case c.put_raised.new.arms ∙
    last_is c.args.returns c.in_ok-arms.arms c.put_raised.new.arms c.in_ok-arms.ensures
    c.in_ok-put_raised.ensures
