use Rattle.plan_bodies.proofs.Parameters.{first_all}
use Rattle.plan_bodies.proofs.inline.first_cells.Goals as goal

pub returns : goal.returns
returns c =
    first_all c.args.returns c.in_ok-first.first c.append.new.self c.args.cells
    c.in_ok-append.ensures c.in_ok-first.ensures
