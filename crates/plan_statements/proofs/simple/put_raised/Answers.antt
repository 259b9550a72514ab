use Rattle.std.proofs.lemmas.Result.{on_ok_weaker}
use Rattle.rel_algebra.specs.PlanView.{scalar_of}
use Rattle.plan_statements.proofs.Single.{raised_put}
use Rattle.plan_statements.proofs.simple.put_raised.Goals as goal

pub returns : goal.returns
returns c =
    on_ok_weaker c.raise.result
    (λ puts e tree. raised_put c.args.place.now c.args.spot.now c.args.nodes
    c.put_column.new.draft c.args.draft.now c.raise.new.draft (scalar_of c.args.cell)
    c.in_ok-column.column e tree c.in_ok-column.ensures.place c.in_ok-column.ensures.tree puts)
    c.raise.ensures
