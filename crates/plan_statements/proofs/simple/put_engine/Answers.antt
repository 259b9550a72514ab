use Rattle.std.proofs.lemmas.Result.{on_ok_weaker}
use Rattle.sql_conditions.specs.Texts.{message_of, state_of}
use Rattle.rel_algebra.specs.BodyChain.{pushing}
use Rattle.rel_algebra.specs.PlanView.{scalar_of}
use Rattle.plan_statements.proofs.Single.{own_raised}
use Rattle.plan_statements.proofs.simple.put_engine.Goals as goal

pub returns : goal.returns
returns c =
    on_ok_weaker c.raise.result
    (own_raised c.args.place.now c.args.spot.now c.nodes_over-nodes.result c.put_column.new.draft
    c.args.draft.now c.raise.new.draft (scalar_of c.in_ok-cell.cell)
    (pushing (state_of c.args.engine) (message_of c.args.engine)) c.in_ok-column.column
    c.nodes_over-nodes.ensures.tree c.nodes_over-nodes.ensures.width c.in_ok-cell.ensures
    c.in_ok-column.ensures.place c.in_ok-column.ensures.tree) c.raise.ensures
