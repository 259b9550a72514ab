use Rattle.std.proofs.Common.{ap, ◌∙◌}
use Rattle.std.proofs.lemmas.Result.{on_ok_weaker}
use Rattle.rel_algebra.specs.BodyChain.{null_scalars}
use Rattle.rel_algebra.specs.PlanView.{scalars_of}
use Rattle.plan_statements.proofs.Declaring.{grown_put}
use Rattle.plan_statements.proofs.compound.put_nulls.Goals as goal

pub returns : goal.returns
returns c =
    on_ok_weaker c.extend.result
    (grown_put (scalars_of c.in_ok-columns.columns)
    (null_scalars c.args.data_type c.args.count) c.args.draft.now c.extend.new.self
    c.in_ok-columns.ensures) c.extend.ensures.tree
