use Rattle.std.proofs.lemmas.Result.{on_ok_weaker}
use Rattle.plan_statements.proofs.Declaring.{group_put}
use Rattle.plan_statements.proofs.compound.put_group.Goals as goal

pub returns : goal.returns
returns c =
    on_ok_weaker c.put_declared.result
    (group_put c.args.place.now c.with_columns-within.result c.args.spot.now c.args.group.now
    c.args.columns.now c.args.wide c.args.draft.now c.put_declared.new.draft
    c.with_columns-within.ensures.env c.with_columns-within.ensures.sight
    c.with_columns-within.ensures.functions) c.put_declared.ensures
