use Rattle.std.proofs.lemmas.Result.{on_ok_weaker}
use Rattle.plan_statements.proofs.Declaring.{default_put, nulls_put}
use Rattle.plan_statements.proofs.compound.put_declared.Goals as goal

pub returns-in-Some : goal.returns-in-Some
returns-in-Some c =
    let v = c.args.group.now in
    on_ok_weaker c.put_default.result
    (default_put c.args.place.now c.args.spot.now v.default c.in-Some.default v.count
    v.data_type c.args.draft.now c.put_default.new.draft c.in-Some.is) c.put_default.ensures

pub returns-in-None : goal.returns-in-None
returns-in-None c =
    let v = c.args.group.now in
    on_ok_weaker c.put_nulls.result
    (nulls_put c.args.place.now c.args.spot.now v.default v.count v.data_type c.args.draft.now
    c.put_nulls.new.draft c.in-None.is) c.put_nulls.ensures
