use Rattle.std.proofs.lemmas.Result.{on_ok_weaker}
use Rattle.plan_bodies.proofs.Blocks.{nothing_put}
use Rattle.plan_bodies.proofs.emit.put_nothing.Goals as goal

pub returns : goal.returns
returns c =
    let p = c.args.place.now in
    on_ok_weaker c.join.result
    (nothing_put p c.args.at c.in_ok-codes.codes c.in_ok-sealing.sealing c.args.draft.now
    c.jump.new.draft c.join.new.draft c.in_ok-codes.ensures
    (c.in_ok-sealing.ensures p.functions.now) c.in_ok-jump.ensures) c.join.ensures
