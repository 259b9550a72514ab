use Rattle.std.proofs.lemmas.Result.{on_ok_weaker}
use Rattle.plan_text.proofs.Fronts.{spaced_front}
use Rattle.plan_text.proofs.lists.put_front.Goals as goal

pub returns : goal.returns
returns c =
    on_ok_weaker c.put_more_front.result (λ put. spaced_front c.args.count c.args.text.now.items
    c.put.new.text.items c.put_place.new.text.items c.put_more_front.new.text.items
    c.if-count-eq0.false c.in_ok-put.ensures c.in_ok-put_place.ensures put)
    c.put_more_front.ensures
