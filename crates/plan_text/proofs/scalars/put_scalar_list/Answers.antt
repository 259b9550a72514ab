use Rattle.std.proofs.lemmas.Result.{on_ok_weaker}
use Rattle.plan_text.proofs.ScalarLists.{spaced_put}
use Rattle.plan_text.proofs.scalars.put_scalar_list.Goals as goal

pub returns-in_ok-put-in-len1-up : goal.returns-in_ok-put-in-len1-up
returns-in_ok-put-in-len1-up c =
    on_ok_weaker c.put_scalars.result (λ put. spaced_put c.args.scalars.now
    c.args.text.now.items _ c.put_scalars.new.text.items c.in-len1-up.len_at_least
    c.in_ok-put-in-len1-up.ensures put) c.put_scalars.ensures
