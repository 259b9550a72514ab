use Rattle.std.proofs.lemmas.Result.{on_ok_weaker}
use Rattle.group_index.proofs.Indexed.{replaced}
use Rattle.group_index.proofs.groups.push_at.Goals as goal

pub returns : goal.returns
returns c = on_ok_weaker c.push.result (λ h. replaced c.args.index.now.entries c.args.at c.args.row
    c.index_mut.result.now c.push.new.self c.index_mut.ensures.value h) c.push.ensures.ok
