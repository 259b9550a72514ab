use Rattle.std.proofs.lemmas.Result.{on_ok_weaker}
use Rattle.group_index.proofs.Entries.{replaced}
use Rattle.group_index.proofs.folding.add_at.Goals as goal

pub returns : goal.returns
returns c = on_ok_weaker c.take.result (λ h. replaced c.args.groups.now.entries c.args.at
    c.args.row.now c.index_mut.result.now c.take.new.self c.index_mut.ensures.value h)
    c.take.ensures
