use Rattle.bind_sight.proofs.Counting.{counts-more}
use Rattle.bind_sight.proofs.column_list.add_name.Goals as goal

pub returns : goal.returns
returns c =
    counts-more c.args.index.now.entries _ c.args.name.now _ c.args.place c.args.kind _
    c.in_ok-copied.ensures c.counted-hit.ensures (λ q. c.in_ok-insert.ensures.updates.0 q)
