use Rattle.row_types.specs.Rows.{by_key}
use Rattle.atomic_undo.proofs.Placing.{next_below, none_next}
use Rattle.atomic_undo.proofs.sorted.is_below_next.Goals as goal

pub returns-then-next-placed : goal.returns-then-next-placed
returns-then-next-placed c =
    next_below (by_key c.args.key.now) c.args.rows.now c.args.placed.now c.args.next c.args.row.now
    c.index-rows-placed.result _ c.is_below.result c.requires c.if-next-placed.true
    c.index-rows-placed.is c.is_below.ensures

pub returns-else-next-placed : goal.returns-else-next-placed
returns-else-next-placed c = none_next (by_key c.args.key.now) c.args.rows.now c.args.placed.now
    c.args.next c.args.row.now c.if-next-placed.false
