use Rattle.plan_steps.proofs.Seen.{no_slot, slot_there}
use Rattle.plan_steps.proofs.place.column_at.Goals as goal

pub returns-in-Some : goal.returns-in-Some
returns-in-Some c = slot_there c.args.beyond c.args.place.now.columns.now c.args.slot
    c.in-Some.column.now c.in-Some.ensures

pub returns-in-None : goal.returns-in-None
returns-in-None c = no_slot c.args.beyond c.args.place.now.columns.now c.args.slot
    c.in-None.ensures
