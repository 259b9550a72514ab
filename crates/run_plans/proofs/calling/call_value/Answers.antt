use Rattle.run_plans.proofs.Calls.{area_told, rows_told}
use Rattle.run_plans.proofs.calling.call_value.Goals as goal

pub returns-in-Rows : goal.returns-in-Rows
returns-in-Rows c =
    rows_told c.args.call.now c.args.values.now c.args.world.now c.tables.result.now
    c.tables.ensures _ c.in-Rows.rows c.as_slice.result.now c.single.result c.in-Rows.is
    c.as_slice.ensures c.in_ok-rows.ensures c.single.ensures

pub returns-in_ok-held-in-Raised : goal.returns-in_ok-held-in-Raised
returns-in_ok-held-in-Raised c =
    area_told c.args.call.now c.args.values.now c.args.world.now c.tables.result.now
    c.tables.ensures _ c.in-Raised.area c.in_ok-held-in-Raised.field-0 c.in-Raised.is
    c.in_ok-held-in-Raised.ensures c.in_ok-rows.ensures
