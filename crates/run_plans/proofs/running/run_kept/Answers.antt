use Rattle.run_choices.specs.Sight.{seen}
use Rattle.run_plans.proofs.Ended.{area_ends, rows_end}
use Rattle.run_plans.proofs.running.run_kept.Goals as goal

pub returns-in-Rows : goal.returns-in-Rows
returns-in-Rows c =
    rows_end c.args.kept.now (seen c.args.outer.now) c.args.frame.now c.args.world.now
    c.tables.result.now c.variables.result.now c.tables.ensures c.variables.ensures _ c.in-Rows.rows c.in-Rows.is
    c.in_ok-rows.ensures

pub returns-in_ok-held-in-Raised : goal.returns-in_ok-held-in-Raised
returns-in_ok-held-in-Raised c =
    area_ends c.args.kept.now (seen c.args.outer.now) c.args.frame.now c.args.world.now
    c.tables.result.now c.variables.result.now c.tables.ensures c.variables.ensures _ c.in-Raised.area
    c.in_ok-held-in-Raised.field-0 c.in-Raised.is c.in_ok-held-in-Raised.ensures
    c.in_ok-rows.ensures
