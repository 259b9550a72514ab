use Rattle.std.proofs.Common.{sym, ◌∙◌}
use Rattle.rel_algebra.specs.Joins.{table_width}
use Rattle.run_plans.proofs.Chosen.{wide_there}
use Rattle.run_plans.proofs.calling.if_tables_fit.Goals as goal

pub returns-then-are_wide-clause-wide : goal.returns-then-are_wide-clause-wide
returns-then-are_wide-clause-wide c =
    wide_there (table_width c.args.tables.now.tables) c.as_slice.result.now c.args.call.now.tables
    c.as_slice.ensures (sym c.are_wide.ensures ∙ c.if-are_wide.true)
