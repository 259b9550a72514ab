use Rattle.std.proofs.Common.{sym, ◌∙◌}
use Rattle.bind_statements.proofs.Made.{bound_fits}
use Rattle.bind_statements.proofs.statement.bind_statement.Goals as goal

pub returns-in-None-clause-fits : goal.returns-in-None-clause-fits
returns-in-None-clause-fits c =
    bound_fits c.args.stmt.now c.args.catalog.now c.in_ok-bound.bound c.in_ok-bound.ensures.value
    (sym c.in_ok-bound.ensures.faults ∙ c.in-None.is) c.len-entries.ensures.planned
