-- The tables stay those of the catalog, bodies stay well typed, calls listed, names those of the
-- tables, and kept plans those of the catalog.
use Rattle.psm_effects.specs.Conclusions.{database}
use Rattle.psm_session.specs.Effects.{checked}
use Rattle.psm_session.proofs.Calls.{checked-listed, left-listed, makes-listed}
use Rattle.psm_session.proofs.Made.{checked-typed, left-typed, makes-typed}
use Rattle.psm_session.proofs.database.Database.check_statement.Goals as goal

pub invariant_of-self : goal.invariant_of-self
invariant_of-self c =
    let old = database c.self.inside.catalog c.self.inside.tables in
    let b = c.in-Ok.found in
    let found = c.in-Ok.ensures in
    let makes = makes-typed c.args.stmt.now c.self.inside.catalog b found.binds found.fits
    found.typed in
    let listed = makes-listed c.args.stmt.now c.self.inside.catalog b c.len-entries.ensures.planned
    found.binds in (
      c.check_bound.ensures.whole,
      (
        left-typed c.check_bound.result (checked b.bound old) old
            (database c.check_bound.new.catalog c.check_bound.new.tables)
            c.check_bound.ensures.ok c.check_bound.ensures.err c.self.invariant.1.0
            (checked-typed b.bound b.by_plan old found.fits makes c.self.invariant.1.0),
        (
          left-listed c.check_bound.result (checked b.bound old) old
              (database c.check_bound.new.catalog c.check_bound.new.tables)
              c.check_bound.ensures.ok c.check_bound.ensures.err c.self.invariant.1.1.0
              (checked-listed b.bound b.by_plan old found.fits listed c.self.invariant.1.1.0),
          (c.check_bound.ensures.names, c.check_bound.ensures.kept),
        ),
      ),
    )
