-- The tables stay those of the catalog, bodies stay well typed, calls listed, names those of the
-- tables, and kept plans those of the catalog.
use Rattle.psm_effects.specs.Conclusions.{database}
use Rattle.psm_session.specs.Effects.{effect}
use Rattle.psm_session.proofs.Calls.{effect-listed, left-listed, makes-listed}
use Rattle.psm_session.proofs.Made.{effect-typed, left-typed, makes-typed}
use Rattle.psm_session.proofs.database.Database.exec_statement.Goals as goal

pub invariant_of-self : goal.invariant_of-self
invariant_of-self c =
    let old = database c.self.inside.catalog c.self.inside.tables in
    let b = c.in-Ok.found in
    let found = c.in-Ok.ensures in
    let makes = makes-typed c.args.stmt.now c.self.inside.catalog b found.binds found.fits
    found.typed in
    let listed = makes-listed c.args.stmt.now c.self.inside.catalog b c.len-entries.ensures.planned
    found.binds in (
      c.run_found.ensures.whole,
      (
        left-typed c.run_found.result (effect c.args.budget b.bound old) old
            (database c.run_found.new.catalog c.run_found.new.tables)
            c.run_found.ensures.ok c.run_found.ensures.err c.self.invariant.1.0
            (effect-typed c.args.budget b.bound b.by_plan old found.fits makes c.self.invariant.1.0),
        (
          left-listed c.run_found.result (effect c.args.budget b.bound old) old
              (database c.run_found.new.catalog c.run_found.new.tables)
              c.run_found.ensures.ok c.run_found.ensures.err c.self.invariant.1.1.0
              (effect-listed c.args.budget b.bound b.by_plan old found.fits listed c.self.invariant.1.1.0),
          (c.run_found.ensures.names, c.run_found.ensures.kept),
        ),
      ),
    )
