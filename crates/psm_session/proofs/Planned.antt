-- What is done by plans in a mode has them.
use Rattle.std.proofs.Common.{Bool}
use Rattle.catalog_store.specs.Catalog.{Catalog}
use Rattle.bind_direct.specs.declared.bound.Bound.{Bound}
use Rattle.bind_direct.specs.declared.bound.Bound.TheVariants as bound
use Rattle.bind_statements.specs.Binds.{BoundFits}
use Rattle.run_modes.specs.declared.mode.Mode.{Mode}
use Rattle.run_modes.proofs.Answered.{by-plan-has}
use Rattle.psm_session.specs.Effects.{by_plans}

-- so a statement fits a catalog in each mode
pub by-plans-fit : (known : Catalog) (mode : Mode) (by_plan : Bool) (b : Bound) →
    BoundFits known by_plan b → BoundFits known (by_plans mode by_plan b) b
by-plans-fit known mode by_plan (bound.Create name object) f = f
by-plans-fit known mode by_plan (bound.Drop name) f = f
by-plans-fit known mode by_plan (bound.Insert s places) f =
    λ is. f (by-plan-has mode by_plan s.source is)
by-plans-fit known mode by_plan (bound.Update s) f = λ is. f (by-plan-has mode by_plan s.rows is)
by-plans-fit known mode by_plan (bound.Delete s) f = λ is. f (by-plan-has mode by_plan s.rows is)
by-plans-fit known mode by_plan (bound.Query q) f = λ is. f (by-plan-has mode by_plan q is)
by-plans-fit known mode by_plan (bound.Explain q) f = f
by-plans-fit known mode by_plan (bound.Routine s) f = tt
