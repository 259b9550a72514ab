-- What is answered by its plan has one.
use Rattle.std.proofs.Common.{◌≡◌, Bool, true, false, refl}
use Rattle.bound_trees.specs.declared.query.BoundQuery.{BoundQuery}
use Rattle.run_modes.specs.declared.mode.Mode.{Mode}
use Rattle.run_modes.specs.declared.mode.Mode.TheVariants.{Inlining, Plain}
use Rattle.run_modes.specs.Modes.{is_by_plan}

pub by-plan-has : (mode : Mode) (has_plan : Bool) (q : BoundQuery) →
    is_by_plan mode has_plan q ≡ true → has_plan ≡ true
by-plan-has Inlining has_plan q is = is
by-plan-has Plain true q is = refl
by-plan-has Plain false q is = cc
