use Rattle.std.proofs.Common.{◌≡◌, ap, false, refl}
use Rattle.std.specs.Prelude.{not}
use Rattle.run_modes.specs.declared.mode.Mode.{Mode}
use Rattle.run_modes.specs.declared.mode.Mode.TheVariants.{Inlining, Plain}
use Rattle.bound_trees.specs.declared.query.BoundQuery.{BoundQuery}
use Rattle.run_modes.specs.Modes.{is_by_plan}
use Rattle.run_modes.proofs.laws.queries_are_answered.Goals as goal

no_plan : (mode : Mode) (q : BoundQuery) → is_by_plan mode false q ≡ false
no_plan Inlining q = refl
no_plan Plain q = refl

pub returns : goal.returns
returns c = record {
  by_itself = refl;
  asked_for = refl;
  inlined = λ q. refl;
  calling = λ q is. ap not is;
  calling_nothing = λ q is. ap not is;
  without_a_plan = no_plan;
}
