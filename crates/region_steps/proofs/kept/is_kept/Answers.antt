use Rattle.std.proofs.Common.{◌≡◌, ◌-◌, ℤ, sym, ap, subst, ◌∙◌, arith, to_z-of_z, to_z, of_z, w64}
use Rattle.rel_algebra.specs.Plan.{cell_at, cells_of}
use Rattle.rel_algebra.specs.PlanView.{scalars_of}
use Rattle.plan_scalars.specs.Sights.{sight_of}
use Rattle.region_steps.specs.Idle.{IsNotAt}
use Rattle.region_steps.proofs.Cells.{cell_following, cell_front}
use Rattle.region_steps.proofs.kept.is_kept.Goals as goal

pub returns-then-place-width : goal.returns-then-place-width
returns-then-place-width c h row outer args l n =
    let e : c.args.place ≡ c.args.at = grind (arith, h) in
    cell_front row (cells_of (scalars_of c.args.scalars.now) (sight_of row outer args))
    c.args.place (omega (arith, l, c.if-place-width.true)) ∙ ap (cell_at row) e

pub returns-then-at-width : goal.returns-then-at-width
returns-then-at-width c h row outer args l n =
    let same : to_z w64 (of_z w64 c.args.code) ≡ c.args.code = to_z-of_z c.ranges.code in
    let s = sight_of row outer args in
    let cells = cells_of (scalars_of c.args.scalars.now) s in
    cell_following row cells c.args.place (omega (arith, l, c.if-place-width.false))
    ∙ (ap (λ m. cell_at cells (c.args.place - m)) l
    ∙ c.is_guarded_at.ensures h s (subst (λ (z : ℤ). IsNotAt z row) (sym same) n))
