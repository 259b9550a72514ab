use Rattle.std.proofs.Common.{◌≡◌, ℤ, sym, subst, ◌∙◌, arith, to_z-of_z, to_z, of_z, w64}
use Rattle.rel_algebra.specs.Plan.{cells_row}
use Rattle.region_steps.specs.Idle.{IsNotAt}
use Rattle.region_steps.proofs.Cells.{cell_scalar}
use Rattle.region_steps.proofs.kept.is_guarded_at.Goals as goal

pub returns-then-index-scalars : goal.returns-then-index-scalars
returns-then-index-scalars c h s n =
    let same : to_z w64 (of_z w64 c.args.code) ≡ c.args.code = to_z-of_z c.ranges.code in
    cell_scalar c.args.scalars.now s c.args.index c.index-scalars-index.result
    (omega (arith, c.if-index-scalars.true)) c.index-scalars-index.is
    ∙ c.is_guarded.ensures h s
    (subst (λ (z : ℤ). IsNotAt z (cells_row s.rows 0)) (sym same) n)
