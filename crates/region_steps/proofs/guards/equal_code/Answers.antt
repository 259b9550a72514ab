use Rattle.std.proofs.Common.{◌≡◌, ap, ◌∙◌, arith}
use Rattle.std.proofs.lemmas.Option.{IfSome_then}
use Rattle.rel_algebra.specs.Plan.{cell_at, cell_of, cells_row}
use Rattle.rel_algebra.specs.PlanView.{scalar_of}
use Rattle.region_steps.proofs.Codes.{not_equal}
use Rattle.region_steps.proofs.guards.equal_code.Goals as goal

pub returns : goal.returns
returns c =
    let first : c.in_ok-place.place ≡ 0 = omega (arith, c.if-place-gt0.false) in
    IfSome_then c.constant_number.result c.constant_number.ensures
    (λ code k s n. not_equal (cell_of (scalar_of c.args.left.now) s)
    (cell_of (scalar_of c.args.right.now) s) code (cells_row s.rows 0)
    (c.in_ok-place.ensures s ∙ ap (λ p. cell_at (cells_row s.rows 0) p) first) (k s) n)
