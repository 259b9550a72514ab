use Rattle.std.proofs.Common.{◌≡◌, ap, ◌∙◌, arith}
use Rattle.std.proofs.lemmas.Option.{IfSome_then}
use Rattle.row_types.specs.declared.cell.Cell.TheVariants.{Val}
use Rattle.rel_algebra.specs.declared.scalar.Scalar.TheVariants.{Column}
use Rattle.plan_rows.proofs.Laws.{value_there}
use Rattle.plan_scalars.proofs.Words.{column_is, argument_is}
use Rattle.plan_scalars.proofs.places.value_in_place.Goals as goal

pub returns-then-level-eq0 : goal.returns-then-level-eq0
returns-then-level-eq0 c =
    let zero_level : c.in-Column.level ≡ 0 = omega (arith, c.if-level-eq0.true) in
    IfSome_then c.value.result c.value.ensures
    (λ v p outer. column_is c.args.scalar.now c.in-Column.place c.args.row.now outer c.args.args.now
    (c.in-Column.is ∙ ap (λ l. Column l c.in-Column.place) zero_level) ∙ p)

pub returns-then-place-args : goal.returns-then-place-args
returns-then-place-args c outer =
    argument_is c.args.scalar.now c.in-Argument.place c.args.row.now outer c.args.args.now
    c.in-Argument.is ∙ ap Val (value_there c.args.args.now c.in-Argument.place
    c.index-args-place.result (omega (arith, c.if-place-args.true)) c.index-args-place.is)
