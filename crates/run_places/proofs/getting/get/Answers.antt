use Rattle.std.proofs.Common.{◌≡◌, List, Result, Err, sym, subst, rules}
use Rattle.std.specs.Option.{option_copied}
use Rattle.sql_values.specs.declared.value.Value.{Value}
use Rattle.rel_algebra.specs.World.{Frame}
use Rattle.run_choices.specs.declared.stop.Stop.{Stop}
use Rattle.run_choices.specs.Ending.{Tells}
use Rattle.run_expressions.proofs.Laws.{stops_too}
use Rattle.run_places.specs.Blocks.{made}
use Rattle.run_places.specs.Getting.{gets, reads_into, targets_read, values_read}
use Rattle.run_places.proofs.getting.get.Goals as goal

pub returns-in_err-values-clause-ends : goal.returns-in_err-values-clause-ends
returns-in_err-values-clause-ends c =
    let d = c.args.statement.now in
    let f = c.args.frame.now in
    let stop = c.in_err-values.field-0.0 in
    let values = values_read (option_copied c.args.stacked) d.area d.information c.args.number.now
    f in
    let answer : c.from_residual.result ≡ Err stop = search rules in
    λ w. subst (λ (r : Result (Unit {0}) Stop). Tells w (made r f)
    (gets (option_copied c.args.stacked) d.area d.information c.args.number.now f w)) (sym answer)
    (stops_too {A = List Value} {B = Frame} w stop (values w)
    (λ vs. reads_into (targets_read d.information) vs f) (c.in_err-values.ensures w))
