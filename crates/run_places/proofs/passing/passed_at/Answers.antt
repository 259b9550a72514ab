use Rattle.std.proofs.Common.{◌≡◌, Option, ap, sym, ◌∙◌, subst}
use Rattle.sql_values.specs.Values.{UnlessNoMemory, Outcome}
use Rattle.catalog_store.specs.declared.entry.ParameterMode.{ParameterMode}
use Rattle.rel_algebra.specs.Calls.{passed_by}
use Rattle.run_places.specs.Passing.{mode_in}
use Rattle.run_places.proofs.Passed.{passed_past, passed_there}
use Rattle.run_places.proofs.passing.passed_at.Goals as goal

pub returns-in-Some : goal.returns-in-Some
returns-in-Some c = subst (λ (x : Outcome). UnlessNoMemory c.passed_by.result
    (c.passed_by.result ≡ x))
    (ap (λ (o : Option ParameterMode). passed_by (mode_in o) c.in-Some.to.now c.args.value)
    c.at-in-Some.ensures ∙ sym (passed_there c.args.modes.now c.args.types.now c.args.place
    c.in-Some.to.now c.args.value (sym c.in-Some.ensures))) c.passed_by.ensures

pub returns-in-None : goal.returns-in-None
returns-in-None c = sym (passed_past c.args.modes.now c.args.types.now c.args.place c.args.value
    (sym c.in-None.ensures))
