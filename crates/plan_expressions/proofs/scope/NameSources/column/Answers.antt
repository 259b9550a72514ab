use Rattle.std.proofs.Common.{◌≡◌, ◌∙◌}
use Rattle.plan_expressions.specs.Scopes.{place_of, in_span, in_spans}
use Rattle.plan_expressions.proofs.Moving.{if_ok}
use Rattle.plan_expressions.proofs.Places.{span_there, no_span}
use Rattle.plan_expressions.proofs.scope.NameSources.column.Goals as goal

pub returns-in-Some : goal.returns-in-Some
returns-in-Some c =
    let spans = c.args.self.now.spans in
    if_ok c.column_in.result (λ p. place_of p ≡ in_span c.in-Some.span.now c.args.place)
    (λ p. place_of p ≡ in_spans spans c.args.level c.args.place) c.column_in.ensures
    (λ p h. h ∙ span_there spans c.args.level c.args.place c.in-Some.span.now
    c.in-Some.ensures.value)

pub returns-in-None : goal.returns-in-None
returns-in-None c = no_span c.args.self.now.spans c.args.level c.args.place c.in-None.ensures.value
