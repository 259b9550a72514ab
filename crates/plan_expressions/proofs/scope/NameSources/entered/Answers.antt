use Rattle.std.proofs.Common.{List, [], ◌∷◌, ◌++◌, map, ap, ◌∙◌}
use Rattle.plan_expressions.specs.Scopes.{outward_span}
use Rattle.plan_expressions.specs.declared.scope.Span.{Span}
use Rattle.plan_expressions.proofs.Places.{entered_there}
use Rattle.plan_expressions.proofs.scope.NameSources.entered.Goals as goal

pub returns : goal.returns
returns c =
    let own : Span = record { level = 0; first = 0; count = c.args.columns } in
    let first = c.in_ok-push.ensures.ok ∙ ap (λ (xs : List Span). xs ++ own ∷ [])
    c.new-spans.ensures in
    entered_there c.args.self.now.spans c.add_outward.new.outward c.args.self.now.parameters
    c.in_ok-parameters.parameters c.args.columns
    (c.in_ok-add_outward.ensures ∙ (λ j. first j ++ map outward_span (c.as_slice.ensures j)))
    c.in_ok-parameters.ensures
