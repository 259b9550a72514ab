use Rattle.std.proofs.Common.{List, [], ◌∷◌, ◌++◌, ap, ◌∙◌}
use Rattle.plan_expressions.specs.declared.scope.Span.{Span}
use Rattle.plan_expressions.proofs.Places.{folded_there}
use Rattle.plan_expressions.proofs.scope.NameSources.folded.Goals as goal

pub returns : goal.returns
returns c =
    let own : Span = record { level = 0; first = c.args.first; count = c.args.columns } in
    let first = c.in_ok-push.ensures.ok ∙ ap (λ (xs : List Span). xs ++ own ∷ [])
    c.new-spans.ensures in
    folded_there c.args.self.now.spans c.append.new.self c.args.self.now.parameters
    c.in_ok-parameters.parameters c.args.first c.args.columns
    (c.in_ok-append.ensures ∙ (λ j. first j ++ (c.in_ok-from_slice.ensures ∙ c.as_slice.ensures) j))
    c.in_ok-parameters.ensures
