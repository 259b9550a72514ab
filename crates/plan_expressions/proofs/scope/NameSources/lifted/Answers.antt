use Rattle.std.proofs.Common.{◌++◌, map, ◌∙◌}
use Rattle.plan_expressions.specs.Scopes.{outward_span}
use Rattle.plan_expressions.proofs.Places.{lifted_there}
use Rattle.plan_expressions.proofs.scope.NameSources.lifted.Goals as goal

pub returns : goal.returns
returns c =
    lifted_there c.args.self.now.spans c.add_outward.new.outward c.args.self.now.parameters
    c.in_ok-parameters.parameters
    (c.in_ok-add_outward.ensures ∙ (λ j. c.new-spans.ensures j ++ map outward_span
    (c.as_slice.ensures j))) c.in_ok-parameters.ensures
