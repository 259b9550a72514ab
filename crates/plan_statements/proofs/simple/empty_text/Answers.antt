use Rattle.std.proofs.Common.{List, ℕ, ap, ◌∙◌}
use Rattle.sql_values.specs.declared.value.Value.TheVariants.{Str}
use Rattle.rel_algebra.specs.Plan.{constant}
use Rattle.plan_expressions.proofs.Laws.{scalar_of-Constant}
use Rattle.plan_statements.proofs.simple.empty_text.Goals as goal

pub returns : goal.returns
returns c =
    scalar_of-Constant (Str c.in_ok-text.text) ∙
    ap (λ (cs : List ℕ). constant (Str cs)) (c.in_ok-text.ensures ∙ c.empty.ensures)
