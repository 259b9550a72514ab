use Rattle.std.proofs.Common.{List, [], ◌∷◌, ap, sym, ◌∙◌}
use Rattle.std.proofs.lemmas.Option.{IfSome_then}
use Rattle.row_types.specs.declared.cell.Cell.{Cell}
use Rattle.rel_algebra.specs.declared.scalar.Scalar.{Scalar}
use Rattle.rel_algebra.specs.Endings.{op_value}
use Rattle.rel_algebra.specs.OnConditions.{condition_cell}
use Rattle.rel_algebra.specs.Plan.{cells_of, strictly}
use Rattle.rel_algebra.specs.PlanView.{scalars_of}
use Rattle.rel_algebra.specs.Tree.{NullTest}
use Rattle.rel_algebra.specs.WordView.{condition_word}
use Rattle.plan_scalars.specs.Sights.{sight_of}
use Rattle.region_steps.specs.Truths.{truth_of}
use Rattle.region_steps.proofs.Words.{word_is}
use Rattle.region_steps.proofs.truths.null_truth.Goals as goal

pub returns-in-OnCondition : goal.returns-in-OnCondition
returns-in-OnCondition c =
    IfSome_then c.numberless.result c.numberless.ensures
    (λ b h outer. let s = sight_of c.args.row.now outer c.args.args.now in
    ap (λ (x : Cell). truth_of (strictly (op_value NullTest) (x ∷ [])))
    (word_is c.args.operand.now c.in-OnCondition.word c.in-OnCondition.operands s
    c.in-OnCondition.is
    ∙ ap (λ (ops : List Scalar). condition_cell (condition_word c.in-OnCondition.word)
    (cells_of (scalars_of ops) s)) (sym c.as_slice.ensures)) ∙ h outer)
