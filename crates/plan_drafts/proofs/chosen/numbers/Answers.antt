use Rattle.std.proofs.Common.{◌++◌, ◌∷◌, [], ◌+◌, ◌-◌, List, sym, ap, ◌∙◌, append_assoc}
use Rattle.rel_algebra.specs.declared.plan.ScalarRow.{ScalarRow}
use Rattle.rel_algebra.specs.Plan.{Scalars}
use Rattle.rel_algebra.specs.PlanView.{scalars, scalars_of, lists_of}
use Rattle.rel_algebra.specs.Emit.{numbers}
use Rattle.plan_drafts.proofs.Choosing.{numbers-next}
use Rattle.plan_expressions.proofs.Laws.{map-last}
use Rattle.plan_drafts.proofs.chosen.numbers.Goals as goal

pub loop-number-preserved : goal.loop-number-preserved
loop-number-preserved c =
    let p = c.loop-number.number in
    let row = c.in_ok-number_row.field-0 in
    let others = numbers (p + 1) (c.args.count - (p + 1)) in
    ap (λ (rs : List ScalarRow). lists_of rs ++ others) c.in_ok-push.ensures.ok
    ∙ ap (λ (ls : List Scalars). ls ++ others)
    (map-last (λ (x : ScalarRow). scalars_of x.scalars) c.loop-number.rows row)
    ∙ append_assoc (lists_of c.loop-number.rows) (scalars_of row.scalars ∷ []) others
    ∙ ap (λ ss. lists_of c.loop-number.rows ++ scalars ss ∷ others) c.in_ok-number_row.ensures
    ∙ ap (λ (ls : List Scalars). lists_of c.loop-number.rows ++ ls)
    (sym (numbers-next p c.args.count c.loop-number-test.true)) ∙ c.loop-number.invariant
