use Rattle.std.proofs.Common.{◌≡◌, List, ap, sym, ◌∙◌, map, arith}
use Rattle.std.proofs.lemmas.Result.{IfOk-weaker}
use Rattle.row_types.specs.OuterRows.{outer_rows}
use Rattle.row_types.specs.declared.cell.Cell.{Cell}
use Rattle.rel_algebra.specs.declared.scalar.Scalar.{Scalar}
use Rattle.rel_algebra.specs.declared.scalar.ScalarLink.{ScalarLink}
use Rattle.rel_algebra.specs.Plan.{cell_of}
use Rattle.rel_algebra.specs.PlanView.{scalar_of, link_of}
use Rattle.rel_algebra.specs.WordView.{condition_word}
use Rattle.plan_scalars.specs.Sights.{sight_of, chained_cell}
use Rattle.plan_scalars.proofs.OnConditions.{many_operands}
use Rattle.plan_scalars.proofs.Words.{chain_cell, case_more}
use Rattle.plan_scalars.proofs.scalars.+eval.Goals as goal

pub case-loop-at-preserved : goal.case-loop-at-preserved
case-loop-at-preserved t c =
    let s = sight_of c.args.row.now (outer_rows c.args.outer.now) c.args.args.now in
    record {
      cell = case_more c.args.operands.now c.loop-at.at c.index-operands-at.result s c.in-Val.value
          (omega (arith, c.loop-at-test.true)) c.index-operands-at.is
          (sym c.in_ok-value.ensures ∙ c.in-Val.is) (sym c.is_true.ensures ∙ c.if-is_true.false) ∙
          c.loop-at.invariant.cell;
      within = omega (arith, c.loop-at-test.true);
    }

pub eval_any-returns-in_ok-cell-in-Chain : goal.eval_any-returns-in_ok-cell-in-Chain
eval_any-returns-in_ok-cell-in-Chain t c =
    let s = sight_of c.args.row.now (outer_rows c.args.outer.now) c.args.args.now in
    let first : c.in_ok-cell-in-Chain.cell ≡ cell_of (scalar_of c.in-Chain.first) s =
    c.in_ok-cell-in-Chain.ensures ∙ ap (λ (x : Scalar). cell_of (scalar_of x) s)
    c.get-in-Chain.ensures in
    rw c.in-Chain.is (IfOk-weaker c.eval_links.result _ _
    (λ x h. h ∙
    (ap (λ (links : List ScalarLink). chained_cell c.in_ok-cell-in-Chain.cell
    (map link_of links) s) c.as_slice.ensures
    ∙ (ap (λ (cell : Cell). chained_cell cell (map link_of c.in-Chain.links) s) first ∙
    sym (chain_cell c.in-Chain.first c.in-Chain.links s))))
    c.eval_links.ensures)

pub eval_link-returns-in-Some : goal.eval_link-returns-in-Some
eval_link-returns-in-Some t c =
    rw c.in-Val.is (c.outcome_cell.ensures _ (c.in-Some.ensures (outer_rows c.args.outer.now)))

pub on_condition-returns-in-len3-up : goal.on_condition-returns-in-len3-up
on_condition-returns-in-len3-up t c =
    sym (many_operands (condition_word c.args.word.now) c.args.operands.now
    (sight_of c.args.row.now (outer_rows c.args.outer.now) c.args.args.now)
    c.in-len3-up.len_at_least)
