use Rattle.std.proofs.Common.{sym, ap, ◌∙◌, List, take, drop}
use Rattle.std.proofs.lemmas.Result.{IfOk-weaker}
use Rattle.row_types.specs.OuterRows.{outer_rows}
use Rattle.row_types.specs.Rows.{Row}
use Rattle.rel_algebra.specs.Plan.{shown}
use Rattle.plan_keys.specs.LeftOut.{left_out}
use Rattle.plan_keys.specs.Terms.{misses}
use Rattle.plan_keys.specs.declared.terms.Term.{Term}
use Rattle.plan_keys.proofs.Missed.{all_so}
use Rattle.plan_keys.proofs.places.places_met.Goals as goal

pub returns-clause-before : goal.returns-clause-before
returns-clause-before c =
    let out = λ (row : Row). left_out c.args.nodes.now (shown row) (outer_rows c.args.outer.now)
    c.args.args.now in
    IfOk-weaker c.places_by.result _ _ (λ p h. all_so (misses c.as_slice.result.now) out
    (take p.from c.args.table.now.table.rows)
    (λ row m. c.in_ok-terms.ensures row
    (ap (λ (ts : List Term). misses ts row) (sym c.as_slice.ensures) ∙ m)) h)
    c.places_by.ensures.before

pub returns-clause-past : goal.returns-clause-past
returns-clause-past c =
    let out = λ (row : Row). left_out c.args.nodes.now (shown row) (outer_rows c.args.outer.now)
    c.args.args.now in
    IfOk-weaker c.places_by.result _ _ (λ p h. all_so (misses c.as_slice.result.now) out
    (drop p.to c.args.table.now.table.rows)
    (λ row m. c.in_ok-terms.ensures row
    (ap (λ (ts : List Term). misses ts row) (sym c.as_slice.ensures) ∙ m)) h)
    c.places_by.ensures.past
