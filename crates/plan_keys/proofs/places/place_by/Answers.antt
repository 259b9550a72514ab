use Rattle.std.proofs.Common.{sym, ap, ◌∙◌, not, take, drop}
use Rattle.plan_keys.specs.Bounds.{is_past, stands_before}
use Rattle.plan_keys.specs.Terms.{misses}
use Rattle.plan_keys.proofs.Missed.{all_so, not_so, side_missed}
use Rattle.plan_keys.proofs.places.place_by.Goals as goal

pub returns-clause-low : goal.returns-clause-low
returns-clause-low c = λ h.
    let k = c.args.table.now.table.key in
    let s = c.as_slice.result.now in
    let b = c.in_ok-bound.bound in
    all_so (stands_before k s b.through) (misses c.args.terms.now)
    (take c.count_before.result c.args.table.now.table.rows)
    (λ row t. side_missed k c.key.result.now b.sought s b.through c.args.high c.args.terms.now row
    c.key.ensures.value c.as_slice.ensures c.in_ok-bound.ensures.rows (t ∙ sym (ap not h)))
    c.count_before.ensures.before

pub returns-clause-high : goal.returns-clause-high
returns-clause-high c = λ h.
    let k = c.args.table.now.table.key in
    let s = c.as_slice.result.now in
    let b = c.in_ok-bound.bound in
    all_so (is_past k s b.through) (misses c.args.terms.now)
    (drop c.count_before.result c.args.table.now.table.rows)
    (λ row t. side_missed k c.key.result.now b.sought s b.through c.args.high c.args.terms.now row
    c.key.ensures.value c.as_slice.ensures c.in_ok-bound.ensures.rows
    (not_so (stands_before k s b.through row) t ∙ sym (ap not h)))
    c.count_before.ensures.past
