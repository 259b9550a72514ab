use Rattle.plan_keys.proofs.Bounding.{bounded_by}
use Rattle.plan_keys.proofs.bounds.key_bound.Goals as goal

pub returns-in_ok-value-in-Some-clause-rows : goal.returns-in_ok-value-in-Some-clause-rows
returns-in_ok-value-in-Some-clause-rows c =
    bounded_by c.bound_with.result c.args.key.now c.args.terms.now c.in_ok-sought.sought
    c.in_ok-value-in-Some.value c.in-Some.term.now c.args.high c.takes_ties.result c.len.result
    c.len.ensures c.in-Some.ensures.column c.in_ok-value-in-Some.ensures c.takes_ties.ensures
    c.in-Some.ensures.place c.in-Some.ensures.side c.in-Some.ensures.held
    c.in_ok-sought.ensures.rows c.bound_with.ensures.values c.bound_with.ensures.through
