use Rattle.std.proofs.Common.{refl, arith}
use Rattle.plan_keys.specs.Terms.{misses}
use Rattle.plan_keys.proofs.Missed.{all_later, all_true}
use Rattle.plan_keys.proofs.places.places_by.Goals as goal

pub returns-then-to-from-clause-past : goal.returns-then-to-from-clause-past
returns-then-to-from-clause-past c =
    all_later (misses c.args.terms.now) c.args.table.now.table.rows c.in_ok-to.to c.in_ok-from.from
    (omega (arith, c.if-to-from.true)) (c.in_ok-to.ensures.high refl)

pub returns-then-wants_null-clause-past : goal.returns-then-wants_null-clause-past
returns-then-wants_null-clause-past c =
    all_true (misses c.args.terms.now) c.args.table.now.table.rows
    (λ row. c.wants_null.ensures c.if-wants_null.true row)
