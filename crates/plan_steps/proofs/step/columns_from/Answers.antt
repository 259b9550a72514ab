use Rattle.std.proofs.Common.{◌+◌, ◌-◌, ◌++◌, ◌∙◌, List, ℕ, ap}
use Rattle.rel_algebra.specs.Joins.{places}
use Rattle.plan_steps.proofs.Stores.{columns_next, places_none}
use Rattle.plan_steps.proofs.step.columns_from.Goals as goal

pub loop-index-init : goal.loop-index-init
loop-index-init c =
    ap (λ (cs : List ℕ). cs ++ places (c.args.first + 0) (c.args.count - 0)) c.new-columns.ensures
    ∙ places_none c.args.first c.args.count

pub loop-index-preserved : goal.loop-index-preserved
loop-index-preserved c =
    columns_next c.loop-index.columns c.push.new.self c.args.first c.args.count c.loop-index.index
    c.in_ok-sum.field-0 c.loop-index-test.true c.in_ok-sum.ensures c.in_ok-push.ensures.ok
    c.loop-index.invariant
