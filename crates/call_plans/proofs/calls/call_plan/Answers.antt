use Rattle.call_plans.proofs.Called.{call_made}
use Rattle.call_plans.proofs.calls.call_plan.Goals as goal

pub returns : goal.returns
returns c = λ known name p count own.
    call_made c.args.function
    (record {
      parameters = c.args.parameters;
      plan = c.in_ok-plan.plan;
      tables = c.in_ok-tables.tables;
    })
    c.in_ok-plan.ensures c.in_ok-tables.ensures known name p count own
