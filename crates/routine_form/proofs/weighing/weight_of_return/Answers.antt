use Rattle.routine_form.proofs.Weights.{return_weight}
use Rattle.routine_form.proofs.weighing.weight_of_return.Goals as goal

pub returns : goal.returns
returns c = cc (
  c.itself.ensures,
  c.calls_in.ensures,
  return_weight c.args.catalog.now
      c.args.value.now,
)
