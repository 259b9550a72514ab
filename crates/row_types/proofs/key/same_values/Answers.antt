use Rattle.row_types.proofs.Fitting.{same_row-lengths}
use Rattle.row_types.proofs.key.same_values.Goals as goal

pub returns-then-a-b : goal.returns-then-a-b
returns-then-a-b c = same_row-lengths c.args.a.now c.args.b.now c.if-a-b.true
