use Rattle.std.proofs.Common.{ap}
use Rattle.sql_values.specs.Values.{is_null}
use Rattle.row_types.proofs.Comparing.{none_there}
use Rattle.row_types.proofs.row.is_null_at.Goals as goal

pub returns-in-None : goal.returns-in-None
returns-in-None c = ap is_null (none_there c.args.row.now c.args.place c.in-None.ensures.value)
