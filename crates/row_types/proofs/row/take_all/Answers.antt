use Rattle.row_types.proofs.Fitting.{take_all-lengths}
use Rattle.row_types.proofs.row.take_all.Goals as goal

pub returns-then-columns-values : goal.returns-then-columns-values
returns-then-columns-values c = take_all-lengths c.args.columns.now c.args.values.now
    c.if-columns-values.true
