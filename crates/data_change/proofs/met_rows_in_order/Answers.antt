use Rattle.data_change.proofs.Laws.{met_rows_in_order}
use Rattle.data_change.proofs.met_rows_in_order.Goals as goal

pub returns : goal.returns
returns c = met_rows_in_order
