use Rattle.scanned_tables.proofs.Laws.{scans_decide}
use Rattle.scanned_tables.proofs.scans_decide.Goals as goal

pub returns : goal.returns
returns c = scans_decide
