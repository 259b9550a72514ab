use Rattle.rel_algebra.proofs.Kept.{kept_tables_fit}
use Rattle.rel_algebra.proofs.kept_tables_fit.Goals as goal

pub returns : goal.returns
returns c = kept_tables_fit
