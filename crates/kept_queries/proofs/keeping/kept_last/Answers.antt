use Rattle.kept_queries.proofs.Kept.{kept_last}
use Rattle.kept_queries.proofs.keeping.kept_last.Goals as goal

pub returns : goal.returns
returns c = kept_last
