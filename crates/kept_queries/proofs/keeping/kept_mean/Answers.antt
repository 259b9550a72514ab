use Rattle.kept_queries.proofs.Kept.{kept_mean}
use Rattle.kept_queries.proofs.keeping.kept_mean.Goals as goal

pub returns : goal.returns
returns c = kept_mean
