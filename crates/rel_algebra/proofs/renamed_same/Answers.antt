use Rattle.rel_algebra.proofs.Renamed.{den_renamed}
use Rattle.rel_algebra.proofs.renamed_same.Goals as goal

pub returns : goal.returns
returns c = den_renamed
