use Rattle.rel_algebra.proofs.FitsRemoved.{remove_fits}
use Rattle.rel_algebra.proofs.removed_fits.Goals as goal

pub returns : goal.returns
returns c = remove_fits
