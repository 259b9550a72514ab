use Rattle.bind_statements.proofs.Made.{faultless-fits}
use Rattle.bind_statements.proofs.faultless_fits.Goals as goal

pub returns : goal.returns
returns c = faultless-fits
