use Rattle.regions.proofs.Worlds.{form_is_pure}
use Rattle.regions.proofs.form_is_pure.Goals as goal

pub returns : goal.returns
returns c = form_is_pure
