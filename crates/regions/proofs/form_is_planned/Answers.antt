use Rattle.regions.proofs.Planned.{form_is_planned}
use Rattle.regions.proofs.form_is_planned.Goals as goal

pub returns : goal.returns
returns c = form_is_planned
