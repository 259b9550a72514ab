use Rattle.block_forms.proofs.Planned.{forms_are_planned}
use Rattle.block_forms.proofs.laws.forms_are_planned.Goals as goal

pub returns : goal.returns
returns c = forms_are_planned c.form_is_planned.ensures c.seen_in_place.ensures
