use Rattle.listed_calls.proofs.Laws.{new_routines_list}
use Rattle.listed_calls.proofs.listed.new_routines_list.Goals as goal

pub returns : goal.returns
returns c = new_routines_list
