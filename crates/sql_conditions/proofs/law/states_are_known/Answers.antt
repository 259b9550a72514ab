use Rattle.sql_conditions.proofs.Characters.{state_spelled}
use Rattle.sql_conditions.proofs.law.states_are_known.Goals as goal

pub returns-clause-spelled : goal.returns-clause-spelled
returns-clause-spelled c = state_spelled
