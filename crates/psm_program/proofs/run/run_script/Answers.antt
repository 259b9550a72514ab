use Rattle.psm_program.proofs.ProgramLemmas.{none_ran}
use Rattle.psm_program.proofs.run.run_script.Goals as goal

pub returns-in-Err-clause-ends : goal.returns-in-Err-clause-ends
returns-in-Err-clause-ends g c = none_ran _ _ _ _
