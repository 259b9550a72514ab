use Rattle.psm_program.proofs.OneRun as runs
use Rattle.psm_program.proofs.law.each_script_has_one_run.Goals as goal

pub returns-clause-some : goal.returns-clause-some
returns-clause-some c = runs.script_some

pub returns-clause-no_other : goal.returns-clause-no_other
returns-clause-no_other c = runs.script_same
