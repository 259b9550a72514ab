use Rattle.psm_program.proofs.RunLemmas.{ends}
use Rattle.psm_program.proofs.run.run_tokens.Goals as goal

pub returns-in-Ok-clause-ends : goal.returns-in-Ok-clause-ends
returns-in-Ok-clause-ends g c = ends _ _ _ _ _ _ _ _ _ _ c.in-Ok.ensures.ok c.end_run.ensures.closes
