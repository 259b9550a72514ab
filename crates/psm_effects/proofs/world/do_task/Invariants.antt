use Rattle.psm_effects.proofs.world.do_task.Given as goal

abbrev pub ghosts-in_world : goal.ghosts-in_world
ghosts-in_world a = record { name = a.blank.name; parts = a.blank.parts }
