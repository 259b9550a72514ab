use Rattle.run_plans.proofs.running.plan_values.Given as goal

abbrev pub ghosts-counted_values : goal.ghosts-counted_values
ghosts-counted_values a = record { name = a.blank.name; parts = a.blank.parts }
