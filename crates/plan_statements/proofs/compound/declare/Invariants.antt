use Rattle.plan_statements.proofs.Declaring.{Declaring}
use Rattle.plan_statements.proofs.compound.declare.Given as goal

abbrev pub invariant-loop-group : goal.invariant-loop-group
invariant-loop-group l = Declaring l.place l.spot l.variables l.group-index l.columns l.wide
    l.initial.draft l.draft
