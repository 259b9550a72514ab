use Rattle.plan_expressions.proofs.Places.{listed_there, not_listed}
use Rattle.plan_expressions.proofs.scope.listed.Goals as goal

pub returns-in-Some : goal.returns-in-Some
returns-in-Some c = listed_there c.args.level c.args.columns.now c.args.place c.in-Some.column.now
    c.in-Some.ensures.value

pub returns-in-None : goal.returns-in-None
returns-in-None c = not_listed c.args.level c.args.columns.now c.args.place c.in-None.ensures.value
