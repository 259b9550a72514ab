use Rattle.std.proofs.Common.{sym}
use Rattle.run_outcomes.specs.declared.choice.Manner.TheVariants.{ByName, ByClass}
use Rattle.run_outcomes.specs.Scopes.{taking}
use Rattle.run_outcomes.proofs.Choices.{found_named, found_general, first_stands, found_stands}
use Rattle.run_outcomes.proofs.choice.choose_here.Goals as goal

pub returns-in-Some-clause-best : goal.returns-in-Some-clause-best
returns-in-Some-clause-best c action =
    found_named action c.args.state.now c.args.handlers.now c.in-Some.handler.now c.in-Some.ensures

pub returns-in-Some-clause-stands : goal.returns-in-Some-clause-stands
returns-in-Some-clause-stands c =
    first_stands (taking ByName c.args.state.now) c.args.handlers.now c.in-Some.handler.now
    (sym c.in-Some.ensures)

pub returns-in-None-clause-best : goal.returns-in-None-clause-best
returns-in-None-clause-best c action =
    found_general action c.args.state.now c.args.handlers.now _ c.in-None.ensures
    c.first-in-None.ensures

pub returns-in-None-clause-stands : goal.returns-in-None-clause-stands
returns-in-None-clause-stands c =
    found_stands (taking ByClass c.args.state.now) c.args.handlers.now c.first-in-None.result
    c.first-in-None.ensures
