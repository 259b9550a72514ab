-- A block that is found has a plan; where none is, the function of the name in the catalog runs.
use Rattle.std.proofs.Common.{sym}
use Rattle.planned_queries.proofs.Parts.{named_runs, named_takes}
use Rattle.planned_queries.proofs.planned.callee_planned.Goals as goal

pub returns-in-Some-clause-planned : goal.returns-in-Some-clause-planned
returns-in-Some-clause-planned c = sym c.in-Some.ensures.planned

pub returns-in-Some-clause-called : goal.returns-in-Some-clause-called
returns-in-Some-clause-called c t = c.in-Some.ensures.takes

pub returns-in-None-clause-planned : goal.returns-in-None-clause-planned
returns-in-None-clause-planned c =
    named_runs c.args.functions.now c.catalog.result.now c.args.name.now c.args.count
    c.named_planned.result c.catalog.ensures c.in-None.ensures c.named_planned.ensures.planned

pub returns-in-None-clause-called : goal.returns-in-None-clause-called
returns-in-None-clause-called c =
    named_takes c.args.functions.now c.catalog.result.now c.args.name.now c.args.count
    c.named_planned.result c.catalog.ensures c.in-None.ensures c.named_planned.ensures.called
