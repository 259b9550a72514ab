use Rattle.std.proofs.Common.{ℕ, List, [], ◌∷◌, subst}
use Rattle.plan_steps.specs.Steps.{Puts}
use Rattle.plan_statements.specs.Statements.{group_step}
use Rattle.plan_statements.proofs.Declaring.{declared_sight, declaring_done, declaring_first}
use Rattle.plan_statements.proofs.Declaring.{declaring_next}
use Rattle.plan_statements.proofs.compound.declare.Goals as goal

pub loop-group-init : goal.loop-group-init
loop-group-init c =
    declaring_first c.args.place.now c.args.spot.now c.args.variables.now c.in_ok-columns.columns
    c.args.draft.now c.in_ok-columns.ensures

pub loop-group-preserved : goal.loop-group-preserved
loop-group-preserved c =
    declaring_next c.args.place.now c.args.spot.now c.args.variables.now c.loop-group.group-index
    c.group-item.result c.loop-group.columns c.add_columns.new.columns c.loop-group.wide
    c.in_ok-wide.wide c.args.draft.now c.loop-group.draft c.put_group.new.draft
    c.loop-group-test.true c.group-item.is c.loop-group.invariant
    (subst (λ (cs : List ℕ). Puts c.loop-group.draft c.put_group.new.draft
    (group_step c.group-item.result cs c.loop-group.wide c.args.spot.now c.args.place.now ∷ []))
    c.as_slice.ensures c.in_ok-put_group.ensures)
    c.in_ok-wide.ensures.wide c.in_ok-wide.ensures.columns

pub returns-clause-columns : goal.returns-clause-columns
returns-clause-columns c =
    declared_sight c.args.place.now c.args.spot.now c.args.variables.now c.loop-group.group-index
    c.loop-group.columns c.loop-group.wide c.args.draft.now c.loop-group.draft
    c.loop-group-test.false c.loop-group.invariant

pub returns-clause-steps : goal.returns-clause-steps
returns-clause-steps c =
    declaring_done c.args.place.now c.args.spot.now c.args.variables.now c.loop-group.group-index
    c.loop-group.columns c.loop-group.wide c.args.draft.now c.loop-group.draft
    c.loop-group-test.false c.loop-group.invariant
