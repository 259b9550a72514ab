-- No call runs the function where it is none of the blocks.
use Rattle.std.proofs.Common.{◌≡◌, true, sym, ap, subst, ◌∙◌, IfOk}
use Rattle.std.specs.Prelude.{is_some}
use Rattle.rel_algebra.specs.Plain.{planned_routine}
use Rattle.catalog_store.specs.Catalog.{routine_named}
use Rattle.catalog_store.specs.Entries.{interpreted_of}
use Rattle.block_plans.specs.Callees.{Callees, callee}
use Rattle.block_forms.specs.Forms.{may_be_planned}
use Rattle.called_blocks.proofs.Having.{has_one, in_catalog, made_or_not}
use Rattle.called_blocks.proofs.Owning.{function_apart}
use Rattle.called_blocks.proofs.planning.missing_plan.Goals as goal

pub block_plan-requires-clause-apart : goal.block_plan-requires-clause-apart
block_plan-requires-clause-apart c =
    let name = c.args.name.now in
    function_apart c.routine_is.ensures c.args.catalog.now name c.len-entries.ensures.names
    c.requires.calls c.with_blocks-functions.result (interpreted_of c.args.function.now)
    c.len.result (ap (λ (k : Callees). k.known) c.with_blocks-functions.ensures
    ∙ c.requires.blocks) c.requires.function c.len.ensures
    (subst (λ (k : Callees). callee k name c.len.result ≡ routine_named name k.known)
    (sym c.with_blocks-functions.ensures) c.in-None.ensures)

-- where it has a plan, nothing comes
pub returns-in-Some-clause-more : goal.returns-in-Some-clause-more
returns-in-Some-clause-more c =
    let k = c.args.blocks.now in
    has_one c.args.catalog.now c.args.name.now (interpreted_of c.args.function.now) k.blocks
    c.requires.function c.len.result
    (subst (λ (l : Callees). planned_routine (callee l c.args.name.now c.len.result) ≡ true)
    (in_catalog k c.args.catalog.now c.requires.blocks) c.in-Some.ensures.planned)

-- else whether a plan is made tells
pub returns-in-None-clause-more : goal.returns-in-None-clause-more
returns-in-None-clause-more c =
    let k = c.args.blocks.now in
    let f = interpreted_of c.args.function.now in
    made_or_not c.args.catalog.now c.args.name.now f k.blocks c.requires.function
    c.block_plan.result
    (subst (λ (l : Callees). IfOk c.block_plan.result (λ made. is_some made ≡ may_be_planned l f))
    (c.with_blocks-functions.ensures ∙ in_catalog k c.args.catalog.now c.requires.blocks)
    c.block_plan.ensures.may)
