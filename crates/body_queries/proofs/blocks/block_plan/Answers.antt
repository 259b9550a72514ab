-- No call runs the function where the blocks stand beside the catalog, since it is none of them.
use Rattle.std.proofs.Common.{◌≡◌, Some, sym, ap, subst, ◌∙◌}
use Rattle.std.specs.Prelude.{IfOk, IfSome}
use Rattle.catalog_store.specs.Catalog.{Catalog, routine_named}
use Rattle.catalog_store.specs.Entries.{interpreted_of}
use Rattle.viewing_laws.specs.Standing.{CallsStandBefore}
use Rattle.block_plans.specs.Blocks.{IsBlock}
use Rattle.block_plans.specs.Callees.{Callees, callee}
use Rattle.body_queries.specs.Bodies.{IsFunction}
use Rattle.body_queries.proofs.Making.{function_apart}
use Rattle.body_queries.proofs.blocks.block_plan.Goals as goal

pub apart_plan-requires-clause-apart : goal.apart_plan-requires-clause-apart
apart_plan-requires-clause-apart c =
    let name = c.args.name.now in
    function_apart c.routine_is.ensures c.args.catalog.now name c.len-entries.ensures.names
    c.requires.calls c.with_blocks-functions.result (interpreted_of c.args.function.now)
    c.len.result
    (ap (λ (k : Callees). k.known) c.with_blocks-functions.ensures ∙ c.requires.blocks)
    c.requires.function c.len.ensures
    (subst (λ (k : Callees). callee k name c.len.result ≡ routine_named name k.known)
    (sym c.with_blocks-functions.ensures) c.in-None.ensures)

pub apart_plan-requires-clause-calls : goal.apart_plan-requires-clause-calls
apart_plan-requires-clause-calls c =
    subst CallsStandBefore
    (sym (ap (λ (k : Callees). k.known) c.with_blocks-functions.ensures ∙ c.requires.blocks))
    c.requires.calls

pub apart_plan-requires-clause-function : goal.apart_plan-requires-clause-function
apart_plan-requires-clause-function c =
    subst (λ (known : Catalog). IsFunction known c.args.name.now c.args.function.now)
    (sym (ap (λ (k : Callees). k.known) c.with_blocks-functions.ensures ∙ c.requires.blocks))
    c.requires.function

pub returns-in-None : goal.returns-in-None
returns-in-None c =
    subst (λ (known : Catalog). IfOk c.apart_plan.result (λ made. IfSome made (λ plan.
    IsBlock known c.args.name.now
    (record { parameters = c.args.function.now.head.parameters; plan = Some plan }))))
    (ap (λ (k : Callees). k.known) c.with_blocks-functions.ensures ∙ c.requires.blocks)
    c.apart_plan.ensures
