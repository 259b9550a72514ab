-- The block is one of the catalog of what is kept.
use Rattle.std.proofs.Common.{Option, Some, sym, subst}
use Rattle.std.specs.Prelude.{IfSome}
use Rattle.catalog_store.specs.declared.entry.FunctionPlan.{FunctionPlan}
use Rattle.catalog_store.specs.Catalog.{Catalog}
use Rattle.block_plans.specs.Blocks.{IsBlock}
use Rattle.body_queries.proofs.blocks.keep_block_plan.Goals as goal

pub add_block-requires : goal.add_block-requires
add_block-requires c =
    subst (λ (known : Catalog). IsBlock known c.args.name.now
    (record { parameters = c.args.function.now.head.parameters; plan = Some c.in-Some.plan }))
    (sym c.requires.catalog)
    (subst (λ (made : Option FunctionPlan). IfSome made (λ plan.
    IsBlock c.args.catalog.now c.args.name.now
    (record { parameters = c.args.function.now.head.parameters; plan = Some plan })))
    c.in-Some.is c.in_ok-plan.ensures)
