-- The plan of the block is its own, in the catalog of what is kept.
use Rattle.std.proofs.Common.{Option, Some, sym, subst}
use Rattle.std.specs.Prelude.{IfSome}
use Rattle.catalog_store.specs.declared.entry.FunctionPlan.{FunctionPlan}
use Rattle.block_plans.specs.Blocks.{IsBlock}
use Rattle.body_queries.proofs.Making.{block_own}
use Rattle.body_queries.proofs.blocks.keep_block_call.Goals as goal

pub add_call-requires : goal.add_call-requires
add_call-requires c =
    block_own c.args.catalog.now c.args.kept.now c.args.name.now
    c.args.function.now.head.parameters c.len.result c.in-Some.plan (sym c.requires.catalog)
    c.len.ensures
    (subst (λ (made : Option FunctionPlan). IfSome made (λ plan.
    IsBlock c.args.catalog.now c.args.name.now
    (record { parameters = c.args.function.now.head.parameters; plan = Some plan })))
    c.in-Some.is c.in_ok-plan.ensures)
