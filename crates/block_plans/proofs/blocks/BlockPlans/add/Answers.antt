use Rattle.std.proofs.Common.{Some, ap, sym, subst, ◌∙◌}
use Rattle.catalog_store.specs.Catalog.{Catalog}
use Rattle.block_plans.specs.Blocks.{AreBlocks, IsBlock, names_of, with_name}
use Rattle.block_plans.specs.Callees.{Callees}
use Rattle.block_plans.specs.declared.blocks.BlockPlan.{BlockPlan}
use Rattle.block_plans.proofs.Holding.{one_more, names_more}
use Rattle.block_plans.proofs.blocks.BlockPlans.add.Goals as goal

pub invariant_of-self-2 : goal.invariant_of-self-2
invariant_of-self-2 c =
    let known = c.self.inside.known.value in
    let b : BlockPlan = record { parameters = c.args.parameters; plan = Some c.args.plan } in
    subst (AreBlocks known) (sym c.in_ok-insert.ensures.entries)
    (one_more known c.self.inside.plans.entries c.args.name b
    (subst (λ (k : Callees). IsBlock k.known c.args.name b) (sym c.self.view_is) c.requires)
    c.self.invariant)

pub returns-clause-ok : goal.returns-clause-ok
returns-clause-ok c =
    let b : BlockPlan = record { parameters = c.args.parameters; plan = Some c.args.plan } in
    ap names_of c.in_ok-insert.ensures.entries
    ∙ names_more c.self.inside.plans.entries c.args.name b
    ∙ ap (λ (k : Callees). with_name c.args.name k.blocks) c.self.view_is
