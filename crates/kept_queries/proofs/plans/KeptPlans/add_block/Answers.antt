-- The block is one of the catalog that is seen.
use Rattle.std.proofs.Common.{Some, sym, subst, ◌∙◌}
use Rattle.catalog_store.specs.Catalog.{Catalog}
use Rattle.block_plans.specs.Blocks.{IsBlock}
use Rattle.kept_queries.proofs.plans.KeptPlans.add_block.Goals as goal

pub add-requires : goal.add-requires
add-requires c =
    subst (λ (known : Catalog). IsBlock known c.args.name
    (record { parameters = c.args.parameters; plan = Some c.args.plan }))
    (sym (c.self.invariant.0.0 ∙ c.self.view_is)) c.requires

pub invariant_of-self : goal.invariant_of-self
invariant_of-self c = (
  (c.add.ensures.known ∙ c.self.invariant.0.0, c.self.invariant.0.1),
  c.self.invariant.1,
)
