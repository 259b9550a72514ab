-- The plans are in the catalog of the blocks.
use Rattle.std.proofs.Common.{None, ap, subst, ◌∙◌}
use Rattle.std.specs.Prelude.{IfOk}
use Rattle.catalog_store.specs.Catalog.{Catalog}
use Rattle.block_plans.specs.Callees.{Callees}
use Rattle.kept_queries.specs.Keeping.{ArePlans}
use Rattle.body_queries.proofs.routines.asked_by.Goals as goal

pub returns : goal.returns
returns c =
    subst (λ (known : Catalog). IfOk c.asked_among.result (λ kept. ArePlans known None kept))
    (ap (λ (k : Callees). k.known) c.with_blocks-functions.ensures ∙ c.requires) c.asked_among.ensures
