-- The queries are kept for the routine of the copied name, in the catalog of what is kept.
use Rattle.std.proofs.Common.{ℕ, List, Some, sym, subst, ◌∙◌}
use Rattle.catalog_store.specs.Catalog.{Catalog}
use Rattle.kept_queries.specs.Keeping.{ArePlans}
use Rattle.body_queries.proofs.routines.keep_function.Goals as goal

pub add-requires : goal.add-requires
add-requires c =
    let queries = c.in_ok-queries.queries in
    subst (λ (known : Catalog). ArePlans known (Some c.in_ok-name.name) queries)
    (sym (c.keep_block.ensures ∙ c.requires.catalog))
    (subst (λ (n : List ℕ). ArePlans c.args.catalog.now (Some n) queries)
    (sym c.in_ok-name.ensures) c.in_ok-queries.ensures)
