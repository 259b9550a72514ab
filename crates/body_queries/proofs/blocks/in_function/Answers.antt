-- No call runs the function, by the blocks that stand beside it or by the catalog alone.
use Rattle.std.proofs.Common.{◌≡◌, Some, sym, ap, subst, ◌∙◌}
use Rattle.std.specs.Prelude.{IfOk}
use Rattle.catalog_store.specs.Catalog.{Catalog, routine_named}
use Rattle.catalog_store.specs.Entries.{interpreted_of}
use Rattle.block_plans.specs.Callees.{Callees, callee}
use Rattle.kept_queries.specs.Keeping.{ArePlans}
use Rattle.body_queries.proofs.Making.{alone_apart, function_apart}
use Rattle.body_queries.proofs.blocks.in_function.Goals as goal

pub keep_apart-requires : goal.keep_apart-requires
keep_apart-requires c =
    alone_apart c.of-functions.result c.args.catalog.now c.args.name.now
    (interpreted_of c.args.function.now) c.of-functions.ensures c.requires.function

pub returns-in-Some : goal.returns-in-Some
returns-in-Some c =
    subst (λ (known : Catalog). IfOk c.keep_apart.result
    (λ kept. ArePlans known (Some c.args.name.now) kept))
    (ap (λ (k : Callees). k.known) c.of-functions.ensures) c.keep_apart.ensures

pub keep_apart-requires-in-None : goal.keep_apart-requires-in-None
keep_apart-requires-in-None c =
    let name = c.args.name.now in
    function_apart c.routine_is.ensures c.args.catalog.now name c.len-entries.ensures.names
    c.requires.calls c.with_blocks-functions.result (interpreted_of c.args.function.now)
    c.len-parameters.result
    (ap (λ (k : Callees). k.known) c.with_blocks-functions.ensures ∙ c.requires.blocks)
    c.requires.function c.len-parameters.ensures
    (subst (λ (k : Callees). callee k name c.len-parameters.result ≡ routine_named name k.known)
    (sym c.with_blocks-functions.ensures) c.in-None.ensures)

pub returns-in-None : goal.returns-in-None
returns-in-None c =
    subst (λ (known : Catalog). IfOk c.keep_apart-in-None.result
    (λ kept. ArePlans known (Some c.args.name.now) kept))
    (ap (λ (k : Callees). k.known) c.with_blocks-functions.ensures ∙ c.requires.blocks)
    c.keep_apart-in-None.ensures
