-- No call of a query runs a procedure.
use Rattle.std.proofs.Common.{Some, ap, subst, ◌∙◌}
use Rattle.std.specs.Prelude.{IfOk}
use Rattle.catalog_store.specs.Catalog.{Catalog}
use Rattle.catalog_store.specs.Entries.{procedure_of}
use Rattle.block_plans.specs.Callees.{Callees}
use Rattle.kept_queries.specs.Keeping.{ArePlans}
use Rattle.body_queries.proofs.Making.{procedure_apart}
use Rattle.body_queries.proofs.blocks.in_procedure.Goals as goal

pub keep_apart-requires : goal.keep_apart-requires
keep_apart-requires c =
    procedure_apart c.routine_is.ensures c.args.catalog.now c.args.name.now
    c.len-entries.ensures.names c.requires.calls c.with_blocks-functions.result
    (procedure_of c.args.procedure.now)
    (ap (λ (k : Callees). k.known) c.with_blocks-functions.ensures ∙ c.requires.blocks)
    c.requires.procedure

pub returns : goal.returns
returns c =
    subst (λ (known : Catalog). IfOk c.keep_apart.result
    (λ kept. ArePlans known (Some c.args.name.now) kept))
    (ap (λ (k : Callees). k.known) c.with_blocks-functions.ensures ∙ c.requires.blocks)
    c.keep_apart.ensures
