-- The plan is that of the query as it is seen where it stands, under the rows and over the arguments
-- that are asked for.
use Rattle.std.proofs.Common.{subst}
use Rattle.std.specs.List.{IsDistinct}
use Rattle.std.specs.Str.{bytes_eq}
use Rattle.catalog_store.specs.Catalog.{Catalog, names_of}
use Rattle.kept_queries.proofs.Kept.{made}
use Rattle.kept_queries.proofs.keeping.keep.Goals as goal

pub returns-clause-kept : goal.returns-clause-kept
returns-clause-kept c =
    let f = c.args.around.now.functions.now in
    made c.seen_in_place.ensures f c.args.around.now.own c.args.query.now c.args.sight.now
    (record {
      query = c.in_ok-query.query;
      in_sight = c.in_ok-in_sight.in_sight;
      plan = c.in_ok-plan.plan;
      tables = c.in_ok-tables.tables;
    })
    (subst (λ (known : Catalog). IsDistinct bytes_eq (names_of known)) c.catalog.ensures
    c.len-entries.ensures.names)
    c.args.around.now.apart c.requires c.in_ok-query.ensures c.in_ok-in_sight.ensures
    c.in_ok-plan.ensures c.in_ok-tables.ensures
