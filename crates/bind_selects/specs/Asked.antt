-- A query that is bound alone, whether it can be run, and that it is well typed. ISO/IEC 9075-2,
-- 7.17 (query expression) and 10.4 (routine invocation).
use Rattle.std.specs.Prelude.{IsSome}
use Rattle.bound_trees.specs.declared.query.BoundQuery.{BoundQuery}
use Rattle.catalog_store.specs.Catalog.{Catalog}
use Rattle.bind_faults.specs.Faults.{Noted}
use Rattle.bind_sight.specs.Sight.{Seen}
use Rattle.bind_parts.specs.declared.typed.TypedQuery.{TypedQuery}
use Rattle.bind_queries.specs.Runs.{all_run}
use Rattle.typing_trees.specs.Around.{Around}
use Rattle.typing_trees.specs.Queries.{kinds_of_query}
use Rattle.typing_queries.specs.Sees.{Sees}
use Rattle.bind_selects.specs.declared.order.Asked.{Asked}

-- a query, with whether all functions that it calls have plans
abbrev pub asked : Catalog → Noted TypedQuery → Noted Asked
asked catalog x = record {
  value = record { query = x.value.tree; runs = all_run catalog x.uses };
  faults = x.faults;
  uses = x.uses;
}

-- a query is well typed wherever all stands around it that was in sight
abbrev pub IsTypedIn : Seen → BoundQuery → Type 0
IsTypedIn seen q = (a : Around) → Sees seen a → IsSome (kinds_of_query q a)
