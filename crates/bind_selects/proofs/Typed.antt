-- What is bound without faults is well typed.
use Rattle.std.proofs.Common.{◌≡◌, ap, ◌∙◌, [], None, refl}
use Rattle.std.specs.Prelude.{IsSome, is_some}
use Rattle.syntax_trees.specs.declared.query.Query.{Query}
use Rattle.bound_trees.specs.declared.query.BoundQuery.{BoundQuery}
use Rattle.catalog_store.specs.Catalog.{Catalog}
use Rattle.bind_faults.specs.Faults.{noted}
use Rattle.bind_faults.proofs.Laws.{is_free}
use Rattle.bind_sight.specs.Sight.{Seen, at_top}
use Rattle.bind_names.specs.Calls.{head_named}
use Rattle.bind_parts.specs.From.{table_named}
use Rattle.bind_queries.specs.Queries.{judge_query}
use Rattle.typing_trees.specs.Around.{Around}
use Rattle.typing_trees.specs.Queries.{kinds_of_query}
use Rattle.typing_queries.proofs.Laws.{query_typed}
use Rattle.bind_selects.specs.Asked.{IsTypedIn}

pub bound-typed : (q : Query) (s : Seen) (b : BoundQuery) → b ≡ (judge_query [] q s).value.tree →
    noted None (judge_query [] q s).faults ≡ None → IsTypedIn s b
bound-typed q s b is free a sees =
    let kinds = (query_typed [] q s a sees (is_free (judge_query [] q s).faults free)).0 in
    ap (λ (t : BoundQuery). is_some (kinds_of_query t a)) is ∙ ap is_some kinds.1

-- around a whole query stand the tables and the functions of the catalog, and no row, no variable
-- and no routine
abbrev pub outermost : Catalog → Around
outermost known = record {
  rows = [];
  slots = [];
  tables = λ name. table_named name known;
  functions = λ name. head_named name known;
}

-- a query in whose sight stands the catalog alone is well typed over it
pub whole-typed : (known : Catalog) (q : BoundQuery) → IsTypedIn (at_top known) q →
    IsSome (kinds_of_query q (outermost known))
whole-typed known q typed = typed (outermost known) (record {
  levels = tt;
  scopes = tt;
  tables = λ name. refl;
  functions = λ name. refl;
})
