-- A well typed query has a well formed plan over a catalog whose functions have well typed bodies.
use Rattle.std.proofs.Common.{◌≡◌, ℕ, suc, true, List, [], ◌∷◌, length, map, Option, Some}
use Rattle.std.proofs.Common.{None, refl}
use Rattle.std.proofs.Common.{Result, Ok, Err, ap, subst}
use Rattle.std.specs.List.{IsDistinct}
use Rattle.std.specs.Prelude.{IfOk, IsSome}
use Rattle.std.specs.Str.{bytes_eq}
use Rattle.sql_texts.specs.declared.memory.NoMemory.{NoMemory}
use Rattle.row_types.specs.declared.ColumnType.{ColumnType}
use Rattle.bound_trees.specs.declared.query.BoundQuery.{BoundQuery}
use Rattle.bind_kinds.specs.declared.kind.Kind.{Kind}
use Rattle.rel_algebra.specs.Emit.{plan, top}
use Rattle.rel_algebra.specs.Joins.{table_width}
use Rattle.rel_algebra.specs.Kinds.{table_widths, tree_good, type_kind}
use Rattle.rel_algebra.specs.Plain.{planned}
use Rattle.rel_algebra.specs.Plan.{PlanTree}
use Rattle.rel_algebra.specs.WellFormed.{tree_fits}
use Rattle.catalog_store.specs.Catalog.{Catalog, Object, TableObject, FunctionObject}
use Rattle.catalog_store.specs.Catalog.{InterpretedObject, ProcedureObject, names_of, object_named}
use Rattle.catalog_store.specs.Entries.{plain}
use Rattle.catalog_store.specs.View.{query_of}
use Rattle.catalog_store.specs.Widths.{object_width, width_in}
use Rattle.bind_statements.specs.Types.{around}
use Rattle.typing_trees.specs.Queries.{kinds_of_query}
use Rattle.typing_plans.specs.Bodies.{BodiesTyped, FunctionsOf, TablesOf, kinds_in, object_kinds}
use Rattle.typing_plans.proofs.Laws.{typed_plans_fit, typed_plans_kinded}
use Rattle.psm_effects.specs.Database.{Plain}
use Rattle.psm_effects.specs.Preparing.{IsPlanOf, IsPrepared, KeepsForm, plan_in}
use Rattle.psm_effects.specs.Shapes.{IsWhole}
use Rattle.psm_effects.specs.declared.prepared.Prepared.{Prepared}
use Rattle.psm_effects.proofs.Laws.{same_widths}
use Rattle.psm_session.specs.Bodies.{Held, HasTypedBodies, IsTypedQuery}
use Rattle.psm_session.proofs.Made.{table-of, function-of}

tables-here : (known : Catalog) → TablesOf (around [] None known) known
tables-here known name t e = table-of (object_named name known) t e

functions-here : (known : Catalog) → FunctionsOf (around [] None known) known
functions-here known name h f e is = function-of (object_named name known) h f e is

-- ---- widths and kinds of tables

column-kinds : (cs : List ColumnType) →
    length (map (λ (c : ColumnType). type_kind c.data_type) cs) ≡ length cs
column-kinds [] = refl
column-kinds (c ∷ cs) = ap (λ (n : ℕ). suc n) (column-kinds cs)

many-kinds : (o : Option Object) → length (object_kinds o) ≡ object_width o
many-kinds None = refl
many-kinds (Some (TableObject row_type)) = column-kinds row_type.columns
many-kinds (Some (FunctionObject f)) = refl
many-kinds (Some (InterpretedObject f)) = refl
many-kinds (Some (ProcedureObject p)) = refl

catalog-widths : (known : Catalog) → table_widths (kinds_in known) ≡ width_in known
catalog-widths known = λ i name. many-kinds (object_named name known) i

-- ---- plans of entries, and of the catalog that shows them

-- the query has a well formed plan over the catalog, where it is well typed and has a plan
abbrev Formed : BoundQuery → Catalog → Type 0
Formed q known = (kinds : List Kind) → kinds_of_query q (around [] None known) ≡ Some kinds →
    planned (query_of known q) ≡ true →
    (tree_fits (plan (query_of known q) (width_in known) (top 0)) (width_in known) [] 0 ≡ true) ×
    (tree_good (plan (query_of known q) (width_in known) (top 0)) (kinds_in known) [] [] ≡ true)

formed : (q : BoundQuery) (es : List Held) → BodiesTyped [] es → Formed q (plain es)
formed q es typed kinds k p =
    let known = plain es in
    let good = (typed_plans_kinded es q (around [] None known) kinds [] typed (tables-here known)
    (functions-here known) refl tt k p).good in (
      typed_plans_fit es q (around [] None known) kinds 0 typed (tables-here known) k p,
      subst (λ (widths : List ℕ → ℕ). tree_good (plan (query_of known q) widths (top 0))
          (kinds_in known) [] [] ≡ true) (catalog-widths known) good,
    )

some-kinds : (o : Option (List Kind)) → IsSome o → (kinds : List Kind) × (o ≡ Some kinds)
some-kinds None h = absurd cc
some-kinds (Some kinds) h = (kinds, refl)

-- what is one of a well typed query, and as well formed as its plan, prepares it
pub is-prepared : (known : Catalog) (q : BoundQuery) (p : PlanTree) → HasTypedBodies known →
    IsTypedQuery known q → planned (query_of known q) ≡ true →
    IsPlanOf (query_of known q) (width_in known) p →
    KeepsForm (query_of known q) (width_in known) p →
    IsPrepared (query_of known q) (width_in known) (kinds_in known) p
is-prepared known q p bodies typed has_plan is_plan form =
    let kinds = some-kinds (kinds_of_query q (around [] None known)) typed in
    let well = subst (Formed q) bodies.shown (formed q bodies.entries bodies.typed) kinds.0 kinds.1
    has_plan in
    record {
      is_plan = is_plan;
      fits = form.fits well.0;
      kinded = form.kinded (kinds_in known) well.1;
    }

-- and for the tables of a database whose catalog it is
pub prepared-here : (db : Plain) (q : BoundQuery) (r : Result Prepared NoMemory) → IsWhole db →
    IsDistinct bytes_eq (names_of db.catalog) → HasTypedBodies db.catalog →
    IsTypedQuery db.catalog q → planned (query_of db.catalog q) ≡ true →
    IfOk r (λ p. IsPlanOf (query_of db.catalog q) (width_in db.catalog) (plan_in p)) →
    IfOk r (λ p. KeepsForm (query_of db.catalog q) (width_in db.catalog) (plan_in p)) →
    IfOk r (λ p. IsPrepared (query_of db.catalog q) (table_width db.tables)
    (kinds_in db.catalog) (plan_in p))
prepared-here db q (Ok p) whole distinct bodies typed has_plan is_plan form =
    subst (λ (widths : List ℕ → ℕ). IsPrepared (query_of db.catalog q) widths
    (kinds_in db.catalog) (plan_in p)) (same_widths db whole distinct)
    (is-prepared db.catalog q (plan_in p) bodies typed has_plan is_plan form)
prepared-here db q (Err e) whole distinct bodies typed has_plan is_plan form = tt
