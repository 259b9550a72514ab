-- The queries of the rows that UPDATE and DELETE meet: what each stands for, and that it has a
-- plan.
use Rattle.std.proofs.Common.{◌≡◌, refl, ap, ap₂, ◌∙◌, ℕ, zero, suc, true, false, List, [], ◌∷◌}
use Rattle.std.proofs.Common.{◌++◌, length, Option, Some, None}
use Rattle.std.proofs.lemmas.Bool.{and_from, and_parts}
use Rattle.std.proofs.lemmas.List.{length-map}
use Rattle.std.specs.Prelude.{◌&&◌}
use Rattle.syntax_trees.specs.declared.expr.Expr.{Expr}
use Rattle.statement_trees.specs.declared.writing.Assignment.{Assignment}
use Rattle.bound_trees.specs.declared.expr.BoundExpr.{BoundExpr}
use Rattle.bound_trees.specs.declared.query.BoundFromItem.TheVariants as item
use Rattle.bound_trees.specs.declared.query.BoundSelect.{roll-BoundSelect}
use Rattle.bound_trees.specs.declared.query.BoundSource.TheVariants as source
use Rattle.rel_algebra.specs.Tree.{Exprs, MoreExprs, Table, Select}
use Rattle.rel_algebra.specs.Plain.{planned, planned_expr, planned_all}
use Rattle.catalog_store.specs.Catalog.{Object, TableObject, FunctionObject, InterpretedObject}
use Rattle.catalog_store.specs.Catalog.{ProcedureObject, Catalog, object_named}
use Rattle.catalog_store.specs.Planning.{AllPlanned}
use Rattle.catalog_store.specs.View.{after_comma, from_of, item_of, tree_of, exprs_of, query_of}
use Rattle.catalog_store.specs.Widths.{object_width}
use Rattle.catalog_store.proofs.Laws.{tree_of-Column, item_of-Comma, source_of-Table}
use Rattle.catalog_store.proofs.Laws.{query_of-Select, select_of-made}
use Rattle.data_change.specs.Met.{columns_then, met_rows}
use Rattle.bind_kinds.specs.declared.kind.Kind.TheVariants.{Boolean}
use Rattle.bind_kinds.specs.Kinds.{kind_of_type, misfit}
use Rattle.bind_sight.specs.Sight.{Seen, may_stand}
use Rattle.bind_parts.specs.From.{table_in}
use Rattle.bind_parts.specs.Turns.{each_noted}
use Rattle.bind_queries.specs.Names.{judge}
use Rattle.bind_queries.specs.Runs.{Runs, IsNew}
use Rattle.bind_queries.proofs.Laws.{front_nil, back_nil, fitting, conjuncts_planned, runs-parts}
use Rattle.bind_statements.specs.Binds.{MeetsRows}
use Rattle.bind_changes.specs.Writing.{target_of, target_named, kind_named, columns_from, met_query}
use Rattle.bind_changes.specs.Writing.{judged_where, one_value}

-- ---- what they stand for

module _ (known : Catalog) where
  row-columns : (from many : ℕ) (values : List BoundExpr) →
      exprs_of known (columns_from from many ++ values) ≡ columns_then from many
      (exprs_of known values)
  row-columns from zero values = refl
  row-columns from (suc many) values = ap₂ MoreExprs (tree_of-Column known 0 from)
      (row-columns (suc from) many values)

  from-table : (name : List ℕ) → from_of (item_of known (item.Comma (source.Table name)) ∷ []) ≡
      Table name
  from-table name = ap (λ j. from_of (j ∷ [])) (item_of-Comma known (source.Table name) ∙
      ap after_comma (source_of-Table known name))

  meets : (name : List ℕ) (width : ℕ) (values conjuncts : List BoundExpr)
      → query_of known (met_query name width values conjuncts) ≡ met_rows name width
      (exprs_of known values) (exprs_of known conjuncts)
  meets name width values conjuncts =
      query_of-Select known (roll-BoundSelect
      (record {
        items = columns_from 0 width ++ values;
        from =
            item.Comma (source.Table name) ∷ [];
        conjuncts = conjuncts;
        grouping = None;
      }))
      ∙ select_of-made known (columns_from 0 width ++ values) (item.Comma (source.Table name) ∷ [])
      conjuncts None
      ∙ ap₂ (λ es f. Select es f (exprs_of known conjuncts)) (row-columns 0 width values)
      (from-table name)

widths : (o : Option Object) → length (target_of (table_in o)).kinds ≡ object_width o
widths None = refl
widths (Some (TableObject t)) = length-map t.columns (λ c. kind_of_type c.data_type)
widths (Some (FunctionObject f)) = refl
widths (Some (InterpretedObject f)) = refl
widths (Some (ProcedureObject p)) = refl

-- ---- plans

columns-planned : (from many : ℕ) (values : Exprs) → planned_all values ≡ true →
    planned_all (columns_then from many values) ≡ true
columns-planned from zero values p = p
columns-planned from (suc many) values p = columns-planned (suc from) many values p

module _ (known : Catalog) where
  abbrev Planned : List BoundExpr → Type 0
  Planned es = planned_all (exprs_of known es) ≡ true

  planned-both : (es ds : List BoundExpr) → Planned es → Planned ds → Planned (es ++ ds)
  planned-both [] ds p q = q
  planned-both (e ∷ es) ds p q =
      let both = and_parts (planned_expr (tree_of known e)) (planned_all (exprs_of known es)) p in
      and_from (planned_expr (tree_of known e)) (planned_all (exprs_of known (es ++ ds))) both.0
      (planned-both es ds both.1 q)

  -- the rows that are met, with values and conjuncts that have plans
  pub rows-met : (name : List ℕ) (values conjuncts : List BoundExpr) → Planned values →
      Planned conjuncts
      → MeetsRows known name (met_query name (length (target_named name known).kinds) values
      conjuncts)
  rows-met name values conjuncts p q =
      let width = length (target_named name known).kinds in
      let vs = exprs_of known values in
      let cs = exprs_of known conjuncts in
      let rows = meets known name width values conjuncts in (
        ap planned rows ∙ and_from (planned_all (columns_then 0 width vs)) (planned_all cs)
            (columns-planned 0 width vs p) q,
        record {
          values = vs;
          conjuncts = cs;
          rows = rows ∙
              ap (λ n. met_rows name n vs cs) (widths (object_named name known));
        },
      )

module _ (known : Catalog) (all : AllPlanned known) (seen : Seen) (is : seen.catalog ≡ known)
    (bare : may_stand seen.levels ≡ false) (new : IsNew known seen.own) where
  judged-planned : (e : Expr) → (judge e seen).faults ≡ [] → Runs known (judge e seen).uses →
      planned_expr (tree_of known (judge e seen).value.tree) ≡ true
  judged-planned e p runs = (fitting known all e seen is bare p).1 new runs

  pub where-planned : (filter : Option Expr) → (judged_where filter seen).faults ≡ [] →
      Runs known (judged_where filter seen).uses → Planned known (judged_where filter seen).value
  where-planned None p runs = refl
  where-planned (Some e) p runs =
      let x = judge e seen in
      let free = front_nil x.faults (misfit Boolean x.value.head) p in
      conjuncts_planned known x.value.tree (judged-planned e free runs)

  pub values-planned : (n : List ℕ) (so : List BoundExpr) (sets : List Assignment) →
      Planned known so
      → (each_noted (one_value (target_named n known) seen) so sets).faults ≡ [] →
      Runs known (each_noted (one_value (target_named n known) seen) so sets).uses →
      Planned known (each_noted (one_value (target_named n known) seen) so sets).value
  values-planned n so [] q p runs = q
  values-planned n so (a ∷ sets) q p runs =
      let to = target_named n known in
      let x = judge a.value seen in
      let one = one_value to seen so a in
      let first = front_nil one.faults (each_noted (one_value to seen) one.value sets).faults p in
      let rest = back_nil one.faults (each_noted (one_value to seen) one.value sets).faults p in
      let both = runs-parts known x.uses
      (each_noted (one_value to seen) one.value sets).uses runs in
      let e = judged-planned a.value (front_nil x.faults
      (misfit (kind_named to a.target) x.value.head) first) both.0 in
      values-planned n (so ++ x.value.tree ∷ []) sets
      (planned-both known so (x.value.tree ∷ []) q (ap (λ b. b && true) e)) rest both.1
