-- INSERT, UPDATE and DELETE without faults note what they call.
use Rattle.std.proofs.Common.{◌≡◌, ℕ, zero, suc, false, List, [], ◌∷◌, ◌++◌, map, length, Option}
use Rattle.std.proofs.Common.{None, Some, refl, sym, ap, ◌∙◌, subst}
use Rattle.syntax_trees.specs.declared.expr.Expr.{Expr}
use Rattle.statement_trees.specs.declared.writing.Assignment.{Assignment}
use Rattle.statement_trees.specs.declared.writing.Delete.{Delete}
use Rattle.statement_trees.specs.declared.writing.Insert.{Insert}
use Rattle.statement_trees.specs.declared.writing.Update.{Update}
use Rattle.bound_trees.specs.declared.expr.BoundExpr.{BoundExpr}
use Rattle.bound_trees.specs.declared.expr.BoundExpr.TheVariants as expr
use Rattle.bound_trees.specs.declared.query.BoundSource.TheVariants as source
use Rattle.catalog_store.specs.Catalog.{Catalog}
use Rattle.catalog_store.specs.Planning.{AllPlanned}
use Rattle.catalog_store.specs.Uses.{Uses, reads, joined, uses_in, uses_in_item, uses_in_query}
use Rattle.catalog_store.proofs.Laws.{uses_in-Column, uses_in_item-Comma, uses_in_source-Table}
use Rattle.catalog_store.proofs.Laws.{uses_in_query-Select, uses_in_select-made}
use Rattle.bind_kinds.specs.declared.kind.Kind.TheVariants.{Boolean}
use Rattle.bind_kinds.specs.Kinds.{misfit}
use Rattle.bind_sight.specs.declared.scope.EnclosingRoutine.{EnclosingRoutine}
use Rattle.bind_sight.specs.Sight.{Seen, inside_writing, may_stand}
use Rattle.bind_queries.specs.Names.{judge}
use Rattle.bind_queries.proofs.Laws.{front_nil, back_nil, conjuncts_uses}
use Rattle.bind_changes.specs.Writing.{target_named, kind_named, target_faults, into_faults}
use Rattle.bind_changes.specs.Writing.{wrong_width, uses_of, kinds_into, source_of, judged_rows}
use Rattle.bind_changes.specs.Writing.{judged_insert, opened, in_row, columns_from, from_table}
use Rattle.bind_changes.specs.Writing.{met_query, judged_where, judged_value, one_value}
use Rattle.bind_changes.specs.Writing.{judged_values, assigned, judged_update}
use Rattle.bind_changes.specs.Writing.{judged_delete}
use Rattle.viewing_laws.specs.Calls.{CalledNames, names_called, expr_calls, query_calls}
use Rattle.listed_calls.proofs.Noted.{Listed, listed-back, EachListed, each-front, each-back}
use Rattle.listed_calls.proofs.Noted.{Notes, last-listed, Turn, turns, each_of}
use Rattle.listed_calls.proofs.Values.{UsesListed, uses-append}
use Rattle.listed_calls.proofs.Values.{listed-names, listed-uses, expr-uses, query-notes}

-- ---- INSERT

pub insert-notes : (s : Insert) (seen : Seen) → AllPlanned seen.catalog →
    Notes seen.own seen.catalog (λ b. query_calls b.insert.source) (judged_insert s seen)
insert-notes s seen all f =
    let to = target_named s.table.name seen.catalog in
    let q = source_of s to seen in
    let rows = back_nil (into_faults s to) (judged_rows s to seen).faults f in
    listed-back seen.own seen.catalog (uses_of s.table to).uses q.uses (query_calls q.value.tree)
    (query-notes seen.catalog all (inside_writing seen) refl (kinds_into to s.columns) s.source
    (front_nil q.faults (wrong_width to s.columns q.value) rows))

-- ---- the rows that are met

-- what the expressions of a list call
abbrev all_called : List BoundExpr → CalledNames
all_called es = names_called (joined (map uses_in es))

module _ (own : Option EnclosingRoutine) (known : Catalog) (uses : CalledNames) where
  abbrev Used : List BoundExpr → Type 0
  Used es = UsesListed own known uses (joined (map uses_in es))

  values-used : (es : List BoundExpr) → EachListed own known expr_calls uses es → Used es
  values-used [] h = tt
  values-used (e ∷ es) h = uses-append own known uses (uses_in e) (joined (map uses_in es))
      (listed-uses own known uses (uses_in e) h.0) (values-used es h.1)

  -- the columns of the row call nothing
  items-used : (place many : ℕ) (values : List BoundExpr) →
      EachListed own known expr_calls uses values → Used (columns_from place many ++ values)
  items-used place zero values h = values-used values h
  items-used place (suc more) values h =
      uses-append own known uses (uses_in (expr.Column 0 place))
      (joined (map uses_in (columns_from (suc place) more ++ values)))
      (subst (UsesListed own known uses) (sym (uses_in-Column 0 place)) tt)
      (items-used (suc place) more values h)

  met-listed : (name : List ℕ) (width : ℕ) (values conjuncts : List BoundExpr) →
      EachListed own known expr_calls uses values → Listed own known uses (all_called conjuncts) →
      Listed own known uses (query_calls (met_query name width values conjuncts))
  met-listed name width values conjuncts v c =
      let items = columns_from 0 width ++ values in
      let from = joined (map uses_in_item (from_table name)) in
      let tests = joined (map uses_in conjuncts) in
      let rest = joined (map uses_in items) in
      let same : uses_in_query (met_query name width values conjuncts) ≡ from ++ (tests ++ rest) =
      uses_in_query-Select _ ∙ uses_in_select-made items (from_table name) conjuncts None in
      let table : from ≡ reads name ∷ [] =
      ap (λ (us : Uses). us ++ []) (uses_in_item-Comma (source.Table name) ∙
      uses_in_source-Table name) in
      subst (λ us. Listed own known uses (names_called us)) (sym same)
      (listed-names own known uses (from ++ (tests ++ rest))
      (uses-append own known uses from (tests ++ rest)
      (subst (UsesListed own known uses) (sym table) (tt, tt))
      (uses-append own known uses tests rest (listed-uses own known uses tests c)
      (items-used 0 width values v))))

-- ---- in sight of a row

module _ (seen : Seen) (all : AllPlanned seen.catalog) (bare : may_stand seen.levels ≡ false) where
  expr-noted : (e : Expr) → Notes seen.own seen.catalog (λ x. expr_calls x.tree) (judge e seen)
  expr-noted e f =
      let x = judge e seen in
      listed-names seen.own seen.catalog x.uses (uses_in x.value.tree)
      (expr-uses seen.catalog all seen refl bare e f)

  -- the conjuncts of a test call what it calls
  where-notes : (filter : Option Expr) →
      Notes seen.own seen.catalog all_called (judged_where filter seen)
  where-notes None f = tt
  where-notes (Some e) f =
      let x = judge e seen in
      subst (λ us. Listed seen.own seen.catalog x.uses (names_called us))
      (sym (conjuncts_uses x.value.tree))
      (expr-noted e (front_nil x.faults (misfit Boolean x.value.head) f))

  value-turn : (table : List ℕ) (a : Assignment) →
      Turn (one_value (target_named table seen.catalog) seen)
      (EachListed seen.own seen.catalog expr_calls) a
  value-turn table a u so f h =
      let to = target_named table seen.catalog in
      let x = judge a.value seen in
      last-listed seen.own seen.catalog expr_calls u so (judged_value to seen a)
      (λ g. expr-noted a.value (front_nil x.faults
      (misfit (kind_named to a.target) x.value.head) g)) f h

  values-noted : (table : List ℕ) (sets : List Assignment) →
      (judged_values (target_named table seen.catalog) seen sets).faults ≡ [] →
      EachListed seen.own seen.catalog expr_calls
      (judged_values (target_named table seen.catalog) seen sets).uses
      (judged_values (target_named table seen.catalog) seen sets).value
  values-noted table sets f =
      turns (one_value (target_named table seen.catalog) seen)
      (EachListed seen.own seen.catalog expr_calls)
      (each-front seen.own seen.catalog expr_calls) sets (each_of (value-turn table) sets) [] [] f
      tt

-- ---- UPDATE

pub update-notes : (s : Update) (outer : Seen) → AllPlanned outer.catalog →
    Notes outer.own outer.catalog (λ b. query_calls b.rows) (judged_update s outer)
update-notes s outer all f =
    let to = target_named s.table.name outer.catalog in
    let table = opened s.table (inside_writing outer) in
    let seen = in_row (inside_writing outer) table.value in
    let values = judged_values to seen s.assignments in
    let tests = judged_where s.filter seen in
    let rows = values.faults ++ tests.faults in
    let free = back_nil (target_faults to (assigned s)) rows
    (back_nil table.faults (target_faults to (assigned s) ++ rows) f) in
    let uses = table.uses ++ (values.uses ++ tests.uses) in
    met-listed outer.own outer.catalog uses s.table.name (length to.kinds) values.value tests.value
    (each-back outer.own outer.catalog expr_calls table.uses (values.uses ++ tests.uses)
    values.value (each-front outer.own outer.catalog expr_calls values.uses tests.uses values.value
    (values-noted seen all refl s.table.name s.assignments
    (front_nil values.faults tests.faults free))))
    (listed-back outer.own outer.catalog table.uses (values.uses ++ tests.uses)
    (all_called tests.value) (listed-back outer.own outer.catalog values.uses tests.uses
    (all_called tests.value)
    (where-notes seen all refl s.filter (back_nil values.faults tests.faults free))))

-- ---- DELETE

pub delete-notes : (s : Delete) (outer : Seen) → AllPlanned outer.catalog →
    Notes outer.own outer.catalog (λ b. query_calls b.rows) (judged_delete s outer)
delete-notes s outer all f =
    let to = target_named s.table.name outer.catalog in
    let table = opened s.table (inside_writing outer) in
    let seen = in_row (inside_writing outer) table.value in
    let tests = judged_where s.filter seen in
    met-listed outer.own outer.catalog (table.uses ++ tests.uses) s.table.name (length to.kinds) []
    tests.value tt (listed-back outer.own outer.catalog table.uses tests.uses
    (all_called tests.value)
    (where-notes seen all refl s.filter (back_nil table.faults tests.faults f)))
