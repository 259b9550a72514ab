-- INSERT, UPDATE and DELETE: what each is bound to, and the name faults in it. ISO/IEC 9075-2,
-- 14.11 (insert statement), 14.14 (searched update statement), 14.15 (set clause list), 14.9
-- (searched delete statement) and 9.2 (store assignment).
use Rattle.std.specs.Prelude.{ℕ, zero, suc, ◌==◌, true, false, not, ◌&&◌, List, [], ◌∷◌, ◌++◌, map}
use Rattle.std.specs.Prelude.{length, get_or, if◌then◌else◌, Option, Some, None}
use Rattle.syntax_trees.specs.declared.anchor.Ident.{Ident}
use Rattle.syntax_trees.specs.declared.expr.Expr.{Expr}
use Rattle.statement_trees.specs.declared.writing.Assignment.{Assignment}
use Rattle.statement_trees.specs.declared.writing.Delete.{Delete}
use Rattle.statement_trees.specs.declared.writing.Insert.{Insert}
use Rattle.statement_trees.specs.declared.writing.Update.{Update}
use Rattle.row_types.specs.declared.RowType.{RowType}
use Rattle.bound_trees.specs.declared.expr.BoundExpr.{BoundExpr}
use Rattle.bound_trees.specs.declared.expr.BoundExpr.TheVariants as expr
use Rattle.bound_trees.specs.declared.query.BoundFromItem.{BoundFromItem}
use Rattle.bound_trees.specs.declared.query.BoundFromItem.TheVariants as item
use Rattle.bound_trees.specs.declared.query.BoundQuery.{BoundQuery}
use Rattle.bound_trees.specs.declared.query.BoundQuery.TheVariants as query
use Rattle.bound_trees.specs.declared.query.BoundSelect.{roll-BoundSelect}
use Rattle.bound_trees.specs.declared.query.BoundSource.TheVariants as source
use Rattle.bound_trees.specs.declared.change.BoundDelete.{BoundDelete}
use Rattle.bound_trees.specs.declared.change.BoundUpdate.{BoundUpdate}
use Rattle.catalog_store.specs.Catalog.{Catalog}
use Rattle.bind_faults.specs.declared.fault.Fault.{Fault}
use Rattle.bind_faults.specs.declared.fault.FaultKind.TheVariants.{UnknownName, WrongCount}
use Rattle.bind_faults.specs.Faults.{Noted, after, ◌>>=◌, ◌>>◌, as_value, both, fault_if}
use Rattle.bind_kinds.specs.declared.kind.Kind.{Kind}
use Rattle.bind_kinds.specs.declared.kind.Kind.TheVariants.{Null}
use Rattle.bind_kinds.specs.Kinds.{kind_of_type, misfit}
use Rattle.bind_sight.specs.Index.{place_of}
use Rattle.bind_sight.specs.Sight.{Seen, inside, inside_writing}
use Rattle.bind_parts.specs.declared.from.Opened.{Opened}
use Rattle.bind_parts.specs.declared.typed.Typed.{Typed}
use Rattle.bind_parts.specs.declared.typed.TypedQuery.{TypedQuery}
use Rattle.bind_parts.specs.From.{table_named, table_judge, nothing_open, put_comma, row_level}
use Rattle.bind_parts.specs.Turns.{each_noted}
use Rattle.bind_queries.specs.Lists.{judged_filter}
use Rattle.bind_queries.specs.Names.{judge}
use Rattle.bind_queries.specs.Queries.{judge_query, maybe}
use Rattle.bind_changes.specs.declared.insert.ListedInsert.{ListedInsert}
use Rattle.bind_changes.specs.declared.target.Target.{Target}
use Rattle.bind_rules.specs.Names.{list_faults, places_in}

-- what is made of a value, with what is asked of it
abbrev pub asked : {A B : Type 0} → (A → B) → (A → List Fault) → Noted A → Noted B
asked make faults x = record {
  value = make x.value;
  faults = x.faults ++ faults x.value;
  uses =
      x.uses;
}

-- ---- the table that is written

-- the names and kinds of a table's columns; one that is not known has no column by itself
abbrev pub target_of : Option RowType → Target
target_of None = record { names = []; kinds = []; known = false }
target_of (Some t) = record {
  names = map (λ c. c.name) t.columns;
  kinds =
      map (λ c. kind_of_type c.data_type) t.columns;
  known = true;
}

-- the columns of the table of a name
abbrev pub target_named : List ℕ → Catalog → Target
target_named name catalog = target_of (table_named name catalog)

-- the kind at a place
abbrev pub kind_at : List Kind → ℕ → Kind
kind_at kinds place = get_or kinds place Null

-- the kind of a column; of one that is not known it is Null, which fits every kind
abbrev pub kind_in : List Kind → Option ℕ → Kind
kind_in kinds None = Null
kind_in kinds (Some place) = kind_at kinds place

-- the kind of a column by its name
abbrev pub kind_named : Target → Ident → Kind
kind_named to i = kind_in to.kinds (place_of i.name to.names)

-- no column is assigned twice, and each is one of a table that is known
abbrev pub target_faults : Target → List Ident → List Fault
target_faults to is = list_faults to.known to.names is

-- ---- INSERT

-- UnknownName where the table is not known
abbrev pub unknown_target : Ident → Target → List Fault
unknown_target i to = fault_if (not to.known) UnknownName i.anchor

-- the kinds of the columns into which values are stored: those that are listed, or all
abbrev pub kinds_into : Target → List Ident → List Kind
kinds_into to [] = to.kinds
kinds_into to (i ∷ is) = map (kind_named to) (i ∷ is)

-- the query has as many columns as are listed, or as a known table has
abbrev pub wrong_width : Target → List Ident → TypedQuery → List Fault
wrong_width to [] q = fault_if (to.known && not (length q.columns == length to.kinds)) WrongCount
    q.at
wrong_width to (i ∷ is) q = fault_if (not (length q.columns == length (i ∷ is))) WrongCount q.at

-- the places of the columns that are listed, where some are
abbrev pub listed : Target → List Ident → Option (List ℕ)
listed to [] = None
listed to (i ∷ is) = Some (places_in to.names (i ∷ is))

-- the bound INSERT, of its bound query
abbrev pub rows_into : Insert → Target → TypedQuery → ListedInsert
rows_into s to q = record {
  insert = record { table = s.table.name; source = q.tree };
  listed =
      listed to s.columns;
}

-- what is asked of the table, and of the columns that are listed
abbrev pub into_faults : Insert → Target → List Fault
into_faults s to = unknown_target s.table to ++ target_faults to s.columns

-- the table that is written is used
abbrev pub uses_of : Ident → Target → Noted (Unit {0})
uses_of i to = record { value = tt; faults = []; uses = if to.known then i.name ∷ [] else [] }

-- the query of an INSERT, in which no writing function is called
abbrev pub source_of : Insert → Target → Seen → Noted TypedQuery
source_of s to outer = judge_query (kinds_into to s.columns) s.source (inside_writing outer)

-- the bound INSERT of its query
abbrev pub judged_rows : Insert → Target → Seen → Noted ListedInsert
judged_rows s to outer = asked (rows_into s to) (wrong_width to s.columns) (source_of s to outer)

-- its query, after the table is noted as used
abbrev pub insert_used : Insert → Target → Seen → Noted ListedInsert
insert_used s to outer = after (uses_of s.table to) (judged_rows s to outer)

-- an INSERT into a table whose columns are known
abbrev pub insert_into : Insert → Target → Seen → Noted ListedInsert
insert_into s to outer = into_faults s to >> insert_used s to outer

-- INSERT: the bound statement, its faults and what it uses
abbrev pub judged_insert : Insert → Seen → Noted ListedInsert
judged_insert s outer = insert_into s (target_named s.table.name outer.catalog) outer

-- ---- the rows that are met

-- the table in sight, under its own name
abbrev pub opened : Ident → Seen → Noted Opened
opened i outer = table_judge i None outer >>= put_comma nothing_open

-- what is in sight with the table's row before all
abbrev pub in_row : Seen → Opened → Seen
in_row outer so = inside (row_level so) outer

-- so many columns of the row from one on
abbrev pub columns_from : ℕ → ℕ → List BoundExpr
columns_from place zero = []
columns_from place (suc more) = expr.Column 0 place ∷ columns_from (suc place) more

-- a table as the only item of FROM
abbrev pub from_table : List ℕ → List BoundFromItem
from_table name = item.Comma (source.Table name) ∷ []

-- the rows of a table that pass the conjuncts, by these items
abbrev pub met_of : List ℕ → List BoundExpr → List BoundExpr → BoundQuery
met_of name items conjuncts = query.Select (roll-BoundSelect
    (record { items = items; from = from_table name; conjuncts = conjuncts; grouping = None }))

-- the rows of a table of so many columns that pass the conjuncts, each with values after it
abbrev pub met_query : List ℕ → ℕ → List BoundExpr → List BoundExpr → BoundQuery
met_query name width values conjuncts = met_of name (columns_from 0 width ++ values) conjuncts

-- the conjuncts of WHERE
abbrev pub judged_where : Option Expr → Seen → Noted (List BoundExpr)
judged_where filter seen = judged_filter (maybe filter) seen

-- and with the table's row in sight
abbrev pub where_over : Ident → Option Expr → Seen → Noted (List BoundExpr)
where_over table filter outer = opened table outer >>= λ so. judged_where filter (in_row outer so)

-- ---- UPDATE

-- a value, of the kind of its column
abbrev pub of_kind : Kind → Noted Typed → Noted BoundExpr
of_kind kind t = asked (λ x. x.tree) (λ x. misfit kind x.head) t

-- the value of an assignment
abbrev pub judged_value : Target → Seen → Assignment → Noted BoundExpr
judged_value to seen a = of_kind (kind_named to a.target) (judge a.value seen)

-- one value more
abbrev pub one_value : Target → Seen → List BoundExpr → Assignment → Noted (List BoundExpr)
one_value to seen so a = as_value (λ e. so ++ e ∷ []) (judged_value to seen a)

-- the values, in the order in which they are written
abbrev pub judged_values : Target → Seen → List Assignment → Noted (List BoundExpr)
judged_values to seen sets = each_noted (one_value to seen) [] sets

-- the columns that are assigned, as they are written
abbrev pub assigned : Update → List Ident
assigned s = map (λ a. a.target) s.assignments

-- the items of the rows that are met: their columns, and the new values after them
abbrev pub items_to_update : Update → Target → Seen → List BoundExpr
items_to_update s to seen = columns_from 0 (length to.kinds) ++
    (judged_values to seen s.assignments).value

-- the query of the rows that are met, each with its new values after it
abbrev pub rows_to_update : Update → Target → Seen → Noted BoundQuery
rows_to_update s to seen =
    both (met_query s.table.name (length to.kinds)) (judged_values to seen s.assignments)
    (judged_where s.filter seen)

-- the bound UPDATE, of its bound query
abbrev pub with_targets : Update → Target → BoundQuery → BoundUpdate
with_targets s to rows = record {
  table = s.table.name;
  targets = places_in to.names (assigned s);
  rows = rows;
}

-- an UPDATE with the row of its table in sight
abbrev pub update_in : Update → Target → Seen → Noted BoundUpdate
update_in s to seen = target_faults to (assigned s) >> as_value (with_targets s to)
    (rows_to_update s to seen)

-- an UPDATE of a table whose columns are known
abbrev pub update_over : Update → Target → Seen → Noted BoundUpdate
update_over s to outer = opened s.table outer >>= λ so. update_in s to (in_row outer so)

-- UPDATE: the bound statement, its faults and what it uses
abbrev pub judged_update : Update → Seen → Noted BoundUpdate
judged_update s outer = update_over s (target_named s.table.name outer.catalog)
    (inside_writing outer)

-- ---- DELETE

-- the bound DELETE, of the conjuncts of its WHERE
abbrev pub of_rows : Delete → Target → List BoundExpr → BoundDelete
of_rows s to conjuncts = record {
  table = s.table.name;
  rows =
      met_query s.table.name (length to.kinds) [] conjuncts;
}

-- a DELETE from a table whose columns are known
abbrev pub delete_over : Delete → Target → Seen → Noted BoundDelete
delete_over s to outer = as_value (of_rows s to) (where_over s.table s.filter outer)

-- DELETE: the bound statement, its faults and what it uses
abbrev pub judged_delete : Delete → Seen → Noted BoundDelete
judged_delete s outer = delete_over s (target_named s.table.name outer.catalog)
    (inside_writing outer)
