-- The items of FROM. ISO/IEC 9075-2, 7.5 (from clause), 7.6 (table reference) and 7.10 (joined
-- table).
use Rattle.std.specs.Prelude.{ℕ, ◌+◌, ◌==◌, Bool, true, false, not, if◌then◌else◌, List, [], ◌∷◌}
use Rattle.std.specs.Prelude.{◌++◌, map, length, drop, Option, Some, None, is_some}
use Rattle.std.specs.List.{list_any}
use Rattle.syntax_trees.specs.declared.anchor.Anchor.{Anchor}
use Rattle.syntax_trees.specs.declared.anchor.Ident.{Ident}
use Rattle.row_types.specs.declared.ColumnType.{ColumnType}
use Rattle.row_types.specs.declared.RowType.{RowType}
use Rattle.bound_trees.specs.declared.expr.BoundExpr.{BoundExpr}
use Rattle.bound_trees.specs.declared.query.BoundFromItem.{BoundFromItem}
use Rattle.bound_trees.specs.declared.query.BoundFromItem.TheVariants as item
use Rattle.bound_trees.specs.declared.query.BoundSource.{BoundSource}
use Rattle.bound_trees.specs.declared.query.BoundSource.TheVariants as source
use Rattle.catalog_store.specs.Catalog.{Object, TableObject, FunctionObject, InterpretedObject}
use Rattle.catalog_store.specs.Catalog.{ProcedureObject, Catalog, object_named}
use Rattle.bind_faults.specs.declared.fault.Fault.{Fault}
use Rattle.bind_faults.specs.declared.fault.FaultKind.TheVariants.{DuplicateName, WrongCount}
use Rattle.bind_faults.specs.Faults.{Noted, give, ◌>>◌, fault_if}
use Rattle.bind_kinds.specs.declared.kind.Kind.{Kind}
use Rattle.bind_kinds.specs.declared.kind.Kind.TheVariants.{Null}
use Rattle.bind_kinds.specs.Kinds.{kind_of_type}
use Rattle.bind_sight.specs.declared.item.Item.{Item}
use Rattle.bind_sight.specs.declared.key.GroupingKey.{GroupingKey}
use Rattle.bind_sight.specs.declared.output.Output.{Output}
use Rattle.bind_sight.specs.Sight.{Level, Seen, is_named}
use Rattle.bind_names.specs.declared.asked.Join.{Join}
use Rattle.bind_names.specs.Asked.{keeps_unmatched}
pub use Rattle.bind_names.specs.Asked.{unknown_table, table_uses, table_head}
use Rattle.bind_parts.specs.declared.from.Opened.{Opened}
use Rattle.bind_parts.specs.declared.typed.TypedSource.{TypedSource}
use Rattle.bind_parts.specs.declared.typed.TypedQuery.{TypedQuery}

-- ---- tables

-- the table that an object of the catalog is, if it is one
abbrev pub table_in : Option Object → Option RowType
table_in None = None
table_in (Some (TableObject t)) = Some t
table_in (Some (FunctionObject f)) = None
table_in (Some (InterpretedObject f)) = None
table_in (Some (ProcedureObject p)) = None

-- the table of a name
abbrev pub table_named : List ℕ → Catalog → Option RowType
table_named name catalog = table_in (object_named name catalog)

-- a table's column as one of a row, of the kind of its type
abbrev pub output_of : ColumnType → Output
output_of c = record { name = Some c.name; kind = kind_of_type c.data_type }

-- a table that is not known has no column by itself
abbrev pub columns_of : Option RowType → List Output
columns_of None = []
columns_of (Some t) = map output_of t.columns

-- the name that is written for a table, or the table's
abbrev pub called_as : Option Ident → Ident → Ident
called_as None table = table
called_as (Some alias) table = alias

-- what an item of this name stands for
abbrev pub sourced : Ident → List Output → Bool → BoundSource → TypedSource
sourced i columns known source = record {
  name = i.name;
  at = i.anchor;
  columns = columns;
  known =
      known;
  source = source;
}

-- a table as an item of FROM, under its own name or the one that is written, with what it asks
abbrev pub table_source : Ident → Option Ident → Option RowType → Noted TypedSource
table_source i alias t = record {
  value = sourced (called_as alias i) (columns_of t) (is_some t) (source.Table i.name);
  faults = unknown_table i t;
  uses = table_uses i.name t;
}

-- by its name, among the tables of the catalog
abbrev pub table_judge : Ident → Option Ident → Seen → Noted TypedSource
table_judge i alias outer = table_source i alias (table_named i.name outer.catalog)

-- ---- derived tables

-- a column of a name and a kind
abbrev pub named_output : List ℕ → Kind → Output
named_output name kind = record { name = Some name; kind = kind }

-- columns by a list of names; those past the query's are of kind Null
abbrev pub renamed_all : List Ident → List Output → List Output
renamed_all [] cs = []
renamed_all (n ∷ ns) [] = named_output n.name Null ∷ renamed_all ns []
renamed_all (n ∷ ns) (c ∷ cs) = named_output n.name c.kind ∷ renamed_all ns cs

-- without a list they keep their own names
abbrev pub renamed : List Ident → List Output → List Output
renamed [] cs = cs
renamed (n ∷ ns) cs = renamed_all (n ∷ ns) cs

-- a list has as many names as the query has columns
abbrev pub list_faults : Anchor → List Ident → List Output → List Fault
list_faults at [] cs = []
list_faults at (n ∷ ns) cs = fault_if (not (length (n ∷ ns) == length cs)) WrongCount at

-- a derived table as an item of FROM, with what is asked of its list of names
abbrev pub derived_source : Ident → List Ident → TypedQuery → Noted TypedSource
derived_source i names q = list_faults i.anchor names q.columns >> give
    (sourced i (renamed names q.columns) true (source.Derived q.tree))

-- ---- what FROM brings in sight

-- FROM before its first item
abbrev pub nothing_open : Opened
nothing_open = record { items = []; first_item = 0; base = 0; width = 0; from = [] }

-- after a comma ON sees no item before it
abbrev pub begun : Opened → Opened
begun so = record {
  items = so.items;
  first_item = length so.items;
  base = so.width;
  width =
      so.width;
  from = so.from;
}

-- the width of FROM's row, with an item's columns more
abbrev pub wider : ℕ → ℕ → ℕ
wider width columns = width + columns

-- one item more of this name, whose columns stand right of the others
abbrev pub with_columns : Opened → List ℕ → List Output → Bool → Opened
with_columns so name columns known = record {
  items = so.items ++ record { name = name; columns = columns; first = so.width; known = known } ∷
      [];
  first_item = so.first_item;
  base = so.base;
  width = wider so.width (length columns);
  from = so.from;
}

-- one item more in sight, of its own name and columns
abbrev pub with_item : Opened → TypedSource → Opened
with_item so s = with_columns so s.name s.columns s.known

-- one bound item of FROM more
abbrev pub with_from : Opened → BoundFromItem → Opened
with_from so f = record {
  items = so.items;
  first_item = so.first_item;
  base = so.base;
  width =
      so.width;
  from = so.from ++ f ∷ [];
}

-- what a join is bound to, with its conjuncts
abbrev pub on_item : Join → BoundSource → List BoundExpr → BoundFromItem
on_item join s on = if keeps_unmatched join then item.Left s on else item.Inner s on

-- ON sees the items from the last comma up to its own, and the row of these
abbrev pub on_level : Opened → Level
on_level so = record {
  items = drop so.first_item so.items;
  base = so.base;
  keys = [];
  grouped =
      false;
  aggregates = false;
}

-- WHERE and GROUP BY see all items
abbrev pub row_level : Opened → Level
row_level so = record { items = so.items; base = 0; keys = []; grouped = false; aggregates = false }

-- and so do the list and HAVING; in a grouped query by its grouping columns
abbrev pub list_level : Opened → List GroupingKey → Bool → Level
list_level so keys grouped = record {
  items = so.items;
  base = 0;
  keys = keys;
  grouped = grouped;
  aggregates = grouped;
}

-- ---- one item more

-- two items of one name
abbrev pub repeated_item : TypedSource → List Item → List Fault
repeated_item s is = fault_if (list_any (is_named s.name) is) DuplicateName s.at

-- one item more, in sight and bound in this form; its name is that of none before it
abbrev pub put : (BoundSource → BoundFromItem) → Opened → TypedSource → Noted Opened
put form so s = repeated_item s so.items >> give (with_from (with_item so s) (form s.source))

-- an item after a comma, or the first: ON after it sees no item before it
abbrev pub put_comma : Opened → TypedSource → Noted Opened
put_comma so = put (λ s. item.Comma s) (begun so)

-- an item after CROSS JOIN
abbrev pub put_cross : Opened → TypedSource → Noted Opened
put_cross = put (λ s. item.Cross s)
