-- The names in sight of an expression, and what a name stands for. ISO/IEC 9075-2, 5.4 (names), 6.6
-- (identifier chain) and 7.6 (table reference).
use Rattle.std.specs.Prelude.{ℕ, ◌+◌, ◌-◌, ◌==◌, Bool, true, false, ◌&&◌, not, if◌then◌else◌, List}
use Rattle.std.specs.Prelude.{[], ◌∷◌, map, position, Option, Some, None, is_some}
use Rattle.std.specs.List.{list_any}
use Rattle.std.specs.Str.{bytes_eq}
use Rattle.syntax_trees.specs.declared.anchor.ColumnName.{ColumnName}
use Rattle.syntax_trees.specs.declared.anchor.Ident.{Ident}
use Rattle.bind_kinds.specs.declared.kind.Kind.{Kind}
use Rattle.catalog_store.specs.Catalog.{Catalog}
use Rattle.bind_sight.specs.declared.item.Item.{Item}
use Rattle.bind_sight.specs.declared.output.Hit.{Hit}
use Rattle.bind_sight.specs.declared.output.Hit.TheVariants.{Nowhere, Once, Twice}
use Rattle.bind_sight.specs.declared.scope.EnclosingRoutine.{EnclosingRoutine}
use Rattle.bind_sight.specs.declared.scope.Scope.{Scope}
use Rattle.bind_sight.specs.declared.scope.Variable.{Variable as Held}
use Rattle.bind_sight.specs.declared.sight.Referent.{Referent}
use Rattle.bind_sight.specs.declared.sight.Referent.TheVariants.{Column, Guessed, Variable, Barred}
use Rattle.bind_sight.specs.declared.sight.Referent.TheVariants.{Several, Unknown}
use Rattle.bind_sight.specs.declared.key.GroupingKey.{GroupingKey}
use Rattle.bind_sight.specs.declared.key.GroupingKey.TheVariants as key
use Rattle.bind_sight.specs.declared.sight.Level.{Level as CodeLevel}
use Rattle.bind_sight.specs.declared.sight.Sight.{Sight as CodeSight}
use Rattle.bind_sight.specs.Columns.{hits, together, or_else, moved}
use Rattle.bind_sight.specs.Scopes.{variable_named, loop_variable, scope_by}

-- What a query brings in sight: items of its FROM, and the place in its row at which the first of
-- them begins. In the list and in HAVING of a grouped query only its grouping columns are, and
-- aggregates may stand, but not in VALUES there.
pub record Level : Type 0 where
  pub items : List Item
  pub base : ℕ
  pub keys : List GroupingKey
  pub grouped : Bool
  pub aggregates : Bool

-- the queries and the scopes around an expression, the innermost first, the catalog, the routine in
-- whose body it stands, and whether it stands inside INSERT, UPDATE or DELETE
pub record Seen : Type 0 where
  pub levels : List Level
  pub scopes : List Scope
  pub catalog : Catalog
  pub own : Option EnclosingRoutine
  pub writing : Bool

-- ---- in one query

-- whether an item of FROM has this name
abbrev pub is_named : List ℕ → Item → Bool
is_named name i = bytes_eq i.name name

-- whether the name before the column, if there is one, is the item's
abbrev pub is_meant : Option Ident → Item → Bool
is_meant None i = true
is_meant (Some q) i = is_named q.name i

-- a column of an item, by its place in the row that begins at another column
abbrev pub hit_of : List ℕ → ℕ → Item → Hit
hit_of name base i = moved (i.first - base) (hits name i.columns)

-- two items have it, but after an item's name the first of them counts
abbrev pub joined : Bool → Hit → Hit → Hit
joined false first second = together first second
joined true first second = or_else first second

-- how often a name stands among the items so far and one more, which is looked into only where it
-- is meant
abbrev pub one_more : ColumnName → ℕ → Hit → Item → Hit
one_more c base hit i = if is_meant c.qualifier i then joined (is_some c.qualifier) hit
    (hit_of c.name.name base i) else hit

-- how often a name stands among items, after those that were looked into
abbrev pub among_from : ColumnName → ℕ → Hit → List Item → Hit
among_from c base hit [] = hit
among_from c base hit (i ∷ is) = among_from c base (one_more c base hit i) is

-- how often a name stands among items
abbrev pub among : ColumnName → ℕ → List Item → Hit
among c base is = among_from c base Nowhere is

-- an item that is not known has each column that no other item in sight has
abbrev pub is_unknown : Option Ident → Item → Bool
is_unknown q i = not i.known && is_meant q i

-- whether one of the items that are meant is not known
abbrev pub any_unknown : Option Ident → List Item → Bool
any_unknown q is = list_any (is_unknown q) is

-- known items of the name before the column hide those further outwards
abbrev pub hides : Option Ident → List Item → Bool
hides q is = (is_some q && list_any (is_meant q) is) && not (any_unknown q is)

-- ---- in a group

-- whether a grouping column is the column at this place of the query's row
abbrev pub is_own : ℕ → GroupingKey → Bool
is_own place (key.Own own) = own == place
is_own place (key.Guessed item name) = false
is_own place key.Other = false

-- whether a grouping column is the column of this name of the unknown item at this place of FROM
abbrev pub is_guess : ℕ → List ℕ → GroupingKey → Bool
is_guess item name (key.Own own) = false
is_guess item name (key.Guessed i n) = (i == item) && bytes_eq n name
is_guess item name key.Other = false

-- a column by its place among the grouping columns; one that is none of them may not be named
abbrev pub among_keys : ℕ → Kind → Option ℕ → Referent
among_keys level kind None = Barred
among_keys level kind (Some place) = Column level place kind

-- a column of a query's row; in its group it is one of the grouping columns, the first such
abbrev pub column_of : ℕ → ℕ → Kind → Bool → List GroupingKey → Referent
column_of level place kind false keys = Column level place kind
column_of level place kind true keys = among_keys level kind (position (is_own place) keys)

-- a column of an item that is not known is one of the grouping columns where it is of the same item
-- and the same name
abbrev pub guess_of : ℕ → ℕ → List ℕ → Bool → List GroupingKey → Referent
guess_of level item name false keys = Guessed level item
guess_of level item name true keys = if list_any (is_guess item name) keys then Guessed level item
    else Barred

-- ---- outwards

-- what the hits in one query say: one column, or two, or what the queries further outwards say
abbrev pub found_or : ℕ → Level → Hit → Referent → Referent
found_or level l Nowhere other = other
found_or level l (Once place kind) other = column_of level place kind l.grouped l.keys
found_or level l Twice other = Several

-- a column of a known item, of the innermost query outwards
abbrev pub outwards : ColumnName → ℕ → List Level → Referent → Referent
outwards c level [] other = other
outwards c level (l ∷ ls) other = found_or level l (among c l.base l.items)
    (if hides c.qualifier l.items then Unknown else outwards c (level + 1) ls other)

-- the place in FROM of the first item that is meant and not known
abbrev pub unknown_item : Option Ident → List Item → Option ℕ
unknown_item q is = position (is_unknown q) is

-- a column of an unknown item of one query, or what the queries further outwards say
abbrev pub guess_or : ℕ → ColumnName → Level → Option ℕ → Referent → Referent
guess_or level c l None other = other
guess_or level c l (Some item) other = guess_of level item c.name.name l.grouped l.keys

-- a column of an item that is not known, of the innermost query outwards
abbrev pub guess : ColumnName → ℕ → List Level → Referent → Referent
guess c level [] other = other
guess c level (l ∷ ls) other = guess_or level c l (unknown_item c.qualifier l.items)
    (guess c (level + 1) ls other)

-- a variable by its slot and its kind; where there is none the name stands for nothing
abbrev pub found_variable : Option (ℕ × Held) → Referent
found_variable None = Unknown
found_variable (Some v) = Variable v.0 v.1.kind

-- by its name alone, or after the name of a FOR loop
abbrev pub variable_by : Option Ident → List ℕ → List Scope → Option (ℕ × Held)
variable_by None name ss = variable_named name ss
variable_by (Some q) name ss = loop_variable q.name name ss

-- a variable, a parameter or a column of a FOR loop
abbrev pub variable : ColumnName → List Scope → Referent
variable c ss = found_variable (variable_by c.qualifier c.name.name ss)

-- a column of a known item, then of any that is not known, then a variable, a parameter or a column
-- of a FOR loop
abbrev pub stands_for : ColumnName → Seen → Referent
stands_for c seen = outwards c 0 seen.levels (guess c 0 seen.levels (variable c seen.scopes))

-- ---- grouping columns and aggregates

-- what GROUP BY names: a column of the query itself, or another value
abbrev pub key_of : Referent → List ℕ → GroupingKey
key_of (Column level place kind) name = if level == 0 then key.Own place else key.Other
key_of (Guessed level item) name = if level == 0 then key.Guessed item name else key.Other
key_of (Variable place kind) name = key.Other
key_of Barred name = key.Other
key_of Several name = key.Other
key_of Unknown name = key.Other

-- aggregates stand directly in the list and in HAVING of a grouped query
abbrev pub may_stand : List Level → Bool
may_stand [] = false
may_stand (l ∷ ls) = l.aggregates

-- the same queries around, with all columns of the innermost in sight and no aggregate allowed
abbrev pub ungrouped : List Level → List Level
ungrouped [] = []
ungrouped (l ∷ ls) = record {
  items = l.items;
  base = l.base;
  keys = l.keys;
  grouped = false;
  aggregates = false;
} ∷ ls

-- other queries around
abbrev pub at_levels : List Level → Seen → Seen
at_levels levels seen = record {
  levels = levels;
  scopes = seen.scopes;
  catalog = seen.catalog;
  own = seen.own;
  writing = seen.writing;
}

-- in the argument of an aggregate each column of its query is in sight, and no aggregate may stand
abbrev pub inside_aggregate : Seen → Seen
inside_aggregate seen = at_levels (ungrouped seen.levels) seen

-- the same queries around and the same columns in sight, with no aggregate allowed
abbrev pub without_aggregates : List Level → List Level
without_aggregates [] = []
without_aggregates (l ∷ ls) = record {
  items = l.items;
  base = l.base;
  keys = l.keys;
  grouped =
      l.grouped;
  aggregates = false;
} ∷ ls

-- in VALUES the same columns are in sight, and no aggregate may stand
abbrev pub inside_values : Seen → Seen
inside_values seen = at_levels (without_aggregates seen.levels) seen

-- ---- sights

-- where no name is in sight but those of the catalog
abbrev pub at_top : Catalog → Seen
at_top catalog = record { levels = []; scopes = []; catalog = catalog; own = None; writing = false }

-- in a query
abbrev pub inside : Level → Seen → Seen
inside level outside = at_levels (level ∷ outside.levels) outside

-- in a compound statement, a FOR loop or the body of a routine
abbrev pub in_scope : Scope → Seen → Seen
in_scope scope seen = record {
  levels = seen.levels;
  scopes = scope ∷ seen.scopes;
  catalog =
      seen.catalog;
  own = seen.own;
  writing = seen.writing;
}

-- in the body of a routine
abbrev pub in_routine : EnclosingRoutine → Seen → Seen
in_routine own seen = record {
  levels = seen.levels;
  scopes = seen.scopes;
  catalog = seen.catalog;
  own = Some own;
  writing = seen.writing;
}

-- in INSERT, UPDATE or DELETE
abbrev pub inside_writing : Seen → Seen
inside_writing seen = record {
  levels = seen.levels;
  scopes = seen.scopes;
  catalog = seen.catalog;
  own = seen.own;
  writing = true;
}

-- with another catalog
abbrev pub over_catalog : Catalog → Seen → Seen
over_catalog catalog seen = record {
  levels = seen.levels;
  scopes = seen.scopes;
  catalog = catalog;
  own = seen.own;
  writing = seen.writing;
}

-- ---- what the code's sight shows

-- what a query brings in sight, by its contents
abbrev pub level_by : CodeLevel → Level
level_by l = record {
  items = l.items.now;
  base = l.base;
  keys = l.keys.now;
  grouped = l.grouped;
  aggregates = l.aggregates;
}

-- what is in sight of an expression, by its contents
abbrev pub seen_by : CodeSight → Seen
seen_by s = record {
  levels = map level_by s.levels.now;
  scopes = map scope_by s.scopes.now;
  catalog = s.catalog.now;
  own = s.own.now;
  writing = s.writing;
}
