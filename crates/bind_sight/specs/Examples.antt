-- Worked rows: what names stand for.
use Rattle.std.specs.Prelude.{ℕ, ◌≡◌, true, false, List, [], ◌∷◌, None, Some, codes}
use Rattle.syntax_trees.specs.declared.anchor.ColumnName.{ColumnName}
use Rattle.syntax_trees.specs.declared.anchor.Ident.{Ident}
use Rattle.bind_kinds.specs.declared.kind.Kind.{Kind}
use Rattle.bind_kinds.specs.declared.kind.Kind.TheVariants.{Integer, Text, Boolean}
use Rattle.bind_sight.specs.declared.item.Item.{Item}
use Rattle.bind_sight.specs.declared.output.Output.{Output}
use Rattle.bind_sight.specs.declared.sight.Referent.{Referent}
use Rattle.bind_sight.specs.declared.sight.Referent.TheVariants.{Column, Guessed, Variable, Barred}
use Rattle.bind_sight.specs.declared.sight.Referent.TheVariants.{Several, Unknown}
use Rattle.bind_sight.specs.declared.key.GroupingKey.{GroupingKey}
use Rattle.bind_sight.specs.declared.key.GroupingKey.TheVariants.{Own, Guessed as GuessedKey, Other}
use Rattle.bind_sight.specs.declared.scope.Scope.{Scope}
use Rattle.bind_sight.specs.declared.scope.Variable.{Variable as Held}
use Rattle.bind_sight.specs.Scopes.{parameter_scope, loop_scope, condition_named, cursor_named}
use Rattle.bind_sight.specs.Sight.{Level, Seen, stands_for, key_of, may_stand, inside_aggregate}
use Rattle.bind_sight.specs.Sight.{inside_values}

-- a name, at a token that no row looks at
abbrev pub ident : List ℕ → Ident
ident name = record { name = name; anchor = record { token = 0; line = 1; column = 1 } }

-- c
abbrev pub plain : List ℕ → ColumnName
plain name = record { qualifier = None; name = ident name }

-- q.c
abbrev pub qualified : List ℕ → List ℕ → ColumnName
qualified q name = record { qualifier = Some (ident q); name = ident name }

-- a column of a name and a kind
abbrev pub column : List ℕ → Kind → Output
column name kind = record { name = Some name; kind = kind }

-- a column without a name
abbrev pub unnamed : Output
unnamed = record { name = None; kind = Boolean }

-- an item whose columns begin at a place of the row
abbrev pub item : List ℕ → ℕ → List Output → Item
item name first cs = record { name = name; columns = cs; first = first; known = true }

-- an item of this name that is not known
abbrev pub missing : List ℕ → Item
missing name = record { name = name; columns = []; first = 0; known = false }

-- a query that is not grouped, whose items begin at a column of its row
abbrev pub level : ℕ → List Item → Level
level base is = record { items = is; base = base; keys = []; grouped = false; aggregates = false }

-- the list or HAVING of a query that is grouped by these
abbrev pub group : List GroupingKey → List Item → Level
group keys is = record { items = is; base = 0; keys = keys; grouped = true; aggregates = true }

-- a variable of a kind, of which no type is said
abbrev pub held : Kind → Held
held kind = record { kind = kind; data_type = None }

-- of a routine with a parameter X
abbrev pub parameters : Scope
parameters = parameter_scope (codes "X" ∷ []) (held Text ∷ [])

-- inside these queries and these scopes
abbrev pub in_scopes : List Level → List Scope → Seen
in_scopes levels scopes = record {
  levels = levels;
  scopes = scopes;
  catalog = [];
  own = None;
  writing = false;
}

-- inside these queries, in a routine with a parameter X
abbrev pub seen : List Level → Seen
seen levels = in_scopes levels (parameters ∷ [])

-- T (K, A), and U (A, B) right of it
abbrev pub t : Item
t = item (codes "T") 0 (column (codes "K") Integer ∷ column (codes "A") Text ∷ [])

-- U, the second of two items: its first column is the third of the row
abbrev pub u : Item
u = item (codes "U") 2 (column (codes "A") Boolean ∷ column (codes "B") Integer ∷ [])

-- D, a derived table with two columns A and one without a name
abbrev pub d : Item
d = item (codes "D") 0 (column (codes "A") Integer ∷ unnamed ∷ column (codes "A") Integer ∷ [])

-- a query over T and U
abbrev pub both : Level
both = level 0 (t ∷ u ∷ [])

-- a row: what a name stands for inside these queries, in a routine with a parameter X
abbrev pub Stands : ColumnName → List Level → Referent → Type 0
Stands c levels found = stands_for c (seen levels) ≡ found

-- a name stands for one column at most: plain and with an item's name before it, in one item and in
-- two
pub record NamesStandForOne : Type 0 where
  pub first : Stands (plain (codes "K")) (both ∷ []) (Column 0 0 Integer)
  pub of_the_second_item : Stands (plain (codes "B")) (both ∷ []) (Column 0 3 Integer)
  pub in_two_items : Stands (plain (codes "A")) (both ∷ []) Several
  pub with_a_qualifier : Stands (qualified (codes "U") (codes "A")) (both ∷ []) (Column 0 2 Boolean)
  pub with_another_qualifier : Stands (qualified (codes "T") (codes "A")) (both ∷ [])
      (Column 0 1 Text)
  pub twice_in_one_item : Stands (plain (codes "A")) (level 0 (d ∷ []) ∷ []) Several
  pub twice_after_its_name : Stands (qualified (codes "D") (codes "A")) (level 0 (d ∷ []) ∷ [])
      Several
  pub first_item_of_a_name : Stands (qualified (codes "T") (codes "A"))
      (level 0 (t ∷ item (codes "T") 2 (column (codes "A") Integer ∷ []) ∷ []) ∷ [])
      (Column 0 1 Text)
  pub item_of_a_name_that_has_it : Stands (qualified (codes "T") (codes "C"))
      (level 0 (t ∷ item (codes "T") 2 (column (codes "C") Integer ∷ []) ∷ []) ∷ [])
      (Column 0 2 Integer)
  pub no_item_of_the_name : Stands (qualified (codes "V") (codes "A")) (both ∷ []) Unknown
  pub after_a_comma : Stands (plain (codes "A")) (level 2 (u ∷ []) ∷ []) (Column 0 0 Boolean)
  pub outside : Stands (plain (codes "B")) (level 0 (t ∷ []) ∷ both ∷ []) (Column 1 3 Integer)

-- what items hide: inner ones those outside and variables, known ones those that are not known
pub record ItemsHide : Type 0 where
  pub inner_column : Stands (plain (codes "A")) (level 0 (t ∷ []) ∷ both ∷ []) (Column 0 1 Text)
  pub inner_item_of_the_name : Stands (qualified (codes "T") (codes "B"))
      (level 0 (t ∷ []) ∷ level 0 (item (codes "T") 0 (column (codes "B") Integer ∷ []) ∷ []) ∷ [])
      Unknown
  pub not_an_unknown_one : Stands (qualified (codes "T") (codes "B"))
      (level 0 (missing (codes "T") ∷ []) ∷ level 0
      (item (codes "T") 0 (column (codes "B") Integer ∷ []) ∷ []) ∷ []) (Column 1 0 Integer)
  pub known_before_unknown : Stands (plain (codes "K"))
      (level 0 (missing (codes "V") ∷ []) ∷ both ∷ []) (Column 1 0 Integer)
  pub of_an_unknown_item : Stands (plain (codes "Z")) (level 0 (t ∷ missing (codes "V") ∷ []) ∷ [])
      (Guessed 0 1)
  pub of_an_unknown_item_by_name : Stands (qualified (codes "V") (codes "Z"))
      (level 0 (t ∷ missing (codes "V") ∷ []) ∷ []) (Guessed 0 1)
  pub unknown_item_of_another_name : Stands (qualified (codes "T") (codes "Z"))
      (level 0 (t ∷ missing (codes "V") ∷ []) ∷ []) Unknown
  pub variable : Stands (plain (codes "X")) (both ∷ []) (Variable 0 Text)
  pub unknown_item_before_variable : Stands (plain (codes "X"))
      (level 0 (missing (codes "V") ∷ []) ∷ []) (Guessed 0 0)
  pub no_variable_after_a_name : Stands (qualified (codes "T") (codes "X")) (both ∷ []) Unknown
  pub nothing : Stands (plain (codes "Z")) (both ∷ []) Unknown

-- ---- in groups

-- T and U grouped by A of T and B of U, and T and V, which is not known, by Z of V
abbrev pub by_two : Level
by_two = group (Own 1 ∷ Own 3 ∷ []) (t ∷ u ∷ [])

-- T, V and W grouped by Z of V, where V and W are not known
abbrev pub by_unknown : Level
by_unknown = group (GuessedKey 1 (codes "Z") ∷ [])
    (t ∷ missing (codes "V") ∷ missing (codes "W") ∷ [])

-- which columns a group lets be named, inside and outside of aggregates and VALUES, and where
-- aggregates may stand
pub record GroupsBar : Type 0 where
  pub grouping_column : Stands (plain (codes "B")) (by_two ∷ []) (Column 0 1 Integer)
  pub after_its_item : Stands (qualified (codes "T") (codes "A")) (by_two ∷ []) (Column 0 0 Text)
  pub first_of_equals : Stands (plain (codes "B"))
      (group (Own 0 ∷ Own 3 ∷ Own 3 ∷ []) (t ∷ u ∷ []) ∷ []) (Column 0 1 Integer)
  pub other_column : Stands (plain (codes "K")) (by_two ∷ []) Barred
  pub other_item : Stands (qualified (codes "U") (codes "A")) (by_two ∷ []) Barred
  pub in_two_items : Stands (plain (codes "A")) (by_two ∷ []) Several
  pub without_grouping_columns : Stands (plain (codes "K")) (group [] (t ∷ []) ∷ []) Barred
  pub of_an_unknown_item : Stands (plain (codes "Z")) (by_unknown ∷ []) (Guessed 0 1)
  pub other_of_an_unknown_item : Stands (plain (codes "Y")) (by_unknown ∷ []) Barred
  pub of_another_unknown_item : Stands (qualified (codes "W") (codes "Z")) (by_unknown ∷ []) Barred
  pub variable : Stands (plain (codes "X")) (by_two ∷ []) (Variable 0 Text)
  pub outer_column : Stands (plain (codes "B")) (group [] (t ∷ []) ∷ level 0 (t ∷ u ∷ []) ∷ [])
      (Column 1 3 Integer)
  pub column_of_an_outer_group : Stands (plain (codes "B")) (level 0 (t ∷ []) ∷ by_two ∷ [])
      (Column 1 1 Integer)
  pub other_column_of_an_outer_group : Stands (plain (codes "B"))
      (level 0 (t ∷ []) ∷ group [] (t ∷ u ∷ []) ∷ []) Barred
  pub in_an_aggregate : stands_for (plain (codes "K")) (inside_aggregate (seen (by_two ∷ []))) ≡
      Column 0 0 Integer
  pub outer_column_in_an_aggregate : stands_for (plain (codes "B"))
      (inside_aggregate (seen (group [] (t ∷ []) ∷ by_two ∷ []))) ≡ Column 1 1 Integer
  pub aggregate_in_a_group : may_stand (by_two ∷ []) ≡ true
  pub aggregate_in_an_inner_query : may_stand (level 0 (t ∷ []) ∷ by_two ∷ []) ≡ false
  pub aggregate_in_an_aggregate : may_stand (inside_aggregate (seen (by_two ∷ []))).levels ≡ false
  pub aggregate_in_values : may_stand (inside_values (seen (by_two ∷ []))).levels ≡ false
  pub other_column_in_values : stands_for (plain (codes "K")) (inside_values (seen (by_two ∷ []))) ≡
      Barred
  pub aggregate_outside : may_stand [] ≡ false
  pub key : key_of (Column 0 3 Integer) (codes "B") ≡ Own 3
  pub outer_key : key_of (Column 1 3 Integer) (codes "B") ≡ Other
  pub unknown_key : key_of (Guessed 0 1) (codes "Z") ≡ GuessedKey 1 (codes "Z")

-- ---- in scopes

-- a compound statement whose variables begin at slot 3, with a variable X, a condition D of
-- SQLSTATE 45000 and a cursor C
abbrev pub block : Scope
block = record {
  loop_name = None;
  first = 3;
  variables = codes "Y" ∷ codes "X" ∷ [];
  held = held Boolean ∷ held Integer ∷ [];
  conditions = codes "D" ∷ [];
  states = codes "45000" ∷ [];
  first_cursor = 1;
  cursors = codes "C" ∷ [];
  columns = record { kinds = Integer ∷ Text ∷ [] } ∷ [];
}

-- a compound statement outside of it, with a condition X and a cursor C
abbrev pub outer : Scope
outer = record {
  loop_name = None;
  first = 1;
  variables = codes "D" ∷ codes "Z" ∷ [];
  held = held Text ∷ held Text ∷ [];
  conditions = codes "X" ∷ codes "D" ∷ [];
  states = codes "45001" ∷ codes "45002" ∷ [];
  first_cursor = 0;
  cursors = codes "C" ∷ [];
  columns = record { kinds = [] } ∷ [];
}

-- F, a FOR loop with the columns A and B, and another F inside with the column A alone
abbrev pub loop : Scope
loop = loop_scope (Some (codes "F")) 5 2 (codes "A" ∷ codes "B" ∷ [])
    (held Text ∷ held Integer ∷ [])

-- F inside of F, with a column A alone
abbrev pub inner_loop : Scope
inner_loop = loop_scope (Some (codes "F")) 7 2 (codes "A" ∷ []) (held Boolean ∷ [])

-- what a name stands for in these scopes
abbrev pub Within : ColumnName → List Scope → Referent → Type 0
Within c scopes found = stands_for c (in_scopes [] scopes) ≡ found

-- what scopes hide: inner ones outer ones, columns variables, and a loop those of its name
pub record ScopesHide : Type 0 where
  pub inner_variable : Within (plain (codes "X")) (block ∷ parameters ∷ []) (Variable 4 Integer)
  pub outer_variable : Within (plain (codes "Z")) (block ∷ outer ∷ []) (Variable 2 Text)
  pub parameter : Within (plain (codes "X")) (outer ∷ parameters ∷ []) (Variable 0 Text)
  pub column_before_variable : stands_for (plain (codes "A"))
      (in_scopes (level 0 (t ∷ []) ∷ []) (loop ∷ [])) ≡ Column 0 1 Text
  pub variable_in_a_query : stands_for (plain (codes "B"))
      (in_scopes (level 0 (t ∷ []) ∷ []) (loop ∷ [])) ≡ Variable 6 Integer
  pub column_of_a_loop : Within (qualified (codes "F") (codes "B")) (block ∷ loop ∷ [])
      (Variable 6 Integer)
  pub column_of_a_loop_by_its_name_alone : Within (plain (codes "B")) (block ∷ loop ∷ [])
      (Variable 6 Integer)
  pub inner_loop_hides : Within (qualified (codes "F") (codes "B")) (inner_loop ∷ loop ∷ []) Unknown
  pub inner_loop_first : Within (qualified (codes "F") (codes "A")) (inner_loop ∷ loop ∷ [])
      (Variable 7 Boolean)
  pub outer_loop_by_its_name_alone : Within (plain (codes "B")) (inner_loop ∷ loop ∷ [])
      (Variable 6 Integer)
  pub no_loop_of_the_name : Within (qualified (codes "G") (codes "A")) (inner_loop ∷ loop ∷ [])
      Unknown
  pub item_before_loop : stands_for (qualified (codes "F") (codes "B"))
      (in_scopes (level 0 (item (codes "F") 0 (column (codes "K") Integer ∷ []) ∷ []) ∷ [])
      (loop ∷ [])) ≡ Unknown
  pub condition_after_a_variable : condition_named (codes "X") (block ∷ outer ∷ []) ≡
      Some (codes "45001")
  pub inner_condition : condition_named (codes "D") (block ∷ outer ∷ []) ≡ Some (codes "45000")
  pub no_condition : condition_named (codes "Y") (block ∷ outer ∷ []) ≡ None
  pub inner_cursor : cursor_named (codes "C") (block ∷ outer ∷ []) ≡
      Some (1, record { kinds = Integer ∷ Text ∷ [] })
  pub cursor_of_the_outer : cursor_named (codes "C") (loop ∷ outer ∷ []) ≡
      Some (0, record { kinds = [] })
  pub no_cursor : cursor_named (codes "X") (block ∷ outer ∷ []) ≡ None
