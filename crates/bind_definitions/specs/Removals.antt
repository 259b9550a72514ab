-- DROP. ISO/IEC 9075-2, 11.31 (drop table statement) and 11.62 (drop routine statement).
use Rattle.std.specs.Prelude.{ℕ, Bool, false, List, Option, Some, None}
use Rattle.statement_trees.specs.declared.definition.DropObject.{DropObject}
use Rattle.statement_trees.specs.declared.definition.ObjectSort.{ObjectSort}
use Rattle.catalog_store.specs.Catalog.{Object, TableObject, FunctionObject, InterpretedObject}
use Rattle.catalog_store.specs.Catalog.{ProcedureObject, Catalog, object_named}
use Rattle.catalog_store.specs.Users.{users_of}
use Rattle.bind_faults.specs.Faults.{Noted, give, ◌>>◌}
use Rattle.bind_rules.specs.Drops.{is_table, is_function, is_procedure, drop_faults}

-- whether what a name stands for is of a sort
abbrev pub is_of_sort : ObjectSort → Option Object → Bool
is_of_sort sort None = false
is_of_sort sort (Some (TableObject t)) = is_table sort
is_of_sort sort (Some (FunctionObject f)) = is_function sort
is_of_sort sort (Some (InterpretedObject f)) = is_function sort
is_of_sort sort (Some (ProcedureObject p)) = is_procedure sort

-- a DROP is bound to its name
abbrev pub judged_drop : DropObject → Catalog → Noted (List ℕ)
judged_drop s catalog =
    drop_faults s.name (is_of_sort s.sort (object_named s.name.name catalog))
    (users_of s.name.name catalog) >> give s.name.name
