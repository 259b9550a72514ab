-- That the functions of a catalog have well typed bodies, and when a query over it is well typed.
-- ISO/IEC 9075-2, 4.17 (schemas), 7.17 (query expression) and 11.60 (SQL-invoked routine).
use Rattle.std.specs.Prelude.{◌≡◌, ℕ, List, [], ◌∷◌, ◌++◌, None, IsSome}
use Rattle.bound_trees.specs.declared.query.BoundQuery.{BoundQuery}
use Rattle.catalog_store.specs.declared.entry.Object.{Object as HeldObject}
use Rattle.catalog_store.specs.declared.entry.Object.TheVariants.{Table, Function as FunctionRecord}
use Rattle.catalog_store.specs.declared.entry.Object.TheVariants.{Interpreted as InterpretedRecord}
use Rattle.catalog_store.specs.declared.entry.Object.TheVariants.{Procedure as ProcedureRecord}
use Rattle.catalog_store.specs.Catalog.{Catalog, object_named}
use Rattle.catalog_store.specs.Entries.{entry_of, plain}
use Rattle.catalog_store.specs.Uses.{SameNames, names_used, uses_in}
use Rattle.bind_statements.specs.Types.{around}
use Rattle.typing_trees.specs.Queries.{kinds_of_query}
use Rattle.typing_plans.specs.Bodies.{BodiesTyped}

-- an entry as a catalog holds it: its name, and its object with the bound body
abbrev pub Held : Type 0
Held = List ℕ × HeldObject

-- each entry has a name that none before it has
abbrev pub NamesDiffer : Catalog → List Held → Type 0
NamesDiffer known [] = Unit {0}
NamesDiffer known (e ∷ es) = (object_named e.0 known ≡ None) ×
    NamesDiffer (known ++ entry_of known e.0 e.1 ∷ []) es

-- the head of a function with a plan lists what its body uses
abbrev pub ListsUses : HeldObject → Type 0
ListsUses (Table row_type) = Unit {0}
ListsUses (FunctionRecord r) = SameNames r.head.uses (names_used (uses_in r.body))
ListsUses (InterpretedRecord f) = Unit {0}
ListsUses (ProcedureRecord p) = Unit {0}

-- the same of each entry
abbrev pub UsesListed : List Held → Type 0
UsesListed [] = Unit {0}
UsesListed (e ∷ es) = ListsUses e.1 × UsesListed es

-- The catalog shows these entries, and the body of each function with a plan is well typed over the
-- entries before it.
pub record HasTypedBodies (known : Catalog) : Type 0 where
  pub entries : List Held
  pub shown : plain entries ≡ known
  pub apart : NamesDiffer [] entries
  pub listed : UsesListed entries
  pub typed : BodiesTyped [] entries

-- a query is well typed over the catalog, where no row, no variable and no routine stands around it
abbrev pub IsTypedQuery : Catalog → BoundQuery → Type 0
IsTypedQuery known q = IsSome (kinds_of_query q (around [] None known))
