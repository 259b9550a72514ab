-- What the names of a catalog stand for as routines: each object seen by the whole catalog,
-- whatever
-- is made or dropped beside it. ISO/IEC 9075-2, 10.4 (routine invocation), 11.60 (SQL-invoked
-- routine) and 11.62 (drop routine statement).
use Rattle.std.specs.Prelude.{◌≡◌, ℕ, Bool, true, false, not, ◌&&◌, List, [], ◌∷◌, ◌++◌, filter}
use Rattle.std.specs.Prelude.{length, Some, None, IsSome}
use Rattle.std.specs.List.{AllByRecursion, IsDistinct, list_any}
use Rattle.std.specs.Str.{bytes_eq}
use Rattle.row_types.specs.declared.RowType.{RowType}
use Rattle.catalog_store.specs.declared.entry.Object.{Object as HeldObject}
use Rattle.catalog_store.specs.Catalog.{Object, Function, TableObject, FunctionObject}
use Rattle.catalog_store.specs.Catalog.{
  InterpretedObject,
  ProcedureObject,
  Entry,
  Catalog,
  names_of,
}
use Rattle.catalog_store.specs.Catalog.{object_named, missing}
use Rattle.catalog_store.specs.Entries.{plain, AreSound}
use Rattle.catalog_store.specs.Users.{users_of, without}
use Rattle.routine_views.specs.Routines.{entry_view, routines_of}
use Rattle.viewing_laws.specs.Calls.{CalledNames, statement_calls}

-- what the body of an object calls; a table has none, and a function with a plan holds its tree
abbrev pub object_calls : Object → CalledNames
object_calls (TableObject row_type) = []
object_calls (FunctionObject f) = []
object_calls (InterpretedObject f) = statement_calls f.body
object_calls (ProcedureObject p) = statement_calls p.body

-- ---- what stands before

-- a called name is that of the routine itself, or stands for something in the catalog
abbrev pub StandsBeside : List ℕ → Catalog → List ℕ → Type 0
StandsBeside own known name = bytes_eq own name ≡ false → IsSome (object_named name known)

-- each of these entries calls itself and what stands before it alone, in this catalog or among them
abbrev pub CallsStandAfter : Catalog → Catalog → Type 0
CallsStandAfter known [] = Unit {0}
CallsStandAfter known (e ∷ es) = AllByRecursion (StandsBeside e.name known) (object_calls e.object)
    × CallsStandAfter (known ++ e ∷ []) es

-- Each routine of the catalog calls itself and those before it alone.
abbrev pub CallsStandBefore : Catalog → Type 0
CallsStandBefore catalog = CallsStandAfter [] catalog

-- What names stand for: an object that is seen by the whole catalog; for a function with a plan its
-- tree, for a table no routine, and so for what isn't there.
pub record RoutinesByName : Type 0 where
  pub seen : (catalog : Catalog) (name : List ℕ) (o : Object) →
      IsDistinct bytes_eq (names_of catalog) → CallsStandBefore catalog →
      object_named name catalog ≡ Some o →
      routines_of catalog name ≡ entry_view (routines_of catalog) name o
  pub planned : (catalog : Catalog) (name : List ℕ) (f : Function) →
      IsDistinct bytes_eq (names_of catalog) →
      object_named name catalog ≡ Some (FunctionObject f) → routines_of catalog name ≡ f.routine
  pub table : (catalog : Catalog) (name : List ℕ) (t : RowType) →
      IsDistinct bytes_eq (names_of catalog) →
      object_named name catalog ≡ Some (TableObject t) → routines_of catalog name ≡ missing
  pub unknown : (catalog : Catalog) (name : List ℕ) → object_named name catalog ≡ None →
      routines_of catalog name ≡ missing

-- ---- making

-- What is made later leaves what every other name stands for.
pub record AddingLeavesViews : Type 0 where
  pub one : (name : List ℕ) (known : Catalog) (entry : Entry) → ¬ (name ≡ entry.name) →
      routines_of (known ++ entry ∷ []) name ≡ routines_of known name
  pub more : (name : List ℕ) (known later : Catalog) → object_named name later ≡ None →
      routines_of (known ++ later) name ≡ routines_of known name

-- ---- dropping

-- whether a name is among those that are called
abbrev pub is_called : List ℕ → CalledNames → Bool
is_called name names = list_any (λ called. bytes_eq called name) names

-- an entry of another name that calls it
abbrev pub is_caller : List ℕ → Entry → Bool
is_caller name e = not (bytes_eq e.name name) && is_called name (object_calls e.object)

-- how many other entries call a name
abbrev pub callers_of : List ℕ → Catalog → ℕ
callers_of name catalog = length (filter (is_caller name) catalog)

-- An entry less that no other calls leaves what every other name stands for.
abbrev pub DroppingLeavesViews : Type 0
DroppingLeavesViews = (name other : List ℕ) (known : Catalog) → callers_of name known ≡ 0 →
    ¬ (other ≡ name) → routines_of (without name known) other ≡ routines_of known other

-- ---- by the heads of routines

-- the names that an object uses, by its head
abbrev pub head_names : Object → CalledNames
head_names (TableObject row_type) = []
head_names (FunctionObject f) = f.uses
head_names (InterpretedObject f) = f.uses
head_names (ProcedureObject p) = p.uses

-- an entry's head lists what its body calls, the routine itself aside
abbrev pub HeadLists : Entry → Type 0
HeadLists e = AllByRecursion
    (λ name. bytes_eq e.name name ≡ false → is_called name (head_names e.object) ≡ true)
    (object_calls e.object)

-- Where heads list what bodies call, the routines of a sound catalog call those before them, and
-- what no other entry uses no other calls.
pub record HeadsSuffice : Type 0 where
  pub stand : (es : List (List ℕ × HeldObject)) → AreSound [] es →
      AllByRecursion HeadLists (plain es) → CallsStandBefore (plain es)
  pub unused : (name : List ℕ) (known : Catalog) → AllByRecursion HeadLists known →
      users_of name known ≡ 0 → callers_of name known ≡ 0
