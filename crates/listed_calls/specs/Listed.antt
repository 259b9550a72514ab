-- That the head of what is made lists what its body calls: as a statement is bound, each name that
-- it calls is noted. ISO/IEC 9075-2, 10.4 (routine invocation), 11.60 (SQL-invoked routine) and
-- 15.1 (call statement).
use Rattle.std.specs.Prelude.{◌≡◌, ℕ, true, false, List, [], Option, IsSome}
use Rattle.std.specs.List.{AllByRecursion}
use Rattle.statement_trees.specs.declared.statement.Stmt.{Stmt}
use Rattle.catalog_store.specs.Catalog.{Catalog, object_named}
use Rattle.catalog_store.specs.Entries.{entry_of}
use Rattle.catalog_store.specs.Planning.{AllPlanned}
use Rattle.bind_sight.specs.declared.scope.EnclosingRoutine.{EnclosingRoutine}
use Rattle.bind_simple.specs.Calls.{is_own}
use Rattle.bind_simple.specs.Places.{Surroundings}
use Rattle.bind_routines.specs.Statements.{judge_stmt}
use Rattle.bind_direct.specs.declared.bound.Bound.{Bound}
use Rattle.bind_direct.specs.declared.bound.Bound.TheVariants as bound
use Rattle.bind_statements.specs.Statements.{judged_statement}
use Rattle.viewing_laws.specs.Calls.{CalledNames, statement_calls}
use Rattle.viewing_laws.specs.Standing.{is_called, HeadLists}

-- A name is among those that were noted, and stands for something in the catalog, if it isn't that
-- of the routine around.
pub record IsNoted (own : Option EnclosingRoutine) (known : Catalog) (uses : CalledNames)
    (name : List ℕ) : Type 0 where
  pub noted : is_called name uses ≡ true
  pub stands : is_own name own ≡ false → IsSome (object_named name known)

-- A statement without faults notes what it calls, where the functions that the catalog keeps with
-- plans are planned. The routine around it is noted too.
abbrev pub CallsNoted : Type 0
CallsNoted = (s : Stmt) (p : Surroundings) → AllPlanned p.catalog → (judge_stmt s p).faults ≡ [] →
    AllByRecursion (IsNoted p.own p.catalog (judge_stmt s p).uses)
    (statement_calls (judge_stmt s p).value)

-- the head of what is made lists what its body calls; of other statements nothing is said
abbrev pub MadeLists : Catalog → Bound → Type 0
MadeLists known (bound.Create name object) = HeadLists (entry_of known name object)
MadeLists known (bound.Drop name) = Unit {0}
MadeLists known (bound.Insert b places) = Unit {0}
MadeLists known (bound.Update b) = Unit {0}
MadeLists known (bound.Delete b) = Unit {0}
MadeLists known (bound.Query q) = Unit {0}
MadeLists known (bound.Explain q) = Unit {0}
MadeLists known (bound.Routine s) = Unit {0}

-- What a statement without faults makes lists in its head what its body calls.
abbrev pub NewRoutinesList : Type 0
NewRoutinesList = (s : Stmt) (known : Catalog) → AllPlanned known →
    (judged_statement s known).faults ≡ [] →
    MadeLists known (judged_statement s known).value.bound
