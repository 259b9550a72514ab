-- Calls of functions in the body of a routine: of itself, and of others. ISO/IEC 9075-2, 10.4
-- (routine invocation).
use Rattle.std.specs.Prelude.{◌≡◌, ℕ, List, Some}
use Rattle.rel_algebra.specs.Tree.{Arguments, Call, CallItself, CallProcedure, CallSelf, Exprs}
use Rattle.rel_algebra.specs.Tree.{Routine}
use Rattle.rel_algebra.specs.Calls.{null_or}
use Rattle.rel_algebra.specs.World.{Called, Calling, no_again, no_self}
use Rattle.catalog_store.specs.declared.entry.Procedure.{Procedure}
use Rattle.catalog_store.specs.Entries.{interpreted_of, procedure_of}
use Rattle.routine_views.specs.Views.{called, performed, types_of}
use Rattle.routine_views.specs.Routines.{function_view, procedure_view, routines_of}
use Rattle.run_places.specs.declared.own.SelfCall.{SelfCall}
use Rattle.run_places.specs.declared.own.SelfCall.TheVariants.{Itself, Refused}
use Rattle.run_places.specs.declared.place.Own.{Own}
use Rattle.run_places.specs.declared.place.Place.{Place}
use Rattle.run_places.specs.Places.{again_within, call_cost, call_within, known_of, own_cost, own_view, parameters_in}
use Rattle.run_places.specs.Places.{perform_within, self_within}

-- a call of the name is one of another routine, as a function or as a procedure
pub record CallsAnother (place : Place) (name : List ℕ) : Type 0 where
  pub function : (args : Exprs) →
      called (known_of place) name args ≡ Call name (routines_of place.catalog.now name) args
  pub procedure : (args : Arguments) → performed (known_of place) name args ≡
      CallProcedure name (routines_of place.catalog.now name) args

-- a call of the name is one of the routine around, which is this one
pub record CallsItself (place : Place) (name : List ℕ) (own : Own) : Type 0 where
  pub around : place.own ≡ Some own
  pub function : (args : Exprs) →
      called (known_of place) name args ≡ CallSelf (types_of (parameters_in own.routine)) args
  pub procedure : (args : Arguments) →
      performed (known_of place) name args ≡ CallItself (parameters_in own.routine) args

-- a self-call in a routine's body means this
abbrev pub SelfMeans : (List ℕ → Routine) → Own → Called → Type 0
SelfMeans routines own self = self_within own.room (own_view routines own) ≡ self

-- what a self-call calls: the routine around, as a function that calls itself, or nothing
abbrev pub IsSelfCall : (List ℕ → Routine) → Own → SelfCall → Type 0
IsSelfCall routines own (Itself f) = SelfMeans routines own
    (call_within own.room (function_view routines own.name.now (interpreted_of f.now)))
IsSelfCall routines own (Refused null_call) = SelfMeans routines own (null_or null_call no_self)

-- a self-call as a CALL in a routine's body means this
abbrev pub AgainMeans : (List ℕ → Routine) → Own → Calling → Type 0
AgainMeans routines own again = again_within own.room (own_view routines own) ≡ again

-- what it calls: nothing
abbrev pub PerformsNothing : (List ℕ → Routine) → Own → Type 0
PerformsNothing routines own = AgainMeans routines own no_again

-- or the routine around, which is this procedure
abbrev pub PerformsItself : (List ℕ → Routine) → Own → Procedure → Type 0
PerformsItself routines own p = AgainMeans routines own
    (perform_within own.room (procedure_view routines own.name.now (procedure_of p)))

-- ---- what self-calls cost: as much as the room at the place

-- as a function
abbrev pub CostsAsSelf : (List ℕ → Routine) → Own → SelfCall → Type 0
CostsAsSelf routines own (Itself f) =
    call_cost own.room (function_view routines own.name.now (interpreted_of f.now)) ≡
    own_cost routines (Some own)
CostsAsSelf routines own (Refused null_call) = Unit {0}

-- as a CALL
abbrev pub CostsAsAgain : (List ℕ → Routine) → Own → Procedure → Type 0
CostsAsAgain routines own p =
    call_cost own.room (procedure_view routines own.name.now (procedure_of p)) ≡
    own_cost routines (Some own)
