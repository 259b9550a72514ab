-- What a self-call may cost at a place in a routine, and what a call of another routine.
use Rattle.std.proofs.Common.{◌≡◌, ℕ, ◌+◌, ◌*◌, ◌<◌, Bool, true, List, Option, Some}
use Rattle.std.proofs.Common.{ap, ◌∙◌, sym, arith, subst}
use Rattle.sql_values.specs.declared.value.SqlType.{SqlType}
use Rattle.catalog_store.specs.declared.entry.ParameterMode.{ParameterMode}
use Rattle.catalog_store.specs.declared.entry.Procedure.{Procedure}
use Rattle.catalog_store.specs.Entries.{procedure_of}
use Rattle.rel_algebra.specs.Tree.{Routine, modes_of}
use Rattle.routine_views.specs.Routines.{procedure_view, routines_of, with_modes}
use Rattle.run_places.specs.declared.place.Own.{Own}
use Rattle.run_places.specs.declared.place.Place.{Place}
use Rattle.run_places.specs.Places.{own_cost, runs, self_cost}

-- a routine that calls itself may run as often as there is room
pub runs_room : (c : Bool) (room x : ℕ) → c ≡ true → runs c room * x ≡ room * x
runs_room c room x is = ap (λ (b : Bool). runs b room * x) is

-- what costs as a self-call is less than what its arguments and the place may cost
pub falls_to_self : (place : Place) (own : Own) (n arguments : ℕ) → place.own ≡ Some own →
    n ≡ own_cost (routines_of place.catalog.now) (Some own) →
    8 * n + 3 < 8 * (arguments + 1 + self_cost place)
falls_to_self place own n arguments is same =
    let all : self_cost place ≡ n =
    ap (λ (o : Option Own). own_cost (routines_of place.catalog.now) o) is ∙ sym same in
    subst (λ m. 8 * n + 3 < 8 * (arguments + 1 + m)) (sym all) (omega arith)

-- the same of a CALL
pub falls_to_again : (place : Place) (own : Own) (n arguments : ℕ) → place.own ≡ Some own →
    n ≡ own_cost (routines_of place.catalog.now) (Some own) →
    8 * n + 3 < 8 * (arguments + self_cost place) + 5
falls_to_again place own n arguments is same =
    let all : self_cost place ≡ n =
    ap (λ (o : Option Own). own_cost (routines_of place.catalog.now) o) is ∙ sym same in
    subst (λ m. 8 * n + 3 < 8 * (arguments + m) + 5) (sym all) (omega arith)

-- the parameters of a procedure, as code reads them
pub modes_known : (routine : Routine) (routines : List ℕ → Routine) (name : List ℕ) (p : Procedure)
    (ms : List ParameterMode) (ts : List SqlType) →
    routine ≡ procedure_view routines name (procedure_of p) → ms ≡ p.head.modes →
    ts ≡ p.head.parameters → with_modes ms ts ≡ modes_of routine
modes_known routine routines name p ms ts is modes types =
    (λ i. with_modes (modes i) (types i)) ∙ sym (ap modes_of is)
