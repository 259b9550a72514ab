-- What the least fault is: one of the faults, and none of them stands before it.
use Rattle.std.specs.Prelude.{◌≡◌, ℕ, false, ◌⊎◌, List, [], ◌∷◌, Some, None}
use Rattle.bind_faults.specs.declared.fault.Fault.{Fault}
use Rattle.bind_faults.specs.declared.fault.FaultKind.{FaultKind}
use Rattle.bind_faults.specs.declared.fault.FaultKind.TheVariants.{UnknownName, DuplicateName}
use Rattle.bind_faults.specs.declared.fault.FaultKind.TheVariants.{TypeMismatch, WrongCount}
use Rattle.bind_faults.specs.declared.fault.FaultKind.TheVariants.{NotPermitted, TooHigh}
use Rattle.bind_faults.specs.Faults.{sooner, least}

-- the fault is one of these
abbrev pub Among : Fault → List Fault → Type 0
Among f [] = ⊥
Among f (g ∷ gs) = (f ≡ g) ⊎ Among f gs

-- none of these is sooner than the fault
abbrev pub NoneSooner : Fault → List Fault → Type 0
NoneSooner f [] = Unit {0}
NoneSooner f (g ∷ gs) = (sooner g f ≡ false) × NoneSooner f gs

-- it is one of them, and none of them is sooner
abbrev pub IsLeast : Fault → List Fault → Type 0
IsLeast f fs = Among f fs × NoneSooner f fs

-- What `least` gives is the least.
abbrev pub LeastStandsFirst : Type 0
LeastStandsFirst = (fs : List Fault) (f : Fault) → least fs ≡ Some f → IsLeast f fs

-- It gives none only where there is none.
abbrev pub NoneIsLeastOfNone : Type 0
NoneIsLeastOfNone = (fs : List Fault) → least fs ≡ None → fs ≡ []

-- ---- worked rows

-- a fault of the kind at the token
abbrev pub at : ℕ → FaultKind → Fault
at token kind = record { at = record { token = token; line = 1; column = token }; kind = kind }

-- The place decides first, and at one place the kind.
pub record KindsStandInOrder : Type 0 where
  pub place_first : least (at 7 UnknownName ∷ at 4 TooHigh ∷ []) ≡ Some (at 4 TooHigh)
  pub by_kind : least (at 4 TooHigh ∷ at 4 NotPermitted ∷ at 4 WrongCount ∷ at 4 TypeMismatch ∷
      at 4 DuplicateName ∷ at 4 UnknownName ∷ []) ≡ Some (at 4 UnknownName)
  pub duplicate_second : least (at 4 TooHigh ∷ at 4 NotPermitted ∷ at 4 DuplicateName ∷
      at 4 TypeMismatch ∷ at 4 WrongCount ∷ []) ≡ Some (at 4 DuplicateName)
  pub mismatch_third : least (at 4 TypeMismatch ∷ at 4 TooHigh ∷ at 4 NotPermitted ∷
      at 4 WrongCount ∷ []) ≡ Some (at 4 TypeMismatch)
  pub count_fourth : least (at 4 NotPermitted ∷ at 4 WrongCount ∷ at 4 TooHigh ∷ []) ≡
      Some (at 4 WrongCount)
  pub too_high_last : least (at 4 TooHigh ∷ at 4 NotPermitted ∷ []) ≡ Some (at 4 NotPermitted)
