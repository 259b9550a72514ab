-- Faults, the least of them, and values that are found with faults on the way.
use Rattle.std.specs.Prelude.{ℕ, Bool, true, false, ◌&&◌, ◌||◌, nat_lt, nat_eq, if◌then◌else◌, List}
use Rattle.std.specs.Prelude.{[], ◌∷◌, ◌++◌, Option, Some, None}
use Rattle.syntax_trees.specs.declared.anchor.Anchor.{Anchor}
use Rattle.bind_faults.specs.declared.fault.Fault.{Fault}
use Rattle.bind_faults.specs.declared.fault.FaultKind.{FaultKind}
use Rattle.bind_faults.specs.declared.notes.Notes.{Notes}
use Rattle.bind_faults.specs.declared.fault.FaultKind.TheVariants.{UnknownName, DuplicateName}
use Rattle.bind_faults.specs.declared.fault.FaultKind.TheVariants.{TypeMismatch, WrongCount}
use Rattle.bind_faults.specs.declared.fault.FaultKind.TheVariants.{NotPermitted, TooHigh}

-- which kind decides at one place
abbrev pub rank : FaultKind → ℕ
rank UnknownName = 0
rank DuplicateName = 1
rank TypeMismatch = 2
rank WrongCount = 3
rank NotPermitted = 4
rank TooHigh = 5

-- by place, then kind
abbrev pub sooner : Fault → Fault → Bool
sooner f g = nat_lt f.at.token g.at.token || (nat_eq f.at.token g.at.token && nat_lt (rank f.kind)
    (rank g.kind))

-- the sooner of two faults; the first where neither is sooner
abbrev pub lesser : Option Fault → Fault → Option Fault
lesser None g = Some g
lesser (Some f) g = Some (if sooner g f then g else f)

-- the least of the faults and of one that was known before
abbrev pub noted : Option Fault → List Fault → Option Fault
noted least [] = least
noted least (f ∷ fs) = noted (lesser least f) fs

-- the least of several faults, where there is one
abbrev pub least : List Fault → Option Fault
least fs = noted None fs

-- what was noted before, with the least of what was noted apart from it
abbrev pub merged : Option Fault → Option Fault → Option Fault
merged before None = before
merged before (Some f) = lesser before f

-- no fault
abbrev pub is_faultless : List Fault → Bool
is_faultless [] = true
is_faultless (f ∷ fs) = false

-- a value, the faults that were found on the way to it, and the names of the functions that are
-- called on the way
pub record Noted (A : Type 0) : Type 0 where
  pub value : A
  pub faults : List Fault
  pub uses : List (List ℕ)

-- a value without faults, which calls nothing
abbrev pub give : {A : Type 0} → A → Noted A
give a = record { value = a; faults = []; uses = [] }

-- the second, with what the first left beside its value
abbrev pub after : {A B : Type 0} → Noted A → Noted B → Noted B
after x y = record { value = y.value; faults = x.faults ++ y.faults; uses = x.uses ++ y.uses }

-- one after another
infixl 1 ◌>>=◌
abbrev pub ◌>>=◌ : {A B : Type 0} → Noted A → (A → Noted B) → Noted B
◌>>=◌ x go = after x (go x.value)

-- faults first
infixr 1 ◌>>◌
abbrev pub ◌>>◌ : {B : Type 0} → List Fault → Noted B → Noted B
◌>>◌ fs y = record { value = y.value; faults = fs ++ y.faults; uses = y.uses }

-- another value of the same
abbrev pub as_value : {A B : Type 0} → (A → B) → Noted A → Noted B
as_value f x = record { value = f x.value; faults = x.faults; uses = x.uses }

-- what two make
abbrev pub both : {A B C : Type 0} → (A → B → C) → Noted A → Noted B → Noted C
both f x y = after x (as_value (f x.value) y)

-- a fault where the test holds
abbrev pub fault_if : Bool → FaultKind → Anchor → List Fault
fault_if false kind place = []
fault_if true kind place = record { at = place; kind = kind } ∷ []

-- what the code keeps of that: the least fault, and the names in use
abbrev pub taken : {A : Type 0} → Notes → Noted A → Notes
taken n x = record { least = noted n.least x.faults; uses = n.uses ++ x.uses }

-- nothing but the least fault so far
abbrev pub noted_before : Option Fault → Notes
noted_before least = record { least = least; uses = [] }

-- a name more
abbrev pub using_name : List ℕ → Notes → Notes
using_name name n = record { least = n.least; uses = n.uses ++ name ∷ [] }
