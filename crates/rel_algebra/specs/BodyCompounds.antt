-- Compound statements, ATOMIC and not. ISO/IEC 9075-4, 14.1 (compound statement) and 14.2 (handler
-- declaration).
use Rattle.std.specs.Prelude.{ℕ, nat_eq, Bool, true, false, if◌then◌else◌, List, [], ◌∷◌, length}
use Rattle.std.specs.Prelude.{Ok, Err}
use Rattle.rel_algebra.specs.Endings.{Ending}
use Rattle.rel_algebra.specs.States.{state_in}
use Rattle.rel_algebra.specs.BodyDoing.{Frame, Outcome, Next, Leaving, Returning, Exiting, Raising}
use Rattle.rel_algebra.specs.BodyDoing.{End, Doing, ends, left_by}
use Rattle.rel_algebra.specs.BodyHandlers.{Handling, Scope, Scopes, best_here, with_best, raising}

-- inside an ATOMIC compound statement the handlers outside it are not seen
abbrev pub scopes_in : {A : Type 0} → Bool → List A → List A
scopes_in true scopes = []
scopes_in false scopes = scopes

-- A handler of this compound statement acts at its end. UNDO has nothing to take back.
abbrev pub exited_or : ℕ → List Handling → Outcome → Doing
exited_or level own Next = ends Next
exited_or level own (Leaving l) = ends (Leaving l)
exited_or level own (Returning v) = ends (Returning v)
exited_or level own (Exiting l area) =
    if nat_eq l level then with_best (best_here (state_in area) own) (λ h. h.action area)
    (ends (Exiting level area)) else ends (Exiting l area)
exited_or level own (Raising area) = ends (Raising area)

-- the end of a statement list, by the handlers of its compound statement
abbrev pub exited : ℕ → List Handling → End → End
exited level own e = exited_or level own e.outcome e.frame

-- LEAVE with its label ends it
abbrev pub left_or : ℕ → Outcome → Outcome
left_or level Next = Next
left_or level (Leaving l) = if nat_eq l level then Next else Leaving l
left_or level (Returning v) = Returning v
left_or level (Exiting l area) = Exiting l area
left_or level (Raising area) = Raising area

-- the end of a compound statement that LEAVE with its label ends
abbrev pub left : ℕ → End → End
left level e = record { outcome = left_or level e.outcome; frame = e.frame }

-- what an ATOMIC compound statement raises, it raises as a whole
abbrev pub sealed_or : Bool → Scopes → Outcome → Doing
sealed_or true scopes (Raising area) = raising scopes area
sealed_or true scopes Next = ends Next
sealed_or true scopes (Leaving l) = ends (Leaving l)
sealed_or true scopes (Returning v) = ends (Returning v)
sealed_or true scopes (Exiting l area) = ends (Exiting l area)
sealed_or false scopes o = ends o

-- the end of a compound statement, where an ATOMIC one raises as a whole what it raises
abbrev pub sealed : Bool → Scopes → End → End
sealed atomic scopes e = sealed_or atomic scopes e.outcome e.frame

-- the handlers of a compound statement, with what its actions see
abbrev pub scope_in : ℕ → List Handling → Frame → Scope
scope_in level own f = record { handlings = own; level = level; variables = length f }

-- the statements of a compound statement at a level, with its handlers, and what follows them
abbrev pub listed : ℕ → Scopes → List Handling → (Scopes → Doing) → Doing
listed level outer own body = λ f. left level
    (exited level own (body (scope_in level own f ∷ outer) f))

-- What the declarations give goes on to the statements; what they raise, the compound statement
-- raises as a whole. The frame is that before them.
abbrev pub declared_or : Bool → Scopes → Ending Frame → Doing → Frame → End
declared_or atomic scopes (Ok g) go f = sealed atomic scopes (left_by f (go g))
declared_or atomic scopes (Err area) go f = raising scopes area f

-- By whether it is ATOMIC, its level, the handlers in sight, its variables, its handlers by those
-- outside it, and its statements.
abbrev pub compound : Bool → ℕ → Scopes → (Frame → Ending Frame) → (Scopes → List Handling) →
    (Scopes → Doing) → Doing
compound atomic level scopes declare handlings body = λ f.
    declared_or atomic scopes (declare f) (listed level (scopes_in atomic scopes)
    (handlings (scopes_in atomic scopes)) body) f
