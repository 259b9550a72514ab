-- Compound statements by their parts: the declarations, the statements, the handlers at their end,
-- LEAVE, what was declared, and what an ATOMIC one raises as a whole. ISO/IEC 9075-4, 14.1
-- (compound statement) and 14.2 (handler declaration).
use Rattle.std.specs.Prelude.{ℕ, ◌≡◌, Bool, true, false, List, ◌∷◌, ◌++◌, replicate, Some}
use Rattle.std.specs.Prelude.{None, nat_eq}
use Rattle.sql_conditions.specs.Conditions.{Area}
use Rattle.row_types.specs.Tables.{Tables}
use Rattle.rel_algebra.specs.Tree.{Exit, Undo}
use Rattle.rel_algebra.specs.States.{state_in, success}
use Rattle.rel_algebra.specs.World.{World, Frame, Eval, Gives, Raises, RunsOut, Closed, with_tables}
use Rattle.rel_algebra.specs.Doing.{Doing, Outcome, Exiting, Raising, Spent}
use Rattle.rel_algebra.specs.Doing.{ends, only_of, with_cursors, with_diagnostics}
use Rattle.rel_algebra.specs.Handlers.{Scopes, Handling, best_here, failing}
use Rattle.rel_algebra.specs.Compounds.{scopes_in, scope_in, exited_or, left_or, sealed_or}
use Rattle.rel_algebra.specs.Compounds.{compound}

-- ---- the end of the statement list

-- any end but that which goes to the end of a compound statement
abbrev pub NoExit : Outcome → Type 0
NoExit o = (level : ℕ) (area : Area) → o ≡ Exiting level area → ⊥

-- the handlers at the end of the statement list
pub record ExitGoesOn : Type 0 where
  -- any other end stays
  pub other : (level : ℕ) (own : List Handling) (start : Tables) (o : Outcome) → NoExit o →
      exited_or level own start o ≡ ends o
  -- so does one that goes further outwards
  pub outwards : (level : ℕ) (own : List Handling) (start : Tables) (l : ℕ) (area : Area) →
      nat_eq l level ≡ false → exited_or level own start (Exiting l area) ≡ ends (Exiting l area)
  -- EXIT does its action
  pub exits : (level : ℕ) (own : List Handling) (start : Tables) (l : ℕ) (area : Area)
      (h : Handling) (f g : Frame) (w u : World) (o : Outcome) → nat_eq l level ≡ true →
      best_here (state_in area) own ≡ Some h → h.kind ≡ Exit → h.action area f w ≡ ends o g u →
      exited_or level own start (Exiting l area) f w ≡ ends o (with_diagnostics success 0 g) u
  -- UNDO does it on the tables of the start
  pub undoes : (level : ℕ) (own : List Handling) (start : Tables) (l : ℕ) (area : Area)
      (h : Handling) (f g : Frame) (w u : World) (o : Outcome) → nat_eq l level ≡ true →
      best_here (state_in area) own ≡ Some h → h.kind ≡ Undo →
      h.action area f (with_tables w start) ≡ ends o g u →
      exited_or level own start (Exiting l area) f w ≡ ends o (with_diagnostics success 0 g) u
  -- where none of its handlers takes the conditions, they go on outwards
  pub none : (level : ℕ) (own : List Handling) (start : Tables) (l : ℕ) (area : Area)
      (f : Frame) (w : World) → nat_eq l level ≡ true → best_here (state_in area) own ≡ None →
      exited_or level own start (Exiting l area) f w ≡ ends (Exiting level area) f w

-- ---- raising as a whole

-- any end but an exception that no handler takes
abbrev pub NoRaise : Outcome → Type 0
NoRaise o = (area : Area) → o ≡ Raising area → ⊥

-- what an ATOMIC compound statement raises
pub record SealGoesOn : Type 0 where
  -- one that isn't ATOMIC ends as it does
  pub open_one : (scopes : Scopes) (start : Tables) (o : Outcome) →
      sealed_or false scopes start o ≡ ends o
  -- so does one that doesn't raise
  pub other : (atomic : Bool) (scopes : Scopes) (start : Tables) (o : Outcome) → NoRaise o →
      sealed_or atomic scopes start o ≡ ends o
  -- it is undone, and raises as a whole
  pub whole : (scopes : Scopes) (start : Tables) (area : Area) (f : Frame) (w : World) →
      sealed_or true scopes start (Raising area) f w ≡ failing scopes area f (with_tables w start)

-- ---- the whole

-- the frame in which the statements of a compound statement start: with its cursors, all closed
abbrev pub frame_within : ℕ → Frame → Frame
frame_within n g = with_cursors (g.cursors ++ replicate n Closed) g

-- the handlers in sight there
abbrev pub scopes_within : Bool → ℕ → Scopes → (Scopes → List Handling) → Frame → Scopes
scopes_within atomic level scopes handlings f =
    let outer = scopes_in atomic scopes in scope_in level (handlings outer) f ∷ outer

-- a compound statement
pub record CompoundGoesOn : Type 0 where
  -- A default raises: the compound statement raises as a whole, in the frame of its start. One that
  -- is ATOMIC is undone first.
  pub raises : (level : ℕ) (scopes : Scopes) (declare : Frame → Eval Frame) (n : ℕ)
      (handlings : Scopes → List Handling) (body : Scopes → Doing) (f : Frame) (w u : World)
      (area : Area) → declare f w ≡ Raises area u →
      compound false level scopes declare n handlings body f w ≡ failing scopes area f u
  pub raises_atomic : (level : ℕ) (scopes : Scopes) (declare : Frame → Eval Frame) (n : ℕ)
      (handlings : Scopes → List Handling) (body : Scopes → Doing) (f : Frame) (w u : World)
      (area : Area) → declare f w ≡ Raises area u →
      compound true level scopes declare n handlings body f w ≡
      failing scopes area f (with_tables u w.tables)
  -- no turn is left for a default
  pub runs_out : (atomic : Bool) (level : ℕ) (scopes : Scopes) (declare : Frame → Eval Frame)
      (n : ℕ) (handlings : Scopes → List Handling) (body : Scopes → Doing) (f : Frame)
      (w u : World) → declare f w ≡ RunsOut u →
      compound atomic level scopes declare n handlings body f w ≡ ends Spent f u
  -- The declarations are made, the statements end, and then the handlers at their end; LEAVE with
  -- its label ends it, what was declared leaves, and an ATOMIC one raises as a whole what it
  -- raises.
  pub ran : (atomic : Bool) (level : ℕ) (scopes : Scopes) (declare : Frame → Eval Frame) (n : ℕ)
      (handlings : Scopes → List Handling) (body : Scopes → Doing) (f g i j : Frame)
      (w u x y : World) (o p : Outcome) → declare f w ≡ Gives g u →
      body (scopes_within atomic level scopes handlings (frame_within n g)) (frame_within n g) u ≡
      ends o i x → exited_or level (handlings (scopes_in atomic scopes)) w.tables o i x ≡
      ends p j y → compound atomic level scopes declare n handlings body f w ≡
      sealed_or atomic scopes w.tables (left_or level p) (only_of f j) y
