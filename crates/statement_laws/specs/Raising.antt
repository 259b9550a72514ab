-- What is done where a statement raises, by the handler that is chosen. ISO/IEC 9075-4, 14.2
-- (handler declaration), and 4.8 (conditions).
use Rattle.std.specs.Prelude.{◌≡◌, true, false, Some, None}
use Rattle.sql_conditions.specs.Conditions.{Area}
use Rattle.rel_algebra.specs.Tree.{Continue, Exit, Undo}
use Rattle.rel_algebra.specs.States.{state_in, success, is_exception}
use Rattle.rel_algebra.specs.World.{World, Frame}
use Rattle.rel_algebra.specs.Doing.{Doing, Outcome, Next, Exiting, Raising, ends, first_of}
use Rattle.rel_algebra.specs.Doing.{followed_by, with_diagnostics}
use Rattle.rel_algebra.specs.Handlers.{Scopes, Chosen, best, taking, failing, raising}

-- a statement raises
pub record TakenAsChosen : Type 0 where
  -- no handler takes an exception: it is raised
  pub fails : (scopes : Scopes) (area : Area) (f : Frame) (w : World) →
      best (state_in area) scopes ≡ None →
      failing scopes area f w ≡ ends (Raising area) (with_diagnostics area 0 f) w
  -- no handler takes another condition: it is dropped
  pub drops : (scopes : Scopes) (area : Area) (f : Frame) (w : World) →
      best (state_in area) scopes ≡ None → is_exception (state_in area) ≡ false →
      raising scopes area f w ≡ ends Next (with_diagnostics area 0 f) w
  -- an exception that is signalled fails
  pub raises : (scopes : Scopes) (area : Area) (f : Frame) (w : World) →
      is_exception (state_in area) ≡ true → raising scopes area f w ≡ failing scopes area f w
  -- EXIT and UNDO go to the end of their compound statement
  pub exits : (scopes : Scopes) (area : Area) (rest : Doing) (f : Frame) (w : World)
      (c : Chosen) → best (state_in area) scopes ≡ Some c → c.handling.kind ≡ Exit →
      taking scopes area rest f w ≡ ends (Exiting c.scope.level area) (with_diagnostics area 0 f) w
  pub undoes : (scopes : Scopes) (area : Area) (rest : Doing) (f : Frame) (w : World)
      (c : Chosen) → best (state_in area) scopes ≡ Some c → c.handling.kind ≡ Undo →
      taking scopes area rest f w ≡ ends (Exiting c.scope.level area) (with_diagnostics area 0 f) w
  -- CONTINUE does its action on what its compound statement sees; the rest comes back
  pub continues : (scopes : Scopes) (area : Area) (rest : Doing) (f g : Frame) (w u : World)
      (c : Chosen) (o : Outcome) → best (state_in area) scopes ≡ Some c →
      c.handling.kind ≡ Continue →
      c.handling.action area (first_of c.scope.variables c.scope.cursors
      (with_diagnostics area 0 f)) w ≡ ends o g u →
      taking scopes area rest f w ≡ ends o (followed_by c.scope.variables c.scope.cursors
      (with_diagnostics area 0 f) (with_diagnostics success 0 g)) u
