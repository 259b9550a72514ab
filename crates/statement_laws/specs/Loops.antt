-- Loops, from one run of the body to the next. What is left of a loop is told by a number of runs
-- above the turns that are left. ISO/IEC 9075-4, 14.8 (ITERATE), 14.9 (LEAVE) and 14.10 to 14.13
-- (loops).
use Rattle.std.specs.Prelude.{ℕ, ◌≡◌, ◌<◌, ◌≤◌, suc, true, false, List, [], ◌∷◌}
use Rattle.sql_values.specs.declared.value.Value.{Value}
use Rattle.sql_values.specs.Values.{is_true}
use Rattle.sql_conditions.specs.Conditions.{Area}
use Rattle.row_types.specs.Rows.{Row}
use Rattle.rel_algebra.specs.World.{World, Frame, Eval, Gives, Raises, RunsOut, unit, turn}
use Rattle.rel_algebra.specs.Doing.{Doing, End, Outcome, Next, Spent, ends, with_more, only_of}
use Rattle.rel_algebra.specs.Handlers.{Scopes, failing}
use Rattle.rel_algebra.specs.Loops.{again_of, again_or, running, loop, looping, at_once}
use Rattle.rel_algebra.specs.Loops.{while_true, until_true, for_each}

-- ---- tests of loops

-- whatever follows a test, it is done in this world ..
abbrev pub PassesTo : (Doing → Doing) → Frame → World → World → Type 0
PassesTo test f w u = (go : Doing) → test go f w ≡ go f u

-- .. or isn't, and this is the end
abbrev pub StopsWith : (Doing → Doing) → Frame → World → End → Type 0
StopsWith test f w e = (go : Doing) → test go f w ≡ e

-- what is tested before the body and after it
pub record LoopTests : Type 0 where
  -- no test passes
  pub at_once : (f : Frame) (w : World) → PassesTo at_once f w w
  -- WHILE goes on where its test is true, and else it is at its end
  pub while_goes : (scopes : Scopes) (test : Frame → Eval Value) (f : Frame) (w u : World)
      (v : Value) → unit (test f) w ≡ Gives v u → is_true v ≡ true →
      PassesTo (while_true scopes test) f w u
  pub while_ends : (scopes : Scopes) (test : Frame → Eval Value) (f : Frame) (w u : World)
      (v : Value) → unit (test f) w ≡ Gives v u → is_true v ≡ false →
      StopsWith (while_true scopes test) f w (ends Next f u)
  -- the loop as a whole raises what its test raises
  pub while_raises : (scopes : Scopes) (test : Frame → Eval Value) (f : Frame) (w u : World)
      (area : Area) → unit (test f) w ≡ Raises area u →
      StopsWith (while_true scopes test) f w (failing scopes area f u)
  pub while_runs_out : (scopes : Scopes) (test : Frame → Eval Value) (f : Frame)
      (w u : World) → unit (test f) w ≡ RunsOut u →
      StopsWith (while_true scopes test) f w (ends Spent f u)
  -- REPEAT goes on where its test isn't true
  pub until_goes : (scopes : Scopes) (test : Frame → Eval Value) (f : Frame) (w u : World)
      (v : Value) → unit (test f) w ≡ Gives v u → is_true v ≡ false →
      PassesTo (until_true scopes test) f w u
  pub until_ends : (scopes : Scopes) (test : Frame → Eval Value) (f : Frame) (w u : World)
      (v : Value) → unit (test f) w ≡ Gives v u → is_true v ≡ true →
      StopsWith (until_true scopes test) f w (ends Next f u)
  pub until_raises : (scopes : Scopes) (test : Frame → Eval Value) (f : Frame) (w u : World)
      (area : Area) → unit (test f) w ≡ Raises area u →
      StopsWith (until_true scopes test) f w (failing scopes area f u)
  pub until_runs_out : (scopes : Scopes) (test : Frame → Eval Value) (f : Frame)
      (w u : World) → unit (test f) w ≡ RunsOut u →
      StopsWith (until_true scopes test) f w (ends Spent f u)

-- ---- runs of a body

-- after a run of its body that ended so the loop at a level goes on ..
abbrev pub GoesAgain : ℕ → Outcome → Type 0
GoesAgain level o = (go : Doing) → again_or level o go ≡ go

-- .. or ends in this way
abbrev pub IsOver : ℕ → Outcome → Outcome → Type 0
IsOver level o p = (go : Doing) → again_or level o go ≡ ends p

-- a run of the body, and what follows it
pub record RunsBody : Type 0 where
  -- a turn is taken, and the body is run
  pub turns : (level : ℕ) (body go : Doing) (f : Frame) (w u : World) → turn w ≡ Gives tt u →
      running level body go f w ≡ again_of level (body f u) go
  -- no turn is left
  pub spent : (level : ℕ) (body go : Doing) (f : Frame) (w u : World) → turn w ≡ RunsOut u →
      running level body go f w ≡ ends Spent f u
  -- the loop goes on
  pub again : (level : ℕ) (body go : Doing) (f g : Frame) (u x : World) (o : Outcome) →
      body f u ≡ ends o g x → GoesAgain level o → again_of level (body f u) go ≡ go g x
  -- it is over
  pub over : (level : ℕ) (body go : Doing) (f g : Frame) (u x : World) (o p : Outcome) →
      body f u ≡ ends o g x → IsOver level o p → again_of level (body f u) go ≡ ends p g x
  -- a turn less is left
  pub fewer : (w u : World) → turn w ≡ Gives tt u → suc u.turns ≡ w.turns

-- ---- loops

-- A loop, by its level, its test before the body, its body and its test after it. In this frame and
-- this world what is left of it ends as the whole.
pub record LoopLeft (level : ℕ) (before : Doing → Doing) (body : Doing)
    (afterwards : Doing → Doing) (f : Frame) (w : World) (whole : End) : Type 0 where
  pub runs : ℕ
  pub above : w.turns < runs
  pub same : loop runs level before body afterwards f w ≡ whole

-- the same where its body is next, before it takes its turn
pub record BodyLeft (level : ℕ) (before : Doing → Doing) (body : Doing)
    (afterwards : Doing → Doing) (f : Frame) (w : World) (whole : End) : Type 0 where
  pub runs : ℕ
  pub above : w.turns ≤ runs
  pub same : running level body (afterwards (loop runs level before body afterwards)) f w ≡ whole

-- the same after the turn
pub record RunLeft (level : ℕ) (before : Doing → Doing) (body : Doing)
    (afterwards : Doing → Doing) (f : Frame) (w : World) (whole : End) : Type 0 where
  pub runs : ℕ
  pub above : w.turns < runs
  pub same : again_of level (body f w) (afterwards (loop runs level before body afterwards)) ≡ whole

-- the same where the test after the body is next
pub record TestLeft (level : ℕ) (before : Doing → Doing) (body : Doing)
    (afterwards : Doing → Doing) (f : Frame) (w : World) (whole : End) : Type 0 where
  pub runs : ℕ
  pub above : w.turns < runs
  pub same : afterwards (loop runs level before body afterwards) f w ≡ whole

-- one run of the body, from its start to the next
pub record LoopGoesOn (level : ℕ) (before : Doing → Doing) (body : Doing)
    (afterwards : Doing → Doing) (whole : End) : Type 0 where
  -- as it starts the whole is left
  pub starts : (f : Frame) (w : World) → looping level before body afterwards f w ≡ whole →
      LoopLeft level before body afterwards f w whole
  -- the test before the body passes
  pub passes : (f : Frame) (w u : World) → LoopLeft level before body afterwards f w whole →
      PassesTo before f w u → u.turns ≤ w.turns → BodyLeft level before body afterwards f u whole
  -- it doesn't, and the loop ends
  pub stops : (f : Frame) (w : World) (e : End) →
      LoopLeft level before body afterwards f w whole → StopsWith before f w e → whole ≡ e
  -- a turn is taken
  pub turns : (f : Frame) (w u : World) → BodyLeft level before body afterwards f w whole →
      turn w ≡ Gives tt u → RunLeft level before body afterwards f u whole
  -- none is left
  pub spent : (f : Frame) (w u : World) → BodyLeft level before body afterwards f w whole →
      turn w ≡ RunsOut u → whole ≡ ends Spent f u
  -- the body ends, and the loop goes on
  pub again : (f g : Frame) (w u : World) (o : Outcome) →
      RunLeft level before body afterwards f w whole → body f w ≡ ends o g u →
      GoesAgain level o → u.turns ≤ w.turns → TestLeft level before body afterwards g u whole
  -- the body ends, and so does the loop
  pub over : (f g : Frame) (w u : World) (o p : Outcome) →
      RunLeft level before body afterwards f w whole → body f w ≡ ends o g u →
      IsOver level o p → whole ≡ ends p g u
  -- the test after the body passes
  pub goes : (f : Frame) (w u : World) → TestLeft level before body afterwards f w whole →
      PassesTo afterwards f w u → u.turns ≤ w.turns →
      LoopLeft level before body afterwards f u whole
  -- it doesn't, and the loop ends
  pub ended : (f : Frame) (w : World) (e : End) →
      TestLeft level before body afterwards f w whole → StopsWith afterwards f w e → whole ≡ e

-- each loop goes on so
abbrev pub LoopsGoOn : Type 0
LoopsGoOn = (level : ℕ) (before : Doing → Doing) (body : Doing) (afterwards : Doing → Doing)
    (whole : End) → LoopGoesOn level before body afterwards whole

-- ---- FOR, from one row to the next
pub record RowsGoOn : Type 0 where
  -- no row is left
  pub none : (level : ℕ) (rows : List Row) (body : Doing) (f : Frame) (w : World) → rows ≡ [] →
      for_each level rows body f w ≡ ends Next f w
  -- no turn is left
  pub spent : (level : ℕ) (rows : List Row) (row : Row) (more : List Row) (body : Doing)
      (f : Frame) (w u : World) → rows ≡ row ∷ more → turn w ≡ RunsOut u →
      for_each level rows body f w ≡ ends Spent f u
  -- a turn is taken, the body is run with the row's columns as variables, and the next row follows
  pub again : (level : ℕ) (rows : List Row) (row : Row) (more : List Row) (body : Doing)
      (f g : Frame) (w u x : World) (o : Outcome) → rows ≡ row ∷ more → turn w ≡ Gives tt u →
      body (with_more row f) u ≡ ends o g x → GoesAgain level o →
      for_each level rows body f w ≡ for_each level more body (only_of f g) x
  -- the body ends the loop
  pub over : (level : ℕ) (rows : List Row) (row : Row) (more : List Row) (body : Doing)
      (f g : Frame) (w u x : World) (o p : Outcome) → rows ≡ row ∷ more → turn w ≡ Gives tt u →
      body (with_more row f) u ≡ ends o g x → IsOver level o p →
      for_each level rows body f w ≡ ends p (only_of f g) x
