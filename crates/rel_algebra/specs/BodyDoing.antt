-- How statements end, and what one does after another. No statement in form changes a table, so the
-- world is left out. ISO/IEC 9075-4, 4.8 (conditions).
use Rattle.std.specs.Prelude.{ℕ, List, [], ◌∷◌, ◌++◌, length, take, drop, Ok}
use Rattle.sql_values.specs.declared.value.Value.{Value}
use Rattle.sql_values.specs.Casts.{assigned}
use Rattle.sql_conditions.specs.Conditions.{Area}
use Rattle.rel_algebra.specs.Endings.{Ending, ◌>>=◌, ending_of}
pub use Rattle.rel_algebra.specs.Doing.{put_values}
use Rattle.rel_algebra.specs.Bodies.{Target}

-- the values of the variables in sight, by their slots
abbrev pub Frame : Type 0
Frame = List Value

-- How a statement ends. A label and a compound statement stand by their level: how many compound
-- statements are around what is left.
pub data Outcome : Type 0 where
  Next : Outcome
  Leaving : ℕ → Outcome
  Returning : Value → Outcome
  -- to the end of a compound statement, of which a handler takes these conditions
  Exiting : ℕ → Area → Outcome
  -- no handler takes these conditions
  Raising : Area → Outcome

-- with the frame that it leaves
pub record End : Type 0 where
  -- how the statement ends
  pub outcome : Outcome
  -- the frame that it leaves
  pub frame : Frame

-- what a statement does, by the frame in which it starts
abbrev pub Doing : Type 0
Doing = Frame → End

-- the end of this kind, at once
abbrev pub ends : Outcome → Doing
ends o = λ f. record { outcome = o; frame = f }

-- the second where an outcome is Next, and else that outcome
abbrev pub next_or : Outcome → Doing → Doing
next_or Next go = go
next_or (Leaving l) go = ends (Leaving l)
next_or (Returning v) go = ends (Returning v)
next_or (Exiting l a) go = ends (Exiting l a)
next_or (Raising a) go = ends (Raising a)

-- the same of an end, in the frame that it leaves
abbrev pub next_of : End → Doing → End
next_of e go = next_or e.outcome go e.frame

-- the second where the first ends with Next
abbrev pub in_turn : Doing → Doing → Doing
in_turn first second = λ f. next_of (first f) second

-- the values that targets take; the first that is refused ends it
abbrev pub take_values : List Target → List Value → Ending (List Value)
take_values [] vs = Ok []
take_values (t ∷ ts) [] = Ok []
take_values (t ∷ ts) (v ∷ vs) = do
  x ← ending_of (assigned t.data_type v)
  xs ← take_values ts vs
  Ok (x ∷ xs)

-- The variables of another frame that come after those of this one leave: they were declared inside
-- a statement that ended.
abbrev pub left_by : Frame → End → End
left_by f e = record { outcome = e.outcome; frame = take (length f) e.frame }

-- the end of what saw only the first so many variables: the others come back
abbrev pub back_in : ℕ → Frame → End → End
back_in n f e = record { outcome = e.outcome; frame = e.frame ++ drop n f }

-- What sees only the first so many variables, as an action does where a statement further inside
-- raised: what that one declared is kept aside, and comes back.
abbrev pub outside : ℕ → Doing → Doing
outside n go = λ f. back_in n f (go (take n f))

-- values are stored, and the statement is at its end
abbrev pub storing : List Target → List Value → Doing
storing ts vs = λ f. ends Next (put_values ts vs f)
