-- How statements end, and what one does after another. ISO/IEC 9075-4, 4.8 (conditions), and
-- 9075-2, 4.33 (diagnostics area).
use Rattle.std.specs.Prelude.{ℕ, List, [], ◌∷◌, ◌++◌, length, take, drop, slice_set}
use Rattle.sql_values.specs.declared.value.Value.{Value}
use Rattle.sql_values.specs.Casts.{assigned}
use Rattle.sql_conditions.specs.Conditions.{Area}
use Rattle.rel_algebra.specs.Tree.{Target}
use Rattle.rel_algebra.specs.States.{success}
use Rattle.rel_algebra.specs.World.{World, Frame, Cursor, Eval, ◌>>=◌, give, outcome}

-- How a statement ends. A label and a compound statement stand by their level: how many compound
-- statements and loops are around what is left.
pub data Outcome : Type 0 where
  Next : Outcome
  Leaving : ℕ → Outcome
  Iterating : ℕ → Outcome
  Returning : Value → Outcome
  -- to the end of a compound statement, of which a handler takes these conditions
  Exiting : ℕ → Area → Outcome
  -- no handler takes these conditions
  Raising : Area → Outcome
  -- no turn is left
  Spent : Outcome

-- with the frame and the world that it leaves
pub record End : Type 0 where
  -- how the statement ends
  pub outcome : Outcome
  -- the frame that it leaves
  pub frame : Frame
  -- the world that it leaves
  pub world : World

-- what a statement does: the end that it comes to, by the frame and the world in which it starts
abbrev pub Doing : Type 0
Doing = Frame → World → End

-- the end of this kind, at once
abbrev pub ends : Outcome → Doing
ends o = λ f w. record { outcome = o; frame = f; world = w }

-- ---- in turn

-- the second where an outcome is Next, and else that outcome
abbrev pub next_or : Outcome → Doing → Doing
next_or Next go = go
next_or o go = ends o

-- the same of an end, in the frame and the world that it leaves
abbrev pub next_of : End → Doing → End
next_of e go = next_or e.outcome go e.frame e.world

-- the second where the first ends with Next
abbrev pub in_turn : Doing → Doing → Doing
in_turn first second = λ f w. next_of (first f w) second

-- ---- frames

-- the frame with these values of variables
abbrev pub with_variables : List Value → Frame → Frame
with_variables vs f = record f { variables = vs }

-- the frame with these cursors
abbrev pub with_cursors : List Cursor → Frame → Frame
with_cursors cs f = record f { cursors = cs }

-- the frame with this current area and ROW_COUNT. 9075-2, 4.33 (diagnostics area)
abbrev pub with_diagnostics : Area → ℕ → Frame → Frame
with_diagnostics area n f = record f { current = area; row_count = n }

-- more variables, after those in sight
abbrev pub with_more : List Value → Frame → Frame
with_more vs f = with_variables (f.variables ++ vs) f

-- each value in the slot of its target
abbrev pub put_values : List Target → List Value → List Value → List Value
put_values [] vs slots = slots
put_values (t ∷ ts) [] slots = slots
put_values (t ∷ ts) (v ∷ vs) slots = put_values ts vs (slice_set slots t.slot v)

-- the frame with each value in the slot of its target
abbrev pub put_in : List Target → List Value → Frame → Frame
put_in ts vs f = with_variables (put_values ts vs f.variables) f

-- the values that targets take; the first that is refused ends it
abbrev pub take_values : List Target → List Value → Eval (List Value)
take_values [] vs = give []
take_values (t ∷ ts) [] = give []
take_values (t ∷ ts) (v ∷ vs) = do
  x ← outcome (assigned t.data_type v)
  xs ← take_values ts vs
  give (x ∷ xs)

-- ---- what is in sight

-- The variables and cursors of another frame that come after those of this one leave: they were
-- declared inside a statement that ended.
abbrev pub only_of : Frame → Frame → Frame
only_of f g = record g {
  variables = take (length f.variables) g.variables;
  cursors = take (length f.cursors) g.cursors;
}

-- the end of a statement that began in a frame: what was declared inside it leaves
abbrev pub left_by : Frame → End → End
left_by f e = record e { frame = only_of f e.frame }

-- a statement that declares variables or cursors, which leave as it ends, in whatever way: so its
-- cursors are closed
abbrev pub declaring : Doing → Doing
declaring go = λ f w. left_by f (go f w)

-- the first so many variables and cursors of a frame, and what comes after them
abbrev pub first_of : ℕ → ℕ → Frame → Frame
first_of n m f = record f { variables = take n f.variables; cursors = take m f.cursors }

-- the second frame, and after its own the variables and cursors of the first that were kept aside
abbrev pub followed_by : ℕ → ℕ → Frame → Frame → Frame
followed_by n m f g = record g
    { variables = g.variables ++ drop n f.variables; cursors = g.cursors ++ drop m f.cursors }

-- the end of what saw only the first so many variables and cursors: the others come back
abbrev pub back_in : ℕ → ℕ → Frame → End → End
back_in n m f e = record e { frame = followed_by n m f e.frame }

-- What sees only the first so many variables and cursors, as an action does where a statement
-- further inside raised: what that one declared is kept aside, and comes back.
abbrev pub outside : ℕ → ℕ → Doing → Doing
outside n m go = λ f w. back_in n m f (go (first_of n m f) w)

-- ---- diagnostics

-- the end of a statement that raises nothing, with its ROW_COUNT
abbrev pub completed : ℕ → Doing
completed n = λ f w. ends Next (with_diagnostics success n f) w

-- values are stored, and the statement is at its end
abbrev pub storing : List Target → List Value → Doing
storing ts vs = λ f w. completed 0 (put_in ts vs f) w

-- an end with the diagnostics of success, which each action of a handler leaves. 9075-4, 14.2
abbrev pub settled : End → End
settled e = record e { frame = with_diagnostics success 0 e.frame }
