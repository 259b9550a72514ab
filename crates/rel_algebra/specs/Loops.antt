-- Loops. A turn is taken at each start of the body. ISO/IEC 9075-4, 14.8 (ITERATE), 14.9 (LEAVE)
-- and 14.10 to 14.13 (loops).
use Rattle.std.specs.Prelude.{ℕ, zero, suc, nat_eq, if◌then◌else◌, List, [], ◌∷◌}
use Rattle.sql_values.specs.declared.value.Value.{Value}
use Rattle.row_types.specs.Rows.{Row}
use Rattle.rel_algebra.specs.World.{Frame, Eval, choose}
use Rattle.rel_algebra.specs.Doing.{Outcome, Next, Leaving, Iterating, Spent, End, Doing, ends}
use Rattle.rel_algebra.specs.Doing.{declaring, with_more}
use Rattle.rel_algebra.specs.Handlers.{Scopes, with_value}

-- takes one of so many turns, and goes on; without one the statement ends Spent
abbrev pub turning_of : ℕ → Doing → Doing
turning_of zero go = ends Spent
turning_of (suc n) go = λ f w. go f (record w { turns = n })

-- takes one turn, where one is left, and goes on
abbrev pub turning : Doing → Doing
turning go = λ f w. turning_of w.turns go f w

-- the end of a run of the body of the loop at a level: what follows it, or the end of the loop
abbrev pub again_or : ℕ → Outcome → Doing → Doing
again_or level Next go = go
again_or level (Iterating l) go = if nat_eq l level then go else ends (Iterating l)
again_or level (Leaving l) go = if nat_eq l level then ends Next else ends (Leaving l)
again_or level o go = ends o

-- the end of a run of the body, and what follows it
abbrev pub again_of : ℕ → End → Doing → End
again_of level e go = again_or level e.outcome go e.frame e.world

-- a turn, a run of the body, and what follows it
abbrev pub running : ℕ → Doing → Doing → Doing
running level body go = turning (λ f w. again_of level (body f w) go)

-- A loop at a level, by what is tested before and after its body. The number is above the turns
-- that are left, so that the recursion ends.
abbrev pub loop : ℕ → ℕ → (Doing → Doing) → Doing → (Doing → Doing) → Doing
loop zero level before body afterwards = ends Spent
loop (suc n) level before body afterwards =
    before (running level body (afterwards (loop n level before body afterwards)))

-- a loop, with as many runs as there may be turns. 14.10 to 14.12
abbrev pub looping : ℕ → (Doing → Doing) → Doing → (Doing → Doing) → Doing
looping level before body afterwards = λ f w. loop (suc w.turns) level before body afterwards f w

-- no test
abbrev pub at_once : Doing → Doing
at_once go = go

-- goes on where a test is true, and else the loop ends
abbrev pub while_true : Scopes → (Frame → Eval Value) → Doing → Doing
while_true scopes test go = with_value scopes test (λ v. choose v go (ends Next))

-- the loop ends where a test is true
abbrev pub until_true : Scopes → (Frame → Eval Value) → Doing → Doing
until_true scopes test go = with_value scopes test (λ v. choose v (ends Next) go)

-- with the columns of a row as variables
abbrev pub with_row : Row → Doing → Doing
with_row row body = declaring (λ f w. body (with_more row f) w)

-- FOR, over the rows of its answer
abbrev pub for_each : ℕ → List Row → Doing → Doing
for_each level [] body = ends Next
for_each level (row ∷ rows) body = running level (with_row row body) (for_each level rows body)
