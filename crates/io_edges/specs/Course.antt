-- How the calls of an edge in memory go: which of them fail, and how much one takes.
use Rattle.std.specs.Prelude.{◌≡◌, ℕ, ◌+◌, ◌-◌, ◌^◌, min, Bool, true, false, List, nat_eq, Result}
use Rattle.std.specs.Prelude.{MatchResult}
use Rattle.std.specs.List.{list_any}
use Rattle.io_edges.specs.declared.calls.Calls.{Calls}

-- the numbers of the calls that fail, from 0; how many bytes a call takes at most; how many calls
-- there were
pub record Course : Type 0 where
  pub failing : List ℕ
  pub per_call : ℕ
  pub calls : ℕ

-- the course that a value of `Calls` stands for
abbrev pub course_of : Calls → Course
course_of c = record { failing = c.failing.items; per_call = c.per_call; calls = c.made }

-- the present call is one of those that fail
abbrev pub fails_now : Course → Bool
fails_now c = list_any (λ n. nat_eq n c.calls) c.failing

-- a call later; the number stays at its last value
abbrev pub one_later : Course → Course
one_later c = record {
  failing = c.failing;
  per_call = c.per_call;
  calls =
      min (c.calls + 1) (2 ^ 64 - 1);
}

-- the call fails exactly where it is listed; else it takes what there is, up to the most that a
-- call takes
abbrev pub TakesBy : {E : Type 0} → Course → ℕ → Result ℕ E → Type 0
TakesBy c there r = MatchResult r (λ n. (fails_now c ≡ false) × (n ≡ min there c.per_call))
    (λ _. fails_now c ≡ true)
