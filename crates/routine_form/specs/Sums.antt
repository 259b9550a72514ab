-- Sums of weights. Counting stops at the heaviest weight.
use Rattle.std.specs.Prelude.{ℕ, ◌+◌, min, List, [], ◌∷◌}
use Rattle.routine_form.specs.declared.sum.TheConstants.{HEAVIEST}

-- the sum of two, or the heaviest weight where that is less
abbrev pub add : ℕ → ℕ → ℕ
add a b = min (a + b) HEAVIEST

-- the sum of several, from the right
abbrev pub total : List ℕ → ℕ
total [] = 0
total (w ∷ ws) = add w (total ws)
