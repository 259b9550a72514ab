-- Sums in which counting stops.
use Rattle.std.proofs.Common.{◌≡◌, ℕ, List, [], ◌∷◌, arith}
use Rattle.routine_form.specs.Sums.{add, total}

pub add_alone : (ws : List ℕ) → add 0 (total ws) ≡ total ws
add_alone [] = omega arith
add_alone (w ∷ ws) = omega arith

pub add_further : (a b c : ℕ) → add (add a b) c ≡ add a (add b c)
add_further a b c = omega arith
