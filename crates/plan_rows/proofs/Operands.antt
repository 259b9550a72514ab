-- Lists of values of a known length.
use Rattle.std.proofs.Common.{◌≡◌, ℕ, zero, suc, ◌<◌, ◌≤◌, List, [], ◌∷◌, length, get_or, sym}
use Rattle.std.proofs.Common.{arith}
use Rattle.sql_values.specs.declared.value.Value.{Value}
use Rattle.rel_algebra.specs.Endings.{value_at}

-- two values are all
pub two_values : (vs : List Value) (a b : Value) → 2 ≤ length vs → length vs < 3 →
    a ≡ get_or vs 0 a → b ≡ get_or vs 1 b → vs ≡ a ∷ b ∷ []
two_values [] a b l m p q = absurd (omega (arith, l))
two_values (x ∷ []) a b l m p q = absurd (omega (arith, l))
two_values (x ∷ y ∷ []) a b l m p q = cc
two_values (x ∷ y ∷ z ∷ vs) a b l m p q = absurd (omega (arith, m))

-- three values are all
pub three_values : (vs : List Value) (a b c : Value) → 3 ≤ length vs → length vs < 4 →
    a ≡ get_or vs 0 a → b ≡ get_or vs 1 b → c ≡ get_or vs 2 c → vs ≡ a ∷ b ∷ c ∷ []
three_values [] a b c l m p q r = absurd (omega (arith, l))
three_values (x ∷ []) a b c l m p q r = absurd (omega (arith, l))
three_values (x ∷ y ∷ []) a b c l m p q r = absurd (omega (arith, l))
three_values (x ∷ y ∷ z ∷ []) a b c l m p q r = cc
three_values (x ∷ y ∷ z ∷ w ∷ vs) a b c l m p q r = absurd (omega (arith, m))

-- a value that a list has at a place
pub value_there : (vs : List Value) (i : ℕ) (v : Value) → i < length vs → v ≡ get_or vs i v →
    value_at vs i ≡ v
value_there [] i v l h = absurd (omega (arith, l))
value_there (x ∷ vs) zero v l h = sym h
value_there (x ∷ vs) (suc i) v l h = value_there vs i v (omega (arith, l)) h
