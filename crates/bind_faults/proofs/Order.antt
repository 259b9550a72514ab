-- The order of faults.
use Rattle.std.proofs.Common.{◌≡◌, Bool, true, false, ℕ, arith, nat_lt, nat_eq, ◌&&◌, ◌||◌}
use Rattle.std.proofs.lemmas.Bool.Decides.{nat_tests}

abbrev pub before : ℕ → ℕ → ℕ → ℕ → Bool
before a r b s = nat_lt a b || (nat_eq a b && nat_lt r s)

pub before-trans : (a r b s c t : ℕ) → before a r b s ≡ true → before b s c t ≡ true →
    before a r c t ≡ true
before-trans a r b s c t = grind (arith, nat_tests)

pub before-not : (a r b s c t : ℕ) → before a r b s ≡ false → before b s c t ≡ false →
    before a r c t ≡ false
before-not a r b s c t = grind (arith, nat_tests)

pub before-self : (a r : ℕ) → before a r a r ≡ false
before-self a r = grind (arith, nat_tests)
