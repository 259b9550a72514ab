-- Variables in sight, each in a column of its own.
use Rattle.std.proofs.Common.{◌≡◌, ℕ, zero, suc, List, [], ◌∷◌, refl}
use Rattle.rel_algebra.specs.BodyChain.{place_at, reading}
use Rattle.rel_algebra.specs.Environments.{nowhere}
use Rattle.plan_expressions.specs.Scopes.{in_list, listed_env}
use Rattle.plan_steps.specs.Places.{env_in}
use Rattle.plan_steps.specs.declared.place.Place.{Place}

list_read : (is : List ℕ) (i : ℕ) → in_list 0 is i ≡ place_at is i
list_read [] i = refl
list_read (c ∷ cs) zero = refl
list_read (c ∷ cs) (suc i) = list_read cs i

pub listed_reading : (p : Place) → listed_env p.columns.now ≡ reading (env_in p)
listed_reading p = λ j. record {
  columns = λ d i. nowhere;
  params = λ i. list_read p.columns.now i j;
}
