-- Parts that are judged in turn, each with what those before it made.
use Rattle.std.specs.Prelude.{List, [], ◌∷◌}
use Rattle.bind_faults.specs.Faults.{Noted, give, ◌>>=◌}

-- each in turn, with what those before it made
abbrev pub each_noted : {A X : Type 0} → (A → X → Noted A) → A → List X → Noted A
each_noted f so [] = give so
each_noted f so (x ∷ xs) = f so x >>= λ more. each_noted f more xs
