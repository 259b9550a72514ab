-- Which environment the names of an expression are read in.
use Rattle.std.specs.Prelude.{ℕ, zero, suc, ◌+◌, Bool, true, false, List, [], ◌∷◌}
use Rattle.rel_algebra.specs.Emit.{Env, Place, at, given, nowhere, below}
use Rattle.plan_expressions.specs.declared.scope.Span.{Span}
use Rattle.plan_expressions.specs.declared.scope.Parameters.{Parameters}
use Rattle.plan_expressions.specs.declared.scope.Parameters.TheVariants.{Arguments, Columns, Listed}
use Rattle.plan_expressions.specs.declared.scope.Place.{Place as PlaceCode}
use Rattle.plan_expressions.specs.declared.scope.Place.TheVariants.{Column, Argument, Nowhere}
use Rattle.plan_expressions.specs.declared.scope.NameSources.{NameSources}

-- where a name stands, told by what the code holds: a column, an argument, or nothing (NULL)
abbrev pub place_of : PlaceCode → Place
place_of (Column level i) = at level i
place_of (Argument i) = given i
place_of Nowhere = nowhere

-- the column at a place among some
abbrev pub in_span : Span → ℕ → Place
in_span s i = below s.count i (at s.level (s.first + i))

-- of the queries that stand around, the innermost first, the columns at a level
abbrev pub in_spans : List Span → ℕ → ℕ → Place
in_spans [] d i = nowhere
in_spans (s ∷ ss) zero i = in_span s i
in_spans (s ∷ ss) (suc d) i = in_spans ss d i

-- the column of a level that is listed at a place
abbrev pub in_list : ℕ → List ℕ → ℕ → Place
in_list level [] i = nowhere
in_list level (c ∷ cs) zero = at level c
in_list level (c ∷ cs) (suc i) = in_list level cs i

-- where the i-th parameter is read: an argument, a column of the span that holds all of them, or a
-- column of its own; past the last it is NULL
abbrev pub in_parameters : Parameters → ℕ → Place
in_parameters (Arguments n) i = below n i (given i)
in_parameters (Columns s) i = in_span s i
in_parameters (Listed level is) i = in_list level is i

-- the environment of a scope: its columns by level and place, and its parameters
abbrev pub env_of : NameSources → Env
env_of s = record { columns = in_spans s.spans; params = in_parameters s.parameters }

-- the environment of the body of a function whose variables stand in these columns
abbrev pub listed_env : List ℕ → Env
listed_env is = record { columns = λ d i. nowhere; params = in_list 0 is }

-- the same columns, seen from a row further in
abbrev pub outward_span : Span → Span
outward_span s = record { level = s.level + 1; first = s.first; count = s.count }

-- the same parameters, seen from a row further in: arguments stay, columns stand one level out
abbrev pub outward_parameters : Parameters → Parameters
outward_parameters (Arguments n) = Arguments n
outward_parameters (Columns s) = Columns (outward_span s)
outward_parameters (Listed level is) = Listed (level + 1) is

-- the level of the row itself
abbrev pub is_zero : ℕ → Bool
is_zero zero = true
is_zero (suc n) = false
