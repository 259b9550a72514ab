-- Raising, by one choice among all handlers in sight.
use Rattle.std.proofs.Common.{◌≡◌, [], ◌∷◌, Option, Some, None, refl}
use Rattle.sql_conditions.specs.Conditions.{Area}
use Rattle.rel_algebra.specs.States.{state_in}
use Rattle.rel_algebra.specs.BodyDoing.{Doing}
use Rattle.rel_algebra.specs.BodyHandlers.{Handling, Scope, Scopes, act_by, act_or, best, best_here}
use Rattle.rel_algebra.specs.BodyHandlers.{of_scope, or_else, RaisesByBest, raising, with_best}

one_scope : (s : Scope) (m : Option Handling) (outer : Scopes) (area : Area) (rest : Doing) → rest
    ≡ act_or (best (state_in area) outer) area →
    with_best m (λ h. act_by h.kind h.action s.level s.variables area) rest ≡ act_or
    (or_else (of_scope s m) (best (state_in area) outer)) area
one_scope s None outer area rest h = h
one_scope s (Some x) outer area rest h = refl

pub raises_by_best : RaisesByBest
raises_by_best [] area = refl
raises_by_best (s ∷ outer) area = one_scope s (best_here (state_in area) s.handlings) outer area
    (raising outer area) (raises_by_best outer area)
