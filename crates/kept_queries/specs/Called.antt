-- The plans of calls of functions, by the functions' names. ISO/IEC 9075-2, 10.4 (routine
-- invocation).
use Rattle.std.specs.Prelude.{ℕ, List, [], ◌∷◌}
use Rattle.catalog_store.specs.Catalog.{Catalog}
use Rattle.call_plans.specs.Calls.{IsCallPlan}
use Rattle.call_plans.specs.declared.calls.CallPlan.{CallPlan}

-- each of these is the plan of the calls of the function of its name
abbrev pub AreCalls : Catalog → List (List ℕ × CallPlan) → Type 0
AreCalls known [] = Unit {0}
AreCalls known (c ∷ cs) = IsCallPlan known c.0 c.1 × AreCalls known cs
