-- In how many places of its text a query calls functions, by whether what they run has a plan.
-- ISO/IEC 9075-2, 7.17 (query expression) and 10.4 (routine invocation).
use Rattle.std.specs.Prelude.{ℕ, Bool, false, not, List}
use Rattle.std.specs.List.{count_by}
use Rattle.bound_trees.specs.declared.query.BoundQuery.{BoundQuery}
use Rattle.rel_algebra.specs.Plain.{planned_routine}
use Rattle.catalog_store.specs.Uses.{Use, calls, reads, uses_in_query}
use Rattle.block_plans.specs.Callees.{Callees, callee}

-- what a call of a name with so many arguments runs has a plan
abbrev pub has_plan : Callees → List ℕ → ℕ → Bool
has_plan k name n = planned_routine (callee k name n)

-- a use that is a call of what has a plan; a table is not called
abbrev pub is_inlined : Callees → Use → Bool
is_inlined k (calls name arguments) = has_plan k name arguments
is_inlined k (reads name) = false

-- a use that is a call of what has none
abbrev pub is_interpreted : Callees → Use → Bool
is_interpreted k (calls name arguments) = not (has_plan k name arguments)
is_interpreted k (reads name) = false

-- In how many places of its text a query calls what has a plan: those in its subqueries and in
-- arguments count, and those in the bodies of what it calls do not.
abbrev pub inlined_places : Callees → BoundQuery → ℕ
inlined_places k q = count_by (is_inlined k) (uses_in_query q)

-- the same of what has none
abbrev pub interpreted_places : Callees → BoundQuery → ℕ
interpreted_places k q = count_by (is_interpreted k) (uses_in_query q)
