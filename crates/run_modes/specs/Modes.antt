-- The two modes of a run, and which queries are answered by their plans in each. ISO/IEC 9075-2,
-- 7.17 (query expression) and 10.4 (routine invocation).
use Rattle.std.specs.Prelude.{◌&&◌, Bool, true, false, not}
use Rattle.std.specs.List.{list_any}
use Rattle.bound_trees.specs.declared.query.BoundQuery.{BoundQuery}
use Rattle.catalog_store.specs.Uses.{Use, Uses, calls, reads, uses_in_query}
use Rattle.run_modes.specs.declared.mode.Mode.{Mode}
use Rattle.run_modes.specs.declared.mode.Mode.TheVariants.{Inlining, Plain}

-- a use that is a call of a function; a table is only read
abbrev pub is_call : Use → Bool
is_call (calls name arguments) = true
is_call (reads name) = false

-- one of the uses is a call
abbrev pub has_call : Uses → Bool
has_call us = list_any is_call us

-- A query calls a function: a call stands anywhere among what it uses.
abbrev pub calls_function : BoundQuery → Bool
calls_function q = has_call (uses_in_query q)

-- The mode of a run, by whether it is said to be plain.
abbrev pub mode_of : Bool → Mode
mode_of true = Plain
mode_of false = Inlining

-- A query that has a plan is answered by it, but in the plain mode none that calls a function is.
abbrev pub is_by_plan : Mode → Bool → BoundQuery → Bool
is_by_plan Inlining has_plan q = has_plan
is_by_plan Plain has_plan q = has_plan && not (calls_function q)
