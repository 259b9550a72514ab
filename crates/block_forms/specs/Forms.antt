-- Which functions whose bodies are statements may have plans, and that plans may run those. ISO/IEC
-- 9075-2, 10.4 (routine invocation) and 11.60 (SQL-invoked routine).
use Rattle.std.specs.Prelude.{◌≡◌, ℕ, Bool, true, false, not, ◌&&◌, List}
use Rattle.std.specs.List.{IsDistinct}
use Rattle.std.specs.Str.{bytes_eq}
use Rattle.rel_algebra.specs.Plain.{planned_routine}
use Rattle.rel_algebra.specs.Tree.{Function, Routine}
use Rattle.catalog_store.specs.Catalog.{Interpreted, names_of}
use Rattle.regions.specs.TreeBodies.{stmt_of}
use Rattle.routine_views.specs.Routines.{function_view, routines_of}
use Rattle.block_plans.specs.Callees.{Callees}
use Rattle.block_places.specs.Seen.{IsApart}
use Rattle.region_trees.specs.Form.{formed, in_form}
use Rattle.region_trees.specs.Regions.{region_seen}
use Rattle.block_forms.specs.Filled.{filled}

-- it doesn't call itself, and its body is in form, not too heavy, and has as many columns as
-- targets in each SELECT INTO
abbrev pub may_be_planned : Callees → Interpreted → Bool
may_be_planned k f = not f.self_calling && (in_form k f.body && filled k f.body)

-- a function by its body, whose calls run what has a plan
abbrev pub body_routine : Callees → Interpreted → Routine
body_routine k f =
    Function false f.parameters f.returns f.null_call (stmt_of (region_seen k f.body))

-- A function that may have a plan is planned, as the routines of the catalog see it, and is that of
-- its body by what has a plan; and its body is of statements in form.
pub record IsFormed (k : Callees) (name : List ℕ) (f : Interpreted) : Type 0 where
  pub planned : planned_routine (function_view (routines_of k.known) name f) ≡ true
  pub same : function_view (routines_of k.known) name f ≡ body_routine k f
  pub body : formed k f.body ≡ true

-- each of a name that no call runs with a plan
abbrev pub FormsArePlanned : Type 0
FormsArePlanned = (k : Callees) (name : List ℕ) (f : Interpreted) →
    IsDistinct bytes_eq (names_of k.known) → IsApart k name → may_be_planned k f ≡ true →
    IsFormed k name f
