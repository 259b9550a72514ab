-- What is kept of a query: a plan that gives the query's rows, or its first condition, where the
-- query stands, for all tables and under all rows of these widths. ISO/IEC 9075-2, 7.17 (query
-- expression).
use Rattle.std.specs.Prelude.{◌≡◌, ℕ, true, List, [], ◌∷◌, length, Option, Some, None}
use Rattle.std.specs.List.{All}
use Rattle.std.specs.Option.{option_copied}
use Rattle.row_types.specs.Rows.{Row}
use Rattle.rel_algebra.specs.Emit.{plan}
use Rattle.rel_algebra.specs.Joins.{table_width}
use Rattle.rel_algebra.specs.Meaning.{answer, carried}
use Rattle.rel_algebra.specs.Plain.{planned}
use Rattle.rel_algebra.specs.Plan.{collected, den}
use Rattle.rel_algebra.specs.PlanView.{tree_of}
use Rattle.rel_algebra.specs.Theorem.{Fits, inputs_of, stack, under, widths}
use Rattle.rel_algebra.specs.Tree.{Parameter}
use Rattle.rel_algebra.specs.World.{Called, Frame, World}
use Rattle.scanned_tables.specs.Scans.{scans, AreWide}
use Rattle.catalog_store.specs.Catalog.{Catalog}
use Rattle.catalog_store.specs.Widths.{width_in}
use Rattle.routine_views.specs.Views.{Own, query_in}
use Rattle.block_places.specs.Seen.{around}
use Rattle.kept_queries.specs.declared.around.Around.{Around}
use Rattle.kept_queries.specs.declared.keeping.KeptQuery.{KeptQuery}

-- The query has a plan as it is seen in this catalog, in the routine around, if there is one: each
-- routine that its calls are of has one. The plan is the query's, over as many arguments as
-- variables, under rows of as many values, where tables are as wide as the catalog says, and the
-- tables are those that the plan reads.
pub record IsKept (known : Catalog) (own : Option Own) (k : KeptQuery) : Type 0 where
  pub is_planned : planned (query_in (around known own) k.query) ≡ true
  pub is_plan : tree_of k.plan
      ≡ plan (query_in (around known own) k.query) (width_in known)
      (under k.in_sight.rows k.in_sight.variables)
  pub are_tables : k.tables ≡ scans (tree_of k.plan)

-- ---- by the name of the routine around

-- the routine of this name and of such parameters, or none
abbrev pub own_named : Option (List ℕ) → List Parameter → Option Own
own_named None parameters = None
own_named (Some name) parameters = Some (record { name = name; parameters = parameters })

-- it is kept for the body of the routine of this name, whatever parameters that has, or for what
-- stands in no routine
abbrev pub IsKeptFor : Catalog → Option (List ℕ) → KeptQuery → Type 0
IsKeptFor known name k = (parameters : List Parameter) → IsKept known (own_named name parameters) k

-- each of these is
abbrev pub ArePlans : Catalog → Option (List ℕ) → List KeptQuery → Type 0
ArePlans known name kept = All (IsKeptFor known name) kept

-- those of each of these routines are kept for its body
abbrev pub AreForBodies : Catalog → List (List ℕ × List KeptQuery) → Type 0
AreForBodies known [] = Unit {0}
AreForBodies known (r ∷ rs) = ArePlans known (Some r.0) r.1 × AreForBodies known rs

-- each of these is kept where such things stand around it
abbrev pub AreKept : Around → List KeptQuery → Type 0
AreKept a kept = ArePlans a.functions.now.known (option_copied a.own) kept

-- ---- laws

-- Where its tables have the columns that they have in the plan, the frame has so many variables and
-- the rows in sight so many values, a kept query ends as its plan does under these rows, in the
-- world in which it began, whatever a self-call means there.
abbrev pub KeptMean : Type 0
KeptMean = (known : Catalog) (own : Option Own) (k : KeptQuery) (self : Called) (rows : List Row)
    (f : Frame) (w : World) → IsKept known own k → length f.variables ≡ k.in_sight.variables →
    widths rows ≡ k.in_sight.rows → Fits (inputs_of w f) →
    AreWide k.tables (table_width w.tables) →
    answer (query_in (around known own) k.query) self rows f w
    ≡ carried (collected (den (tree_of k.plan) (inputs_of w f) (stack rows))) w

-- What is kept in one catalog is kept in another, where the query stands for the same and its
-- tables have as many columns.
abbrev pub KeptLast : Type 0
KeptLast = (known later : Catalog) (own : Option Own) (k : KeptQuery) → IsKept known own k →
    query_in (around later own) k.query ≡ query_in (around known own) k.query →
    AreWide k.tables (width_in later) → IsKept later own k
