-- What a prepared query is: a plan that gives the query's rows, or its first condition, whatever
-- the tables hold. ISO/IEC 9075-2, 7.17 (query expression) and 20.6 (prepare statement).
use Rattle.std.specs.Prelude.{ℕ, ◌≡◌, true, List, []}
use Rattle.row_types.specs.Tables.{Tables}
use Rattle.rel_algebra.specs.Tree.{Query}
use Rattle.rel_algebra.specs.World.{World, no_self, no_frame}
use Rattle.rel_algebra.specs.Meaning.{answer, carried}
use Rattle.rel_algebra.specs.Joins.{table_width}
use Rattle.rel_algebra.specs.Emit.{plan, top}
use Rattle.rel_algebra.specs.Kinds.{Kinds, tree_good}
use Rattle.rel_algebra.specs.Plain.{Inputs}
use Rattle.rel_algebra.specs.Theorem.{Fits}
use Rattle.rel_algebra.specs.Plan.{PlanTree, den, collected}
use Rattle.rel_algebra.specs.PlanView.{tree_of}
use Rattle.rel_algebra.specs.Lasting.{QueryLasts}
use Rattle.rel_algebra.specs.Removal.{tree_within}
use Rattle.rel_algebra.specs.WellFormed.{tree_fits}
use Rattle.psm_effects.specs.declared.prepared.Prepared.{Prepared}

-- the plan that is kept
abbrev pub plan_in : Prepared → PlanTree
plan_in p = tree_of p.plan

-- tables, without an argument
abbrev pub over : Tables → Inputs
over tables = record { tables = tables; args = [] }

-- The plan is one of the query, which is prepared for tables of these widths.
pub record IsPlanOf (q : Query) (widths : List ℕ → ℕ) (p : PlanTree) : Type 0 where
  -- Over all tables, of which those that the query names have these widths, the plan's rows are the
  -- query's, in their order, or the first condition is the same.
  pub means : (w : World) → Fits (over w.tables) → QueryLasts q widths (table_width w.tables)
      → answer q no_self [] no_frame w ≡ carried (collected (den p (over w.tables) [])) w
  -- the plan as a whole reads no row outside, whatever the query names
  pub closed : tree_within p 0 ≡ true

-- The plan is as well formed as the one that the emitter makes of the query.
pub record KeepsForm (q : Query) (widths : List ℕ → ℕ) (p : PlanTree) : Type 0 where
  -- each column that it names is there, if that is so there
  pub fits : tree_fits (plan q widths (top 0)) widths [] 0 ≡ true →
      tree_fits p widths [] 0 ≡ true
  -- each operand has its kind, for all kinds of tables for which that is so there
  pub kinded : (kinds : List ℕ → Kinds) → tree_good (plan q widths (top 0)) kinds [] [] ≡ true →
      tree_good p kinds [] [] ≡ true

-- The plan is one of the query, and is well formed, for tables of these widths whose columns are of
-- these kinds.
pub record IsPrepared (q : Query) (widths : List ℕ → ℕ) (kinds : List ℕ → Kinds) (p : PlanTree) :
    Type 0 where
  pub is_plan : IsPlanOf q widths p
  -- each column that the plan names is there
  pub fits : tree_fits p widths [] 0 ≡ true
  -- each operand in it has the kind that it is wanted to have
  pub kinded : tree_good p kinds [] [] ≡ true
