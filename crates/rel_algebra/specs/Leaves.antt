-- The leaves of bodies: an expression and a query by what they mean for given tables and by how
-- they are planned. A body knows no more of them.
use Rattle.std.specs.Prelude.{ℕ, List, Option, None}
use Rattle.sql_values.specs.declared.value.Value.{Value}
use Rattle.sql_values.specs.declared.value.Value.TheVariants.{Null}
use Rattle.row_types.specs.Rows.{Row}
use Rattle.rel_algebra.specs.Emissions.{Emitted, Folded, plain}
use Rattle.rel_algebra.specs.Environments.{Env}
use Rattle.rel_algebra.specs.Endings.{Ending}
use Rattle.rel_algebra.specs.Scopes.{Inputs, Scope}
use Rattle.rel_algebra.specs.Plan.{PlanTree, constant, unit_row}

-- the widths of tables
abbrev pub Widths : Type 0
Widths = List ℕ → ℕ

-- an expression
pub record ValueLeaf : Type 0 where
  -- its value in a scope, or the first condition
  pub value : Inputs → Scope → Ending Value
  -- its columns and its scalar, by the environment and the width of the row
  pub emitted : Widths → Env → ℕ → Emitted

-- a query
pub record QueryLeaf : Type 0 where
  -- its rows in a scope, or the first condition
  pub answer : Inputs → Scope → Ending (List Row)
  -- its plan, by the environment of the rows outside
  pub plan : Widths → Env → PlanTree
  -- the same as one that is folded, where it is of aggregates alone
  pub folded : Widths → Env → Option Folded

-- an expression with this value, and without a plan of its own
abbrev pub valued : (Inputs → Scope → Ending Value) → ValueLeaf
valued value = record { value = value; emitted = λ S env n. plain (constant Null) }

-- a query with these rows, and without a plan of its own
abbrev pub answered : (Inputs → Scope → Ending (List Row)) → QueryLeaf
answered answer = record {
  answer = answer;
  plan = λ S env. unit_row;
  folded = λ S env. None;
}
