-- Worked rows. ONE and NEXT (): RETURN ONE() + 1 have plans, AGAIN has none, and T is a table.
use Rattle.std.specs.Prelude.{◌≡◌, ℕ, pos, [], ◌∷◌, codes}
use Rattle.sql_values.specs.declared.value.Value.TheVariants.{Int}
use Rattle.sql_values.specs.declared.operators.Operator.TheVariants.{Add}
use Rattle.bound_trees.specs.declared.expr.BoundExpr.{BoundExpr}
use Rattle.bound_trees.specs.declared.expr.BoundExpr.TheVariants as bound
use Rattle.bound_trees.specs.declared.query.BoundQuery.{BoundQuery}
use Rattle.bound_trees.specs.declared.query.BoundQuery.TheVariants as query
use Rattle.bound_trees.specs.declared.query.BoundRow.TheVariants as row
use Rattle.catalog_store.specs.Examples.{count_of_rows, with_statements}
use Rattle.block_plans.specs.Callees.{Callees, without_blocks}
use Rattle.call_places.specs.Places.{inlined_places, interpreted_places}

-- VALUES with one value
abbrev pub value_alone : BoundExpr → BoundQuery
value_alone e = query.Values (row.Row (e ∷ []) ∷ [])

-- ONE (), NEXT () and AGAIN ()
abbrev pub one : BoundExpr
one = bound.Call (codes "ONE") []

-- NEXT ()
abbrev pub next : BoundExpr
next = bound.Call (codes "NEXT") []

-- AGAIN ()
abbrev pub again : BoundExpr
again = bound.Call (codes "AGAIN") []

-- where no block has a plan
abbrev pub no_block : Callees
no_block = without_blocks with_statements

-- the places of VALUES with one value: how many are inlined, and how many interpreted
abbrev pub places : BoundExpr → ℕ × ℕ
places e = (
  inlined_places no_block (value_alone e),
  interpreted_places no_block (value_alone e),
)

-- Which places are counted, and how often.
pub record PlacesAreCounted : Type 0 where
  pub literal : places (bound.Literal (Int (pos 1))) ≡ (0, 0)
  pub without_a_plan : places again ≡ (0, 1)
  -- NEXT's body calls ONE, which is no place of this query
  pub body : places next ≡ (1, 0)
  -- ONE () + ONE () has two places
  pub twice : places (bound.Chain one (record { operator = Add; operand = one } ∷ [])) ≡ (2, 0)
  -- NEXT (AGAIN (), ONE ()): arguments have places
  pub arguments : places (bound.Call (codes "NEXT") (again ∷ one ∷ [])) ≡ (2, 1)
  -- and so has a subquery: (VALUES (AGAIN ()))
  pub subquery : places (bound.Single (value_alone again)) ≡ (0, 1)
  -- ONE () IN (SELECT COUNT(*) FROM T): a table isn't called
  pub table : places (bound.In one (query.Select count_of_rows)) ≡ (1, 0)
  -- a name that stands for nothing has no plan
  pub nothing : places (bound.Call (codes "NO") []) ≡ (0, 1)
