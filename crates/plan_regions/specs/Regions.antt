-- What steps of nodes make of one row, and which plans they are.
use Rattle.std.specs.Prelude.{◌≡◌, ℕ, List, [], ◌∷◌, IfSome, length}
use Rattle.std.specs.List.{All}
use Rattle.sql_values.specs.declared.value.Value.{Value}
use Rattle.row_types.specs.declared.cell.Cell.{Cell}
use Rattle.row_types.specs.Cells.{Whole}
use Rattle.rel_algebra.specs.declared.plan.Node.{Node}
use Rattle.rel_algebra.specs.declared.plan.Node.TheVariants.{Keep}
use Rattle.rel_algebra.specs.Plain.{Inputs}
use Rattle.rel_algebra.specs.Plan.{PlanTree, den}
use Rattle.region_steps.specs.Chains.{chain_cells}
use Rattle.region_steps.specs.Idle.{IsIdle}
use Rattle.plan_regions.specs.declared.region.Step.{Step}

-- what is known of the rows on which its nodes are idle is so
abbrev pub IsSound : Step → Type 0
IsSound step = IfSome step.idle (λ idle. IsIdle step.nodes.now idle)

-- several steps on a row, the first of them first
abbrev pub steps_cells : List Step → List Cell → List (List Cell) → List Value → List Cell
steps_cells [] row outer args = row
steps_cells (step ∷ steps) row outer args =
    steps_cells steps (chain_cells step.nodes.now row outer args) outer args

-- steps that make one cell of the row without cells
pub record IsOneCell (steps : List Step) : Type 0 where
  pub sound : All IsSound steps
  pub one : (outer : List (List Cell)) (args : List Value) → length
      (steps_cells steps [] outer args) ≡ 1

-- steps are a plan: its one row is theirs
pub record IsRegionOf (steps : List Step) (tree : PlanTree) : Type 0 where
  pub cell : IsOneCell steps
  pub row : (w : Inputs) (outer : List (List Cell)) → den tree w outer ≡ Whole
      (steps_cells steps [] outer w.args) ∷ []

-- how many cells a row has after nodes, by the last that keeps some
abbrev pub kept_width : List Node → ℕ → ℕ
kept_width [] width = width
kept_width (Keep places ∷ ns) width = kept_width ns (length places)
kept_width (n ∷ ns) width = kept_width ns width
