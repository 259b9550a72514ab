-- The steps of statements of one step, and of declarations.
use Rattle.std.specs.Prelude.{ℕ, suc, ◌+◌, List, [], ◌∷◌, length}
use Rattle.std.specs.Prelude.{Option, None, Some}
use Rattle.bound_trees.specs.declared.condition.BoundInformation.{BoundInformation}
use Rattle.bound_trees.specs.declared.statement.BoundVariables.{BoundVariables}
use Rattle.rel_algebra.specs.Bodies.{ConditionItem, ConditionRead, Target, word_of}
use Rattle.rel_algebra.specs.BodyChain.{emitted, with_column, with_columns, equal_to}
use Rattle.rel_algebra.specs.BodyChain.{emit}
use Rattle.rel_algebra.specs.BodyChain.{assigns_if, target_stores, declared}
use Rattle.rel_algebra.specs.BodyChain.{condition_cells, item_cell}
use Rattle.rel_algebra.specs.BodyMeaning.{condition_targets}
use Rattle.rel_algebra.specs.BodyDispatch.{Env}
use Rattle.rel_algebra.specs.BodySteps.{Step, case_of, col, tag}
use Rattle.rel_algebra.specs.Emissions.{Emitted, width, joined_nodes}
use Rattle.rel_algebra.specs.Joins.{places}
use Rattle.rel_algebra.specs.Leaves.{ValueLeaf, Widths}
use Rattle.rel_algebra.specs.OnConditions.{ItemWord, state_item}
use Rattle.rel_algebra.specs.Plan.{Nodes, no_node, extend_by, Scalars, more}
use Rattle.regions.specs.TreeBodies.{stmt_body}
use Rattle.region_trees.specs.Regions.{get_region, seen_by}
use Rattle.plan_steps.specs.declared.dispatch.At.{At}
use Rattle.plan_steps.specs.declared.dispatch.Spot.{Spot}
use Rattle.plan_steps.specs.declared.place.Place.{Place}
use Rattle.plan_steps.specs.Places.{codes_of, env_in, perhaps_in}
use Rattle.plan_steps.specs.Places.{widths_in}
use Rattle.plan_steps.specs.Steps.{judged}

-- ---- values that are stored at once

-- the word that reads an item of a condition
abbrev pub word_for : ConditionItem → ItemWord
word_for item = word_of item

-- the list of aggregates alone, assigned, where nodes have made the row m columns wide
abbrev pub folded_step : Nodes → ℕ → Scalars → List Target → Spot → Place → Step
folded_step nodes m list targets spot place =
    let k = length targets in let t = (m + k) + k in
    judged (joined_nodes nodes (extend_by list (with_columns no_node
    (assigns_if (spot.columns ∷ places m k) targets m) (places (m + k) k)))) (tag spot.here) t
    (target_stores targets (env_in place) spot.columns t (m + k)) [] spot place

-- GET STACKED DIAGNOSTICS of the condition whose number stands in column i, the last of nodes
abbrev pub numbered_step : Nodes → ℕ → ℕ → List ConditionRead → Spot → Place → Step
numbered_step nodes i c reads spot place =
    let k = suc (length reads) in
    judged (with_columns nodes (more (item_cell state_item i c) (condition_cells reads i c))
    (places (suc i) k)) (tag spot.here) (suc i + k)
    (target_stores (condition_targets reads) (env_in place) spot.columns (suc i + k)
    (suc (suc i))) [] spot place

-- GET STACKED DIAGNOSTICS
abbrev pub get_steps : BoundInformation → Place → At → List Step
get_steps information place at =
    emit (stmt_body (get_region (seen_by place.functions.now) information)) (widths_in place)
    (codes_of place) (env_in place) at.here at.next at.columns

-- ---- tests

-- a test, which is compared with the operand of CASE where that stands in a column
abbrev pub test_by : Option ℕ → ValueLeaf → Widths → Env → ℕ → Emitted
test_by None e S = λ env n. emitted e S env n
test_by (Some x) e S = λ env n. equal_to x (emitted e S env n)

-- its step
abbrev pub test_step : Emitted → ℕ → Spot → Place → Step
test_step a free spot place =
    let p = width a.nodes spot.columns in
    judged (with_column a.nodes a.scalar) (case_of (col p) (tag free) (tag (suc free))) p [] [] spot
    place

-- that of the operand, which stays in a column
abbrev pub operand_step : Emitted → ℕ → Spot → Place → Step
operand_step a start spot place =
    let p = width a.nodes spot.columns in
    judged (with_column a.nodes a.scalar) (tag start) p [] (p ∷ []) spot place

-- ---- declarations

-- the step of one declaration, with these columns in sight, on rows of n columns
abbrev pub group_step : BoundVariables → List ℕ → ℕ → Spot → Place → Step
group_step v columns n spot place =
    let env = env_in place in
    declared (perhaps_in place.functions.now v.default) v.count v.data_type (widths_in place)
    (codes_of place) (record {
      columns = columns;
      labels = env.labels;
      exits = env.exits;
      out = env.out;
      stacked = env.stacked;
      level = env.level;
    }) spot.from spot.here spot.base n
