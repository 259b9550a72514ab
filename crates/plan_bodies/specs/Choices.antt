-- Tests with their statements.
use Rattle.std.specs.Prelude.{ℕ, Bool, true, false, List, [], ◌∷◌, Option, None, Some}
use Rattle.bound_trees.specs.declared.statement.BoundBranch.{BoundBranch, out-BoundBranch}
use Rattle.bound_trees.specs.declared.statement.BoundStmt.{BoundStmt}
use Rattle.rel_algebra.specs.BodyChain.{Rest, and_on, branching, emit_all, emit_branches, emit_else}
use Rattle.rel_algebra.specs.BodyChain.{emit_matching}
use Rattle.rel_algebra.specs.BodySteps.{Step}
use Rattle.plan_statements.specs.Statements.{test_by}
use Rattle.plan_steps.specs.Places.{branches_in, codes_of, env_in, leaf_in, stmts_in, widths_in}
use Rattle.plan_steps.specs.declared.dispatch.Reached.{Reached}
use Rattle.plan_steps.specs.declared.dispatch.Spot.{Spot}
use Rattle.plan_steps.specs.declared.place.Place.{Place}

-- tests with their statements, and what follows
abbrev pub branches_by : Option ℕ → List BoundBranch → Rest → Place → Rest
branches_by None bs rest place = emit_branches (branches_in place.functions.now bs) (widths_in place)
    (codes_of place) rest
branches_by (Some x) bs rest place = emit_matching (branches_in place.functions.now bs) x
    (widths_in place) (codes_of place) rest

-- whether this is CASE without ELSE
abbrev pub lacks : Bool → List BoundStmt → Bool
lacks true [] = true
lacks true (s ∷ ss) = false
lacks false ss = false

-- ELSE, without which CASE raises
abbrev pub otherwise_by : Bool → List BoundStmt → Place → Rest
otherwise_by true ss place = emit_else (stmts_in place.functions.now ss) (widths_in place)
    (codes_of place)
otherwise_by false ss place = and_on (emit_all (stmts_in place.functions.now ss) (widths_in place)
    (codes_of place))

-- tests with their statements, and ELSE
abbrev pub choice_by : Option ℕ → List BoundBranch → List BoundStmt → Bool → Place → Rest
choice_by operand bs ss wants_else place = branches_by operand bs (otherwise_by wants_else ss place)
    place

-- their steps from a spot on
abbrev pub branch_steps : Option ℕ → List BoundBranch → Rest → Place → Spot → ℕ → List Step
branch_steps operand bs rest place spot free = branches_by operand bs rest place (env_in place)
    spot.from spot.here spot.base free spot.columns

-- those of one test with its statements, and what follows
abbrev pub branch_step : Option ℕ → BoundBranch → Rest → Place → Spot → Reached → List Step
branch_step operand b rest place spot reached =
    let k = place.functions.now in let x = out-BoundBranch b in
    branching (test_by operand (leaf_in k x.test) (widths_in place)) (codes_of place)
    (emit_all (stmts_in k x.body) (widths_in place) (codes_of place)) rest (env_in place)
    reached.from spot.here spot.base reached.free spot.columns
