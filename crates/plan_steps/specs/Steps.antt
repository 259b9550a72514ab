-- The steps that functions put over a plan in the making.
use Rattle.std.specs.Prelude.{◌≡◌, ℕ, suc, ◌+◌, List, map}
use Rattle.rel_algebra.specs.BodyDispatch.{Env, Codes, count, judging, handled}
use Rattle.rel_algebra.specs.BodySteps.{Step, steps_tree, acts, Store, case_of, col, tag}
use Rattle.rel_algebra.specs.Plan.{Nodes, Scalar, Scalars, none, more, word, strict}
use Rattle.rel_algebra.specs.PlanView.{scalar_of}
use Rattle.rel_algebra.specs.Tree.{AnyOf}
use Rattle.rel_algebra.specs.BodyDispatch.{tags}
use Rattle.plan_expressions.specs.Drafts.{drafted}
use Rattle.plan_expressions.specs.declared.draft.Draft.{Draft}
use Rattle.plan_steps.specs.declared.dispatch.At.{At}
use Rattle.plan_steps.specs.declared.dispatch.Spot.{Spot}
use Rattle.plan_steps.specs.declared.place.Place.{Place}
use Rattle.plan_steps.specs.declared.step.Store.{Store as StoreCode}
use Rattle.plan_steps.specs.Places.{codes_of, env_in}

-- the steps stand over the plan as it was
pub record Puts (old new : Draft) (steps : List Step) : Type 0 where
  pub tree : (drafted new).tree ≡ steps_tree steps (drafted old).tree

-- these steps over the plan as it was are those over what stands now
pub record GoesOn (old new : Draft) (all left : List Step) : Type 0 where
  pub tree : steps_tree left (drafted new).tree ≡ steps_tree all (drafted old).tree

-- a store
abbrev pub store_of : StoreCode → Store
store_of s = record { column = s.column; new = scalar_of s.new }

-- stores
abbrev pub stores_of : List StoreCode → List Store
stores_of ss = map store_of ss

-- `here`, where the code is one of k from i on, and else the code
abbrev pub joined_cell : ℕ → ℕ → ℕ → Scalar
joined_cell i k here = case_of (word (strict AnyOf) (more (col 0) (tags i k))) (tag here) (col 0)

-- what nothing takes
abbrev pub untaken : Scalar → ℕ → ℕ → Scalars
untaken test out here = more test (more (tag out) (more (tag here) none))

-- nodes, and where column t, their last, has a value or an area, these stores, the code and the
-- area
abbrev pub judged : Nodes → Scalar → ℕ → List Store → List ℕ → Spot → Place → Step
judged nodes goes t stores extra spot place = acts spot.from nodes (suc t)
    (judging goes (codes_of place) (env_in place) spot.base spot.here t stores) spot.columns extra

-- what handles what the one step of a statement raises
abbrev pub taken : Codes → Env → At → List Step
taken codes env at = handled codes env at.here at.next (at.next + count codes) at.columns
