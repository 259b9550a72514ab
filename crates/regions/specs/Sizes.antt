-- How many nodes the plans of functions have: worked rows, which hold by computation.
use Rattle.std.specs.Prelude.{◌≡◌, ℕ, zero, suc, ◌+◌, List, [], ◌∷◌}
use Rattle.rel_algebra.specs.Plan.{PlanTree, apply, extend, keep}
use Rattle.rel_algebra.specs.Tree.{SqlException, SqlWarning}
use Rattle.rel_algebra.specs.Work.{nodes_in, nodes_in_all}
use Rattle.regions.specs.Tree.{Continue, Exit, Stmt, NoHandler, Handlers, NoVariable, Routine}
use Rattle.regions.specs.Examples.{plan_of, function, begin, set, number, over, x, handler}
use Rattle.regions.specs.Examples.{integers}

-- the nodes of a chain, and of their scalars, inner plans aside
abbrev pub chain_nodes : PlanTree → ℕ
chain_nodes (extend ss input) = suc (chain_nodes input)
chain_nodes (apply when kind way inner input) = suc (chain_nodes input)
chain_nodes (keep is input) = suc (chain_nodes input)
chain_nodes t = 1

-- the nodes of its scalars
abbrev pub chain_scalars : PlanTree → ℕ
chain_scalars (extend ss input) = nodes_in_all ss + chain_scalars input
chain_scalars (apply when kind way inner input) = nodes_in when + chain_scalars input
chain_scalars (keep is input) = chain_scalars input
chain_scalars t = 0

-- SET r = 1 / x, so many times
abbrev pub sets : ℕ → List Stmt
sets zero = []
sets (suc k) = set 1 (over (number 1) x) ∷ sets k

-- k SETs under these handlers
abbrev pub under : Handlers → ℕ → Routine
under hs k = function (begin (integers 1 NoVariable) hs (sets k))

-- with an EXIT handler, whose action is a SET
abbrev pub exiting : Handlers → Handlers
exiting more = handler Exit SqlException (set 1 (number 7)) more

-- with a CONTINUE handler, whose action is a SET
abbrev pub continuing : Handlers → Handlers
continuing more = handler Continue SqlWarning (set 1 (number 8)) more

-- a compound statement within another, each with a handler
abbrev pub within : ℕ → Routine
within k = function (begin (integers 1 NoVariable) (continuing NoHandler)
    (begin NoVariable (continuing NoHandler) (sets k) ∷ []))

-- the nodes of the chain, and of its scalars
pub record SizeIs (r : Routine) (nodes scalars : ℕ) : Type 0 where
  pub has_nodes : chain_nodes (plan_of r) ≡ nodes
  pub has_scalars : chain_scalars (plan_of r) ≡ scalars

-- A SET takes three nodes more; under a CONTINUE handler whose action is a SET, nine, at twice the
-- weight; under two, twelve, at thrice the weight; and where the action itself stands under one,
-- eighteen, at four times the weight. An EXIT handler adds none.
pub record SizesWorked : Type 0 where
  pub none : SizeIs (under NoHandler 0) 9 34
  pub one : SizeIs (under NoHandler 1) 12 69
  pub two : SizeIs (under NoHandler 2) 15 104
  pub one_exit : SizeIs (under (exiting NoHandler) 1) 18 119
  pub two_exit : SizeIs (under (exiting NoHandler) 2) 21 158
  pub one_continue : SizeIs (under (continuing NoHandler) 1) 24 159
  pub two_continue : SizeIs (under (continuing NoHandler) 2) 33 238
  pub one_by_two : SizeIs (under (continuing (continuing NoHandler)) 1) 30 235
  pub two_by_two : SizeIs (under (continuing (continuing NoHandler)) 2) 42 352
  pub one_within : SizeIs (within 1) 49 343
  pub two_within : SizeIs (within 2) 67 504
