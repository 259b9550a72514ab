-- How deep an emission can nest: what falls at each of its calls.
use Rattle.std.specs.Prelude.{ℕ, ◌+◌, List, [], ◌∷◌}
use Rattle.bound_trees.specs.declared.statement.BoundHandler.{BoundHandler, out-BoundHandler}
use Rattle.rel_algebra.specs.Bodies.{Stmt, Compound, If, SearchedCase, SimpleCase, Stmts, NoStmt}
use Rattle.rel_algebra.specs.Bodies.{MoreStmts, Branches, NoBranch, MoreBranches, Handlers}
use Rattle.rel_algebra.specs.Bodies.{NoHandler, MoreHandlers}
use Rattle.block_plans.specs.Callees.{Callees}
use Rattle.plan_steps.specs.declared.place.Place.{Place}
use Rattle.plan_steps.specs.declared.sight.Sight.{Sight, Scope'}
use Rattle.plan_steps.specs.declared.sight.Sight.TheVariants as sight
use Rattle.plan_steps.specs.Places.{stmt_in}

abbrev mutual
  -- of a statement
  pub cost : Stmt → ℕ
  cost (Compound atomic variables handlers body) = handlers_cost handlers + stmts_cost body + 3
  cost (If branches otherwise) = branches_cost branches + stmts_cost otherwise + 1
  cost (SearchedCase branches otherwise) = branches_cost branches + stmts_cost otherwise + 1
  cost (SimpleCase e branches otherwise) = branches_cost branches + stmts_cost otherwise + 1
  cost _ = 1

  -- of statements in order
  pub stmts_cost : Stmts → ℕ
  stmts_cost NoStmt = 0
  stmts_cost (MoreStmts s ss) = cost s + stmts_cost ss

  -- of branches
  pub branches_cost : Branches → ℕ
  branches_cost NoBranch = 0
  branches_cost (MoreBranches test body others) = stmts_cost body + branches_cost others

  -- of the actions of handlers
  pub handlers_cost : Handlers → ℕ
  handlers_cost NoHandler = 0
  handlers_cost (MoreHandlers kind takes action others) = cost action + handlers_cost others

-- of the actions of handlers, as the code has them
abbrev pub actions_cost : Callees → List BoundHandler → ℕ
actions_cost k [] = 0
actions_cost k (h ∷ hs) = cost (stmt_in k (out-BoundHandler h).action) + actions_cost k hs

-- of the actions of the handlers in sight
abbrev pub sight_cost : Callees → Sight → ℕ
sight_cost k sight.Nothing = 0
sight_cost k (Scope' s p outer) = actions_cost k s.handlers.now + 1 + sight_cost k outer

-- at a place
abbrev pub place_cost : Place → ℕ
place_cost p = sight_cost p.functions.now p.sight.now
