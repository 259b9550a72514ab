-- What falls at each call of the emission.
use Rattle.std.proofs.Common.{◌≡◌, ℕ, ◌+◌, ◌<◌, ◌≤◌, Bool, true, false, List, [], ◌∷◌}
use Rattle.std.proofs.Common.{if◌then◌else◌, length, drop, get_or, None, Some, refl, sym, ap, ◌∙◌}
use Rattle.std.proofs.Common.{arith}
use Rattle.bound_trees.specs.declared.expr.BoundExpr.{BoundExpr}
use Rattle.bound_trees.specs.declared.statement.BoundBranch.{BoundBranch}
use Rattle.bound_trees.specs.declared.statement.BoundStmt.{BoundStmt}
use Rattle.bound_trees.specs.declared.statement.BoundStmt.TheVariants as bound
use Rattle.bound_trees.specs.declared.statement.BoundBlock.{BoundBlock, out-BoundBlock}
use Rattle.bound_trees.specs.declared.statement.BoundHandler.{BoundHandler, out-BoundHandler}
use Rattle.rel_algebra.specs.Bodies.{Stmt, Compound, If, SearchedCase, SimpleCase, Set, SelectInto}
use Rattle.rel_algebra.specs.Bodies.{Signal, Resignal, GetStatementItems, GetConditionItems, Leave}
use Rattle.rel_algebra.specs.Bodies.{Return}
use Rattle.regions.specs.TreeBodies.{stmt_body}
use Rattle.region_trees.specs.Regions.{HandlerRegion}
use Rattle.block_plans.specs.Callees.{Callees}
use Rattle.plan_expressions.proofs.Laws.{rest}
use Rattle.plan_bodies.specs.Cost.{actions_cost, branches_cost, cost, handlers_cost, sight_cost}
use Rattle.plan_bodies.specs.Cost.{place_cost, stmts_cost}
use Rattle.plan_steps.specs.Places.{block_in, branches_in, handlers_in, stmt_in, stmts_in}
use Rattle.plan_steps.specs.declared.place.Place.{Place}
use Rattle.plan_steps.specs.declared.sight.Scope.{Scope}
use Rattle.plan_steps.specs.declared.sight.Sight.{Sight}
use Rattle.plan_steps.specs.declared.sight.Sight.TheVariants as sight
use Rattle.plan_steps.proofs.Trees.{block-parts, handler-parts, stmt-Block, stmt-Case, stmt-CaseOf}
use Rattle.plan_steps.proofs.Trees.{stmt-If}

-- a statement costs something
pub cost_some : (s : Stmt) → 1 ≤ cost s
cost_some (Compound atomic variables handlers body) = omega arith
cost_some (If branches otherwise) = omega arith
cost_some (SearchedCase branches otherwise) = omega arith
cost_some (SimpleCase e branches otherwise) = omega arith
cost_some (Set t e) = omega arith
cost_some (SelectInto query targets) = omega arith
cost_some (Signal state text) = omega arith
cost_some (Resignal state text) = omega arith
cost_some (GetStatementItems reads) = omega arith
cost_some (GetConditionItems number reads) = omega arith
cost_some (Leave outwards) = omega arith
cost_some (Return e) = omega arith

-- the actions of handlers, as the code has them
pub actions_are : (k : Callees) (hs : List BoundHandler) →
    handlers_cost (handlers_in k hs) ≡ actions_cost k hs
actions_are k [] = refl
actions_are k (h ∷ hs) =
    ap (λ (r : HandlerRegion). cost (stmt_body r.action) + handlers_cost (handlers_in k hs))
    (handler-parts k h)
    ∙ ap (λ n. cost (stmt_in k (out-BoundHandler h).action) + n) (actions_are k hs)

pub block_cost : (k : Callees) (b : BoundBlock) → cost (block_in k b) ≡ actions_cost k
    (out-BoundBlock b).handlers + stmts_cost (stmts_in k (out-BoundBlock b).statements) + 3
block_cost k b = ap cost (block-parts k b) ∙
    ap (λ n. n + stmts_cost (stmts_in k (out-BoundBlock b).statements) + 3)
    (actions_are k (out-BoundBlock b).handlers)

pub actions_rest : (k : Callees) (hs : List BoundHandler) (i : ℕ) (x : BoundHandler) →
    i < length hs → x ≡ get_or hs i x →
    actions_cost k (drop i hs) ≡ cost (stmt_in k (out-BoundHandler x).action)
    + actions_cost k (drop (i + 1) hs)
actions_rest k hs i x h is = ap (actions_cost k) (rest hs i x h is)

-- ---- what a statement costs, by what it is

pub costs-Block : (k : Callees) (s : BoundStmt) (b : BoundBlock) → s ≡ bound.Block b →
    cost (stmt_in k s) ≡ cost (block_in k b)
costs-Block k s b h = ap (λ (x : BoundStmt). cost (stmt_in k x)) h ∙ ap cost (stmt-Block k b)

pub costs-If : (k : Callees) (s : BoundStmt) (bs cs : List BoundBranch) (ss ts : List BoundStmt) →
    s ≡ bound.If bs ss → cs ≡ bs → ts ≡ ss →
    cost (stmt_in k s) ≡ branches_cost (branches_in k cs) + stmts_cost (stmts_in k ts) + 1
costs-If k s bs cs ss ts h g e = ap (λ (x : BoundStmt). cost (stmt_in k x)) h ∙
    ap cost (stmt-If k bs ss) ∙
    sym (λ j. branches_cost (branches_in k (g j)) + stmts_cost (stmts_in k (e j)) + 1)

pub costs-Case : (k : Callees) (s : BoundStmt) (bs cs : List BoundBranch)
    (ss ts : List BoundStmt) → s ≡ bound.Case None bs ss → cs ≡ bs → ts ≡ ss →
    cost (stmt_in k s) ≡ branches_cost (branches_in k cs) + stmts_cost (stmts_in k ts) + 1
costs-Case k s bs cs ss ts h g e = ap (λ (x : BoundStmt). cost (stmt_in k x)) h ∙
    ap cost (stmt-Case k bs ss) ∙
    sym (λ j. branches_cost (branches_in k (g j)) + stmts_cost (stmts_in k (e j)) + 1)

pub costs-CaseOf : (k : Callees) (s : BoundStmt) (o : BoundExpr) (bs cs : List BoundBranch)
    (ss ts : List BoundStmt) → s ≡ bound.Case (Some o) bs ss → cs ≡ bs → ts ≡ ss →
    cost (stmt_in k s) ≡ branches_cost (branches_in k cs) + stmts_cost (stmts_in k ts) + 1
costs-CaseOf k s o bs cs ss ts h g e = ap (λ (x : BoundStmt). cost (stmt_in k x)) h ∙
    ap cost (stmt-CaseOf k o bs ss) ∙
    sym (λ j. branches_cost (branches_in k (g j)) + stmts_cost (stmts_in k (e j)) + 1)

-- ---- what stands around

-- the same place, but for what its handlers and its functions are by another name
pub place_costs : (p within : Place) → within.sight.now ≡ p.sight.now →
    within.functions.now ≡ p.functions.now → place_cost within ≡ place_cost p
place_costs p within sights cats = λ j. sight_cost (cats j) (sights j)

-- inside an ATOMIC compound statement no handlers are seen
pub outside_small : (k : Callees) (atomic : Bool) (s nothing outer : Sight) →
    nothing ≡ sight.Nothing → outer ≡ (if atomic then nothing else s) →
    sight_cost k outer ≤ sight_cost k s
outside_small k true s none outer h g =
    let none_left : sight_cost k outer ≡ 0 = ap (sight_cost k) (g ∙ h) in omega (arith, none_left)
outside_small k false s none outer h g =
    let same : sight_cost k outer ≡ sight_cost k s = ap (sight_cost k) g in omega (arith, same)

-- what the actions and the statements of a compound statement cost, where calls run the same
pub block_same : (k k' : Callees) (b : BoundBlock) → k' ≡ k →
    actions_cost k' (out-BoundBlock b).handlers
    + stmts_cost (stmts_in k' (out-BoundBlock b).statements) ≡ actions_cost k
    (out-BoundBlock b).handlers + stmts_cost (stmts_in k (out-BoundBlock b).statements)
block_same k k' b h = λ j. actions_cost (h j) (out-BoundBlock b).handlers
    + stmts_cost (stmts_in (h j) (out-BoundBlock b).statements)

pub actions_same : (k k' : Callees) (b : BoundBlock) → k' ≡ k →
    actions_cost k' (out-BoundBlock b).handlers ≡ actions_cost k (out-BoundBlock b).handlers
actions_same k k' b h = λ j. actions_cost (h j) (out-BoundBlock b).handlers

pub scope_costs : (k : Callees) (s : Scope) (b : BoundBlock) →
    s.handlers.now ≡ (out-BoundBlock b).handlers →
    actions_cost k s.handlers.now ≡ actions_cost k (out-BoundBlock b).handlers
scope_costs k s b h = ap (actions_cost k) h

pub statements_same : (k k' : Callees) (ss ts : List BoundStmt) → k' ≡ k → ts ≡ ss →
    stmts_cost (stmts_in k' ts) ≡ stmts_cost (stmts_in k ss)
statements_same k k' ss ts h g = λ j. stmts_cost (stmts_in (h j) (g j))
