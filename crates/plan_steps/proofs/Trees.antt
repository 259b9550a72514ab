-- Which parts of bodies bound statements stand for, where their calls run what has a plan.
use Rattle.std.proofs.Common.{◌≡◌, ℕ, List, [], ◌∷◌, map, None, Some, refl, sym, ap, ◌∙◌}
use Rattle.bound_trees.specs.declared.condition.BoundDiagnostics.{BoundDiagnostics}
use Rattle.bound_trees.specs.declared.condition.BoundResignal.{BoundResignal}
use Rattle.bound_trees.specs.declared.condition.BoundSignal.{BoundSignal}
use Rattle.bound_trees.specs.declared.expr.BoundExpr.{BoundExpr}
use Rattle.bound_trees.specs.declared.query.BoundQuery.{BoundQuery}
use Rattle.bound_trees.specs.declared.statement.BoundBlock.{BoundBlock, out-BoundBlock}
use Rattle.bound_trees.specs.declared.statement.BoundBranch.{BoundBranch, out-BoundBranch}
use Rattle.bound_trees.specs.declared.statement.BoundHandler.{BoundHandler, out-BoundHandler}
use Rattle.bound_trees.specs.declared.statement.BoundStmt.{BoundStmt, roll-BoundStmt}
use Rattle.bound_trees.specs.declared.statement.BoundStmt.TheFolds.{map-BoundStmt}
use Rattle.bound_trees.specs.declared.statement.BoundStmt.TheFolds.{fold-roll-BoundStmt}
use Rattle.bound_trees.specs.declared.statement.BoundStmt.TheFolds.{fold-roll-BoundBlock}
use Rattle.bound_trees.specs.declared.statement.BoundStmt.TheFolds.{fold-roll-BoundBranch}
use Rattle.bound_trees.specs.declared.statement.BoundStmt.TheFolds.{fold-roll-BoundHandler}
use Rattle.bound_trees.specs.declared.statement.BoundStmt.TheOpen.{BoundStmt-F}
use Rattle.bound_trees.specs.declared.statement.BoundStmt.TheViews.{roll-out-BoundBlock}
use Rattle.bound_trees.specs.declared.statement.BoundStmt.TheViews.{roll-out-BoundBranch}
use Rattle.bound_trees.specs.declared.statement.BoundStmt.TheViews.{roll-out-BoundHandler}
use Rattle.bound_trees.specs.declared.statement.BoundStmt.TheVariants as bound
use Rattle.bound_trees.specs.declared.statement.BoundStmt.TheVariants.{rolls-Block, rolls-If}
use Rattle.bound_trees.specs.declared.statement.BoundStmt.TheVariants.{rolls-Case, rolls-Set}
use Rattle.bound_trees.specs.declared.statement.BoundStmt.TheVariants.{rolls-SelectInto}
use Rattle.bound_trees.specs.declared.statement.BoundStmt.TheVariants.{rolls-Signal, rolls-Resignal}
use Rattle.bound_trees.specs.declared.statement.BoundStmt.TheVariants.{rolls-GetDiagnostics}
use Rattle.bound_trees.specs.declared.statement.BoundStmt.TheVariants.{rolls-Leave, rolls-Return}
use Rattle.bound_trees.specs.declared.statement.BoundTarget.{BoundTarget}
use Rattle.rel_algebra.specs.Bodies as body
use Rattle.rel_algebra.specs.BodyChain.{coded, emit}
use Rattle.rel_algebra.specs.BodyDispatch.{Coded, Codes}
use Rattle.block_plans.specs.Callees.{Callees, width_in}
use Rattle.block_plans.specs.View.{expr_seen}
use Rattle.regions.specs.Tree.{Stmt}
use Rattle.regions.specs.TreeBodies.{stmt_body}
use Rattle.routine_views.specs.Views.{condition_value, handler_type, target}
use Rattle.region_trees.specs.Regions.{BranchRegion, HandlerRegion, block_region, branch_region}
use Rattle.region_trees.specs.Regions.{get_region, handler_region, region_of_block}
use Rattle.region_trees.specs.Regions.{region_of_branch, region_of_handler, stmt_region, stmts}
use Rattle.region_trees.specs.Regions.{region_seen, seen_by}
use Rattle.plan_steps.specs.Places.{block_in, branches_in, coded_in, handlers_in, leaf_in}
use Rattle.plan_steps.specs.Places.{perhaps_in, query_in, stmt_in, stmts_in, variables_in}

-- ---- statements

module _ (c : Callees) where
  region_at : (x : BoundStmt-F BoundStmt BoundBlock BoundBranch BoundHandler) →
      region_seen c (roll-BoundStmt x) ≡ stmt_region (seen_by c)
      (map-BoundStmt BoundStmt BoundBlock BoundBranch BoundHandler Stmt Stmt BranchRegion
      HandlerRegion (region_seen c) (region_of_block (seen_by c))
      (region_of_branch (seen_by c)) (region_of_handler (seen_by c)) x)
  region_at x = fold-roll-BoundStmt Stmt Stmt BranchRegion HandlerRegion
      (stmt_region (seen_by c)) (block_region (seen_by c)) (branch_region (seen_by c))
      handler_region x

  seen_at : (s : BoundStmt) (x : BoundStmt-F BoundStmt BoundBlock BoundBranch BoundHandler) →
      roll-BoundStmt x ≡ s → stmt_in c s ≡ stmt_body (stmt_region (seen_by c)
      (map-BoundStmt BoundStmt BoundBlock BoundBranch BoundHandler Stmt Stmt BranchRegion
      HandlerRegion (region_seen c) (region_of_block (seen_by c))
      (region_of_branch (seen_by c)) (region_of_handler (seen_by c)) x))
  seen_at s x h = ap (stmt_in c) (sym h) ∙ ap stmt_body (region_at x)

  pub stmt-Block : (b : BoundBlock) → stmt_in c (bound.Block b) ≡ block_in c b
  stmt-Block b = seen_at (bound.Block b) (BoundStmt-F.Block b) (rolls-Block b)

  pub stmt-If : (bs : List BoundBranch) (ss : List BoundStmt) →
      stmt_in c (bound.If bs ss) ≡ body.If (branches_in c bs) (stmts_in c ss)
  stmt-If bs ss = seen_at (bound.If bs ss) (BoundStmt-F.If bs ss) (rolls-If bs ss)

  pub stmt-Case : (bs : List BoundBranch) (ss : List BoundStmt) →
      stmt_in c (bound.Case None bs ss) ≡ body.SearchedCase (branches_in c bs) (stmts_in c ss)
  stmt-Case bs ss = seen_at (bound.Case None bs ss) (BoundStmt-F.Case None bs ss)
      (rolls-Case None bs ss)

  pub stmt-CaseOf : (e : BoundExpr) (bs : List BoundBranch) (ss : List BoundStmt) →
      stmt_in c (bound.Case (Some e) bs ss) ≡ body.SimpleCase (leaf_in c e) (branches_in c bs)
      (stmts_in c ss)
  stmt-CaseOf e bs ss = seen_at (bound.Case (Some e) bs ss) (BoundStmt-F.Case (Some e) bs ss)
      (rolls-Case (Some e) bs ss)

  pub stmt-Set : (t : BoundTarget) (e : BoundExpr) →
      stmt_in c (bound.Set t e) ≡ body.Set (target t) (leaf_in c e)
  stmt-Set t e = seen_at (bound.Set t e) (BoundStmt-F.Set t e) (rolls-Set t e)

  pub stmt-Return : (e : BoundExpr) → stmt_in c (bound.Return e) ≡ body.Return (leaf_in c e)
  stmt-Return e = seen_at (bound.Return e) (BoundStmt-F.Return e) (rolls-Return e)

  pub stmt-SelectInto : (q : BoundQuery) (ts : List BoundTarget) →
      stmt_in c (bound.SelectInto q ts) ≡ body.SelectInto (query_in c q) (map target ts)
  stmt-SelectInto q ts = seen_at (bound.SelectInto q ts) (BoundStmt-F.SelectInto q ts)
      (rolls-SelectInto q ts)

  pub stmt-Signal : (s : BoundSignal) →
      stmt_in c (bound.Signal s) ≡ body.Signal s.state (perhaps_in c s.message)
  stmt-Signal s = seen_at (bound.Signal s) (BoundStmt-F.Signal s) (rolls-Signal s)

  pub stmt-Resignal : (s : BoundResignal) →
      stmt_in c (bound.Resignal s) ≡ body.Resignal s.state (perhaps_in c s.message)
  stmt-Resignal s = seen_at (bound.Resignal s) (BoundStmt-F.Resignal s) (rolls-Resignal s)

  pub stmt-Get : (d : BoundDiagnostics) →
      stmt_in c (bound.GetDiagnostics d) ≡ stmt_body (get_region (seen_by c) d.information)
  stmt-Get d = seen_at (bound.GetDiagnostics d) (BoundStmt-F.GetDiagnostics d)
      (rolls-GetDiagnostics d)

  pub stmt-Leave : (n : ℕ) → stmt_in c (bound.Leave n) ≡ body.Leave n
  stmt-Leave n = seen_at (bound.Leave n) (BoundStmt-F.Leave n) (rolls-Leave n)

  -- ---- parts of statements

  pub block-parts : (b : BoundBlock) → block_in c b ≡ body.Compound (out-BoundBlock b).atomic
      (variables_in c (out-BoundBlock b).variables) (handlers_in c (out-BoundBlock b).handlers)
      (stmts_in c (out-BoundBlock b).statements)
  block-parts b = ap (block_in c) (sym (roll-out-BoundBlock b)) ∙ ap stmt_body
      (fold-roll-BoundBlock Stmt Stmt BranchRegion HandlerRegion (stmt_region (seen_by c))
      (block_region (seen_by c)) (branch_region (seen_by c)) handler_region (out-BoundBlock b))

  pub branch-parts : (b : BoundBranch) → region_of_branch (seen_by c) b ≡ record {
    test = expr_seen c (out-BoundBranch b).test;
    body = stmts (map (region_seen c) (out-BoundBranch b).body);
  }
  branch-parts b = ap (region_of_branch (seen_by c)) (sym (roll-out-BoundBranch b)) ∙
      fold-roll-BoundBranch Stmt Stmt BranchRegion HandlerRegion (stmt_region (seen_by c))
      (block_region (seen_by c)) (branch_region (seen_by c)) handler_region (out-BoundBranch b)

  pub handler-parts : (h : BoundHandler) → region_of_handler (seen_by c) h ≡ record {
    follows = handler_type (out-BoundHandler h).handler_type;
    values = map condition_value (out-BoundHandler h).values;
    action = region_seen c (out-BoundHandler h).action;
  }
  handler-parts h = ap (region_of_handler (seen_by c)) (sym (roll-out-BoundHandler h)) ∙
      fold-roll-BoundHandler Stmt Stmt BranchRegion HandlerRegion (stmt_region (seen_by c))
      (block_region (seen_by c)) (branch_region (seen_by c)) handler_region
      (out-BoundHandler h)

  abbrev coded_by : Codes → HandlerRegion → Coded
  coded_by outer r = record {
    kind = r.follows;
    takes = r.values;
    action = emit (stmt_body r.action) (width_in c) outer;
  }

  -- the handlers of a compound statement, each by itself
  pub coded_all : (hs : List BoundHandler) (outer : Codes) →
      coded (handlers_in c hs) (width_in c) outer ≡ map (coded_in c outer) hs
  coded_all [] outer = refl
  coded_all (h ∷ hs) outer =
      ap (λ (r : HandlerRegion). coded_by outer r ∷ coded (handlers_in c hs) (width_in c) outer)
      (handler-parts h)
      ∙ ap (λ (xs : List Coded). coded_in c outer h ∷ xs) (coded_all hs outer)
