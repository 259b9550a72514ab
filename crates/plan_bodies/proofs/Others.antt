-- A statement that isn't in form stands for a compound statement of nothing.
use Rattle.std.proofs.Common.{◌≡◌, ℕ, List, Option, refl, sym, ap, ◌∙◌}
use Rattle.bound_trees.specs.declared.condition.BoundDiagnostics.{BoundDiagnostics}
use Rattle.bound_trees.specs.declared.condition.BoundResignal.{BoundResignal}
use Rattle.bound_trees.specs.declared.condition.BoundSignal.{BoundSignal}
use Rattle.bound_trees.specs.declared.expr.BoundExpr.{BoundExpr}
use Rattle.bound_trees.specs.declared.query.BoundQuery.{BoundQuery}
use Rattle.bound_trees.specs.declared.statement.BoundBlock.{BoundBlock}
use Rattle.bound_trees.specs.declared.statement.BoundBranch.{BoundBranch}
use Rattle.bound_trees.specs.declared.statement.BoundHandler.{BoundHandler}
use Rattle.bound_trees.specs.declared.statement.BoundStmt.{BoundStmt, out-BoundStmt, roll-BoundStmt}
use Rattle.bound_trees.specs.declared.statement.BoundStmt.{fold_out-BoundStmt}
use Rattle.bound_trees.specs.declared.statement.BoundStmt.TheFolds.{map-BoundStmt}
use Rattle.bound_trees.specs.declared.statement.BoundStmt.TheOpen.{BoundStmt-F}
use Rattle.bound_trees.specs.declared.statement.BoundStmt.TheVariants as bound
use Rattle.bound_trees.specs.declared.statement.BoundStmt.TheVariants.{rolls-Block, rolls-If}
use Rattle.bound_trees.specs.declared.statement.BoundStmt.TheVariants.{rolls-Case, rolls-Set}
use Rattle.bound_trees.specs.declared.statement.BoundStmt.TheVariants.{rolls-SelectInto}
use Rattle.bound_trees.specs.declared.statement.BoundStmt.TheVariants.{rolls-Signal, rolls-Resignal}
use Rattle.bound_trees.specs.declared.statement.BoundStmt.TheVariants.{rolls-GetDiagnostics}
use Rattle.bound_trees.specs.declared.statement.BoundStmt.TheVariants.{rolls-Leave, rolls-Return}
use Rattle.bound_trees.specs.declared.statement.BoundStmt.TheViews.{roll-out-BoundStmt}
use Rattle.bound_trees.specs.declared.statement.BoundTarget.{BoundTarget}
use Rattle.block_plans.specs.Callees.{Callees}
use Rattle.regions.specs.Tree.{Stmt}
use Rattle.regions.specs.TreeBodies.{stmt_body}
use Rattle.region_trees.specs.Regions.{BranchRegion, HandlerRegion, block_region, branch_region}
use Rattle.region_trees.specs.Regions.{handler_region, nothing, region_of_block, region_of_branch}
use Rattle.region_trees.specs.Regions.{region_of_handler, region_seen, seen_by, stmt_region}
use Rattle.plan_steps.specs.Places.{stmt_in}

-- a statement, with the statements in it as they are
abbrev StmtForm : Type 0
StmtForm = BoundStmt-F BoundStmt BoundBlock BoundBranch BoundHandler

-- none of those that are in form
pub record Other (s : BoundStmt) : Type 0 where
  pub block : (b : BoundBlock) → s ≡ bound.Block b → ⊥
  pub if_else : (bs : List BoundBranch) (ss : List BoundStmt) → s ≡ bound.If bs ss → ⊥
  pub case : (o : Option BoundExpr) (bs : List BoundBranch) (ss : List BoundStmt) →
      s ≡ bound.Case o bs ss → ⊥
  pub set : (t : BoundTarget) (e : BoundExpr) → s ≡ bound.Set t e → ⊥
  pub select_into : (q : BoundQuery) (ts : List BoundTarget) → s ≡ bound.SelectInto q ts → ⊥
  pub signal : (x : BoundSignal) → s ≡ bound.Signal x → ⊥
  pub resignal : (x : BoundResignal) → s ≡ bound.Resignal x → ⊥
  pub get : (d : BoundDiagnostics) → s ≡ bound.GetDiagnostics d → ⊥
  pub leave : (n : ℕ) → s ≡ bound.Leave n → ⊥
  pub return : (e : BoundExpr) → s ≡ bound.Return e → ⊥

module _ (c : Callees) where
  -- its parts, as trees
  abbrev parts : StmtForm → BoundStmt-F Stmt Stmt BranchRegion HandlerRegion
  parts x = map-BoundStmt BoundStmt BoundBlock BoundBranch BoundHandler Stmt Stmt BranchRegion
      HandlerRegion (region_seen c) (region_of_block (seen_by c)) (region_of_branch (seen_by c))
      (region_of_handler (seen_by c)) x

  by_form : (s : BoundStmt) (x : StmtForm) → s ≡ roll-BoundStmt x → Other s →
      nothing ≡ stmt_region (seen_by c) (parts x)
  by_form s (BoundStmt-F.Insert i cs) h o = refl
  by_form s (BoundStmt-F.Update u) h o = refl
  by_form s (BoundStmt-F.Delete d) h o = refl
  by_form s (BoundStmt-F.Call k) h o = refl
  by_form s (BoundStmt-F.Block b) h o = absurd (o.block b (h ∙ rolls-Block b))
  by_form s (BoundStmt-F.If bs ss) h o = absurd (o.if_else bs ss (h ∙ rolls-If bs ss))
  by_form s (BoundStmt-F.Case e bs ss) h o = absurd (o.case e bs ss (h ∙ rolls-Case e bs ss))
  by_form s (BoundStmt-F.Set t e) h o = absurd (o.set t e (h ∙ rolls-Set t e))
  by_form s (BoundStmt-F.SelectInto q ts) h o =
      absurd (o.select_into q ts (h ∙ rolls-SelectInto q ts))
  by_form s (BoundStmt-F.Loop ss) h o = refl
  by_form s (BoundStmt-F.While e ss) h o = refl
  by_form s (BoundStmt-F.Repeat ss e) h o = refl
  by_form s (BoundStmt-F.For q n ss) h o = refl
  by_form s (BoundStmt-F.Open n) h o = refl
  by_form s (BoundStmt-F.Close n) h o = refl
  by_form s (BoundStmt-F.Fetch n ts) h o = refl
  by_form s (BoundStmt-F.Signal x) h o = absurd (o.signal x (h ∙ rolls-Signal x))
  by_form s (BoundStmt-F.Resignal x) h o = absurd (o.resignal x (h ∙ rolls-Resignal x))
  by_form s (BoundStmt-F.GetDiagnostics d) h o = absurd (o.get d (h ∙ rolls-GetDiagnostics d))
  by_form s (BoundStmt-F.Leave n) h o = absurd (o.leave n (h ∙ rolls-Leave n))
  by_form s (BoundStmt-F.Iterate n) h o = refl
  by_form s (BoundStmt-F.Return e) h o = absurd (o.return e (h ∙ rolls-Return e))

  pub stmt_other : (s : BoundStmt) → Other s → stmt_body nothing ≡ stmt_in c s
  stmt_other s o = ap stmt_body
      (by_form s (out-BoundStmt s) (sym (roll-out-BoundStmt s)) o ∙
      sym (fold_out-BoundStmt Stmt Stmt BranchRegion HandlerRegion (stmt_region (seen_by c))
      (block_region (seen_by c)) (branch_region (seen_by c)) handler_region s))
