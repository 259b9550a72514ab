-- Bodies that are RETURN alone, and others.
use Rattle.std.proofs.Common.{◌≡◌, ℕ, Bool, true, false, List, None, Some, refl, sym, ap}
use Rattle.std.proofs.Common.{◌∙◌}
use Rattle.block_plans.specs.Callees.{Callees}
use Rattle.block_plans.specs.View.{expr_seen}
use Rattle.bound_trees.specs.declared.condition.BoundInformation.{BoundInformation}
use Rattle.bound_trees.specs.declared.condition.BoundInformation.TheVariants as information
use Rattle.bound_trees.specs.declared.expr.BoundExpr.{BoundExpr}
use Rattle.bound_trees.specs.declared.statement.BoundBlock.{BoundBlock, out-BoundBlock}
use Rattle.bound_trees.specs.declared.statement.BoundBranch.{BoundBranch}
use Rattle.bound_trees.specs.declared.statement.BoundHandler.{BoundHandler}
use Rattle.bound_trees.specs.declared.statement.BoundStmt.{BoundStmt, out-BoundStmt, roll-BoundStmt}
use Rattle.bound_trees.specs.declared.statement.BoundStmt.TheFolds.{fold-roll-BoundBlock}
use Rattle.bound_trees.specs.declared.statement.BoundStmt.TheFolds.{fold-roll-BoundStmt}
use Rattle.bound_trees.specs.declared.statement.BoundStmt.TheFolds.{map-BoundStmt}
use Rattle.bound_trees.specs.declared.statement.BoundStmt.TheOpen.{BoundStmt-F}
use Rattle.bound_trees.specs.declared.statement.BoundStmt.TheVariants as bound
use Rattle.bound_trees.specs.declared.statement.BoundStmt.TheVariants.{rolls-Return}
use Rattle.bound_trees.specs.declared.statement.BoundStmt.TheViews.{roll-out-BoundBlock}
use Rattle.bound_trees.specs.declared.statement.BoundStmt.TheViews.{roll-out-BoundStmt}
use Rattle.region_trees.specs.Regions.{BranchRegion, HandlerRegion, block_region}
use Rattle.region_trees.specs.Regions.{branch_region, get_region, handler_region, region_of_block}
use Rattle.region_trees.specs.Regions.{region_of_branch, region_of_handler, region_seen, seen_by}
use Rattle.region_trees.specs.Regions.{stmt_region}
use Rattle.regions.specs.Tree.{Stmt}
use Rattle.regions.specs.TreeBodies.{stmt_of}
use Rattle.rel_algebra.specs.Bodies as body
use Rattle.rel_algebra.specs.BodyChain.{called_body, known_body}
use Rattle.rel_algebra.specs.Emit.{emit_body, stmt_body}
use Rattle.rel_algebra.specs.Environments.{Env}
use Rattle.rel_algebra.specs.Tree as whole
use Rattle.sql_values.specs.declared.value.SqlType.{SqlType}

-- whether a statement is RETURN
abbrev pub returns_alone : whole.Stmt → Bool
returns_alone (whole.Return x) = true
returns_alone _ = false

-- a body that isn't is one Apply
pub block_emitted : (types : List SqlType) (returns : SqlType) (s : whole.Stmt) (S : List ℕ → ℕ)
    (e : Env) (n : ℕ) → returns_alone s ≡ false →
    emit_body (whole.Function false types returns false s) S e n ≡ called_body
    (body.Body types returns (stmt_body s)) S e n
block_emitted types returns (whole.Return x) S e n h = absurd cc
block_emitted types returns _ S e n h = refl

-- that of a function that returns NULL on NULL input is one under a test
pub known_emitted : (types : List SqlType) (returns : SqlType) (s : whole.Stmt) (S : List ℕ → ℕ)
    (e : Env) (n : ℕ) →
    emit_body (whole.Function false types returns true s) S e n ≡ known_body
    (body.Body types returns (stmt_body s)) S e n
known_emitted types returns s S e n = refl

module _ (k : Callees) where
  -- a statement by its parts
  region_at : (x : BoundStmt-F BoundStmt BoundBlock BoundBranch BoundHandler) →
      region_seen k (roll-BoundStmt x) ≡ stmt_region (seen_by k)
      (map-BoundStmt BoundStmt BoundBlock BoundBranch BoundHandler Stmt Stmt BranchRegion
      HandlerRegion (region_seen k) (region_of_block (seen_by k)) (region_of_branch (seen_by k))
      (region_of_handler (seen_by k)) x)
  region_at x = fold-roll-BoundStmt Stmt Stmt BranchRegion HandlerRegion
      (stmt_region (seen_by k)) (block_region (seen_by k)) (branch_region (seen_by k))
      handler_region x

  -- RETURN
  pub return_seen : (s : BoundStmt) (e : BoundExpr) → s ≡ bound.Return e →
      stmt_of (region_seen k s) ≡ whole.Return (expr_seen k e)
  return_seen s e is =
      ap (λ (x : BoundStmt). stmt_of (region_seen k x)) (is ∙ sym (rolls-Return e)) ∙
      ap stmt_of (region_at (BoundStmt-F.Return e))

  -- a compound statement isn't RETURN
  block_other : (b : BoundBlock) → returns_alone (stmt_of (region_of_block (seen_by k) b)) ≡ false
  block_other b =
      ap (λ (x : BoundBlock). returns_alone (stmt_of (region_of_block (seen_by k) x)))
      (sym (roll-out-BoundBlock b)) ∙ ap (λ (r : Stmt). returns_alone (stmt_of r))
      (fold-roll-BoundBlock Stmt Stmt BranchRegion HandlerRegion (stmt_region (seen_by k))
      (block_region (seen_by k)) (branch_region (seen_by k)) handler_region (out-BoundBlock b))

  get_other : (i : BoundInformation) → returns_alone (stmt_of (get_region (seen_by k) i)) ≡ false
  get_other (information.Statement rs) = refl
  get_other (information.Condition n rs) = refl

  other_form : (x : BoundStmt-F BoundStmt BoundBlock BoundBranch BoundHandler) →
      ((e : BoundExpr) → x ≡ BoundStmt-F.Return e → ⊥) → returns_alone (stmt_of
      (stmt_region (seen_by k) (map-BoundStmt BoundStmt BoundBlock BoundBranch BoundHandler Stmt
      Stmt BranchRegion HandlerRegion (region_seen k) (region_of_block (seen_by k))
      (region_of_branch (seen_by k)) (region_of_handler (seen_by k)) x))) ≡ false
  other_form (BoundStmt-F.Return e) other = absurd (other e refl)
  other_form (BoundStmt-F.Block b) other = block_other b
  other_form (BoundStmt-F.Case None bs ss) other = refl
  other_form (BoundStmt-F.Case (Some e) bs ss) other = refl
  other_form (BoundStmt-F.GetDiagnostics d) other = get_other d.information
  other_form _ other = refl

  -- nor is any other statement
  pub other_seen : (s : BoundStmt) → ((e : BoundExpr) → s ≡ bound.Return e → ⊥) →
      returns_alone (stmt_of (region_seen k s)) ≡ false
  other_seen s other =
      ap (λ (x : BoundStmt). returns_alone (stmt_of (region_seen k x)))
      (sym (roll-out-BoundStmt s)) ∙
      ap (λ (r : Stmt). returns_alone (stmt_of r)) (region_at (out-BoundStmt s)) ∙
      other_form (out-BoundStmt s) (λ e is. other e (sym (roll-out-BoundStmt s) ∙
      ap roll-BoundStmt is ∙ rolls-Return e))
