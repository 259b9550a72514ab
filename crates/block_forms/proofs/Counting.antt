-- Where a body is filled, each SELECT INTO of its tree has as many columns as targets: by induction
-- over the trees.
use Rattle.std.proofs.Common.{◌≡◌, ℕ, true, List, [], ◌∷◌, map, length, Option, None, Some, sym}
use Rattle.std.proofs.Common.{◌∙◌, subst}
use Rattle.std.proofs.lemmas.Bool.{eqb-true}
use Rattle.std.proofs.lemmas.List.{length-map}
use Rattle.bound_trees.specs.declared.condition.BoundInformation.{BoundInformation}
use Rattle.bound_trees.specs.declared.condition.BoundInformation.TheVariants as information
use Rattle.bound_trees.specs.declared.expr.BoundExpr.{BoundExpr}
use Rattle.bound_trees.specs.declared.statement.BoundBlock.{BoundBlock, roll-BoundBlock}
use Rattle.bound_trees.specs.declared.statement.BoundBranch.{BoundBranch, roll-BoundBranch}
use Rattle.bound_trees.specs.declared.statement.BoundHandler.{BoundHandler, roll-BoundHandler}
use Rattle.bound_trees.specs.declared.statement.BoundStmt.{BoundStmt, roll-BoundStmt}
use Rattle.bound_trees.specs.declared.statement.BoundStmt.TheFolds.{map-BoundStmt, map-BoundBlock}
use Rattle.bound_trees.specs.declared.statement.BoundStmt.TheFolds.{map-BoundBranch}
use Rattle.bound_trees.specs.declared.statement.BoundStmt.TheFolds.{map-BoundHandler, ind-BoundStmt}
use Rattle.bound_trees.specs.declared.statement.BoundStmt.TheOpen.{BoundStmt-F, BoundBlock-F}
use Rattle.bound_trees.specs.declared.statement.BoundStmt.TheOpen.{BoundBranch-F, BoundHandler-F}
use Rattle.bound_trees.specs.declared.statement.BoundVariables.{BoundVariables}
use Rattle.rel_algebra.specs.Joins.{query_width}
use Rattle.rel_algebra.specs.Tree.{Expr, Query, Target}
use Rattle.regions.specs.Theorem.{AllEach, BranchesEach, Each, HandlersEach, PerhapsEach}
use Rattle.regions.specs.Theorem.{VariablesEach}
use Rattle.routine_views.specs.Views.{target}
use Rattle.viewing_laws.proofs.Laws.{StmtLayer, BlockLayer, BranchLayer, HandlerLayer}
use Rattle.block_plans.specs.Callees.{Callees}
use Rattle.block_plans.specs.View.{query_seen}
use Rattle.region_trees.specs.Form.{all}
use Rattle.region_trees.specs.Regions.{seen_by, perhaps, variables, stmts, branches, handlers}
use Rattle.region_trees.specs.Regions.{get_region, stmt_region, block_region, branch_region}
use Rattle.region_trees.specs.Regions.{region_seen, region_of_block, region_of_branch}
use Rattle.region_trees.specs.Regions.{region_of_handler}
use Rattle.region_trees.proofs.Embedding.{halves}
use Rattle.region_trees.proofs.Layers.{stmt_region_at, block_region_at, branch_region_at}
use Rattle.region_trees.proofs.Layers.{stmt_region_at-at, block_region_at-at, branch_region_at-at}
use Rattle.region_trees.proofs.Layers.{handler_region_at-at}
use Rattle.block_forms.specs.Filled.{stmt_filled, block_filled, branch_filled, filled}
use Rattle.block_forms.specs.Filled.{filled_block, filled_branch, filled_handler}
use Rattle.block_forms.proofs.Layers.{stmt_filled_at, block_filled_at, branch_filled_at}
use Rattle.block_forms.proofs.Layers.{stmt_filled_at-at, block_filled_at-at, branch_filled_at-at}
use Rattle.block_forms.proofs.Layers.{handler_filled_at-at}

-- no table has a column
abbrev pub widths : List ℕ → ℕ
widths name = 0

-- nothing is asked of an expression
abbrev Any : Expr → Type 0
Any e = Unit {0}

-- as many columns as targets
abbrev Counted : Query → List Target → Type 0
Counted q ts = query_width q widths ≡ length ts

module _ (k : Callees) where
  -- ---- what holds no SELECT INTO

  optional-counted : (e : Option BoundExpr) → PerhapsEach (perhaps (seen_by k) e) Any
  optional-counted None = tt
  optional-counted (Some e) = tt

  variables-counted : (vs : List BoundVariables) → VariablesEach (variables (seen_by k) vs) Any
  variables-counted [] = tt
  variables-counted (v ∷ vs) = (optional-counted v.default, variables-counted vs)

  get-counted : (i : BoundInformation) → Each (get_region (seen_by k) i) Any Counted
  get-counted (information.Statement rs) = tt
  get-counted (information.Condition x rs) = tt

  -- ---- what is shown of trees of each kind

  abbrev IsCountedIn : BoundStmt → Type 0
  IsCountedIn x = filled k x ≡ true → Each (region_seen k x) Any Counted

  abbrev IsCountedBlock : BoundBlock → Type 0
  IsCountedBlock x = filled_block k x ≡ true →
      Each (region_of_block (seen_by k) x) Any Counted

  abbrev IsCountedBranch : BoundBranch → Type 0
  IsCountedBranch x = filled_branch k x ≡ true →
      AllEach (region_of_branch (seen_by k) x).body Any Counted

  abbrev IsCountedHandler : BoundHandler → Type 0
  IsCountedHandler x = filled_handler k x ≡ true →
      Each (region_of_handler (seen_by k) x).action Any Counted

  abbrev ShownStmt : Type 0
  ShownStmt = (x : BoundStmt) × IsCountedIn x

  abbrev ShownBlock : Type 0
  ShownBlock = (x : BoundBlock) × IsCountedBlock x

  abbrev ShownBranch : Type 0
  ShownBranch = (x : BoundBranch) × IsCountedBranch x

  abbrev ShownHandler : Type 0
  ShownHandler = (x : BoundHandler) × IsCountedHandler x

  abbrev stmt_shown : BoundStmt-F ShownStmt ShownBlock ShownBranch ShownHandler → StmtLayer
  stmt_shown y = map-BoundStmt ShownStmt ShownBlock ShownBranch ShownHandler BoundStmt BoundBlock
      BoundBranch BoundHandler (λ x. x.0) (λ x. x.0) (λ x. x.0) (λ x. x.0) y

  abbrev block_shown : BoundBlock-F ShownStmt ShownBlock ShownBranch ShownHandler → BlockLayer
  block_shown y = map-BoundBlock ShownStmt ShownBlock ShownBranch ShownHandler BoundStmt BoundBlock
      BoundBranch BoundHandler (λ x. x.0) (λ x. x.0) (λ x. x.0) (λ x. x.0) y

  abbrev branch_shown : BoundBranch-F ShownStmt ShownBlock ShownBranch ShownHandler → BranchLayer
  branch_shown y =
      map-BoundBranch ShownStmt ShownBlock ShownBranch ShownHandler BoundStmt BoundBlock
      BoundBranch BoundHandler (λ x. x.0) (λ x. x.0) (λ x. x.0) (λ x. x.0) y

  abbrev handler_shown : BoundHandler-F ShownStmt ShownBlock ShownBranch ShownHandler → HandlerLayer
  handler_shown y =
      map-BoundHandler ShownStmt ShownBlock ShownBranch ShownHandler BoundStmt BoundBlock
      BoundBranch BoundHandler (λ x. x.0) (λ x. x.0) (λ x. x.0) (λ x. x.0) y

  -- ---- lists

  stmts-counted : (ss : List ShownStmt) → all (map (filled k) (map (λ x. x.0) ss)) ≡ true →
      AllEach (stmts (map (region_seen k) (map (λ x. x.0) ss))) Any Counted
  stmts-counted [] h = tt
  stmts-counted (s ∷ ss) h =
      let parts = halves (filled k s.0) (all (map (filled k) (map (λ x. x.0) ss))) h in
      (s.1 parts.0, stmts-counted ss parts.1)

  branches-counted : (bs : List ShownBranch) →
      all (map (filled_branch k) (map (λ x. x.0) bs)) ≡ true →
      BranchesEach (branches (map (region_of_branch (seen_by k)) (map (λ x. x.0) bs))) Any Counted
  branches-counted [] h = tt
  branches-counted (b ∷ bs) h =
      let parts = halves (filled_branch k b.0) (all (map (filled_branch k) (map (λ x. x.0) bs)))
      h in
      (tt, b.1 parts.0, branches-counted bs parts.1)

  handlers-counted : (hs : List ShownHandler) →
      all (map (filled_handler k) (map (λ x. x.0) hs)) ≡ true →
      HandlersEach (handlers (map (region_of_handler (seen_by k)) (map (λ x. x.0) hs))) Any Counted
  handlers-counted [] h = tt
  handlers-counted (x ∷ xs) h =
      let parts = halves (filled_handler k x.0) (all (map (filled_handler k) (map (λ y. y.0) xs)))
      h in
      (x.1 parts.0, handlers-counted xs parts.1)

  -- ---- one layer

  stmt-layer : (y : BoundStmt-F ShownStmt ShownBlock ShownBranch ShownHandler) →
      stmt_filled k (stmt_filled_at k (stmt_shown y)) ≡ true →
      Each (stmt_region (seen_by k) (stmt_region_at (seen_by k) (stmt_shown y))) Any Counted
  stmt-layer (BoundStmt-F.Block b) h = b.1 h
  stmt-layer (BoundStmt-F.If bs ss) h =
      let parts = halves (all (map (filled_branch k) (map (λ x. x.0) bs)))
      (all (map (filled k) (map (λ x. x.0) ss))) h in
      (branches-counted bs parts.0, stmts-counted ss parts.1)
  stmt-layer (BoundStmt-F.Case None bs ss) h =
      let parts = halves (all (map (filled_branch k) (map (λ x. x.0) bs)))
      (all (map (filled k) (map (λ x. x.0) ss))) h in
      (branches-counted bs parts.0, stmts-counted ss parts.1)
  stmt-layer (BoundStmt-F.Case (Some e) bs ss) h =
      let parts = halves (all (map (filled_branch k) (map (λ x. x.0) bs)))
      (all (map (filled k) (map (λ x. x.0) ss))) h in
      (tt, branches-counted bs parts.0, stmts-counted ss parts.1)
  stmt-layer (BoundStmt-F.Set t e) h = tt
  stmt-layer (BoundStmt-F.SelectInto q ts) h =
      eqb-true (query_width (query_seen k q) widths) (length ts) h ∙ sym (length-map ts target)
  stmt-layer (BoundStmt-F.Signal s) h = optional-counted s.message
  stmt-layer (BoundStmt-F.Resignal s) h = optional-counted s.message
  stmt-layer (BoundStmt-F.GetDiagnostics d) h = get-counted d.information
  stmt-layer (BoundStmt-F.Leave level) h = tt
  stmt-layer (BoundStmt-F.Return e) h = tt
  stmt-layer _ h = (tt, tt, tt)

  block-layer : (y : BoundBlock-F ShownStmt ShownBlock ShownBranch ShownHandler) →
      block_filled (block_filled_at k (block_shown y)) ≡ true →
      Each (block_region (seen_by k) (block_region_at (seen_by k) (block_shown y))) Any Counted
  block-layer y h =
      let parts = halves (all (map (filled_handler k) (map (λ x. x.0) y.handlers)))
      (all (map (filled k) (map (λ x. x.0) y.statements))) h in (
        variables-counted y.variables,
        handlers-counted y.handlers parts.0,
        stmts-counted y.statements parts.1,
      )

  branch-layer : (y : BoundBranch-F ShownStmt ShownBlock ShownBranch ShownHandler) →
      branch_filled (branch_filled_at k (branch_shown y)) ≡ true →
      AllEach (branch_region (seen_by k) (branch_region_at (seen_by k) (branch_shown y))).body Any
      Counted
  branch-layer y h = stmts-counted y.body h

  -- ---- whole trees

  stmt-whole : (y : BoundStmt-F ShownStmt ShownBlock ShownBranch ShownHandler) →
      IsCountedIn (roll-BoundStmt (stmt_shown y))
  stmt-whole y h =
      subst (λ t. Each t Any Counted) (sym (stmt_region_at-at (seen_by k) (stmt_shown y)))
      (stmt-layer y (sym (stmt_filled_at-at k (stmt_shown y)) ∙ h))

  block-whole : (y : BoundBlock-F ShownStmt ShownBlock ShownBranch ShownHandler) →
      IsCountedBlock (roll-BoundBlock (block_shown y))
  block-whole y h =
      subst (λ t. Each t Any Counted) (sym (block_region_at-at (seen_by k) (block_shown y)))
      (block-layer y (sym (block_filled_at-at k (block_shown y)) ∙ h))

  branch-whole : (y : BoundBranch-F ShownStmt ShownBlock ShownBranch ShownHandler) →
      IsCountedBranch (roll-BoundBranch (branch_shown y))
  branch-whole y h =
      subst (λ t. AllEach t.body Any Counted)
      (sym (branch_region_at-at (seen_by k) (branch_shown y)))
      (branch-layer y (sym (branch_filled_at-at k (branch_shown y)) ∙ h))

  handler-whole : (y : BoundHandler-F ShownStmt ShownBlock ShownBranch ShownHandler) →
      IsCountedHandler (roll-BoundHandler (handler_shown y))
  handler-whole y h =
      subst (λ t. Each t.action Any Counted)
      (sym (handler_region_at-at (seen_by k) (handler_shown y)))
      (y.action.1 (sym (handler_filled_at-at k (handler_shown y)) ∙ h))

  pub counted : (x : BoundStmt) → IsCountedIn x
  counted =
      ind-BoundStmt IsCountedIn IsCountedBlock IsCountedBranch IsCountedHandler
      (λ x y is. subst (λ z. IsCountedIn (roll-BoundStmt z)) is (stmt-whole y))
      (λ x y is. subst (λ z. IsCountedBlock (roll-BoundBlock z)) is (block-whole y))
      (λ x y is. subst (λ z. IsCountedBranch (roll-BoundBranch z)) is (branch-whole y))
      (λ x y is. subst (λ z. IsCountedHandler (roll-BoundHandler z)) is (handler-whole y))
