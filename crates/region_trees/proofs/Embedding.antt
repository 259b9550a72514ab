-- The tree of a statement in form is the statement that it stands for: by induction over the trees.
use Rattle.std.proofs.Common.{◌≡◌, Bool, true, false, ◌&&◌, List, [], ◌∷◌, ◌++◌, map, length}
use Rattle.std.proofs.Common.{Option, None, Some, refl, sym, ap, ◌∙◌, subst}
use Rattle.std.proofs.lemmas.Bool.{eqb-true}
use Rattle.std.specs.Prelude.{nat_eq}
use Rattle.bound_trees.specs.declared.condition.BoundArea.{BoundArea}
use Rattle.bound_trees.specs.declared.condition.BoundArea.TheVariants as area
use Rattle.bound_trees.specs.declared.condition.BoundInformation.{BoundInformation}
use Rattle.bound_trees.specs.declared.condition.BoundInformation.TheVariants as information
use Rattle.bound_trees.specs.declared.expr.BoundExpr.{BoundExpr}
use Rattle.bound_trees.specs.declared.statement.BoundBlock.{BoundBlock, roll-BoundBlock}
use Rattle.bound_trees.specs.declared.statement.BoundBranch.{BoundBranch, roll-BoundBranch}
use Rattle.bound_trees.specs.declared.statement.BoundHandler.{BoundHandler, roll-BoundHandler}
use Rattle.bound_trees.specs.declared.statement.BoundStmt.{BoundStmt, roll-BoundStmt}
use Rattle.bound_trees.specs.declared.statement.BoundStmt.TheFolds.{map-BoundStmt, map-BoundBlock}
use Rattle.bound_trees.specs.declared.statement.BoundStmt.TheFolds.{map-BoundBranch}
use Rattle.bound_trees.specs.declared.statement.BoundStmt.TheFolds.{map-BoundHandler, ind-BoundStmt}
use Rattle.bound_trees.specs.declared.statement.BoundStmt.TheOpen.{BoundStmt-F, BoundBlock-F}
use Rattle.bound_trees.specs.declared.statement.BoundStmt.TheOpen.{BoundBranch-F, BoundHandler-F}
use Rattle.bound_trees.specs.declared.statement.BoundVariables.{BoundVariables}
use Rattle.rel_algebra.specs.Tree as whole
use Rattle.rel_algebra.specs.Tree.{Query}
use Rattle.regions.specs.Worlds.{stmt_of, stmts_of, branches_of, handlers_of}
use Rattle.routine_views.specs.Views as view
use Rattle.routine_views.specs.Views.{Known, View, expr_in, query_in, which_area}
use Rattle.routine_views.specs.Views.{condition_value, handler_type, diagnostics, stmt_view}
use Rattle.routine_views.specs.Views.{block_view, branch_view, handler_view, stmt_in, block_in}
use Rattle.viewing_laws.proofs.Laws.{StmtLayer, BlockLayer, BranchLayer, HandlerLayer}
use Rattle.block_plans.specs.Callees.{Callees}
use Rattle.region_trees.specs.Form.{reads_formed, declares_formed, defaults_planned, all}
use Rattle.region_trees.specs.Form.{planned_if_there, stmt_formed, block_formed, branch_formed}
use Rattle.region_trees.specs.Form.{handler_formed, formed, formed_block, formed_branch}
use Rattle.region_trees.specs.Form.{formed_handler}
use Rattle.region_trees.specs.Laws.{RegionsEmbed}
use Rattle.region_trees.specs.Regions.{BranchRegion, HandlerRegion, seen_in, perhaps, variables}
use Rattle.region_trees.specs.Regions.{stmts, branches, handlers}
use Rattle.region_trees.specs.Regions.{get_region, stmt_region, block_region, branch_region}
use Rattle.region_trees.specs.Regions.{handler_region, region_in, region_of_block}
use Rattle.region_trees.specs.Regions.{region_of_branch, region_of_handler}
use Rattle.region_trees.proofs.Layers.{stmt_formed_at, block_formed_at, branch_formed_at}
use Rattle.region_trees.proofs.Layers.{handler_formed_at, stmt_formed_at-at, block_formed_at-at}
use Rattle.region_trees.proofs.Layers.{branch_formed_at-at, handler_formed_at-at, stmt_region_at}
use Rattle.region_trees.proofs.Layers.{block_region_at, branch_region_at, handler_region_at}
use Rattle.region_trees.proofs.Layers.{stmt_region_at-at, block_region_at-at, branch_region_at-at}
use Rattle.region_trees.proofs.Layers.{handler_region_at-at, branch_in, handler_in, stmt_view_at}
use Rattle.region_trees.proofs.Layers.{block_view_at, branch_view_at, handler_view_at}
use Rattle.region_trees.proofs.Layers.{stmt_view_at-at, block_view_at-at, branch_view_at-at}
use Rattle.region_trees.proofs.Layers.{handler_view_at-at}

pub halves : (b c : Bool) → (b && c) ≡ true → (b ≡ true) × (c ≡ true)
halves true c h = (refl, h)
halves false c h = absurd cc

-- what may be left out
perhaps-embedded : (k : Known) (e : Option BoundExpr) → perhaps (seen_in k) e ≡ view.perhaps k e
perhaps-embedded k None = refl
perhaps-embedded k (Some e) = refl

-- declarations
variables-embedded : (k : Known) (vs : List BoundVariables) →
    variables (seen_in k) vs ≡ view.variables k vs
variables-embedded k [] = refl
variables-embedded k (v ∷ vs) = λ i. whole.MoreVariables v.count v.data_type
    (perhaps-embedded k v.default i) (variables-embedded k vs i)

get-embedded : (c : Callees) (k : Known) (a : BoundArea) (i : BoundInformation) →
    reads_formed c a i ≡ true →
    stmt_of (get_region (seen_in k) i) ≡ diagnostics k (which_area a) i
get-embedded c k area.Current i h = absurd cc
get-embedded c k area.Stacked (information.Statement rs) h = refl
get-embedded c k area.Stacked (information.Condition n rs) h = refl

module _ (c : Callees) (k : Known) where
  -- ---- what is shown of trees of each kind

  abbrev IsEmbedded : BoundStmt → Type 0
  IsEmbedded x = formed c x ≡ true → (cursors : List Query) →
      stmt_of (region_in k x) ≡ stmt_in k x cursors

  abbrev IsEmbeddedBlock : BoundBlock → Type 0
  IsEmbeddedBlock x = formed_block c x ≡ true → (cursors : List Query) →
      stmt_of (region_of_block (seen_in k) x) ≡ block_in k x cursors

  -- a branch of a tree is a branch of a statement
  abbrev SameBranch : BranchRegion → view.BranchView → Type 0
  SameBranch r v = (r.test ≡ v.test) × ((cursors : List Query) →
      stmts_of r.body ≡ view.stmts v.body cursors)

  abbrev IsEmbeddedBranch : BoundBranch → Type 0
  IsEmbeddedBranch x = formed_branch c x ≡ true →
      SameBranch (region_of_branch (seen_in k) x) (branch_in k x)

  -- a handler of a tree is a handler of a statement
  abbrev SameHandler : HandlerRegion → view.HandlerView → Type 0
  SameHandler r v = (r.follows ≡ v.follows) × (r.values ≡ v.values) ×
      ((cursors : List Query) → stmt_of r.action ≡ v.action cursors)

  abbrev IsEmbeddedHandler : BoundHandler → Type 0
  IsEmbeddedHandler x = formed_handler c x ≡ true →
      SameHandler (region_of_handler (seen_in k) x) (handler_in k x)

  abbrev ShownStmt : Type 0
  ShownStmt = (x : BoundStmt) × IsEmbedded x

  abbrev ShownBlock : Type 0
  ShownBlock = (x : BoundBlock) × IsEmbeddedBlock x

  abbrev ShownBranch : Type 0
  ShownBranch = (x : BoundBranch) × IsEmbeddedBranch x

  abbrev ShownHandler : Type 0
  ShownHandler = (x : BoundHandler) × IsEmbeddedHandler x

  abbrev stmt_shown : BoundStmt-F ShownStmt ShownBlock ShownBranch ShownHandler → StmtLayer
  stmt_shown y = map-BoundStmt ShownStmt ShownBlock ShownBranch ShownHandler BoundStmt BoundBlock
      BoundBranch BoundHandler (λ x. x.0) (λ x. x.0) (λ x. x.0) (λ x. x.0) y

  abbrev block_shown : BoundBlock-F ShownStmt ShownBlock ShownBranch ShownHandler → BlockLayer
  block_shown y = map-BoundBlock ShownStmt ShownBlock ShownBranch ShownHandler BoundStmt BoundBlock
      BoundBranch BoundHandler (λ x. x.0) (λ x. x.0) (λ x. x.0) (λ x. x.0) y

  abbrev branch_shown : BoundBranch-F ShownStmt ShownBlock ShownBranch ShownHandler → BranchLayer
  branch_shown y =
      map-BoundBranch ShownStmt ShownBlock ShownBranch ShownHandler BoundStmt BoundBlock
      BoundBranch BoundHandler (λ x. x.0) (λ x. x.0) (λ x. x.0) (λ x. x.0) y

  abbrev handler_shown : BoundHandler-F ShownStmt ShownBlock ShownBranch ShownHandler → HandlerLayer
  handler_shown y =
      map-BoundHandler ShownStmt ShownBlock ShownBranch ShownHandler BoundStmt BoundBlock
      BoundBranch BoundHandler (λ x. x.0) (λ x. x.0) (λ x. x.0) (λ x. x.0) y

  -- ---- lists

  stmts-embedded : (ss : List ShownStmt) → all (map (formed c) (map (λ x. x.0) ss)) ≡ true →
      (cursors : List Query) → stmts_of (stmts (map (region_in k) (map (λ x. x.0) ss))) ≡
      view.stmts (map (stmt_in k) (map (λ x. x.0) ss)) cursors
  stmts-embedded [] h cursors = refl
  stmts-embedded (s ∷ ss) h cursors =
      let parts = halves (formed c s.0) (all (map (formed c) (map (λ x. x.0) ss))) h in
      λ i. whole.MoreStmts (s.1 parts.0 cursors i) (stmts-embedded ss parts.1 cursors i)

  branches-embedded : (bs : List ShownBranch) →
      all (map (formed_branch c) (map (λ x. x.0) bs)) ≡ true → (cursors : List Query) →
      branches_of (branches (map (region_of_branch (seen_in k)) (map (λ x. x.0) bs))) ≡
      view.branches (map (branch_in k) (map (λ x. x.0) bs)) cursors
  branches-embedded [] h cursors = refl
  branches-embedded (b ∷ bs) h cursors =
      let parts = halves (formed_branch c b.0) (all (map (formed_branch c) (map (λ x. x.0) bs)))
      h in
      let here = b.1 parts.0 in
      λ i. whole.MoreBranches (here.0 i) (here.1 cursors i) (branches-embedded bs parts.1 cursors i)

  handlers-embedded : (hs : List ShownHandler) →
      all (map (formed_handler c) (map (λ x. x.0) hs)) ≡ true → (cursors : List Query) →
      handlers_of (handlers (map (region_of_handler (seen_in k)) (map (λ x. x.0) hs))) ≡
      view.handlers (map (handler_in k) (map (λ x. x.0) hs)) cursors
  handlers-embedded [] h cursors = refl
  handlers-embedded (x ∷ xs) h cursors =
      let parts = halves (formed_handler c x.0) (all (map (formed_handler c) (map (λ y. y.0) xs)))
      h in
      let here = x.1 parts.0 in
      λ i. whole.MoreHandlers (here.0 i) (here.1 i) (here.2 cursors i)
      (handlers-embedded xs parts.1 cursors i)

  -- ---- one layer

  stmt-layer : (y : BoundStmt-F ShownStmt ShownBlock ShownBranch ShownHandler) →
      stmt_formed c (stmt_formed_at c (stmt_shown y)) ≡ true → (cursors : List Query) →
      stmt_of (stmt_region (seen_in k) (stmt_region_at (seen_in k) (stmt_shown y))) ≡
      stmt_view k (stmt_view_at k (stmt_shown y)) cursors
  stmt-layer (BoundStmt-F.Block b) h cursors = b.1 h cursors
  stmt-layer (BoundStmt-F.If bs ss) h cursors =
      let parts = halves (all (map (formed_branch c) (map (λ x. x.0) bs)))
      (all (map (formed c) (map (λ x. x.0) ss))) h in
      λ i. whole.If (branches-embedded bs parts.0 cursors i) (stmts-embedded ss parts.1 cursors i)
  stmt-layer (BoundStmt-F.Case None bs ss) h cursors =
      let parts = halves (all (map (formed_branch c) (map (λ x. x.0) bs)))
      (all (map (formed c) (map (λ x. x.0) ss))) h in
      λ i. whole.SearchedCase (branches-embedded bs parts.0 cursors i)
      (stmts-embedded ss parts.1 cursors i)
  stmt-layer (BoundStmt-F.Case (Some e) bs ss) h cursors =
      let arms = all (map (formed_branch c) (map (λ x. x.0) bs)) in
      let others = all (map (formed c) (map (λ x. x.0) ss)) in
      let parts = halves arms others (halves (planned_if_there c (Some e)) (arms && others) h).1 in
      λ i. whole.SimpleCase (expr_in k e) (branches-embedded bs parts.0 cursors i)
      (stmts-embedded ss parts.1 cursors i)
  stmt-layer (BoundStmt-F.Set t e) h cursors = refl
  stmt-layer (BoundStmt-F.SelectInto q ts) h cursors = refl
  stmt-layer (BoundStmt-F.Signal s) h cursors =
      ap (whole.Signal s.state) (perhaps-embedded k s.message)
  stmt-layer (BoundStmt-F.Resignal s) h cursors =
      ap (whole.Resignal s.state) (perhaps-embedded k s.message)
  stmt-layer (BoundStmt-F.GetDiagnostics d) h cursors = get-embedded c k d.area d.information h
  stmt-layer (BoundStmt-F.Leave level) h cursors = refl
  stmt-layer (BoundStmt-F.Return e) h cursors = refl
  stmt-layer _ h cursors = absurd cc

  block-layer : (y : BoundBlock-F ShownStmt ShownBlock ShownBranch ShownHandler) →
      block_formed c (block_formed_at c (block_shown y)) ≡ true → (cursors : List Query) →
      stmt_of (block_region (seen_in k) (block_region_at (seen_in k) (block_shown y))) ≡
      block_view k (block_view_at k (block_shown y)) cursors
  block-layer y h cursors =
      let actions = all (map (formed_handler c) (map (λ x. x.0) y.handlers)) in
      let inner = all (map (formed c) (map (λ x. x.0) y.statements)) in
      let outer = halves (declares_formed c y.variables y.cursors) (actions && inner) h in
      let none = halves (nat_eq (length y.cursors) 0) (defaults_planned c y.variables) outer.0 in
      let parts = halves actions inner outer.1 in
      let now = cursors ++ map (query_in k) y.cursors in
      λ i. whole.Compound y.atomic (variables-embedded k y.variables i)
      (sym (eqb-true (length y.cursors) 0 none.0) i) (handlers-embedded y.handlers parts.0 now i)
      (stmts-embedded y.statements parts.1 now i)

  branch-layer : (y : BoundBranch-F ShownStmt ShownBlock ShownBranch ShownHandler) →
      branch_formed c (branch_formed_at c (branch_shown y)) ≡ true →
      SameBranch (branch_region (seen_in k) (branch_region_at (seen_in k) (branch_shown y)))
      (branch_view k (branch_view_at k (branch_shown y)))
  branch-layer y h =
      let parts = halves (planned_if_there c (Some y.test))
      (all (map (formed c) (map (λ x. x.0) y.body))) h in
      (refl, stmts-embedded y.body parts.1)

  handler-layer : (y : BoundHandler-F ShownStmt ShownBlock ShownBranch ShownHandler) →
      handler_formed (handler_formed_at c (handler_shown y)) ≡ true →
      SameHandler (handler_region (handler_region_at (seen_in k) (handler_shown y)))
      (handler_view (handler_view_at k (handler_shown y)))
  handler-layer y h = (refl, refl, y.action.1 h)

  -- ---- whole trees

  stmt-whole : (y : BoundStmt-F ShownStmt ShownBlock ShownBranch ShownHandler) →
      IsEmbedded (roll-BoundStmt (stmt_shown y))
  stmt-whole y h cursors = ap stmt_of (stmt_region_at-at (seen_in k) (stmt_shown y)) ∙
      stmt-layer y (sym (stmt_formed_at-at c (stmt_shown y)) ∙ h) cursors ∙
      sym (ap (λ (v : View). v cursors) (stmt_view_at-at k (stmt_shown y)))

  block-whole : (y : BoundBlock-F ShownStmt ShownBlock ShownBranch ShownHandler) →
      IsEmbeddedBlock (roll-BoundBlock (block_shown y))
  block-whole y h cursors = ap stmt_of (block_region_at-at (seen_in k) (block_shown y)) ∙
      block-layer y (sym (block_formed_at-at c (block_shown y)) ∙ h) cursors ∙
      sym (ap (λ (v : View). v cursors) (block_view_at-at k (block_shown y)))

  branch-whole : (y : BoundBranch-F ShownStmt ShownBlock ShownBranch ShownHandler) →
      IsEmbeddedBranch (roll-BoundBranch (branch_shown y))
  branch-whole y h =
      let here = branch-layer y (sym (branch_formed_at-at c (branch_shown y)) ∙ h) in
      subst (λ (r : BranchRegion). SameBranch r (branch_in k (roll-BoundBranch (branch_shown y))))
      (sym (branch_region_at-at (seen_in k) (branch_shown y)))
      (subst (λ (v : view.BranchView).
      SameBranch (branch_region (seen_in k) (branch_region_at (seen_in k) (branch_shown y))) v)
      (sym (branch_view_at-at k (branch_shown y))) here)

  handler-whole : (y : BoundHandler-F ShownStmt ShownBlock ShownBranch ShownHandler) →
      IsEmbeddedHandler (roll-BoundHandler (handler_shown y))
  handler-whole y h =
      let here = handler-layer y (sym (handler_formed_at-at c (handler_shown y)) ∙ h) in
      subst (λ (r : HandlerRegion).
      SameHandler r (handler_in k (roll-BoundHandler (handler_shown y))))
      (sym (handler_region_at-at (seen_in k) (handler_shown y)))
      (subst (λ (v : view.HandlerView).
      SameHandler (handler_region (handler_region_at (seen_in k) (handler_shown y))) v)
      (sym (handler_view_at-at k (handler_shown y))) here)

  pub stmt-embedded : (x : BoundStmt) → IsEmbedded x
  stmt-embedded =
      ind-BoundStmt IsEmbedded IsEmbeddedBlock IsEmbeddedBranch IsEmbeddedHandler
      (λ x y is. subst (λ z. IsEmbedded (roll-BoundStmt z)) is (stmt-whole y))
      (λ x y is. subst (λ z. IsEmbeddedBlock (roll-BoundBlock z)) is (block-whole y))
      (λ x y is. subst (λ z. IsEmbeddedBranch (roll-BoundBranch z)) is (branch-whole y))
      (λ x y is. subst (λ z. IsEmbeddedHandler (roll-BoundHandler z)) is (handler-whole y))

pub regions_embed : RegionsEmbed
regions_embed c k s cursors h = stmt-embedded c k s h cursors
