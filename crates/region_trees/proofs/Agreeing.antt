-- Where what has a plan is seen alike in two ways, the tree of a body in form is the same by both: by
-- induction over the trees. What is seen may hang on the names that are called.
use Rattle.std.proofs.Common.{◌≡◌, true, ◌&&◌, not, List, [], ◌∷◌, ◌++◌, map, length, Option, None}
use Rattle.std.proofs.Common.{Some, refl, sym, ap, ◌∙◌, subst}
use Rattle.std.specs.Prelude.{nat_eq}
use Rattle.bound_trees.specs.declared.condition.BoundArea.{BoundArea}
use Rattle.bound_trees.specs.declared.condition.BoundArea.TheVariants as area
use Rattle.bound_trees.specs.declared.condition.BoundInformation.{BoundInformation}
use Rattle.bound_trees.specs.declared.condition.BoundInformation.TheVariants as information
use Rattle.bound_trees.specs.declared.expr.BoundExpr.{BoundExpr}
use Rattle.bound_trees.specs.declared.query.BoundQuery.{BoundQuery}
use Rattle.bound_trees.specs.declared.statement.BoundBlock.{BoundBlock, roll-BoundBlock}
use Rattle.bound_trees.specs.declared.statement.BoundBranch.{BoundBranch, roll-BoundBranch}
use Rattle.bound_trees.specs.declared.statement.BoundHandler.{BoundHandler, roll-BoundHandler}
use Rattle.bound_trees.specs.declared.statement.BoundStmt.{BoundStmt, roll-BoundStmt}
use Rattle.bound_trees.specs.declared.statement.BoundStmt.TheFolds.{map-BoundStmt, map-BoundBlock}
use Rattle.bound_trees.specs.declared.statement.BoundStmt.TheFolds.{map-BoundBranch}
use Rattle.bound_trees.specs.declared.statement.BoundStmt.TheFolds.{map-BoundHandler, ind-BoundStmt}
use Rattle.bound_trees.specs.declared.statement.BoundStmt.TheOpen.{BoundStmt-F, BoundBlock-F}
use Rattle.bound_trees.specs.declared.statement.BoundStmt.TheOpen.{BoundBranch-F, BoundHandler-F}
use Rattle.bound_trees.specs.declared.statement.BoundVariables.{BoundVariables}
use Rattle.rel_algebra.specs.Plain.{planned, planned_expr}
use Rattle.rel_algebra.specs.Tree as tree
use Rattle.regions.specs.Tree as region
use Rattle.routine_views.specs.Views.{target, condition_read, condition_value, handler_type}
use Rattle.viewing_laws.specs.Calls.{CalledNames, all_calls, expr_calls, query_calls}
use Rattle.viewing_laws.specs.Calls.{calls_if_there, information_calls, variables_calls}
use Rattle.viewing_laws.specs.Calls.{cursors_calls, stmt_calls, block_calls, branch_calls}
use Rattle.viewing_laws.specs.Calls.{statement_calls, calls_of_block, calls_of_branch}
use Rattle.viewing_laws.specs.Calls.{calls_of_handler}
use Rattle.viewing_laws.proofs.Laws.{StmtLayer, BlockLayer, BranchLayer, HandlerLayer, stmt_called}
use Rattle.viewing_laws.proofs.Laws.{block_called, branch_called, statement_calls-at}
use Rattle.viewing_laws.proofs.Laws.{calls_of_block-at, calls_of_branch-at, calls_of_handler-at}
use Rattle.block_plans.specs.Callees.{Callees}
use Rattle.block_plans.specs.View.{expr_seen, query_seen}
use Rattle.region_trees.specs.Form.{reads_formed, declares_formed, defaults_planned, all}
use Rattle.region_trees.specs.Form.{planned_if_there, stmt_formed, block_formed, branch_formed}
use Rattle.region_trees.specs.Form.{formed, formed_block, formed_branch, formed_handler}
use Rattle.region_trees.specs.Laws.{RegionsAgree}
use Rattle.region_trees.specs.Regions.{Seeing, perhaps, variables, stmts, branches, handlers}
use Rattle.region_trees.specs.Regions.{get_region, stmt_region, block_region, branch_region}
use Rattle.region_trees.specs.Regions.{handler_region, region_by, region_of_block, region_of_branch}
use Rattle.region_trees.specs.Regions.{region_of_handler}
use Rattle.region_trees.proofs.Embedding.{halves}
use Rattle.region_trees.proofs.Layers.{stmt_formed_at, block_formed_at, branch_formed_at}
use Rattle.region_trees.proofs.Layers.{stmt_formed_at-at, block_formed_at-at, branch_formed_at-at}
use Rattle.region_trees.proofs.Layers.{handler_formed_at-at, stmt_region_at, block_region_at}
use Rattle.region_trees.proofs.Layers.{branch_region_at, handler_region_at, stmt_region_at-at}
use Rattle.region_trees.proofs.Layers.{block_region_at-at, branch_region_at-at}
use Rattle.region_trees.proofs.Layers.{handler_region_at-at}

module _ (c : Callees) (Such : CalledNames → Type 0)
    (parts-such : (xs ys : CalledNames) → Such (xs ++ ys) → Such xs × Such ys) (v w : Seeing)
    (expr-same : (e : BoundExpr) → Such (expr_calls e) → planned_expr (expr_seen c e) ≡ true →
    v.expression e ≡ w.expression e)
    (query-same : (q : BoundQuery) → Such (query_calls q) → planned (query_seen c q) ≡ true →
    v.query q ≡ w.query q) where
  -- ---- what holds no statement

  optional-same : (e : Option BoundExpr) → planned_if_there c e ≡ true →
      Such (calls_if_there e) → perhaps v e ≡ perhaps w e
  optional-same None h n = refl
  optional-same (Some e) h n = ap tree.With (expr-same e n h)

  variables-same : (ds : List BoundVariables) → defaults_planned c ds ≡ true →
      Such (variables_calls ds) → variables v ds ≡ variables w ds
  variables-same [] h n = refl
  variables-same (d ∷ ds) h n =
      let parts = halves (planned_if_there c d.default) (defaults_planned c ds) h in
      let names = parts-such (calls_if_there d.default) (variables_calls ds) n in
      λ i. tree.MoreVariables d.count d.data_type (optional-same d.default parts.0 names.0 i)
      (variables-same ds parts.1 names.1 i)

  get-same : (a : BoundArea) (i : BoundInformation) → reads_formed c a i ≡ true →
      Such (information_calls i) → get_region v i ≡ get_region w i
  get-same area.Current i h n = absurd cc
  get-same area.Stacked (information.Statement rs) h n = refl
  get-same area.Stacked (information.Condition x rs) h n =
      λ i. region.GetConditionItems (expr-same x n h i) (map condition_read rs)

  -- ---- what is shown of trees of each kind

  abbrev IsSame : BoundStmt → Type 0
  IsSame x = formed c x ≡ true → Such (statement_calls x) → region_by v x ≡ region_by w x

  abbrev IsSameBlock : BoundBlock → Type 0
  IsSameBlock x = formed_block c x ≡ true → Such (calls_of_block x) →
      region_of_block v x ≡ region_of_block w x

  abbrev IsSameBranch : BoundBranch → Type 0
  IsSameBranch x = formed_branch c x ≡ true → Such (calls_of_branch x) →
      region_of_branch v x ≡ region_of_branch w x

  abbrev IsSameHandler : BoundHandler → Type 0
  IsSameHandler x = formed_handler c x ≡ true → Such (calls_of_handler x) →
      region_of_handler v x ≡ region_of_handler w x

  abbrev ShownStmt : Type 0
  ShownStmt = (x : BoundStmt) × IsSame x

  abbrev ShownBlock : Type 0
  ShownBlock = (x : BoundBlock) × IsSameBlock x

  abbrev ShownBranch : Type 0
  ShownBranch = (x : BoundBranch) × IsSameBranch x

  abbrev ShownHandler : Type 0
  ShownHandler = (x : BoundHandler) × IsSameHandler x

  abbrev stmt_shown : BoundStmt-F ShownStmt ShownBlock ShownBranch ShownHandler → StmtLayer
  stmt_shown y = map-BoundStmt ShownStmt ShownBlock ShownBranch ShownHandler BoundStmt BoundBlock
      BoundBranch BoundHandler (λ x. x.0) (λ x. x.0) (λ x. x.0) (λ x. x.0) y

  abbrev block_shown : BoundBlock-F ShownStmt ShownBlock ShownBranch ShownHandler → BlockLayer
  block_shown y = map-BoundBlock ShownStmt ShownBlock ShownBranch ShownHandler BoundStmt BoundBlock
      BoundBranch BoundHandler (λ x. x.0) (λ x. x.0) (λ x. x.0) (λ x. x.0) y

  abbrev branch_shown : BoundBranch-F ShownStmt ShownBlock ShownBranch ShownHandler → BranchLayer
  branch_shown y =
      map-BoundBranch ShownStmt ShownBlock ShownBranch ShownHandler BoundStmt BoundBlock
      BoundBranch BoundHandler (λ x. x.0) (λ x. x.0) (λ x. x.0) (λ x. x.0) y

  abbrev handler_shown : BoundHandler-F ShownStmt ShownBlock ShownBranch ShownHandler → HandlerLayer
  handler_shown y =
      map-BoundHandler ShownStmt ShownBlock ShownBranch ShownHandler BoundStmt BoundBlock
      BoundBranch BoundHandler (λ x. x.0) (λ x. x.0) (λ x. x.0) (λ x. x.0) y

  -- ---- lists

  stmts-same : (ss : List ShownStmt) → all (map (formed c) (map (λ x. x.0) ss)) ≡ true →
      Such (all_calls (map statement_calls (map (λ x. x.0) ss))) →
      stmts (map (region_by v) (map (λ x. x.0) ss)) ≡ stmts (map (region_by w) (map (λ x. x.0) ss))
  stmts-same [] h n = refl
  stmts-same (s ∷ ss) h n =
      let parts = halves (formed c s.0) (all (map (formed c) (map (λ x. x.0) ss))) h in
      let names = parts-such (statement_calls s.0)
      (all_calls (map statement_calls (map (λ x. x.0) ss))) n in
      λ i. region.MoreStmts (s.1 parts.0 names.0 i) (stmts-same ss parts.1 names.1 i)

  branches-same : (bs : List ShownBranch) →
      all (map (formed_branch c) (map (λ x. x.0) bs)) ≡ true →
      Such (all_calls (map calls_of_branch (map (λ x. x.0) bs))) →
      branches (map (region_of_branch v) (map (λ x. x.0) bs))
      ≡ branches (map (region_of_branch w) (map (λ x. x.0) bs))
  branches-same [] h n = refl
  branches-same (b ∷ bs) h n =
      let parts = halves (formed_branch c b.0) (all (map (formed_branch c) (map (λ x. x.0) bs)))
      h in
      let names = parts-such (calls_of_branch b.0)
      (all_calls (map calls_of_branch (map (λ x. x.0) bs))) n in
      let here = b.1 parts.0 names.0 in
      λ i. region.MoreBranches (here i).test (here i).body (branches-same bs parts.1 names.1 i)

  handlers-same : (hs : List ShownHandler) →
      all (map (formed_handler c) (map (λ x. x.0) hs)) ≡ true →
      Such (all_calls (map calls_of_handler (map (λ x. x.0) hs))) →
      handlers (map (region_of_handler v) (map (λ x. x.0) hs))
      ≡ handlers (map (region_of_handler w) (map (λ x. x.0) hs))
  handlers-same [] h n = refl
  handlers-same (x ∷ xs) h n =
      let parts = halves (formed_handler c x.0) (all (map (formed_handler c) (map (λ y. y.0) xs)))
      h in
      let names = parts-such (calls_of_handler x.0)
      (all_calls (map calls_of_handler (map (λ y. y.0) xs))) n in
      let here = x.1 parts.0 names.0 in
      λ i. region.MoreHandlers (here i).follows (here i).values (here i).action
      (handlers-same xs parts.1 names.1 i)

  -- ---- one layer

  stmt-layer : (y : BoundStmt-F ShownStmt ShownBlock ShownBranch ShownHandler) →
      stmt_formed c (stmt_formed_at c (stmt_shown y)) ≡ true →
      Such (stmt_calls (stmt_called (stmt_shown y))) →
      stmt_region v (stmt_region_at v (stmt_shown y))
      ≡ stmt_region w (stmt_region_at w (stmt_shown y))
  stmt-layer (BoundStmt-F.Block b) h n = b.1 h n
  stmt-layer (BoundStmt-F.If bs ss) h n =
      let parts = halves (all (map (formed_branch c) (map (λ x. x.0) bs)))
      (all (map (formed c) (map (λ x. x.0) ss))) h in
      let names = parts-such (all_calls (map calls_of_branch (map (λ x. x.0) bs)))
      (all_calls (map statement_calls (map (λ x. x.0) ss))) n in
      λ i. region.If (branches-same bs parts.0 names.0 i) (stmts-same ss parts.1 names.1 i)
  stmt-layer (BoundStmt-F.Case None bs ss) h n =
      let parts = halves (all (map (formed_branch c) (map (λ x. x.0) bs)))
      (all (map (formed c) (map (λ x. x.0) ss))) h in
      let names = parts-such (all_calls (map calls_of_branch (map (λ x. x.0) bs)))
      (all_calls (map statement_calls (map (λ x. x.0) ss))) n in
      λ i. region.SearchedCase (branches-same bs parts.0 names.0 i)
      (stmts-same ss parts.1 names.1 i)
  stmt-layer (BoundStmt-F.Case (Some e) bs ss) h n =
      let arms = all (map (formed_branch c) (map (λ x. x.0) bs)) in
      let others = all (map (formed c) (map (λ x. x.0) ss)) in
      let outer = halves (planned_if_there c (Some e)) (arms && others) h in
      let parts = halves arms others outer.1 in
      let bn = all_calls (map calls_of_branch (map (λ x. x.0) bs)) in
      let sn = all_calls (map statement_calls (map (λ x. x.0) ss)) in
      let first = parts-such (expr_calls e) (bn ++ sn) n in
      let names = parts-such bn sn first.1 in
      λ i. region.SimpleCase (expr-same e first.0 outer.0 i) (branches-same bs parts.0 names.0 i)
      (stmts-same ss parts.1 names.1 i)
  stmt-layer (BoundStmt-F.Set t e) h n = ap (region.Set (target t)) (expr-same e n h)
  stmt-layer (BoundStmt-F.SelectInto q ts) h n =
      let p = (halves (not (nat_eq (length ts) 0)) (planned (query_seen c q)) h).1 in
      ap (λ q. region.SelectInto q (map target ts)) (query-same q n p)
  stmt-layer (BoundStmt-F.Signal s) h n =
      ap (region.Signal s.state) (optional-same s.message h n)
  stmt-layer (BoundStmt-F.Resignal s) h n =
      ap (region.Resignal s.state) (optional-same s.message h n)
  stmt-layer (BoundStmt-F.GetDiagnostics d) h n = get-same d.area d.information h n
  stmt-layer (BoundStmt-F.Leave level) h n = refl
  stmt-layer (BoundStmt-F.Return e) h n = ap region.Return (expr-same e n h)
  stmt-layer _ h n = absurd cc

  block-layer : (y : BoundBlock-F ShownStmt ShownBlock ShownBranch ShownHandler) →
      block_formed c (block_formed_at c (block_shown y)) ≡ true →
      Such (block_calls (block_called (block_shown y))) →
      block_region v (block_region_at v (block_shown y))
      ≡ block_region w (block_region_at w (block_shown y))
  block-layer y h n =
      let actions = all (map (formed_handler c) (map (λ x. x.0) y.handlers)) in
      let inner = all (map (formed c) (map (λ x. x.0) y.statements)) in
      let outer = halves (declares_formed c y.variables y.cursors) (actions && inner) h in
      let none = halves (nat_eq (length y.cursors) 0) (defaults_planned c y.variables) outer.0 in
      let parts = halves actions inner outer.1 in
      let hn = all_calls (map calls_of_handler (map (λ x. x.0) y.handlers)) in
      let sn = all_calls (map statement_calls (map (λ x. x.0) y.statements)) in
      let first = parts-such (variables_calls y.variables)
      (cursors_calls y.cursors ++ (hn ++ sn)) n in
      let second = parts-such (cursors_calls y.cursors) (hn ++ sn) first.1 in
      let names = parts-such hn sn second.1 in
      λ i. region.Compound y.atomic (variables-same y.variables none.1 first.0 i)
      (handlers-same y.handlers parts.0 names.0 i) (stmts-same y.statements parts.1 names.1 i)

  branch-layer : (y : BoundBranch-F ShownStmt ShownBlock ShownBranch ShownHandler) →
      branch_formed c (branch_formed_at c (branch_shown y)) ≡ true →
      Such (branch_calls (branch_called (branch_shown y))) →
      branch_region v (branch_region_at v (branch_shown y))
      ≡ branch_region w (branch_region_at w (branch_shown y))
  branch-layer y h n =
      let parts = halves (planned_if_there c (Some y.test))
      (all (map (formed c) (map (λ x. x.0) y.body))) h in
      let names = parts-such (expr_calls y.test)
      (all_calls (map statement_calls (map (λ x. x.0) y.body))) n in
      λ i. record {
        test = expr-same y.test names.0 parts.0 i;
        body = stmts-same y.body parts.1 names.1 i;
      }

  handler-layer : (y : BoundHandler-F ShownStmt ShownBlock ShownBranch ShownHandler) →
      formed c y.action.0 ≡ true → Such (statement_calls y.action.0) →
      handler_region (handler_region_at v (handler_shown y))
      ≡ handler_region (handler_region_at w (handler_shown y))
  handler-layer y h n = λ i. record {
    follows = handler_type y.handler_type;
    values = map condition_value y.values;
    action = y.action.1 h n i;
  }

  -- ---- whole trees

  stmt-whole : (y : BoundStmt-F ShownStmt ShownBlock ShownBranch ShownHandler) →
      IsSame (roll-BoundStmt (stmt_shown y))
  stmt-whole y h n = stmt_region_at-at v (stmt_shown y)
      ∙ stmt-layer y (sym (stmt_formed_at-at c (stmt_shown y)) ∙ h)
      (subst Such (statement_calls-at (stmt_shown y)) n)
      ∙ sym (stmt_region_at-at w (stmt_shown y))

  block-whole : (y : BoundBlock-F ShownStmt ShownBlock ShownBranch ShownHandler) →
      IsSameBlock (roll-BoundBlock (block_shown y))
  block-whole y h n = block_region_at-at v (block_shown y)
      ∙ block-layer y (sym (block_formed_at-at c (block_shown y)) ∙ h)
      (subst Such (calls_of_block-at (block_shown y)) n)
      ∙ sym (block_region_at-at w (block_shown y))

  branch-whole : (y : BoundBranch-F ShownStmt ShownBlock ShownBranch ShownHandler) →
      IsSameBranch (roll-BoundBranch (branch_shown y))
  branch-whole y h n = branch_region_at-at v (branch_shown y)
      ∙ branch-layer y (sym (branch_formed_at-at c (branch_shown y)) ∙ h)
      (subst Such (calls_of_branch-at (branch_shown y)) n)
      ∙ sym (branch_region_at-at w (branch_shown y))

  handler-whole : (y : BoundHandler-F ShownStmt ShownBlock ShownBranch ShownHandler) →
      IsSameHandler (roll-BoundHandler (handler_shown y))
  handler-whole y h n = handler_region_at-at v (handler_shown y)
      ∙ handler-layer y (sym (handler_formed_at-at c (handler_shown y)) ∙ h)
      (subst Such (calls_of_handler-at (handler_shown y)) n)
      ∙ sym (handler_region_at-at w (handler_shown y))

  pub alike : (x : BoundStmt) → IsSame x
  alike =
      ind-BoundStmt IsSame IsSameBlock IsSameBranch IsSameHandler
      (λ x y is. subst (λ z. IsSame (roll-BoundStmt z)) is (stmt-whole y))
      (λ x y is. subst (λ z. IsSameBlock (roll-BoundBlock z)) is (block-whole y))
      (λ x y is. subst (λ z. IsSameBranch (roll-BoundBranch z)) is (branch-whole y))
      (λ x y is. subst (λ z. IsSameHandler (roll-BoundHandler z)) is (handler-whole y))

pub regions_agree : RegionsAgree
regions_agree c v w s seen h =
    alike c (λ names. Unit {0}) (λ xs ys m. (tt, tt)) v w
    (λ e m p. seen.expressions e p) (λ q m p. seen.queries q p) s h tt
