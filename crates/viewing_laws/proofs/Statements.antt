-- Statements stand for the same where the names that they call do: by induction over the trees.
use Rattle.std.proofs.Common.{◌≡◌, ℕ, Bool, true, false, cond, List, [], ◌∷◌, ◌++◌, map}
use Rattle.std.proofs.Common.{length, Option, None, Some, refl, sym, ap, ◌∙◌, subst}
use Rattle.std.specs.List.{AllByRecursion}
use Rattle.std.specs.Str.{bytes_eq}
use Rattle.bound_trees.specs.declared.condition.BoundInformation.{BoundInformation}
use Rattle.bound_trees.specs.declared.condition.BoundInformation.TheVariants as information
use Rattle.bound_trees.specs.declared.expr.BoundExpr.{BoundExpr}
use Rattle.bound_trees.specs.declared.query.BoundQuery.{BoundQuery}
use Rattle.bound_trees.specs.declared.statement.BoundArgument.{BoundArgument}
use Rattle.bound_trees.specs.declared.statement.BoundArgument.TheVariants as argument
use Rattle.bound_trees.specs.declared.statement.BoundBlock.{BoundBlock, roll-BoundBlock}
use Rattle.bound_trees.specs.declared.statement.BoundBranch.{BoundBranch, roll-BoundBranch}
use Rattle.bound_trees.specs.declared.statement.BoundHandler.{BoundHandler, roll-BoundHandler}
use Rattle.bound_trees.specs.declared.statement.BoundStmt.{BoundStmt, roll-BoundStmt}
use Rattle.bound_trees.specs.declared.statement.BoundStmt.TheFolds.{map-BoundStmt, map-BoundBlock}
use Rattle.bound_trees.specs.declared.statement.BoundStmt.TheFolds.{map-BoundBranch}
use Rattle.bound_trees.specs.declared.statement.BoundStmt.TheFolds.{map-BoundHandler, ind-BoundStmt}
use Rattle.bound_trees.specs.declared.statement.BoundStmt.TheFolds.{ind-BoundBlock}
use Rattle.bound_trees.specs.declared.statement.BoundStmt.TheOpen.{BoundStmt-F, BoundBlock-F}
use Rattle.bound_trees.specs.declared.statement.BoundStmt.TheOpen.{BoundBranch-F, BoundHandler-F}
use Rattle.bound_trees.specs.declared.statement.BoundVariables.{BoundVariables}
use Rattle.rel_algebra.specs.Tree as tree
use Rattle.rel_algebra.specs.Tree.{Arguments, Query, Routine, Stmt, WhichArea}
use Rattle.routine_views.specs.Views.{Known, Own, perhaps, target, arguments, performed}
use Rattle.routine_views.specs.Views.{variables, condition_value, handler_type, which_area}
use Rattle.routine_views.specs.Views.{condition_read, diagnostics, stmts}
use Rattle.routine_views.specs.Views.{branches, handlers, case_view, stmt_view, block_view}
use Rattle.routine_views.specs.Views.{branch_view, handler_view, query_in, stmt_in}
use Rattle.routine_views.specs.Views.{block_in}
use Rattle.viewing_laws.specs.Calls.{CalledNames, all_calls, expr_calls, query_calls}
use Rattle.viewing_laws.specs.Calls.{calls_if_there, arguments_calls}
use Rattle.viewing_laws.specs.Calls.{information_calls, variables_calls, cursors_calls, stmt_calls}
use Rattle.viewing_laws.specs.Calls.{block_calls, branch_calls, handler_calls, statement_calls}
use Rattle.viewing_laws.specs.Calls.{calls_of_block, calls_of_branch, calls_of_handler}
use Rattle.viewing_laws.specs.Deciding.{Callee, itself, another, callee}
use Rattle.viewing_laws.proofs.Expressions.{expr-same, query-same}
use Rattle.viewing_laws.proofs.Layers.{StmtLayer, BlockLayer, BranchLayer, HandlerLayer}
use Rattle.viewing_laws.proofs.Layers.{stmt_called, block_called, branch_called, handler_called}
use Rattle.viewing_laws.proofs.Layers.{statement_calls-at, calls_of_block-at, calls_of_branch-at}
use Rattle.viewing_laws.proofs.Layers.{calls_of_handler-at, branch_in, handler_in, stmt_seen}
use Rattle.viewing_laws.proofs.Layers.{block_seen, branch_seen, handler_seen, stmt_in-at}
use Rattle.viewing_laws.proofs.Layers.{block_in-at, branch_in-at, handler_in-at}

-- ---- CALL

-- a call of what is called
abbrev perform_of : List ℕ → Arguments → Callee → Stmt
perform_of name args (itself parameters) = tree.CallItself parameters args
perform_of name args (another r) = tree.CallProcedure name r args

performed-callee : (m : List ℕ → Routine) (own : Option Own) (name : List ℕ) (args : Arguments) →
    performed (record { routines = m; own = own }) name args ≡
    perform_of name args (callee (record { routines = m; own = own }) name)
performed-callee m None name args = refl
performed-callee m (Some own) name args = by (bytes_eq own.name name)
  where
    by : (b : Bool) →
        cond b (tree.CallItself own.parameters args) (tree.CallProcedure name (m name) args) ≡
        perform_of name args (cond b (itself own.parameters) (another (m name)))
    by true = refl
    by false = refl

performed-both : (k l : Known) (name : List ℕ) → callee k name ≡ callee l name →
    {xs ys : Arguments} → xs ≡ ys → performed k name xs ≡ performed l name ys
performed-both k l name e {xs} {ys} p =
    performed-callee k.routines k.own name xs ∙ (λ i. perform_of name (p i) (e i)) ∙
    sym (performed-callee l.routines l.own name ys)

module _ (k l : Known) where
  -- each of these names calls the same
  abbrev Called : CalledNames → Type 0
  Called names = AllByRecursion (λ name. callee k name ≡ callee l name) names

  front : (xs ys : CalledNames) → Called (xs ++ ys) → Called xs
  front [] ys s = tt
  front (x ∷ xs) ys s = (s.0, front xs ys s.1)

  back : (xs ys : CalledNames) → Called (xs ++ ys) → Called ys
  back [] ys s = s
  back (x ∷ xs) ys s = back xs ys s.1

  -- ---- what holds no statement

  pub optional-same : (e : Option BoundExpr) → Called (calls_if_there e) →
      perhaps k e ≡ perhaps l e
  optional-same None s = refl
  optional-same (Some e) s = ap tree.With (expr-same k l e s)

  pub arguments-same : (xs : List BoundArgument) → Called (arguments_calls xs) →
      arguments k xs ≡ arguments l xs
  arguments-same [] s = refl
  arguments-same (argument.Value e ∷ xs) s =
      λ i. tree.MoreValues (expr-same k l e (front (expr_calls e) (arguments_calls xs) s) i)
      (arguments-same xs (back (expr_calls e) (arguments_calls xs) s) i)
  arguments-same (argument.Variable t ∷ xs) s =
      ap (tree.MoreTargets (target t)) (arguments-same xs s)
  arguments-same (argument.Given ∷ xs) s = ap tree.MoreGiven (arguments-same xs s)

  pub variables-same : (vs : List BoundVariables) → Called (variables_calls vs) →
      variables k vs ≡ variables l vs
  variables-same [] s = refl
  variables-same (v ∷ vs) s =
      let here = front (calls_if_there v.default) (variables_calls vs) s in
      let rest = back (calls_if_there v.default) (variables_calls vs) s in
      λ i. tree.MoreVariables v.count v.data_type (optional-same v.default here i)
      (variables-same vs rest i)

  cursors-same : (qs : List BoundQuery) → Called (cursors_calls qs) →
      map (query_in k) qs ≡ map (query_in l) qs
  cursors-same [] s = refl
  cursors-same (q ∷ qs) s =
      λ i. query-same k l q (front (query_calls q) (cursors_calls qs) s) i
      ∷ cursors-same qs (back (query_calls q) (cursors_calls qs) s) i

  diagnostics-same : (a : WhichArea) (d : BoundInformation) → Called (information_calls d) →
      diagnostics k a d ≡ diagnostics l a d
  diagnostics-same a (information.Statement rs) s = refl
  diagnostics-same a (information.Condition n rs) s =
      λ i. tree.GetConditionItems a (expr-same k l n s i) (map condition_read rs)

  case-same : (operand : Option BoundExpr) → Called (calls_if_there operand) →
      case_view k operand ≡ case_view l operand
  case-same None s = refl
  case-same (Some e) s = λ i bs otherwise. tree.SimpleCase (expr-same k l e s i) bs otherwise

  -- ---- trees

  -- a tree that stands for the same where what it calls does
  abbrev Lasts : {A V : Type 0} → (A → CalledNames) → (Known → A → V) → A → Type 0
  Lasts names seen x = Called (names x) → seen k x ≡ seen l x

  each-same : {A V : Type 0} (names : A → CalledNames) (seen : Known → A → V)
      (xs : List ((x : A) × Lasts names seen x)) →
      Called (all_calls (map names (map (λ x. x.0) xs))) →
      map (seen k) (map (λ x. x.0) xs) ≡ map (seen l) (map (λ x. x.0) xs)
  each-same names seen [] s = refl
  each-same names seen (x ∷ xs) s =
      let rest = all_calls (map names (map (λ y. y.0) xs)) in
      λ i. x.1 (front (names x.0) rest s) i ∷ each-same names seen xs (back (names x.0) rest s) i

  abbrev ShownStmt : Type 0
  ShownStmt = (x : BoundStmt) × Lasts statement_calls stmt_in x

  abbrev ShownBlock : Type 0
  ShownBlock = (x : BoundBlock) × Lasts calls_of_block block_in x

  abbrev ShownBranch : Type 0
  ShownBranch = (x : BoundBranch) × Lasts calls_of_branch branch_in x

  abbrev ShownHandler : Type 0
  ShownHandler = (x : BoundHandler) × Lasts calls_of_handler handler_in x

  abbrev stmt_shown : BoundStmt-F ShownStmt ShownBlock ShownBranch ShownHandler → StmtLayer
  stmt_shown y = map-BoundStmt ShownStmt ShownBlock ShownBranch ShownHandler BoundStmt BoundBlock
      BoundBranch BoundHandler (λ x. x.0) (λ x. x.0) (λ x. x.0) (λ x. x.0) y

  abbrev block_shown : BoundBlock-F ShownStmt ShownBlock ShownBranch ShownHandler → BlockLayer
  block_shown y = map-BoundBlock ShownStmt ShownBlock ShownBranch ShownHandler BoundStmt BoundBlock
      BoundBranch BoundHandler (λ x. x.0) (λ x. x.0) (λ x. x.0) (λ x. x.0) y

  abbrev branch_shown : BoundBranch-F ShownStmt ShownBlock ShownBranch ShownHandler → BranchLayer
  branch_shown y =
      map-BoundBranch ShownStmt ShownBlock ShownBranch ShownHandler BoundStmt BoundBlock
      BoundBranch BoundHandler (λ x. x.0) (λ x. x.0) (λ x. x.0) (λ x. x.0) y

  abbrev handler_shown : BoundHandler-F ShownStmt ShownBlock ShownBranch ShownHandler → HandlerLayer
  handler_shown y =
      map-BoundHandler ShownStmt ShownBlock ShownBranch ShownHandler BoundStmt BoundBlock
      BoundBranch BoundHandler (λ x. x.0) (λ x. x.0) (λ x. x.0) (λ x. x.0) y

  -- statements and branches in order
  stmts-same : (ss : List ShownStmt) →
      Called (all_calls (map statement_calls (map (λ x. x.0) ss))) →
      map (stmt_in k) (map (λ x. x.0) ss) ≡ map (stmt_in l) (map (λ x. x.0) ss)
  stmts-same ss s = each-same statement_calls stmt_in ss s

  branches-same : (bs : List ShownBranch) →
      Called (all_calls (map calls_of_branch (map (λ x. x.0) bs))) →
      map (branch_in k) (map (λ x. x.0) bs) ≡ map (branch_in l) (map (λ x. x.0) bs)
  branches-same bs s = each-same calls_of_branch branch_in bs s

  -- ---- one layer

  stmt-layer : (y : BoundStmt-F ShownStmt ShownBlock ShownBranch ShownHandler) →
      Called (stmt_calls (stmt_called (stmt_shown y))) →
      stmt_view k (stmt_seen k (stmt_shown y)) ≡ stmt_view l (stmt_seen l (stmt_shown y))
  stmt-layer (BoundStmt-F.Insert b places) s =
      λ i cursors. tree.Insert b.table places (query-same k l b.source s i)
  stmt-layer (BoundStmt-F.Update b) s =
      λ i cursors. tree.Update b.table b.targets (query-same k l b.rows s i)
  stmt-layer (BoundStmt-F.Delete b) s =
      λ i cursors. tree.Delete b.table (query-same k l b.rows s i)
  stmt-layer (BoundStmt-F.Call c) s =
      λ i cursors. performed-both k l c.procedure s.0 (arguments-same c.arguments s.1) i
  stmt-layer (BoundStmt-F.Block b) s = b.1 s
  stmt-layer (BoundStmt-F.If bs ss) s =
      let bn = all_calls (map calls_of_branch (map (λ x. x.0) bs)) in
      let sn = all_calls (map statement_calls (map (λ x. x.0) ss)) in
      λ i cursors. tree.If (branches (branches-same bs (front bn sn s) i) cursors)
      (stmts (stmts-same ss (back bn sn s) i) cursors)
  stmt-layer (BoundStmt-F.Case operand bs ss) s =
      let bn = all_calls (map calls_of_branch (map (λ x. x.0) bs)) in
      let sn = all_calls (map statement_calls (map (λ x. x.0) ss)) in
      let on = calls_if_there operand in
      let rest = back on (bn ++ sn) s in
      λ i cursors. case-same operand (front on (bn ++ sn) s) i
      (branches (branches-same bs (front bn sn rest) i) cursors)
      (stmts (stmts-same ss (back bn sn rest) i) cursors)
  stmt-layer (BoundStmt-F.Set t e) s = λ i cursors. tree.Set (target t) (expr-same k l e s i)
  stmt-layer (BoundStmt-F.SelectInto q ts) s =
      λ i cursors. tree.SelectInto (query-same k l q s i) (map target ts)
  stmt-layer (BoundStmt-F.Loop body) s =
      λ i cursors. tree.Loop (stmts (stmts-same body s i) cursors)
  stmt-layer (BoundStmt-F.While test body) s =
      let bn = all_calls (map statement_calls (map (λ x. x.0) body)) in
      λ i cursors. tree.While (expr-same k l test (front (expr_calls test) bn s) i)
      (stmts (stmts-same body (back (expr_calls test) bn s) i) cursors)
  stmt-layer (BoundStmt-F.Repeat body test) s =
      let bn = all_calls (map statement_calls (map (λ x. x.0) body)) in
      λ i cursors. tree.Repeat (stmts (stmts-same body (front bn (expr_calls test) s) i) cursors)
      (expr-same k l test (back bn (expr_calls test) s) i)
  stmt-layer (BoundStmt-F.For q slot body) s =
      let bn = all_calls (map statement_calls (map (λ x. x.0) body)) in
      λ i cursors. tree.For (query-same k l q (front (query_calls q) bn s) i)
      (stmts (stmts-same body (back (query_calls q) bn s) i) cursors)
  stmt-layer (BoundStmt-F.Open slot) s = refl
  stmt-layer (BoundStmt-F.Close slot) s = refl
  stmt-layer (BoundStmt-F.Fetch slot ts) s = refl
  stmt-layer (BoundStmt-F.Signal x) s =
      λ i cursors. tree.Signal x.state (optional-same x.message s i)
  stmt-layer (BoundStmt-F.Resignal x) s =
      λ i cursors. tree.Resignal x.state (optional-same x.message s i)
  stmt-layer (BoundStmt-F.GetDiagnostics d) s =
      λ i cursors. diagnostics-same (which_area d.area) d.information s i
  stmt-layer (BoundStmt-F.Leave level) s = refl
  stmt-layer (BoundStmt-F.Iterate level) s = refl
  stmt-layer (BoundStmt-F.Return e) s = λ i cursors. tree.Return (expr-same k l e s i)

  block-layer : (y : BoundBlock-F ShownStmt ShownBlock ShownBranch ShownHandler) →
      Called (block_calls (block_called (block_shown y))) →
      block_view k (block_seen k (block_shown y)) ≡ block_view l (block_seen l (block_shown y))
  block-layer y s =
      let hn = all_calls (map calls_of_handler (map (λ x. x.0) y.handlers)) in
      let sn = all_calls (map statement_calls (map (λ x. x.0) y.statements)) in
      let vn = variables_calls y.variables in
      let cn = cursors_calls y.cursors in
      let past = back vn (cn ++ (hn ++ sn)) s in
      let rest = back cn (hn ++ sn) past in
      let cs = cursors-same y.cursors (front cn (hn ++ sn) past) in
      λ i cursors. tree.Compound y.atomic (variables-same y.variables (front vn (cn ++ (hn ++ sn))
      s) i)
      (length y.cursors)
      (handlers (each-same calls_of_handler handler_in y.handlers (front hn sn rest) i)
      (cursors ++ cs i))
      (stmts (stmts-same y.statements (back hn sn rest) i) (cursors ++ cs i))

  branch-layer : (y : BoundBranch-F ShownStmt ShownBlock ShownBranch ShownHandler) →
      Called (branch_calls (branch_called (branch_shown y))) →
      branch_view k (branch_seen k (branch_shown y)) ≡ branch_view l (branch_seen l (branch_shown
      y))
  branch-layer y s =
      let bn = all_calls (map statement_calls (map (λ x. x.0) y.body)) in
      λ i. record {
        test = expr-same k l y.test (front (expr_calls y.test) bn s) i;
        body = stmts-same y.body (back (expr_calls y.test) bn s) i;
      }

  handler-layer : (y : BoundHandler-F ShownStmt ShownBlock ShownBranch ShownHandler) →
      Called (handler_calls (handler_called (handler_shown y))) →
      handler_view (handler_seen k (handler_shown y)) ≡ handler_view (handler_seen l (handler_shown
      y))
  handler-layer y s = λ i. record {
    follows = handler_type y.handler_type;
    values = map condition_value y.values;
    action = y.action.1 s i;
  }

  -- ---- whole trees

  stmt-whole : (y : BoundStmt-F ShownStmt ShownBlock ShownBranch ShownHandler) →
      Lasts statement_calls stmt_in (roll-BoundStmt (stmt_shown y))
  stmt-whole y s = stmt_in-at k (stmt_shown y) ∙
      stmt-layer y (subst Called (statement_calls-at (stmt_shown y)) s) ∙
      sym (stmt_in-at l (stmt_shown y))

  block-whole : (y : BoundBlock-F ShownStmt ShownBlock ShownBranch ShownHandler) →
      Lasts calls_of_block block_in (roll-BoundBlock (block_shown y))
  block-whole y s = block_in-at k (block_shown y) ∙
      block-layer y (subst Called (calls_of_block-at (block_shown y)) s) ∙
      sym (block_in-at l (block_shown y))

  branch-whole : (y : BoundBranch-F ShownStmt ShownBlock ShownBranch ShownHandler) →
      Lasts calls_of_branch branch_in (roll-BoundBranch (branch_shown y))
  branch-whole y s = branch_in-at k (branch_shown y) ∙
      branch-layer y (subst Called (calls_of_branch-at (branch_shown y)) s) ∙
      sym (branch_in-at l (branch_shown y))

  handler-whole : (y : BoundHandler-F ShownStmt ShownBlock ShownBranch ShownHandler) →
      Lasts calls_of_handler handler_in (roll-BoundHandler (handler_shown y))
  handler-whole y s = handler_in-at k (handler_shown y) ∙
      handler-layer y (subst Called (calls_of_handler-at (handler_shown y)) s) ∙
      sym (handler_in-at l (handler_shown y))

  pub statement-same : (x : BoundStmt) → Lasts statement_calls stmt_in x
  statement-same =
      ind-BoundStmt (Lasts statement_calls stmt_in) (Lasts calls_of_block block_in)
      (Lasts calls_of_branch branch_in) (Lasts calls_of_handler handler_in)
      (λ x y is. subst (λ z. Lasts statement_calls stmt_in (roll-BoundStmt z)) is (stmt-whole y))
      (λ x y is. subst (λ z. Lasts calls_of_block block_in (roll-BoundBlock z)) is (block-whole y))
      (λ x y is. subst (λ z. Lasts calls_of_branch branch_in (roll-BoundBranch z)) is
      (branch-whole y))
      (λ x y is. subst (λ z. Lasts calls_of_handler handler_in (roll-BoundHandler z)) is
      (handler-whole y))

  pub block-same : (x : BoundBlock) → Lasts calls_of_block block_in x
  block-same =
      ind-BoundBlock (Lasts statement_calls stmt_in) (Lasts calls_of_block block_in)
      (Lasts calls_of_branch branch_in) (Lasts calls_of_handler handler_in)
      (λ x y is. subst (λ z. Lasts statement_calls stmt_in (roll-BoundStmt z)) is (stmt-whole y))
      (λ x y is. subst (λ z. Lasts calls_of_block block_in (roll-BoundBlock z)) is (block-whole y))
      (λ x y is. subst (λ z. Lasts calls_of_branch branch_in (roll-BoundBranch z)) is
      (branch-whole y))
      (λ x y is. subst (λ z. Lasts calls_of_handler handler_in (roll-BoundHandler z)) is
      (handler-whole y))
