-- The tree of a body in form is formed as plans want it: by induction over the trees.
use Rattle.std.proofs.Common.{◌≡◌, ℕ, Bool, true, false, ◌&&◌, ◌||◌, not, List, [], ◌∷◌, ◌++◌, map}
use Rattle.std.proofs.Common.{length, Option, None, Some, refl, sym, ◌∙◌, subst}
use Rattle.std.specs.Prelude.{nat_eq}
use Rattle.std.specs.List.{AllByRecursion, IsDistinct}
use Rattle.std.specs.Str.{bytes_eq}
use Rattle.bound_trees.specs.declared.condition.BoundArea.{BoundArea}
use Rattle.bound_trees.specs.declared.condition.BoundArea.TheVariants as area
use Rattle.bound_trees.specs.declared.condition.BoundInformation.{BoundInformation}
use Rattle.bound_trees.specs.declared.condition.BoundInformation.TheVariants as information
use Rattle.bound_trees.specs.declared.expr.BoundExpr.{BoundExpr}
use Rattle.bound_trees.specs.declared.statement.BoundBlock.{BoundBlock, roll-BoundBlock}
use Rattle.bound_trees.specs.declared.statement.BoundBranch.{BoundBranch, roll-BoundBranch}
use Rattle.bound_trees.specs.declared.statement.BoundHandler.{BoundHandler, roll-BoundHandler}
use Rattle.bound_trees.specs.declared.statement.BoundStmt.{BoundStmt, roll-BoundStmt}
use Rattle.bound_trees.specs.declared.statement.BoundStmt.TheFolds.{map-BoundStmt, map-BoundBlock}
use Rattle.bound_trees.specs.declared.statement.BoundStmt.TheFolds.{map-BoundBranch}
use Rattle.bound_trees.specs.declared.statement.BoundStmt.TheFolds.{map-BoundHandler, ind-BoundStmt}
use Rattle.bound_trees.specs.declared.statement.BoundStmt.TheOpen.{BoundStmt-F, BoundBlock-F}
use Rattle.bound_trees.specs.declared.statement.BoundStmt.TheOpen.{BoundBranch-F, BoundHandler-F}
use Rattle.bound_trees.specs.declared.statement.BoundTarget.{BoundTarget}
use Rattle.bound_trees.specs.declared.statement.BoundVariables.{BoundVariables}
use Rattle.rel_algebra.specs.Joins.{query_width}
use Rattle.rel_algebra.specs.Plain.{planned, planned_expr}
use Rattle.rel_algebra.specs.Tree.{Expr, Query, Target}
use Rattle.catalog_store.specs.Catalog.{names_of}
use Rattle.catalog_store.proofs.Laws.{bytes_swap}
use Rattle.regions.specs.Inline.{Widths}
use Rattle.regions.specs.Theorem.{Each, AllEach, BranchesEach, HandlersEach, Planned}
use Rattle.regions.specs.Theorem.{VariablesFormed, Formed, AllFormed, BranchesFormed}
use Rattle.regions.specs.Theorem.{HandlersFormed, HasTarget, ExprShaped, QueryShaped, StmtShaped}
use Rattle.routine_views.specs.Views.{Own, target}
use Rattle.routine_views.specs.Routines.{routines_of}
use Rattle.viewing_laws.specs.Calls.{CalledNames, expr_calls, query_calls, statement_calls}
use Rattle.viewing_laws.specs.Standing.{is_called}
use Rattle.viewing_laws.proofs.Laws.{others_decide, StmtLayer, BlockLayer, BranchLayer}
use Rattle.viewing_laws.proofs.Laws.{HandlerLayer}
use Rattle.block_plans.specs.Callees.{Callees}
use Rattle.block_plans.specs.View.{query_seen}
use Rattle.block_views.proofs.Laws.{seen_as_run}
use Rattle.region_trees.specs.Form.{reads_formed, declares_formed, defaults_planned, all}
use Rattle.region_trees.specs.Form.{planned_if_there, stmt_formed, block_formed, branch_formed}
use Rattle.region_trees.specs.Form.{formed, formed_block, formed_branch, formed_handler}
use Rattle.region_trees.specs.Laws.{BodiesFormed}
use Rattle.region_trees.specs.Regions.{seen_in, seen_by, perhaps, variables, BranchRegion, stmts}
use Rattle.region_trees.specs.Regions.{branches, handlers, get_region, stmt_region, block_region}
use Rattle.region_trees.specs.Regions.{branch_region, region_in, region_seen, region_of_block}
use Rattle.region_trees.specs.Regions.{region_of_branch, region_of_handler}
use Rattle.region_trees.proofs.Agreeing.{alike}
use Rattle.region_trees.proofs.Embedding.{halves}
use Rattle.region_trees.proofs.Layers.{stmt_formed_at, block_formed_at, branch_formed_at}
use Rattle.region_trees.proofs.Layers.{stmt_formed_at-at, block_formed_at-at, branch_formed_at-at}
use Rattle.region_trees.proofs.Layers.{handler_formed_at-at, stmt_region_at, block_region_at}
use Rattle.region_trees.proofs.Layers.{branch_region_at, stmt_region_at-at, block_region_at-at}
use Rattle.region_trees.proofs.Layers.{branch_region_at-at, handler_region_at-at}

-- what is stored has a target
targets-there : (ts : List BoundTarget) (b : Bool) → (not (nat_eq (length ts) 0) && b) ≡ true →
    HasTarget (map target ts)
targets-there [] b h = absurd cc
targets-there (t ∷ ts) b h = tt

module _ (c : Callees) (S : Widths) (P : Expr → Type 0) (Q : Query → List Target → Type 0)
    (counted : (q : Query) (ts : List Target) → Q q ts → query_width q S ≡ length ts) where
  -- ---- what holds no statement

  optional-formed : (e : Option BoundExpr) → planned_if_there c e ≡ true →
      Planned (perhaps (seen_by c) e)
  optional-formed None h = tt
  optional-formed (Some e) h = h

  variables-formed : (vs : List BoundVariables) → defaults_planned c vs ≡ true →
      VariablesFormed (variables (seen_by c) vs)
  variables-formed [] h = tt
  variables-formed (v ∷ vs) h =
      let parts = halves (planned_if_there c v.default) (defaults_planned c vs) h in
      (optional-formed v.default parts.0, variables-formed vs parts.1)

  get-formed : (a : BoundArea) (i : BoundInformation) → reads_formed c a i ≡ true →
      Formed (get_region (seen_by c) i) S
  get-formed area.Current i h = absurd cc
  get-formed area.Stacked (information.Statement rs) h = tt
  get-formed area.Stacked (information.Condition x rs) h = h

  -- ---- what is shown of trees of each kind

  abbrev IsFormed : BoundStmt → Type 0
  IsFormed x = formed c x ≡ true → Each (region_seen c x) P Q → Formed (region_seen c x) S

  abbrev IsFormedBlock : BoundBlock → Type 0
  IsFormedBlock x = formed_block c x ≡ true → Each (region_of_block (seen_by c) x) P Q →
      Formed (region_of_block (seen_by c) x) S

  abbrev BranchFormed : BranchRegion → Type 0
  BranchFormed r = (planned_expr r.test ≡ true) × AllFormed r.body S

  abbrev IsFormedBranch : BoundBranch → Type 0
  IsFormedBranch x = formed_branch c x ≡ true →
      AllEach (region_of_branch (seen_by c) x).body P Q →
      BranchFormed (region_of_branch (seen_by c) x)

  abbrev IsFormedHandler : BoundHandler → Type 0
  IsFormedHandler x = formed_handler c x ≡ true →
      Each (region_of_handler (seen_by c) x).action P Q →
      Formed (region_of_handler (seen_by c) x).action S

  abbrev ShownStmt : Type 0
  ShownStmt = (x : BoundStmt) × IsFormed x

  abbrev ShownBlock : Type 0
  ShownBlock = (x : BoundBlock) × IsFormedBlock x

  abbrev ShownBranch : Type 0
  ShownBranch = (x : BoundBranch) × IsFormedBranch x

  abbrev ShownHandler : Type 0
  ShownHandler = (x : BoundHandler) × IsFormedHandler x

  abbrev stmt_shown : BoundStmt-F ShownStmt ShownBlock ShownBranch ShownHandler → StmtLayer
  stmt_shown y = map-BoundStmt ShownStmt ShownBlock ShownBranch ShownHandler BoundStmt BoundBlock
      BoundBranch BoundHandler (λ x. x.0) (λ x. x.0) (λ x. x.0) (λ x. x.0) y

  abbrev block_shown : BoundBlock-F ShownStmt ShownBlock ShownBranch ShownHandler → BlockLayer
  block_shown y = map-BoundBlock ShownStmt ShownBlock ShownBranch ShownHandler BoundStmt BoundBlock
      BoundBranch BoundHandler (λ x. x.0) (λ x. x.0) (λ x. x.0) (λ x. x.0) y

  abbrev branch_shown : BoundBranch-F ShownStmt ShownBlock ShownBranch ShownHandler → BranchLayer
  branch_shown y =
      map-BoundBranch ShownStmt ShownBlock ShownBranch ShownHandler BoundStmt BoundBlock
      BoundBranch BoundHandler (λ x. x.0) (λ x. x.0) (λ x. x.0) (λ x. x.0) y

  abbrev handler_shown : BoundHandler-F ShownStmt ShownBlock ShownBranch ShownHandler → HandlerLayer
  handler_shown y =
      map-BoundHandler ShownStmt ShownBlock ShownBranch ShownHandler BoundStmt BoundBlock
      BoundBranch BoundHandler (λ x. x.0) (λ x. x.0) (λ x. x.0) (λ x. x.0) y

  -- ---- lists

  stmts-formed : (ss : List ShownStmt) → all (map (formed c) (map (λ x. x.0) ss)) ≡ true →
      AllEach (stmts (map (region_seen c) (map (λ x. x.0) ss))) P Q →
      AllFormed (stmts (map (region_seen c) (map (λ x. x.0) ss))) S
  stmts-formed [] h w = tt
  stmts-formed (s ∷ ss) h w =
      let parts = halves (formed c s.0) (all (map (formed c) (map (λ x. x.0) ss))) h in
      (s.1 parts.0 w.0, stmts-formed ss parts.1 w.1)

  branches-formed : (bs : List ShownBranch) →
      all (map (formed_branch c) (map (λ x. x.0) bs)) ≡ true →
      BranchesEach (branches (map (region_of_branch (seen_by c)) (map (λ x. x.0) bs))) P Q →
      BranchesFormed (branches (map (region_of_branch (seen_by c)) (map (λ x. x.0) bs))) S
  branches-formed [] h w = tt
  branches-formed (b ∷ bs) h w =
      let parts = halves (formed_branch c b.0) (all (map (formed_branch c) (map (λ x. x.0) bs)))
      h in
      let here = b.1 parts.0 w.1 in (here.0, here.1, branches-formed bs parts.1 w.2)

  handlers-formed : (hs : List ShownHandler) →
      all (map (formed_handler c) (map (λ x. x.0) hs)) ≡ true →
      HandlersEach (handlers (map (region_of_handler (seen_by c)) (map (λ x. x.0) hs))) P Q →
      HandlersFormed (handlers (map (region_of_handler (seen_by c)) (map (λ x. x.0) hs))) S
  handlers-formed [] h w = tt
  handlers-formed (x ∷ xs) h w =
      let parts = halves (formed_handler c x.0) (all (map (formed_handler c) (map (λ y. y.0) xs)))
      h in
      (x.1 parts.0 w.0, handlers-formed xs parts.1 w.1)

  -- ---- one layer

  stmt-layer : (y : BoundStmt-F ShownStmt ShownBlock ShownBranch ShownHandler) →
      stmt_formed c (stmt_formed_at c (stmt_shown y)) ≡ true →
      Each (stmt_region (seen_by c) (stmt_region_at (seen_by c) (stmt_shown y))) P Q →
      Formed (stmt_region (seen_by c) (stmt_region_at (seen_by c) (stmt_shown y))) S
  stmt-layer (BoundStmt-F.Block b) h w = b.1 h w
  stmt-layer (BoundStmt-F.If bs ss) h w =
      let parts = halves (all (map (formed_branch c) (map (λ x. x.0) bs)))
      (all (map (formed c) (map (λ x. x.0) ss))) h in
      (branches-formed bs parts.0 w.0, stmts-formed ss parts.1 w.1)
  stmt-layer (BoundStmt-F.Case None bs ss) h w =
      let parts = halves (all (map (formed_branch c) (map (λ x. x.0) bs)))
      (all (map (formed c) (map (λ x. x.0) ss))) h in
      (branches-formed bs parts.0 w.0, stmts-formed ss parts.1 w.1)
  stmt-layer (BoundStmt-F.Case (Some e) bs ss) h w =
      let arms = all (map (formed_branch c) (map (λ x. x.0) bs)) in
      let others = all (map (formed c) (map (λ x. x.0) ss)) in
      let outer = halves (planned_if_there c (Some e)) (arms && others) h in
      let parts = halves arms others outer.1 in
      (outer.0, branches-formed bs parts.0 w.1, stmts-formed ss parts.1 w.2)
  stmt-layer (BoundStmt-F.Set t e) h w = h
  stmt-layer (BoundStmt-F.SelectInto q ts) h w = (
    (halves (not (nat_eq (length ts) 0)) (planned (query_seen c q)) h).1,
    counted (query_seen c q) (map target ts) w,
    targets-there ts (planned (query_seen c q)) h,
  )
  stmt-layer (BoundStmt-F.Signal s) h w = optional-formed s.message h
  stmt-layer (BoundStmt-F.Resignal s) h w = optional-formed s.message h
  stmt-layer (BoundStmt-F.GetDiagnostics d) h w = get-formed d.area d.information h
  stmt-layer (BoundStmt-F.Leave level) h w = tt
  stmt-layer (BoundStmt-F.Return e) h w = h
  stmt-layer _ h w = absurd cc

  block-layer : (y : BoundBlock-F ShownStmt ShownBlock ShownBranch ShownHandler) →
      block_formed c (block_formed_at c (block_shown y)) ≡ true →
      Each (block_region (seen_by c) (block_region_at (seen_by c) (block_shown y))) P Q →
      Formed (block_region (seen_by c) (block_region_at (seen_by c) (block_shown y))) S
  block-layer y h w =
      let actions = all (map (formed_handler c) (map (λ x. x.0) y.handlers)) in
      let inner = all (map (formed c) (map (λ x. x.0) y.statements)) in
      let outer = halves (declares_formed c y.variables y.cursors) (actions && inner) h in
      let none = halves (nat_eq (length y.cursors) 0) (defaults_planned c y.variables) outer.0 in
      let parts = halves actions inner outer.1 in (
        variables-formed y.variables none.1,
        handlers-formed y.handlers parts.0 w.1,
        stmts-formed y.statements parts.1 w.2,
      )

  branch-layer : (y : BoundBranch-F ShownStmt ShownBlock ShownBranch ShownHandler) →
      branch_formed c (branch_formed_at c (branch_shown y)) ≡ true →
      AllEach (branch_region (seen_by c) (branch_region_at (seen_by c) (branch_shown y))).body P Q →
      BranchFormed (branch_region (seen_by c) (branch_region_at (seen_by c) (branch_shown y)))
  branch-layer y h w =
      let parts = halves (planned_if_there c (Some y.test))
      (all (map (formed c) (map (λ x. x.0) y.body))) h in
      (parts.0, stmts-formed y.body parts.1 w)

  -- ---- whole trees

  stmt-whole : (y : BoundStmt-F ShownStmt ShownBlock ShownBranch ShownHandler) →
      IsFormed (roll-BoundStmt (stmt_shown y))
  stmt-whole y h w =
      let r = stmt_region_at-at (seen_by c) (stmt_shown y) in
      subst (λ t. Formed t S) (sym r)
      (stmt-layer y (sym (stmt_formed_at-at c (stmt_shown y)) ∙ h) (subst (λ t. Each t P Q) r w))

  block-whole : (y : BoundBlock-F ShownStmt ShownBlock ShownBranch ShownHandler) →
      IsFormedBlock (roll-BoundBlock (block_shown y))
  block-whole y h w =
      let r = block_region_at-at (seen_by c) (block_shown y) in
      subst (λ t. Formed t S) (sym r)
      (block-layer y (sym (block_formed_at-at c (block_shown y)) ∙ h)
      (subst (λ t. Each t P Q) r w))

  branch-whole : (y : BoundBranch-F ShownStmt ShownBlock ShownBranch ShownHandler) →
      IsFormedBranch (roll-BoundBranch (branch_shown y))
  branch-whole y h w =
      let r = branch_region_at-at (seen_by c) (branch_shown y) in
      subst (λ t. BranchFormed t) (sym r)
      (branch-layer y (sym (branch_formed_at-at c (branch_shown y)) ∙ h)
      (subst (λ t. AllEach t.body P Q) r w))

  handler-whole : (y : BoundHandler-F ShownStmt ShownBlock ShownBranch ShownHandler) →
      IsFormedHandler (roll-BoundHandler (handler_shown y))
  handler-whole y h w =
      let r = handler_region_at-at (seen_by c) (handler_shown y) in
      subst (λ t. Formed t.action S) (sym r)
      (y.action.1 (sym (handler_formed_at-at c (handler_shown y)) ∙ h)
      (subst (λ t. Each t.action P Q) r w))

  pub stmt-in-form : (x : BoundStmt) → IsFormed x
  stmt-in-form =
      ind-BoundStmt IsFormed IsFormedBlock IsFormedBranch IsFormedHandler
      (λ x y is. subst (λ z. IsFormed (roll-BoundStmt z)) is (stmt-whole y))
      (λ x y is. subst (λ z. IsFormedBlock (roll-BoundBlock z)) is (block-whole y))
      (λ x y is. subst (λ z. IsFormedBranch (roll-BoundBranch z)) is (branch-whole y))
      (λ x y is. subst (λ z. IsFormedHandler (roll-BoundHandler z)) is (handler-whole y))

-- ---- in a routine that it doesn't call

-- what several parts don't call none of them calls
uncalled : (name : List ℕ) (xs ys : CalledNames) → is_called name (xs ++ ys) ≡ false →
    (is_called name xs ≡ false) × (is_called name ys ≡ false)
uncalled name [] ys h = (refl, h)
uncalled name (x ∷ xs) ys h = by (bytes_eq x name) h (uncalled name xs ys)
  where
    by : (b : Bool) → (b || is_called name (xs ++ ys)) ≡ false →
        (is_called name (xs ++ ys) ≡ false →
        (is_called name xs ≡ false) × (is_called name ys ≡ false)) →
        ((b || is_called name xs) ≡ false) × (is_called name ys ≡ false)
    by true q rest = absurd cc
    by false q rest = rest q

-- a name that isn't called is none of the called ones
none_called : (name : List ℕ) (names : CalledNames) → is_called name names ≡ false →
    AllByRecursion (λ other. bytes_eq name other ≡ false) names
none_called name [] h = tt
none_called name (x ∷ xs) h = by (bytes_eq x name) refl h (none_called name xs)
  where
    by : (b : Bool) → bytes_eq x name ≡ b → (b || is_called name xs) ≡ false →
        (is_called name xs ≡ false → AllByRecursion (λ other. bytes_eq name other ≡ false) xs) →
        AllByRecursion (λ other. bytes_eq name other ≡ false) (x ∷ xs)
    by true q h rest = cc
    by false q h rest = (bytes_swap name x ∙ q, rest h)

-- its tree is that of what its calls run
same : (c : Callees) (own : Own) (s : BoundStmt) → IsDistinct bytes_eq (names_of c.known) →
    formed c s ≡ true → is_called own.name (statement_calls s) ≡ false →
    region_in (record { routines = routines_of c.known; own = Some own }) s ≡ region_seen c s
same c own s d h n =
    let beside = others_decide own (routines_of c.known) in
    alike c (λ names. is_called own.name names ≡ false) (uncalled own.name)
    (seen_in (record { routines = routines_of c.known; own = Some own })) (seen_by c)
    (λ e m p. beside.expressions e (none_called own.name (expr_calls e) m)
    ∙ seen_as_run.expressions c e d p)
    (λ q m p. beside.queries q (none_called own.name (query_calls q) m)
    ∙ seen_as_run.queries c q d p) s h n

pub bodies_formed : BodiesFormed
bodies_formed = record {
  seen = λ c s widths h w.
      stmt-in-form c widths (λ e. Unit {0}) (λ q ts. query_width q widths ≡ length ts)
      (λ q ts n. n) s h w;
  same = same;
  stands = λ c own s widths d h n w.
      let one = same c own s d h n in
      subst (λ t. Formed t widths) (sym one)
      (stmt-in-form c widths (ExprShaped widths) (QueryShaped widths) (λ q ts n. n.1) s h
      (subst (λ t. StmtShaped t widths) one w));
}
