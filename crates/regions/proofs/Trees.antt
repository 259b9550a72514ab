-- The leaves of trees over expressions and queries are right, can be removed, and fit.
use Rattle.std.proofs.Common.{◌≡◌, ℕ, true, false, nat_eq, ◌∷◌, List, length, ap, ◌∙◌}
use Rattle.rel_algebra.specs.Joins.{query_width}
use Rattle.rel_algebra.specs.Plain.{Inputs, columns_in, fills}
use Rattle.rel_algebra.specs.Theorem.{Fits}
use Rattle.rel_algebra.specs.Tree.{Expr, Query}
use Rattle.rel_algebra.proofs.BodyBase.{equals_itself}
use Rattle.rel_algebra.proofs.Laws.{expr_fits, expr_ok, expr_right, fold_fits, fold_ok, into_fits}
use Rattle.rel_algebra.proofs.Laws.{into_ok, into_right, plans, query_fits, query_folds}
use Rattle.rel_algebra.proofs.Laws.{query_means, query_ok, query_plans, width_alike}
use Rattle.rel_algebra.specs.Leaves.{QueryLeaf, ValueLeaf, Widths}
use Rattle.regions.specs.Theorem.{AllEach, BranchesEach, Each, ExprPlanned, ExprShaped, ExprSimple}
use Rattle.regions.specs.Theorem.{HandlersEach, HasTarget, PerhapsEach, QueryPlanned}
use Rattle.regions.specs.Theorem.{QueryShaped, QuerySimple}
use Rattle.regions.specs.Theorem.{RoutineFormed, RoutineShaped, RoutineSimple, VariablesEach}
use Rattle.regions.specs.Tree.{Target, Perhaps, Without, With, Variables, NoVariable, MoreVariables}
use Rattle.regions.specs.Tree.{Stmt, Compound, If, SearchedCase, SimpleCase, Set, SelectInto}
use Rattle.regions.specs.Tree.{Signal, Resignal, GetStatementItems, GetConditionItems, Leave}
use Rattle.regions.specs.Tree.{Return, Stmts, NoStmt, MoreStmts, Branches, NoBranch, MoreBranches}
use Rattle.regions.specs.Tree.{Handlers, NoHandler, MoreHandlers, Routine, Body}
use Rattle.regions.specs.TreeBodies.{branches_body, handlers_body, perhaps_body, query_leaf}
use Rattle.regions.specs.TreeBodies.{routine_body, stmt_body, stmts_body, value_leaf}
use Rattle.regions.specs.TreeBodies.{branches_of, handlers_of, stmt_of, stmts_of, variables_body}
use Rattle.rel_algebra.proofs.BlockWorlds as whole
use Rattle.rel_algebra.proofs.BodyHeld.{AllHold, BranchesHold, HandlersHold, Holds}
use Rattle.rel_algebra.proofs.BodyHeld.{PerhapsHolds, QueryFits, QueryRemovable, QueryRight}
use Rattle.rel_algebra.proofs.BodyHeld.{RoutineFits, RoutineRemovable, RoutineRight, ValueFits}
use Rattle.rel_algebra.proofs.BodyHeld.{ValueRemovable, ValueRight, VariablesHold}

-- ---- each leaf

-- a query of as many columns as targets, of which there is one, fills them
pub filling : (q : Query) (targets : List Target) (S : Widths) →
    query_width q S ≡ length targets → HasTarget targets → fills q targets ≡ true
filling q (t ∷ targets) S w h =
    let n = length (t ∷ targets) in
    ap (λ (k : ℕ). nat_eq k n) (width_alike q (λ name. 0) S ∙ w) ∙ equals_itself n
filling q _ S w h = absurd h

value_right : (w : Inputs) → Fits w → (e : Expr) → ExprPlanned e → ValueRight w (value_leaf e)
value_right w fits e h = λ o f env n q l r. expr_right e (plans e h) w fits o f env n q l r

query_right : (w : Inputs) → Fits w → (q : Query) (ts : List Target) → QueryPlanned (columns_in w)
    q ts → QueryRight w (query_leaf q) ts
query_right w fits q ts h = let p = query_plans q h.0 in
    into_right q ts w fits p (filling q ts (columns_in w) h.1 h.2) (query_means q p)
    (query_folds q p)

value_removable : (S : Widths) (e : Expr) → ExprSimple S e → ValueRemovable S (value_leaf e)
value_removable S e h = λ env n g. expr_ok e S false env n h g

query_removable : (S : Widths) (q : Query) (ts : List Target) → QuerySimple S q ts →
    QueryRemovable S (query_leaf q) ts
query_removable S q ts h = into_ok q ts S h.1 h.0 (query_ok q) (fold_ok q)

value_fits : (S : Widths) (e : Expr) → ExprShaped S e → ValueFits S (value_leaf e)
value_fits S e h = λ outer args env n p. expr_fits e S env n outer args h p

query_fit : (S : Widths) (q : Query) (ts : List Target) → QueryShaped S q ts →
    QueryFits S (query_leaf q) ts
query_fit S q ts h = into_fits q ts S h.1 h.0 (query_fits q) (fold_fits q)

-- ---- what holds of each expression and query of a tree, holds of each leaf of its body

perhaps_held : (text : Perhaps) (P : Expr → Type 0) (L : ValueLeaf → Type 0) →
    ((e : Expr) → P e → L (value_leaf e)) → PerhapsEach text P → PerhapsHolds (perhaps_body text) L
perhaps_held Without P L p h = tt
perhaps_held (With e) P L p h = p e h

variables_held : (vs : Variables) (P : Expr → Type 0) (L : ValueLeaf → Type 0) →
    ((e : Expr) → P e → L (value_leaf e)) → VariablesEach vs P → VariablesHold (variables_body vs) L
variables_held NoVariable P L p h = tt
variables_held (MoreVariables k t default others) P L p h =
    (perhaps_held default P L p h.0, variables_held others P L p h.1)

mutual
  held : (s : Stmt) (P : Expr → Type 0) (L : ValueLeaf → Type 0)
      (Q : Query → List Target → Type 0) (M : QueryLeaf → List Target → Type 0) →
      ((e : Expr) → P e → L (value_leaf e)) →
      ((q : Query) (ts : List Target) → Q q ts → M (query_leaf q) ts) →
      Each s P Q → Holds (stmt_body s) L M
  held (Compound atomic variables handlers statements) P L Q M p q h = (
    variables_held variables P L p h.0,
    handlers_held handlers P L Q M p q h.1,
    all_held statements P L Q M p q h.2,
  )
  held (If branches otherwise) P L Q M p q h =
      (branches_held branches P L Q M p q h.0, all_held otherwise P L Q M p q h.1)
  held (SearchedCase branches otherwise) P L Q M p q h =
      (branches_held branches P L Q M p q h.0, all_held otherwise P L Q M p q h.1)
  held (SimpleCase e branches otherwise) P L Q M p q h = (
    p e h.0,
    branches_held branches P L Q M p q h.1,
    all_held otherwise P L Q M p q h.2,
  )
  held (Set t e) P L Q M p q h = p e h
  held (SelectInto query targets) P L Q M p q h = q query targets h
  held (Signal state text) P L Q M p q h = perhaps_held text P L p h
  held (Resignal state text) P L Q M p q h = perhaps_held text P L p h
  held (GetStatementItems reads) P L Q M p q h = tt
  held (GetConditionItems number reads) P L Q M p q h = p number h
  held (Leave outwards) P L Q M p q h = tt
  held (Return e) P L Q M p q h = p e h

  all_held : (ss : Stmts) (P : Expr → Type 0) (L : ValueLeaf → Type 0)
      (Q : Query → List Target → Type 0) (M : QueryLeaf → List Target → Type 0) →
      ((e : Expr) → P e → L (value_leaf e)) →
      ((q : Query) (ts : List Target) → Q q ts → M (query_leaf q) ts) →
      AllEach ss P Q → AllHold (stmts_body ss) L M
  all_held NoStmt P L Q M p q h = tt
  all_held (MoreStmts s ss) P L Q M p q h =
      (held s P L Q M p q h.0, all_held ss P L Q M p q h.1)

  branches_held : (bs : Branches) (P : Expr → Type 0) (L : ValueLeaf → Type 0)
      (Q : Query → List Target → Type 0) (M : QueryLeaf → List Target → Type 0) →
      ((e : Expr) → P e → L (value_leaf e)) →
      ((q : Query) (ts : List Target) → Q q ts → M (query_leaf q) ts) →
      BranchesEach bs P Q → BranchesHold (branches_body bs) L M
  branches_held NoBranch P L Q M p q h = tt
  branches_held (MoreBranches test statements others) P L Q M p q h = (
    p test h.0,
    all_held statements P L Q M p q h.1,
    branches_held others P L Q M p q h.2,
  )

  handlers_held : (hs : Handlers) (P : Expr → Type 0) (L : ValueLeaf → Type 0)
      (Q : Query → List Target → Type 0) (M : QueryLeaf → List Target → Type 0) →
      ((e : Expr) → P e → L (value_leaf e)) →
      ((q : Query) (ts : List Target) → Q q ts → M (query_leaf q) ts) →
      HandlersEach hs P Q → HandlersHold (handlers_body hs) L M
  handlers_held NoHandler P L Q M p q h = tt
  handlers_held (MoreHandlers kind takes action others) P L Q M p q h =
      (held action P L Q M p q h.0, handlers_held others P L Q M p q h.1)

-- ---- what follows of each expression and query, among all statements

each_perhaps : (text : Perhaps) (P P' : Expr → Type 0) → ((e : Expr) → P e → P' e) →
    PerhapsEach text P → whole.PerhapsEach text P'
each_perhaps Without P P' p h = tt
each_perhaps (With e) P P' p h = p e h

each_variables : (vs : Variables) (P P' : Expr → Type 0) → ((e : Expr) → P e → P' e) →
    VariablesEach vs P → whole.VariablesEach vs P'
each_variables NoVariable P P' p h = tt
each_variables (MoreVariables k t default others) P P' p h =
    (each_perhaps default P P' p h.0, each_variables others P P' p h.1)

mutual
  pub each : (s : Stmt) (P P' : Expr → Type 0) (Q Q' : Query → List Target → Type 0) →
      ((e : Expr) → P e → P' e) → ((q : Query) (ts : List Target) → Q q ts → Q' q ts) →
      Each s P Q → whole.Each (stmt_of s) P' Q'
  each (Compound atomic variables handlers statements) P P' Q Q' p q h = (
    each_variables variables P P' p h.0,
    each_handlers handlers P P' Q Q' p q h.1,
    each_all statements P P' Q Q' p q h.2,
  )
  each (If branches otherwise) P P' Q Q' p q h =
      (each_branches branches P P' Q Q' p q h.0, each_all otherwise P P' Q Q' p q h.1)
  each (SearchedCase branches otherwise) P P' Q Q' p q h =
      (each_branches branches P P' Q Q' p q h.0, each_all otherwise P P' Q Q' p q h.1)
  each (SimpleCase e branches otherwise) P P' Q Q' p q h = (
    p e h.0,
    each_branches branches P P' Q Q' p q h.1,
    each_all otherwise P P' Q Q' p q h.2,
  )
  each (Set t e) P P' Q Q' p q h = p e h
  each (SelectInto query targets) P P' Q Q' p q h = q query targets h
  each (Signal state text) P P' Q Q' p q h = each_perhaps text P P' p h
  each (Resignal state text) P P' Q Q' p q h = each_perhaps text P P' p h
  each (GetStatementItems reads) P P' Q Q' p q h = tt
  each (GetConditionItems number reads) P P' Q Q' p q h = p number h
  each (Leave outwards) P P' Q Q' p q h = tt
  each (Return e) P P' Q Q' p q h = p e h

  each_all : (ss : Stmts) (P P' : Expr → Type 0) (Q Q' : Query → List Target → Type 0) →
      ((e : Expr) → P e → P' e) → ((q : Query) (ts : List Target) → Q q ts → Q' q ts) →
      AllEach ss P Q → whole.AllEach (stmts_of ss) P' Q'
  each_all NoStmt P P' Q Q' p q h = tt
  each_all (MoreStmts s ss) P P' Q Q' p q h =
      (each s P P' Q Q' p q h.0, each_all ss P P' Q Q' p q h.1)

  each_branches : (bs : Branches) (P P' : Expr → Type 0) (Q Q' : Query → List Target → Type 0) →
      ((e : Expr) → P e → P' e) → ((q : Query) (ts : List Target) → Q q ts → Q' q ts) →
      BranchesEach bs P Q → whole.BranchesEach (branches_of bs) P' Q'
  each_branches NoBranch P P' Q Q' p q h = tt
  each_branches (MoreBranches test statements others) P P' Q Q' p q h = (
    p test h.0,
    each_all statements P P' Q Q' p q h.1,
    each_branches others P P' Q Q' p q h.2,
  )

  each_handlers : (hs : Handlers) (P P' : Expr → Type 0) (Q Q' : Query → List Target → Type 0) →
      ((e : Expr) → P e → P' e) → ((q : Query) (ts : List Target) → Q q ts → Q' q ts) →
      HandlersEach hs P Q → whole.HandlersEach (handlers_of hs) P' Q'
  each_handlers NoHandler P P' Q Q' p q h = tt
  each_handlers (MoreHandlers kind takes action others) P P' Q Q' p q h =
      (each action P P' Q Q' p q h.0, each_handlers others P P' Q Q' p q h.1)

-- ---- of functions

pub routine_right : (r : Routine) (w : Inputs) → Fits w → RoutineFormed r (columns_in w) →
    RoutineRight w (routine_body r)
routine_right (Body types returns s) w fits h = held s ExprPlanned (ValueRight w)
    (QueryPlanned (columns_in w)) (QueryRight w) (value_right w fits) (query_right w fits) h

pub routine_removable : (r : Routine) (S : Widths) → RoutineSimple r S →
    RoutineRemovable S (routine_body r)
routine_removable (Body types returns s) S h = held s (ExprSimple S) (ValueRemovable S)
    (QuerySimple S) (QueryRemovable S) (value_removable S) (query_removable S) h

pub routine_fits : (r : Routine) (S : Widths) → RoutineShaped r S → RoutineFits S (routine_body r)
routine_fits (Body types returns s) S h = held s (ExprShaped S) (ValueFits S) (QueryShaped S)
    (QueryFits S) (value_fits S) (query_fit S) h
