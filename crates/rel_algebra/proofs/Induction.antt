-- Each planned tree is right: one line a construct.
use Rattle.std.proofs.Common.{◌≡◌, ℕ, zero, suc, true, List, [], ◌∷◌, ◌++◌, ◌+◌, length, refl, ◌∙◌}
use Rattle.row_types.specs.Cells.{PlanRow}
use Rattle.row_types.specs.Rows.{Row}
use Rattle.row_types.specs.declared.cell.Cell.{Cell}
use Rattle.row_types.specs.declared.cell.Cell.TheVariants.{Val}
use Rattle.rel_algebra.specs.Emit.{at, below, emit, emit_body, given, passed, plan, read}
use Rattle.rel_algebra.specs.Emit.{Emitted, listed, routine_plan, singly, top}
use Rattle.sql_values.specs.declared.value.SqlType.{SqlType}
use Rattle.rel_algebra.specs.Bodies as body
use Rattle.rel_algebra.specs.BodyChain.{called_body, known_body}
use Rattle.rel_algebra.specs.BodyMeaning.{call as body_call}
use Rattle.rel_algebra.specs.Plain.{stmt_meant}
use Rattle.rel_algebra.specs.Endings.{cell_end, row_at, value_at}
use Rattle.rel_algebra.specs.Plain.{Inputs, Scope, answer, call, columns_in, ev, planned}
use Rattle.rel_algebra.specs.Plain.{planned_routine}
use Rattle.rel_algebra.specs.Plan.{cell_of, collected, den, shown, sight, unit_row}
use Rattle.rel_algebra.specs.Theorem.{Fits, Means, MeansUnder, one_cell, outside, stack, under}
use Rattle.rel_algebra.specs.Theorem.{under_columns, widths}
use Rattle.rel_algebra.specs.Tree.{And, Call, CallSelf, Case, CaseOf, Chain, Coalesce, Column}
use Rattle.rel_algebra.specs.Tree.{Cross, Derived, Exists, Expr, Exprs, From, Returned, Grouped, In}
use Rattle.rel_algebra.specs.Tree.{Inner, LeftOuter, Links, Literal, MoreExprs, MoreLinks, MoreRows}
use Rattle.rel_algebra.specs.Tree.{NoExpr, NoLink, NoRow, Operate, Or, Ordered, Query, Routine}
use Rattle.rel_algebra.specs.Tree.{Rows, Select, Single, Table, Values, Variable, parameters_of}
use Rattle.rel_algebra.specs.Tree.{Stacked}
use Rattle.rel_algebra.specs.Tree.{Function, Perhaps, Without, With, Variables, NoVariable}
use Rattle.rel_algebra.specs.Tree.{MoreVariables, Stmt, Compound, If, SearchedCase, SimpleCase, Set}
use Rattle.rel_algebra.specs.Tree.{SelectInto, Signal, Resignal, GetStatementItems}
use Rattle.rel_algebra.specs.Tree.{GetConditionItems, Leave, Return, Stmts, NoStmt, MoreStmts}
use Rattle.rel_algebra.specs.Tree.{Branches, NoBranch, MoreBranches, Handlers, NoHandler}
use Rattle.rel_algebra.specs.Tree.{MoreHandlers}
use Rattle.rel_algebra.specs.Emit.{branches_body, handlers_body, perhaps_body, stmt_body}
use Rattle.rel_algebra.specs.Emit.{stmts_body, variables_body}
use Rattle.rel_algebra.proofs.Growing.{shown_at, shown_long}
use Rattle.rel_algebra.proofs.Folding.{Folds, exists_right, grouped_folds, in_right, single_right}
use Rattle.rel_algebra.proofs.Lists.{RowsRight, values_means}
use Rattle.rel_algebra.proofs.Nodes.{Reads, Yields, below_reads, outward_reads, passed_reads}
use Rattle.rel_algebra.proofs.Nodes.{singly_yields, wider}
use Rattle.rel_algebra.proofs.Planned.{AllPlan, FromPlans, LinksPlan, Plans, QueryPlans}
use Rattle.rel_algebra.proofs.Planned.{RoutinePlans, RowsPlan, query_plans, routine_plans}
use Rattle.rel_algebra.proofs.Queries.{cross_makes, derived_makes, grouped_means, inner_makes}
use Rattle.rel_algebra.proofs.Queries.{left_outer_makes, ordered_means, select_means, table_makes}
use Rattle.rel_algebra.proofs.Right.{AllRight, BodyRight, LinksRight, Makes, QueryMeans, Right}
use Rattle.rel_algebra.proofs.Right.{and_right, call_right, case_of_right, case_right, chain_right}
use Rattle.rel_algebra.proofs.Right.{coalesce_right, column_right, literal_right, operation_right}
use Rattle.rel_algebra.proofs.Right.{or_right, parameter_right}
use Rattle.rel_algebra.proofs.BodyBase.{equals_itself}
use Rattle.rel_algebra.proofs.Truths.{never}
use Rattle.rel_algebra.proofs.Tests.{list_cells, listed_den}
use Rattle.rel_algebra.proofs.Words.{assigning_cell}
use Rattle.std.proofs.Common.{ap, subst, false, nat_eq, if◌then◌else◌, Ok}
use Rattle.std.specs.List.{list_any}
use Rattle.sql_values.specs.Values.{is_null}
use Rattle.sql_values.specs.declared.value.Value.TheVariants.{Null}
use Rattle.rel_algebra.proofs.BodyHeld.{AllHold, BranchesHold, HandlersHold, Holds, PerhapsHolds}
use Rattle.rel_algebra.proofs.BodyHeld.{VariablesHold}
use Rattle.rel_algebra.proofs.BodyHeld.{QueryRight, RoutineRight, ValueRight}
use Rattle.rel_algebra.proofs.Blocks.{block_right, into_right, known_block_right}
use Rattle.rel_algebra.proofs.Planned.{BranchesPlan, HandlersPlan, PerhapsPlans, StmtPlans}
use Rattle.rel_algebra.proofs.Planned.{StmtsPlan, VariablesPlan}

body_long : (z : List Cell) (vs : Row) (m : ℕ) → length z ≡ m →
    length (z ++ shown vs) ≡ m + length vs
body_long z vs m l = wider z (shown vs) m (length vs) l (shown_long vs)

mutual
  pub expr_right : (x : Expr) → Plans x → Right x
  expr_right (Literal v) p = literal_right v
  expr_right (Column d i) p = column_right d i
  expr_right (Variable i) p = parameter_right i
  expr_right (Chain x links) p = chain_right x links (expr_right x p.0) (links_right links p.1)
  expr_right (Operate op es) p = operation_right op es (exprs_right es p)
  expr_right (And es) p = and_right es (exprs_right es p)
  expr_right (Or es) p = or_right es (exprs_right es p)
  expr_right (Case arms) p = case_right arms (exprs_right arms p)
  expr_right (CaseOf x test result arms) p = case_of_right x test result arms (expr_right x p.0)
      (expr_right test p.1) (expr_right result p.2)
      (exprs_right arms p.3)
  expr_right (Coalesce es) p = coalesce_right es (exprs_right es p)
  expr_right (In x q) p = in_right x q (expr_right x p.0) (query_means q p.1) (query_folds q p.1)
  expr_right (Exists q) p = exists_right q (query_means q p) (query_folds q p)
  expr_right (Single q) p = single_right q (query_means q p) (query_folds q p)
  expr_right (Call name r es) p =
      call_right name r es (body_right r p.0) (exprs_right es p.1) p.2
  expr_right (CallSelf types es) p = absurd p

  pub links_right : (links : Links) → LinksPlan links → LinksRight links
  links_right NoLink p = tt
  links_right (MoreLinks operator x links) p = (expr_right x p.0, links_right links p.1)

  pub exprs_right : (es : Exprs) → AllPlan es → AllRight es
  exprs_right NoExpr p = tt
  exprs_right (MoreExprs x es) p = (expr_right x p.0, exprs_right es p.1)

  pub body_right : (r : Routine) → RoutinePlans r → BodyRight r
  body_right (Returned types returns x) p = λ w fits o vs m z l c. λ y g.
      let f : Scope = record { rows = []; params = vs } in let e = passed m (length vs) in
      let n = m + length vs in
      assigning_cell returns (emit x (columns_in w) e n).scalar (sight w o y) (ev x w f)
      (expr_right x p w fits o f e n (z ++ shown vs) (body_long z vs m l)
      (passed_reads w o m z vs l) y g)
  body_right (Function false types returns false statement) p = λ w fits o vs m z l c.
      block_right types returns statement w (stmt_right statement p w fits) o vs
      (passed m (length vs)) (m + length vs) (z ++ shown vs) (body_long z vs m l) c
      (passed_reads w o m z vs l)
  body_right (Function false types returns true statement) p = λ w fits o vs m z l c.
      known_block_right types returns statement w (stmt_right statement p w fits) o vs
      (passed m (length vs)) (m + length vs) (z ++ shown vs) (body_long z vs m l) c
      (passed_reads w o m z vs l)
  body_right _ p = absurd p

  pub perhaps_right : (text : Perhaps) → PerhapsPlans text → (w : Inputs) → Fits w →
      PerhapsHolds (perhaps_body text) (ValueRight w)
  perhaps_right Without p w fits = tt
  perhaps_right (With x) p w fits = expr_right x p w fits

  pub variables_right : (vs : Variables) → VariablesPlan vs → (w : Inputs) → Fits w →
      VariablesHold (variables_body vs) (ValueRight w)
  variables_right NoVariable p w fits = tt
  variables_right (MoreVariables k t default others) p w fits =
      (perhaps_right default p.0 w fits, variables_right others p.1 w fits)

  pub stmt_right : (s : Stmt) → StmtPlans s → (w : Inputs) → Fits w →
      Holds (stmt_body s) (ValueRight w) (QueryRight w)
  stmt_right (Compound atomic variables zero handlers statements) p w fits = (
    variables_right variables p.0 w fits,
    handlers_right handlers p.1 w fits,
    stmts_right statements p.2 w fits,
  )
  stmt_right (If branches otherwise) p w fits =
      (branches_right branches p.0 w fits, stmts_right otherwise p.1 w fits)
  stmt_right (SearchedCase branches otherwise) p w fits =
      (branches_right branches p.0 w fits, stmts_right otherwise p.1 w fits)
  stmt_right (SimpleCase x branches otherwise) p w fits = (
    expr_right x p.0 w fits,
    branches_right branches p.1 w fits,
    stmts_right otherwise p.2 w fits,
  )
  stmt_right (Set t x) p w fits = expr_right x p w fits
  stmt_right (SelectInto q targets) p w fits =
      into_right q targets w fits p.0 p.1 (query_means q p.0) (query_folds q p.0)
  stmt_right (Signal state text) p w fits = perhaps_right text p w fits
  stmt_right (Resignal state text) p w fits = perhaps_right text p w fits
  stmt_right (GetStatementItems Stacked reads) p w fits = tt
  stmt_right (GetConditionItems Stacked number reads) p w fits = expr_right number p w fits
  stmt_right (Leave outwards) p w fits = tt
  stmt_right (Return x) p w fits = expr_right x p w fits
  stmt_right _ p w fits = absurd p

  pub stmts_right : (ss : Stmts) → StmtsPlan ss → (w : Inputs) → Fits w →
      AllHold (stmts_body ss) (ValueRight w) (QueryRight w)
  stmts_right NoStmt p w fits = tt
  stmts_right (MoreStmts s ss) p w fits = (stmt_right s p.0 w fits, stmts_right ss p.1 w fits)

  pub branches_right : (bs : Branches) → BranchesPlan bs → (w : Inputs) → Fits w →
      BranchesHold (branches_body bs) (ValueRight w) (QueryRight w)
  branches_right NoBranch p w fits = tt
  branches_right (MoreBranches test statements others) p w fits = (
    expr_right test p.0 w fits,
    stmts_right statements p.1 w fits,
    branches_right others p.2 w fits,
  )

  pub handlers_right : (hs : Handlers) → HandlersPlan hs → (w : Inputs) → Fits w →
      HandlersHold (handlers_body hs) (ValueRight w) (QueryRight w)
  handlers_right NoHandler p w fits = tt
  handlers_right (MoreHandlers kind takes action others) p w fits =
      (stmt_right action p.0 w fits, handlers_right others p.1 w fits)

  pub query_means : (q : Query) → QueryPlans q → QueryMeans q
  query_means (Select items x tests) p = select_means x tests items p.1 (from_makes x p.1)
      (exprs_right tests p.2) (exprs_right items p.0)
  query_means (Grouped x tests k items ags having list) p =
      grouped_means x tests k items ags having list p.0 (from_makes x p.0) (exprs_right tests p.1)
      (exprs_right items p.2) (exprs_right having p.3)
      (exprs_right list p.4)
  query_means (Values rows) p = values_means rows p.0 (rows_right rows p.1)
  query_means (Ordered q keys) p = ordered_means q keys (query_means q p)

  pub rows_right : (rows : Rows) → RowsPlan rows → RowsRight rows
  rows_right NoRow p = tt
  rows_right (MoreRows es rows) p = (exprs_right es p.0, rows_right rows p.1)

  pub query_folds : (q : Query) → QueryPlans q → Folds q
  query_folds (Grouped x tests zero items (a ∷ ags) NoExpr list) p =
      grouped_folds x tests items a ags list p.0 (from_makes x p.0) (exprs_right tests p.1)
      (exprs_right items p.2) (exprs_right list p.4)
  query_folds _ p = λ w fits o f e z n l r. tt

  pub from_makes : (x : From) → FromPlans x → Makes x
  from_makes (Table t) p = table_makes t
  from_makes (Derived q) p = derived_makes q (query_means q p)
  from_makes (Cross a b) p = cross_makes a b p.0 p.1 (from_makes a p.0) (from_makes b p.1)
  from_makes (Inner a b on) p =
      inner_makes a b on p.0 p.1 (from_makes a p.0) (from_makes b p.1) (exprs_right on p.2)
  from_makes (LeftOuter a b on) p =
      left_outer_makes a b on p.0 p.1 (from_makes a p.0) (from_makes b p.1) (exprs_right on p.2)

args_read : (w : Inputs) (o : List (List Cell)) (i : ℕ) →
    cell_of (read (below (length w.args) i (given i))) (outside w o) ≡ Val (value_at w.args i)
args_read w o i = below_reads w.args i (given i) (outside w o) (λ h. refl)

pub means : Means
means q w o f e p fits agrees = query_means q (query_plans q p) w fits o f e agrees

-- a whole query
pub whole_means : (q : Query) (w : Inputs) → planned q ≡ true → Fits w →
    collected (den (plan q (columns_in w) (top (length w.args))) w [])
    ≡ answer q w (record { rows = []; params = w.args })
whole_means q w p fits = query_means q (query_plans q p) w fits []
    (record { rows = []; params = w.args }) (top (length w.args))
    (λ d i. refl, args_read w [])

under_reads : (w : Inputs) (rows : List Row) (d i : ℕ) →
    cell_of (read (under_columns (widths rows) d i)) (outside w (stack rows))
    ≡ Val (value_at (row_at rows d) i)
under_reads w [] d i = refl
under_reads w (r ∷ rs) zero i =
    below_reads r i (at 0 i) (outside w (stack (r ∷ rs))) (λ h. shown_at r i)
under_reads w (r ∷ rs) (suc d) i =
    outward_reads (under_columns (widths rs) d i) w (stack rs) (shown r) ∙ under_reads w rs d i

pub means_under : MeansUnder
means_under q w rows p fits =
    query_means q (query_plans q p) w fits (stack rows) (record { rows = rows; params = w.args })
    (under (widths rows) (length w.args))
    (under_reads w rows, args_read w (stack rows))

-- a function by itself gives one row of what its emission yields
one_row_cells : (b : Emitted) (w : Inputs) (end : Cell) → Yields b w [] [] end →
    den (listed (singly b) 0 unit_row) w [] ≡ one_cell end
one_row_cells b w end y =
    let a = singly b in
    listed_den a 0 unit_row w []
    ∙ ap (λ (rs : List PlanRow). rs ++ [])
    (list_cells a 0 w [] [] (end ∷ []) refl (singly_yields b w [] [] end y))

-- its parameters are the arguments
args_are : (w : Inputs) →
    Reads (top (length w.args)) w [] (record { rows = []; params = w.args }) []
args_are w = λ z h. (λ d i. refl, λ i. args_read w (z ∷ []) i)

as_long : (vs : Row) (n : ℕ) → length vs ≡ n → nat_eq (length vs) n ≡ true
as_long vs n l = subst (λ (k : ℕ). nat_eq (length vs) k ≡ true) l (equals_itself (length vs))

-- a block by itself
block_cells : (types : List SqlType) (returns : SqlType) (s : Stmt) (w : Inputs) →
    length w.args ≡ length types → RoutineRight w (body.Body types returns (stmt_body s)) →
    den (listed (singly (called_body (body.Body types returns (stmt_body s)) (columns_in w)
    (top (length types)) 0)) 0 unit_row) w []
    ≡ one_cell (cell_end (body_call (body.Body types returns (stmt_meant s)) w.args w))
block_cells types returns s w l right =
    let r = body.Body types returns (stmt_body s) in
    let end = cell_end (body_call (body.Body types returns (stmt_meant s)) w.args w) in
    one_row_cells (called_body r (columns_in w) (top (length types)) 0) w end
    (subst (λ (k : ℕ). Yields (called_body r (columns_in w) (top k) 0) w [] [] end) l
    (block_right types returns s w right [] w.args (top (length w.args)) 0 [] refl
    (as_long w.args (length types) l) (args_are w)))

-- the same of one that returns NULL on NULL input
known_block_cells : (types : List SqlType) (returns : SqlType) (s : Stmt) (w : Inputs) →
    length w.args ≡ length types → RoutineRight w (body.Body types returns (stmt_body s)) →
    den (listed (singly (known_body (body.Body types returns (stmt_body s)) (columns_in w)
    (top (length types)) 0)) 0 unit_row) w []
    ≡ one_cell (cell_end (if list_any is_null w.args then Ok Null
    else body_call (body.Body types returns (stmt_meant s)) w.args w))
known_block_cells types returns s w l right =
    let r = body.Body types returns (stmt_body s) in
    let end = cell_end (if list_any is_null w.args then Ok Null
    else body_call (body.Body types returns (stmt_meant s)) w.args w) in
    one_row_cells (known_body r (columns_in w) (top (length types)) 0) w end
    (subst (λ (k : ℕ). Yields (known_body r (columns_in w) (top k) 0) w [] [] end) l
    (known_block_right types returns s w right [] w.args (top (length w.args)) 0 [] refl
    (as_long w.args (length types) l) (args_are w)))

-- a function by itself
pub routine_cells : (r : Routine) (w : Inputs) → planned_routine r ≡ true →
    length w.args ≡ length (parameters_of r) → Fits w →
    den (routine_plan r (columns_in w)) w [] ≡ one_cell (cell_end (call r w.args w))
routine_cells (Returned types returns x) w p l fits =
    let r = Returned types returns x in let f : Scope = record { rows = []; params = w.args } in
    let b = emit_body r (columns_in w) (top (length types)) 0 in let a = singly b in
    listed_den a 0 unit_row w []
    ∙ ap (λ (rs : List PlanRow). rs ++ [])
    (list_cells a 0 w [] [] (cell_end (call r w.args w) ∷ []) refl
    (singly_yields b w [] [] (cell_end (call r w.args w))
    (λ y g. assigning_cell returns (emit x (columns_in w) (top (length types)) 0).scalar
    (sight w [] y) (ev x w f)
    (subst (λ (k : ℕ). Yields (emit x (columns_in w) (top k) 0) w [] [] (cell_end (ev x w f))) l
    (expr_right x (routine_plans r p) w fits [] f (top (length w.args)) 0 [] refl
    (λ z h. (λ d i. refl, λ i. args_read w (z ∷ []) i))) y g))))
routine_cells (Function false types returns false statement) w p l fits =
    let r = Function false types returns false statement in
    block_cells types returns statement w l
    (stmt_right statement (routine_plans r p) w fits)
routine_cells (Function false types returns true statement) w p l fits =
    known_block_cells types returns statement w l
    (stmt_right statement (routine_plans (Function false types returns true statement) p) w fits)
routine_cells _ w p l fits = never p
