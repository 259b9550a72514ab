-- Planned trees, part by part.
use Rattle.std.proofs.Common.{◌≡◌, Bool, true, false, zero}
use Rattle.rel_algebra.specs.Joins.{rows_width}
use Rattle.rel_algebra.specs.Plain.{all_even, planned, planned_all, planned_expr, planned_from}
use Rattle.rel_algebra.specs.Plain.{planned_links, planned_routine, planned_rows, as_many, fills}
use Rattle.rel_algebra.specs.Plain.{planned_branches, planned_handlers, planned_perhaps}
use Rattle.rel_algebra.specs.Plain.{planned_stmt, planned_stmts, planned_variables}
use Rattle.rel_algebra.specs.Tree.{And, Call, CallSelf, Case, CaseOf, Chain, Coalesce, Column}
use Rattle.rel_algebra.specs.Tree.{Cross, Derived, Exists, Expr, Exprs, From, Returned, Grouped, In}
use Rattle.rel_algebra.specs.Tree.{Inner, LeftOuter, Links, Literal, MoreExprs, MoreLinks, MoreRows}
use Rattle.rel_algebra.specs.Tree.{NoExpr, NoLink, NoRow, Operate, Or, Ordered, Query, Routine}
use Rattle.rel_algebra.specs.Tree.{Rows, Select, Single, Table, Values, Variable, Stacked, count}
use Rattle.rel_algebra.specs.Tree.{Function, Perhaps, Without, With, Variables, NoVariable}
use Rattle.rel_algebra.specs.Tree.{MoreVariables, Stmt, Compound, If, SearchedCase, SimpleCase, Set}
use Rattle.rel_algebra.specs.Tree.{SelectInto, Signal, Resignal, GetStatementItems}
use Rattle.rel_algebra.specs.Tree.{GetConditionItems, Leave, Return, Stmts, NoStmt, MoreStmts}
use Rattle.rel_algebra.specs.Tree.{Branches, NoBranch, MoreBranches, Handlers, NoHandler}
use Rattle.rel_algebra.specs.Tree.{MoreHandlers}
use Rattle.rel_algebra.proofs.Truths.{left_true, never, right_true}
use Rattle.std.proofs.Common.{◌&&◌}

abbrev mutual
  pub Plans : Expr → Type 0
  Plans (Literal v) = Unit {0}
  Plans (Column level i) = Unit {0}
  Plans (Variable i) = Unit {0}
  Plans (Chain x links) = Plans x × LinksPlan links
  Plans (Operate op es) = AllPlan es
  Plans (And es) = AllPlan es
  Plans (Or es) = AllPlan es
  Plans (Case arms) = AllPlan arms
  Plans (CaseOf x test result arms) = Plans x × Plans test × Plans result × AllPlan arms
  Plans (Coalesce es) = AllPlan es
  Plans (In x q) = Plans x × QueryPlans q
  Plans (Exists q) = QueryPlans q
  Plans (Single q) = QueryPlans q
  Plans (Call name r es) = RoutinePlans r × AllPlan es × (as_many r (count es) ≡ true)
  Plans (CallSelf types es) = ⊥

  pub LinksPlan : Links → Type 0
  LinksPlan NoLink = Unit {0}
  LinksPlan (MoreLinks operator x links) = Plans x × LinksPlan links

  pub AllPlan : Exprs → Type 0
  AllPlan NoExpr = Unit {0}
  AllPlan (MoreExprs x es) = Plans x × AllPlan es

  pub RoutinePlans : Routine → Type 0
  RoutinePlans (Returned types returns x) = Plans x
  RoutinePlans (Function false types returns null_call statement) = StmtPlans statement
  RoutinePlans _ = ⊥

  pub PerhapsPlans : Perhaps → Type 0
  PerhapsPlans Without = Unit {0}
  PerhapsPlans (With x) = Plans x

  pub VariablesPlan : Variables → Type 0
  VariablesPlan NoVariable = Unit {0}
  VariablesPlan (MoreVariables k t default others) = PerhapsPlans default × VariablesPlan others

  pub StmtPlans : Stmt → Type 0
  StmtPlans (Compound atomic variables zero handlers statements) =
      VariablesPlan variables × HandlersPlan handlers × StmtsPlan statements
  StmtPlans (If branches otherwise) = BranchesPlan branches × StmtsPlan otherwise
  StmtPlans (SearchedCase branches otherwise) = BranchesPlan branches × StmtsPlan otherwise
  StmtPlans (SimpleCase x branches otherwise) =
      Plans x × BranchesPlan branches × StmtsPlan otherwise
  StmtPlans (Set t x) = Plans x
  StmtPlans (SelectInto q targets) = QueryPlans q × (fills q targets ≡ true)
  StmtPlans (Signal state text) = PerhapsPlans text
  StmtPlans (Resignal state text) = PerhapsPlans text
  StmtPlans (GetStatementItems Stacked reads) = Unit {0}
  StmtPlans (GetConditionItems Stacked number reads) = Plans number
  StmtPlans (Leave outwards) = Unit {0}
  StmtPlans (Return x) = Plans x
  StmtPlans _ = ⊥

  pub StmtsPlan : Stmts → Type 0
  StmtsPlan NoStmt = Unit {0}
  StmtsPlan (MoreStmts s ss) = StmtPlans s × StmtsPlan ss

  pub BranchesPlan : Branches → Type 0
  BranchesPlan NoBranch = Unit {0}
  BranchesPlan (MoreBranches test statements others) =
      Plans test × StmtsPlan statements × BranchesPlan others

  pub HandlersPlan : Handlers → Type 0
  HandlersPlan NoHandler = Unit {0}
  HandlersPlan (MoreHandlers kind takes action others) = StmtPlans action × HandlersPlan others

  pub RowsPlan : Rows → Type 0
  RowsPlan NoRow = Unit {0}
  RowsPlan (MoreRows es rows) = AllPlan es × RowsPlan rows

  pub FromPlans : From → Type 0
  FromPlans (Table t) = Unit {0}
  FromPlans (Derived q) = QueryPlans q
  FromPlans (Cross a b) = FromPlans a × FromPlans b
  FromPlans (Inner a b on) = FromPlans a × FromPlans b × AllPlan on
  FromPlans (LeftOuter a b on) = FromPlans a × FromPlans b × AllPlan on

  pub QueryPlans : Query → Type 0
  QueryPlans (Select items from tests) = AllPlan items × FromPlans from × AllPlan tests
  QueryPlans (Grouped from tests k items ags having list) =
      FromPlans from × AllPlan tests × AllPlan items × AllPlan having × AllPlan list
  QueryPlans (Values rows) = (all_even (rows_width rows) rows ≡ true) × RowsPlan rows
  QueryPlans (Ordered q keys) = QueryPlans q

two : {A B : Type 0} (a b : Bool) → (a ≡ true → A) → (b ≡ true → B) → (a && b) ≡ true → A × B
two a b f g p = (f (left_true a b p), g (right_true a b p))

three : {A B C : Type 0} (a b c : Bool) → (a ≡ true → A) → (b ≡ true → B) → (c ≡ true → C) →
    (a && (b && c)) ≡ true → A × B × C
three a b c f g h p = let rest = two b c g h (right_true a (b && c) p) in
    (f (left_true a (b && c) p), rest.0, rest.1)

four : {A B C D : Type 0} (a b c d : Bool) → (a ≡ true → A) → (b ≡ true → B) → (c ≡ true → C) →
    (d ≡ true → D) → (a && (b && (c && d))) ≡ true →
    A × B × C × D
four a b c d f g h i p = let rest = three b c d g h i (right_true a (b && (c && d)) p) in
    (f (left_true a (b && (c && d)) p), rest.0, rest.1, rest.2)

five : {A B C D E : Type 0} (a b c d e : Bool) → (a ≡ true → A) → (b ≡ true → B) → (c ≡ true → C) →
    (d ≡ true → D) → (e ≡ true → E) →
    (a && (b && (c && (d && e)))) ≡ true → A × B × C × D × E
five a b c d e f g h i j p =
    let rest = four b c d e g h i j (right_true a (b && (c && (d && e))) p) in
    (f (left_true a (b && (c && (d && e))) p), rest.0, rest.1, rest.2, rest.3)

mutual
  pub plans : (x : Expr) → planned_expr x ≡ true → Plans x
  plans (Literal v) = λ p. tt
  plans (Column level i) = λ p. tt
  plans (Variable i) = λ p. tt
  plans (Chain x links) = two (planned_expr x) (planned_links links) (plans x) (links_plan links)
  plans (Operate op es) = all_plan es
  plans (And es) = all_plan es
  plans (Or es) = all_plan es
  plans (Case arms) = all_plan arms
  plans (CaseOf x test result arms) =
      four (planned_expr x) (planned_expr test) (planned_expr result) (planned_all arms) (plans x)
      (plans test) (plans result) (all_plan arms)
  plans (Coalesce es) = all_plan es
  plans (In x q) = two (planned_expr x) (planned q) (plans x) (query_plans q)
  plans (Exists q) = query_plans q
  plans (Single q) = query_plans q
  plans (Call name r es) = three (planned_routine r) (planned_all es) (as_many r (count es))
      (routine_plans r) (all_plan es) (λ p. p)
  plans (CallSelf types es) = λ p. never p

  pub links_plan : (links : Links) → planned_links links ≡ true → LinksPlan links
  links_plan NoLink = λ p. tt
  links_plan (MoreLinks operator x links) =
      two (planned_expr x) (planned_links links) (plans x) (links_plan links)

  pub all_plan : (es : Exprs) → planned_all es ≡ true → AllPlan es
  all_plan NoExpr = λ p. tt
  all_plan (MoreExprs x es) = two (planned_expr x) (planned_all es) (plans x) (all_plan es)

  pub routine_plans : (r : Routine) → planned_routine r ≡ true → RoutinePlans r
  routine_plans (Returned types returns x) = plans x
  routine_plans (Function false types returns null_call statement) = stmt_plans statement
  routine_plans _ = λ p. never p

  pub perhaps_plans : (text : Perhaps) → planned_perhaps text ≡ true → PerhapsPlans text
  perhaps_plans Without = λ p. tt
  perhaps_plans (With x) = plans x

  pub variables_plan : (vs : Variables) → planned_variables vs ≡ true → VariablesPlan vs
  variables_plan NoVariable = λ p. tt
  variables_plan (MoreVariables k t default others) = two (planned_perhaps default)
      (planned_variables others) (perhaps_plans default) (variables_plan others)

  pub stmt_plans : (s : Stmt) → planned_stmt s ≡ true → StmtPlans s
  stmt_plans (Compound atomic variables zero handlers statements) =
      three (planned_variables variables) (planned_handlers handlers) (planned_stmts statements)
      (variables_plan variables) (handlers_plan handlers) (stmts_plan statements)
  stmt_plans (If branches otherwise) = two (planned_branches branches) (planned_stmts otherwise)
      (branches_plan branches) (stmts_plan otherwise)
  stmt_plans (SearchedCase branches otherwise) = two (planned_branches branches)
      (planned_stmts otherwise) (branches_plan branches) (stmts_plan otherwise)
  stmt_plans (SimpleCase x branches otherwise) =
      three (planned_expr x) (planned_branches branches) (planned_stmts otherwise) (plans x)
      (branches_plan branches) (stmts_plan otherwise)
  stmt_plans (Set t x) = plans x
  stmt_plans (SelectInto q targets) =
      two (planned q) (fills q targets) (query_plans q) (λ p. p)
  stmt_plans (Signal state text) = perhaps_plans text
  stmt_plans (Resignal state text) = perhaps_plans text
  stmt_plans (GetStatementItems Stacked reads) = λ p. tt
  stmt_plans (GetConditionItems Stacked number reads) = plans number
  stmt_plans (Leave outwards) = λ p. tt
  stmt_plans (Return x) = plans x
  stmt_plans _ = λ p. never p

  pub stmts_plan : (ss : Stmts) → planned_stmts ss ≡ true → StmtsPlan ss
  stmts_plan NoStmt = λ p. tt
  stmts_plan (MoreStmts s ss) =
      two (planned_stmt s) (planned_stmts ss) (stmt_plans s) (stmts_plan ss)

  pub branches_plan : (bs : Branches) → planned_branches bs ≡ true → BranchesPlan bs
  branches_plan NoBranch = λ p. tt
  branches_plan (MoreBranches test statements others) =
      three (planned_expr test) (planned_stmts statements) (planned_branches others) (plans test)
      (stmts_plan statements) (branches_plan others)

  pub handlers_plan : (hs : Handlers) → planned_handlers hs ≡ true → HandlersPlan hs
  handlers_plan NoHandler = λ p. tt
  handlers_plan (MoreHandlers kind takes action others) =
      two (planned_stmt action) (planned_handlers others) (stmt_plans action)
      (handlers_plan others)

  pub rows_plan : (rows : Rows) → planned_rows rows ≡ true → RowsPlan rows
  rows_plan NoRow = λ p. tt
  rows_plan (MoreRows es rows) =
      two (planned_all es) (planned_rows rows) (all_plan es) (rows_plan rows)

  pub from_plans : (x : From) → planned_from x ≡ true → FromPlans x
  from_plans (Table t) = λ p. tt
  from_plans (Derived q) = query_plans q
  from_plans (Cross a b) = two (planned_from a) (planned_from b) (from_plans a) (from_plans b)
  from_plans (Inner a b on) =
      three (planned_from a) (planned_from b) (planned_all on) (from_plans a) (from_plans b)
      (all_plan on)
  from_plans (LeftOuter a b on) =
      three (planned_from a) (planned_from b) (planned_all on) (from_plans a) (from_plans b)
      (all_plan on)

  pub query_plans : (q : Query) → planned q ≡ true → QueryPlans q
  query_plans (Select items from tests) = three (planned_all items) (planned_from from)
      (planned_all tests) (all_plan items) (from_plans from)
      (all_plan tests)
  query_plans (Grouped from tests k items ags having list) =
      five (planned_from from) (planned_all tests) (planned_all items) (planned_all having)
      (planned_all list)
      (from_plans from) (all_plan tests) (all_plan items) (all_plan having) (all_plan list)
  query_plans (Values rows) =
      two (all_even (rows_width rows) rows) (planned_rows rows) (λ p. p) (rows_plan rows)
  query_plans (Ordered q keys) = query_plans q
