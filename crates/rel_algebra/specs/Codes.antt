-- Plain trees as trees of numbers, each with its way back, by which a proof tells two of them
-- apart. A node is the pair of its label, which says its kind and what it has beside trees, and of
-- its parts.
use Rattle.std.specs.Prelude.{ℕ, ◌≡◌, false, true, if◌then◌else◌, nat_eq, []}
use Rattle.std.proofs.Common.{ap, refl}
use Rattle.std.specs.Coded.{Coded}
use base.Stored.{Gv, gnil, gnum, gcons}
use Rattle.sql_values.specs.declared.value.Value.TheVariants.{Null}
use Rattle.rel_algebra.specs.Tree.{Expr, Literal, Column, Variable, Chain, Operate, And, Or, Case}
use Rattle.rel_algebra.specs.Tree.{CaseOf, Coalesce, In, Exists, Single, Call, CallSelf, Links}
use Rattle.rel_algebra.specs.Tree.{NoLink, MoreLinks, Exprs, NoExpr, MoreExprs, Perhaps, Without}
use Rattle.rel_algebra.specs.Tree.{With, Routine, Function, Procedure, Rows, NoRow, MoreRows, From}
use Rattle.rel_algebra.specs.Tree.{Table, Derived, Cross, Inner, LeftOuter, Query, Select, Grouped}
use Rattle.rel_algebra.specs.Tree.{Values, Ordered, Target, Current, Stacked, Stmt, Insert, Update}
use Rattle.rel_algebra.specs.Tree.{Delete, CallProcedure, CallItself, Compound, If, SearchedCase}
use Rattle.rel_algebra.specs.Tree.{SimpleCase, Set, SelectInto, Loop, While, Repeat, For, Open}
use Rattle.rel_algebra.specs.Tree.{Fetch, Close, Signal, Resignal, GetStatementItems}
use Rattle.rel_algebra.specs.Tree.{GetConditionItems, Leave, Iterate, Return, Stmts, NoStmt}
use Rattle.rel_algebra.specs.Tree.{MoreStmts, Branches, NoBranch, MoreBranches, Variables}
use Rattle.rel_algebra.specs.Tree.{NoVariable, MoreVariables, Handlers, NoHandler, MoreHandlers}
use Rattle.rel_algebra.specs.Tree.{Arguments, NoArgument, MoreValues, MoreTargets, MoreGiven}
use Rattle.rel_algebra.specs.PartCodes.{num, left, right, by_number, name_code, name_from}
use Rattle.rel_algebra.specs.PartCodes.{name_back, type_code, type_from, type_back, types_code}
use Rattle.rel_algebra.specs.PartCodes.{types_from, types_back, operator_code, operator_by}
use Rattle.rel_algebra.specs.PartCodes.{operator_back, bool_code, bool_back, operation_code}
use Rattle.rel_algebra.specs.PartCodes.{operation_from, operation_back, aggregates_code}
use Rattle.rel_algebra.specs.PartCodes.{aggregates_from, aggregates_back, keys_code, keys_from}
use Rattle.rel_algebra.specs.PartCodes.{keys_back, listed_code, listed_from, listed_back}
use Rattle.rel_algebra.specs.PartCodes.{target_code, target_from, target_back, targets_code}
use Rattle.rel_algebra.specs.PartCodes.{targets_from, targets_back, parameters_code}
use Rattle.rel_algebra.specs.PartCodes.{parameters_from, parameters_back, handler_code, handler_by}
use Rattle.rel_algebra.specs.PartCodes.{handler_back, conditions_code, conditions_from}
use Rattle.rel_algebra.specs.PartCodes.{conditions_back, which_code, which_back}
use Rattle.rel_algebra.specs.PartCodes.{statement_reads_code, statement_reads_from}
use Rattle.rel_algebra.specs.PartCodes.{statement_reads_back, condition_reads_code}
use Rattle.rel_algebra.specs.PartCodes.{condition_reads_from, condition_reads_back}
pub use Rattle.rel_algebra.specs.PartCodes.{coded_back, value_code, value_from, value_back}
pub use Rattle.rel_algebra.specs.PartCodes.{coded_type}

-- ---- trees

-- a node of a kind, with what it has beside its two parts
abbrev pub node : ℕ → Gv → Gv → Gv → Gv
node kind with_it a b = gcons (gcons (gnum kind) with_it) (gcons a b)

-- a FROM, of three parts, and a query, of five
abbrev pub node₃ : ℕ → Gv → Gv → Gv → Gv → Gv
node₃ kind with_it a b c = gcons (gcons (gnum kind) with_it) (gcons a (gcons b c))

-- a node of a kind with five parts
abbrev pub node₅ : ℕ → Gv → Gv → Gv → Gv → Gv → Gv → Gv
node₅ kind with_it a b c d e =
    gcons (gcons (gnum kind) with_it) (gcons a (gcons b (gcons c (gcons d e))))

abbrev mutual
  -- an expression as a code
  pub expr_code : Expr → Gv
  expr_code (Literal v) = node 0 (value_code v) gnil gnil
  expr_code (Column level i) = node 1 (gcons (gnum level) (gnum i)) gnil gnil
  expr_code (Variable i) = node 2 (gnum i) gnil gnil
  expr_code (Chain e ls) = node 3 gnil (expr_code e) (links_code ls)
  expr_code (Call name r es) = node 4 (name_code name) (routine_code r) (exprs_code es)
  expr_code (CallSelf parameters es) = node 5 (types_code parameters) gnil (exprs_code es)
  expr_code (Operate operation es) = node 6 (operation_code operation) gnil (exprs_code es)
  expr_code (And es) = node 7 gnil gnil (exprs_code es)
  expr_code (Or es) = node 8 gnil gnil (exprs_code es)
  expr_code (Case arms) = node 9 gnil gnil (exprs_code arms)
  expr_code (CaseOf e test result arms) =
      node 10 gnil (expr_code e)
      (gcons (expr_code test) (gcons (expr_code result) (exprs_code arms)))
  expr_code (Coalesce es) = node 11 gnil gnil (exprs_code es)
  expr_code (In e query) = node 12 gnil (expr_code e) (query_code query)
  expr_code (Exists query) = node 13 gnil gnil (query_code query)
  expr_code (Single query) = node 14 gnil gnil (query_code query)

  -- the operators of a chain as a code
  pub links_code : Links → Gv
  links_code NoLink = gnil
  links_code (MoreLinks operator e ls) =
      gcons (gcons (operator_code operator) (expr_code e)) (links_code ls)

  -- expressions as a code
  pub exprs_code : Exprs → Gv
  exprs_code NoExpr = gnil
  exprs_code (MoreExprs e es) = gcons (expr_code e) (exprs_code es)

  -- an expression that may be left out as a code
  pub perhaps_code : Perhaps → Gv
  perhaps_code Without = gnil
  perhaps_code (With e) = gcons (expr_code e) gnil

  -- a routine as a code
  pub routine_code : Routine → Gv
  routine_code (Function calls_itself parameters returns null_call body) =
      gcons (gcons (gnum 0) (gcons (gcons (bool_code calls_itself) (bool_code null_call))
      (gcons (types_code parameters) (type_code returns))))
      (stmt_code body)
  routine_code (Procedure calls_itself parameters body) =
      gcons (gcons (gnum 1) (gcons (bool_code calls_itself) (parameters_code parameters)))
      (stmt_code body)

  -- the rows of VALUES as a code
  pub rows_code : Rows → Gv
  rows_code NoRow = gnil
  rows_code (MoreRows es rows) = gcons (exprs_code es) (rows_code rows)

  -- a FROM as a code
  pub from_code : From → Gv
  from_code (Table name) = node₃ 0 (name_code name) gnil gnil gnil
  from_code (Derived query) = node₃ 1 gnil (query_code query) gnil gnil
  from_code (Cross a b) = node₃ 2 gnil (from_code a) (from_code b) gnil
  from_code (Inner a b on) = node₃ 3 gnil (from_code a) (from_code b) (exprs_code on)
  from_code (LeftOuter a b on) = node₃ 4 gnil (from_code a) (from_code b) (exprs_code on)

  -- a query as a code
  pub query_code : Query → Gv
  query_code (Select items from conjuncts) =
      node₅ 0 gnil (exprs_code items) (from_code from) (exprs_code conjuncts) gnil gnil
  query_code (Grouped from conjuncts k items ags having list) =
      node₅ 1 (gcons (gnum k) (aggregates_code ags)) (exprs_code items) (from_code from)
      (exprs_code conjuncts) (exprs_code having) (exprs_code list)
  query_code (Values rows) = node₅ 2 gnil (rows_code rows) gnil gnil gnil gnil
  query_code (Ordered query keys) = node₅ 3 (keys_code keys) gnil (query_code query) gnil gnil gnil

  -- a statement as a code
  pub stmt_code : Stmt → Gv
  stmt_code (Insert name listed query) =
      node₃ 0 (gcons (name_code name) (listed_code listed)) (query_code query) gnil gnil
  stmt_code (Update name targets query) =
      node₃ 1 (gcons (name_code name) (name_code targets)) (query_code query) gnil gnil
  stmt_code (Delete name query) = node₃ 2 (name_code name) (query_code query) gnil gnil
  stmt_code (CallProcedure name routine args) =
      node₃ 3 (name_code name) gnil (routine_code routine) (arguments_code args)
  stmt_code (CallItself parameters args) =
      node₃ 4 (parameters_code parameters) gnil gnil (arguments_code args)
  stmt_code (Compound atomic variables cursors handlers body) =
      node₃ 5 (gcons (bool_code atomic) (gnum cursors)) (variables_code variables)
      (handlers_code handlers) (stmts_code body)
  stmt_code (If branches otherwise) =
      node₃ 6 gnil gnil (branches_code branches) (stmts_code otherwise)
  stmt_code (SearchedCase branches otherwise) =
      node₃ 7 gnil gnil (branches_code branches) (stmts_code otherwise)
  stmt_code (SimpleCase e branches otherwise) =
      node₃ 8 gnil (expr_code e) (branches_code branches) (stmts_code otherwise)
  stmt_code (Set t e) = node₃ 9 (target_code t) (expr_code e) gnil gnil
  stmt_code (SelectInto query targets) =
      node₃ 10 (targets_code targets) (query_code query) gnil gnil
  stmt_code (Loop body) = node₃ 11 gnil gnil gnil (stmts_code body)
  stmt_code (While e body) = node₃ 12 gnil (expr_code e) gnil (stmts_code body)
  stmt_code (Repeat body e) = node₃ 13 gnil (expr_code e) gnil (stmts_code body)
  stmt_code (For query body) = node₃ 14 gnil (query_code query) gnil (stmts_code body)
  stmt_code (Open slot query) = node₃ 15 (gnum slot) (query_code query) gnil gnil
  stmt_code (Fetch slot targets) =
      node₃ 16 (gcons (gnum slot) (targets_code targets)) gnil gnil gnil
  stmt_code (Close slot) = node₃ 17 (gnum slot) gnil gnil gnil
  stmt_code (Signal state text) = node₃ 18 (name_code state) (perhaps_code text) gnil gnil
  stmt_code (Resignal state text) = node₃ 19 (listed_code state) (perhaps_code text) gnil gnil
  stmt_code (GetStatementItems which reads) =
      node₃ 20 (gcons (which_code which) (statement_reads_code reads)) gnil gnil gnil
  stmt_code (GetConditionItems which number reads) =
      node₃ 21 (gcons (which_code which) (condition_reads_code reads)) (expr_code number) gnil gnil
  stmt_code (Leave outwards) = node₃ 22 (gnum outwards) gnil gnil gnil
  stmt_code (Iterate outwards) = node₃ 23 (gnum outwards) gnil gnil gnil
  stmt_code (Return e) = node₃ 24 gnil (expr_code e) gnil gnil

  -- statements as a code
  pub stmts_code : Stmts → Gv
  stmts_code NoStmt = gnil
  stmts_code (MoreStmts s ss) = gcons (stmt_code s) (stmts_code ss)

  -- branches as a code
  pub branches_code : Branches → Gv
  branches_code NoBranch = gnil
  branches_code (MoreBranches e ss more) =
      gcons (gcons (expr_code e) (stmts_code ss)) (branches_code more)

  -- declarations of variables as a code
  pub variables_code : Variables → Gv
  variables_code NoVariable = gnil
  variables_code (MoreVariables n t e more) =
      gcons (gcons (gcons (gnum n) (type_code t)) (perhaps_code e)) (variables_code more)

  -- handlers as a code
  pub handlers_code : Handlers → Gv
  handlers_code NoHandler = gnil
  handlers_code (MoreHandlers kind takes action more) =
      gcons (gcons (gcons (handler_code kind) (conditions_code takes)) (stmt_code action))
      (handlers_code more)

  -- arguments of CALL as a code
  pub arguments_code : Arguments → Gv
  arguments_code NoArgument = gnil
  arguments_code (MoreValues e more) = gcons (gcons (gnum 0) (expr_code e)) (arguments_code more)
  arguments_code (MoreTargets t more) = gcons (gcons (gnum 1) (target_code t)) (arguments_code more)
  arguments_code (MoreGiven more) = gcons (gcons (gnum 2) gnil) (arguments_code more)

-- an operand, and a list that begins with the first comparison and its result
abbrev pub case_of : Expr → Exprs → Expr
case_of e (MoreExprs test (MoreExprs result arms)) = CaseOf e test result arms
case_of e _ = e

-- an expression by its kind, what it has beside trees, and what its parts are, read in each way
abbrev pub expr_by : ℕ → Gv → Expr → Routine → Links → Exprs → Query → Expr
expr_by kind with_it a routine ls es query =
    if nat_eq kind 0 then Literal (value_from with_it)
    else if nat_eq kind 1 then Column (num (left with_it)) (num (right with_it))
    else if nat_eq kind 2 then Variable (num with_it) else if nat_eq kind 3 then Chain a ls
    else if nat_eq kind 4 then Call (name_from with_it) routine es
    else if nat_eq kind 5 then CallSelf (types_from with_it) es
    else if nat_eq kind 6 then Operate (operation_from with_it) es else if nat_eq kind 7 then And es
    else if nat_eq kind 8 then Or es else if nat_eq kind 9 then Case es
    else if nat_eq kind 10 then case_of a es else if nat_eq kind 11 then Coalesce es
    else if nat_eq kind 12 then In a query else if nat_eq kind 13 then Exists query
    else Single query

-- a FROM by its kind, and what its parts are, read in each way
abbrev pub from_by : ℕ → Gv → Query → From → From → Exprs → From
from_by kind with_it query a b on =
    if nat_eq kind 0 then Table (name_from with_it) else if nat_eq kind 1 then Derived query
    else if nat_eq kind 2 then Cross a b
    else if nat_eq kind 3 then Inner a b on else LeftOuter a b on

-- a query by its kind, and what its parts are, read in each way
abbrev pub query_by : ℕ → Gv → Exprs → Rows → From → Query → Exprs → Exprs → Exprs → Query
query_by kind with_it items rows from query conjuncts having list =
    if nat_eq kind 0 then Select items from conjuncts
    else if nat_eq kind 1 then Grouped from conjuncts (num (left with_it)) items
    (aggregates_from (right with_it)) having list
    else if nat_eq kind 2 then Values rows else Ordered query (keys_from with_it)

-- a routine by whether it is a function, and what it has beside its body
abbrev pub routine_by : ℕ → Gv → Stmt → Routine
routine_by kind g body =
    if nat_eq kind 0
    then Function (by_number (num (left (left g))) false true) (types_from (left (right g)))
    (type_from (right (right g)))
    (by_number (num (right (left g))) false true) body
    else Procedure (by_number (num (left g)) false true) (parameters_from (right g)) body

-- a statement by its kind, what it has beside trees, and what its three parts are, read in each way
abbrev pub stmt_by : ℕ → Gv → Expr → Query → Perhaps → Variables → Routine → Branches → Handlers →
    Stmts → Arguments → Stmt
stmt_by kind g e query text variables routine branches handlers body args =
    if nat_eq kind 0 then Insert (name_from (left g)) (listed_from (right g)) query
    else if nat_eq kind 1 then Update (name_from (left g)) (name_from (right g)) query
    else if nat_eq kind 2 then Delete (name_from g) query
    else if nat_eq kind 3 then CallProcedure (name_from g) routine args
    else if nat_eq kind 4 then CallItself (parameters_from g) args
    else if nat_eq kind 5 then Compound (by_number (num (left g)) false true) variables
    (num (right g)) handlers body
    else if nat_eq kind 6 then If branches body
    else if nat_eq kind 7 then SearchedCase branches body
    else if nat_eq kind 8 then SimpleCase e branches body
    else if nat_eq kind 9 then Set (target_from g) e
    else if nat_eq kind 10 then SelectInto query (targets_from g)
    else if nat_eq kind 11 then Loop body
    else if nat_eq kind 12 then While e body else if nat_eq kind 13 then Repeat body e
    else if nat_eq kind 14 then For query body
    else if nat_eq kind 15 then Open (num g) query
    else if nat_eq kind 16 then Fetch (num (left g)) (targets_from (right g))
    else if nat_eq kind 17 then Close (num g) else if nat_eq kind 18 then Signal (name_from g) text
    else if nat_eq kind 19 then Resignal (listed_from g) text
    else if nat_eq kind 20 then GetStatementItems (by_number (num (left g)) Current Stacked)
    (statement_reads_from (right g))
    else if nat_eq kind 21 then GetConditionItems (by_number (num (left g)) Current Stacked) e
    (condition_reads_from (right g))
    else if nat_eq kind 22 then Leave (num g) else if nat_eq kind 23 then Iterate (num g)
    else Return e

-- an argument by its kind, and more of them
abbrev pub arguments_by : ℕ → Expr → Target → Arguments → Arguments
arguments_by kind e t more = if nat_eq kind 0 then MoreValues e more
    else if nat_eq kind 1 then MoreTargets t more else MoreGiven more

abbrev mutual
  -- an expression of a code
  pub expr_from : Gv → Expr
  expr_from gnil = Literal Null
  expr_from (gnum n) = Literal Null
  expr_from (gcons label gnil) = Literal Null
  expr_from (gcons label (gnum n)) = Literal Null
  expr_from (gcons label (gcons a b)) =
      expr_by (num (left label)) (right label) (expr_from a) (routine_from a) (links_from b)
      (exprs_from b) (query_from b)

  -- the operators of a chain of a code
  pub links_from : Gv → Links
  links_from gnil = NoLink
  links_from (gnum n) = NoLink
  links_from (gcons gnil rest) = NoLink
  links_from (gcons (gnum n) rest) = NoLink
  links_from (gcons (gcons operator e) rest) =
      MoreLinks (operator_by (num operator)) (expr_from e) (links_from rest)

  -- expressions of a code
  pub exprs_from : Gv → Exprs
  exprs_from gnil = NoExpr
  exprs_from (gnum n) = NoExpr
  exprs_from (gcons e rest) = MoreExprs (expr_from e) (exprs_from rest)

  -- an expression that may be left out of a code
  pub perhaps_from : Gv → Perhaps
  perhaps_from gnil = Without
  perhaps_from (gnum n) = Without
  perhaps_from (gcons e rest) = With (expr_from e)

  -- a routine of a code
  pub routine_from : Gv → Routine
  routine_from gnil = Procedure false [] (Leave 0)
  routine_from (gnum n) = Procedure false [] (Leave 0)
  routine_from (gcons head body) = routine_by (num (left head)) (right head) (stmt_from body)

  -- the rows of VALUES of a code
  pub rows_from : Gv → Rows
  rows_from gnil = NoRow
  rows_from (gnum n) = NoRow
  rows_from (gcons es rest) = MoreRows (exprs_from es) (rows_from rest)

  -- a FROM of a code
  pub from_from : Gv → From
  from_from (gcons label (gcons a (gcons b c))) = from_by (num (left label)) (right label)
      (query_from a) (from_from a) (from_from b) (exprs_from c)
  from_from _ = Table []

  -- a query of a code
  pub query_from : Gv → Query
  query_from (gcons label (gcons a (gcons b (gcons c (gcons d e))))) =
      query_by (num (left label)) (right label) (exprs_from a) (rows_from a) (from_from b)
      (query_from b) (exprs_from c) (exprs_from d) (exprs_from e)
  query_from _ = Values NoRow

  -- a statement of a code
  pub stmt_from : Gv → Stmt
  stmt_from (gcons label (gcons a (gcons b c))) =
      stmt_by (num (left label)) (right label) (expr_from a) (query_from a) (perhaps_from a)
      (variables_from a) (routine_from b) (branches_from b)
      (handlers_from b) (stmts_from c) (arguments_from c)
  stmt_from _ = Leave 0

  -- statements of a code
  pub stmts_from : Gv → Stmts
  stmts_from gnil = NoStmt
  stmts_from (gnum n) = NoStmt
  stmts_from (gcons s rest) = MoreStmts (stmt_from s) (stmts_from rest)

  -- branches of a code
  pub branches_from : Gv → Branches
  branches_from (gcons (gcons e ss) rest) =
      MoreBranches (expr_from e) (stmts_from ss) (branches_from rest)
  branches_from _ = NoBranch

  -- declarations of variables of a code
  pub variables_from : Gv → Variables
  variables_from (gcons (gcons head e) rest) =
      MoreVariables (num (left head)) (type_from (right head)) (perhaps_from e)
      (variables_from rest)
  variables_from _ = NoVariable

  -- handlers of a code
  pub handlers_from : Gv → Handlers
  handlers_from (gcons (gcons head action) rest) =
      MoreHandlers (handler_by (num (left head))) (conditions_from (right head)) (stmt_from action)
      (handlers_from rest)
  handlers_from _ = NoHandler

  -- arguments of CALL of a code
  pub arguments_from : Gv → Arguments
  arguments_from (gcons (gcons kind g) rest) =
      arguments_by (num kind) (expr_from g) (target_from g) (arguments_from rest)
  arguments_from _ = NoArgument

mutual
  -- an expression comes back from its code
  pub expr_back : (e : Expr) → expr_from (expr_code e) ≡ e
  expr_back (Literal v) = ap Literal (value_back v)
  expr_back (Column level i) = refl
  expr_back (Variable i) = refl
  expr_back (Chain e ls) = λ i. Chain (expr_back e i) (links_back ls i)
  expr_back (Call name r es) = λ i. Call (name_back name i) (routine_back r i) (exprs_back es i)
  expr_back (CallSelf parameters es) = λ i. CallSelf (types_back parameters i) (exprs_back es i)
  expr_back (Operate operation es) = λ i. Operate (operation_back operation i) (exprs_back es i)
  expr_back (And es) = ap And (exprs_back es)
  expr_back (Or es) = ap Or (exprs_back es)
  expr_back (Case arms) = ap Case (exprs_back arms)
  expr_back (CaseOf e test result arms) =
      λ i. CaseOf (expr_back e i) (expr_back test i) (expr_back result i) (exprs_back arms i)
  expr_back (Coalesce es) = ap Coalesce (exprs_back es)
  expr_back (In e query) = λ i. In (expr_back e i) (query_back query i)
  expr_back (Exists query) = ap Exists (query_back query)
  expr_back (Single query) = ap Single (query_back query)

  -- the operators of a chain comes back from its code
  pub links_back : (ls : Links) → links_from (links_code ls) ≡ ls
  links_back NoLink = refl
  links_back (MoreLinks operator e ls) =
      λ i. MoreLinks (operator_back operator i) (expr_back e i) (links_back ls i)

  -- expressions comes back from its code
  pub exprs_back : (es : Exprs) → exprs_from (exprs_code es) ≡ es
  exprs_back NoExpr = refl
  exprs_back (MoreExprs e es) = λ i. MoreExprs (expr_back e i) (exprs_back es i)

  -- an expression that may be left out comes back from its code
  pub perhaps_back : (e : Perhaps) → perhaps_from (perhaps_code e) ≡ e
  perhaps_back Without = refl
  perhaps_back (With e) = ap With (expr_back e)

  -- a routine comes back from its code
  pub routine_back : (r : Routine) → routine_from (routine_code r) ≡ r
  routine_back (Function calls_itself parameters returns null_call body) =
      λ i. Function (bool_back calls_itself i) (types_back parameters i) (type_back returns i)
      (bool_back null_call i) (stmt_back body i)
  routine_back (Procedure calls_itself parameters body) =
      λ i. Procedure (bool_back calls_itself i) (parameters_back parameters i) (stmt_back body i)

  -- the rows of VALUES comes back from its code
  pub rows_back : (rows : Rows) → rows_from (rows_code rows) ≡ rows
  rows_back NoRow = refl
  rows_back (MoreRows es rows) = λ i. MoreRows (exprs_back es i) (rows_back rows i)

  -- a FROM comes back from its code
  pub from_back : (from : From) → from_from (from_code from) ≡ from
  from_back (Table name) = ap Table (name_back name)
  from_back (Derived query) = ap Derived (query_back query)
  from_back (Cross a b) = λ i. Cross (from_back a i) (from_back b i)
  from_back (Inner a b on) = λ i. Inner (from_back a i) (from_back b i) (exprs_back on i)
  from_back (LeftOuter a b on) = λ i. LeftOuter (from_back a i) (from_back b i) (exprs_back on i)

  -- a query comes back from its code
  pub query_back : (query : Query) → query_from (query_code query) ≡ query
  query_back (Select items from conjuncts) =
      λ i. Select (exprs_back items i) (from_back from i) (exprs_back conjuncts i)
  query_back (Grouped from conjuncts k items ags having list) =
      λ i. Grouped (from_back from i) (exprs_back conjuncts i) k (exprs_back items i)
      (aggregates_back ags i) (exprs_back having i)
      (exprs_back list i)
  query_back (Values rows) = ap Values (rows_back rows)
  query_back (Ordered query keys) = λ i. Ordered (query_back query i) (keys_back keys i)

  -- a statement comes back from its code
  pub stmt_back : (s : Stmt) → stmt_from (stmt_code s) ≡ s
  stmt_back (Insert name listed query) =
      λ i. Insert (name_back name i) (listed_back listed i) (query_back query i)
  stmt_back (Update name targets query) =
      λ i. Update (name_back name i) (name_back targets i) (query_back query i)
  stmt_back (Delete name query) = λ i. Delete (name_back name i) (query_back query i)
  stmt_back (CallProcedure name routine args) =
      λ i. CallProcedure (name_back name i) (routine_back routine i) (arguments_back args i)
  stmt_back (CallItself parameters args) =
      λ i. CallItself (parameters_back parameters i) (arguments_back args i)
  stmt_back (Compound atomic variables cursors handlers body) =
      λ i. Compound (bool_back atomic i) (variables_back variables i) cursors
      (handlers_back handlers i) (stmts_back body i)
  stmt_back (If branches otherwise) = λ i. If (branches_back branches i) (stmts_back otherwise i)
  stmt_back (SearchedCase branches otherwise) =
      λ i. SearchedCase (branches_back branches i) (stmts_back otherwise i)
  stmt_back (SimpleCase e branches otherwise) =
      λ i. SimpleCase (expr_back e i) (branches_back branches i) (stmts_back otherwise i)
  stmt_back (Set t e) = λ i. Set (target_back t i) (expr_back e i)
  stmt_back (SelectInto query targets) =
      λ i. SelectInto (query_back query i) (targets_back targets i)
  stmt_back (Loop body) = ap Loop (stmts_back body)
  stmt_back (While e body) = λ i. While (expr_back e i) (stmts_back body i)
  stmt_back (Repeat body e) = λ i. Repeat (stmts_back body i) (expr_back e i)
  stmt_back (For query body) = λ i. For (query_back query i) (stmts_back body i)
  stmt_back (Open slot query) = λ i. Open slot (query_back query i)
  stmt_back (Fetch slot targets) = λ i. Fetch slot (targets_back targets i)
  stmt_back (Close slot) = refl
  stmt_back (Signal state text) = λ i. Signal (name_back state i) (perhaps_back text i)
  stmt_back (Resignal state text) = λ i. Resignal (listed_back state i) (perhaps_back text i)
  stmt_back (GetStatementItems which reads) =
      λ i. GetStatementItems (which_back which i) (statement_reads_back reads i)
  stmt_back (GetConditionItems which number reads) = λ i. GetConditionItems (which_back which i)
      (expr_back number i) (condition_reads_back reads i)
  stmt_back (Leave outwards) = refl
  stmt_back (Iterate outwards) = refl
  stmt_back (Return e) = ap Return (expr_back e)

  -- statements comes back from its code
  pub stmts_back : (ss : Stmts) → stmts_from (stmts_code ss) ≡ ss
  stmts_back NoStmt = refl
  stmts_back (MoreStmts s ss) = λ i. MoreStmts (stmt_back s i) (stmts_back ss i)

  -- branches comes back from its code
  pub branches_back : (bs : Branches) → branches_from (branches_code bs) ≡ bs
  branches_back NoBranch = refl
  branches_back (MoreBranches e ss more) =
      λ i. MoreBranches (expr_back e i) (stmts_back ss i) (branches_back more i)

  -- declarations of variables comes back from its code
  pub variables_back : (vs : Variables) → variables_from (variables_code vs) ≡ vs
  variables_back NoVariable = refl
  variables_back (MoreVariables n t e more) =
      λ i. MoreVariables n (type_back t i) (perhaps_back e i) (variables_back more i)

  -- handlers comes back from its code
  pub handlers_back : (hs : Handlers) → handlers_from (handlers_code hs) ≡ hs
  handlers_back NoHandler = refl
  handlers_back (MoreHandlers kind takes action more) =
      λ i. MoreHandlers (handler_back kind i) (conditions_back takes i) (stmt_back action i)
      (handlers_back more i)

  -- arguments of CALL comes back from its code
  pub arguments_back : (args : Arguments) → arguments_from (arguments_code args) ≡ args
  arguments_back NoArgument = refl
  arguments_back (MoreValues e more) = λ i. MoreValues (expr_back e i) (arguments_back more i)
  arguments_back (MoreTargets t more) = λ i. MoreTargets (target_back t i) (arguments_back more i)
  arguments_back (MoreGiven more) = ap MoreGiven (arguments_back more)

-- a function's tree is told apart by its code
abbrev pub coded_routine : Coded Routine
coded_routine = coded_back routine_code routine_from routine_back
