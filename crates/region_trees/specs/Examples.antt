-- Worked rows. V is INTEGER, in slot 0; F has a plan, G has none, and B is a block that may have one.
use Rattle.std.specs.Prelude.{ℕ, Bool, ◌≡◌, true, false, List, [], ◌∷◌, Option, Some, None, codes}
use Rattle.sql_values.specs.declared.value.SqlType.TheVariants.{Integer}
use Rattle.bound_trees.specs.declared.change.BoundDelete.{BoundDelete}
use Rattle.bound_trees.specs.declared.change.BoundInsert.{BoundInsert}
use Rattle.bound_trees.specs.declared.change.BoundUpdate.{BoundUpdate}
use Rattle.bound_trees.specs.declared.condition.BoundArea.{BoundArea}
use Rattle.bound_trees.specs.declared.condition.BoundArea.TheVariants as area
use Rattle.bound_trees.specs.declared.condition.BoundConditionItem.TheVariants as item
use Rattle.bound_trees.specs.declared.condition.BoundConditionValue.TheVariants as waited
use Rattle.bound_trees.specs.declared.condition.BoundDiagnostics.{BoundDiagnostics}
use Rattle.bound_trees.specs.declared.condition.BoundHandlerType.TheVariants as follows
use Rattle.bound_trees.specs.declared.condition.BoundInformation.TheVariants as information
use Rattle.bound_trees.specs.declared.condition.BoundResignal.{BoundResignal}
use Rattle.bound_trees.specs.declared.condition.BoundSignal.{BoundSignal}
use Rattle.bound_trees.specs.declared.condition.BoundStatementItem.TheVariants as statement_item
use Rattle.bound_trees.specs.declared.expr.BoundExpr.{BoundExpr}
use Rattle.bound_trees.specs.declared.expr.BoundExpr.TheVariants as expr
use Rattle.bound_trees.specs.declared.query.BoundQuery.{BoundQuery}
use Rattle.bound_trees.specs.declared.query.BoundQuery.TheVariants as query
use Rattle.bound_trees.specs.declared.query.BoundRow.TheVariants as row
use Rattle.bound_trees.specs.declared.statement.BoundCall.{BoundCall}
use Rattle.bound_trees.specs.declared.statement.BoundStmt.TheOpen.{BoundStmt-F, BoundBlock-F}
use Rattle.bound_trees.specs.declared.statement.BoundStmt.TheVariants as bound
use Rattle.bound_trees.specs.declared.statement.BoundTarget.{BoundTarget}
use Rattle.bound_trees.specs.declared.statement.BoundVariables.{BoundVariables}
use Rattle.rel_algebra.specs.Plain.{planned_expr}
use Rattle.rel_algebra.specs.Tree as tree
use Rattle.rel_algebra.specs.Tree.{Expr, Target}
use Rattle.catalog_store.specs.declared.entry.DataAccess.TheVariants.{ContainsSql}
use Rattle.catalog_store.specs.Catalog.{Catalog, Entry, FunctionObject, InterpretedObject}
use Rattle.catalog_store.specs.View.{Joining, matching}
use Rattle.regions.specs.Tree as region
use Rattle.regions.specs.Tree.{Stmt}
use Rattle.viewing_laws.specs.Examples.{known, table, call, f_of_v, g_of_v, values_f, body_g}
use Rattle.viewing_laws.specs.Examples.{tree_f, one}
use Rattle.block_plans.specs.Callees.{Callees, callee, without_blocks}
use Rattle.planned_queries.specs.Planned.{items_planned, rows_planned}
use Rattle.region_trees.specs.Form.{stmt_formed, block_formed, branch_formed, in_form}
use Rattle.region_trees.specs.Regions.{Seeing, stmt_region, block_region, handler_region, nothing}

-- ---- what calls run

-- the functions of the catalog alone
abbrev pub bare : Callees
bare = without_blocks known

-- B (V INTEGER) RETURNS INTEGER: RETURN V, kept without a plan
abbrev pub block_b : Entry
block_b = record {
  name = codes "B";
  object = InterpretedObject (record {
    parameters = Integer ∷ [];
    returns = Integer;
    access = ContainsSql;
    height = 1;
    weight = 1;
    uses = [];
    null_call = false;
    self_calling = false;
    body = bound.Return (expr.Variable 0);
  });
}

-- T and B, where the blocks of these names have plans
abbrev pub with_blocks : List (List ℕ) → Callees
with_blocks names = record { known = table (codes "T") ∷ block_b ∷ []; blocks = names }

-- B (V), and B without an argument
abbrev pub b_of_v : BoundExpr
b_of_v = call (codes "B") (expr.Variable 0)

abbrev pub b_of_nothing : BoundExpr
b_of_nothing = expr.Call (codes "B") []

-- ---- parts of statements

-- V
abbrev pub v : BoundTarget
v = record { slot = 0; data_type = Integer }

-- VALUES (G (V))
abbrev pub values_g : BoundQuery
values_g = query.Values (row.Row (g_of_v ∷ []) ∷ [])

-- SIGNAL SQLSTATE '45000', with this text
abbrev pub signalled : Option BoundExpr → BoundSignal
signalled text = record { state = codes "45000"; message = text }

-- RESIGNAL, with this text
abbrev pub resignalled : Option BoundExpr → BoundResignal
resignalled text = record { state = None; message = text }

-- GET DIAGNOSTICS of this area: the text of the condition of this number
abbrev pub getting : BoundArea → BoundExpr → BoundDiagnostics
getting which number = record {
  area = which;
  information = information.Condition number (record { item = item.MessageText; target = v } ∷ []);
}

-- GET STACKED DIAGNOSTICS V = NUMBER
abbrev pub counting : BoundDiagnostics
counting = record {
  area = area.Stacked;
  information = information.Statement (record { item = statement_item.Number; target = v } ∷ []);
}

-- DECLARE V INTEGER, with this default
abbrev pub declared : Option BoundExpr → BoundVariables
declared e = record { first = 0; count = 1; data_type = Integer; default = e }

-- a compound statement of variables, cursors, handlers and statements
abbrev pub compound : List BoundVariables → List BoundQuery → List Bool → List Bool →
    BoundBlock-F Bool Bool Bool Bool
compound variables cursors handlers statements = record {
  atomic = true;
  variables = variables;
  first_cursor = 0;
  cursors = cursors;
  handlers = handlers;
  statements = statements;
}

-- a call of a function of the catalog, without arguments
abbrev pub call_of : List ℕ → Expr
call_of name = tree.Call name (callee bare name 0) tree.NoExpr

-- JOIN of a table, ON what this function gives
abbrev pub joined_on : List ℕ → Joining
joined_on name = matching (tree.Table (codes "T")) (one (call_of name))

-- ---- what is in form

-- the statements that may be, where true stands for what is in form in them
pub record FormsWorked : Type 0 where
  pub block : stmt_formed bare (BoundStmt-F.Block true) ≡ true
  pub leave : stmt_formed bare (BoundStmt-F.Leave 0) ≡ true
  -- SET V = F (V), and = G (V)
  pub set : stmt_formed bare (BoundStmt-F.Set v f_of_v) ≡ true
  pub set_unplanned : stmt_formed bare (BoundStmt-F.Set v g_of_v) ≡ false
  -- RETURN F (V), and G (V)
  pub given : stmt_formed bare (BoundStmt-F.Return f_of_v) ≡ true
  pub given_unplanned : stmt_formed bare (BoundStmt-F.Return g_of_v) ≡ false
  -- VALUES (F (V)) INTO V, VALUES (G (V)) INTO V, and a query into nothing
  pub into : stmt_formed bare (BoundStmt-F.SelectInto values_f (v ∷ [])) ≡ true
  pub into_unplanned : stmt_formed bare (BoundStmt-F.SelectInto values_g (v ∷ [])) ≡ false
  pub into_nothing : (q : BoundQuery) → stmt_formed bare (BoundStmt-F.SelectInto q []) ≡ false
  -- texts that are left out, and those with a plan and without one
  pub signal : stmt_formed bare (BoundStmt-F.Signal (signalled None)) ≡ true
  pub signal_text : stmt_formed bare (BoundStmt-F.Signal (signalled (Some f_of_v))) ≡ true
  pub signal_unplanned : stmt_formed bare (BoundStmt-F.Signal (signalled (Some g_of_v))) ≡ false
  pub resignal : stmt_formed bare (BoundStmt-F.Resignal (resignalled None)) ≡ true
  pub resignal_text : stmt_formed bare (BoundStmt-F.Resignal (resignalled (Some f_of_v))) ≡ true
  pub resignal_unplanned :
      stmt_formed bare (BoundStmt-F.Resignal (resignalled (Some g_of_v))) ≡ false
  -- the stacked area alone is read
  pub stacked : stmt_formed bare (BoundStmt-F.GetDiagnostics (getting area.Stacked f_of_v)) ≡ true
  pub stacked_unplanned :
      stmt_formed bare (BoundStmt-F.GetDiagnostics (getting area.Stacked g_of_v)) ≡ false
  pub stacked_whole : stmt_formed bare (BoundStmt-F.GetDiagnostics counting) ≡ true
  pub current : (e : BoundExpr) →
      stmt_formed bare (BoundStmt-F.GetDiagnostics (getting area.Current e)) ≡ false

-- IF, CASE and compound statements, by what is in them
pub record ChoicesWorked : Type 0 where
  pub branches : stmt_formed bare (BoundStmt-F.If (true ∷ []) (true ∷ true ∷ [])) ≡ true
  pub one_branch_not : stmt_formed bare (BoundStmt-F.If (true ∷ false ∷ []) []) ≡ false
  pub otherwise_not : stmt_formed bare (BoundStmt-F.If (true ∷ []) (true ∷ false ∷ [])) ≡ false
  pub searched : stmt_formed bare (BoundStmt-F.Case None (true ∷ []) []) ≡ true
  pub searched_not : stmt_formed bare (BoundStmt-F.Case None (true ∷ false ∷ []) []) ≡ false
  -- CASE F (V), and G (V)
  pub simple : stmt_formed bare (BoundStmt-F.Case (Some f_of_v) (true ∷ []) []) ≡ true
  pub simple_unplanned : stmt_formed bare (BoundStmt-F.Case (Some g_of_v) (true ∷ []) []) ≡ false
  pub simple_not : stmt_formed bare (BoundStmt-F.Case (Some f_of_v) [] (false ∷ [])) ≡ false
  -- a branch by its test, and by its statements
  pub branch : branch_formed bare (record { test = f_of_v; body = true ∷ [] }) ≡ true
  pub branch_unplanned : branch_formed bare (record { test = g_of_v; body = true ∷ [] }) ≡ false
  pub branch_not : branch_formed bare (record { test = f_of_v; body = true ∷ false ∷ [] }) ≡ false
  -- a compound statement, with a handler, defaults, and a cursor that nothing moves
  pub handled :
      block_formed bare (compound (declared None ∷ []) [] (true ∷ []) (true ∷ true ∷ [])) ≡ true
  pub action_not : block_formed bare (compound [] [] (true ∷ false ∷ []) (true ∷ [])) ≡ false
  pub statement_not : block_formed bare (compound [] [] [] (false ∷ true ∷ [])) ≡ false
  pub default : block_formed bare (compound (declared (Some f_of_v) ∷ []) [] [] []) ≡ true
  pub default_unplanned : block_formed bare
      (compound (declared None ∷ declared (Some g_of_v) ∷ []) [] [] []) ≡ false
  pub cursor : (q : BoundQuery) → block_formed bare (compound [] (q ∷ []) [] (true ∷ [])) ≡ false

-- the statements that never are: those that write, call a procedure, move a cursor or go round
pub record OthersWorked : Type 0 where
  pub insert : (b : BoundInsert) (places : Option (List ℕ)) →
      stmt_formed bare (BoundStmt-F.Insert b places) ≡ false
  pub update : (b : BoundUpdate) → stmt_formed bare (BoundStmt-F.Update b) ≡ false
  pub delete : (b : BoundDelete) → stmt_formed bare (BoundStmt-F.Delete b) ≡ false
  pub procedure : (c : BoundCall) → stmt_formed bare (BoundStmt-F.Call c) ≡ false
  pub loop : stmt_formed bare (BoundStmt-F.Loop (true ∷ [])) ≡ false
  pub tested_first : (e : BoundExpr) →
      stmt_formed bare (BoundStmt-F.While e (true ∷ [])) ≡ false
  pub tested_last : (e : BoundExpr) →
      stmt_formed bare (BoundStmt-F.Repeat (true ∷ []) e) ≡ false
  pub over_rows : (q : BoundQuery) → stmt_formed bare (BoundStmt-F.For q 0 (true ∷ [])) ≡ false
  pub opening : stmt_formed bare (BoundStmt-F.Open 0) ≡ false
  pub closing : stmt_formed bare (BoundStmt-F.Close 0) ≡ false
  pub fetching : stmt_formed bare (BoundStmt-F.Fetch 0 (v ∷ [])) ≡ false
  pub iterate : stmt_formed bare (BoundStmt-F.Iterate 0) ≡ false

-- F, of this weight, alone in a catalog
abbrev pub f_weighing : ℕ → Catalog
f_weighing w = record {
  name = codes "F";
  object = FunctionObject (record {
    parameters = Integer ∷ [];
    returns = Integer;
    access = ContainsSql;
    height = 1;
    weight = w;
    uses = [];
    routine = tree_f;
  });
} ∷ []

-- whole bodies, and parts of queries
pub record BodiesWorked : Type 0 where
  -- RETURN F (V), RETURN G (V), and LOOP LEAVE
  pub planned : in_form bare body_g ≡ true
  pub unplanned : in_form bare (bound.Return g_of_v) ≡ false
  pub loop : in_form bare (bound.Loop (bound.Leave 0 ∷ [])) ≡ false
  -- RETURN F (V), which weighs one more than F
  pub heaviest : in_form (without_blocks (f_weighing 4095)) body_g ≡ true
  pub too_heavy : in_form (without_blocks (f_weighing 4096)) body_g ≡ false
  -- RETURN B (V), where B has a plan, and where it has none; and B with another number of arguments
  pub block : in_form (with_blocks (codes "B" ∷ [])) (bound.Return b_of_v) ≡ true
  pub block_unplanned : in_form (with_blocks []) (bound.Return b_of_v) ≡ false
  pub block_count : in_form (with_blocks (codes "B" ∷ [])) (bound.Return b_of_nothing) ≡ false
  -- calls of F, G, a procedure, a table and what isn't there, as the function itself isn't yet
  pub function : planned_expr (call_of (codes "F")) ≡ true
  pub interpreted : planned_expr (call_of (codes "G")) ≡ false
  pub procedure : planned_expr (call_of (codes "P")) ≡ false
  pub table : planned_expr (call_of (codes "T")) ≡ false
  pub itself : planned_expr (call_of (codes "Q")) ≡ false
  -- VALUES with a second row that is shorter
  pub even : rows_planned 1 (tree.MoreRows (one (call_of (codes "F")))
      (tree.MoreRows (one (tree.Variable 0)) tree.NoRow)) ≡ true
  pub ragged : rows_planned 1 (tree.MoreRows (one (call_of (codes "F")))
      (tree.MoreRows tree.NoExpr tree.NoRow)) ≡ false
  -- ON of the first item of FROM joins it to nothing
  pub first_on : items_planned true (joined_on (codes "G") ∷ []) ≡ true
  pub second_on :
      items_planned true (joined_on (codes "F") ∷ joined_on (codes "G") ∷ []) ≡ false

-- ---- trees

-- V, as a plan takes it
abbrev pub to_v : Target
to_v = record { slot = 0; data_type = Integer }

-- IF x THEN LEAVE, in a compound statement, ELSE a statement that isn't there
abbrev pub if_leaves : Seeing → BoundExpr → Stmt
if_leaves s x = stmt_region s (BoundStmt-F.If (record {
  test = s.expression x;
  body = region.MoreStmts (stmt_region s (BoundStmt-F.Leave 0)) region.NoStmt;
} ∷ []) [])

-- which trees statements stand for
pub record RegionsWorked : Type 0 where
  pub set : (s : Seeing) (x : BoundExpr) →
      stmt_region s (BoundStmt-F.Set v x) ≡ region.Set to_v (s.expression x)
  pub given : (s : Seeing) (x : BoundExpr) →
      stmt_region s (BoundStmt-F.Return x) ≡ region.Return (s.expression x)
  pub into : (s : Seeing) (q : BoundQuery) → stmt_region s (BoundStmt-F.SelectInto q (v ∷ [])) ≡
      region.SelectInto (s.query q) (to_v ∷ [])
  pub choice : (s : Seeing) (x : BoundExpr) → if_leaves s x ≡ region.If
      (region.MoreBranches (s.expression x) (region.MoreStmts (region.Leave 0) region.NoStmt)
      region.NoBranch) region.NoStmt
  pub simple : (s : Seeing) (x : BoundExpr) →
      stmt_region s (BoundStmt-F.Case (Some x) [] (region.Leave 1 ∷ [])) ≡
      region.SimpleCase (s.expression x) region.NoBranch
      (region.MoreStmts (region.Leave 1) region.NoStmt)
  pub searched : (s : Seeing) → stmt_region s (BoundStmt-F.Case None [] (region.Leave 1 ∷ [])) ≡
      region.SearchedCase region.NoBranch (region.MoreStmts (region.Leave 1) region.NoStmt)
  pub signal : (s : Seeing) (x : BoundExpr) →
      stmt_region s (BoundStmt-F.Signal (signalled (Some x))) ≡
      region.Signal (codes "45000") (tree.With (s.expression x))
  pub resignal : (s : Seeing) → stmt_region s (BoundStmt-F.Resignal (resignalled None)) ≡
      region.Resignal None tree.Without
  -- the text of the condition of a number, and how many there are
  pub get : (s : Seeing) (x : BoundExpr) →
      stmt_region s (BoundStmt-F.GetDiagnostics (getting area.Stacked x)) ≡
      region.GetConditionItems (s.expression x)
      (record { item = tree.MessageText; target = to_v } ∷ [])
  pub counted : (s : Seeing) → stmt_region s (BoundStmt-F.GetDiagnostics counting) ≡
      region.GetStatementItems (record { item = tree.Number; target = to_v } ∷ [])
  -- EXIT HANDLER FOR NOT FOUND, with its action
  pub handler : (s : Seeing) (action : Stmt) → block_region s (record {
    atomic = true;
    variables = record { first = 1; count = 2; data_type = Integer; default = None } ∷ [];
    first_cursor = 0;
    cursors = [];
    handlers = handler_region (record {
      handler_type = follows.Exit;
      values = waited.NotFound ∷ [];
      action = action;
    }) ∷ [];
    statements = [];
  }) ≡ region.Compound true (tree.MoreVariables 2 Integer tree.Without tree.NoVariable)
      (region.MoreHandlers tree.Exit (tree.NotFound ∷ []) action region.NoHandler) region.NoStmt
  -- what isn't in form stands for nothing
  pub loop : (s : Seeing) → stmt_region s (BoundStmt-F.Loop (region.Leave 0 ∷ [])) ≡ nothing
