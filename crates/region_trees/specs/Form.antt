-- Which bodies are in form, so that a plan may stand in their place: of no other statements than
-- plans take, with expressions and queries that have plans, where blocks may have some too, and not
-- too heavy. ISO/IEC 9075-4, 14 (control statements) and 17 (diagnostics management); ISO/IEC
-- 9075-2, 14.7, 15.2 and 23.1.
use Rattle.std.specs.Prelude.{Bool, true, false, ◌&&◌, not, List, length, nat_eq, nat_lt, Option}
use Rattle.std.specs.Prelude.{Some, None}
use Rattle.std.specs.List.{list_all}
use Rattle.bound_trees.specs.declared.condition.BoundArea.{BoundArea}
use Rattle.bound_trees.specs.declared.condition.BoundArea.TheVariants as area
use Rattle.bound_trees.specs.declared.condition.BoundDiagnostics.{BoundDiagnostics}
use Rattle.bound_trees.specs.declared.condition.BoundInformation.{BoundInformation}
use Rattle.bound_trees.specs.declared.condition.BoundInformation.TheVariants as information
use Rattle.bound_trees.specs.declared.expr.BoundExpr.{BoundExpr}
use Rattle.bound_trees.specs.declared.query.BoundQuery.{BoundQuery}
use Rattle.bound_trees.specs.declared.statement.BoundBlock.{BoundBlock, fold-BoundBlock}
use Rattle.bound_trees.specs.declared.statement.BoundBranch.{BoundBranch, fold-BoundBranch}
use Rattle.bound_trees.specs.declared.statement.BoundHandler.{BoundHandler, fold-BoundHandler}
use Rattle.bound_trees.specs.declared.statement.BoundStmt.{BoundStmt, fold-BoundStmt}
use Rattle.bound_trees.specs.declared.statement.BoundStmt.TheOpen.{BoundStmt-F, BoundBlock-F}
use Rattle.bound_trees.specs.declared.statement.BoundStmt.TheOpen.{BoundBranch-F, BoundHandler-F}
use Rattle.bound_trees.specs.declared.statement.BoundTarget.{BoundTarget}
use Rattle.bound_trees.specs.declared.statement.BoundVariables.{BoundVariables}
use Rattle.rel_algebra.specs.Plain.{planned, planned_expr}
use Rattle.block_plans.specs.Callees.{Callees}
use Rattle.block_plans.specs.View.{expr_seen, query_seen}
use Rattle.routine_form.specs.declared.sum.TheConstants.{HEAVIEST}
use Rattle.routine_form.specs.Weight.{weight}

-- ---- parts of statements that hold no statement

-- an expression has a plan, where it isn't left out
abbrev pub planned_if_there : Callees → Option BoundExpr → Bool
planned_if_there k None = true
planned_if_there k (Some e) = planned_expr (expr_seen k e)

-- the defaults of variables have plans
abbrev pub defaults_planned : Callees → List BoundVariables → Bool
defaults_planned k vs = list_all (λ v. planned_if_there k v.default) vs

-- the number of a condition has a plan
abbrev pub information_planned : Callees → BoundInformation → Bool
information_planned k (information.Statement rs) = true
information_planned k (information.Condition n rs) = planned_expr (expr_seen k n)

-- items are read in form where their area is the stacked one
abbrev pub reads_formed : Callees → BoundArea → BoundInformation → Bool
reads_formed k area.Current i = false
reads_formed k area.Stacked i = information_planned k i

-- GET DIAGNOSTICS is in form as its area and its items are
abbrev pub get_formed : Callees → BoundDiagnostics → Bool
get_formed k d = reads_formed k d.area d.information

-- a SELECT INTO that stores a value at least
abbrev pub into_formed : Callees → BoundQuery → List BoundTarget → Bool
into_formed k q ts = not (nat_eq (length ts) 0) && planned (query_seen k q)

-- declarations of variables with defaults that have plans, and of no cursor
abbrev pub declares_formed : Callees → List BoundVariables → List BoundQuery → Bool
declares_formed k vs cursors = nat_eq (length cursors) 0 && defaults_planned k vs

-- ---- one level, with whether what stands inside is in form

-- each of them
abbrev pub all : List Bool → Bool
all bs = list_all (λ b. b) bs

-- No other statement is in form: none that writes, none that moves a cursor, no loop and no CALL.
abbrev pub stmt_formed : Callees → BoundStmt-F Bool Bool Bool Bool → Bool
stmt_formed k (BoundStmt-F.Block b) = b
stmt_formed k (BoundStmt-F.If bs ss) = all bs && all ss
stmt_formed k (BoundStmt-F.Case operand bs ss) =
    planned_if_there k operand && (all bs && all ss)
stmt_formed k (BoundStmt-F.Set t e) = planned_expr (expr_seen k e)
stmt_formed k (BoundStmt-F.SelectInto q ts) = into_formed k q ts
stmt_formed k (BoundStmt-F.Signal s) = planned_if_there k s.message
stmt_formed k (BoundStmt-F.Resignal s) = planned_if_there k s.message
stmt_formed k (BoundStmt-F.GetDiagnostics d) = get_formed k d
stmt_formed k (BoundStmt-F.Leave level) = true
stmt_formed k (BoundStmt-F.Return e) = planned_expr (expr_seen k e)
stmt_formed k _ = false

-- a compound statement that declares no cursor
abbrev pub block_formed : Callees → BoundBlock-F Bool Bool Bool Bool → Bool
block_formed k b =
    declares_formed k b.variables b.cursors && (all b.handlers && all b.statements)

-- a test with its statements
abbrev pub branch_formed : Callees → BoundBranch-F Bool Bool Bool Bool → Bool
branch_formed k b = planned_expr (expr_seen k b.test) && all b.body

-- a handler by its action
abbrev pub handler_formed : BoundHandler-F Bool Bool Bool Bool → Bool
handler_formed h = h.action

-- ---- whole trees

-- a statement: it and all in it are such statements, whose expressions and queries have plans
abbrev pub formed : Callees → BoundStmt → Bool
formed k = fold-BoundStmt Bool Bool Bool Bool (stmt_formed k) (block_formed k)
    (branch_formed k) handler_formed

-- a compound statement
abbrev pub formed_block : Callees → BoundBlock → Bool
formed_block k = fold-BoundBlock Bool Bool Bool Bool (stmt_formed k) (block_formed k)
    (branch_formed k) handler_formed

-- a test with its statements
abbrev pub formed_branch : Callees → BoundBranch → Bool
formed_branch k = fold-BoundBranch Bool Bool Bool Bool (stmt_formed k) (block_formed k)
    (branch_formed k) handler_formed

-- a handler's action
abbrev pub formed_handler : Callees → BoundHandler → Bool
formed_handler k = fold-BoundHandler Bool Bool Bool Bool (stmt_formed k)
    (block_formed k) (branch_formed k) handler_formed

-- such a body is in form where it is not too heavy: where counting its weight doesn't reach the
-- heaviest
abbrev pub in_form : Callees → BoundStmt → Bool
in_form k body = formed k body && nat_lt (weight k.known body) HEAVIEST
