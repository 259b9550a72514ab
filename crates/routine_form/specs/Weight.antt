-- The weight of a body: how many statements a plan in its place would hold, where each of them
-- brings what the functions weigh that it calls, and once more what each handler in sight does.
-- ISO/IEC 9075-4, 14.1 (compound statement) and 14.2 (handler declaration).
use Rattle.std.specs.Prelude.{ℕ, Bool, true, false, List, [], ◌∷◌, map}
use Rattle.bound_trees.specs.declared.condition.BoundInformation.{BoundInformation}
use Rattle.bound_trees.specs.declared.condition.BoundInformation.TheVariants.{Statement, Condition}
use Rattle.bound_trees.specs.declared.statement.BoundBlock.{BoundBlock, fold-BoundBlock}
use Rattle.bound_trees.specs.declared.statement.BoundBranch.{BoundBranch, fold-BoundBranch}
use Rattle.bound_trees.specs.declared.statement.BoundHandler.{BoundHandler, fold-BoundHandler}
use Rattle.bound_trees.specs.declared.statement.BoundStmt.{BoundStmt, fold-BoundStmt}
use Rattle.bound_trees.specs.declared.statement.BoundStmt.TheOpen.{BoundStmt-F, BoundBlock-F}
use Rattle.bound_trees.specs.declared.statement.BoundStmt.TheOpen.{BoundBranch-F, BoundHandler-F}
use Rattle.bound_trees.specs.declared.statement.BoundVariables.{BoundVariables}
use Rattle.catalog_store.specs.Catalog.{Catalog}
use Rattle.routine_form.specs.declared.sum.TheConstants.{HEAVIEST}
use Rattle.routine_form.specs.Calls.{calls_in, calls_in_query, calls_if_there}
use Rattle.routine_form.specs.Sums.{add, total}

-- what a statement weighs, from what the actions of the handlers in sight weigh together
abbrev pub Weigh : Type 0
Weigh = ℕ → ℕ

-- a statement itself: one, what it calls, and what the handlers in sight do
abbrev pub itself : ℕ → Weigh
itself calls handlers = add 1 (add calls handlers)

-- statements one after the other
abbrev pub all : List Weigh → Weigh
all ws handlers = total (map (λ w. w handlers) ws)

-- a branch: what its test calls, and its statements
pub record WeighedBranch : Type 0 where
  pub test : ℕ
  pub body : Weigh

-- what the tests of several branches call
abbrev pub tests : List WeighedBranch → ℕ
tests branches = total (map (λ b. b.test) branches)

-- what the statements of several branches weigh
abbrev pub bodies : List WeighedBranch → Weigh
bodies branches handlers = total (map (λ b. b.body handlers) branches)

-- a choice: what it tests counts as its own
abbrev pub choice : ℕ → List WeighedBranch → List Weigh → Weigh
choice operand branches otherwise handlers =
    add (itself (add operand (tests branches)) handlers)
    (add (bodies branches handlers) (all otherwise handlers))

-- one declaration of variables
abbrev pub variables_weight : Catalog → ℕ → BoundVariables → ℕ
variables_weight known handlers v = itself (calls_if_there known v.default) handlers

-- what all declarations of variables weigh
abbrev pub declarations : Catalog → ℕ → List BoundVariables → ℕ
declarations known handlers vs = total (map (variables_weight known handlers) vs)

-- what the number of a condition in GET DIAGNOSTICS calls
abbrev pub information_calls : Catalog → BoundInformation → ℕ
information_calls known (Statement reads) = 0
information_calls known (Condition number reads) = calls_in known number

-- ---- one level

-- A statement counts one, what it calls, and what the handlers in sight do; IF and CASE count their
-- branches besides, and a compound statement only what stands in it.
abbrev pub stmt_weight : Catalog → BoundStmt-F Weigh Weigh WeighedBranch Weigh → Weigh
stmt_weight known (BoundStmt-F.Block b) handlers = b handlers
stmt_weight known (BoundStmt-F.If branches otherwise) handlers =
    choice 0 branches otherwise handlers
stmt_weight known (BoundStmt-F.Case operand branches otherwise) handlers =
    choice (calls_if_there known operand) branches otherwise handlers
stmt_weight known (BoundStmt-F.Set target e) handlers = itself (calls_in known e) handlers
stmt_weight known (BoundStmt-F.SelectInto query targets) handlers =
    itself (calls_in_query known query) handlers
stmt_weight known (BoundStmt-F.Signal s) handlers = itself (calls_if_there known s.message) handlers
stmt_weight known (BoundStmt-F.Resignal s) handlers =
    itself (calls_if_there known s.message) handlers
stmt_weight known (BoundStmt-F.GetDiagnostics d) handlers =
    itself (information_calls known d.information) handlers
stmt_weight known (BoundStmt-F.Leave outwards) handlers = itself 0 handlers
stmt_weight known (BoundStmt-F.Return e) handlers = itself (calls_in known e) handlers
-- no plan takes another statement
stmt_weight known _ handlers = HEAVIEST

-- What stands in a compound statement, in sight of handlers outside it: its variables are declared
-- outside its own handlers, and so are the actions of these.
abbrev pub inside : Catalog → List BoundVariables → List Weigh → List Weigh → Weigh
inside known variables actions statements outer =
    add (declarations known outer variables) (all statements (add (all actions outer) outer))

-- Into an ATOMIC compound statement no handler outside it looks: it waits for the whole.
abbrev pub compound : Bool → Weigh → Weigh
compound false within handlers = within handlers
compound true within handlers = add handlers (within 0)

-- a compound statement: its declarations, its handlers' actions and its statements
abbrev pub block_weight : Catalog → BoundBlock-F Weigh Weigh WeighedBranch Weigh → Weigh
block_weight known b handlers = compound b.atomic (inside known b.variables b.handlers b.statements)
    handlers

-- a test with its statements
abbrev pub branch_weight : Catalog → BoundBranch-F Weigh Weigh WeighedBranch Weigh → WeighedBranch
branch_weight known b = record { test = calls_in known b.test; body = all b.body }

-- a handler weighs what its action does
abbrev pub handler_weight : BoundHandler-F Weigh Weigh WeighedBranch Weigh → Weigh
handler_weight h = h.action

-- ---- whole trees

-- what a statement weighs where the handlers in sight weigh so much
abbrev pub weight_under : Catalog → BoundStmt → Weigh
weight_under known = fold-BoundStmt Weigh Weigh WeighedBranch Weigh (stmt_weight known)
    (block_weight known) (branch_weight known) handler_weight

-- what a compound statement weighs there
abbrev pub weight_of_block : Catalog → BoundBlock → Weigh
weight_of_block known = fold-BoundBlock Weigh Weigh WeighedBranch Weigh (stmt_weight known)
    (block_weight known) (branch_weight known) handler_weight

-- what a test with its statements weighs there
abbrev pub weight_of_branch : Catalog → BoundBranch → WeighedBranch
weight_of_branch known = fold-BoundBranch Weigh Weigh WeighedBranch Weigh (stmt_weight known)
    (block_weight known) (branch_weight known) handler_weight

-- what a handler's action weighs there
abbrev pub weight_of_handler : Catalog → BoundHandler → Weigh
weight_of_handler known = fold-BoundHandler Weigh Weigh WeighedBranch Weigh (stmt_weight known)
    (block_weight known) (branch_weight known) handler_weight

-- a body has no handlers around it
abbrev pub weight : Catalog → BoundStmt → ℕ
weight known body = weight_under known body 0
