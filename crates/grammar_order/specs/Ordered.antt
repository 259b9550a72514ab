-- Whether in each compound statement the handlers stand after all other declarations. ISO/IEC
-- 9075-4, 14.1 (compound statement).
use Rattle.std.specs.Prelude.{Bool, true, false, ◌&&◌, List, [], ◌∷◌, map}
use Rattle.std.specs.List.{list_all}
use Rattle.statement_trees.specs.declared.statement.Block.{Block, fold-Block}
use Rattle.statement_trees.specs.declared.statement.Branch.{Branch, fold-Branch}
use Rattle.statement_trees.specs.declared.statement.Case.{Case, fold-Case}
use Rattle.statement_trees.specs.declared.statement.CreateFunction.{CreateFunction}
use Rattle.statement_trees.specs.declared.statement.CreateFunction.{fold-CreateFunction}
use Rattle.statement_trees.specs.declared.statement.CreateProcedure.{CreateProcedure}
use Rattle.statement_trees.specs.declared.statement.CreateProcedure.{fold-CreateProcedure}
use Rattle.statement_trees.specs.declared.statement.Declaration.{Declaration, fold-Declaration}
use Rattle.statement_trees.specs.declared.statement.Declaration.TheOpen.{Declaration-F, Stmt-F}
use Rattle.statement_trees.specs.declared.statement.Declaration.TheOpen.{Structure-F, Block-F}
use Rattle.statement_trees.specs.declared.statement.Declaration.TheOpen.{Branch-F, Case-F}
use Rattle.statement_trees.specs.declared.statement.Declaration.TheOpen.{CreateFunction-F}
use Rattle.statement_trees.specs.declared.statement.Declaration.TheOpen.{CreateProcedure-F}
use Rattle.statement_trees.specs.declared.statement.Declaration.TheOpen.{Handler-F, If-F}
use Rattle.statement_trees.specs.declared.statement.Declaration.TheOpen.{Labelled-F}
use Rattle.statement_trees.specs.declared.statement.Handler.{Handler, fold-Handler}
use Rattle.statement_trees.specs.declared.statement.If.{If, fold-If}
use Rattle.statement_trees.specs.declared.statement.Labelled.{Labelled, fold-Labelled}
use Rattle.statement_trees.specs.declared.statement.Stmt.{Stmt, fold-Stmt}
use Rattle.statement_trees.specs.declared.statement.Structure.{Structure, fold-Structure}

-- a declaration: whether it is a handler, and whether those in it are in order
pub record OrderedDeclaration : Type 0 where
  pub is_handler : Bool
  pub is_ordered : Bool

-- after a handler stand handlers alone; the first says whether one stands before
abbrev pub handlers_last : Bool → List Bool → Bool
handlers_last seen [] = true
handlers_last false (handler ∷ more) = handlers_last handler more
handlers_last true (handler ∷ more) = handler && handlers_last true more

-- all of several parts are in order
abbrev pub all_ordered : List Bool → Bool
all_ordered bs = list_all (λ b. b) bs

-- which of the declarations are handlers, from the first on
abbrev pub handlers_of : List OrderedDeclaration → List Bool
handlers_of ds = map (λ d. d.is_handler) ds

-- the handlers stand last, and what each of them does is in order
abbrev pub ordered_declarations : List OrderedDeclaration → Bool
ordered_declarations ds = handlers_last false (handlers_of ds) && all_ordered
    (map (λ d. d.is_ordered) ds)

-- ---- one layer

-- what a declaration is, once its action is judged: only a handler has one
abbrev pub declaration_ordered : Declaration-F OrderedDeclaration Bool Bool Bool Bool Bool Bool Bool
    Bool Bool Bool → OrderedDeclaration
declaration_ordered (Declaration-F.Variables d) = record { is_handler = false; is_ordered = true }
declaration_ordered (Declaration-F.Condition d) = record { is_handler = false; is_ordered = true }
declaration_ordered (Declaration-F.Cursor d) = record { is_handler = false; is_ordered = true }
declaration_ordered (Declaration-F.Handler h) = record { is_handler = true; is_ordered = h }

-- a statement, once the statements in it are judged; one that holds none is in order
abbrev pub stmt_ordered : Stmt-F OrderedDeclaration Bool Bool Bool Bool Bool Bool Bool Bool Bool
    Bool → Bool
stmt_ordered (Stmt-F.CreateFunction b) = b
stmt_ordered (Stmt-F.CreateProcedure b) = b
stmt_ordered (Stmt-F.Labelled b) = b
stmt_ordered (Stmt-F.If b) = b
stmt_ordered (Stmt-F.Case b) = b
stmt_ordered _ = true

-- a compound statement, or a loop by its body
abbrev pub structure_ordered : Structure-F OrderedDeclaration Bool Bool Bool Bool Bool Bool Bool
    Bool Bool Bool → Bool
structure_ordered (Structure-F.Block b) = b
structure_ordered (Structure-F.Loop body) = all_ordered body
structure_ordered (Structure-F.While test body) = all_ordered body
structure_ordered (Structure-F.Repeat body test) = all_ordered body
structure_ordered (Structure-F.For i q body) = all_ordered body

-- a compound statement: its declarations and its statements are in order
abbrev pub block_ordered : Block-F OrderedDeclaration Bool Bool Bool Bool Bool Bool Bool Bool Bool
    Bool → Bool
block_ordered b = ordered_declarations b.declarations && all_ordered b.statements

-- the statements after one test
abbrev pub branch_ordered : Branch-F OrderedDeclaration Bool Bool Bool Bool Bool Bool Bool Bool Bool
    Bool → Bool
branch_ordered b = all_ordered b.body

-- CASE: each WHEN and the ELSE
abbrev pub case_ordered : Case-F OrderedDeclaration Bool Bool Bool Bool Bool Bool Bool Bool Bool
    Bool → Bool
case_ordered c = all_ordered c.branches && all_ordered c.otherwise

-- a function's definition is in order where its body is
abbrev pub function_ordered : CreateFunction-F OrderedDeclaration Bool Bool Bool Bool Bool Bool Bool
    Bool Bool Bool → Bool
function_ordered c = c.body

-- a procedure's likewise
abbrev pub procedure_ordered : CreateProcedure-F OrderedDeclaration Bool Bool Bool Bool Bool Bool
    Bool Bool Bool Bool → Bool
procedure_ordered c = c.body

-- a handler is in order where its action is
abbrev pub handler_ordered : Handler-F OrderedDeclaration Bool Bool Bool Bool Bool Bool Bool Bool
    Bool Bool → Bool
handler_ordered h = h.action

-- IF: each test's statements and the ELSE
abbrev pub if_ordered : If-F OrderedDeclaration Bool Bool Bool Bool Bool Bool Bool Bool Bool Bool →
    Bool
if_ordered c = all_ordered c.branches && all_ordered c.otherwise

-- a label changes nothing
abbrev pub labelled_ordered : Labelled-F OrderedDeclaration Bool Bool Bool Bool Bool Bool Bool Bool
    Bool Bool → Bool
labelled_ordered l = l.structure

-- ---- whole trees

-- In each compound statement within a statement the handlers stand last.
abbrev pub is_ordered : Stmt → Bool
is_ordered = fold-Stmt OrderedDeclaration Bool Bool Bool Bool Bool Bool Bool Bool Bool Bool
    declaration_ordered stmt_ordered structure_ordered block_ordered branch_ordered case_ordered
    function_ordered procedure_ordered handler_ordered if_ordered labelled_ordered

-- the same of a declaration, with whether it is a handler
abbrev pub order_of_declaration : Declaration → OrderedDeclaration
order_of_declaration = fold-Declaration OrderedDeclaration Bool Bool Bool Bool Bool Bool Bool Bool
    Bool Bool
    declaration_ordered stmt_ordered structure_ordered block_ordered branch_ordered case_ordered
    function_ordered procedure_ordered handler_ordered if_ordered labelled_ordered

-- the same of a compound statement or a loop without its label
abbrev pub order_of_structure : Structure → Bool
order_of_structure = fold-Structure OrderedDeclaration Bool Bool Bool Bool Bool Bool Bool Bool Bool
    Bool
    declaration_ordered stmt_ordered structure_ordered block_ordered branch_ordered case_ordered
    function_ordered procedure_ordered handler_ordered if_ordered labelled_ordered

-- the same of a compound statement
abbrev pub order_of_block : Block → Bool
order_of_block = fold-Block OrderedDeclaration Bool Bool Bool Bool Bool Bool Bool Bool Bool Bool
    declaration_ordered stmt_ordered structure_ordered block_ordered branch_ordered case_ordered
    function_ordered procedure_ordered handler_ordered if_ordered labelled_ordered

-- the same of a test with its statements
abbrev pub order_of_branch : Branch → Bool
order_of_branch = fold-Branch OrderedDeclaration Bool Bool Bool Bool Bool Bool Bool Bool Bool Bool
    declaration_ordered stmt_ordered structure_ordered block_ordered branch_ordered case_ordered
    function_ordered procedure_ordered handler_ordered if_ordered labelled_ordered

-- the same of CASE
abbrev pub order_of_case : Case → Bool
order_of_case = fold-Case OrderedDeclaration Bool Bool Bool Bool Bool Bool Bool Bool Bool Bool
    declaration_ordered stmt_ordered structure_ordered block_ordered branch_ordered case_ordered
    function_ordered procedure_ordered handler_ordered if_ordered labelled_ordered

-- the same of CREATE FUNCTION
abbrev pub order_of_function : CreateFunction → Bool
order_of_function = fold-CreateFunction OrderedDeclaration Bool Bool Bool Bool Bool Bool Bool Bool
    Bool Bool
    declaration_ordered stmt_ordered structure_ordered block_ordered branch_ordered case_ordered
    function_ordered procedure_ordered handler_ordered if_ordered labelled_ordered

-- the same of CREATE PROCEDURE
abbrev pub order_of_procedure : CreateProcedure → Bool
order_of_procedure = fold-CreateProcedure OrderedDeclaration Bool Bool Bool Bool Bool Bool Bool Bool
    Bool Bool
    declaration_ordered stmt_ordered structure_ordered block_ordered branch_ordered case_ordered
    function_ordered procedure_ordered handler_ordered if_ordered labelled_ordered

-- the same of a handler
abbrev pub order_of_handler : Handler → Bool
order_of_handler = fold-Handler OrderedDeclaration Bool Bool Bool Bool Bool Bool Bool Bool Bool Bool
    declaration_ordered stmt_ordered structure_ordered block_ordered branch_ordered case_ordered
    function_ordered procedure_ordered handler_ordered if_ordered labelled_ordered

-- the same of IF
abbrev pub order_of_if : If → Bool
order_of_if = fold-If OrderedDeclaration Bool Bool Bool Bool Bool Bool Bool Bool Bool Bool
    declaration_ordered stmt_ordered structure_ordered block_ordered branch_ordered case_ordered
    function_ordered procedure_ordered handler_ordered if_ordered labelled_ordered

-- the same of a statement with its labels
abbrev pub order_of_labelled : Labelled → Bool
order_of_labelled = fold-Labelled OrderedDeclaration Bool Bool Bool Bool Bool Bool Bool Bool Bool
    Bool
    declaration_ordered stmt_ordered structure_ordered block_ordered branch_ordered case_ordered
    function_ordered procedure_ordered handler_ordered if_ordered labelled_ordered
