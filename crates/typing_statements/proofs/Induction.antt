-- Each statement without faults is well typed: by induction over written trees.
use Rattle.std.proofs.Common.{◌≡◌, sym, subst, Bool, true, false, List, [], ◌∷◌, map}
use Rattle.statement_trees.specs.declared.statement.Block.{Block, roll-Block}
use Rattle.statement_trees.specs.declared.statement.Branch.{Branch, roll-Branch}
use Rattle.statement_trees.specs.declared.statement.Case.{Case, roll-Case}
use Rattle.statement_trees.specs.declared.statement.CreateFunction.{CreateFunction}
use Rattle.statement_trees.specs.declared.statement.CreateFunction.{roll-CreateFunction}
use Rattle.statement_trees.specs.declared.statement.CreateFunction.{fold-CreateFunction}
use Rattle.statement_trees.specs.declared.statement.CreateProcedure.{CreateProcedure}
use Rattle.statement_trees.specs.declared.statement.CreateProcedure.{roll-CreateProcedure}
use Rattle.statement_trees.specs.declared.statement.CreateProcedure.{fold-CreateProcedure}
use Rattle.statement_trees.specs.declared.statement.Declaration.{Declaration, roll-Declaration}
use Rattle.statement_trees.specs.declared.statement.Declaration.TheFolds.{map-Declaration, map-Stmt}
use Rattle.statement_trees.specs.declared.statement.Declaration.TheFolds.{map-Structure, map-Block}
use Rattle.statement_trees.specs.declared.statement.Declaration.TheFolds.{map-Branch, map-Case}
use Rattle.statement_trees.specs.declared.statement.Declaration.TheFolds.{map-CreateFunction}
use Rattle.statement_trees.specs.declared.statement.Declaration.TheFolds.{map-CreateProcedure}
use Rattle.statement_trees.specs.declared.statement.Declaration.TheFolds.{map-Handler, map-If}
use Rattle.statement_trees.specs.declared.statement.Declaration.TheFolds.{map-Labelled}
use Rattle.statement_trees.specs.declared.statement.Declaration.TheFolds.{fold-roll-Declaration}
use Rattle.statement_trees.specs.declared.statement.Declaration.TheFolds.{fold-roll-Stmt}
use Rattle.statement_trees.specs.declared.statement.Declaration.TheFolds.{fold-roll-Structure}
use Rattle.statement_trees.specs.declared.statement.Declaration.TheFolds.{fold-roll-Block}
use Rattle.statement_trees.specs.declared.statement.Declaration.TheFolds.{fold-roll-Branch}
use Rattle.statement_trees.specs.declared.statement.Declaration.TheFolds.{fold-roll-Case}
use Rattle.statement_trees.specs.declared.statement.Declaration.TheFolds.{fold-roll-CreateFunction}
use Rattle.statement_trees.specs.declared.statement.Declaration.TheFolds.{fold-roll-CreateProcedure}
use Rattle.statement_trees.specs.declared.statement.Declaration.TheFolds.{fold-roll-Handler}
use Rattle.statement_trees.specs.declared.statement.Declaration.TheFolds.{fold-roll-If}
use Rattle.statement_trees.specs.declared.statement.Declaration.TheFolds.{fold-roll-Labelled}
use Rattle.statement_trees.specs.declared.statement.Declaration.TheFolds.{ind-Stmt}
use Rattle.statement_trees.specs.declared.statement.Declaration.TheOpen.{Declaration-F, Stmt-F}
use Rattle.statement_trees.specs.declared.statement.Declaration.TheOpen.{Structure-F, Block-F}
use Rattle.statement_trees.specs.declared.statement.Declaration.TheOpen.{Branch-F, Case-F}
use Rattle.statement_trees.specs.declared.statement.Declaration.TheOpen.{CreateFunction-F}
use Rattle.statement_trees.specs.declared.statement.Declaration.TheOpen.{CreateProcedure-F}
use Rattle.statement_trees.specs.declared.statement.Declaration.TheOpen.{Handler-F, If-F}
use Rattle.statement_trees.specs.declared.statement.Declaration.TheOpen.{Labelled-F}
use Rattle.statement_trees.specs.declared.statement.Handler.{Handler, roll-Handler}
use Rattle.statement_trees.specs.declared.statement.If.{If, roll-If}
use Rattle.statement_trees.specs.declared.statement.Labelled.{Labelled, roll-Labelled}
use Rattle.statement_trees.specs.declared.statement.Stmt.{Stmt, roll-Stmt}
use Rattle.statement_trees.specs.declared.statement.Structure.{Structure, roll-Structure}
use Rattle.bind_simple.specs.Anchors.{standing_of}
use Rattle.bind_simple.specs.Simple.{Judge}
use Rattle.bind_routines.specs.Statements.{JudgedBranch, JudgedStructure, JudgedDeclaration}
use Rattle.bind_routines.specs.Statements.{declaration_step, stmt_step, structure_step, block_step}
use Rattle.bind_routines.specs.Statements.{branch_step, case_step, function_step, procedure_step}
use Rattle.bind_routines.specs.Statements.{handler_step, if_step, labelled_step, judge_declaration}
use Rattle.bind_routines.specs.Statements.{judge_stmt, judge_structure, judge_block, judge_branch}
use Rattle.bind_routines.specs.Statements.{judge_case, judge_handler, judge_if, judge_labelled}
use Rattle.grammar_order.specs.Ordered.{OrderedDeclaration, handlers_last, handlers_of, all_ordered}
use Rattle.grammar_order.specs.Ordered.{ordered_declarations, declaration_ordered, stmt_ordered}
use Rattle.grammar_order.specs.Ordered.{structure_ordered, block_ordered, branch_ordered}
use Rattle.grammar_order.specs.Ordered.{case_ordered, function_ordered, procedure_ordered}
use Rattle.grammar_order.specs.Ordered.{handler_ordered, if_ordered, labelled_ordered}
use Rattle.grammar_order.specs.Ordered.{order_of_declaration, is_ordered, order_of_structure}
use Rattle.grammar_order.specs.Ordered.{order_of_block, order_of_branch, order_of_case}
use Rattle.grammar_order.specs.Ordered.{order_of_function, order_of_procedure, order_of_handler}
use Rattle.grammar_order.specs.Ordered.{order_of_if, order_of_labelled}
use Rattle.typing_statements.proofs.Blocks.{AllFit, AllBranches, AllDeclare, StructureFits}
use Rattle.typing_statements.proofs.Blocks.{DeclarationFits, BlockFits, if-fits, case-fits}
use Rattle.typing_statements.proofs.Blocks.{loop-fits, while-fits, repeat-fits, for-fits}
use Rattle.typing_statements.proofs.Blocks.{block-fits, block-stands, labelled-fits}
use Rattle.typing_statements.proofs.Declarations.{HandlerFits, variables-fit, condition-fits}
use Rattle.typing_statements.proofs.Declarations.{cursor-fits, handler-fits}
use Rattle.typing_statements.proofs.Lists.{left-true, right-true}
use Rattle.typing_statements.proofs.Simple.{StatementFits, leave-fits, iterate-fits, return-fits}
use Rattle.typing_statements.proofs.Simple.{signal-fits, resignal-fits, set-fits, select-into-fits}
use Rattle.typing_statements.proofs.Simple.{open-fits, close-fits, fetch-fits, get-fits, call-fits}
use Rattle.typing_statements.proofs.Simple.{insert-fits, update-fits, delete-fits, misplaced-fits}

abbrev judge_function : CreateFunction → Judge
judge_function = fold-CreateFunction JudgedDeclaration Judge JudgedStructure Judge JudgedBranch
    Judge Judge Judge JudgedDeclaration Judge Judge
    declaration_step stmt_step structure_step block_step branch_step case_step function_step
    procedure_step handler_step if_step labelled_step

abbrev judge_procedure : CreateProcedure → Judge
judge_procedure = fold-CreateProcedure JudgedDeclaration Judge JudgedStructure Judge JudgedBranch
    Judge Judge Judge JudgedDeclaration Judge Judge
    declaration_step stmt_step structure_step block_step branch_step case_step function_step
    procedure_step handler_step if_step labelled_step

-- ---- what is shown of each kind of tree, by its order and its judge

abbrev DeclarationShows : OrderedDeclaration → JudgedDeclaration → Type 0
DeclarationShows o d = o.is_ordered ≡ true → DeclarationFits o.is_handler d

abbrev StatementShows : Bool → Judge → Type 0
StatementShows o j = o ≡ true → StatementFits j

abbrev StructureShows : Bool → JudgedStructure → Type 0
StructureShows o s = o ≡ true → StructureFits s

abbrev BlockShows : Bool → Judge → Type 0
BlockShows o j = o ≡ true → BlockFits j

abbrev BranchShows : Bool → JudgedBranch → Type 0
BranchShows o b = o ≡ true → AllFit b.body

abbrev HandlerShows : Bool → JudgedDeclaration → Type 0
HandlerShows o d = o ≡ true → HandlerFits d

abbrev ShownDeclaration : Type 0
ShownDeclaration = (x : Declaration) × DeclarationShows (order_of_declaration x)
    (judge_declaration x)

abbrev ShownStmt : Type 0
ShownStmt = (x : Stmt) × StatementShows (is_ordered x) (judge_stmt x)

abbrev ShownStructure : Type 0
ShownStructure = (x : Structure) × StructureShows (order_of_structure x) (judge_structure x)

abbrev ShownBlock : Type 0
ShownBlock = (x : Block) × BlockShows (order_of_block x) (judge_block x)

abbrev ShownBranch : Type 0
ShownBranch = (x : Branch) × BranchShows (order_of_branch x) (judge_branch x)

abbrev ShownCase : Type 0
ShownCase = (x : Case) × StatementShows (order_of_case x) (judge_case x)

abbrev ShownCreateFunction : Type 0
ShownCreateFunction = (x : CreateFunction) × StatementShows (order_of_function x) (judge_function x)

abbrev ShownCreateProcedure : Type 0
ShownCreateProcedure = (x : CreateProcedure) ×
    StatementShows (order_of_procedure x) (judge_procedure x)

abbrev ShownHandler : Type 0
ShownHandler = (x : Handler) × HandlerShows (order_of_handler x) (judge_handler x)

abbrev ShownIf : Type 0
ShownIf = (x : If) × StatementShows (order_of_if x) (judge_if x)

abbrev ShownLabelled : Type 0
ShownLabelled = (x : Labelled) × StatementShows (order_of_labelled x) (judge_labelled x)

abbrev declaration-shown : Declaration-F ShownDeclaration ShownStmt ShownStructure ShownBlock
    ShownBranch ShownCase ShownCreateFunction ShownCreateProcedure ShownHandler ShownIf
    ShownLabelled → Declaration-F Declaration Stmt Structure Block Branch Case CreateFunction
    CreateProcedure Handler If Labelled
declaration-shown y = map-Declaration ShownDeclaration ShownStmt ShownStructure ShownBlock
    ShownBranch ShownCase ShownCreateFunction ShownCreateProcedure ShownHandler ShownIf
    ShownLabelled Declaration Stmt Structure Block Branch Case CreateFunction CreateProcedure
    Handler If Labelled (λ x. x.0) (λ x. x.0) (λ x. x.0) (λ x. x.0) (λ x. x.0) (λ x. x.0) (λ x. x.0)
    (λ x. x.0) (λ x. x.0) (λ x. x.0) (λ x. x.0) y

abbrev stmt-shown : Stmt-F ShownDeclaration ShownStmt ShownStructure ShownBlock ShownBranch
    ShownCase ShownCreateFunction ShownCreateProcedure ShownHandler ShownIf ShownLabelled →
    Stmt-F Declaration Stmt Structure Block Branch Case CreateFunction CreateProcedure Handler If
    Labelled
stmt-shown y = map-Stmt ShownDeclaration ShownStmt ShownStructure ShownBlock ShownBranch ShownCase
    ShownCreateFunction ShownCreateProcedure ShownHandler ShownIf ShownLabelled Declaration Stmt
    Structure Block Branch Case CreateFunction CreateProcedure Handler If Labelled (λ x. x.0)
    (λ x. x.0) (λ x. x.0) (λ x. x.0) (λ x. x.0) (λ x. x.0) (λ x. x.0) (λ x. x.0) (λ x. x.0)
    (λ x. x.0) (λ x. x.0) y

abbrev structure-shown : Structure-F ShownDeclaration ShownStmt ShownStructure ShownBlock
    ShownBranch ShownCase ShownCreateFunction ShownCreateProcedure ShownHandler ShownIf
    ShownLabelled → Structure-F Declaration Stmt Structure Block Branch Case CreateFunction
    CreateProcedure Handler If Labelled
structure-shown y = map-Structure ShownDeclaration ShownStmt ShownStructure ShownBlock ShownBranch
    ShownCase ShownCreateFunction ShownCreateProcedure ShownHandler ShownIf ShownLabelled
    Declaration Stmt Structure Block Branch Case CreateFunction CreateProcedure Handler If Labelled
    (λ x. x.0) (λ x. x.0) (λ x. x.0) (λ x. x.0) (λ x. x.0) (λ x. x.0) (λ x. x.0) (λ x. x.0)
    (λ x. x.0) (λ x. x.0) (λ x. x.0) y

abbrev block-shown : Block-F ShownDeclaration ShownStmt ShownStructure ShownBlock ShownBranch
    ShownCase ShownCreateFunction ShownCreateProcedure ShownHandler ShownIf ShownLabelled →
    Block-F Declaration Stmt Structure Block Branch Case CreateFunction CreateProcedure Handler If
    Labelled
block-shown y = map-Block ShownDeclaration ShownStmt ShownStructure ShownBlock ShownBranch ShownCase
    ShownCreateFunction ShownCreateProcedure ShownHandler ShownIf ShownLabelled Declaration Stmt
    Structure Block Branch Case CreateFunction CreateProcedure Handler If Labelled (λ x. x.0)
    (λ x. x.0) (λ x. x.0) (λ x. x.0) (λ x. x.0) (λ x. x.0) (λ x. x.0) (λ x. x.0) (λ x. x.0)
    (λ x. x.0) (λ x. x.0) y

abbrev branch-shown : Branch-F ShownDeclaration ShownStmt ShownStructure ShownBlock ShownBranch
    ShownCase ShownCreateFunction ShownCreateProcedure ShownHandler ShownIf ShownLabelled →
    Branch-F Declaration Stmt Structure Block Branch Case CreateFunction CreateProcedure Handler If
    Labelled
branch-shown y = map-Branch ShownDeclaration ShownStmt ShownStructure ShownBlock ShownBranch
    ShownCase ShownCreateFunction ShownCreateProcedure ShownHandler ShownIf ShownLabelled
    Declaration Stmt Structure Block Branch Case CreateFunction CreateProcedure Handler If Labelled
    (λ x. x.0) (λ x. x.0) (λ x. x.0) (λ x. x.0) (λ x. x.0) (λ x. x.0) (λ x. x.0) (λ x. x.0)
    (λ x. x.0) (λ x. x.0) (λ x. x.0) y

abbrev case-shown : Case-F ShownDeclaration ShownStmt ShownStructure ShownBlock ShownBranch
    ShownCase ShownCreateFunction ShownCreateProcedure ShownHandler ShownIf ShownLabelled →
    Case-F Declaration Stmt Structure Block Branch Case CreateFunction CreateProcedure Handler If
    Labelled
case-shown y = map-Case ShownDeclaration ShownStmt ShownStructure ShownBlock ShownBranch ShownCase
    ShownCreateFunction ShownCreateProcedure ShownHandler ShownIf ShownLabelled Declaration Stmt
    Structure Block Branch Case CreateFunction CreateProcedure Handler If Labelled (λ x. x.0)
    (λ x. x.0) (λ x. x.0) (λ x. x.0) (λ x. x.0) (λ x. x.0) (λ x. x.0) (λ x. x.0) (λ x. x.0)
    (λ x. x.0) (λ x. x.0) y

abbrev function-shown : CreateFunction-F ShownDeclaration ShownStmt ShownStructure ShownBlock
    ShownBranch ShownCase ShownCreateFunction ShownCreateProcedure ShownHandler ShownIf
    ShownLabelled → CreateFunction-F Declaration Stmt Structure Block Branch Case CreateFunction
    CreateProcedure Handler If Labelled
function-shown y = map-CreateFunction ShownDeclaration ShownStmt ShownStructure ShownBlock
    ShownBranch ShownCase ShownCreateFunction ShownCreateProcedure ShownHandler ShownIf
    ShownLabelled Declaration Stmt Structure Block Branch Case CreateFunction CreateProcedure
    Handler If Labelled (λ x. x.0) (λ x. x.0) (λ x. x.0) (λ x. x.0) (λ x. x.0) (λ x. x.0) (λ x. x.0)
    (λ x. x.0) (λ x. x.0) (λ x. x.0) (λ x. x.0) y

abbrev procedure-shown : CreateProcedure-F ShownDeclaration ShownStmt ShownStructure ShownBlock
    ShownBranch ShownCase ShownCreateFunction ShownCreateProcedure ShownHandler ShownIf
    ShownLabelled → CreateProcedure-F Declaration Stmt Structure Block Branch Case CreateFunction
    CreateProcedure Handler If Labelled
procedure-shown y = map-CreateProcedure ShownDeclaration ShownStmt ShownStructure ShownBlock
    ShownBranch ShownCase ShownCreateFunction ShownCreateProcedure ShownHandler ShownIf
    ShownLabelled Declaration Stmt Structure Block Branch Case CreateFunction CreateProcedure
    Handler If Labelled (λ x. x.0) (λ x. x.0) (λ x. x.0) (λ x. x.0) (λ x. x.0) (λ x. x.0) (λ x. x.0)
    (λ x. x.0) (λ x. x.0) (λ x. x.0) (λ x. x.0) y

abbrev handler-shown : Handler-F ShownDeclaration ShownStmt ShownStructure ShownBlock ShownBranch
    ShownCase ShownCreateFunction ShownCreateProcedure ShownHandler ShownIf ShownLabelled →
    Handler-F Declaration Stmt Structure Block Branch Case CreateFunction CreateProcedure Handler If
    Labelled
handler-shown y = map-Handler ShownDeclaration ShownStmt ShownStructure ShownBlock ShownBranch
    ShownCase ShownCreateFunction ShownCreateProcedure ShownHandler ShownIf ShownLabelled
    Declaration Stmt Structure Block Branch Case CreateFunction CreateProcedure Handler If Labelled
    (λ x. x.0) (λ x. x.0) (λ x. x.0) (λ x. x.0) (λ x. x.0) (λ x. x.0) (λ x. x.0) (λ x. x.0)
    (λ x. x.0) (λ x. x.0) (λ x. x.0) y

abbrev if-shown : If-F ShownDeclaration ShownStmt ShownStructure ShownBlock ShownBranch ShownCase
    ShownCreateFunction ShownCreateProcedure ShownHandler ShownIf ShownLabelled →
    If-F Declaration Stmt Structure Block Branch Case CreateFunction CreateProcedure Handler If
    Labelled
if-shown y = map-If ShownDeclaration ShownStmt ShownStructure ShownBlock ShownBranch ShownCase
    ShownCreateFunction ShownCreateProcedure ShownHandler ShownIf ShownLabelled Declaration Stmt
    Structure Block Branch Case CreateFunction CreateProcedure Handler If Labelled (λ x. x.0)
    (λ x. x.0) (λ x. x.0) (λ x. x.0) (λ x. x.0) (λ x. x.0) (λ x. x.0) (λ x. x.0) (λ x. x.0)
    (λ x. x.0) (λ x. x.0) y

abbrev labelled-shown : Labelled-F ShownDeclaration ShownStmt ShownStructure ShownBlock ShownBranch
    ShownCase ShownCreateFunction ShownCreateProcedure ShownHandler ShownIf ShownLabelled →
    Labelled-F Declaration Stmt Structure Block Branch Case CreateFunction CreateProcedure Handler
    If Labelled
labelled-shown y = map-Labelled ShownDeclaration ShownStmt ShownStructure ShownBlock ShownBranch
    ShownCase ShownCreateFunction ShownCreateProcedure ShownHandler ShownIf ShownLabelled
    Declaration Stmt Structure Block Branch Case CreateFunction CreateProcedure Handler If Labelled
    (λ x. x.0) (λ x. x.0) (λ x. x.0) (λ x. x.0) (λ x. x.0) (λ x. x.0) (λ x. x.0) (λ x. x.0)
    (λ x. x.0) (λ x. x.0) (λ x. x.0) y

abbrev declaration-judged : Declaration-F ShownDeclaration ShownStmt ShownStructure ShownBlock
    ShownBranch ShownCase ShownCreateFunction ShownCreateProcedure ShownHandler ShownIf
    ShownLabelled → Declaration-F JudgedDeclaration Judge JudgedStructure Judge JudgedBranch Judge
    Judge Judge JudgedDeclaration Judge Judge
declaration-judged y = map-Declaration Declaration Stmt Structure Block Branch Case CreateFunction
    CreateProcedure Handler If Labelled JudgedDeclaration Judge JudgedStructure Judge JudgedBranch
    Judge Judge Judge JudgedDeclaration Judge Judge judge_declaration judge_stmt judge_structure
    judge_block judge_branch judge_case judge_function judge_procedure judge_handler judge_if
    judge_labelled (declaration-shown y)

abbrev declaration-order : Declaration-F ShownDeclaration ShownStmt ShownStructure ShownBlock
    ShownBranch ShownCase ShownCreateFunction ShownCreateProcedure ShownHandler ShownIf
    ShownLabelled → Declaration-F OrderedDeclaration Bool Bool Bool Bool Bool Bool Bool Bool Bool
    Bool
declaration-order y = map-Declaration Declaration Stmt Structure Block Branch Case CreateFunction
    CreateProcedure Handler If Labelled OrderedDeclaration Bool Bool Bool Bool Bool Bool Bool Bool
    Bool Bool order_of_declaration is_ordered order_of_structure order_of_block order_of_branch
    order_of_case order_of_function order_of_procedure order_of_handler order_of_if
    order_of_labelled (declaration-shown y)

abbrev stmt-judged : Stmt-F ShownDeclaration ShownStmt ShownStructure ShownBlock ShownBranch
    ShownCase ShownCreateFunction ShownCreateProcedure ShownHandler ShownIf ShownLabelled →
    Stmt-F JudgedDeclaration Judge JudgedStructure Judge JudgedBranch Judge Judge Judge
    JudgedDeclaration Judge Judge
stmt-judged y = map-Stmt Declaration Stmt Structure Block Branch Case CreateFunction CreateProcedure
    Handler If Labelled JudgedDeclaration Judge JudgedStructure Judge JudgedBranch Judge Judge Judge
    JudgedDeclaration Judge Judge judge_declaration judge_stmt judge_structure judge_block
    judge_branch judge_case judge_function judge_procedure judge_handler judge_if judge_labelled
    (stmt-shown y)

abbrev stmt-order : Stmt-F ShownDeclaration ShownStmt ShownStructure ShownBlock ShownBranch
    ShownCase ShownCreateFunction ShownCreateProcedure ShownHandler ShownIf ShownLabelled →
    Stmt-F OrderedDeclaration Bool Bool Bool Bool Bool Bool Bool Bool Bool Bool
stmt-order y = map-Stmt Declaration Stmt Structure Block Branch Case CreateFunction CreateProcedure
    Handler If Labelled OrderedDeclaration Bool Bool Bool Bool Bool Bool Bool Bool Bool Bool
    order_of_declaration is_ordered order_of_structure order_of_block order_of_branch order_of_case
    order_of_function order_of_procedure order_of_handler order_of_if order_of_labelled
    (stmt-shown y)

abbrev structure-judged : Structure-F ShownDeclaration ShownStmt ShownStructure ShownBlock
    ShownBranch ShownCase ShownCreateFunction ShownCreateProcedure ShownHandler ShownIf
    ShownLabelled → Structure-F JudgedDeclaration Judge JudgedStructure Judge JudgedBranch Judge
    Judge Judge JudgedDeclaration Judge Judge
structure-judged y = map-Structure Declaration Stmt Structure Block Branch Case CreateFunction
    CreateProcedure Handler If Labelled JudgedDeclaration Judge JudgedStructure Judge JudgedBranch
    Judge Judge Judge JudgedDeclaration Judge Judge judge_declaration judge_stmt judge_structure
    judge_block judge_branch judge_case judge_function judge_procedure judge_handler judge_if
    judge_labelled (structure-shown y)

abbrev structure-order : Structure-F ShownDeclaration ShownStmt ShownStructure ShownBlock
    ShownBranch ShownCase ShownCreateFunction ShownCreateProcedure ShownHandler ShownIf
    ShownLabelled → Structure-F OrderedDeclaration Bool Bool Bool Bool Bool Bool Bool Bool Bool Bool
structure-order y = map-Structure Declaration Stmt Structure Block Branch Case CreateFunction
    CreateProcedure Handler If Labelled OrderedDeclaration Bool Bool Bool Bool Bool Bool Bool Bool
    Bool Bool order_of_declaration is_ordered order_of_structure order_of_block order_of_branch
    order_of_case order_of_function order_of_procedure order_of_handler order_of_if
    order_of_labelled (structure-shown y)

abbrev block-judged : Block-F ShownDeclaration ShownStmt ShownStructure ShownBlock ShownBranch
    ShownCase ShownCreateFunction ShownCreateProcedure ShownHandler ShownIf ShownLabelled →
    Block-F JudgedDeclaration Judge JudgedStructure Judge JudgedBranch Judge Judge Judge
    JudgedDeclaration Judge Judge
block-judged y = map-Block Declaration Stmt Structure Block Branch Case CreateFunction
    CreateProcedure Handler If Labelled JudgedDeclaration Judge JudgedStructure Judge JudgedBranch
    Judge Judge Judge JudgedDeclaration Judge Judge judge_declaration judge_stmt judge_structure
    judge_block judge_branch judge_case judge_function judge_procedure judge_handler judge_if
    judge_labelled (block-shown y)

abbrev block-order : Block-F ShownDeclaration ShownStmt ShownStructure ShownBlock ShownBranch
    ShownCase ShownCreateFunction ShownCreateProcedure ShownHandler ShownIf ShownLabelled →
    Block-F OrderedDeclaration Bool Bool Bool Bool Bool Bool Bool Bool Bool Bool
block-order y = map-Block Declaration Stmt Structure Block Branch Case CreateFunction
    CreateProcedure Handler If Labelled OrderedDeclaration Bool Bool Bool Bool Bool Bool Bool Bool
    Bool Bool order_of_declaration is_ordered order_of_structure order_of_block order_of_branch
    order_of_case order_of_function order_of_procedure order_of_handler order_of_if
    order_of_labelled (block-shown y)

abbrev branch-judged : Branch-F ShownDeclaration ShownStmt ShownStructure ShownBlock ShownBranch
    ShownCase ShownCreateFunction ShownCreateProcedure ShownHandler ShownIf ShownLabelled →
    Branch-F JudgedDeclaration Judge JudgedStructure Judge JudgedBranch Judge Judge Judge
    JudgedDeclaration Judge Judge
branch-judged y = map-Branch Declaration Stmt Structure Block Branch Case CreateFunction
    CreateProcedure Handler If Labelled JudgedDeclaration Judge JudgedStructure Judge JudgedBranch
    Judge Judge Judge JudgedDeclaration Judge Judge judge_declaration judge_stmt judge_structure
    judge_block judge_branch judge_case judge_function judge_procedure judge_handler judge_if
    judge_labelled (branch-shown y)

abbrev branch-order : Branch-F ShownDeclaration ShownStmt ShownStructure ShownBlock ShownBranch
    ShownCase ShownCreateFunction ShownCreateProcedure ShownHandler ShownIf ShownLabelled →
    Branch-F OrderedDeclaration Bool Bool Bool Bool Bool Bool Bool Bool Bool Bool
branch-order y = map-Branch Declaration Stmt Structure Block Branch Case CreateFunction
    CreateProcedure Handler If Labelled OrderedDeclaration Bool Bool Bool Bool Bool Bool Bool Bool
    Bool Bool order_of_declaration is_ordered order_of_structure order_of_block order_of_branch
    order_of_case order_of_function order_of_procedure order_of_handler order_of_if
    order_of_labelled (branch-shown y)

abbrev case-judged : Case-F ShownDeclaration ShownStmt ShownStructure ShownBlock ShownBranch
    ShownCase ShownCreateFunction ShownCreateProcedure ShownHandler ShownIf ShownLabelled →
    Case-F JudgedDeclaration Judge JudgedStructure Judge JudgedBranch Judge Judge Judge
    JudgedDeclaration Judge Judge
case-judged y = map-Case Declaration Stmt Structure Block Branch Case CreateFunction CreateProcedure
    Handler If Labelled JudgedDeclaration Judge JudgedStructure Judge JudgedBranch Judge Judge Judge
    JudgedDeclaration Judge Judge judge_declaration judge_stmt judge_structure judge_block
    judge_branch judge_case judge_function judge_procedure judge_handler judge_if judge_labelled
    (case-shown y)

abbrev case-order : Case-F ShownDeclaration ShownStmt ShownStructure ShownBlock ShownBranch
    ShownCase ShownCreateFunction ShownCreateProcedure ShownHandler ShownIf ShownLabelled →
    Case-F OrderedDeclaration Bool Bool Bool Bool Bool Bool Bool Bool Bool Bool
case-order y = map-Case Declaration Stmt Structure Block Branch Case CreateFunction CreateProcedure
    Handler If Labelled OrderedDeclaration Bool Bool Bool Bool Bool Bool Bool Bool Bool Bool
    order_of_declaration is_ordered order_of_structure order_of_block order_of_branch order_of_case
    order_of_function order_of_procedure order_of_handler order_of_if order_of_labelled
    (case-shown y)

abbrev function-judged : CreateFunction-F ShownDeclaration ShownStmt ShownStructure ShownBlock
    ShownBranch ShownCase ShownCreateFunction ShownCreateProcedure ShownHandler ShownIf
    ShownLabelled → CreateFunction-F JudgedDeclaration Judge JudgedStructure Judge JudgedBranch
    Judge Judge Judge JudgedDeclaration Judge Judge
function-judged y = map-CreateFunction Declaration Stmt Structure Block Branch Case CreateFunction
    CreateProcedure Handler If Labelled JudgedDeclaration Judge JudgedStructure Judge JudgedBranch
    Judge Judge Judge JudgedDeclaration Judge Judge judge_declaration judge_stmt judge_structure
    judge_block judge_branch judge_case judge_function judge_procedure judge_handler judge_if
    judge_labelled (function-shown y)

abbrev function-order : CreateFunction-F ShownDeclaration ShownStmt ShownStructure ShownBlock
    ShownBranch ShownCase ShownCreateFunction ShownCreateProcedure ShownHandler ShownIf
    ShownLabelled → CreateFunction-F OrderedDeclaration Bool Bool Bool Bool Bool Bool Bool Bool Bool
    Bool
function-order y = map-CreateFunction Declaration Stmt Structure Block Branch Case CreateFunction
    CreateProcedure Handler If Labelled OrderedDeclaration Bool Bool Bool Bool Bool Bool Bool Bool
    Bool Bool order_of_declaration is_ordered order_of_structure order_of_block order_of_branch
    order_of_case order_of_function order_of_procedure order_of_handler order_of_if
    order_of_labelled (function-shown y)

abbrev procedure-judged : CreateProcedure-F ShownDeclaration ShownStmt ShownStructure ShownBlock
    ShownBranch ShownCase ShownCreateFunction ShownCreateProcedure ShownHandler ShownIf
    ShownLabelled → CreateProcedure-F JudgedDeclaration Judge JudgedStructure Judge JudgedBranch
    Judge Judge Judge JudgedDeclaration Judge Judge
procedure-judged y = map-CreateProcedure Declaration Stmt Structure Block Branch Case CreateFunction
    CreateProcedure Handler If Labelled JudgedDeclaration Judge JudgedStructure Judge JudgedBranch
    Judge Judge Judge JudgedDeclaration Judge Judge judge_declaration judge_stmt judge_structure
    judge_block judge_branch judge_case judge_function judge_procedure judge_handler judge_if
    judge_labelled (procedure-shown y)

abbrev procedure-order : CreateProcedure-F ShownDeclaration ShownStmt ShownStructure ShownBlock
    ShownBranch ShownCase ShownCreateFunction ShownCreateProcedure ShownHandler ShownIf
    ShownLabelled → CreateProcedure-F OrderedDeclaration Bool Bool Bool Bool Bool Bool Bool Bool
    Bool Bool
procedure-order y = map-CreateProcedure Declaration Stmt Structure Block Branch Case CreateFunction
    CreateProcedure Handler If Labelled OrderedDeclaration Bool Bool Bool Bool Bool Bool Bool Bool
    Bool Bool order_of_declaration is_ordered order_of_structure order_of_block order_of_branch
    order_of_case order_of_function order_of_procedure order_of_handler order_of_if
    order_of_labelled (procedure-shown y)

abbrev handler-judged : Handler-F ShownDeclaration ShownStmt ShownStructure ShownBlock ShownBranch
    ShownCase ShownCreateFunction ShownCreateProcedure ShownHandler ShownIf ShownLabelled →
    Handler-F JudgedDeclaration Judge JudgedStructure Judge JudgedBranch Judge Judge Judge
    JudgedDeclaration Judge Judge
handler-judged y = map-Handler Declaration Stmt Structure Block Branch Case CreateFunction
    CreateProcedure Handler If Labelled JudgedDeclaration Judge JudgedStructure Judge JudgedBranch
    Judge Judge Judge JudgedDeclaration Judge Judge judge_declaration judge_stmt judge_structure
    judge_block judge_branch judge_case judge_function judge_procedure judge_handler judge_if
    judge_labelled (handler-shown y)

abbrev handler-order : Handler-F ShownDeclaration ShownStmt ShownStructure ShownBlock ShownBranch
    ShownCase ShownCreateFunction ShownCreateProcedure ShownHandler ShownIf ShownLabelled →
    Handler-F OrderedDeclaration Bool Bool Bool Bool Bool Bool Bool Bool Bool Bool
handler-order y = map-Handler Declaration Stmt Structure Block Branch Case CreateFunction
    CreateProcedure Handler If Labelled OrderedDeclaration Bool Bool Bool Bool Bool Bool Bool Bool
    Bool Bool order_of_declaration is_ordered order_of_structure order_of_block order_of_branch
    order_of_case order_of_function order_of_procedure order_of_handler order_of_if
    order_of_labelled (handler-shown y)

abbrev if-judged : If-F ShownDeclaration ShownStmt ShownStructure ShownBlock ShownBranch ShownCase
    ShownCreateFunction ShownCreateProcedure ShownHandler ShownIf ShownLabelled →
    If-F JudgedDeclaration Judge JudgedStructure Judge JudgedBranch Judge Judge Judge
    JudgedDeclaration Judge Judge
if-judged y = map-If Declaration Stmt Structure Block Branch Case CreateFunction CreateProcedure
    Handler If Labelled JudgedDeclaration Judge JudgedStructure Judge JudgedBranch Judge Judge Judge
    JudgedDeclaration Judge Judge judge_declaration judge_stmt judge_structure judge_block
    judge_branch judge_case judge_function judge_procedure judge_handler judge_if judge_labelled
    (if-shown y)

abbrev if-order : If-F ShownDeclaration ShownStmt ShownStructure ShownBlock ShownBranch ShownCase
    ShownCreateFunction ShownCreateProcedure ShownHandler ShownIf ShownLabelled →
    If-F OrderedDeclaration Bool Bool Bool Bool Bool Bool Bool Bool Bool Bool
if-order y = map-If Declaration Stmt Structure Block Branch Case CreateFunction CreateProcedure
    Handler If Labelled OrderedDeclaration Bool Bool Bool Bool Bool Bool Bool Bool Bool Bool
    order_of_declaration is_ordered order_of_structure order_of_block order_of_branch order_of_case
    order_of_function order_of_procedure order_of_handler order_of_if order_of_labelled (if-shown y)

abbrev labelled-judged : Labelled-F ShownDeclaration ShownStmt ShownStructure ShownBlock ShownBranch
    ShownCase ShownCreateFunction ShownCreateProcedure ShownHandler ShownIf ShownLabelled →
    Labelled-F JudgedDeclaration Judge JudgedStructure Judge JudgedBranch Judge Judge Judge
    JudgedDeclaration Judge Judge
labelled-judged y = map-Labelled Declaration Stmt Structure Block Branch Case CreateFunction
    CreateProcedure Handler If Labelled JudgedDeclaration Judge JudgedStructure Judge JudgedBranch
    Judge Judge Judge JudgedDeclaration Judge Judge judge_declaration judge_stmt judge_structure
    judge_block judge_branch judge_case judge_function judge_procedure judge_handler judge_if
    judge_labelled (labelled-shown y)

abbrev labelled-order : Labelled-F ShownDeclaration ShownStmt ShownStructure ShownBlock ShownBranch
    ShownCase ShownCreateFunction ShownCreateProcedure ShownHandler ShownIf ShownLabelled →
    Labelled-F OrderedDeclaration Bool Bool Bool Bool Bool Bool Bool Bool Bool Bool
labelled-order y = map-Labelled Declaration Stmt Structure Block Branch Case CreateFunction
    CreateProcedure Handler If Labelled OrderedDeclaration Bool Bool Bool Bool Bool Bool Bool Bool
    Bool Bool order_of_declaration is_ordered order_of_structure order_of_block order_of_branch
    order_of_case order_of_function order_of_procedure order_of_handler order_of_if
    order_of_labelled (labelled-shown y)

-- ---- lists

all-shown : (ss : List ShownStmt) → all_ordered (map is_ordered (map (λ x. x.0) ss)) ≡ true →
    AllFit (map judge_stmt (map (λ x. x.0) ss))
all-shown [] o = tt
all-shown (s ∷ ss) o =
    let more = all_ordered (map is_ordered (map (λ (x : ShownStmt). x.0) ss)) in
    (s.1 (left-true (is_ordered s.0) more o), all-shown ss (right-true (is_ordered s.0) more o))

branches-shown : (bs : List ShownBranch) → all_ordered (map order_of_branch (map (λ x. x.0) bs)) ≡
    true → AllBranches (map judge_branch (map (λ x. x.0) bs))
branches-shown [] o = tt
branches-shown (b ∷ bs) o =
    let more = all_ordered (map order_of_branch (map (λ (x : ShownBranch). x.0) bs)) in (
      b.1 (left-true (order_of_branch b.0) more o),
      branches-shown bs
          (right-true (order_of_branch b.0) more o),
    )

declarations-shown : (ds : List ShownDeclaration) →
    all_ordered (map (λ d. d.is_ordered) (map order_of_declaration (map (λ x. x.0) ds))) ≡ true
    → AllDeclare (handlers_of (map order_of_declaration (map (λ x. x.0) ds)))
    (map judge_declaration (map (λ x. x.0) ds))
declarations-shown [] o = tt
declarations-shown (d ∷ ds) o =
    let more = all_ordered (map (λ (x : OrderedDeclaration). x.is_ordered)
    (map order_of_declaration (map (λ (x : ShownDeclaration). x.0) ds))) in (
      d.1 (left-true (order_of_declaration d.0).is_ordered more o),
      declarations-shown ds
          (right-true (order_of_declaration d.0).is_ordered more o),
    )

-- ---- layers

declaration-layer : (y : Declaration-F ShownDeclaration ShownStmt ShownStructure ShownBlock
    ShownBranch ShownCase ShownCreateFunction ShownCreateProcedure ShownHandler ShownIf
    ShownLabelled) → DeclarationShows (declaration_ordered (declaration-order y))
    (declaration_step (declaration-judged y))
declaration-layer (Declaration-F.Variables d) o = variables-fit d
declaration-layer (Declaration-F.Condition d) o = condition-fits d
declaration-layer (Declaration-F.Cursor d) o = cursor-fits d
declaration-layer (Declaration-F.Handler h) o = h.1 o

stmt-layer : (y : Stmt-F ShownDeclaration ShownStmt ShownStructure ShownBlock ShownBranch ShownCase
    ShownCreateFunction ShownCreateProcedure ShownHandler ShownIf ShownLabelled) →
    StatementShows (stmt_ordered (stmt-order y)) (stmt_step (stmt-judged y))
stmt-layer (Stmt-F.CreateTable s) o = misplaced-fits s.anchor
stmt-layer (Stmt-F.CreateFunction x) o = x.1 o
stmt-layer (Stmt-F.CreateProcedure x) o = x.1 o
stmt-layer (Stmt-F.Drop s) o = misplaced-fits s.anchor
stmt-layer (Stmt-F.Query q) o = misplaced-fits (standing_of q.query).at
stmt-layer (Stmt-F.Explain at q) o = misplaced-fits at
stmt-layer (Stmt-F.Insert s) o = insert-fits s
stmt-layer (Stmt-F.Update s) o = update-fits s
stmt-layer (Stmt-F.Delete s) o = delete-fits s
stmt-layer (Stmt-F.Call s) o = call-fits s
stmt-layer (Stmt-F.Labelled x) o = x.1 o
stmt-layer (Stmt-F.If x) o = x.1 o
stmt-layer (Stmt-F.Case x) o = x.1 o
stmt-layer (Stmt-F.Set at a) o = set-fits a
stmt-layer (Stmt-F.SelectInto s) o = select-into-fits s
stmt-layer (Stmt-F.Open at i) o = open-fits i
stmt-layer (Stmt-F.Close at i) o = close-fits i
stmt-layer (Stmt-F.Fetch s) o = fetch-fits s
stmt-layer (Stmt-F.Signal s) o = signal-fits s
stmt-layer (Stmt-F.Resignal s) o = resignal-fits s
stmt-layer (Stmt-F.GetDiagnostics s) o = get-fits s
stmt-layer (Stmt-F.Leave at i) o = leave-fits i
stmt-layer (Stmt-F.Iterate at i) o = iterate-fits at i
stmt-layer (Stmt-F.Return at e) o = return-fits at e

structure-layer : (y : Structure-F ShownDeclaration ShownStmt ShownStructure ShownBlock ShownBranch
    ShownCase ShownCreateFunction ShownCreateProcedure ShownHandler ShownIf ShownLabelled) →
    StructureShows (structure_ordered (structure-order y)) (structure_step (structure-judged y))
structure-layer (Structure-F.Block b) o = block-stands (judge_block b.0) (b.1 o)
structure-layer (Structure-F.Loop body) o = loop-fits (map judge_stmt (map (λ x. x.0) body))
    (all-shown body o)
structure-layer (Structure-F.While test body) o =
    while-fits test (map judge_stmt (map (λ x. x.0) body)) (all-shown body o)
structure-layer (Structure-F.Repeat body test) o =
    repeat-fits (map judge_stmt (map (λ x. x.0) body)) test (all-shown body o)
structure-layer (Structure-F.For i q body) o =
    for-fits i q (map judge_stmt (map (λ x. x.0) body)) (all-shown body o)

block-layer : (y : Block-F ShownDeclaration ShownStmt ShownStructure ShownBlock ShownBranch
    ShownCase ShownCreateFunction ShownCreateProcedure ShownHandler ShownIf ShownLabelled) →
    BlockShows (block_ordered (block-order y)) (block_step (block-judged y))
block-layer y o =
    let ds = map order_of_declaration (map (λ (x : ShownDeclaration). x.0) y.declarations) in
    let last = handlers_last false (handlers_of ds) in
    let inside = all_ordered (map (λ (x : OrderedDeclaration). x.is_ordered) ds) in
    let ss = all_ordered (map is_ordered (map (λ (x : ShownStmt). x.0) y.statements)) in
    let front = left-true (ordered_declarations ds) ss o in
    block-fits y.atomic (handlers_of ds) (map judge_declaration (map (λ x. x.0) y.declarations))
    (map judge_stmt (map (λ x. x.0) y.statements))
    (declarations-shown y.declarations (right-true last inside front))
    (left-true last inside front) (all-shown y.statements
    (right-true (ordered_declarations ds) ss o))

branch-layer : (y : Branch-F ShownDeclaration ShownStmt ShownStructure ShownBlock ShownBranch
    ShownCase ShownCreateFunction ShownCreateProcedure ShownHandler ShownIf ShownLabelled) →
    BranchShows (branch_ordered (branch-order y)) (branch_step (branch-judged y))
branch-layer y o = all-shown y.body o

case-layer : (y : Case-F ShownDeclaration ShownStmt ShownStructure ShownBlock ShownBranch ShownCase
    ShownCreateFunction ShownCreateProcedure ShownHandler ShownIf ShownLabelled) →
    StatementShows (case_ordered (case-order y)) (case_step (case-judged y))
case-layer y o =
    let bs = all_ordered (map order_of_branch (map (λ (x : ShownBranch). x.0) y.branches)) in
    let ss = all_ordered (map is_ordered (map (λ (x : ShownStmt). x.0) y.otherwise)) in
    case-fits y.operand (map judge_branch (map (λ x. x.0) y.branches))
    (map judge_stmt (map (λ x. x.0) y.otherwise))
    (branches-shown y.branches (left-true bs ss o)) (all-shown y.otherwise (right-true bs ss o))

if-layer : (y : If-F ShownDeclaration ShownStmt ShownStructure ShownBlock ShownBranch ShownCase
    ShownCreateFunction ShownCreateProcedure ShownHandler ShownIf ShownLabelled) →
    StatementShows (if_ordered (if-order y)) (if_step (if-judged y))
if-layer y o =
    let bs = all_ordered (map order_of_branch (map (λ (x : ShownBranch). x.0) y.branches)) in
    let ss = all_ordered (map is_ordered (map (λ (x : ShownStmt). x.0) y.otherwise)) in
    if-fits (map judge_branch (map (λ x. x.0) y.branches))
    (map judge_stmt (map (λ x. x.0) y.otherwise))
    (branches-shown y.branches (left-true bs ss o)) (all-shown y.otherwise (right-true bs ss o))

function-layer : (y : CreateFunction-F ShownDeclaration ShownStmt ShownStructure ShownBlock
    ShownBranch ShownCase ShownCreateFunction ShownCreateProcedure ShownHandler ShownIf
    ShownLabelled) → StatementShows (function_ordered (function-order y))
    (function_step (function-judged y))
function-layer y o = misplaced-fits y.anchor

procedure-layer : (y : CreateProcedure-F ShownDeclaration ShownStmt ShownStructure ShownBlock
    ShownBranch ShownCase ShownCreateFunction ShownCreateProcedure ShownHandler ShownIf
    ShownLabelled) → StatementShows (procedure_ordered (procedure-order y))
    (procedure_step (procedure-judged y))
procedure-layer y o = misplaced-fits y.anchor

handler-layer : (y : Handler-F ShownDeclaration ShownStmt ShownStructure ShownBlock ShownBranch
    ShownCase ShownCreateFunction ShownCreateProcedure ShownHandler ShownIf ShownLabelled) →
    HandlerShows (handler_ordered (handler-order y)) (handler_step (handler-judged y))
handler-layer y o = handler-fits y.anchor y.handler_type y.values (judge_stmt y.action.0)
    (y.action.1 o)

labelled-layer : (y : Labelled-F ShownDeclaration ShownStmt ShownStructure ShownBlock ShownBranch
    ShownCase ShownCreateFunction ShownCreateProcedure ShownHandler ShownIf ShownLabelled) →
    StatementShows (labelled_ordered (labelled-order y)) (labelled_step (labelled-judged y))
labelled-layer y o = labelled-fits y.label y.end_label (judge_structure y.structure.0)
    (y.structure.1 o)

-- ---- the induction

pub statement-shown : (x : Stmt) → StatementShows (is_ordered x) (judge_stmt x)
statement-shown =
    ind-Stmt (λ x. DeclarationShows (order_of_declaration x) (judge_declaration x))
    (λ x. StatementShows (is_ordered x) (judge_stmt x))
    (λ x. StructureShows (order_of_structure x) (judge_structure x))
    (λ x. BlockShows (order_of_block x) (judge_block x))
    (λ x. BranchShows (order_of_branch x) (judge_branch x))
    (λ x. StatementShows (order_of_case x) (judge_case x))
    (λ x. StatementShows (order_of_function x) (judge_function x))
    (λ x. StatementShows (order_of_procedure x) (judge_procedure x))
    (λ x. HandlerShows (order_of_handler x) (judge_handler x))
    (λ x. StatementShows (order_of_if x) (judge_if x))
    (λ x. StatementShows (order_of_labelled x) (judge_labelled x))
    (λ x y is. subst (λ z. DeclarationShows (order_of_declaration (roll-Declaration z))
    (judge_declaration (roll-Declaration z))) is
    (subst (λ (o : OrderedDeclaration). DeclarationShows o
    (judge_declaration (roll-Declaration (declaration-shown y))))
    (sym (fold-roll-Declaration OrderedDeclaration Bool Bool Bool Bool Bool Bool Bool Bool Bool
    Bool declaration_ordered stmt_ordered structure_ordered block_ordered branch_ordered
    case_ordered function_ordered procedure_ordered handler_ordered if_ordered labelled_ordered
    (declaration-shown y)))
    (subst (λ (j : JudgedDeclaration). DeclarationShows (declaration_ordered (declaration-order y))
    j) (sym (fold-roll-Declaration JudgedDeclaration Judge JudgedStructure Judge JudgedBranch
    Judge Judge Judge JudgedDeclaration Judge Judge declaration_step stmt_step structure_step
    block_step branch_step case_step function_step procedure_step handler_step if_step
    labelled_step (declaration-shown y))) (declaration-layer y))))
    (λ x y is. subst (λ z. StatementShows (is_ordered (roll-Stmt z)) (judge_stmt (roll-Stmt z))) is
    (subst (λ (o : Bool). StatementShows o (judge_stmt (roll-Stmt (stmt-shown y))))
    (sym (fold-roll-Stmt OrderedDeclaration Bool Bool Bool Bool Bool Bool Bool Bool Bool Bool
    declaration_ordered stmt_ordered structure_ordered block_ordered branch_ordered case_ordered
    function_ordered procedure_ordered handler_ordered if_ordered labelled_ordered
    (stmt-shown y)))
    (subst (λ (j : Judge). StatementShows (stmt_ordered (stmt-order y)) j)
    (sym (fold-roll-Stmt JudgedDeclaration Judge JudgedStructure Judge JudgedBranch Judge Judge
    Judge JudgedDeclaration Judge Judge declaration_step stmt_step structure_step block_step
    branch_step case_step function_step procedure_step handler_step if_step labelled_step
    (stmt-shown y))) (stmt-layer y))))
    (λ x y is. subst (λ z. StructureShows (order_of_structure (roll-Structure z))
    (judge_structure (roll-Structure z))) is
    (subst (λ (o : Bool). StructureShows o (judge_structure (roll-Structure (structure-shown y))))
    (sym (fold-roll-Structure OrderedDeclaration Bool Bool Bool Bool Bool Bool Bool Bool Bool
    Bool declaration_ordered stmt_ordered structure_ordered block_ordered branch_ordered
    case_ordered function_ordered procedure_ordered handler_ordered if_ordered labelled_ordered
    (structure-shown y)))
    (subst (λ (j : JudgedStructure). StructureShows (structure_ordered (structure-order y)) j)
    (sym (fold-roll-Structure JudgedDeclaration Judge JudgedStructure Judge JudgedBranch Judge
    Judge Judge JudgedDeclaration Judge Judge declaration_step stmt_step structure_step
    block_step branch_step case_step function_step procedure_step handler_step if_step
    labelled_step (structure-shown y))) (structure-layer y))))
    (λ x y is. subst (λ z. BlockShows (order_of_block (roll-Block z)) (judge_block (roll-Block z)))
    is
    (subst (λ (o : Bool). BlockShows o (judge_block (roll-Block (block-shown y))))
    (sym (fold-roll-Block OrderedDeclaration Bool Bool Bool Bool Bool Bool Bool Bool Bool Bool
    declaration_ordered stmt_ordered structure_ordered block_ordered branch_ordered case_ordered
    function_ordered procedure_ordered handler_ordered if_ordered labelled_ordered
    (block-shown y)))
    (subst (λ (j : Judge). BlockShows (block_ordered (block-order y)) j)
    (sym (fold-roll-Block JudgedDeclaration Judge JudgedStructure Judge JudgedBranch Judge Judge
    Judge JudgedDeclaration Judge Judge declaration_step stmt_step structure_step block_step
    branch_step case_step function_step procedure_step handler_step if_step labelled_step
    (block-shown y))) (block-layer y))))
    (λ x y is. subst (λ z. BranchShows (order_of_branch (roll-Branch z))
    (judge_branch (roll-Branch z))) is
    (subst (λ (o : Bool). BranchShows o (judge_branch (roll-Branch (branch-shown y))))
    (sym (fold-roll-Branch OrderedDeclaration Bool Bool Bool Bool Bool Bool Bool Bool Bool Bool
    declaration_ordered stmt_ordered structure_ordered block_ordered branch_ordered case_ordered
    function_ordered procedure_ordered handler_ordered if_ordered labelled_ordered
    (branch-shown y)))
    (subst (λ (j : JudgedBranch). BranchShows (branch_ordered (branch-order y)) j)
    (sym (fold-roll-Branch JudgedDeclaration Judge JudgedStructure Judge JudgedBranch Judge
    Judge Judge JudgedDeclaration Judge Judge declaration_step stmt_step structure_step
    block_step branch_step case_step function_step procedure_step handler_step if_step
    labelled_step (branch-shown y))) (branch-layer y))))
    (λ x y is. subst (λ z. StatementShows (order_of_case (roll-Case z)) (judge_case (roll-Case z)))
    is
    (subst (λ (o : Bool). StatementShows o (judge_case (roll-Case (case-shown y))))
    (sym (fold-roll-Case OrderedDeclaration Bool Bool Bool Bool Bool Bool Bool Bool Bool Bool
    declaration_ordered stmt_ordered structure_ordered block_ordered branch_ordered case_ordered
    function_ordered procedure_ordered handler_ordered if_ordered labelled_ordered
    (case-shown y)))
    (subst (λ (j : Judge). StatementShows (case_ordered (case-order y)) j)
    (sym (fold-roll-Case JudgedDeclaration Judge JudgedStructure Judge JudgedBranch Judge Judge
    Judge JudgedDeclaration Judge Judge declaration_step stmt_step structure_step block_step
    branch_step case_step function_step procedure_step handler_step if_step labelled_step
    (case-shown y))) (case-layer y))))
    (λ x y is. subst (λ z. StatementShows (order_of_function (roll-CreateFunction z))
    (judge_function (roll-CreateFunction z))) is
    (subst (λ (o : Bool). StatementShows o (judge_function
    (roll-CreateFunction (function-shown y))))
    (sym (fold-roll-CreateFunction OrderedDeclaration Bool Bool Bool Bool Bool Bool Bool Bool
    Bool Bool declaration_ordered stmt_ordered structure_ordered block_ordered branch_ordered
    case_ordered function_ordered procedure_ordered handler_ordered if_ordered labelled_ordered
    (function-shown y)))
    (subst (λ (j : Judge). StatementShows (function_ordered (function-order y)) j)
    (sym (fold-roll-CreateFunction JudgedDeclaration Judge JudgedStructure Judge JudgedBranch
    Judge Judge Judge JudgedDeclaration Judge Judge declaration_step stmt_step structure_step
    block_step branch_step case_step function_step procedure_step handler_step if_step
    labelled_step (function-shown y))) (function-layer y))))
    (λ x y is. subst (λ z. StatementShows (order_of_procedure (roll-CreateProcedure z))
    (judge_procedure (roll-CreateProcedure z))) is
    (subst (λ (o : Bool). StatementShows o (judge_procedure
    (roll-CreateProcedure (procedure-shown y))))
    (sym (fold-roll-CreateProcedure OrderedDeclaration Bool Bool Bool Bool Bool Bool Bool Bool
    Bool Bool declaration_ordered stmt_ordered structure_ordered block_ordered branch_ordered
    case_ordered function_ordered procedure_ordered handler_ordered if_ordered labelled_ordered
    (procedure-shown y)))
    (subst (λ (j : Judge). StatementShows (procedure_ordered (procedure-order y)) j)
    (sym (fold-roll-CreateProcedure JudgedDeclaration Judge JudgedStructure Judge JudgedBranch
    Judge Judge Judge JudgedDeclaration Judge Judge declaration_step stmt_step structure_step
    block_step branch_step case_step function_step procedure_step handler_step if_step
    labelled_step (procedure-shown y))) (procedure-layer y))))
    (λ x y is. subst (λ z. HandlerShows (order_of_handler (roll-Handler z))
    (judge_handler (roll-Handler z))) is
    (subst (λ (o : Bool). HandlerShows o (judge_handler (roll-Handler (handler-shown y))))
    (sym (fold-roll-Handler OrderedDeclaration Bool Bool Bool Bool Bool Bool Bool Bool Bool Bool
    declaration_ordered stmt_ordered structure_ordered block_ordered branch_ordered case_ordered
    function_ordered procedure_ordered handler_ordered if_ordered labelled_ordered
    (handler-shown y)))
    (subst (λ (j : JudgedDeclaration). HandlerShows (handler_ordered (handler-order y)) j)
    (sym (fold-roll-Handler JudgedDeclaration Judge JudgedStructure Judge JudgedBranch Judge
    Judge Judge JudgedDeclaration Judge Judge declaration_step stmt_step structure_step
    block_step branch_step case_step function_step procedure_step handler_step if_step
    labelled_step (handler-shown y))) (handler-layer y))))
    (λ x y is. subst (λ z. StatementShows (order_of_if (roll-If z)) (judge_if (roll-If z))) is
    (subst (λ (o : Bool). StatementShows o (judge_if (roll-If (if-shown y))))
    (sym (fold-roll-If OrderedDeclaration Bool Bool Bool Bool Bool Bool Bool Bool Bool Bool
    declaration_ordered stmt_ordered structure_ordered block_ordered branch_ordered case_ordered
    function_ordered procedure_ordered handler_ordered if_ordered labelled_ordered
    (if-shown y)))
    (subst (λ (j : Judge). StatementShows (if_ordered (if-order y)) j)
    (sym (fold-roll-If JudgedDeclaration Judge JudgedStructure Judge JudgedBranch Judge Judge
    Judge JudgedDeclaration Judge Judge declaration_step stmt_step structure_step block_step
    branch_step case_step function_step procedure_step handler_step if_step labelled_step
    (if-shown y))) (if-layer y))))
    (λ x y is. subst (λ z. StatementShows (order_of_labelled (roll-Labelled z))
    (judge_labelled (roll-Labelled z))) is
    (subst (λ (o : Bool). StatementShows o (judge_labelled (roll-Labelled (labelled-shown y))))
    (sym (fold-roll-Labelled OrderedDeclaration Bool Bool Bool Bool Bool Bool Bool Bool Bool
    Bool declaration_ordered stmt_ordered structure_ordered block_ordered branch_ordered
    case_ordered function_ordered procedure_ordered handler_ordered if_ordered labelled_ordered
    (labelled-shown y)))
    (subst (λ (j : Judge). StatementShows (labelled_ordered (labelled-order y)) j)
    (sym (fold-roll-Labelled JudgedDeclaration Judge JudgedStructure Judge JudgedBranch Judge
    Judge Judge JudgedDeclaration Judge Judge declaration_step stmt_step structure_step
    block_step branch_step case_step function_step procedure_step handler_step if_step
    labelled_step (labelled-shown y))) (labelled-layer y))))
