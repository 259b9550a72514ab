-- Each statement without faults notes what it calls: by induction over written trees.
use Rattle.std.proofs.Common.{sym, subst, List, [], ◌∷◌, map}
use Rattle.std.specs.List.{AllByRecursion}
use Rattle.statement_trees.specs.declared.statement.Block.{Block, roll-Block}
use Rattle.statement_trees.specs.declared.statement.Branch.{Branch, roll-Branch}
use Rattle.statement_trees.specs.declared.statement.Case.{Case, roll-Case}
use Rattle.statement_trees.specs.declared.statement.CreateFunction.{CreateFunction}
use Rattle.statement_trees.specs.declared.statement.CreateFunction.{roll-CreateFunction}
use Rattle.statement_trees.specs.declared.statement.CreateFunction.{fold-CreateFunction}
use Rattle.statement_trees.specs.declared.statement.CreateProcedure.{CreateProcedure}
use Rattle.statement_trees.specs.declared.statement.CreateProcedure.{roll-CreateProcedure}
use Rattle.statement_trees.specs.declared.statement.CreateProcedure.{fold-CreateProcedure}
use Rattle.statement_trees.specs.declared.statement.Declaration.{Declaration, roll-Declaration}
use Rattle.statement_trees.specs.declared.statement.Declaration.TheFolds.{map-Declaration, map-Stmt}
use Rattle.statement_trees.specs.declared.statement.Declaration.TheFolds.{map-Structure, map-Block}
use Rattle.statement_trees.specs.declared.statement.Declaration.TheFolds.{map-Branch, map-Case}
use Rattle.statement_trees.specs.declared.statement.Declaration.TheFolds.{map-CreateFunction}
use Rattle.statement_trees.specs.declared.statement.Declaration.TheFolds.{map-CreateProcedure}
use Rattle.statement_trees.specs.declared.statement.Declaration.TheFolds.{map-Handler, map-If}
use Rattle.statement_trees.specs.declared.statement.Declaration.TheFolds.{map-Labelled}
use Rattle.statement_trees.specs.declared.statement.Declaration.TheFolds.{fold-roll-Declaration}
use Rattle.statement_trees.specs.declared.statement.Declaration.TheFolds.{fold-roll-Stmt}
use Rattle.statement_trees.specs.declared.statement.Declaration.TheFolds.{fold-roll-Structure}
use Rattle.statement_trees.specs.declared.statement.Declaration.TheFolds.{fold-roll-Block}
use Rattle.statement_trees.specs.declared.statement.Declaration.TheFolds.{fold-roll-Branch}
use Rattle.statement_trees.specs.declared.statement.Declaration.TheFolds.{fold-roll-Case}
use Rattle.statement_trees.specs.declared.statement.Declaration.TheFolds.{fold-roll-CreateFunction}
use Rattle.statement_trees.specs.declared.statement.Declaration.TheFolds.{fold-roll-CreateProcedure}
use Rattle.statement_trees.specs.declared.statement.Declaration.TheFolds.{fold-roll-Handler}
use Rattle.statement_trees.specs.declared.statement.Declaration.TheFolds.{fold-roll-If}
use Rattle.statement_trees.specs.declared.statement.Declaration.TheFolds.{fold-roll-Labelled}
use Rattle.statement_trees.specs.declared.statement.Declaration.TheFolds.{ind-Stmt}
use Rattle.statement_trees.specs.declared.statement.Declaration.TheOpen.{Declaration-F, Stmt-F}
use Rattle.statement_trees.specs.declared.statement.Declaration.TheOpen.{Structure-F, Block-F}
use Rattle.statement_trees.specs.declared.statement.Declaration.TheOpen.{Branch-F, Case-F}
use Rattle.statement_trees.specs.declared.statement.Declaration.TheOpen.{CreateFunction-F}
use Rattle.statement_trees.specs.declared.statement.Declaration.TheOpen.{CreateProcedure-F}
use Rattle.statement_trees.specs.declared.statement.Declaration.TheOpen.{Handler-F, If-F}
use Rattle.statement_trees.specs.declared.statement.Declaration.TheOpen.{Labelled-F}
use Rattle.statement_trees.specs.declared.statement.Handler.{Handler, roll-Handler}
use Rattle.statement_trees.specs.declared.statement.If.{If, roll-If}
use Rattle.statement_trees.specs.declared.statement.Labelled.{Labelled, roll-Labelled}
use Rattle.statement_trees.specs.declared.statement.Stmt.{Stmt, roll-Stmt}
use Rattle.statement_trees.specs.declared.statement.Structure.{Structure, roll-Structure}
use Rattle.bind_simple.specs.Anchors.{standing_of}
use Rattle.bind_simple.specs.Simple.{Judge}
use Rattle.bind_routines.specs.Statements.{JudgedBranch, JudgedStructure, JudgedDeclaration}
use Rattle.bind_routines.specs.Statements.{declaration_step, stmt_step, structure_step, block_step}
use Rattle.bind_routines.specs.Statements.{branch_step, case_step, function_step, procedure_step}
use Rattle.bind_routines.specs.Statements.{handler_step, if_step, labelled_step, judge_declaration}
use Rattle.bind_routines.specs.Statements.{judge_stmt, judge_structure, judge_block, judge_branch}
use Rattle.bind_routines.specs.Statements.{judge_case, judge_handler, judge_if, judge_labelled}
use Rattle.listed_calls.proofs.Blocks.{AllNote, BranchNotes, if-notes, case-notes, loop-notes}
use Rattle.listed_calls.proofs.Blocks.{while-notes, repeat-notes, for-notes, block-notes}
use Rattle.listed_calls.proofs.Blocks.{labelled-notes}
use Rattle.listed_calls.proofs.Declarations.{DeclarationNotes, variables-note, condition-notes}
use Rattle.listed_calls.proofs.Declarations.{cursor-notes, handler-notes}
use Rattle.listed_calls.proofs.Simple.{StatementNotes, leave-notes, iterate-notes, open-notes}
use Rattle.listed_calls.proofs.Simple.{close-notes, fetch-notes, get-notes, misplaced-notes}
use Rattle.listed_calls.proofs.Simple.{return-notes, set-notes, signal-notes, resignal-notes}
use Rattle.listed_calls.proofs.Simple.{select-into-notes, inserted-notes, changed-notes}
use Rattle.listed_calls.proofs.Simple.{removed-notes, call-notes}

abbrev judge_function : CreateFunction → Judge
judge_function = fold-CreateFunction JudgedDeclaration Judge JudgedStructure Judge JudgedBranch
    Judge Judge Judge JudgedDeclaration Judge Judge
    declaration_step stmt_step structure_step block_step branch_step case_step function_step
    procedure_step handler_step if_step labelled_step

abbrev judge_procedure : CreateProcedure → Judge
judge_procedure = fold-CreateProcedure JudgedDeclaration Judge JudgedStructure Judge JudgedBranch
    Judge Judge Judge JudgedDeclaration Judge Judge
    declaration_step stmt_step structure_step block_step branch_step case_step function_step
    procedure_step handler_step if_step labelled_step

-- ---- what is shown of each kind of tree, by its judge

abbrev ShownDeclaration : Type 0
ShownDeclaration = (x : Declaration) × DeclarationNotes (judge_declaration x)

abbrev ShownStmt : Type 0
ShownStmt = (x : Stmt) × StatementNotes (judge_stmt x)

abbrev ShownStructure : Type 0
ShownStructure = (x : Structure) × StatementNotes (judge_structure x).judge

abbrev ShownBlock : Type 0
ShownBlock = (x : Block) × StatementNotes (judge_block x)

abbrev ShownBranch : Type 0
ShownBranch = (x : Branch) × BranchNotes (judge_branch x)

abbrev ShownCase : Type 0
ShownCase = (x : Case) × StatementNotes (judge_case x)

abbrev ShownCreateFunction : Type 0
ShownCreateFunction = (x : CreateFunction) × StatementNotes (judge_function x)

abbrev ShownCreateProcedure : Type 0
ShownCreateProcedure = (x : CreateProcedure) × StatementNotes (judge_procedure x)

abbrev ShownHandler : Type 0
ShownHandler = (x : Handler) × DeclarationNotes (judge_handler x)

abbrev ShownIf : Type 0
ShownIf = (x : If) × StatementNotes (judge_if x)

abbrev ShownLabelled : Type 0
ShownLabelled = (x : Labelled) × StatementNotes (judge_labelled x)

abbrev declaration-shown : Declaration-F ShownDeclaration ShownStmt ShownStructure ShownBlock
    ShownBranch ShownCase ShownCreateFunction ShownCreateProcedure ShownHandler ShownIf
    ShownLabelled → Declaration-F Declaration Stmt Structure Block Branch Case CreateFunction
    CreateProcedure Handler If Labelled
declaration-shown y = map-Declaration ShownDeclaration ShownStmt ShownStructure ShownBlock
    ShownBranch ShownCase ShownCreateFunction ShownCreateProcedure ShownHandler ShownIf
    ShownLabelled Declaration Stmt Structure Block Branch Case CreateFunction CreateProcedure
    Handler If Labelled (λ x. x.0) (λ x. x.0) (λ x. x.0) (λ x. x.0) (λ x. x.0) (λ x. x.0) (λ x. x.0)
    (λ x. x.0) (λ x. x.0) (λ x. x.0) (λ x. x.0) y

abbrev stmt-shown : Stmt-F ShownDeclaration ShownStmt ShownStructure ShownBlock ShownBranch
    ShownCase ShownCreateFunction ShownCreateProcedure ShownHandler ShownIf ShownLabelled →
    Stmt-F Declaration Stmt Structure Block Branch Case CreateFunction CreateProcedure Handler If
    Labelled
stmt-shown y = map-Stmt ShownDeclaration ShownStmt ShownStructure ShownBlock ShownBranch ShownCase
    ShownCreateFunction ShownCreateProcedure ShownHandler ShownIf ShownLabelled Declaration Stmt
    Structure Block Branch Case CreateFunction CreateProcedure Handler If Labelled (λ x. x.0)
    (λ x. x.0) (λ x. x.0) (λ x. x.0) (λ x. x.0) (λ x. x.0) (λ x. x.0) (λ x. x.0) (λ x. x.0)
    (λ x. x.0) (λ x. x.0) y

abbrev structure-shown : Structure-F ShownDeclaration ShownStmt ShownStructure ShownBlock
    ShownBranch ShownCase ShownCreateFunction ShownCreateProcedure ShownHandler ShownIf
    ShownLabelled → Structure-F Declaration Stmt Structure Block Branch Case CreateFunction
    CreateProcedure Handler If Labelled
structure-shown y = map-Structure ShownDeclaration ShownStmt ShownStructure ShownBlock ShownBranch
    ShownCase ShownCreateFunction ShownCreateProcedure ShownHandler ShownIf ShownLabelled
    Declaration Stmt Structure Block Branch Case CreateFunction CreateProcedure Handler If Labelled
    (λ x. x.0) (λ x. x.0) (λ x. x.0) (λ x. x.0) (λ x. x.0) (λ x. x.0) (λ x. x.0) (λ x. x.0)
    (λ x. x.0) (λ x. x.0) (λ x. x.0) y

abbrev block-shown : Block-F ShownDeclaration ShownStmt ShownStructure ShownBlock ShownBranch
    ShownCase ShownCreateFunction ShownCreateProcedure ShownHandler ShownIf ShownLabelled →
    Block-F Declaration Stmt Structure Block Branch Case CreateFunction CreateProcedure Handler If
    Labelled
block-shown y = map-Block ShownDeclaration ShownStmt ShownStructure ShownBlock ShownBranch ShownCase
    ShownCreateFunction ShownCreateProcedure ShownHandler ShownIf ShownLabelled Declaration Stmt
    Structure Block Branch Case CreateFunction CreateProcedure Handler If Labelled (λ x. x.0)
    (λ x. x.0) (λ x. x.0) (λ x. x.0) (λ x. x.0) (λ x. x.0) (λ x. x.0) (λ x. x.0) (λ x. x.0)
    (λ x. x.0) (λ x. x.0) y

abbrev branch-shown : Branch-F ShownDeclaration ShownStmt ShownStructure ShownBlock ShownBranch
    ShownCase ShownCreateFunction ShownCreateProcedure ShownHandler ShownIf ShownLabelled →
    Branch-F Declaration Stmt Structure Block Branch Case CreateFunction CreateProcedure Handler If
    Labelled
branch-shown y = map-Branch ShownDeclaration ShownStmt ShownStructure ShownBlock ShownBranch
    ShownCase ShownCreateFunction ShownCreateProcedure ShownHandler ShownIf ShownLabelled
    Declaration Stmt Structure Block Branch Case CreateFunction CreateProcedure Handler If Labelled
    (λ x. x.0) (λ x. x.0) (λ x. x.0) (λ x. x.0) (λ x. x.0) (λ x. x.0) (λ x. x.0) (λ x. x.0)
    (λ x. x.0) (λ x. x.0) (λ x. x.0) y

abbrev case-shown : Case-F ShownDeclaration ShownStmt ShownStructure ShownBlock ShownBranch
    ShownCase ShownCreateFunction ShownCreateProcedure ShownHandler ShownIf ShownLabelled →
    Case-F Declaration Stmt Structure Block Branch Case CreateFunction CreateProcedure Handler If
    Labelled
case-shown y = map-Case ShownDeclaration ShownStmt ShownStructure ShownBlock ShownBranch ShownCase
    ShownCreateFunction ShownCreateProcedure ShownHandler ShownIf ShownLabelled Declaration Stmt
    Structure Block Branch Case CreateFunction CreateProcedure Handler If Labelled (λ x. x.0)
    (λ x. x.0) (λ x. x.0) (λ x. x.0) (λ x. x.0) (λ x. x.0) (λ x. x.0) (λ x. x.0) (λ x. x.0)
    (λ x. x.0) (λ x. x.0) y

abbrev function-shown : CreateFunction-F ShownDeclaration ShownStmt ShownStructure ShownBlock
    ShownBranch ShownCase ShownCreateFunction ShownCreateProcedure ShownHandler ShownIf
    ShownLabelled → CreateFunction-F Declaration Stmt Structure Block Branch Case CreateFunction
    CreateProcedure Handler If Labelled
function-shown y = map-CreateFunction ShownDeclaration ShownStmt ShownStructure ShownBlock
    ShownBranch ShownCase ShownCreateFunction ShownCreateProcedure ShownHandler ShownIf
    ShownLabelled Declaration Stmt Structure Block Branch Case CreateFunction CreateProcedure
    Handler If Labelled (λ x. x.0) (λ x. x.0) (λ x. x.0) (λ x. x.0) (λ x. x.0) (λ x. x.0) (λ x. x.0)
    (λ x. x.0) (λ x. x.0) (λ x. x.0) (λ x. x.0) y

abbrev procedure-shown : CreateProcedure-F ShownDeclaration ShownStmt ShownStructure ShownBlock
    ShownBranch ShownCase ShownCreateFunction ShownCreateProcedure ShownHandler ShownIf
    ShownLabelled → CreateProcedure-F Declaration Stmt Structure Block Branch Case CreateFunction
    CreateProcedure Handler If Labelled
procedure-shown y = map-CreateProcedure ShownDeclaration ShownStmt ShownStructure ShownBlock
    ShownBranch ShownCase ShownCreateFunction ShownCreateProcedure ShownHandler ShownIf
    ShownLabelled Declaration Stmt Structure Block Branch Case CreateFunction CreateProcedure
    Handler If Labelled (λ x. x.0) (λ x. x.0) (λ x. x.0) (λ x. x.0) (λ x. x.0) (λ x. x.0) (λ x. x.0)
    (λ x. x.0) (λ x. x.0) (λ x. x.0) (λ x. x.0) y

abbrev handler-shown : Handler-F ShownDeclaration ShownStmt ShownStructure ShownBlock ShownBranch
    ShownCase ShownCreateFunction ShownCreateProcedure ShownHandler ShownIf ShownLabelled →
    Handler-F Declaration Stmt Structure Block Branch Case CreateFunction CreateProcedure Handler If
    Labelled
handler-shown y = map-Handler ShownDeclaration ShownStmt ShownStructure ShownBlock ShownBranch
    ShownCase ShownCreateFunction ShownCreateProcedure ShownHandler ShownIf ShownLabelled
    Declaration Stmt Structure Block Branch Case CreateFunction CreateProcedure Handler If Labelled
    (λ x. x.0) (λ x. x.0) (λ x. x.0) (λ x. x.0) (λ x. x.0) (λ x. x.0) (λ x. x.0) (λ x. x.0)
    (λ x. x.0) (λ x. x.0) (λ x. x.0) y

abbrev if-shown : If-F ShownDeclaration ShownStmt ShownStructure ShownBlock ShownBranch ShownCase
    ShownCreateFunction ShownCreateProcedure ShownHandler ShownIf ShownLabelled →
    If-F Declaration Stmt Structure Block Branch Case CreateFunction CreateProcedure Handler If
    Labelled
if-shown y = map-If ShownDeclaration ShownStmt ShownStructure ShownBlock ShownBranch ShownCase
    ShownCreateFunction ShownCreateProcedure ShownHandler ShownIf ShownLabelled Declaration Stmt
    Structure Block Branch Case CreateFunction CreateProcedure Handler If Labelled (λ x. x.0)
    (λ x. x.0) (λ x. x.0) (λ x. x.0) (λ x. x.0) (λ x. x.0) (λ x. x.0) (λ x. x.0) (λ x. x.0)
    (λ x. x.0) (λ x. x.0) y

abbrev labelled-shown : Labelled-F ShownDeclaration ShownStmt ShownStructure ShownBlock ShownBranch
    ShownCase ShownCreateFunction ShownCreateProcedure ShownHandler ShownIf ShownLabelled →
    Labelled-F Declaration Stmt Structure Block Branch Case CreateFunction CreateProcedure Handler
    If Labelled
labelled-shown y = map-Labelled ShownDeclaration ShownStmt ShownStructure ShownBlock ShownBranch
    ShownCase ShownCreateFunction ShownCreateProcedure ShownHandler ShownIf ShownLabelled
    Declaration Stmt Structure Block Branch Case CreateFunction CreateProcedure Handler If Labelled
    (λ x. x.0) (λ x. x.0) (λ x. x.0) (λ x. x.0) (λ x. x.0) (λ x. x.0) (λ x. x.0) (λ x. x.0)
    (λ x. x.0) (λ x. x.0) (λ x. x.0) y

abbrev declaration-judged : Declaration-F ShownDeclaration ShownStmt ShownStructure ShownBlock
    ShownBranch ShownCase ShownCreateFunction ShownCreateProcedure ShownHandler ShownIf
    ShownLabelled → Declaration-F JudgedDeclaration Judge JudgedStructure Judge JudgedBranch Judge
    Judge Judge JudgedDeclaration Judge Judge
declaration-judged y = map-Declaration Declaration Stmt Structure Block Branch Case CreateFunction
    CreateProcedure Handler If Labelled JudgedDeclaration Judge JudgedStructure Judge JudgedBranch
    Judge Judge Judge JudgedDeclaration Judge Judge judge_declaration judge_stmt judge_structure
    judge_block judge_branch judge_case judge_function judge_procedure judge_handler judge_if
    judge_labelled (declaration-shown y)

abbrev stmt-judged : Stmt-F ShownDeclaration ShownStmt ShownStructure ShownBlock ShownBranch
    ShownCase ShownCreateFunction ShownCreateProcedure ShownHandler ShownIf ShownLabelled →
    Stmt-F JudgedDeclaration Judge JudgedStructure Judge JudgedBranch Judge Judge Judge
    JudgedDeclaration Judge Judge
stmt-judged y = map-Stmt Declaration Stmt Structure Block Branch Case CreateFunction CreateProcedure
    Handler If Labelled JudgedDeclaration Judge JudgedStructure Judge JudgedBranch Judge Judge Judge
    JudgedDeclaration Judge Judge judge_declaration judge_stmt judge_structure judge_block
    judge_branch judge_case judge_function judge_procedure judge_handler judge_if judge_labelled
    (stmt-shown y)

abbrev structure-judged : Structure-F ShownDeclaration ShownStmt ShownStructure ShownBlock
    ShownBranch ShownCase ShownCreateFunction ShownCreateProcedure ShownHandler ShownIf
    ShownLabelled → Structure-F JudgedDeclaration Judge JudgedStructure Judge JudgedBranch Judge
    Judge Judge JudgedDeclaration Judge Judge
structure-judged y = map-Structure Declaration Stmt Structure Block Branch Case CreateFunction
    CreateProcedure Handler If Labelled JudgedDeclaration Judge JudgedStructure Judge JudgedBranch
    Judge Judge Judge JudgedDeclaration Judge Judge judge_declaration judge_stmt judge_structure
    judge_block judge_branch judge_case judge_function judge_procedure judge_handler judge_if
    judge_labelled (structure-shown y)

abbrev block-judged : Block-F ShownDeclaration ShownStmt ShownStructure ShownBlock ShownBranch
    ShownCase ShownCreateFunction ShownCreateProcedure ShownHandler ShownIf ShownLabelled →
    Block-F JudgedDeclaration Judge JudgedStructure Judge JudgedBranch Judge Judge Judge
    JudgedDeclaration Judge Judge
block-judged y = map-Block Declaration Stmt Structure Block Branch Case CreateFunction
    CreateProcedure Handler If Labelled JudgedDeclaration Judge JudgedStructure Judge JudgedBranch
    Judge Judge Judge JudgedDeclaration Judge Judge judge_declaration judge_stmt judge_structure
    judge_block judge_branch judge_case judge_function judge_procedure judge_handler judge_if
    judge_labelled (block-shown y)

abbrev branch-judged : Branch-F ShownDeclaration ShownStmt ShownStructure ShownBlock ShownBranch
    ShownCase ShownCreateFunction ShownCreateProcedure ShownHandler ShownIf ShownLabelled →
    Branch-F JudgedDeclaration Judge JudgedStructure Judge JudgedBranch Judge Judge Judge
    JudgedDeclaration Judge Judge
branch-judged y = map-Branch Declaration Stmt Structure Block Branch Case CreateFunction
    CreateProcedure Handler If Labelled JudgedDeclaration Judge JudgedStructure Judge JudgedBranch
    Judge Judge Judge JudgedDeclaration Judge Judge judge_declaration judge_stmt judge_structure
    judge_block judge_branch judge_case judge_function judge_procedure judge_handler judge_if
    judge_labelled (branch-shown y)

abbrev case-judged : Case-F ShownDeclaration ShownStmt ShownStructure ShownBlock ShownBranch
    ShownCase ShownCreateFunction ShownCreateProcedure ShownHandler ShownIf ShownLabelled →
    Case-F JudgedDeclaration Judge JudgedStructure Judge JudgedBranch Judge Judge Judge
    JudgedDeclaration Judge Judge
case-judged y = map-Case Declaration Stmt Structure Block Branch Case CreateFunction CreateProcedure
    Handler If Labelled JudgedDeclaration Judge JudgedStructure Judge JudgedBranch Judge Judge Judge
    JudgedDeclaration Judge Judge judge_declaration judge_stmt judge_structure judge_block
    judge_branch judge_case judge_function judge_procedure judge_handler judge_if judge_labelled
    (case-shown y)

abbrev function-judged : CreateFunction-F ShownDeclaration ShownStmt ShownStructure ShownBlock
    ShownBranch ShownCase ShownCreateFunction ShownCreateProcedure ShownHandler ShownIf
    ShownLabelled → CreateFunction-F JudgedDeclaration Judge JudgedStructure Judge JudgedBranch
    Judge Judge Judge JudgedDeclaration Judge Judge
function-judged y = map-CreateFunction Declaration Stmt Structure Block Branch Case CreateFunction
    CreateProcedure Handler If Labelled JudgedDeclaration Judge JudgedStructure Judge JudgedBranch
    Judge Judge Judge JudgedDeclaration Judge Judge judge_declaration judge_stmt judge_structure
    judge_block judge_branch judge_case judge_function judge_procedure judge_handler judge_if
    judge_labelled (function-shown y)

abbrev procedure-judged : CreateProcedure-F ShownDeclaration ShownStmt ShownStructure ShownBlock
    ShownBranch ShownCase ShownCreateFunction ShownCreateProcedure ShownHandler ShownIf
    ShownLabelled → CreateProcedure-F JudgedDeclaration Judge JudgedStructure Judge JudgedBranch
    Judge Judge Judge JudgedDeclaration Judge Judge
procedure-judged y = map-CreateProcedure Declaration Stmt Structure Block Branch Case CreateFunction
    CreateProcedure Handler If Labelled JudgedDeclaration Judge JudgedStructure Judge JudgedBranch
    Judge Judge Judge JudgedDeclaration Judge Judge judge_declaration judge_stmt judge_structure
    judge_block judge_branch judge_case judge_function judge_procedure judge_handler judge_if
    judge_labelled (procedure-shown y)

abbrev handler-judged : Handler-F ShownDeclaration ShownStmt ShownStructure ShownBlock ShownBranch
    ShownCase ShownCreateFunction ShownCreateProcedure ShownHandler ShownIf ShownLabelled →
    Handler-F JudgedDeclaration Judge JudgedStructure Judge JudgedBranch Judge Judge Judge
    JudgedDeclaration Judge Judge
handler-judged y = map-Handler Declaration Stmt Structure Block Branch Case CreateFunction
    CreateProcedure Handler If Labelled JudgedDeclaration Judge JudgedStructure Judge JudgedBranch
    Judge Judge Judge JudgedDeclaration Judge Judge judge_declaration judge_stmt judge_structure
    judge_block judge_branch judge_case judge_function judge_procedure judge_handler judge_if
    judge_labelled (handler-shown y)

abbrev if-judged : If-F ShownDeclaration ShownStmt ShownStructure ShownBlock ShownBranch ShownCase
    ShownCreateFunction ShownCreateProcedure ShownHandler ShownIf ShownLabelled →
    If-F JudgedDeclaration Judge JudgedStructure Judge JudgedBranch Judge Judge Judge
    JudgedDeclaration Judge Judge
if-judged y = map-If Declaration Stmt Structure Block Branch Case CreateFunction CreateProcedure
    Handler If Labelled JudgedDeclaration Judge JudgedStructure Judge JudgedBranch Judge Judge Judge
    JudgedDeclaration Judge Judge judge_declaration judge_stmt judge_structure judge_block
    judge_branch judge_case judge_function judge_procedure judge_handler judge_if judge_labelled
    (if-shown y)

abbrev labelled-judged : Labelled-F ShownDeclaration ShownStmt ShownStructure ShownBlock ShownBranch
    ShownCase ShownCreateFunction ShownCreateProcedure ShownHandler ShownIf ShownLabelled →
    Labelled-F JudgedDeclaration Judge JudgedStructure Judge JudgedBranch Judge Judge Judge
    JudgedDeclaration Judge Judge
labelled-judged y = map-Labelled Declaration Stmt Structure Block Branch Case CreateFunction
    CreateProcedure Handler If Labelled JudgedDeclaration Judge JudgedStructure Judge JudgedBranch
    Judge Judge Judge JudgedDeclaration Judge Judge judge_declaration judge_stmt judge_structure
    judge_block judge_branch judge_case judge_function judge_procedure judge_handler judge_if
    judge_labelled (labelled-shown y)

-- ---- lists

all-shown : (ss : List ShownStmt) → AllNote (map judge_stmt (map (λ x. x.0) ss))
all-shown [] = tt
all-shown (s ∷ ss) = (s.1, all-shown ss)

branches-shown : (bs : List ShownBranch) →
    AllByRecursion BranchNotes (map judge_branch (map (λ x. x.0) bs))
branches-shown [] = tt
branches-shown (b ∷ bs) = (b.1, branches-shown bs)

declarations-shown : (ds : List ShownDeclaration) →
    AllByRecursion DeclarationNotes (map judge_declaration (map (λ x. x.0) ds))
declarations-shown [] = tt
declarations-shown (d ∷ ds) = (d.1, declarations-shown ds)

-- ---- layers

declaration-layer : (y : Declaration-F ShownDeclaration ShownStmt ShownStructure ShownBlock
    ShownBranch ShownCase ShownCreateFunction ShownCreateProcedure ShownHandler ShownIf
    ShownLabelled) →
    DeclarationNotes (declaration_step (declaration-judged y))
declaration-layer (Declaration-F.Variables d) = variables-note d
declaration-layer (Declaration-F.Condition d) = condition-notes d
declaration-layer (Declaration-F.Cursor d) = cursor-notes d
declaration-layer (Declaration-F.Handler h) = h.1

stmt-layer : (y : Stmt-F ShownDeclaration ShownStmt ShownStructure ShownBlock ShownBranch
    ShownCase ShownCreateFunction ShownCreateProcedure ShownHandler ShownIf ShownLabelled) →
    StatementNotes (stmt_step (stmt-judged y))
stmt-layer (Stmt-F.CreateTable s) = misplaced-notes s.anchor
stmt-layer (Stmt-F.CreateFunction x) = x.1
stmt-layer (Stmt-F.CreateProcedure x) = x.1
stmt-layer (Stmt-F.Drop s) = misplaced-notes s.anchor
stmt-layer (Stmt-F.Query q) = misplaced-notes (standing_of q.query).at
stmt-layer (Stmt-F.Explain at q) = misplaced-notes at
stmt-layer (Stmt-F.Insert s) = inserted-notes s
stmt-layer (Stmt-F.Update s) = changed-notes s
stmt-layer (Stmt-F.Delete s) = removed-notes s
stmt-layer (Stmt-F.Call s) = call-notes s
stmt-layer (Stmt-F.Labelled x) = x.1
stmt-layer (Stmt-F.If x) = x.1
stmt-layer (Stmt-F.Case x) = x.1
stmt-layer (Stmt-F.Set at a) = set-notes a
stmt-layer (Stmt-F.SelectInto s) = select-into-notes s
stmt-layer (Stmt-F.Open at i) = open-notes i
stmt-layer (Stmt-F.Close at i) = close-notes i
stmt-layer (Stmt-F.Fetch s) = fetch-notes s
stmt-layer (Stmt-F.Signal s) = signal-notes s
stmt-layer (Stmt-F.Resignal s) = resignal-notes s
stmt-layer (Stmt-F.GetDiagnostics s) = get-notes s
stmt-layer (Stmt-F.Leave at i) = leave-notes i
stmt-layer (Stmt-F.Iterate at i) = iterate-notes at i
stmt-layer (Stmt-F.Return at e) = return-notes at e

structure-layer : (y : Structure-F ShownDeclaration ShownStmt ShownStructure ShownBlock ShownBranch
    ShownCase ShownCreateFunction ShownCreateProcedure ShownHandler ShownIf ShownLabelled) →
    StatementNotes (structure_step (structure-judged y)).judge
structure-layer (Structure-F.Block b) = b.1
structure-layer (Structure-F.Loop body) = loop-notes (map judge_stmt (map (λ x. x.0) body))
    (all-shown body)
structure-layer (Structure-F.While test body) =
    while-notes test (map judge_stmt (map (λ x. x.0) body)) (all-shown body)
structure-layer (Structure-F.Repeat body test) =
    repeat-notes (map judge_stmt (map (λ x. x.0) body)) test (all-shown body)
structure-layer (Structure-F.For i q body) =
    for-notes i q (map judge_stmt (map (λ x. x.0) body)) (all-shown body)

block-layer : (y : Block-F ShownDeclaration ShownStmt ShownStructure ShownBlock ShownBranch
    ShownCase ShownCreateFunction ShownCreateProcedure ShownHandler ShownIf ShownLabelled) →
    StatementNotes (block_step (block-judged y))
block-layer y = block-notes y.atomic (map judge_declaration (map (λ x. x.0) y.declarations))
    (map judge_stmt (map (λ x. x.0) y.statements)) (declarations-shown y.declarations)
    (all-shown y.statements)

branch-layer : (y : Branch-F ShownDeclaration ShownStmt ShownStructure ShownBlock ShownBranch
    ShownCase ShownCreateFunction ShownCreateProcedure ShownHandler ShownIf ShownLabelled) →
    BranchNotes (branch_step (branch-judged y))
branch-layer y = all-shown y.body

case-layer : (y : Case-F ShownDeclaration ShownStmt ShownStructure ShownBlock ShownBranch
    ShownCase ShownCreateFunction ShownCreateProcedure ShownHandler ShownIf ShownLabelled) →
    StatementNotes (case_step (case-judged y))
case-layer y = case-notes y.operand (map judge_branch (map (λ x. x.0) y.branches))
    (map judge_stmt (map (λ x. x.0) y.otherwise)) (branches-shown y.branches)
    (all-shown y.otherwise)

if-layer : (y : If-F ShownDeclaration ShownStmt ShownStructure ShownBlock ShownBranch
    ShownCase ShownCreateFunction ShownCreateProcedure ShownHandler ShownIf ShownLabelled) →
    StatementNotes (if_step (if-judged y))
if-layer y = if-notes (map judge_branch (map (λ x. x.0) y.branches))
    (map judge_stmt (map (λ x. x.0) y.otherwise)) (branches-shown y.branches)
    (all-shown y.otherwise)

function-layer : (y : CreateFunction-F ShownDeclaration ShownStmt ShownStructure ShownBlock
    ShownBranch ShownCase ShownCreateFunction ShownCreateProcedure ShownHandler ShownIf
    ShownLabelled) →
    StatementNotes (function_step (function-judged y))
function-layer y = misplaced-notes y.anchor

procedure-layer : (y : CreateProcedure-F ShownDeclaration ShownStmt ShownStructure ShownBlock
    ShownBranch ShownCase ShownCreateFunction ShownCreateProcedure ShownHandler ShownIf
    ShownLabelled) →
    StatementNotes (procedure_step (procedure-judged y))
procedure-layer y = misplaced-notes y.anchor

handler-layer : (y : Handler-F ShownDeclaration ShownStmt ShownStructure ShownBlock ShownBranch
    ShownCase ShownCreateFunction ShownCreateProcedure ShownHandler ShownIf ShownLabelled) →
    DeclarationNotes (handler_step (handler-judged y))
handler-layer y = handler-notes y.anchor y.handler_type y.values (judge_stmt y.action.0) y.action.1

labelled-layer : (y : Labelled-F ShownDeclaration ShownStmt ShownStructure ShownBlock ShownBranch
    ShownCase ShownCreateFunction ShownCreateProcedure ShownHandler ShownIf ShownLabelled) →
    StatementNotes (labelled_step (labelled-judged y))
labelled-layer y = labelled-notes y.label y.end_label (judge_structure y.structure.0) y.structure.1

-- ---- the induction

pub statement-noted : (x : Stmt) → StatementNotes (judge_stmt x)
statement-noted =
    ind-Stmt (λ x. DeclarationNotes (judge_declaration x))
    (λ x. StatementNotes (judge_stmt x))
    (λ x. StatementNotes (judge_structure x).judge)
    (λ x. StatementNotes (judge_block x))
    (λ x. BranchNotes (judge_branch x))
    (λ x. StatementNotes (judge_case x))
    (λ x. StatementNotes (judge_function x))
    (λ x. StatementNotes (judge_procedure x))
    (λ x. DeclarationNotes (judge_handler x))
    (λ x. StatementNotes (judge_if x))
    (λ x. StatementNotes (judge_labelled x))
    (λ x y is. subst (λ z. DeclarationNotes (judge_declaration (roll-Declaration z))) is
    (subst (λ (j : JudgedDeclaration). DeclarationNotes j)
    (sym (fold-roll-Declaration JudgedDeclaration Judge JudgedStructure Judge JudgedBranch
    Judge Judge Judge JudgedDeclaration Judge Judge declaration_step stmt_step structure_step
    block_step branch_step case_step function_step procedure_step handler_step if_step
    labelled_step (declaration-shown y))) (declaration-layer y)))
    (λ x y is. subst (λ z. StatementNotes (judge_stmt (roll-Stmt z))) is
    (subst (λ (j : Judge). StatementNotes j)
    (sym (fold-roll-Stmt JudgedDeclaration Judge JudgedStructure Judge JudgedBranch
    Judge Judge Judge JudgedDeclaration Judge Judge declaration_step stmt_step structure_step
    block_step branch_step case_step function_step procedure_step handler_step if_step
    labelled_step (stmt-shown y))) (stmt-layer y)))
    (λ x y is. subst (λ z. StatementNotes (judge_structure (roll-Structure z)).judge) is
    (subst (λ (j : JudgedStructure). StatementNotes j.judge)
    (sym (fold-roll-Structure JudgedDeclaration Judge JudgedStructure Judge JudgedBranch
    Judge Judge Judge JudgedDeclaration Judge Judge declaration_step stmt_step structure_step
    block_step branch_step case_step function_step procedure_step handler_step if_step
    labelled_step (structure-shown y))) (structure-layer y)))
    (λ x y is. subst (λ z. StatementNotes (judge_block (roll-Block z))) is
    (subst (λ (j : Judge). StatementNotes j)
    (sym (fold-roll-Block JudgedDeclaration Judge JudgedStructure Judge JudgedBranch
    Judge Judge Judge JudgedDeclaration Judge Judge declaration_step stmt_step structure_step
    block_step branch_step case_step function_step procedure_step handler_step if_step
    labelled_step (block-shown y))) (block-layer y)))
    (λ x y is. subst (λ z. BranchNotes (judge_branch (roll-Branch z))) is
    (subst (λ (j : JudgedBranch). BranchNotes j)
    (sym (fold-roll-Branch JudgedDeclaration Judge JudgedStructure Judge JudgedBranch
    Judge Judge Judge JudgedDeclaration Judge Judge declaration_step stmt_step structure_step
    block_step branch_step case_step function_step procedure_step handler_step if_step
    labelled_step (branch-shown y))) (branch-layer y)))
    (λ x y is. subst (λ z. StatementNotes (judge_case (roll-Case z))) is
    (subst (λ (j : Judge). StatementNotes j)
    (sym (fold-roll-Case JudgedDeclaration Judge JudgedStructure Judge JudgedBranch
    Judge Judge Judge JudgedDeclaration Judge Judge declaration_step stmt_step structure_step
    block_step branch_step case_step function_step procedure_step handler_step if_step
    labelled_step (case-shown y))) (case-layer y)))
    (λ x y is. subst (λ z. StatementNotes (judge_function (roll-CreateFunction z))) is
    (subst (λ (j : Judge). StatementNotes j)
    (sym (fold-roll-CreateFunction JudgedDeclaration Judge JudgedStructure Judge JudgedBranch
    Judge Judge Judge JudgedDeclaration Judge Judge declaration_step stmt_step structure_step
    block_step branch_step case_step function_step procedure_step handler_step if_step
    labelled_step (function-shown y))) (function-layer y)))
    (λ x y is. subst (λ z. StatementNotes (judge_procedure (roll-CreateProcedure z))) is
    (subst (λ (j : Judge). StatementNotes j)
    (sym (fold-roll-CreateProcedure JudgedDeclaration Judge JudgedStructure Judge JudgedBranch
    Judge Judge Judge JudgedDeclaration Judge Judge declaration_step stmt_step structure_step
    block_step branch_step case_step function_step procedure_step handler_step if_step
    labelled_step (procedure-shown y))) (procedure-layer y)))
    (λ x y is. subst (λ z. DeclarationNotes (judge_handler (roll-Handler z))) is
    (subst (λ (j : JudgedDeclaration). DeclarationNotes j)
    (sym (fold-roll-Handler JudgedDeclaration Judge JudgedStructure Judge JudgedBranch
    Judge Judge Judge JudgedDeclaration Judge Judge declaration_step stmt_step structure_step
    block_step branch_step case_step function_step procedure_step handler_step if_step
    labelled_step (handler-shown y))) (handler-layer y)))
    (λ x y is. subst (λ z. StatementNotes (judge_if (roll-If z))) is
    (subst (λ (j : Judge). StatementNotes j)
    (sym (fold-roll-If JudgedDeclaration Judge JudgedStructure Judge JudgedBranch
    Judge Judge Judge JudgedDeclaration Judge Judge declaration_step stmt_step structure_step
    block_step branch_step case_step function_step procedure_step handler_step if_step
    labelled_step (if-shown y))) (if-layer y)))
    (λ x y is. subst (λ z. StatementNotes (judge_labelled (roll-Labelled z))) is
    (subst (λ (j : Judge). StatementNotes j)
    (sym (fold-roll-Labelled JudgedDeclaration Judge JudgedStructure Judge JudgedBranch
    Judge Judge Judge JudgedDeclaration Judge Judge declaration_step stmt_step structure_step
    block_step branch_step case_step function_step procedure_step handler_step if_step
    labelled_step (labelled-shown y))) (labelled-layer y)))
