-- Each form of a statement is judged by its parts.
use Rattle.std.proofs.Common.{◌≡◌, ◌∙◌, refl, ap, map}
use Rattle.statement_trees.specs.declared.statement.Block.{Block, out-Block, fold_out-Block}
use Rattle.statement_trees.specs.declared.statement.Branch.{Branch, out-Branch, fold_out-Branch}
use Rattle.statement_trees.specs.declared.statement.Case.{Case}
use Rattle.statement_trees.specs.declared.statement.CreateFunction.{CreateFunction}
use Rattle.statement_trees.specs.declared.statement.CreateFunction.{fold-CreateFunction}
use Rattle.statement_trees.specs.declared.statement.CreateProcedure.{CreateProcedure}
use Rattle.statement_trees.specs.declared.statement.CreateProcedure.{fold-CreateProcedure}
use Rattle.statement_trees.specs.declared.statement.Declaration.{Declaration}
use Rattle.statement_trees.specs.declared.statement.Declaration.TheFolds.{map-Structure}
use Rattle.statement_trees.specs.declared.statement.Declaration.TheOpen.{Structure-F}
use Rattle.statement_trees.specs.declared.statement.Handler.{Handler}
use Rattle.statement_trees.specs.declared.statement.If.{If, out-If, fold_out-If}
use Rattle.statement_trees.specs.declared.statement.Labelled.{Labelled}
use Rattle.statement_trees.specs.declared.statement.Stmt.{Stmt}
use Rattle.statement_trees.specs.declared.statement.Structure.{Structure, out-Structure}
use Rattle.statement_trees.specs.declared.statement.Structure.{fold_out-Structure}
use Rattle.bind_simple.specs.Places.{Surroundings}
use Rattle.bind_simple.specs.Simple.{Judge}
use Rattle.bind_routines.specs.Statements.{JudgedBranch, JudgedStructure, JudgedDeclaration}
use Rattle.bind_routines.specs.Statements.{judged_if, judged_block, declaration_step, stmt_step}
use Rattle.bind_routines.specs.Statements.{structure_step, block_step, branch_step, case_step}
use Rattle.bind_routines.specs.Statements.{function_step, procedure_step, handler_step, if_step}
use Rattle.bind_routines.specs.Statements.{labelled_step, judge_stmt, judge_declaration}
use Rattle.bind_routines.specs.Statements.{judge_structure, judge_block, judge_branch, judge_case}
use Rattle.bind_routines.specs.Statements.{judge_handler, judge_if, judge_labelled}
use Rattle.bind_rules.specs.Structures.{loops}

pub branch-layer : (b : Branch) → judge_branch b ≡ record {
  test = (out-Branch b).test;
  body =
      map judge_stmt (out-Branch b).body;
}
branch-layer b = fold_out-Branch JudgedDeclaration Judge JudgedStructure Judge JudgedBranch Judge
    Judge Judge JudgedDeclaration Judge Judge declaration_step stmt_step structure_step block_step
    branch_step case_step function_step procedure_step handler_step if_step labelled_step b

pub if-layer : (s : If) (p : Surroundings) → judge_if s p ≡ judged_if
    (map judge_branch (out-If s).branches) (map judge_stmt (out-If s).otherwise) p
if-layer s p = ap (λ (j : Judge). j p) (fold_out-If JudgedDeclaration Judge JudgedStructure Judge
    JudgedBranch Judge Judge Judge JudgedDeclaration Judge Judge declaration_step stmt_step
    structure_step block_step branch_step case_step function_step procedure_step handler_step
    if_step labelled_step s)

pub block-layer : (b : Block) (p : Surroundings)
    → judge_block b p ≡ judged_block (out-Block b).atomic
    (map judge_declaration (out-Block b).declarations) (map judge_stmt (out-Block b).statements)
    p
block-layer b p = ap (λ (j : Judge). j p) (fold_out-Block JudgedDeclaration Judge JudgedStructure
    Judge JudgedBranch Judge Judge Judge JudgedDeclaration Judge Judge declaration_step stmt_step
    structure_step block_step branch_step case_step function_step procedure_step handler_step
    if_step labelled_step b)

abbrev StructureForm : Type 0
StructureForm = Structure-F Declaration Stmt Structure Block Branch Case CreateFunction
    CreateProcedure Handler If Labelled

abbrev pub judge_function : CreateFunction → Judge
judge_function = fold-CreateFunction JudgedDeclaration Judge JudgedStructure Judge JudgedBranch
    Judge Judge Judge JudgedDeclaration Judge Judge
    declaration_step stmt_step structure_step block_step branch_step case_step function_step
    procedure_step handler_step if_step labelled_step

abbrev pub judge_procedure : CreateProcedure → Judge
judge_procedure = fold-CreateProcedure JudgedDeclaration Judge JudgedStructure Judge JudgedBranch
    Judge Judge Judge JudgedDeclaration Judge Judge
    declaration_step stmt_step structure_step block_step branch_step case_step function_step
    procedure_step handler_step if_step labelled_step

abbrev judged_parts : StructureForm → Structure-F JudgedDeclaration Judge JudgedStructure Judge
    JudgedBranch Judge Judge Judge JudgedDeclaration Judge Judge
judged_parts x = map-Structure Declaration Stmt Structure Block Branch Case CreateFunction
    CreateProcedure Handler If Labelled
    JudgedDeclaration Judge JudgedStructure Judge JudgedBranch Judge Judge Judge JudgedDeclaration
    Judge Judge
    judge_declaration judge_stmt judge_structure judge_block judge_branch judge_case judge_function
    judge_procedure judge_handler judge_if judge_labelled x

loop-parts : (x : StructureForm) → (structure_step (judged_parts x)).is_loop ≡ loops x
loop-parts (Structure-F.Block b) = refl
loop-parts (Structure-F.Loop body) = refl
loop-parts (Structure-F.While test body) = refl
loop-parts (Structure-F.Repeat body test) = refl
loop-parts (Structure-F.For i q body) = refl

-- what may have a label is judged as a loop where it is one
pub loop_layer : (s : Structure) → (judge_structure s).is_loop ≡ loops (out-Structure s)
loop_layer s =
    ap (λ (j : JudgedStructure). j.is_loop) (fold_out-Structure JudgedDeclaration Judge
    JudgedStructure Judge JudgedBranch Judge Judge Judge JudgedDeclaration Judge Judge
    declaration_step stmt_step structure_step block_step branch_step case_step function_step
    procedure_step handler_step if_step labelled_step s)
    ∙ loop-parts (out-Structure s)
