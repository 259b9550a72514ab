-- A statement that holds no other is judged by its form alone.
use Rattle.std.proofs.Common.{◌≡◌, ◌∙◌, refl, sym, ap}
use Rattle.statement_trees.specs.declared.statement.Block.{Block}
use Rattle.statement_trees.specs.declared.statement.Branch.{Branch}
use Rattle.statement_trees.specs.declared.statement.Case.{Case}
use Rattle.statement_trees.specs.declared.statement.CreateFunction.{CreateFunction}
use Rattle.statement_trees.specs.declared.statement.CreateFunction.{out-CreateFunction}
use Rattle.statement_trees.specs.declared.statement.CreateFunction.{fold_out-CreateFunction}
use Rattle.statement_trees.specs.declared.statement.CreateProcedure.{CreateProcedure}
use Rattle.statement_trees.specs.declared.statement.CreateProcedure.{out-CreateProcedure}
use Rattle.statement_trees.specs.declared.statement.CreateProcedure.{fold_out-CreateProcedure}
use Rattle.statement_trees.specs.declared.statement.Declaration.{Declaration}
use Rattle.statement_trees.specs.declared.statement.Declaration.TheFolds.{map-Stmt}
use Rattle.statement_trees.specs.declared.statement.Declaration.TheOpen.{Stmt-F}
use Rattle.statement_trees.specs.declared.statement.Declaration.TheViews.{roll-out-Stmt}
use Rattle.statement_trees.specs.declared.statement.Handler.{Handler}
use Rattle.statement_trees.specs.declared.statement.If.{If}
use Rattle.statement_trees.specs.declared.statement.Labelled.{Labelled}
use Rattle.statement_trees.specs.declared.statement.Stmt.{Stmt, out-Stmt, roll-Stmt, fold_out-Stmt}
use Rattle.statement_trees.specs.declared.statement.Stmt.TheVariants as stmt
use Rattle.statement_trees.specs.declared.statement.Stmt.TheVariants.{rolls-Labelled, rolls-If}
use Rattle.statement_trees.specs.declared.statement.Stmt.TheVariants.{rolls-Case}
use Rattle.statement_trees.specs.declared.statement.Structure.{Structure}
use Rattle.bind_simple.specs.Places.{Surroundings}
use Rattle.bind_simple.specs.Simple.{Judge, misplaced}
use Rattle.bind_routines.specs.Alone.{judged_alone}
use Rattle.bind_routines.specs.Statements.{JudgedBranch, JudgedStructure, JudgedDeclaration}
use Rattle.bind_routines.specs.Statements.{declaration_step, stmt_step, structure_step, block_step}
use Rattle.bind_routines.specs.Statements.{branch_step, case_step, function_step, procedure_step}
use Rattle.bind_routines.specs.Statements.{handler_step, if_step, labelled_step, judge_stmt}
use Rattle.bind_routines.specs.Statements.{judge_declaration, judge_structure, judge_block}
use Rattle.bind_routines.specs.Statements.{judge_branch, judge_case, judge_handler, judge_if}
use Rattle.bind_routines.specs.Statements.{judge_labelled}
use Rattle.bind_routines.proofs.Layers.{judge_function, judge_procedure}

abbrev StmtForm : Type 0
StmtForm = Stmt-F Declaration Stmt Structure Block Branch Case CreateFunction CreateProcedure
    Handler If Labelled

abbrev judged_parts : StmtForm → Stmt-F JudgedDeclaration Judge JudgedStructure Judge JudgedBranch
    Judge Judge Judge JudgedDeclaration Judge Judge
judged_parts x = map-Stmt Declaration Stmt Structure Block Branch Case CreateFunction
    CreateProcedure Handler If Labelled
    JudgedDeclaration Judge JudgedStructure Judge JudgedBranch Judge Judge Judge JudgedDeclaration
    Judge Judge
    judge_declaration judge_stmt judge_structure judge_block judge_branch judge_case judge_function
    judge_procedure judge_handler judge_if judge_labelled x

function-layer : (f : CreateFunction) (p : Surroundings) → judge_function f p ≡ misplaced
    (out-CreateFunction f).anchor
function-layer f p = ap (λ (j : Judge). j p) (fold_out-CreateFunction JudgedDeclaration Judge
    JudgedStructure Judge JudgedBranch Judge Judge Judge JudgedDeclaration Judge Judge
    declaration_step stmt_step structure_step block_step branch_step case_step function_step
    procedure_step handler_step if_step labelled_step f)

procedure-layer : (f : CreateProcedure) (p : Surroundings) → judge_procedure f p ≡ misplaced
    (out-CreateProcedure f).anchor
procedure-layer f p = ap (λ (j : Judge). j p) (fold_out-CreateProcedure JudgedDeclaration Judge
    JudgedStructure Judge JudgedBranch Judge Judge Judge JudgedDeclaration Judge Judge
    declaration_step stmt_step structure_step block_step branch_step case_step function_step
    procedure_step handler_step if_step labelled_step f)

by-form : (x : StmtForm) (p : Surroundings) → ((y : Labelled) → x ≡ Stmt-F.Labelled y → ⊥) →
    ((y : If) → x ≡ Stmt-F.If y → ⊥) → ((y : Case) → x ≡ Stmt-F.Case y → ⊥)
    → stmt_step (judged_parts x) p ≡ judged_alone x p
by-form (Stmt-F.CreateTable s) p l i c = refl
by-form (Stmt-F.CreateFunction s) p l i c = function-layer s p
by-form (Stmt-F.CreateProcedure s) p l i c = procedure-layer s p
by-form (Stmt-F.Drop s) p l i c = refl
by-form (Stmt-F.Insert s) p l i c = refl
by-form (Stmt-F.Update s) p l i c = refl
by-form (Stmt-F.Delete s) p l i c = refl
by-form (Stmt-F.Query q) p l i c = refl
by-form (Stmt-F.Explain at q) p l i c = refl
by-form (Stmt-F.Call s) p l i c = refl
by-form (Stmt-F.Labelled s) p l i c = absurd (l s refl)
by-form (Stmt-F.If s) p l i c = absurd (i s refl)
by-form (Stmt-F.Case s) p l i c = absurd (c s refl)
by-form (Stmt-F.Set at a) p l i c = refl
by-form (Stmt-F.SelectInto s) p l i c = refl
by-form (Stmt-F.Open at n) p l i c = refl
by-form (Stmt-F.Close at n) p l i c = refl
by-form (Stmt-F.Fetch s) p l i c = refl
by-form (Stmt-F.Signal s) p l i c = refl
by-form (Stmt-F.Resignal s) p l i c = refl
by-form (Stmt-F.GetDiagnostics s) p l i c = refl
by-form (Stmt-F.Leave at n) p l i c = refl
by-form (Stmt-F.Iterate at n) p l i c = refl
by-form (Stmt-F.Return at e) p l i c = refl

rolled : (s : Stmt) (x : StmtForm) → out-Stmt s ≡ x → s ≡ roll-Stmt x
rolled s x e = sym (roll-out-Stmt s) ∙ ap roll-Stmt e

-- a statement that is none of those that hold statements
pub alone_layer : (s : Stmt) (p : Surroundings) → ((y : Labelled) → s ≡ stmt.Labelled y → ⊥) →
    ((y : If) → s ≡ stmt.If y → ⊥) → ((y : Case) → s ≡ stmt.Case y → ⊥)
    → judge_stmt s p ≡ judged_alone (out-Stmt s) p
alone_layer s p l i c =
    ap (λ (j : Judge). j p) (fold_out-Stmt JudgedDeclaration Judge JudgedStructure Judge
    JudgedBranch Judge Judge Judge JudgedDeclaration Judge Judge declaration_step stmt_step
    structure_step block_step branch_step case_step function_step procedure_step handler_step
    if_step labelled_step s)
    ∙ by-form (out-Stmt s) p (λ y e. l y (rolled s (Stmt-F.Labelled y) e ∙ rolls-Labelled y))
    (λ y e. i y (rolled s (Stmt-F.If y) e ∙ rolls-If y))
    (λ y e. c y (rolled s (Stmt-F.Case y) e ∙ rolls-Case y))
