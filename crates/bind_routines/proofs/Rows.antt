-- Statements that are written out are judged by their parts, which computes.
use Rattle.std.proofs.Common.{◌≡◌, true, false, sym, ap, ◌∙◌, ℕ, Bool, List, [], ◌∷◌, map, Some}
use Rattle.std.proofs.Common.{None}
use Rattle.statement_trees.specs.declared.condition.ConditionValue.TheVariants.{SqlException}
use Rattle.statement_trees.specs.declared.declaration.HandlerType.{HandlerType}
use Rattle.statement_trees.specs.declared.statement.Block.{Block, roll-Block}
use Rattle.statement_trees.specs.declared.statement.Branch.{Branch}
use Rattle.statement_trees.specs.declared.statement.Case.{Case}
use Rattle.statement_trees.specs.declared.statement.CreateFunction.{CreateFunction}
use Rattle.statement_trees.specs.declared.statement.CreateProcedure.{CreateProcedure}
use Rattle.statement_trees.specs.declared.statement.Declaration.{Declaration}
use Rattle.statement_trees.specs.declared.statement.Declaration.TheFolds.{fold-roll-Stmt}
use Rattle.statement_trees.specs.declared.statement.Declaration.TheFolds.{fold-roll-Labelled}
use Rattle.statement_trees.specs.declared.statement.Declaration.TheFolds.{fold-roll-Structure}
use Rattle.statement_trees.specs.declared.statement.Declaration.TheFolds.{fold-roll-Block}
use Rattle.statement_trees.specs.declared.statement.Declaration.TheFolds.{fold-roll-Declaration}
use Rattle.statement_trees.specs.declared.statement.Declaration.TheFolds.{fold-roll-Handler}
use Rattle.statement_trees.specs.declared.statement.Declaration.TheOpen.{Declaration-F, Stmt-F}
use Rattle.statement_trees.specs.declared.statement.Declaration.TheOpen.{Structure-F, Block-F}
use Rattle.statement_trees.specs.declared.statement.Declaration.TheOpen.{Handler-F, Labelled-F}
use Rattle.statement_trees.specs.declared.statement.Declaration.TheVariants.{rolls-Handler}
use Rattle.statement_trees.specs.declared.statement.Handler.{Handler, roll-Handler}
use Rattle.statement_trees.specs.declared.statement.If.{If}
use Rattle.statement_trees.specs.declared.statement.Labelled.{Labelled, roll-Labelled}
use Rattle.statement_trees.specs.declared.statement.Stmt.{Stmt}
use Rattle.statement_trees.specs.declared.statement.Stmt.TheVariants.{rolls-Labelled, rolls-Leave}
use Rattle.statement_trees.specs.declared.statement.Stmt.TheVariants.{rolls-Iterate}
use Rattle.statement_trees.specs.declared.statement.Structure.{Structure}
use Rattle.statement_trees.specs.declared.statement.Structure.TheVariants.{rolls-Block, rolls-Loop}
use Rattle.bound_trees.specs.declared.statement.BoundStmt.TheVariants as bound
use Rattle.bind_faults.specs.Faults.{as_value}
use Rattle.bind_declarations.specs.Declarations.{judged_handler}
use Rattle.bind_simple.specs.Examples.{at, named}
use Rattle.bind_simple.specs.Simple.{Judge, judged_leave, judged_iterate}
use Rattle.bind_routines.specs.Examples.{labelled, loop, compound, handler, leave, iterate}
use Rattle.bind_routines.specs.Statements.{JudgedBranch, JudgedStructure, JudgedDeclaration}
use Rattle.bind_routines.specs.Statements.{judged_list, judged_block, judged_labelled}
use Rattle.bind_routines.specs.Statements.{declaration_step, stmt_step, structure_step, block_step}
use Rattle.bind_routines.specs.Statements.{branch_step, case_step, function_step, procedure_step}
use Rattle.bind_routines.specs.Statements.{handler_step, if_step, labelled_step, judge_stmt}
use Rattle.bind_routines.specs.Statements.{judge_declaration, judge_structure}

abbrev LabelledForm : Type 0
LabelledForm = Labelled-F Declaration Stmt Structure Block Branch Case CreateFunction
    CreateProcedure Handler If Labelled

abbrev BlockForm : Type 0
BlockForm = Block-F Declaration Stmt Structure Block Branch Case CreateFunction CreateProcedure
    Handler If Labelled

abbrev HandlerForm : Type 0
HandlerForm = Handler-F Declaration Stmt Structure Block Branch Case CreateFunction CreateProcedure
    Handler If Labelled

-- ---- one layer

leave-judge : (label : List ℕ) → judge_stmt (leave label) ≡ judged_leave (named label 10)
leave-judge label = ap judge_stmt (sym (rolls-Leave (at 9) (named label 10))) ∙
    fold-roll-Stmt JudgedDeclaration Judge JudgedStructure Judge JudgedBranch Judge Judge Judge
    JudgedDeclaration Judge Judge declaration_step stmt_step structure_step block_step branch_step
    case_step function_step procedure_step handler_step if_step labelled_step
    (Stmt-F.Leave (at 9) (named label 10))

iterate-judge : (label : List ℕ) → judge_stmt (iterate label) ≡ judged_iterate (at 9)
    (named label 10)
iterate-judge label = ap judge_stmt (sym (rolls-Iterate (at 9) (named label 10))) ∙
    fold-roll-Stmt JudgedDeclaration Judge JudgedStructure Judge JudgedBranch Judge Judge Judge
    JudgedDeclaration Judge Judge declaration_step stmt_step structure_step block_step branch_step
    case_step function_step procedure_step handler_step if_step labelled_step
    (Stmt-F.Iterate (at 9) (named label 10))

-- a statement after its label
abbrev pub within_label : List ℕ → JudgedStructure → Judge
within_label label s p = judged_labelled (Some (named label 1)) None s p

labelled-judge : (label : List ℕ) (s : Structure) →
    judge_stmt (labelled label s) ≡ within_label label (judge_structure s)
labelled-judge label s =
    let l : LabelledForm = record {
      label = Some (named label 1);
      anchor = at 3;
      structure = s;
      end_label = None;
    } in
    ap judge_stmt (sym (rolls-Labelled (roll-Labelled l))) ∙
    fold-roll-Stmt JudgedDeclaration Judge JudgedStructure Judge JudgedBranch Judge Judge Judge
    JudgedDeclaration Judge Judge declaration_step stmt_step structure_step block_step
    branch_step case_step function_step procedure_step handler_step if_step labelled_step
    (Stmt-F.Labelled (roll-Labelled l)) ∙
    fold-roll-Labelled JudgedDeclaration Judge JudgedStructure Judge JudgedBranch Judge Judge
    Judge JudgedDeclaration Judge Judge declaration_step stmt_step structure_step block_step
    branch_step case_step function_step procedure_step handler_step if_step labelled_step l

abbrev pub loop_of : List Judge → JudgedStructure
loop_of body = record {
  is_loop = true;
  judge =
      λ p. as_value (λ ss. bound.Loop ss) (judged_list body p);
}

loop-judge : (ss : List Stmt) → judge_structure (loop ss) ≡ loop_of (map judge_stmt ss)
loop-judge ss = ap judge_structure (sym (rolls-Loop ss)) ∙
    fold-roll-Structure JudgedDeclaration Judge JudgedStructure Judge JudgedBranch Judge Judge Judge
    JudgedDeclaration Judge Judge declaration_step stmt_step structure_step block_step branch_step
    case_step function_step procedure_step handler_step if_step labelled_step (Structure-F.Loop ss)

abbrev pub compound_of : Bool → List JudgedDeclaration → JudgedStructure
compound_of atomic ds = record { is_loop = false; judge = judged_block atomic ds [] }

compound-judge : (atomic : Bool) (ds : List Declaration) →
    judge_structure (compound atomic ds) ≡ compound_of atomic (map judge_declaration ds)
compound-judge atomic ds =
    let b : BlockForm = record { atomic = atomic; declarations = ds; statements = [] } in
    ap judge_structure (sym (rolls-Block (roll-Block b))) ∙
    fold-roll-Structure JudgedDeclaration Judge JudgedStructure Judge JudgedBranch Judge Judge
    Judge JudgedDeclaration Judge Judge declaration_step stmt_step structure_step block_step
    branch_step case_step function_step procedure_step handler_step if_step labelled_step
    (Structure-F.Block (roll-Block b))
    ∙ ap (λ (j : Judge). record { is_loop = false; judge = j })
    (fold-roll-Block JudgedDeclaration Judge JudgedStructure Judge JudgedBranch Judge Judge
    Judge JudgedDeclaration Judge Judge declaration_step stmt_step structure_step block_step
    branch_step case_step function_step procedure_step handler_step if_step labelled_step b)

-- a handler by how its action is judged
abbrev pub handler_of : HandlerType → Judge → JudgedDeclaration
handler_of type action atomic p so = judged_handler (at 5) type (SqlException (at 8) ∷ []) action
    atomic p so

handler-judge : (type : HandlerType) (action : Stmt) →
    judge_declaration (handler type action) ≡ handler_of type (judge_stmt action)
handler-judge type action =
    let h : HandlerForm = record {
      anchor = at 5;
      handler_type = type;
      values =
          SqlException (at 8) ∷ [];
      action = action;
    } in
    ap judge_declaration (sym (rolls-Handler (roll-Handler h))) ∙
    fold-roll-Declaration JudgedDeclaration Judge JudgedStructure Judge JudgedBranch Judge Judge
    Judge JudgedDeclaration Judge Judge declaration_step stmt_step structure_step block_step
    branch_step case_step function_step procedure_step handler_step if_step labelled_step
    (Declaration-F.Handler (roll-Handler h)) ∙
    fold-roll-Handler JudgedDeclaration Judge JudgedStructure Judge JudgedBranch Judge Judge
    Judge JudgedDeclaration Judge Judge declaration_step stmt_step structure_step block_step
    branch_step case_step function_step procedure_step handler_step if_step labelled_step h

-- ---- whole statements

-- a loop of one statement
pub loop-row : (label : List ℕ) (s : Stmt) (j : Judge) → judge_stmt s ≡ j →
    judge_stmt (labelled label (loop (s ∷ []))) ≡ within_label label (loop_of (j ∷ []))
loop-row label s j p =
    labelled-judge label (loop (s ∷ [])) ∙ ap (within_label label)
    (loop-judge (s ∷ []) ∙ ap (λ (k : Judge). loop_of (k ∷ [])) p)

pub left-row : (label to : List ℕ) → judge_stmt (labelled label (loop (leave to ∷ []))) ≡
    within_label label (loop_of (judged_leave (named to 10) ∷ []))
left-row label to = loop-row label (leave to) (judged_leave (named to 10)) (leave-judge to)

pub iterated-row : (label to : List ℕ) → judge_stmt (labelled label (loop (iterate to ∷ []))) ≡
    within_label label (loop_of (judged_iterate (at 9) (named to 10) ∷ []))
iterated-row label to = loop-row label (iterate to) (judged_iterate (at 9) (named to 10))
    (iterate-judge to)

-- a compound statement with one handler
compound-row : (label : List ℕ) (atomic : Bool) (type : HandlerType) (s : Stmt) (j : Judge) →
    judge_stmt s ≡ j
    → judge_stmt (labelled label (compound atomic (handler type s ∷ []))) ≡ within_label label
    (compound_of atomic (handler_of type j ∷ []))
compound-row label atomic type s j p =
    labelled-judge label (compound atomic (handler type s ∷ []))
    ∙ ap (within_label label) (compound-judge atomic (handler type s ∷ []) ∙
    ap (λ (d : JudgedDeclaration). compound_of atomic (d ∷ []))
    (handler-judge type s ∙ ap (handler_of type) p))

pub leaving-row : (label : List ℕ) (atomic : Bool) (type : HandlerType) (to : List ℕ)
    → judge_stmt (labelled label (compound atomic (handler type (leave to) ∷ []))) ≡
    within_label label (compound_of atomic (handler_of type (judged_leave (named to 10)) ∷ []))
leaving-row label atomic type to = compound-row label atomic type (leave to)
    (judged_leave (named to 10)) (leave-judge to)

pub iterating-row : (label : List ℕ) (atomic : Bool) (type : HandlerType) (to : List ℕ)
    → judge_stmt (labelled label (compound atomic (handler type (iterate to) ∷ []))) ≡ within_label
    label (compound_of atomic (handler_of type (judged_iterate (at 9) (named to 10)) ∷ []))
iterating-row label atomic type to = compound-row label atomic type (iterate to)
    (judged_iterate (at 9) (named to 10)) (iterate-judge to)
