-- Statements of routines and blocks: the bound statement that each stands for, and the name faults
-- in it, in one fold whose values are judges: functions of where a statement stands. ISO/IEC
-- 9075-4, 14 (control statements), and 17 (diagnostics management).
use Rattle.std.specs.Prelude.{Bool, true, false, List, [], ◌∷◌, ◌++◌, map, Option, Some, None}
use Rattle.std.specs.Prelude.{Result, Ok, Err}
use Rattle.syntax_trees.specs.declared.anchor.Ident.{Ident}
use Rattle.syntax_trees.specs.declared.expr.Expr.{Expr}
use Rattle.syntax_trees.specs.declared.query.OrderedQuery.{OrderedQuery}
use Rattle.statement_trees.specs.declared.statement.Block.{Block, fold-Block}
use Rattle.statement_trees.specs.declared.statement.Branch.{Branch, fold-Branch}
use Rattle.statement_trees.specs.declared.statement.Case.{Case, out-Case, fold-Case}
use Rattle.statement_trees.specs.declared.statement.Declaration.{Declaration, fold-Declaration}
use Rattle.statement_trees.specs.declared.statement.Declaration.TheOpen.{Declaration-F, Stmt-F}
use Rattle.statement_trees.specs.declared.statement.Declaration.TheOpen.{Structure-F, Block-F}
use Rattle.statement_trees.specs.declared.statement.Declaration.TheOpen.{Branch-F, Case-F}
use Rattle.statement_trees.specs.declared.statement.Declaration.TheOpen.{CreateFunction-F}
use Rattle.statement_trees.specs.declared.statement.Declaration.TheOpen.{CreateProcedure-F}
use Rattle.statement_trees.specs.declared.statement.Declaration.TheOpen.{Handler-F, If-F}
use Rattle.statement_trees.specs.declared.statement.Declaration.TheOpen.{Labelled-F}
use Rattle.statement_trees.specs.declared.statement.Handler.{Handler, out-Handler, fold-Handler}
use Rattle.statement_trees.specs.declared.statement.If.{If, fold-If}
use Rattle.statement_trees.specs.declared.statement.Labelled.{Labelled as LabelledTree}
use Rattle.statement_trees.specs.declared.statement.Labelled.{fold-Labelled}
use Rattle.statement_trees.specs.declared.statement.Stmt.{Stmt, fold-Stmt}
use Rattle.statement_trees.specs.declared.statement.Structure.{Structure, fold-Structure}
use Rattle.bound_trees.specs.declared.expr.BoundExpr.{BoundExpr}
use Rattle.bound_trees.specs.declared.statement.BoundBlock.{BoundBlock, roll-BoundBlock}
use Rattle.bound_trees.specs.declared.statement.BoundBranch.{BoundBranch, roll-BoundBranch}
use Rattle.bound_trees.specs.declared.statement.BoundHandler.{BoundHandler}
use Rattle.bound_trees.specs.declared.statement.BoundStmt.{BoundStmt}
use Rattle.bound_trees.specs.declared.statement.BoundStmt.TheVariants as bound
use Rattle.bind_faults.specs.Faults.{Noted, ◌>>=◌, ◌>>◌, as_value, both}
use Rattle.bind_kinds.specs.declared.kind.Kind.{Kind}
use Rattle.bind_kinds.specs.declared.kind.Kind.TheVariants.{Boolean}
use Rattle.bind_sight.specs.declared.output.Output.{Output}
use Rattle.bind_parts.specs.declared.typed.TypedQuery.{TypedQuery}
use Rattle.bind_parts.specs.Turns.{each_noted}
use Rattle.bind_queries.specs.Order.{judge_ordered_typed}
use Rattle.bind_simple.specs.Anchors.{standing_of}
use Rattle.bind_simple.specs.Calls.{judged_call}
use Rattle.bind_rules.specs.Labels.{Label, label_faults, end_faults}
use Rattle.bind_simple.specs.Places.{Surroundings, seen_from, with_scope, within}
use Rattle.bind_simple.specs.Simple.{Judge, judged_leave, judged_iterate, judged_return}
use Rattle.bind_simple.specs.Simple.{judged_open, judged_close, judged_fetch, judged_get, inserted}
use Rattle.bind_simple.specs.Simple.{changed, removed, misplaced}
use Rattle.bind_simple.specs.States.{judged_signal, judged_resignal}
use Rattle.bind_simple.specs.Storing.{judged_set, judged_select_into}
use Rattle.bind_simple.specs.Values.{judged_expr, value_of_kind}
use Rattle.bind_declarations.specs.declared.declared.Declared.{Declared}
use Rattle.bind_declarations.specs.Declarations.{nothing_declared, after_declared, judged_variables}
use Rattle.bind_declarations.specs.Declarations.{judged_condition, judged_cursor, judged_after}
use Rattle.bind_declarations.specs.Declarations.{judged_handler}
use Rattle.bind_declarations.specs.Loops.{next_slot, columns_faults, scope_of_columns}

-- ---- judges

-- a test with the statements that it chooses
pub record JudgedBranch : Type 0 where
  pub test : Expr
  pub body : List Judge

-- what may have a label: whether it is a loop, and how it is judged with its label in sight
pub record JudgedStructure : Type 0 where
  pub is_loop : Bool
  pub judge : Judge

-- how a declaration of a compound statement, ATOMIC or not, is judged after those before it
abbrev pub JudgedDeclaration : Type 0
JudgedDeclaration = Bool → Surroundings → Declared → Noted Declared

-- ---- lists of statements

-- one statement more
abbrev pub one_more : Surroundings → List BoundStmt → Judge → Noted (List BoundStmt)
one_more p so judge = as_value (λ b. so ++ b ∷ []) (judge p)

-- statements in turn
abbrev pub judged_list : List Judge → Surroundings → Noted (List BoundStmt)
judged_list js p = each_noted (one_more p) [] js

-- ---- IF and CASE

-- the bound branch
abbrev pub branch_of : BoundExpr → List BoundStmt → BoundBranch
branch_of test body = roll-BoundBranch (record { test = test; body = body })

-- each test is of the kind that is wanted: Boolean, or that of the operand of CASE
abbrev pub judged_branch : Kind → Surroundings → JudgedBranch → Noted BoundBranch
judged_branch kind p b = both branch_of (value_of_kind kind b.test p) (judged_list b.body p)

-- one branch more
abbrev pub one_branch : Kind → Surroundings → List BoundBranch → JudgedBranch →
    Noted (List BoundBranch)
one_branch kind p so b = as_value (λ x. so ++ x ∷ []) (judged_branch kind p b)

-- branches in turn
abbrev pub judged_branches : Kind → List JudgedBranch → Surroundings → Noted (List BoundBranch)
judged_branches kind bs p = each_noted (one_branch kind p) [] bs

-- IF: its tests are Boolean
abbrev pub judged_if : List JudgedBranch → List Judge → Judge
judged_if branches otherwise p = both (λ bs ss. bound.If bs ss) (judged_branches Boolean branches p)
    (judged_list otherwise p)

-- the branches of a CASE with this operand or none
abbrev pub judged_arms : Option BoundExpr → Kind → List JudgedBranch → List Judge → Judge
judged_arms operand kind branches otherwise p =
    both (λ bs ss. bound.Case operand bs ss) (judged_branches kind branches p)
    (judged_list otherwise p)

-- CASE: its tests are of the kind of its operand, or Boolean where it has none
abbrev pub judged_case : Option Expr → List JudgedBranch → List Judge → Judge
judged_case None branches otherwise p = judged_arms None Boolean branches otherwise p
judged_case (Some e) branches otherwise p = judged_expr e p >>= λ t. judged_arms
    (Some t.tree) t.head.kind branches otherwise p

-- ---- loops

-- WHILE: the test, then the statements
abbrev pub judged_while : Expr → List Judge → Judge
judged_while test body p = both (λ e ss. bound.While e ss) (value_of_kind Boolean test p)
    (judged_list body p)

-- REPEAT: the statements, then the test
abbrev pub judged_repeat : List Judge → Expr → Judge
judged_repeat body test p = both (λ ss e. bound.Repeat ss e) (judged_list body p)
    (value_of_kind Boolean test p)

-- the statements of FOR, with the columns of its query in sight
abbrev pub looped : Ident → OrderedQuery → List Judge → Surroundings → TypedQuery → Noted BoundStmt
looped i q body p t =
    columns_faults q.query 0 [] t.columns
    >> as_value (λ ss. bound.For t.tree (next_slot p.scopes) ss)
    (judged_list body (with_scope (scope_of_columns i t.columns p.scopes) p))

-- FOR: the query, then the statements with its columns in sight
abbrev pub judged_for : Ident → OrderedQuery → List Judge → Judge
judged_for i q body p = judge_ordered_typed q (seen_from p) >>= looped i q body p

-- ---- compound statements

-- one declaration more
abbrev pub one_declaration : Bool → Surroundings → Declared → JudgedDeclaration → Noted Declared
one_declaration atomic p so d = d atomic p so

-- declarations in turn, each in sight of those before it
abbrev pub judged_declarations : Bool → List JudgedDeclaration → Surroundings → Noted Declared
judged_declarations atomic ds p = each_noted (one_declaration atomic p) (nothing_declared p) ds

-- the bound compound statement
abbrev pub block_of : Bool → Declared → List BoundStmt → BoundBlock
block_of atomic so ss =
    roll-BoundBlock (record {
      atomic = atomic;
      variables = so.variables;
      first_cursor =
          so.scope.first_cursor;
      cursors = so.cursors;
      handlers = so.handlers;
      statements = ss;
    })

-- the statements see all that is declared
abbrev pub after_declarations : Bool → List Judge → Surroundings → Declared → Noted BoundStmt
after_declarations atomic statements p so = as_value (λ ss. bound.Block (block_of atomic so ss))
    (judged_list statements (after_declared so p))

-- a compound statement: its declarations, then its statements
abbrev pub judged_block : Bool → List JudgedDeclaration → List Judge → Judge
judged_block atomic declarations statements p =
    judged_declarations atomic declarations p >>= after_declarations atomic statements p

-- ---- labels

-- a compound statement or a loop as what stands inside sees it
abbrev pub label_of : Option Ident → Bool → Label
label_of name is_loop = record { name = name; is_loop = is_loop; may_leave = true }

-- what may have a label: no label around it is the same, and the end label is its own
abbrev pub judged_labelled : Option Ident → Option Ident → JudgedStructure → Judge
judged_labelled label end_label s p =
    label_faults label p.labels ++ end_faults label end_label >> s.judge
    (within (label_of label s.is_loop) p)

-- ---- the fold: one clause for each form

-- of a statement whose parts are judged
abbrev pub stmt_step : Stmt-F JudgedDeclaration Judge JudgedStructure Judge JudgedBranch Judge Judge
    Judge JudgedDeclaration Judge Judge → Judge
stmt_step (Stmt-F.CreateTable s) p = misplaced s.anchor
stmt_step (Stmt-F.CreateFunction judge) p = judge p
stmt_step (Stmt-F.CreateProcedure judge) p = judge p
stmt_step (Stmt-F.Drop s) p = misplaced s.anchor
stmt_step (Stmt-F.Query q) p = misplaced (standing_of q.query).at
stmt_step (Stmt-F.Explain at q) p = misplaced at
stmt_step (Stmt-F.Insert s) p = inserted s p
stmt_step (Stmt-F.Update s) p = changed s p
stmt_step (Stmt-F.Delete s) p = removed s p
stmt_step (Stmt-F.Call s) p = as_value (λ b. bound.Call b) (judged_call false s p)
stmt_step (Stmt-F.Labelled judge) p = judge p
stmt_step (Stmt-F.If judge) p = judge p
stmt_step (Stmt-F.Case judge) p = judge p
stmt_step (Stmt-F.Set at a) p = as_value (λ b. bound.Set b.target b.value) (judged_set a p)
stmt_step (Stmt-F.SelectInto s) p = as_value (λ b. bound.SelectInto b.query b.targets)
    (judged_select_into s p)
stmt_step (Stmt-F.Open at i) p = judged_open i p
stmt_step (Stmt-F.Close at i) p = judged_close i p
stmt_step (Stmt-F.Fetch s) p = judged_fetch s p
stmt_step (Stmt-F.Signal s) p = as_value (λ b. bound.Signal b) (judged_signal s p)
stmt_step (Stmt-F.Resignal s) p = as_value (λ b. bound.Resignal b) (judged_resignal s p)
stmt_step (Stmt-F.GetDiagnostics s) p = judged_get s p
stmt_step (Stmt-F.Leave at i) p = judged_leave i p
stmt_step (Stmt-F.Iterate at i) p = judged_iterate at i p
stmt_step (Stmt-F.Return at e) p = judged_return at e p

-- of a declaration
abbrev pub declaration_step : Declaration-F JudgedDeclaration Judge JudgedStructure Judge
    JudgedBranch Judge Judge Judge JudgedDeclaration Judge Judge → JudgedDeclaration
declaration_step (Declaration-F.Variables d) atomic p so = judged_variables d p so
declaration_step (Declaration-F.Condition d) atomic p so = judged_condition d so
declaration_step (Declaration-F.Cursor d) atomic p so = judged_cursor d p so
declaration_step (Declaration-F.Handler judge) atomic p so = judge atomic p so

-- of what may have a label
abbrev pub structure_step : Structure-F JudgedDeclaration Judge JudgedStructure Judge JudgedBranch
    Judge Judge Judge JudgedDeclaration Judge Judge → JudgedStructure
structure_step (Structure-F.Block judge) = record { is_loop = false; judge = judge }
structure_step (Structure-F.Loop body) = record {
  is_loop = true;
  judge =
      λ p. as_value (λ ss. bound.Loop ss) (judged_list body p);
}
structure_step (Structure-F.While test body) =
    record { is_loop = true; judge = judged_while test body }
structure_step (Structure-F.Repeat body test) =
    record { is_loop = true; judge = judged_repeat body test }
structure_step (Structure-F.For i q body) = record { is_loop = true; judge = judged_for i q body }

-- of a compound statement
abbrev pub block_step : Block-F JudgedDeclaration Judge JudgedStructure Judge JudgedBranch Judge
    Judge Judge JudgedDeclaration Judge Judge → Judge
block_step b p = judged_block b.atomic b.declarations b.statements p

-- of a branch
abbrev pub branch_step : Branch-F JudgedDeclaration Judge JudgedStructure Judge JudgedBranch Judge
    Judge Judge JudgedDeclaration Judge Judge → JudgedBranch
branch_step b = record { test = b.test; body = b.body }

-- of a CASE
abbrev pub case_step : Case-F JudgedDeclaration Judge JudgedStructure Judge JudgedBranch Judge Judge
    Judge JudgedDeclaration Judge Judge → Judge
case_step c p = judged_case c.operand c.branches c.otherwise p

-- a CREATE FUNCTION stands in no routine
abbrev pub function_step : CreateFunction-F JudgedDeclaration Judge JudgedStructure Judge
    JudgedBranch Judge Judge Judge JudgedDeclaration Judge Judge → Judge
function_step c p = misplaced c.anchor

-- a CREATE PROCEDURE stands in no routine
abbrev pub procedure_step : CreateProcedure-F JudgedDeclaration Judge JudgedStructure Judge
    JudgedBranch Judge Judge Judge JudgedDeclaration Judge Judge → Judge
procedure_step c p = misplaced c.anchor

-- of a handler
abbrev pub handler_step : Handler-F JudgedDeclaration Judge JudgedStructure Judge JudgedBranch Judge
    Judge Judge JudgedDeclaration Judge Judge → JudgedDeclaration
handler_step h atomic p so = judged_handler h.anchor h.handler_type h.values h.action atomic p so

-- of an IF
abbrev pub if_step : If-F JudgedDeclaration Judge JudgedStructure Judge JudgedBranch Judge Judge
    Judge JudgedDeclaration Judge Judge → Judge
if_step c p = judged_if c.branches c.otherwise p

-- of a statement with its label
abbrev pub labelled_step : Labelled-F JudgedDeclaration Judge JudgedStructure Judge JudgedBranch
    Judge Judge Judge JudgedDeclaration Judge Judge → Judge
labelled_step l p = judged_labelled l.label l.end_label l.structure p

-- ---- whole trees

-- a statement: its bound tree, its faults and what it uses, by where it stands
abbrev pub judge_stmt : Stmt → Judge
judge_stmt = fold-Stmt JudgedDeclaration Judge JudgedStructure Judge JudgedBranch Judge Judge Judge
    JudgedDeclaration Judge Judge
    declaration_step stmt_step structure_step block_step branch_step case_step function_step
    procedure_step handler_step if_step labelled_step

-- a declaration, after those before it
abbrev pub judge_declaration : Declaration → JudgedDeclaration
judge_declaration = fold-Declaration JudgedDeclaration Judge JudgedStructure Judge JudgedBranch
    Judge Judge Judge JudgedDeclaration Judge Judge
    declaration_step stmt_step structure_step block_step branch_step case_step function_step
    procedure_step handler_step if_step labelled_step

-- what may have a label
abbrev pub judge_structure : Structure → JudgedStructure
judge_structure = fold-Structure JudgedDeclaration Judge JudgedStructure Judge JudgedBranch Judge
    Judge Judge JudgedDeclaration Judge Judge
    declaration_step stmt_step structure_step block_step branch_step case_step function_step
    procedure_step handler_step if_step labelled_step

-- a compound statement
abbrev pub judge_block : Block → Judge
judge_block = fold-Block JudgedDeclaration Judge JudgedStructure Judge JudgedBranch Judge Judge
    Judge JudgedDeclaration Judge Judge
    declaration_step stmt_step structure_step block_step branch_step case_step function_step
    procedure_step handler_step if_step labelled_step

-- a branch: its test as it is written, and its judged statements
abbrev pub judge_branch : Branch → JudgedBranch
judge_branch = fold-Branch JudgedDeclaration Judge JudgedStructure Judge JudgedBranch Judge Judge
    Judge JudgedDeclaration Judge Judge
    declaration_step stmt_step structure_step block_step branch_step case_step function_step
    procedure_step handler_step if_step labelled_step

-- a CASE
abbrev pub judge_case : Case → Judge
judge_case = fold-Case JudgedDeclaration Judge JudgedStructure Judge JudgedBranch Judge Judge Judge
    JudgedDeclaration Judge Judge
    declaration_step stmt_step structure_step block_step branch_step case_step function_step
    procedure_step handler_step if_step labelled_step

-- a handler, after the declarations before it
abbrev pub judge_handler : Handler → JudgedDeclaration
judge_handler = fold-Handler JudgedDeclaration Judge JudgedStructure Judge JudgedBranch Judge Judge
    Judge JudgedDeclaration Judge Judge
    declaration_step stmt_step structure_step block_step branch_step case_step function_step
    procedure_step handler_step if_step labelled_step

-- an IF
abbrev pub judge_if : If → Judge
judge_if = fold-If JudgedDeclaration Judge JudgedStructure Judge JudgedBranch Judge Judge Judge
    JudgedDeclaration Judge Judge
    declaration_step stmt_step structure_step block_step branch_step case_step function_step
    procedure_step handler_step if_step labelled_step

-- a statement with its label
abbrev pub judge_labelled : LabelledTree → Judge
judge_labelled = fold-Labelled JudgedDeclaration Judge JudgedStructure Judge JudgedBranch Judge
    Judge Judge JudgedDeclaration Judge Judge
    declaration_step stmt_step structure_step block_step branch_step case_step function_step
    procedure_step handler_step if_step labelled_step

-- ---- parts, for contracts

-- what is made of a value, where there was memory for it
abbrev pub made : {A B E : Type 0} → (A → B) → Result A E → Result B E
made f (Ok a) = Ok (f a)
made f (Err wanting) = Err wanting

-- the statements of FOR over the columns of its query
abbrev pub looped_body : Ident → OrderedQuery → List Judge → Surroundings → List Output →
    Noted (List BoundStmt)
looped_body i q body p cs =
    columns_faults q.query 0 [] cs
    >> judged_list body (with_scope (scope_of_columns i cs p.scopes) p)

-- the branches of a CASE, with its operand judged
abbrev pub arms_of : Option BoundExpr → Kind → Case → Judge
arms_of operand kind c p = judged_arms operand kind (map judge_branch (out-Case c).branches)
    (map judge_stmt (out-Case c).otherwise) p

-- a CASE with its operand
abbrev pub judged_simple : Expr → Case → Judge
judged_simple e c p = judged_expr e p >>= λ t. arms_of (Some t.tree) t.head.kind c p

-- a handler after other handlers of its compound statement
abbrev pub handler_after : Handler → List BoundHandler → Surroundings → Noted BoundHandler
handler_after h handlers here = judged_after (out-Handler h).handler_type (out-Handler h).values
    (judge_stmt (out-Handler h).action) handlers here
