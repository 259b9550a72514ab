-- One layer of each kind of written tree: whether it is in order, by the trees in it.
use Rattle.std.proofs.Common.{◌≡◌, sym, ap, ◌∙◌, Bool, true, false, ◌&&◌, List, map, Option}
use Rattle.syntax_trees.specs.declared.anchor.Anchor.{Anchor}
use Rattle.syntax_trees.specs.declared.anchor.Ident.{Ident}
use Rattle.syntax_trees.specs.declared.data_type.DataType.{DataType}
use Rattle.syntax_trees.specs.declared.expr.Expr.{Expr}
use Rattle.syntax_trees.specs.declared.query.OrderedQuery.{OrderedQuery}
use Rattle.statement_trees.specs.declared.condition.ConditionValue.{ConditionValue}
use Rattle.statement_trees.specs.declared.condition.GetDiagnostics.{GetDiagnostics}
use Rattle.statement_trees.specs.declared.condition.Resignal.{Resignal}
use Rattle.statement_trees.specs.declared.condition.Signal.{Signal}
use Rattle.statement_trees.specs.declared.declaration.ConditionDeclaration.{ConditionDeclaration}
use Rattle.statement_trees.specs.declared.declaration.CursorDeclaration.{CursorDeclaration}
use Rattle.statement_trees.specs.declared.declaration.HandlerType.{HandlerType}
use Rattle.statement_trees.specs.declared.declaration.VariableDeclaration.{VariableDeclaration}
use Rattle.statement_trees.specs.declared.definition.Characteristic.{Characteristic}
use Rattle.statement_trees.specs.declared.definition.CreateTable.{CreateTable}
use Rattle.statement_trees.specs.declared.definition.DropObject.{DropObject}
use Rattle.statement_trees.specs.declared.definition.Parameter.{Parameter}
use Rattle.statement_trees.specs.declared.writing.Assignment.{Assignment}
use Rattle.statement_trees.specs.declared.writing.Call.{Call}
use Rattle.statement_trees.specs.declared.writing.Delete.{Delete}
use Rattle.statement_trees.specs.declared.writing.Fetch.{Fetch}
use Rattle.statement_trees.specs.declared.writing.Insert.{Insert}
use Rattle.statement_trees.specs.declared.writing.SelectInto.{SelectInto}
use Rattle.statement_trees.specs.declared.writing.Update.{Update}
use Rattle.statement_trees.specs.declared.statement.Declaration.{Declaration}
use Rattle.statement_trees.specs.declared.statement.Stmt.{Stmt}
use Rattle.statement_trees.specs.declared.statement.Structure.{Structure}
use Rattle.statement_trees.specs.declared.statement.Block.{Block, roll-Block}
use Rattle.statement_trees.specs.declared.statement.Branch.{Branch, roll-Branch}
use Rattle.statement_trees.specs.declared.statement.Case.{Case, roll-Case}
use Rattle.statement_trees.specs.declared.statement.CreateFunction.{CreateFunction}
use Rattle.statement_trees.specs.declared.statement.CreateFunction.{roll-CreateFunction}
use Rattle.statement_trees.specs.declared.statement.CreateProcedure.{CreateProcedure}
use Rattle.statement_trees.specs.declared.statement.CreateProcedure.{roll-CreateProcedure}
use Rattle.statement_trees.specs.declared.statement.Handler.{Handler, roll-Handler}
use Rattle.statement_trees.specs.declared.statement.If.{If, roll-If}
use Rattle.statement_trees.specs.declared.statement.Labelled.{Labelled, roll-Labelled}
use Rattle.statement_trees.specs.declared.statement.Declaration.TheFolds.{fold-roll-Declaration}
use Rattle.statement_trees.specs.declared.statement.Declaration.TheFolds.{fold-roll-Stmt}
use Rattle.statement_trees.specs.declared.statement.Declaration.TheFolds.{fold-roll-Structure}
use Rattle.statement_trees.specs.declared.statement.Declaration.TheFolds.{fold-roll-Block}
use Rattle.statement_trees.specs.declared.statement.Declaration.TheFolds.{fold-roll-Branch}
use Rattle.statement_trees.specs.declared.statement.Declaration.TheFolds.{fold-roll-Case}
use Rattle.statement_trees.specs.declared.statement.Declaration.TheFolds.{fold-roll-CreateFunction}
use Rattle.statement_trees.specs.declared.statement.Declaration.TheFolds.{fold-roll-CreateProcedure}
use Rattle.statement_trees.specs.declared.statement.Declaration.TheFolds.{fold-roll-Handler}
use Rattle.statement_trees.specs.declared.statement.Declaration.TheFolds.{fold-roll-If}
use Rattle.statement_trees.specs.declared.statement.Declaration.TheFolds.{fold-roll-Labelled}
use Rattle.statement_trees.specs.declared.statement.Declaration.TheOpen.{Declaration-F, Stmt-F}
use Rattle.statement_trees.specs.declared.statement.Declaration.TheOpen.{Structure-F}
use Rattle.statement_trees.specs.declared.statement.Declaration.TheVariants as declaration
use Rattle.statement_trees.specs.declared.statement.Declaration.TheVariants.{rolls-Variables}
use Rattle.statement_trees.specs.declared.statement.Declaration.TheVariants.{rolls-Condition}
use Rattle.statement_trees.specs.declared.statement.Declaration.TheVariants.{rolls-Cursor}
use Rattle.statement_trees.specs.declared.statement.Declaration.TheVariants.{rolls-Handler}
use Rattle.statement_trees.specs.declared.statement.Stmt.TheVariants as stmt
use Rattle.statement_trees.specs.declared.statement.Stmt.TheVariants.{rolls-CreateTable}
use Rattle.statement_trees.specs.declared.statement.Stmt.TheVariants.{rolls-CreateFunction}
use Rattle.statement_trees.specs.declared.statement.Stmt.TheVariants.{rolls-CreateProcedure}
use Rattle.statement_trees.specs.declared.statement.Stmt.TheVariants.{rolls-Drop, rolls-Insert}
use Rattle.statement_trees.specs.declared.statement.Stmt.TheVariants.{rolls-Update, rolls-Delete}
use Rattle.statement_trees.specs.declared.statement.Stmt.TheVariants.{rolls-Query, rolls-Explain}
use Rattle.statement_trees.specs.declared.statement.Stmt.TheVariants.{rolls-Call, rolls-Labelled}
use Rattle.statement_trees.specs.declared.statement.Stmt.TheVariants.{rolls-If, rolls-Case}
use Rattle.statement_trees.specs.declared.statement.Stmt.TheVariants.{rolls-Set, rolls-SelectInto}
use Rattle.statement_trees.specs.declared.statement.Stmt.TheVariants.{rolls-Open, rolls-Close}
use Rattle.statement_trees.specs.declared.statement.Stmt.TheVariants.{rolls-Fetch, rolls-Signal}
use Rattle.statement_trees.specs.declared.statement.Stmt.TheVariants.{rolls-Resignal}
use Rattle.statement_trees.specs.declared.statement.Stmt.TheVariants.{rolls-GetDiagnostics}
use Rattle.statement_trees.specs.declared.statement.Stmt.TheVariants.{rolls-Leave, rolls-Iterate}
use Rattle.statement_trees.specs.declared.statement.Stmt.TheVariants.{rolls-Return}
use Rattle.statement_trees.specs.declared.statement.Structure.TheVariants as structure
use Rattle.statement_trees.specs.declared.statement.Structure.TheVariants.{rolls-Block as structure-Block}
use Rattle.statement_trees.specs.declared.statement.Structure.TheVariants.{rolls-Loop as structure-Loop}
use Rattle.statement_trees.specs.declared.statement.Structure.TheVariants.{rolls-While as structure-While}
use Rattle.statement_trees.specs.declared.statement.Structure.TheVariants.{rolls-Repeat as structure-Repeat}
use Rattle.statement_trees.specs.declared.statement.Structure.TheVariants.{rolls-For as structure-For}
use Rattle.grammar_order.specs.Ordered.{OrderedDeclaration, all_ordered, ordered_declarations}
use Rattle.grammar_order.specs.Ordered.{declaration_ordered, stmt_ordered, structure_ordered}
use Rattle.grammar_order.specs.Ordered.{block_ordered, branch_ordered, case_ordered}
use Rattle.grammar_order.specs.Ordered.{function_ordered, procedure_ordered, handler_ordered}
use Rattle.grammar_order.specs.Ordered.{if_ordered, labelled_ordered, order_of_declaration}
use Rattle.grammar_order.specs.Ordered.{is_ordered, order_of_structure, order_of_block}
use Rattle.grammar_order.specs.Ordered.{order_of_branch, order_of_case, order_of_function}
use Rattle.grammar_order.specs.Ordered.{order_of_procedure, order_of_handler, order_of_if}
use Rattle.grammar_order.specs.Ordered.{order_of_labelled}

-- ---- statements

pub create-table-order : (s : CreateTable) → is_ordered (stmt.CreateTable s) ≡ true
create-table-order s = ap is_ordered (sym (rolls-CreateTable s)) ∙
    fold-roll-Stmt OrderedDeclaration Bool Bool Bool Bool Bool Bool Bool Bool Bool Bool
    declaration_ordered stmt_ordered structure_ordered block_ordered branch_ordered case_ordered
    function_ordered procedure_ordered handler_ordered if_ordered labelled_ordered
    (Stmt-F.CreateTable s)

pub create-function-order : (x : CreateFunction) →
    is_ordered (stmt.CreateFunction x) ≡ order_of_function x
create-function-order x = ap is_ordered (sym (rolls-CreateFunction x)) ∙
    fold-roll-Stmt OrderedDeclaration Bool Bool Bool Bool Bool Bool Bool Bool Bool Bool
    declaration_ordered stmt_ordered structure_ordered block_ordered branch_ordered case_ordered
    function_ordered procedure_ordered handler_ordered if_ordered labelled_ordered
    (Stmt-F.CreateFunction x)

pub create-procedure-order : (x : CreateProcedure) →
    is_ordered (stmt.CreateProcedure x) ≡ order_of_procedure x
create-procedure-order x = ap is_ordered (sym (rolls-CreateProcedure x)) ∙
    fold-roll-Stmt OrderedDeclaration Bool Bool Bool Bool Bool Bool Bool Bool Bool Bool
    declaration_ordered stmt_ordered structure_ordered block_ordered branch_ordered case_ordered
    function_ordered procedure_ordered handler_ordered if_ordered labelled_ordered
    (Stmt-F.CreateProcedure x)

pub drop-order : (s : DropObject) → is_ordered (stmt.Drop s) ≡ true
drop-order s = ap is_ordered (sym (rolls-Drop s)) ∙
    fold-roll-Stmt OrderedDeclaration Bool Bool Bool Bool Bool Bool Bool Bool Bool Bool
    declaration_ordered stmt_ordered structure_ordered block_ordered branch_ordered case_ordered
    function_ordered procedure_ordered handler_ordered if_ordered labelled_ordered (Stmt-F.Drop s)

pub insert-order : (s : Insert) → is_ordered (stmt.Insert s) ≡ true
insert-order s = ap is_ordered (sym (rolls-Insert s)) ∙
    fold-roll-Stmt OrderedDeclaration Bool Bool Bool Bool Bool Bool Bool Bool Bool Bool
    declaration_ordered stmt_ordered structure_ordered block_ordered branch_ordered case_ordered
    function_ordered procedure_ordered handler_ordered if_ordered labelled_ordered (Stmt-F.Insert s)

pub update-order : (s : Update) → is_ordered (stmt.Update s) ≡ true
update-order s = ap is_ordered (sym (rolls-Update s)) ∙
    fold-roll-Stmt OrderedDeclaration Bool Bool Bool Bool Bool Bool Bool Bool Bool Bool
    declaration_ordered stmt_ordered structure_ordered block_ordered branch_ordered case_ordered
    function_ordered procedure_ordered handler_ordered if_ordered labelled_ordered (Stmt-F.Update s)

pub delete-order : (s : Delete) → is_ordered (stmt.Delete s) ≡ true
delete-order s = ap is_ordered (sym (rolls-Delete s)) ∙
    fold-roll-Stmt OrderedDeclaration Bool Bool Bool Bool Bool Bool Bool Bool Bool Bool
    declaration_ordered stmt_ordered structure_ordered block_ordered branch_ordered case_ordered
    function_ordered procedure_ordered handler_ordered if_ordered labelled_ordered (Stmt-F.Delete s)

pub query-order : (q : OrderedQuery) → is_ordered (stmt.Query q) ≡ true
query-order q = ap is_ordered (sym (rolls-Query q)) ∙
    fold-roll-Stmt OrderedDeclaration Bool Bool Bool Bool Bool Bool Bool Bool Bool Bool
    declaration_ordered stmt_ordered structure_ordered block_ordered branch_ordered case_ordered
    function_ordered procedure_ordered handler_ordered if_ordered labelled_ordered (Stmt-F.Query q)

pub explain-order : (at : Anchor) (q : OrderedQuery) → is_ordered (stmt.Explain at q) ≡ true
explain-order at q = ap is_ordered (sym (rolls-Explain at q)) ∙
    fold-roll-Stmt OrderedDeclaration Bool Bool Bool Bool Bool Bool Bool Bool Bool Bool
    declaration_ordered stmt_ordered structure_ordered block_ordered branch_ordered case_ordered
    function_ordered procedure_ordered handler_ordered if_ordered labelled_ordered
    (Stmt-F.Explain at q)

pub call-order : (s : Call) → is_ordered (stmt.Call s) ≡ true
call-order s = ap is_ordered (sym (rolls-Call s)) ∙
    fold-roll-Stmt OrderedDeclaration Bool Bool Bool Bool Bool Bool Bool Bool Bool Bool
    declaration_ordered stmt_ordered structure_ordered block_ordered branch_ordered case_ordered
    function_ordered procedure_ordered handler_ordered if_ordered labelled_ordered (Stmt-F.Call s)

pub labelled-order : (x : Labelled) → is_ordered (stmt.Labelled x) ≡ order_of_labelled x
labelled-order x = ap is_ordered (sym (rolls-Labelled x)) ∙
    fold-roll-Stmt OrderedDeclaration Bool Bool Bool Bool Bool Bool Bool Bool Bool Bool
    declaration_ordered stmt_ordered structure_ordered block_ordered branch_ordered case_ordered
    function_ordered procedure_ordered handler_ordered if_ordered labelled_ordered
    (Stmt-F.Labelled x)

pub if-order : (x : If) → is_ordered (stmt.If x) ≡ order_of_if x
if-order x = ap is_ordered (sym (rolls-If x)) ∙
    fold-roll-Stmt OrderedDeclaration Bool Bool Bool Bool Bool Bool Bool Bool Bool Bool
    declaration_ordered stmt_ordered structure_ordered block_ordered branch_ordered case_ordered
    function_ordered procedure_ordered handler_ordered if_ordered labelled_ordered (Stmt-F.If x)

pub case-order : (x : Case) → is_ordered (stmt.Case x) ≡ order_of_case x
case-order x = ap is_ordered (sym (rolls-Case x)) ∙
    fold-roll-Stmt OrderedDeclaration Bool Bool Bool Bool Bool Bool Bool Bool Bool Bool
    declaration_ordered stmt_ordered structure_ordered block_ordered branch_ordered case_ordered
    function_ordered procedure_ordered handler_ordered if_ordered labelled_ordered (Stmt-F.Case x)

pub set-order : (at : Anchor) (x : Assignment) → is_ordered (stmt.Set at x) ≡ true
set-order at x = ap is_ordered (sym (rolls-Set at x)) ∙
    fold-roll-Stmt OrderedDeclaration Bool Bool Bool Bool Bool Bool Bool Bool Bool Bool
    declaration_ordered stmt_ordered structure_ordered block_ordered branch_ordered case_ordered
    function_ordered procedure_ordered handler_ordered if_ordered labelled_ordered (Stmt-F.Set at x)

pub select-into-order : (s : SelectInto) → is_ordered (stmt.SelectInto s) ≡ true
select-into-order s = ap is_ordered (sym (rolls-SelectInto s)) ∙
    fold-roll-Stmt OrderedDeclaration Bool Bool Bool Bool Bool Bool Bool Bool Bool Bool
    declaration_ordered stmt_ordered structure_ordered block_ordered branch_ordered case_ordered
    function_ordered procedure_ordered handler_ordered if_ordered labelled_ordered
    (Stmt-F.SelectInto s)

pub open-order : (at : Anchor) (i : Ident) → is_ordered (stmt.Open at i) ≡ true
open-order at i = ap is_ordered (sym (rolls-Open at i)) ∙
    fold-roll-Stmt OrderedDeclaration Bool Bool Bool Bool Bool Bool Bool Bool Bool Bool
    declaration_ordered stmt_ordered structure_ordered block_ordered branch_ordered case_ordered
    function_ordered procedure_ordered handler_ordered if_ordered labelled_ordered
    (Stmt-F.Open at i)

pub close-order : (at : Anchor) (i : Ident) → is_ordered (stmt.Close at i) ≡ true
close-order at i = ap is_ordered (sym (rolls-Close at i)) ∙
    fold-roll-Stmt OrderedDeclaration Bool Bool Bool Bool Bool Bool Bool Bool Bool Bool
    declaration_ordered stmt_ordered structure_ordered block_ordered branch_ordered case_ordered
    function_ordered procedure_ordered handler_ordered if_ordered labelled_ordered
    (Stmt-F.Close at i)

pub fetch-order : (s : Fetch) → is_ordered (stmt.Fetch s) ≡ true
fetch-order s = ap is_ordered (sym (rolls-Fetch s)) ∙
    fold-roll-Stmt OrderedDeclaration Bool Bool Bool Bool Bool Bool Bool Bool Bool Bool
    declaration_ordered stmt_ordered structure_ordered block_ordered branch_ordered case_ordered
    function_ordered procedure_ordered handler_ordered if_ordered labelled_ordered (Stmt-F.Fetch s)

pub signal-order : (s : Signal) → is_ordered (stmt.Signal s) ≡ true
signal-order s = ap is_ordered (sym (rolls-Signal s)) ∙
    fold-roll-Stmt OrderedDeclaration Bool Bool Bool Bool Bool Bool Bool Bool Bool Bool
    declaration_ordered stmt_ordered structure_ordered block_ordered branch_ordered case_ordered
    function_ordered procedure_ordered handler_ordered if_ordered labelled_ordered (Stmt-F.Signal s)

pub resignal-order : (s : Resignal) → is_ordered (stmt.Resignal s) ≡ true
resignal-order s = ap is_ordered (sym (rolls-Resignal s)) ∙
    fold-roll-Stmt OrderedDeclaration Bool Bool Bool Bool Bool Bool Bool Bool Bool Bool
    declaration_ordered stmt_ordered structure_ordered block_ordered branch_ordered case_ordered
    function_ordered procedure_ordered handler_ordered if_ordered labelled_ordered
    (Stmt-F.Resignal s)

pub get-diagnostics-order : (s : GetDiagnostics) → is_ordered (stmt.GetDiagnostics s) ≡ true
get-diagnostics-order s = ap is_ordered (sym (rolls-GetDiagnostics s)) ∙
    fold-roll-Stmt OrderedDeclaration Bool Bool Bool Bool Bool Bool Bool Bool Bool Bool
    declaration_ordered stmt_ordered structure_ordered block_ordered branch_ordered case_ordered
    function_ordered procedure_ordered handler_ordered if_ordered labelled_ordered
    (Stmt-F.GetDiagnostics s)

pub leave-order : (at : Anchor) (i : Ident) → is_ordered (stmt.Leave at i) ≡ true
leave-order at i = ap is_ordered (sym (rolls-Leave at i)) ∙
    fold-roll-Stmt OrderedDeclaration Bool Bool Bool Bool Bool Bool Bool Bool Bool Bool
    declaration_ordered stmt_ordered structure_ordered block_ordered branch_ordered case_ordered
    function_ordered procedure_ordered handler_ordered if_ordered labelled_ordered
    (Stmt-F.Leave at i)

pub iterate-order : (at : Anchor) (i : Ident) → is_ordered (stmt.Iterate at i) ≡ true
iterate-order at i = ap is_ordered (sym (rolls-Iterate at i)) ∙
    fold-roll-Stmt OrderedDeclaration Bool Bool Bool Bool Bool Bool Bool Bool Bool Bool
    declaration_ordered stmt_ordered structure_ordered block_ordered branch_ordered case_ordered
    function_ordered procedure_ordered handler_ordered if_ordered labelled_ordered
    (Stmt-F.Iterate at i)

pub return-order : (at : Anchor) (e : Expr) → is_ordered (stmt.Return at e) ≡ true
return-order at e = ap is_ordered (sym (rolls-Return at e)) ∙
    fold-roll-Stmt OrderedDeclaration Bool Bool Bool Bool Bool Bool Bool Bool Bool Bool
    declaration_ordered stmt_ordered structure_ordered block_ordered branch_ordered case_ordered
    function_ordered procedure_ordered handler_ordered if_ordered labelled_ordered
    (Stmt-F.Return at e)

-- ---- what may have a label

pub block-structure : (b : Block) → order_of_structure (structure.Block b) ≡ order_of_block b
block-structure b = ap order_of_structure (sym (structure-Block b)) ∙
    fold-roll-Structure OrderedDeclaration Bool Bool Bool Bool Bool Bool Bool Bool Bool Bool
    declaration_ordered stmt_ordered structure_ordered block_ordered branch_ordered case_ordered
    function_ordered procedure_ordered handler_ordered if_ordered labelled_ordered
    (Structure-F.Block b)

pub loop-structure : (body : List Stmt) → order_of_structure (structure.Loop body) ≡ all_ordered
    (map is_ordered body)
loop-structure body = ap order_of_structure (sym (structure-Loop body)) ∙
    fold-roll-Structure OrderedDeclaration Bool Bool Bool Bool Bool Bool Bool Bool Bool Bool
    declaration_ordered stmt_ordered structure_ordered block_ordered branch_ordered case_ordered
    function_ordered procedure_ordered handler_ordered if_ordered labelled_ordered
    (Structure-F.Loop body)

pub while-structure : (e : Expr) (body : List Stmt) →
    order_of_structure (structure.While e body) ≡ all_ordered (map is_ordered body)
while-structure e body = ap order_of_structure (sym (structure-While e body)) ∙
    fold-roll-Structure OrderedDeclaration Bool Bool Bool Bool Bool Bool Bool Bool Bool Bool
    declaration_ordered stmt_ordered structure_ordered block_ordered branch_ordered case_ordered
    function_ordered procedure_ordered handler_ordered if_ordered labelled_ordered
    (Structure-F.While e body)

pub repeat-structure : (body : List Stmt) (e : Expr) →
    order_of_structure (structure.Repeat body e) ≡ all_ordered (map is_ordered body)
repeat-structure body e = ap order_of_structure (sym (structure-Repeat body e)) ∙
    fold-roll-Structure OrderedDeclaration Bool Bool Bool Bool Bool Bool Bool Bool Bool Bool
    declaration_ordered stmt_ordered structure_ordered block_ordered branch_ordered case_ordered
    function_ordered procedure_ordered handler_ordered if_ordered labelled_ordered
    (Structure-F.Repeat body e)

pub for-structure : (i : Ident) (q : OrderedQuery) (body : List Stmt) →
    order_of_structure (structure.For i q body) ≡ all_ordered (map is_ordered body)
for-structure i q body = ap order_of_structure (sym (structure-For i q body)) ∙
    fold-roll-Structure OrderedDeclaration Bool Bool Bool Bool Bool Bool Bool Bool Bool Bool
    declaration_ordered stmt_ordered structure_ordered block_ordered branch_ordered case_ordered
    function_ordered procedure_ordered handler_ordered if_ordered labelled_ordered
    (Structure-F.For i q body)

-- ---- declarations

pub variables-declaration : (d : VariableDeclaration) →
    order_of_declaration (declaration.Variables d) ≡ record {
      is_handler = false;
      is_ordered =
          true;
    }
variables-declaration d = ap order_of_declaration (sym (rolls-Variables d)) ∙
    fold-roll-Declaration OrderedDeclaration Bool Bool Bool Bool Bool Bool Bool Bool Bool Bool
    declaration_ordered stmt_ordered structure_ordered block_ordered branch_ordered case_ordered
    function_ordered procedure_ordered handler_ordered if_ordered labelled_ordered
    (Declaration-F.Variables d)

pub condition-declaration : (d : ConditionDeclaration) →
    order_of_declaration (declaration.Condition d) ≡ record {
      is_handler = false;
      is_ordered =
          true;
    }
condition-declaration d = ap order_of_declaration (sym (rolls-Condition d)) ∙
    fold-roll-Declaration OrderedDeclaration Bool Bool Bool Bool Bool Bool Bool Bool Bool Bool
    declaration_ordered stmt_ordered structure_ordered block_ordered branch_ordered case_ordered
    function_ordered procedure_ordered handler_ordered if_ordered labelled_ordered
    (Declaration-F.Condition d)

pub cursor-declaration : (d : CursorDeclaration) →
    order_of_declaration (declaration.Cursor d) ≡ record { is_handler = false; is_ordered = true }
cursor-declaration d = ap order_of_declaration (sym (rolls-Cursor d)) ∙
    fold-roll-Declaration OrderedDeclaration Bool Bool Bool Bool Bool Bool Bool Bool Bool Bool
    declaration_ordered stmt_ordered structure_ordered block_ordered branch_ordered case_ordered
    function_ordered procedure_ordered handler_ordered if_ordered labelled_ordered
    (Declaration-F.Cursor d)

pub handler-declaration : (h : Handler) → order_of_declaration (declaration.Handler h) ≡
    record { is_handler = true; is_ordered = order_of_handler h }
handler-declaration h = ap order_of_declaration (sym (rolls-Handler h)) ∙
    fold-roll-Declaration OrderedDeclaration Bool Bool Bool Bool Bool Bool Bool Bool Bool Bool
    declaration_ordered stmt_ordered structure_ordered block_ordered branch_ordered case_ordered
    function_ordered procedure_ordered handler_ordered if_ordered labelled_ordered
    (Declaration-F.Handler h)

-- ---- the others

pub block-parts : (atomic : Bool) (ds : List Declaration) (ss : List Stmt)
    → order_of_block (roll-Block (record { atomic = atomic; declarations = ds; statements = ss })) ≡
    (ordered_declarations (map order_of_declaration ds) && all_ordered (map is_ordered ss))
block-parts atomic ds ss = fold-roll-Block OrderedDeclaration Bool Bool Bool Bool Bool Bool Bool
    Bool Bool Bool declaration_ordered stmt_ordered structure_ordered block_ordered branch_ordered
    case_ordered function_ordered procedure_ordered handler_ordered if_ordered labelled_ordered
    (record { atomic = atomic; declarations = ds; statements = ss })

pub branch-parts : (test : Expr) (body : List Stmt)
    → order_of_branch (roll-Branch (record { test = test; body = body })) ≡ all_ordered
    (map is_ordered body)
branch-parts test body = fold-roll-Branch OrderedDeclaration Bool Bool Bool Bool Bool Bool Bool Bool
    Bool Bool declaration_ordered stmt_ordered structure_ordered block_ordered branch_ordered
    case_ordered function_ordered procedure_ordered handler_ordered if_ordered labelled_ordered
    (record { test = test; body = body })

pub case-parts : (at : Anchor) (operand : Option Expr) (bs : List Branch) (ss : List Stmt)
    → order_of_case (roll-Case (record {
      anchor = at;
      operand = operand;
      branches = bs;
      otherwise =
          ss;
    })) ≡ (all_ordered (map order_of_branch bs) && all_ordered (map is_ordered ss))
case-parts at operand bs ss = fold-roll-Case OrderedDeclaration Bool Bool Bool Bool Bool Bool Bool
    Bool Bool Bool declaration_ordered stmt_ordered structure_ordered block_ordered branch_ordered
    case_ordered function_ordered procedure_ordered handler_ordered if_ordered labelled_ordered
    (record { anchor = at; operand = operand; branches = bs; otherwise = ss })

pub if-parts : (at : Anchor) (bs : List Branch) (ss : List Stmt)
    → order_of_if (roll-If (record { anchor = at; branches = bs; otherwise = ss })) ≡
    (all_ordered (map order_of_branch bs) && all_ordered (map is_ordered ss))
if-parts at bs ss = fold-roll-If OrderedDeclaration Bool Bool Bool Bool Bool Bool Bool Bool Bool
    Bool declaration_ordered stmt_ordered structure_ordered block_ordered branch_ordered
    case_ordered function_ordered procedure_ordered handler_ordered if_ordered labelled_ordered
    (record { anchor = at; branches = bs; otherwise = ss })

pub labelled-parts : (label : Option Ident) (at : Anchor) (s : Structure) (end_label : Option Ident)
    → order_of_labelled
    (roll-Labelled (record {
      label = label;
      anchor = at;
      structure = s;
      end_label =
          end_label;
    })) ≡ order_of_structure s
labelled-parts label at s end_label = fold-roll-Labelled OrderedDeclaration Bool Bool Bool Bool Bool
    Bool Bool Bool Bool Bool declaration_ordered stmt_ordered structure_ordered block_ordered
    branch_ordered case_ordered function_ordered procedure_ordered handler_ordered if_ordered
    labelled_ordered (record { label = label; anchor = at; structure = s; end_label = end_label })

pub handler-parts : (at : Anchor) (t : HandlerType) (values : List ConditionValue) (action : Stmt)
    → order_of_handler (roll-Handler (record {
      anchor = at;
      handler_type = t;
      values = values;
      action = action;
    })) ≡ is_ordered action
handler-parts at t values action = fold-roll-Handler OrderedDeclaration Bool Bool Bool Bool Bool
    Bool Bool Bool Bool Bool declaration_ordered stmt_ordered structure_ordered block_ordered
    branch_ordered case_ordered function_ordered procedure_ordered handler_ordered if_ordered
    labelled_ordered (record { anchor = at; handler_type = t; values = values; action = action })

pub function-parts : (at : Anchor) (i : Ident) (ps : List Parameter) (d : DataType)
    (cs : List Characteristic) (body : Stmt)
    → order_of_function
    (roll-CreateFunction (record {
      anchor = at;
      name = i;
      parameters = ps;
      returns = d;
      characteristics = cs;
      body = body;
    })) ≡ is_ordered body
function-parts at i ps d cs body = fold-roll-CreateFunction OrderedDeclaration Bool Bool Bool Bool
    Bool Bool Bool Bool Bool Bool declaration_ordered stmt_ordered structure_ordered block_ordered
    branch_ordered case_ordered function_ordered procedure_ordered handler_ordered if_ordered
    labelled_ordered (record {
      anchor = at;
      name = i;
      parameters = ps;
      returns = d;
      characteristics = cs;
      body = body;
    })

pub procedure-parts : (at : Anchor) (i : Ident) (ps : List Parameter) (cs : List Characteristic)
    (body : Stmt)
    → order_of_procedure (roll-CreateProcedure
    (record { anchor = at; name = i; parameters = ps; characteristics = cs; body = body })) ≡
    is_ordered body
procedure-parts at i ps cs body = fold-roll-CreateProcedure OrderedDeclaration Bool Bool Bool Bool
    Bool Bool Bool Bool Bool Bool declaration_ordered stmt_ordered structure_ordered block_ordered
    branch_ordered case_ordered function_ordered procedure_ordered handler_ordered if_ordered
    labelled_ordered (record {
      anchor = at;
      name = i;
      parameters = ps;
      characteristics = cs;
      body =
          body;
    })
