-- A statement without faults is well typed.
use Rattle.std.proofs.Common.{◌≡◌, refl, sym, ap, ◌∙◌, subst, arith, ℕ, zero, suc, ◌+◌, Bool, true}
use Rattle.std.proofs.Common.{false, cond, ◌||◌, List, [], ◌∷◌, ◌++◌, map, length, Option, Some}
use Rattle.std.proofs.Common.{None}
use Rattle.std.specs.Prelude.{slice_get, is_some, if◌then◌else◌}
use Rattle.syntax_trees.specs.declared.expr.Expr.{Expr}
use Rattle.syntax_trees.specs.declared.query.OrderedQuery.{OrderedQuery}
use Rattle.statement_trees.specs.declared.definition.Parameter.{Parameter}
use Rattle.statement_trees.specs.declared.statement.Block.{Block}
use Rattle.statement_trees.specs.declared.statement.Branch.{Branch}
use Rattle.statement_trees.specs.declared.statement.Case.{Case}
use Rattle.statement_trees.specs.declared.statement.CreateFunction.{CreateFunction}
use Rattle.statement_trees.specs.declared.statement.CreateFunction.{out-CreateFunction}
use Rattle.statement_trees.specs.declared.statement.CreateFunction.{fold_out-CreateFunction}
use Rattle.statement_trees.specs.declared.statement.CreateProcedure.{CreateProcedure}
use Rattle.statement_trees.specs.declared.statement.CreateProcedure.{out-CreateProcedure}
use Rattle.statement_trees.specs.declared.statement.CreateProcedure.{fold_out-CreateProcedure}
use Rattle.statement_trees.specs.declared.statement.Declaration.{Declaration}
use Rattle.statement_trees.specs.declared.statement.Declaration.TheFolds.{map-Stmt}
use Rattle.statement_trees.specs.declared.statement.Declaration.TheOpen.{Stmt-F}
use Rattle.statement_trees.specs.declared.statement.Handler.{Handler}
use Rattle.statement_trees.specs.declared.statement.If.{If}
use Rattle.statement_trees.specs.declared.statement.Labelled.{Labelled}
use Rattle.statement_trees.specs.declared.statement.Stmt.{Stmt, out-Stmt, fold_out-Stmt}
use Rattle.statement_trees.specs.declared.statement.Structure.{Structure}
use Rattle.grammar_order.specs.Ordered.{OrderedDeclaration, is_ordered, order_of_declaration}
use Rattle.grammar_order.specs.Ordered.{order_of_structure, order_of_block, order_of_branch}
use Rattle.grammar_order.specs.Ordered.{order_of_case, order_of_function, order_of_procedure}
use Rattle.grammar_order.specs.Ordered.{order_of_handler, order_of_if, order_of_labelled}
use Rattle.grammar_order.specs.Ordered.{declaration_ordered, stmt_ordered, structure_ordered}
use Rattle.grammar_order.specs.Ordered.{block_ordered, branch_ordered, case_ordered}
use Rattle.grammar_order.specs.Ordered.{function_ordered, procedure_ordered, handler_ordered}
use Rattle.grammar_order.specs.Ordered.{if_ordered, labelled_ordered}
use Rattle.statement_trees.specs.declared.writing.Call.{Call}
use Rattle.bound_trees.specs.declared.expr.BoundExpr.{BoundExpr}
use Rattle.bound_trees.specs.declared.statement.BoundStmt.{out-BoundStmt}
use Rattle.bound_trees.specs.declared.statement.BoundStmt.TheViews.{outs-Call}
use Rattle.bound_trees.specs.declared.statement.BoundStmt.TheVariants as stmt
use Rattle.catalog_store.specs.Catalog.{Catalog}
use Rattle.catalog_store.specs.declared.entry.DataAccess.{DataAccess}
use Rattle.bind_faults.specs.Faults.{noted}
use Rattle.bind_faults.proofs.Laws.{is_free}
use Rattle.bind_kinds.specs.declared.kind.Kind.{Kind}
use Rattle.bind_kinds.specs.Kinds.{kind_of_type}
use Rattle.bind_kinds.specs.Types.{type_of}
use Rattle.bind_sight.specs.declared.scope.Variable.{Variable as Held}
use Rattle.bind_sight.specs.Sight.{at_top}
use Rattle.bind_queries.specs.Order.{judge_ordered}
use Rattle.bind_queries.proofs.Laws.{front_nil, back_nil}
use Rattle.bind_simple.specs.Calls.{judged_call}
use Rattle.bind_routines.specs.Statements.{judge_stmt}
use Rattle.typing_trees.specs.Around.{Around, Slot, stored}
use Rattle.typing_trees.specs.Queries.{kinds_of_query}
use Rattle.typing_trees.specs.Statements.{value_of, is_of, is_typed}
use Rattle.typing_queries.proofs.Laws.{HasAll, Sees, ScopeIn, SlotIs, ordered_typed}
use Rattle.typing_statements.proofs.Laws.{call-typed, statement_typed, return-layer, Stands}
use Rattle.typing_statements.proofs.Laws.{CursorsOf, value-typed, insert-typed, update-typed}
use Rattle.typing_statements.proofs.Laws.{delete-typed}
use Rattle.bind_direct.specs.declared.bound.BoundStatement.{BoundStatement}
use Rattle.bind_rules.specs.Definitions.{Definition, ProcedureDefinition}
use Rattle.bind_definitions.specs.Making.{own_function as own_function_of}
use Rattle.bind_definitions.specs.Making.{own_procedure as own_procedure_of, signature_faults}
use Rattle.null_guards.specs.Guards.{guarded}
use Rattle.null_guards.proofs.Laws.{guards_keep_kinds}
use Rattle.bind_definitions.specs.Making.{returning, planned_function, interpreted, guarded_body}
use Rattle.bind_definitions.specs.Making.{has_plan}
use Rattle.bind_definitions.specs.Making.{access_of_result}
use Rattle.bind_direct.specs.Direct.{at_script as script_place, direct_call}
use Rattle.bind_direct.specs.Returning.{in_function, judged_result, returning_with}
use Rattle.bind_statements.specs.Functions.{in_procedure, body_of_function, procedure_faults}
use Rattle.bind_statements.specs.Functions.{body_of_procedure, judged_procedure, body_faults}
use Rattle.bind_definitions.specs.Routines.{parameter_types, parameters_held, parameters_of}
use Rattle.bind_definitions.specs.Routines.{parameter_names}
use Rattle.bind_definitions.specs.Characteristics.{group_faults, is_null_on_null}
use Rattle.bind_rules.specs.Definitions.{Form, value_returned}
use Rattle.bind_statements.specs.Statements.{judged_form, judged_object, judged_statement}
use Rattle.bind_statements.specs.Statements.{judged_routine}
use Rattle.bind_statements.specs.Types.{around, inside, at_script, script_call, object_typed}
use Rattle.bind_statements.specs.Types.{IsTyped, FaultlessTyped}

-- ---- outside of routines

sees-top : (catalog : Catalog) → Sees (at_top catalog) (around [] None catalog)
sees-top catalog = record {
  levels = tt;
  scopes = tt;
  tables = λ name. refl;
  functions =
      λ name. refl;
}

stands-at-script : (catalog : Catalog) → Stands (script_place catalog) (at_script catalog)
stands-at-script catalog = record {
  sees = record { levels = tt; scopes = tt; tables = λ name. refl; functions = λ name. refl };
  slots = refl;
  held = tt;
  cursors = refl;
  outer = refl;
  returns = refl;
  procedures = λ name. refl;
}

-- ---- parameters

abbrev slots_of : List Parameter → List Slot
slots_of ps = map (λ t. stored t) (parameter_types ps)

parameter-slot : (ps : List Parameter) (place : ℕ) (v : Held) →
    slice_get (parameters_held ps) place ≡ Some v → SlotIs v (slice_get (slots_of ps) place)
parameter-slot [] place v is = absurd cc
parameter-slot (p ∷ ps) zero v is = (stored (type_of p.data_type), refl, (cc, cc))
parameter-slot (p ∷ ps) (suc place) v is = parameter-slot ps place v is

many-held : (ps : List Parameter) → length (parameters_held ps) ≡ length ps
many-held [] = refl
many-held (p ∷ ps) = ap suc (many-held ps)

many-names : (ps : List Parameter) → length (parameter_names ps) ≡ length ps
many-names [] = refl
many-names (p ∷ ps) = ap suc (many-names ps)

many-slots : (ps : List Parameter) → length (slots_of ps) ≡ length ps
many-slots [] = refl
many-slots (p ∷ ps) = ap suc (many-slots ps)

from-none : (n : ℕ) → 0 + n ≡ n
from-none n = omega arith

parameters-in : (ps : List Parameter) → ScopeIn (parameters_of ps) (slots_of ps)
parameters-in ps = record {
  as_many = many-names ps ∙ sym (many-held ps);
  slot = λ place v is. subst (λ n. SlotIs v (slice_get (slots_of ps) n)) (sym (from-none place))
      (parameter-slot ps place v is);
}

no-cursors : (ps : List Parameter) → CursorsOf (parameters_of ps) []
no-cursors ps = record { as_many = refl; slot = λ place c is. absurd cc }

many : (ps : List Parameter) → length (slots_of ps) ≡ 0 + length (parameters_held ps)
many ps = many-slots ps ∙ sym (many-held ps) ∙ sym (from-none (length (parameters_held ps)))

stands-in-function : (s : Definition) (catalog : Catalog)
    → Stands (in_function s (parameters_of s.parameters) catalog)
    (inside (parameter_types s.parameters) (Some (type_of s.returns)) (Some (own_function_of s))
    None catalog)
stands-in-function s catalog = record {
  sees = record {
    levels = tt;
    scopes = (parameters-in s.parameters, tt);
    tables = λ name. refl;
    functions = λ name. refl;
  };
  slots = many s.parameters;
  held = (no-cursors s.parameters, tt);
  cursors = refl;
  outer = refl;
  returns = refl;
  procedures = λ name. refl;
}

stands-in-procedure : (s : ProcedureDefinition) (catalog : Catalog)
    → Stands (in_procedure s (parameters_of s.parameters) catalog)
    (inside (parameter_types s.parameters) None (Some (own_procedure_of s))
    (in_procedure s (parameters_of s.parameters) catalog).procedure catalog)
stands-in-procedure s catalog = record {
  sees = record {
    levels = tt;
    scopes = (parameters-in s.parameters, tt);
    tables = λ name. refl;
    functions = λ name. refl;
  };
  slots = many s.parameters;
  held = (no-cursors s.parameters, tt);
  cursors = refl;
  outer = refl;
  returns = refl;
  procedures = λ name. refl;
}

-- ---- routines

result-typed : (s : Definition) (result : Expr) (catalog : Catalog) →
    (judged_result s result (parameters_of s.parameters) catalog).faults ≡ []
    → value_of (kind_of_type (type_of s.returns))
    (judged_result s result (parameters_of s.parameters) catalog).value
    (around (slots_of s.parameters) (Some (own_function_of s)) catalog) ≡ true
result-typed s result catalog p =
    let h = stands-in-function s catalog in
    value-typed (kind_of_type (type_of s.returns)) result
    (in_function s (parameters_of s.parameters) catalog)
    (around (slots_of s.parameters) (Some (own_function_of s)) catalog) h.sees p

-- so is the value of a function that may return NULL on NULL input
guarded-typed : (s : Definition) (catalog : Catalog) (e : BoundExpr)
    → value_of (kind_of_type (type_of s.returns)) e
    (around (slots_of s.parameters) (Some (own_function_of s)) catalog) ≡ true
    → value_of (kind_of_type (type_of s.returns)) (guarded_body s e)
    (around (slots_of s.parameters) (Some (own_function_of s)) catalog) ≡ true
guarded-typed s catalog e p = by (is_null_on_null s.characteristics)
  where
    a : Around
    a = around (slots_of s.parameters) (Some (own_function_of s)) catalog

    n : ℕ
    n = length s.parameters

    as-many : n ≡ length a.slots
    as-many = sym (many-slots s.parameters)

    by : (b : Bool) → value_of (kind_of_type (type_of s.returns)) (if b then guarded n e else e) a ≡
        true
    by true = ap (is_of (kind_of_type (type_of s.returns)))
        (guards_keep_kinds n e a (omega (arith, as-many))) ∙ p
    by false = p

returned-typed : (s : Definition) (catalog : Catalog) (uses : List (List ℕ)) (e : BoundExpr)
    → value_of (kind_of_type (type_of s.returns)) e
    (around (slots_of s.parameters) (Some (own_function_of s)) catalog) ≡ true
    → object_typed s.name.name (returning s catalog uses e) catalog ≡ true
returned-typed s catalog uses e p = by (has_plan catalog uses e)
  where
    access : DataAccess
    access = access_of_result s catalog uses

    by : (b : Bool) → object_typed s.name.name
        (if b then planned_function s catalog access uses e else
        interpreted s catalog access uses (stmt.Return e)) catalog ≡ true
    by true = guarded-typed s catalog e p
    by false = return-layer e (inside (parameter_types s.parameters) (Some (type_of s.returns))
        (Some (own_function_of s)) None catalog) ∙ p

definition-typed : (s : Definition) (result : Option Expr) (catalog : Catalog) →
    is_ordered s.body ≡ true → (judged_object s result catalog).faults ≡ [] →
    object_typed s.name.name (judged_object s result catalog).value catalog ≡ true
definition-typed s None catalog o p =
    let place = in_function s (parameters_of s.parameters) catalog in
    let body = body_of_function s (parameters_of s.parameters) catalog in
    let around = inside (parameter_types s.parameters) (Some (type_of s.returns))
    (Some (own_function_of s)) None catalog in
    let asked = body_faults s.name s.characteristics catalog body in
    statement_typed s.body place around o (front_nil body.faults asked
    (back_nil (signature_faults s catalog ++ group_faults s.characteristics)
    (body.faults ++ asked) p)) (stands-in-function s catalog)
definition-typed s (Some result) catalog o p =
    let body = judged_result s result (parameters_of s.parameters) catalog in
    let rest = (returning_with s catalog body).faults in
    returned-typed s catalog body.uses body.value
    (result-typed s result catalog (front_nil body.faults _
    (back_nil (signature_faults s catalog ++ group_faults s.characteristics) rest p)))

procedure-typed : (s : ProcedureDefinition) (catalog : Catalog) → is_ordered s.body ≡ true →
    (judged_procedure s catalog).faults ≡ [] →
    object_typed s.name.name (judged_procedure s catalog).value catalog ≡ true
procedure-typed s catalog o p =
    let place = in_procedure s (parameters_of s.parameters) catalog in
    let body = body_of_procedure s (parameters_of s.parameters) catalog in
    let around = inside (parameter_types s.parameters) None (Some (own_procedure_of s))
    place.procedure catalog in
    let asked = body_faults s.name s.characteristics catalog body in
    statement_typed s.body place around o (front_nil body.faults asked
    (back_nil (procedure_faults s catalog) (body.faults ++ asked) p))
    (stands-in-procedure s catalog)

-- ---- statements of the script

there : (o : Option (List Kind)) (ks : List Kind) → HasAll o ks → is_some o ≡ true
there o ks (js, is, below) = ap is_some is

query-typed : (q : OrderedQuery) (catalog : Catalog) →
    (judge_ordered q (at_top catalog)).faults ≡ [] →
    is_some (kinds_of_query (judge_ordered q (at_top catalog)).value (around [] None catalog)) ≡
    true
query-typed q catalog p = there _ _ (ordered_typed q (at_top catalog) (around [] None catalog)
    (sees-top catalog) p)

left-true : (a b : Bool) → a ≡ true → (a || b) ≡ true
left-true a b p = ap (λ x. x || b) p

right-true : (a b : Bool) → b ≡ true → (a || b) ≡ true
right-true true b p = refl
right-true false b p = p

script-call-typed : (s : Call) (catalog : Catalog) → (direct_call s catalog).faults ≡ [] →
    IsTyped catalog (direct_call s catalog).value.bound
script-call-typed s catalog p =
    let c = (judged_call true s (script_place catalog)).value in
    left-true (script_call (out-BoundStmt (stmt.Call c)) catalog)
    (is_typed (stmt.Call c) (at_script catalog))
    (ap (λ x. script_call x catalog) (outs-Call c) ∙
    call-typed true s (script_place catalog) (at_script catalog) (stands-at-script catalog) p)

routine-typed : (s : Stmt) (catalog : Catalog) → is_ordered s ≡ true →
    (judged_routine s catalog).faults ≡ [] → IsTyped catalog (judged_routine s catalog).value.bound
routine-typed s catalog o p =
    let b = (judge_stmt s (script_place catalog)).value in
    right-true (script_call (out-BoundStmt b) catalog) (is_typed b (at_script catalog))
    (statement_typed s (script_place catalog) (at_script catalog) o p
    (stands-at-script catalog))

-- ---- the order of declarations

abbrev form_ordered : Form → Bool
form_ordered y = stmt_ordered (map-Stmt Declaration Stmt Structure Block Branch Case CreateFunction
    CreateProcedure Handler If Labelled OrderedDeclaration Bool Bool Bool Bool Bool Bool Bool Bool
    Bool Bool
    order_of_declaration is_ordered order_of_structure order_of_block order_of_branch order_of_case
    order_of_function order_of_procedure order_of_handler order_of_if order_of_labelled y)

form-order : (s : Stmt) → is_ordered s ≡ form_ordered (out-Stmt s)
form-order s = fold_out-Stmt OrderedDeclaration Bool Bool Bool Bool Bool Bool Bool Bool Bool Bool
    declaration_ordered stmt_ordered structure_ordered block_ordered branch_ordered case_ordered
    function_ordered procedure_ordered handler_ordered if_ordered labelled_ordered s

function-order : (c : CreateFunction) → order_of_function c ≡ is_ordered (out-CreateFunction c).body
function-order c = fold_out-CreateFunction OrderedDeclaration Bool Bool Bool Bool Bool Bool Bool
    Bool Bool Bool
    declaration_ordered stmt_ordered structure_ordered block_ordered branch_ordered case_ordered
    function_ordered procedure_ordered handler_ordered if_ordered labelled_ordered c

procedure-order : (c : CreateProcedure) → order_of_procedure c ≡ is_ordered
    (out-CreateProcedure c).body
procedure-order c = fold_out-CreateProcedure OrderedDeclaration Bool Bool Bool Bool Bool Bool Bool
    Bool Bool Bool
    declaration_ordered stmt_ordered structure_ordered block_ordered branch_ordered case_ordered
    function_ordered procedure_ordered handler_ordered if_ordered labelled_ordered c

form-typed : (y : Form) (whole : Stmt) (catalog : Catalog) → form_ordered y ≡ true →
    is_ordered whole ≡ true → (judged_form y whole catalog).faults ≡ [] →
    IsTyped catalog (judged_form y whole catalog).value.bound
form-typed (Stmt-F.CreateTable s) whole catalog o w p = refl
form-typed (Stmt-F.CreateFunction s) whole catalog o w p = definition-typed (out-CreateFunction s)
    (value_returned (out-Stmt (out-CreateFunction s).body)) catalog (sym (function-order s) ∙ o) p
form-typed (Stmt-F.CreateProcedure s) whole catalog o w p =
    procedure-typed (out-CreateProcedure s) catalog (sym (procedure-order s) ∙ o) p
form-typed (Stmt-F.Drop s) whole catalog o w p = refl
form-typed (Stmt-F.Insert s) whole catalog o w p =
    insert-typed s (at_top catalog) (around [] None catalog) (sees-top catalog) p
form-typed (Stmt-F.Update s) whole catalog o w p =
    update-typed s (at_top catalog) (around [] None catalog) (sees-top catalog) p
form-typed (Stmt-F.Delete s) whole catalog o w p =
    delete-typed s (at_top catalog) (around [] None catalog) (sees-top catalog) p
form-typed (Stmt-F.Query q) whole catalog o w p = query-typed q catalog p
form-typed (Stmt-F.Explain anchor q) whole catalog o w p = query-typed q catalog p
form-typed (Stmt-F.Call s) whole catalog o w p = script-call-typed s catalog p
form-typed (Stmt-F.Labelled s) whole catalog o w p = routine-typed whole catalog w p
form-typed (Stmt-F.If s) whole catalog o w p = routine-typed whole catalog w p
form-typed (Stmt-F.Case s) whole catalog o w p = routine-typed whole catalog w p
form-typed (Stmt-F.Set anchor a) whole catalog o w p = routine-typed whole catalog w p
form-typed (Stmt-F.SelectInto s) whole catalog o w p = routine-typed whole catalog w p
form-typed (Stmt-F.Open anchor i) whole catalog o w p = routine-typed whole catalog w p
form-typed (Stmt-F.Close anchor i) whole catalog o w p = routine-typed whole catalog w p
form-typed (Stmt-F.Fetch s) whole catalog o w p = routine-typed whole catalog w p
form-typed (Stmt-F.Signal s) whole catalog o w p = routine-typed whole catalog w p
form-typed (Stmt-F.Resignal s) whole catalog o w p = routine-typed whole catalog w p
form-typed (Stmt-F.GetDiagnostics s) whole catalog o w p = routine-typed whole catalog w p
form-typed (Stmt-F.Leave anchor i) whole catalog o w p = routine-typed whole catalog w p
form-typed (Stmt-F.Iterate anchor i) whole catalog o w p = routine-typed whole catalog w p
form-typed (Stmt-F.Return anchor value) whole catalog o w p = routine-typed whole catalog w p

pub faultless-typed : FaultlessTyped
faultless-typed s catalog o p = form-typed (out-Stmt s) s catalog (sym (form-order s) ∙ o) o p

pub bound_typed : (s : Stmt) (catalog : Catalog) (b : BoundStatement) →
    b ≡ (judged_statement s catalog).value → noted None (judged_statement s catalog).faults ≡ None →
    is_ordered s ≡ true
    → IsTyped catalog b.bound
bound_typed s catalog b p q o = subst (λ (x : BoundStatement). IsTyped catalog x.bound) (sym p)
    (faultless-typed s catalog o (is_free (judged_statement s catalog).faults q))
