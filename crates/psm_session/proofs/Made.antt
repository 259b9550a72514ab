-- What statements make is well typed, and so bodies stay so.
use Rattle.std.proofs.Common.{◌≡◌, ℕ, Bool, true, false, cond, List, [], ◌∷◌, map, Option, Some}
use Rattle.std.proofs.Common.{None, Result, Ok, Err, refl, sym, ap, ◌∙◌, subst}
use Rattle.std.proofs.lemmas.Slice.Eq.{bytes_eq-Decides}
use Rattle.std.specs.Prelude.{IfOk, OnErr}
use Rattle.std.specs.Str.{bytes_eq}
use Rattle.sql_texts.specs.declared.memory.NoMemory.{NoMemory}
use Rattle.sql_values.specs.declared.value.SqlType.{SqlType}
use Rattle.row_types.specs.declared.RowType.{RowType}
use Rattle.syntax_trees.specs.declared.expr.Expr.{Expr}
use Rattle.statement_trees.specs.declared.statement.Block.{Block}
use Rattle.statement_trees.specs.declared.statement.Branch.{Branch}
use Rattle.statement_trees.specs.declared.statement.Case.{Case}
use Rattle.statement_trees.specs.declared.statement.CreateFunction.{CreateFunction}
use Rattle.statement_trees.specs.declared.statement.CreateFunction.{out-CreateFunction}
use Rattle.statement_trees.specs.declared.statement.CreateFunction.{fold_out-CreateFunction}
use Rattle.statement_trees.specs.declared.statement.CreateProcedure.{CreateProcedure}
use Rattle.statement_trees.specs.declared.statement.Declaration.{Declaration}
use Rattle.statement_trees.specs.declared.statement.Declaration.TheFolds.{map-Stmt}
use Rattle.statement_trees.specs.declared.statement.Declaration.TheOpen.{Stmt-F}
use Rattle.statement_trees.specs.declared.statement.Handler.{Handler}
use Rattle.statement_trees.specs.declared.statement.If.{If}
use Rattle.statement_trees.specs.declared.statement.Labelled.{Labelled}
use Rattle.statement_trees.specs.declared.statement.Stmt.{Stmt, out-Stmt, fold_out-Stmt}
use Rattle.statement_trees.specs.declared.statement.Structure.{Structure}
use Rattle.grammar_order.specs.Ordered.{OrderedDeclaration, is_ordered, order_of_declaration}
use Rattle.grammar_order.specs.Ordered.{order_of_structure, order_of_block, order_of_branch}
use Rattle.grammar_order.specs.Ordered.{order_of_case, order_of_function, order_of_procedure}
use Rattle.grammar_order.specs.Ordered.{order_of_handler, order_of_if, order_of_labelled}
use Rattle.grammar_order.specs.Ordered.{declaration_ordered, stmt_ordered, structure_ordered}
use Rattle.grammar_order.specs.Ordered.{block_ordered, branch_ordered, case_ordered}
use Rattle.grammar_order.specs.Ordered.{function_ordered, procedure_ordered, handler_ordered}
use Rattle.grammar_order.specs.Ordered.{if_ordered, labelled_ordered}
use Rattle.rel_algebra.specs.World.{World, Ends, Gives, Raises, RunsOut}
use Rattle.catalog_store.specs.declared.entry.FunctionHead.{FunctionHead}
use Rattle.catalog_store.specs.declared.entry.Object.TheVariants as new
use Rattle.catalog_store.specs.declared.entry.RoutineRecord.{RoutineRecord}
use Rattle.catalog_store.specs.Catalog.{Catalog, Function, Object, TableObject, FunctionObject}
use Rattle.catalog_store.specs.Catalog.{InterpretedObject, ProcedureObject, object_named}
use Rattle.bind_kinds.specs.declared.kind.Kind.{Kind}
use Rattle.bind_kinds.specs.Kinds.{fits, kind_of_type}
use Rattle.bind_parts.specs.From.{table_in}
use Rattle.bind_parts.specs.Typed.{head_in}
use Rattle.bind_queries.specs.Binds.{Binds}
use Rattle.bind_rules.specs.Definitions.{Definition, Form, value_returned}
use Rattle.bind_direct.specs.declared.bound.Bound.{Bound}
use Rattle.bind_direct.specs.declared.bound.Bound.TheVariants as bound
use Rattle.bind_direct.specs.declared.bound.BoundStatement.{BoundStatement}
use Rattle.bind_statements.specs.Binds.{BoundFits}
use Rattle.bind_statements.specs.Statements.{judged_form, judged_object, judged_statement}
use Rattle.bind_statements.specs.Types.{IsTyped, around, object_typed, own_function}
use Rattle.typing_trees.specs.Around.{kind_of_slot, stored}
use Rattle.typing_trees.specs.Queries.{kind_of}
use Rattle.typing_trees.specs.Statements.{holds}
use Rattle.typing_plans.specs.Bodies.{BodyTyped, FunctionTyped}
use Rattle.data_change.specs.Writing.{insert, update, delete}
use Rattle.rel_algebra.specs.Doing.{Outcome, Raising, Spent}
use Rattle.rel_algebra.specs.Meaning.{ask, run, run_call}
use Rattle.bound_trees.specs.declared.statement.BoundBlock.{BoundBlock}
use Rattle.bound_trees.specs.declared.statement.BoundBranch.{BoundBranch}
use Rattle.bound_trees.specs.declared.statement.BoundHandler.{BoundHandler}
use Rattle.bound_trees.specs.declared.statement.BoundStmt.{BoundStmt, out-BoundStmt}
use Rattle.bound_trees.specs.declared.statement.BoundStmt.TheOpen.{BoundStmt-F}
use Rattle.routine_views.specs.Routines.{routines_of}
use Rattle.routine_views.specs.Views.{arguments, query_in, stmt_in}
use Rattle.run_places.specs.Places.{no_routine}
use Rattle.reply_text.specs.Texts.{rows_text}
use Rattle.psm_effects.specs.Conclusions.{IsEffect}
use Rattle.psm_effects.specs.Database.{Plain}
use Rattle.psm_effects.specs.Effects.{Effect, changed_text, given_text, replied, world_of}
use Rattle.psm_effects.specs.Effects.{ended_by, performed}
use Rattle.psm_session.specs.Bodies.{HasTypedBodies}
use Rattle.psm_session.specs.Effects.{checked, effect}
use Rattle.psm_session.proofs.Bodies.{made-typed, dropped-typed}

-- ---- names in a catalog

pub table-of : (o : Option Object) (t : RowType) → table_in o ≡ Some t → o ≡ Some (TableObject t)
table-of None t e = absurd cc
table-of (Some (TableObject row_type)) t e = cc
table-of (Some (FunctionObject f)) t e = absurd cc
table-of (Some (InterpretedObject f)) t e = absurd cc
table-of (Some (ProcedureObject p)) t e = absurd cc

-- what a head says, where there is one
abbrev parameters_in : Option FunctionHead → List SqlType
parameters_in None = []
parameters_in (Some h) = h.parameters

abbrev result_in : FunctionHead → Option FunctionHead → SqlType
result_in other None = other.returns
result_in other (Some h) = h.returns

pub function-of : (o : Option Object) (h : FunctionHead) (f : Function) → head_in o ≡ Some h →
    o ≡ Some (FunctionObject f) → (f.parameters ≡ h.parameters) × (f.returns ≡ h.returns)
function-of o h f e is =
    let same = sym (ap head_in is) ∙ e in (ap parameters_in same, ap (result_in h) same)

-- ---- functions

-- a value that fits has a kind
typed-value : (wanted : Kind) (o : Option Kind) → holds o (fits wanted) ≡ true →
    (kind : Kind) × (o ≡ Some kind) × (fits wanted kind ≡ true)
typed-value wanted None h = absurd cc
typed-value wanted (Some kind) h = (kind, refl, h)

stored-kinds : (ts : List SqlType) →
    map kind_of_slot (map (λ t. stored t) ts) ≡ map kind_of_type ts
stored-kinds [] = refl
stored-kinds (t ∷ ts) = ap (λ ks. kind_of_type t ∷ ks) (stored-kinds ts)

-- a new function that is well typed in sight of itself is so over the catalog, where nothing has
-- its name
function-typed : (name : List ℕ) (r : RoutineRecord) (known : Catalog) →
    object_named name known ≡ None → object_typed name (new.Function r) known ≡ true →
    FunctionTyped known r
function-typed name r known free h =
    let a = around (map (λ t. stored t) r.head.parameters) (Some (own_function name r.head))
    known in
    let value = typed-value (kind_of_type r.head.returns) (kind_of r.body a) h in
    record {
      around = a;
      tables = λ n t e. table-of (object_named n known) t e;
      functions = λ n k f e is. by n k f (bytes_eq name n) refl e is;
      rows = refl;
      slots = stored-kinds r.head.parameters;
      kind = value.0;
      typed = value.1;
      fitting = value.2;
    }
  where
    by : (n : List ℕ) (k : FunctionHead) (f : Function) (b : Bool) → bytes_eq name n ≡ b →
        cond b (own_function name r.head).head (head_in (object_named n known)) ≡ Some k →
        object_named n known ≡ Some (FunctionObject f) →
        (f.parameters ≡ k.parameters) × (f.returns ≡ k.returns)
    by n k f true q e is =
        let none : object_named n known ≡ None =
        subst (λ (x : List ℕ). object_named x known ≡ None) ((bytes_eq-Decides name n).0 q) free in
        absurd cc
    by n k f false q e is = function-of (object_named n known) k f e is

-- ---- what a statement makes

-- a function with a plan is made
abbrev makes_function : Bound → Bool
makes_function (bound.Create name (new.Function r)) = true
makes_function _ = false

-- what is made is well typed, as far as it has a plan
abbrev pub MakesTyped : Catalog → Bound → Type 0
MakesTyped known (bound.Create name object) = BodyTyped known object
MakesTyped known _ = Unit {0}

abbrev form_ordered : Form → Bool
form_ordered y = stmt_ordered (map-Stmt Declaration Stmt Structure Block Branch Case CreateFunction
    CreateProcedure Handler If Labelled OrderedDeclaration Bool Bool Bool Bool Bool Bool Bool Bool
    Bool Bool
    order_of_declaration is_ordered order_of_structure order_of_block order_of_branch order_of_case
    order_of_function order_of_procedure order_of_handler order_of_if order_of_labelled y)

form-order : (s : Stmt) → is_ordered s ≡ form_ordered (out-Stmt s)
form-order s = fold_out-Stmt OrderedDeclaration Bool Bool Bool Bool Bool Bool Bool Bool Bool Bool
    declaration_ordered stmt_ordered structure_ordered block_ordered branch_ordered case_ordered
    function_ordered procedure_ordered handler_ordered if_ordered labelled_ordered s

function-order : (c : CreateFunction) → order_of_function c ≡ is_ordered (out-CreateFunction c).body
function-order c = fold_out-CreateFunction OrderedDeclaration Bool Bool Bool Bool Bool Bool Bool
    Bool Bool Bool
    declaration_ordered stmt_ordered structure_ordered block_ordered branch_ordered case_ordered
    function_ordered procedure_ordered handler_ordered if_ordered labelled_ordered c

-- RETURN holds no compound statement
returned-ordered : (y : Form) (e : Expr) → value_returned y ≡ Some e → form_ordered y ≡ true
returned-ordered (Stmt-F.CreateFunction s) e h = absurd cc
returned-ordered (Stmt-F.CreateProcedure s) e h = absurd cc
returned-ordered (Stmt-F.Labelled s) e h = absurd cc
returned-ordered (Stmt-F.If s) e h = absurd cc
returned-ordered (Stmt-F.Case s) e h = absurd cc
returned-ordered _ e h = refl

-- nor does a definition of a function with a plan
definition-ordered : (d : Definition) (known : Catalog) (o : Option Expr) →
    value_returned (out-Stmt d.body) ≡ o →
    makes_function (bound.Create d.name.name (judged_object d o known).value) ≡ true →
    is_ordered d.body ≡ true
definition-ordered d known None q h = absurd cc
definition-ordered d known (Some e) q h =
    form-order d.body ∙ returned-ordered (out-Stmt d.body) e q

form-planned : (y : Form) (whole : Stmt) (known : Catalog) →
    makes_function (judged_form y whole known).value.bound ≡ true → form_ordered y ≡ true
form-planned (Stmt-F.CreateFunction c) whole known h = function-order c ∙
    definition-ordered (out-CreateFunction c) known
    (value_returned (out-Stmt (out-CreateFunction c).body)) refl h
form-planned (Stmt-F.CreateProcedure c) whole known h = absurd cc
form-planned (Stmt-F.Labelled s) whole known h = absurd cc
form-planned (Stmt-F.If s) whole known h = absurd cc
form-planned (Stmt-F.Case s) whole known h = absurd cc
form-planned _ whole known h = refl

made-by : (known : Catalog) (runs : Bool) (b : Bound) → BoundFits known runs b →
    (makes_function b ≡ true → IsTyped known b) → MakesTyped known b
made-by known runs (bound.Create name (new.Function r)) f t =
    function-typed name r known f.0 (t refl)
made-by known runs (bound.Create name (new.Table row_type)) f t = tt
made-by known runs (bound.Create name (new.Interpreted i)) f t = tt
made-by known runs (bound.Create name (new.Procedure p)) f t = tt
made-by known runs (bound.Drop name) f t = tt
made-by known runs (bound.Insert s listed) f t = tt
made-by known runs (bound.Update s) f t = tt
made-by known runs (bound.Delete s) f t = tt
made-by known runs (bound.Query q) f t = tt
made-by known runs (bound.Explain q) f t = tt
made-by known runs (bound.Routine s) f t = tt

-- what a statement without faults makes is well typed, in whatever order its declarations stand
pub makes-typed : (s : Stmt) (known : Catalog) (b : BoundStatement) →
    Binds (judged_statement s known) (Ok b) → BoundFits known b.by_plan b.bound →
    (is_ordered s ≡ true → IsTyped known b.bound) → MakesTyped known b.bound
makes-typed s known b binds f typed = made-by known b.by_plan b.bound f
    (λ h. typed (form-order s ∙ form-planned (out-Stmt s) s known
    (sym (ap (λ (x : BoundStatement). makes_function x.bound) binds.1) ∙ h)))

-- ---- what is left

pub replied-catalog : {A : Type 0} (text : A → List ℕ) (db : Plain) (e : Ends A) →
    db.catalog ≡ (replied text db e).after.catalog
replied-catalog text db (Gives a w) = refl
replied-catalog text db (Raises area w) = refl
replied-catalog text db (RunsOut w) = refl

ended-catalog : (db : Plain) (o : Outcome) (w : World) →
    db.catalog ≡ (ended_by db o w).after.catalog
ended-catalog db (Raising area) w = refl
ended-catalog db Spent w = refl
ended-catalog db _ w = refl

pub done-catalog : (budget : ℕ) (s : BoundStmt)
    (y : BoundStmt-F BoundStmt BoundBlock BoundBranch BoundHandler) (db : Plain) →
    db.catalog ≡ (performed budget s y db).after.catalog
done-catalog budget s (BoundStmt-F.Call c) db =
    replied-catalog given_text db (run_call (routines_of db.catalog c.procedure)
    (arguments (no_routine db.catalog) c.arguments) (world_of budget db.tables))
done-catalog budget s _ db =
    let e = run (stmt_in (no_routine db.catalog) s []) (world_of budget db.tables) in
    ended-catalog db e.outcome e.world

-- a statement's effect leaves typed bodies
pub effect-typed : (budget : ℕ) (b : Bound) (runs : Bool) (db : Plain) →
    BoundFits db.catalog runs b → MakesTyped db.catalog b → HasTypedBodies db.catalog →
    HasTypedBodies (effect budget b db).after.catalog
effect-typed budget (bound.Create name object) runs db f m t =
    made-typed db.catalog name object t f.0 f.1 m
effect-typed budget (bound.Drop name) runs db f m t = dropped-typed db.catalog name t f.1
effect-typed budget (bound.Insert s listed) runs db f m t =
    subst HasTypedBodies (replied-catalog changed_text db
    (insert s.table listed (query_in (no_routine db.catalog) s.source) (world_of budget db.tables))) t
effect-typed budget (bound.Update s) runs db f m t =
    subst HasTypedBodies (replied-catalog changed_text db
    (update s.table s.targets (query_in (no_routine db.catalog) s.rows) (world_of budget db.tables))) t
effect-typed budget (bound.Delete s) runs db f m t =
    subst HasTypedBodies (replied-catalog changed_text db
    (delete s.table (query_in (no_routine db.catalog) s.rows) (world_of budget db.tables))) t
effect-typed budget (bound.Query q) runs db f m t =
    subst HasTypedBodies (replied-catalog rows_text db
    (ask (query_in (no_routine db.catalog) q) (world_of budget db.tables))) t
effect-typed budget (bound.Explain q) runs db f m t = t
effect-typed budget (bound.Routine s) runs db f m t =
    subst HasTypedBodies (done-catalog budget s (out-BoundStmt s) db) t

-- and so does what is checked alone
pub checked-typed : (b : Bound) (runs : Bool) (db : Plain) → BoundFits db.catalog runs b →
    MakesTyped db.catalog b → HasTypedBodies db.catalog →
    HasTypedBodies (checked b db).after.catalog
checked-typed (bound.Create name object) runs db f m t =
    made-typed db.catalog name object t f.0 f.1 m
checked-typed (bound.Drop name) runs db f m t = dropped-typed db.catalog name t f.1
checked-typed (bound.Insert s listed) runs db f m t = t
checked-typed (bound.Update s) runs db f m t = t
checked-typed (bound.Delete s) runs db f m t = t
checked-typed (bound.Query q) runs db f m t = t
checked-typed (bound.Explain q) runs db f m t = t
checked-typed (bound.Routine s) runs db f m t = t

-- where there is memory for the reply, and where there is none
pub left-typed : (r : Result (List ℕ) NoMemory) (e : Effect) (old after : Plain) →
    IfOk r (λ x. IsEffect e x after) → OnErr r (after ≡ old) → HasTypedBodies old.catalog →
    HasTypedBodies e.after.catalog → HasTypedBodies after.catalog
left-typed (Ok x) e old after ok err t u =
    subst HasTypedBodies (sym (ap (λ (d : Plain). d.catalog) ok.1)) u
left-typed (Err x) e old after ok err t u =
    subst HasTypedBodies (sym (ap (λ (d : Plain). d.catalog) err)) t
