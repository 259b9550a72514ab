-- What a statement without faults makes lists in its head what its body calls.
use Rattle.std.proofs.Common.{◌≡◌, ℕ, Bool, true, false, ◌||◌, if◌then◌else◌, List, [], ◌∷◌, ◌++◌}
use Rattle.std.proofs.Common.{Option, None, Some, refl, sym, subst}
use Rattle.std.proofs.lemmas.Bool.{or_left, or_right}
use Rattle.std.specs.List.{AllByRecursion}
use Rattle.std.specs.Prelude.{IsSome}
use Rattle.std.specs.Str.{bytes_eq}
use Rattle.syntax_trees.specs.declared.expr.Expr.{Expr}
use Rattle.statement_trees.specs.declared.statement.CreateFunction.{out-CreateFunction}
use Rattle.statement_trees.specs.declared.statement.CreateProcedure.{out-CreateProcedure}
use Rattle.statement_trees.specs.declared.statement.Declaration.TheOpen.{Stmt-F}
use Rattle.statement_trees.specs.declared.statement.Stmt.{Stmt, out-Stmt}
use Rattle.bound_trees.specs.declared.expr.BoundExpr.{BoundExpr}
use Rattle.bound_trees.specs.declared.statement.BoundStmt.TheVariants.{Return}
use Rattle.catalog_store.specs.Catalog.{Catalog, object_named}
use Rattle.catalog_store.specs.Entries.{entry_of}
use Rattle.catalog_store.specs.Planning.{AllPlanned}
use Rattle.catalog_store.proofs.Laws.{same_bytes}
use Rattle.bind_kinds.specs.Kinds.{kind_of_type}
use Rattle.bind_kinds.specs.Types.{type_of}
use Rattle.bind_sight.specs.declared.scope.EnclosingRoutine.{EnclosingRoutine}
use Rattle.bind_queries.proofs.Laws.{front_nil, back_nil}
use Rattle.bind_rules.specs.Definitions.{Definition, ProcedureDefinition, Form, value_returned}
use Rattle.bind_definitions.specs.Characteristics.{group_faults}
use Rattle.bind_definitions.specs.Making.{own_function, own_procedure, signature_faults}
use Rattle.bind_definitions.specs.Making.{asked_of_result, planned_function, interpreted}
use Rattle.bind_definitions.specs.Making.{access_of_result, has_plan}
use Rattle.bind_definitions.specs.Routines.{parameters_of, stands, used_in}
use Rattle.bind_direct.specs.Returning.{in_function, judged_result, judged_returning}
use Rattle.bind_statements.specs.Functions.{body_faults, body_of_function, judged_function}
use Rattle.bind_statements.specs.Functions.{in_procedure, procedure_faults, body_of_procedure}
use Rattle.bind_statements.specs.Functions.{judged_procedure}
use Rattle.bind_statements.specs.Statements.{judged_object, judged_form}
use Rattle.viewing_laws.specs.Calls.{CalledNames, expr_calls, statement_calls}
use Rattle.viewing_laws.specs.Standing.{is_called, HeadLists}
use Rattle.viewing_laws.proofs.Laws.{each_so}
use Rattle.listed_calls.specs.Listed.{IsNoted, CallsNoted, MadeLists, NewRoutinesList}
use Rattle.listed_calls.proofs.Induction.{statement-noted}
use Rattle.listed_calls.proofs.Layers.{return-calls}
use Rattle.listed_calls.proofs.Values.{value-notes}

-- ---- heads

-- a head keeps each name that was noted and stands for something
kept-called : (known : Catalog) (name : List ℕ) (names : CalledNames) →
    is_called name names ≡ true → IsSome (object_named name known) →
    is_called name (used_in known names) ≡ true
kept-called known name [] h s = absurd cc
kept-called known name (x ∷ xs) h s = by (bytes_eq x name) refl (stands known x) refl h
    (λ q. kept-called known name xs q s)
  where
    by : (b : Bool) → bytes_eq x name ≡ b → (c : Bool) → stands known x ≡ c →
        (b || is_called name xs) ≡ true →
        (is_called name xs ≡ true → is_called name (used_in known xs) ≡ true) →
        is_called name (if c then x ∷ used_in known xs else used_in known xs) ≡ true
    by true e true d h more =
        or_left (bytes_eq x name) (is_called name (used_in known xs)) e
    by true e false d h more =
        let there = subst (λ n. stands known n ≡ true) (sym (same_bytes x name e)) s in
        absurd cc
    by false e true d h more =
        or_right (bytes_eq x name) (is_called name (used_in known xs)) (more h)
    by false e false d h more = more h

-- a head lists what its body calls, the routine itself aside
head-lists : (known : Catalog) (own : EnclosingRoutine) (uses calls : CalledNames) →
    AllByRecursion (IsNoted (Some own) known uses) calls →
    AllByRecursion (λ name. bytes_eq own.name name ≡ false →
    is_called name (used_in known uses) ≡ true) calls
head-lists known own uses calls h = each_so (IsNoted (Some own) known uses) _
    (λ name n q. kept-called known name uses n.noted (n.stands q)) calls h

-- ---- routines

function-lists : (s : Definition) (known : Catalog) → AllPlanned known →
    (judged_function s known).faults ≡ [] →
    HeadLists (entry_of known s.name.name (judged_function s known).value)
function-lists s known all f =
    let sight = parameters_of s.parameters in
    let body = body_of_function s sight known in
    let asked = body_faults s.name s.characteristics known body in
    let free = front_nil body.faults asked
    (back_nil (signature_faults s known ++ group_faults s.characteristics) (body.faults ++ asked) f)
    in
    head-lists known (own_function s) body.uses (statement_calls body.value)
    (statement-noted s.body (in_function s sight known) all free)

procedure-lists : (s : ProcedureDefinition) (known : Catalog) → AllPlanned known →
    (judged_procedure s known).faults ≡ [] →
    HeadLists (entry_of known s.name.name (judged_procedure s known).value)
procedure-lists s known all f =
    let sight = parameters_of s.parameters in
    let body = body_of_procedure s sight known in
    let asked = body_faults s.name s.characteristics known body in
    let free = front_nil body.faults asked
    (back_nil (procedure_faults s known) (body.faults ++ asked) f) in
    head-lists known (own_procedure s) body.uses (statement_calls body.value)
    (statement-noted s.body (in_procedure s sight known) all free)

-- a function with a plan calls nothing as a statement, and one without calls what its value does
returned-lists : (s : Definition) (known : Catalog) (uses : CalledNames) (e : BoundExpr) →
    AllByRecursion (IsNoted (Some (own_function s)) known uses) (expr_calls e) → (b : Bool) →
    HeadLists (entry_of known s.name.name
    (if b then planned_function s known (access_of_result s known uses) uses e else
    interpreted s known (access_of_result s known uses) uses (Return e)))
returned-lists s known uses e h true = tt
returned-lists s known uses e h false =
    head-lists known (own_function s) uses (statement_calls (Return e))
    (subst (AllByRecursion (IsNoted (Some (own_function s)) known uses)) (sym (return-calls e)) h)

returning-lists : (s : Definition) (result : Expr) (known : Catalog) → AllPlanned known →
    (judged_returning s result known).faults ≡ [] →
    HeadLists (entry_of known s.name.name (judged_returning s result known).value)
returning-lists s result known all f =
    let sight = parameters_of s.parameters in
    let body = judged_result s result sight known in
    let asked = asked_of_result s known body.uses in
    let free = front_nil body.faults asked
    (back_nil (signature_faults s known ++ group_faults s.characteristics) (body.faults ++ asked) f)
    in
    returned-lists s known body.uses body.value
    (value-notes (kind_of_type (type_of s.returns)) result (in_function s sight known) all free)
    (has_plan known body.uses body.value)

definition-lists : (s : Definition) (result : Option Expr) (known : Catalog) → AllPlanned known →
    (judged_object s result known).faults ≡ [] →
    HeadLists (entry_of known s.name.name (judged_object s result known).value)
definition-lists s None known all f = function-lists s known all f
definition-lists s (Some result) known all f = returning-lists s result known all f

-- ---- statements

form-lists : (y : Form) (whole : Stmt) (known : Catalog) → AllPlanned known →
    (judged_form y whole known).faults ≡ [] →
    MadeLists known (judged_form y whole known).value.bound
form-lists (Stmt-F.CreateTable s) whole known all f = tt
form-lists (Stmt-F.CreateFunction s) whole known all f =
    definition-lists (out-CreateFunction s) (value_returned (out-Stmt (out-CreateFunction s).body))
    known all f
form-lists (Stmt-F.CreateProcedure s) whole known all f =
    procedure-lists (out-CreateProcedure s) known all f
form-lists (Stmt-F.Drop s) whole known all f = tt
form-lists (Stmt-F.Insert s) whole known all f = tt
form-lists (Stmt-F.Update s) whole known all f = tt
form-lists (Stmt-F.Delete s) whole known all f = tt
form-lists (Stmt-F.Query q) whole known all f = tt
form-lists (Stmt-F.Explain anchor q) whole known all f = tt
form-lists (Stmt-F.Call s) whole known all f = tt
form-lists (Stmt-F.Labelled s) whole known all f = tt
form-lists (Stmt-F.If s) whole known all f = tt
form-lists (Stmt-F.Case s) whole known all f = tt
form-lists (Stmt-F.Set anchor a) whole known all f = tt
form-lists (Stmt-F.SelectInto s) whole known all f = tt
form-lists (Stmt-F.Open anchor i) whole known all f = tt
form-lists (Stmt-F.Close anchor i) whole known all f = tt
form-lists (Stmt-F.Fetch s) whole known all f = tt
form-lists (Stmt-F.Signal s) whole known all f = tt
form-lists (Stmt-F.Resignal s) whole known all f = tt
form-lists (Stmt-F.GetDiagnostics s) whole known all f = tt
form-lists (Stmt-F.Leave anchor i) whole known all f = tt
form-lists (Stmt-F.Iterate anchor i) whole known all f = tt
form-lists (Stmt-F.Return anchor value) whole known all f = tt

pub calls_noted : CallsNoted
calls_noted s p all f = statement-noted s p all f

pub new_routines_list : NewRoutinesList
new_routines_list s known all f = form-lists (out-Stmt s) s known all f
