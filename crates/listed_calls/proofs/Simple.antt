-- Statements that hold no statement note what they call.
use Rattle.std.proofs.Common.{◌≡◌, ℕ, Bool, true, false, ◌||◌, if◌then◌else◌, List, [], ◌∷◌}
use Rattle.std.proofs.Common.{length, Option, None, Some, refl, sym, ap, ◌∙◌, subst}
use Rattle.std.proofs.lemmas.Bool.{or_left}
use Rattle.std.specs.Prelude.{IsSome}
use Rattle.std.specs.Str.{bytes_eq}
use Rattle.sql_values.specs.declared.value.Value.TheVariants.{Int}
use Rattle.syntax_trees.specs.declared.anchor.Anchor.{Anchor}
use Rattle.syntax_trees.specs.declared.anchor.Ident.{Ident}
use Rattle.syntax_trees.specs.declared.expr.Expr.{Expr}
use Rattle.statement_trees.specs.declared.condition.ConditionNumber.{ConditionNumber}
use Rattle.statement_trees.specs.declared.condition.ConditionNumber.TheVariants as number
use Rattle.statement_trees.specs.declared.condition.DiagnosticsInformation.{DiagnosticsInformation}
use Rattle.statement_trees.specs.declared.condition.DiagnosticsInformation.TheVariants.{Statement}
use Rattle.statement_trees.specs.declared.condition.DiagnosticsInformation.TheVariants.{Condition}
use Rattle.statement_trees.specs.declared.condition.GetDiagnostics.{GetDiagnostics}
use Rattle.statement_trees.specs.declared.condition.Resignal.{Resignal}
use Rattle.statement_trees.specs.declared.condition.Signal.{Signal}
use Rattle.statement_trees.specs.declared.writing.Argument.{Argument}
use Rattle.statement_trees.specs.declared.writing.Argument.TheVariants as argument
use Rattle.statement_trees.specs.declared.writing.Assignment.{Assignment}
use Rattle.statement_trees.specs.declared.writing.Call.{Call}
use Rattle.statement_trees.specs.declared.writing.Delete.{Delete}
use Rattle.statement_trees.specs.declared.writing.Fetch.{Fetch}
use Rattle.statement_trees.specs.declared.writing.Insert.{Insert}
use Rattle.statement_trees.specs.declared.writing.SelectInto.{SelectInto}
use Rattle.statement_trees.specs.declared.writing.Update.{Update}
use Rattle.bound_trees.specs.declared.expr.BoundExpr.{BoundExpr}
use Rattle.bound_trees.specs.declared.statement.BoundArgument.TheVariants as value
use Rattle.bound_trees.specs.declared.statement.BoundStmt.TheVariants as bound
use Rattle.bound_trees.specs.declared.statement.BoundTarget.{BoundTarget}
use Rattle.catalog_store.specs.declared.entry.ProcedureHead.{ProcedureHead}
use Rattle.catalog_store.specs.Catalog.{Object, object_named}
use Rattle.catalog_store.specs.Planning.{AllPlanned}
use Rattle.catalog_store.proofs.Laws.{bytes_self, uses_in-Literal, uses_in-Variable}
use Rattle.bind_faults.specs.Faults.{Noted, as_value}
use Rattle.bind_kinds.specs.declared.kind.Kind.TheVariants.{Text}
use Rattle.bind_parts.specs.declared.typed.TypedQuery.{TypedQuery}
use Rattle.bind_queries.proofs.Laws.{front_nil, back_nil, select_of, parts_as_query}
use Rattle.bind_rules.specs.declared.arguments.Wanted.{Wanted}
use Rattle.bind_rules.specs.Arguments.{is_in, value_faults}
use Rattle.bind_rules.specs.Targets.{return_faults}
use Rattle.bind_simple.specs.Calls.{procedure_in, is_own, procedure_named, name_faults}
use Rattle.bind_simple.specs.Calls.{wanted_at, target_meant, variable_or, argument_of}
use Rattle.bind_simple.specs.Calls.{judged_argument, one_argument, judged_arguments, called}
use Rattle.bind_simple.specs.Calls.{judged_call}
use Rattle.bind_simple.specs.Places.{Surroundings, seen_from}
use Rattle.bind_simple.specs.Simple.{Judge, judged_leave, judged_iterate, returned_kind}
use Rattle.bind_simple.specs.Simple.{judged_return, judged_open, judged_close, judged_fetch}
use Rattle.bind_simple.specs.Simple.{judged_get, inserted, changed, removed, misplaced}
use Rattle.bind_simple.specs.States.{judged_message, raised_faults, judged_signal, again_faults}
use Rattle.bind_simple.specs.States.{judged_resignal}
use Rattle.bind_simple.specs.Storing.{judged_set, into_faults, judge_selection, selected_for}
use Rattle.bind_simple.specs.Storing.{judged_select_into}
use Rattle.bind_simple.specs.Storing.{number_of, information_of, diagnostics_of}
use Rattle.bind_simple.specs.Values.{judged_expr, value_of_kind, stored_at, faults_at, targets_at}
use Rattle.bind_simple.specs.Values.{targets_faults, kinds_of}
use Rattle.viewing_laws.specs.Calls.{CalledNames, names_called, expr_calls, query_calls}
use Rattle.viewing_laws.specs.Calls.{calls_if_there, argument_calls, arguments_calls}
use Rattle.viewing_laws.specs.Calls.{information_calls, statement_calls}
use Rattle.viewing_laws.specs.Standing.{is_called}
use Rattle.listed_calls.proofs.Layers.{insert-calls, update-calls, delete-calls, call-calls}
use Rattle.listed_calls.proofs.Layers.{set-calls, select-into-calls, open-calls, close-calls}
use Rattle.listed_calls.proofs.Layers.{fetch-calls, signal-calls, resignal-calls, get-calls}
use Rattle.listed_calls.proofs.Layers.{leave-calls, iterate-calls, return-calls}
use Rattle.listed_calls.proofs.Noted.{Listed, listed-back, EachListed, each-front}
use Rattle.listed_calls.proofs.Noted.{each-flat, Notes, last-listed, Turn, turns, each_of}
use Rattle.listed_calls.proofs.Values.{expr-notes, value-notes, query-notes}
use Rattle.listed_calls.proofs.Writing.{insert-notes, update-notes, delete-notes}

-- a statement without faults notes what it calls, wherever it stands
abbrev pub StatementNotes : Judge → Type 0
StatementNotes j = (p : Surroundings) → AllPlanned p.catalog →
    Notes p.own p.catalog statement_calls (j p)

-- what calls the same
pub listed-as : (p : Surroundings) (uses a b : CalledNames) → a ≡ b →
    Listed p.own p.catalog uses b → Listed p.own p.catalog uses a
listed-as p uses a b same h = subst (Listed p.own p.catalog uses) (sym same) h

-- ---- what calls nothing

pub leave-notes : (i : Ident) → StatementNotes (judged_leave i)
leave-notes i p all f = listed-as p (judged_leave i p).uses _ [] (leave-calls _) tt

pub iterate-notes : (at : Anchor) (i : Ident) → StatementNotes (judged_iterate at i)
iterate-notes at i p all f = listed-as p (judged_iterate at i p).uses _ [] (iterate-calls _) tt

pub open-notes : (i : Ident) → StatementNotes (judged_open i)
open-notes i p all f = listed-as p (judged_open i p).uses _ [] (open-calls _) tt

pub close-notes : (i : Ident) → StatementNotes (judged_close i)
close-notes i p all f = listed-as p (judged_close i p).uses _ [] (close-calls _) tt

pub fetch-notes : (s : Fetch) → StatementNotes (judged_fetch s)
fetch-notes s p all f = listed-as p (judged_fetch s p).uses _ [] (fetch-calls _ _) tt

-- the number of a condition is a literal or a variable
number-listed : (n : ConditionNumber) (p : Surroundings) (uses : CalledNames) →
    Listed p.own p.catalog uses (expr_calls (number_of n p))
number-listed (number.Number at n) p uses =
    listed-as p uses _ [] (ap names_called (uses_in-Literal (Int n))) tt
number-listed (number.Variable i) p uses =
    listed-as p uses _ [] (ap names_called (uses_in-Variable _)) tt

information-listed : (x : DiagnosticsInformation) (p : Surroundings) (uses : CalledNames) →
    Listed p.own p.catalog uses (information_calls (information_of x p))
information-listed (Statement is) p uses = tt
information-listed (Condition n is) p uses = number-listed n p uses

pub get-notes : (s : GetDiagnostics) → StatementNotes (judged_get s)
get-notes s p all f = listed-as p (judged_get s p).uses _ _ (get-calls (diagnostics_of s p))
    (information-listed s.information p (judged_get s p).uses)

-- it stands in no routine
pub misplaced-notes : (at : Anchor) → StatementNotes (λ p. misplaced at)
misplaced-notes at p all f = absurd cc

-- ---- values

pub return-notes : (at : Anchor) (e : Expr) → StatementNotes (judged_return at e)
return-notes at e p all f =
    let v = value_of_kind (returned_kind p.returns) e p in
    listed-as p v.uses _ _ (return-calls v.value) (value-notes (returned_kind p.returns) e p all
    (back_nil (return_faults at p.returns) v.faults f))

pub set-notes : (a : Assignment) →
    StatementNotes (λ p. as_value (λ b. bound.Set b.target b.value) (judged_set a p))
set-notes a p all f =
    let t = stored_at a.target p in
    let v = value_of_kind t.kind a.value p in
    listed-as p v.uses _ _ (set-calls t.target v.value)
    (value-notes t.kind a.value p all (back_nil (faults_at a.target p) v.faults f))

message-notes : (e : Option Expr) (p : Surroundings) → AllPlanned p.catalog →
    Notes p.own p.catalog calls_if_there (judged_message e p)
message-notes None p all f = tt
message-notes (Some e) p all f = value-notes Text e p all f

pub signal-notes : (s : Signal) →
    StatementNotes (λ p. as_value (λ b. bound.Signal b) (judged_signal s p))
signal-notes s p all f =
    let m = judged_message s.message p in
    listed-as p m.uses _ _ (signal-calls (judged_signal s p).value)
    (message-notes s.message p all (back_nil (raised_faults s.value p) m.faults f))

pub resignal-notes : (s : Resignal) →
    StatementNotes (λ p. as_value (λ b. bound.Resignal b) (judged_resignal s p))
resignal-notes s p all f =
    let m = judged_message s.message p in
    listed-as p m.uses _ _ (resignal-calls (judged_resignal s p).value)
    (message-notes s.message p all (back_nil (again_faults s.value p) m.faults f))

-- ---- queries and changes

pub select-into-notes : (s : SelectInto) →
    StatementNotes (λ p. as_value (λ b. bound.SelectInto b.query b.targets)
    (judged_select_into s p))
select-into-notes s p all f =
    let ts = targets_at s.targets p in
    let q = judge_selection s (kinds_of ts) (seen_from p) in
    let rest = back_nil (targets_faults s.targets p) (selected_for s ts p).faults f in
    listed-as p q.uses _ _ (select-into-calls q.value.tree _)
    (subst (λ (j : Noted TypedQuery). Notes p.own p.catalog (λ x. query_calls x.tree) j)
    (parts_as_query s.anchor s.items s.from s.filter s.group_by s.having (kinds_of ts)
    (seen_from p))
    (query-notes p.catalog all (seen_from p) refl (kinds_of ts)
    (select_of s.anchor s.items s.from s.filter s.group_by s.having))
    (front_nil q.faults (into_faults ts q.value) rest))

pub inserted-notes : (s : Insert) → StatementNotes (inserted s)
inserted-notes s p all f = listed-as p (inserted s p).uses _ _ (insert-calls _ _)
    (insert-notes s (seen_from p) all f)

pub changed-notes : (s : Update) → StatementNotes (changed s)
changed-notes s p all f = listed-as p (changed s p).uses _ _ (update-calls _)
    (update-notes s (seen_from p) all f)

pub removed-notes : (s : Delete) → StatementNotes (removed s)
removed-notes s p all f = listed-as p (removed s p).uses _ _ (delete-calls _)
    (delete-notes s (seen_from p) all f)

-- ---- CALL

-- a procedure of the catalog stands there
in-there : (o : Option Object) (h : ProcedureHead) → procedure_in o ≡ Some h → IsSome o
in-there None h e = absurd cc
in-there (Some o) h e = refl

procedure-there : (name : List ℕ) (p : Surroundings) (h : ProcedureHead) →
    procedure_named name p ≡ Some h → is_own name p.own ≡ false →
    IsSome (object_named name p.catalog)
procedure-there name p h e other =
    let o = object_named name p.catalog in
    in-there o h (sym (ap (λ b. if b then p.procedure else procedure_in o) other) ∙ e)

-- a value is what the argument calls, and a variable calls nothing
variable-listed : (p : Surroundings) (uses : CalledNames) (e : BoundExpr)
    (t : Option BoundTarget) → Listed p.own p.catalog uses (expr_calls e) →
    Listed p.own p.catalog uses (argument_calls (variable_or e t))
variable-listed p uses e None h = h
variable-listed p uses e (Some t) h = tt

argument-listed : (p : Surroundings) (uses : CalledNames) (script : Bool) (w : Option Wanted)
    (t : Option BoundTarget) (e : BoundExpr) → Listed p.own p.catalog uses (expr_calls e) →
    Listed p.own p.catalog uses (argument_calls (argument_of script w t e))
argument-listed p uses script None t e h = h
argument-listed p uses script (Some w) t e h = by (script || is_in w.mode)
  where
    by : (b : Bool) → Listed p.own p.catalog uses
        (argument_calls (if b then value.Value e else variable_or e t))
    by true = h
    by false = variable-listed p uses e t h

argument-notes : (p : Surroundings) → AllPlanned p.catalog → (script : Bool) (w : Option Wanted)
    (a : Argument) → Notes p.own p.catalog argument_calls (judged_argument script p w a)
argument-notes p all script w (argument.Value e) f =
    let x = judged_expr e p in
    let to = target_meant e p in
    argument-listed p x.uses script w to x.value.tree (expr-notes e p all
    (front_nil x.faults (value_faults script w to x.value.head) f))
argument-notes p all script w (argument.Parameter at) f = tt

argument-turn : (p : Surroundings) → AllPlanned p.catalog → (script : Bool)
    (q : Option ProcedureHead) (a : Argument) →
    Turn (one_argument script p q) (EachListed p.own p.catalog argument_calls) a
argument-turn p all script q a u so f h =
    let w = wanted_at q (length so) in
    last-listed p.own p.catalog argument_calls u so (judged_argument script p w a)
    (argument-notes p all script w a) f h

arguments-notes : (p : Surroundings) → AllPlanned p.catalog → (script : Bool)
    (q : Option ProcedureHead) (xs : List Argument) →
    Notes p.own p.catalog arguments_calls (judged_arguments script p q xs)
arguments-notes p all script q xs f =
    let so = judged_arguments script p q xs in
    each-flat p.own p.catalog argument_calls so.uses so.value
    (turns (one_argument script p q) (EachListed p.own p.catalog argument_calls)
    (each-front p.own p.catalog argument_calls) xs (each_of (argument-turn p all script q) xs) []
    [] f tt)

-- the procedure is noted, which stands in the catalog or is around, and what the arguments call
called-listed : (s : Call) (p : Surroundings) → AllPlanned p.catalog → (q : Option ProcedureHead) →
    procedure_named s.name.name p ≡ q → (called false s q p).faults ≡ [] →
    Listed p.own p.catalog (called false s q p).uses
    (s.name.name ∷ arguments_calls (called false s q p).value.arguments)
called-listed s p all None is f = absurd cc
called-listed s p all (Some h) is f =
    let name = s.name.name in
    let xs = judged_arguments false p (Some h) s.arguments in
    let faults = name_faults s.name (length s.arguments) (Some h) in (
      record {
        noted = or_left (bytes_eq name name) (is_called name xs.uses) (bytes_self name);
        stands = procedure-there name p h is;
      },
      listed-back p.own p.catalog (name ∷ []) xs.uses (arguments_calls xs.value)
          (arguments-notes p all false (Some h) s.arguments (back_nil faults xs.faults f)),
    )

pub call-notes : (s : Call) →
    StatementNotes (λ p. as_value (λ b. bound.Call b) (judged_call false s p))
call-notes s p all f = listed-as p (judged_call false s p).uses _ _
    (call-calls (judged_call false s p).value)
    (called-listed s p all (procedure_named s.name.name p) refl f)
