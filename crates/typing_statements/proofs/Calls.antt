-- A CALL without faults is well typed, of a routine or block as of the script.
use Rattle.std.proofs.Common.{◌≡◌, refl, sym, ap, ap₂, ◌∙◌, subst, arith, ℕ, ◌+◌, suc, Bool, true}
use Rattle.std.proofs.Common.{false, not, ◌&&◌, ◌==◌, List, [], ◌∷◌, ◌++◌, length, Option, Some}
use Rattle.std.proofs.Common.{None, append_assoc}
use Rattle.std.specs.Prelude.{slice_get, is_some}
use Rattle.sql_values.specs.declared.value.SqlType.{SqlType}
use Rattle.syntax_trees.specs.Columns.{anchor_of_column}
use Rattle.syntax_trees.specs.declared.anchor.ColumnName.{ColumnName}
use Rattle.syntax_trees.specs.declared.anchor.Ident.{Ident}
use Rattle.syntax_trees.specs.declared.expr.Expr.{Expr, out-Expr, fold_out-Expr}
use Rattle.syntax_trees.specs.declared.expr.Expr.TheFolds.{map-Expr}
use Rattle.syntax_trees.specs.declared.expr.Expr.TheOpen.{Expr-F}
use Rattle.syntax_trees.specs.declared.expr.Link.{Link}
use Rattle.syntax_trees.specs.declared.query.FromItem.{FromItem}
use Rattle.syntax_trees.specs.declared.query.Query.{Query}
use Rattle.syntax_trees.specs.declared.query.SelectItem.{SelectItem}
use Rattle.syntax_trees.specs.declared.query.TableRef.{TableRef}
use Rattle.syntax_trees.specs.declared.query.ValueRow.{ValueRow}
use Rattle.syntax_trees.specs.declared.query.Select.{Select}
use Rattle.syntax_trees.specs.declared.query.Values.{Values}
use Rattle.statement_trees.specs.declared.writing.Argument.{Argument}
use Rattle.statement_trees.specs.declared.writing.Argument.TheVariants as argument
use Rattle.statement_trees.specs.declared.writing.Call.{Call}
use Rattle.bound_trees.specs.declared.statement.BoundArgument.{BoundArgument}
use Rattle.bound_trees.specs.declared.statement.BoundTarget.{BoundTarget}
use Rattle.catalog_store.specs.declared.entry.ParameterMode.{ParameterMode}
use Rattle.catalog_store.specs.declared.entry.ParameterMode.TheVariants as mode
use Rattle.catalog_store.specs.declared.entry.ProcedureHead.{ProcedureHead}
use Rattle.bind_faults.specs.declared.fault.FaultKind.TheVariants.{WrongCount}
use Rattle.bind_faults.specs.Faults.{Noted}
use Rattle.bind_kinds.specs.declared.kind.Kind.{Kind}
use Rattle.bind_kinds.specs.Kinds.{kind_of_type, fits, misfit}
use Rattle.bind_sight.specs.declared.scope.Scope.{Scope}
use Rattle.bind_sight.specs.declared.scope.Variable.{Variable as Held}
use Rattle.bind_sight.specs.Scopes.{variable_named}
use Rattle.bind_sight.specs.Sight.{variable_by, found_variable}
use Rattle.bind_parts.specs.Turns.{each_noted}
use Rattle.bind_parts.specs.Typed.{alone, no_parts, named, keeping}
use Rattle.bind_queries.specs.Judges.{Judge, Expression, JudgedItem, JudgedLink, JudgedRow}
use Rattle.bind_queries.specs.Judges.{QueryJudge, FromJudge, RefJudge, look, looked}
use Rattle.bind_queries.specs.Queries.{expr_step, from_step, query_step, item_step, ref_step}
use Rattle.bind_queries.specs.Queries.{row_step, link_step, select_step, values_step, expression}
use Rattle.bind_queries.specs.Queries.{from_judge, query_judge, select_item, ref_judge, value_row}
use Rattle.bind_queries.specs.Queries.{judged_link, select_judge, values_judge}
use Rattle.bind_queries.proofs.Laws.{front_nil, back_nil, no_fault, equal}
use Rattle.typing_trees.specs.Around.{Around, Slot}
use Rattle.typing_trees.specs.Queries.{kind_of}
use Rattle.typing_trees.specs.Statements.{Inside, Want, value_of, is_target, kind_of_target, wants}
use Rattle.typing_trees.specs.Statements.{holds, argument_typed, arguments_typed, call_typed}
use Rattle.typing_queries.proofs.Laws.{fitting, variable-slot, Sees, ScopesIn}
use Rattle.bind_simple.specs.Calls.{Form, procedure_named, name_faults, variable_of, if_plain}
use Rattle.bind_simple.specs.Calls.{with_type, target_in, variable_meant, target_meant, argument_of}
use Rattle.bind_simple.specs.Calls.{judged_argument, one_argument, judged_arguments, called}
use Rattle.bind_simple.specs.Calls.{judged_call, wanted_by, wanted_at}
use Rattle.bind_rules.specs.Arguments.{value_faults}
use Rattle.bind_simple.specs.Places.{Surroundings, seen_from}
use Rattle.bind_simple.specs.Values.{judged_expr}
use Rattle.typing_statements.proofs.Lists.{both-true, length-after, append-nil}
use Rattle.typing_statements.proofs.Stands.{Stands}
use Rattle.typing_statements.proofs.Storing.{IsTarget, variable-target}
use Rattle.typing_statements.proofs.Values.{expr-typed, is-of}

-- ---- the variable that an expression is

plain : (q : Option Ident) (name : List ℕ) (ss : List Scope) (v : ℕ × Held) →
    if_plain q (variable_named name ss) ≡ Some v
    → (variable_by q name ss ≡ Some v) × (variable_named name ss ≡ Some v)
plain None name ss v p = (p, p)
plain (Some q) name ss v p = absurd cc

abbrev judged-form : Form → Expression
judged-form x = expr_step (map-Expr Expr FromItem Query SelectItem TableRef ValueRow Link Select
    Values Expression FromJudge QueryJudge JudgedItem RefJudge JudgedRow JudgedLink QueryJudge
    QueryJudge expression from_judge query_judge select_item ref_judge value_row judged_link
    select_judge values_judge x)

abbrev kind-by : Judge → Surroundings → Kind
kind-by j p = (alone (look j (seen_from p) no_parts)).value.head.kind

-- a variable in sight, of this kind
abbrev IsVariable : Kind → (ℕ × Held) → List Scope → Type 0
IsVariable kind v ss = (name : List ℕ) × (variable_named name ss ≡ Some v) × (kind ≡ v.1.kind)

name-kind : (c : ColumnName) (p : Surroundings) (v : ℕ × Held) →
    if_plain c.qualifier (variable_named c.name.name p.scopes) ≡ Some v →
    IsVariable (kind-by (judged-form (Expr-F.Name c)).judge p) v p.scopes
name-kind c p v e =
    let found = plain c.qualifier c.name.name p.scopes v e in (
      c.name.name,
      found.1,
      ap
          (λ o. (looked (keeping no_parts (named (anchor_of_column c)
          (found_variable o)))).value.value.head.kind) found.0,
    )

form-kind : (x : Form) (p : Surroundings) (v : ℕ × Held) → variable_of x p.scopes ≡ Some v →
    IsVariable (kind-by (judged-form x).judge p) v p.scopes
form-kind (Expr-F.Name c) p v e = name-kind c p v e
form-kind x p v e = absurd cc

variable-kind : (e : Expr) (p : Surroundings) (v : ℕ × Held) → variable_meant e p ≡ Some v →
    IsVariable (judged_expr e p).value.head.kind v p.scopes
variable-kind e p v is =
    subst (λ (x : Expression). IsVariable (kind-by x.judge p) v p.scopes)
    (sym (fold_out-Expr Expression FromJudge QueryJudge JudgedItem RefJudge JudgedRow JudgedLink
    QueryJudge QueryJudge expr_step from_step query_step item_step ref_step row_step link_step
    select_step values_step e))
    (form-kind (out-Expr e) p v is)

typed-variable : (v : ℕ × Held) (d : Option SqlType) (u : BoundTarget) → with_type v.0 d ≡ Some u →
    (t : SqlType) × (d ≡ Some t) × (record { slot = v.0; data_type = t } ≡ u)
typed-variable v None u p = absurd cc
typed-variable v (Some t) u p = (t, refl, cc)

target-variable : (o : Option (ℕ × Held)) (u : BoundTarget) → target_in o ≡ Some u →
    (v : ℕ × Held) × (o ≡ Some v) × (with_type v.0 v.1.data_type ≡ Some u)
target-variable None u p = absurd cc
target-variable (Some v) u p = (v, refl, p)

target-meant : (e : Expr) (p : Surroundings) (u : BoundTarget) (slots : List Slot) →
    ScopesIn p.scopes slots → target_meant e p ≡ Some u →
    IsTarget slots u (judged_expr e p).value.head.kind
target-meant e p u slots scopes is =
    let (v, found, typed) = target-variable (variable_meant e p) u is in
    let (t, of, same) = typed-variable v v.1.data_type u typed in
    let (name, known, kind) = variable-kind e p v found in
    subst (λ z. IsTarget slots z (judged_expr e p).value.head.kind) same
    (subst (λ k. IsTarget slots (record { slot = v.0; data_type = t }) k) (sym kind)
    (variable-target v t slots (variable-slot name p.scopes slots v scopes known) of))

-- ---- one argument

abbrev want : ParameterMode → SqlType → Option Want
want m t = Some (record { mode = m; data_type = t })

-- a parameter without a mode
none-typed : (script : Bool) (p : Surroundings) (a : Around) (x : Argument) → Sees (seen_from p) a →
    (judged_argument script p None x).faults ≡ []
    → argument_typed script a None (judged_argument script p None x).value ≡ true
none-typed script p a (argument.Value e) sees f =
    let (k, is, below) = expr-typed e p a sees (front_nil (judged_expr e p).faults [] f) in
    ap is_some is
none-typed true p a (argument.Parameter at) sees f = refl
none-typed false p a (argument.Parameter at) sees f = absurd cc

-- a value for a parameter
fits-parameter : (t : SqlType) (e : Expr) (p : Surroundings) (a : Around) → Sees (seen_from p) a →
    (judged_expr e p).faults ≡ [] → misfit (kind_of_type t) (judged_expr e p).value.head ≡ []
    → value_of (kind_of_type t) (judged_expr e p).value.tree a ≡ true
fits-parameter t e p a sees free fit =
    let x = (judged_expr e p).value in
    is-of (kind_of_type t) x.head.kind (kind_of x.tree a) (expr-typed e p a sees free)
    (fitting (kind_of_type t) x.head fit)

taken-there : (t : SqlType) (e : Expr) (p : Surroundings) (a : Around) (u : BoundTarget) →
    IsTarget a.slots u (judged_expr e p).value.head.kind →
    misfit (kind_of_type t) (judged_expr e p).value.head ≡ []
    → (is_target a.slots u && fits (kind_of_type t) (kind_of_target u)) ≡ true
taken-there t e p a u target fit =
    both-true (is_target a.slots u) (fits (kind_of_type t) (kind_of_target u)) target.there
    (ap (fits (kind_of_type t)) target.same ∙
    fitting (kind_of_type t) (judged_expr e p).value.head fit)

-- a variable for a parameter
stored-typed : (m : ParameterMode) (t : SqlType) (e : Expr) (p : Surroundings) (a : Around)
    (o : Option BoundTarget) → Sees (seen_from p) a → target_meant e p ≡ o
    → value_faults false (wanted_by (Some m) (Some t)) o (judged_expr e p).value.head ≡ [] →
    (judged_expr e p).faults ≡ []
    → argument_typed false a (want m t) (argument_of false (wanted_by (Some m) (Some t)) o
    (judged_expr e p).value.tree) ≡ true
stored-typed mode.In t e p a o sees is f free = fits-parameter t e p a sees free f
stored-typed mode.Out t e p a None sees is f free = absurd cc
stored-typed mode.Inout t e p a None sees is f free = absurd cc
stored-typed mode.Out t e p a (Some u) sees is f free =
    taken-there t e p a u (target-meant e p u a.slots sees.scopes is) f
stored-typed mode.Inout t e p a (Some u) sees is f free =
    taken-there t e p a u (target-meant e p u a.slots sees.scopes is) f

some-typed : (script : Bool) (m : ParameterMode) (t : SqlType) (p : Surroundings) (a : Around)
    (x : Argument) → Sees (seen_from p) a → (judged_argument script p (wanted_by (Some m) (Some t))
    x).faults ≡ []
    → argument_typed script a (want m t) (judged_argument script p (wanted_by (Some m) (Some t))
    x).value ≡ true
some-typed false m t p a (argument.Value e) sees f =
    let x = judged_expr e p in
    let asked = value_faults false (wanted_by (Some m) (Some t)) (target_meant e p) x.value.head in
    stored-typed m t e p a (target_meant e p) sees refl (back_nil x.faults asked f)
    (front_nil x.faults asked f)
some-typed true mode.In t p a (argument.Value e) sees f =
    let x = judged_expr e p in
    let asked = value_faults true (wanted_by (Some mode.In) (Some t)) (target_meant e p)
    x.value.head in
    fits-parameter t e p a sees (front_nil x.faults asked f) (back_nil x.faults asked f)
some-typed true mode.Inout t p a (argument.Value e) sees f =
    let x = judged_expr e p in
    let asked = value_faults true (wanted_by (Some mode.Inout) (Some t)) (target_meant e p)
    x.value.head in
    fits-parameter t e p a sees (front_nil x.faults asked f) (back_nil x.faults asked f)
some-typed true mode.Out t p a (argument.Value e) sees f =
    let x = judged_expr e p in
    let asked = value_faults true (wanted_by (Some mode.Out) (Some t)) (target_meant e p)
    x.value.head in
    let none : asked ≡ [] = back_nil x.faults asked f in
    absurd cc
some-typed true mode.Out t p a (argument.Parameter at) sees f = refl
some-typed true mode.In t p a (argument.Parameter at) sees f = absurd cc
some-typed true mode.Inout t p a (argument.Parameter at) sees f = absurd cc
some-typed false mode.Out t p a (argument.Parameter at) sees f = absurd cc
some-typed false mode.In t p a (argument.Parameter at) sees f = absurd cc
some-typed false mode.Inout t p a (argument.Parameter at) sees f = absurd cc

-- ---- arguments in turn

-- what is after so many, at each place
abbrev After : {A : Type 0} → List A → ℕ → List A → Type 0
After all n xs = (k : ℕ) → slice_get all (n + k) ≡ slice_get xs k

next : {A : Type 0} (all xs : List A) (x : A) (n : ℕ) → After all n (x ∷ xs) → After all (suc n) xs
next all xs x n h k = let same : suc n + k ≡ n + suc k = omega arith in ap (slice_get all) same ∙
    h (suc k)

none-next : {A : Type 0} (all : List A) (n : ℕ) → After all n [] → After all (suc n) []
none-next all n h k = let same : suc n + k ≡ n + suc k = omega arith in ap (slice_get all) same ∙
    h (suc k)

abbrev after : {A : Type 0} → List A → List A
after [] = []
after (x ∷ xs) = xs

next-after : {A : Type 0} (all xs : List A) (n : ℕ) → After all n xs → After all (suc n) (after xs)
next-after all [] n h = none-next all n h
next-after all (x ∷ xs) n h = next all xs x n h

here : {A : Type 0} (all xs : List A) (n : ℕ) → After all n xs → slice_get all n ≡ slice_get xs 0
here all xs n h = let same : n + 0 ≡ n = omega arith in sym (ap (slice_get all) same) ∙ h 0

one-typed : (script : Bool) (ms : List ParameterMode) (t : SqlType) (ts : List SqlType)
    (p : Surroundings) (a : Around) (x : Argument) → Sees (seen_from p) a
    → (judged_argument script p (wanted_by (slice_get ms 0) (Some t)) x).faults ≡ []
    → (more : List BoundArgument) → arguments_typed script a (wants (after ms) ts) more ≡ true
    → arguments_typed script a (wants ms (t ∷ ts))
    ((judged_argument script p (wanted_by (slice_get ms 0) (Some t)) x).value ∷ more) ≡ true
one-typed script [] t ts p a x sees f more rest =
    both-true (argument_typed script a None (judged_argument script p None x).value)
    (arguments_typed script a (wants [] ts) more) (none-typed script p a x sees f) rest
one-typed script (m ∷ ms) t ts p a x sees f more rest =
    let b = (judged_argument script p (wanted_by (Some m) (Some t)) x).value in
    both-true (argument_typed script a (want m t) b) (arguments_typed script a (wants ms ts) more)
    (some-typed script m t p a x sees f) rest

-- arguments after others, for the parameters at their places
abbrev Arguments : Bool → Around → List (Option Want) → List BoundArgument → List BoundArgument →
    Type 0
Arguments script a ws so all = (more : List BoundArgument) × (all ≡ so ++ more) ×
    (arguments_typed script a ws more ≡ true)

in-turn : (script : Bool) (q : ProcedureHead) (p : Surroundings) (a : Around)
    (ms : List ParameterMode) (ts : List SqlType) (so : List BoundArgument) (xs : List Argument) →
    Sees (seen_from p) a
    → After q.modes (length so) ms → After q.parameters (length so) ts → length xs ≡ length ts →
    (each_noted (one_argument script p (Some q)) so xs).faults ≡ []
    → Arguments script a (wants ms ts) so (each_noted (one_argument script p (Some q)) so xs).value
in-turn script q p a ms [] so [] sees hm ht n f = ([], sym (append-nil so), refl)
in-turn script q p a ms (t ∷ ts) so [] sees hm ht n f = absurd (omega arith)
in-turn script q p a ms [] so (x ∷ xs) sees hm ht n f = absurd (omega arith)
in-turn script q p a ms (t ∷ ts) so (x ∷ xs) sees hm ht n f =
    let one = judged_argument script p (wanted_at (Some q) (length so)) x in
    let rest = each_noted (one_argument script p (Some q)) (so ++ one.value ∷ []) xs in
    let same : judged_argument script p (wanted_by (slice_get ms 0) (Some t)) x ≡ one =
    sym (ap₂ (λ m d. judged_argument script p (wanted_by m d) x) (here q.modes ms (length so) hm)
    (here q.parameters (t ∷ ts) (length so) ht)) in
    let modes : After q.modes (length (so ++ one.value ∷ [])) (after ms) =
    subst (λ k. After q.modes k (after ms)) (sym (length-after so one.value))
    (next-after q.modes ms (length so) hm) in
    let types : After q.parameters (length (so ++ one.value ∷ [])) ts =
    subst (λ k. After q.parameters k ts) (sym (length-after so one.value))
    (next q.parameters ts t (length so) ht) in
    let (more, is, typed) = in-turn script q p a (after ms) ts (so ++ one.value ∷ []) xs sees modes
    types (omega arith) (back_nil one.faults rest.faults f) in
    let first : one.faults ≡ [] = front_nil one.faults rest.faults f in (
      one.value ∷ more,
      is ∙ append_assoc so (one.value ∷ []) more,
      subst (λ (z : Noted BoundArgument). arguments_typed script a (wants ms (t ∷ ts))
          (z.value ∷ more) ≡ true) same
          (one-typed script ms t ts p a x sees
          (subst (λ (z : Noted BoundArgument). z.faults ≡ []) (sym same) first) more typed),
    )

-- ---- calls

from-start : {A : Type 0} (xs : List A) → After xs 0 xs
from-start xs k = let same : 0 + k ≡ k = omega arith in ap (slice_get xs) same

called-typed : (script : Bool) (s : Call) (o : Option ProcedureHead) (p : Surroundings)
    (i : Inside) → Sees (seen_from p) i.around → i.procedures s.name.name ≡ o →
    (called script s o p).faults ≡ []
    → call_typed script (called script s o p).value i ≡ true
called-typed script s None p i sees e f = absurd cc
called-typed script s (Some q) p i sees e f =
    let named = name_faults s.name (length s.arguments) (Some q) in
    let arguments = judged_arguments script p (Some q) s.arguments in
    let wrong = not (length s.arguments == length q.parameters) in
    let many = equal (length s.arguments) (length q.parameters)
    (no_fault wrong WrongCount s.name.anchor (front_nil named arguments.faults f)) in
    let (more, is, typed) = in-turn script q p i.around q.modes q.parameters [] s.arguments sees
    (from-start q.modes) (from-start q.parameters) many (back_nil named arguments.faults f) in
    ap (λ (o : Option ProcedureHead). holds o
    (λ h. arguments_typed script i.around (wants h.modes h.parameters) arguments.value)) e
    ∙ ap (arguments_typed script i.around (wants q.modes q.parameters)) is ∙ typed

pub call-typed : (script : Bool) (s : Call) (p : Surroundings) (i : Inside) → Stands p i →
    (judged_call script s p).faults ≡ [] → call_typed script (judged_call script s p).value i ≡ true
call-typed script s p i h f = called-typed script s (procedure_named s.name.name p) p i h.sees
    (h.procedures s.name.name) f
