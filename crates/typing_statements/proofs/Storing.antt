-- SET, SELECT INTO, FETCH, OPEN, CLOSE and GET DIAGNOSTICS without faults are well typed.
use Rattle.std.proofs.Common.{◌≡◌, refl, sym, ap, ◌∙◌, subst, arith, ℕ, ◌+◌, ◌<◌, true, not, ◌&&◌}
use Rattle.std.proofs.Common.{◌==◌, List, [], ◌∷◌, ◌++◌, map, length, Option, Some, None, inl}
use Rattle.std.specs.Prelude.{slice_get, is_some, option_map}
use Rattle.std.specs.List.{list_all}
use Rattle.std.proofs.lemmas.List.{length-map}
use Rattle.std.proofs.lemmas.Option.{slice_get-get_or}
use Rattle.sql_values.specs.declared.value.SqlType.{SqlType}
use Rattle.sql_values.specs.declared.value.SqlType.TheVariants as type
use Rattle.sql_values.specs.declared.value.Value.TheVariants.{Int}
use Rattle.syntax_trees.specs.declared.anchor.Ident.{Ident}
use Rattle.statement_trees.specs.declared.condition.ConditionItem.{ConditionItem}
use Rattle.statement_trees.specs.declared.condition.ConditionNumber.{ConditionNumber}
use Rattle.statement_trees.specs.declared.condition.ConditionNumber.TheVariants as number
use Rattle.statement_trees.specs.declared.condition.DiagnosticsInformation.{DiagnosticsInformation}
use Rattle.statement_trees.specs.declared.condition.DiagnosticsInformation.TheVariants as information
use Rattle.statement_trees.specs.declared.condition.StatementItem.{StatementItem}
use Rattle.statement_trees.specs.declared.writing.Assignment.{Assignment}
use Rattle.statement_trees.specs.declared.writing.Fetch.{Fetch}
use Rattle.statement_trees.specs.declared.writing.SelectInto.{SelectInto}
use Rattle.bound_trees.specs.declared.expr.BoundExpr.TheVariants as expr
use Rattle.bound_trees.specs.declared.statement.BoundTarget.{BoundTarget}
use Rattle.bind_faults.specs.declared.fault.FaultKind.TheVariants.{WrongCount, NotPermitted}
use Rattle.bind_faults.specs.Faults.{fault_if}
use Rattle.bind_kinds.specs.declared.kind.Kind.{Kind}
use Rattle.bind_kinds.specs.declared.kind.Kind.TheVariants.{Integer, Text}
use Rattle.bind_kinds.specs.Kinds.{kind_of_type, fits, misfit, head_of, in_turn}
use Rattle.bind_sight.specs.declared.scope.Cursor.{Cursor}
use Rattle.bind_sight.specs.declared.scope.Scope.{Scope}
use Rattle.bind_sight.specs.declared.scope.Variable.{Variable as Held}
use Rattle.bind_sight.specs.Index.{place_of}
use Rattle.bind_sight.specs.Scopes.{variable_named, cursor_named, cursor_in, cursor_of, cursor_at}
use Rattle.bind_sight.specs.Scopes.{or_else}
use Rattle.bind_queries.proofs.Laws.{front_nil, back_nil, no_fault, equal}
use Rattle.typing_trees.specs.Around.{Around, Slot, stored, read, kind_of_slot}
use Rattle.typing_trees.specs.Kinds.{each_fits}
use Rattle.typing_trees.specs.Queries.{kind_of, kinds_of_query}
use Rattle.typing_trees.specs.Statements.{holds, is_of, value_of, same_type, stores, is_target}
use Rattle.typing_trees.specs.Statements.{kind_of_target, takes_value, take_row}
use Rattle.typing_trees.specs.Statements.{statement_read_typed, condition_read_typed}
use Rattle.typing_trees.specs.Statements.{information_typed}
use Rattle.typing_queries.proofs.Laws.{Below, AllBelow, Has, HasAll, fits-below, fits-swap, fitting}
use Rattle.typing_queries.proofs.Laws.{literal-kind, variable-kind, variable-slot, Sees, ScopesIn}
use Rattle.typing_queries.proofs.Laws.{SlotIs, SlotOf, kinds_shown, parts_typed}
use Rattle.bind_simple.specs.Places.{Surroundings, seen_from}
use Rattle.bind_simple.specs.Storing.{judged_set, into_faults, judge_selection, selected_for}
use Rattle.bind_simple.specs.Storing.{judged_select_into, cursor_faults, cursor_slot}
use Rattle.bind_simple.specs.Storing.{cursor_at as cursor_at_place, fetch_faults, fetched_faults}
use Rattle.bind_simple.specs.Storing.{read_faults, statement_read, condition_read, number_faults}
use Rattle.bind_simple.specs.Storing.{slot_in, number_of, faults_of_number, statement_faults}
use Rattle.bind_simple.specs.Storing.{condition_faults, information_of, information_faults}
use Rattle.bind_simple.specs.Values.{value_of_kind, or_integer, stored_in, stored_at, faults_at}
use Rattle.bind_simple.specs.Values.{targets_at, targets_faults, targets_of, kinds_of, head_at}
use Rattle.bind_simple.specs.Values.{heads_at}
use Rattle.bind_rules.specs.Targets.{target_faults}
use Rattle.typing_statements.proofs.Lists.{both-true, not-false, equals-itself, there}
use Rattle.typing_statements.proofs.Stands.{CursorsOf, CursorsIn}
use Rattle.typing_statements.proofs.Values.{value-typed, is-of, row-fits}
use Rattle.typing_statements.proofs.Writing.{place-within}

-- ---- targets

same-itself : (t : SqlType) → same_type t t ≡ true
same-itself type.Integer = refl
same-itself (type.Varchar n) = equals-itself n n refl
same-itself type.Boolean = refl

-- a variable in its slot, into which values of its kind are stored
pub record IsTarget (slots : List Slot) (t : BoundTarget) (kind : Kind) : Type 0 where
  pub there : is_target slots t ≡ true
  pub same : kind_of_target t ≡ kind

stores-itself : (v : Held) (t : SqlType) (x : Slot) → SlotOf v x → v.data_type ≡ Some t →
    (stores t x ≡ true) × (kind_of_type t ≡ v.kind)
stores-itself v t (stored u) (is, kind) e =
    let same : u ≡ t = cc in
    (subst (λ z. same_type u z ≡ true) same (same-itself u), sym (kind ∙ ap kind_of_type same))
stores-itself v t (read k) (is, below) e = absurd (no (sym is ∙ e))
  where
    no : None ≡ Some t → ⊥
    no p = cc

pub variable-target : (v : ℕ × Held) (t : SqlType) (slots : List Slot) →
    SlotIs v.1 (slice_get slots v.0) → v.1.data_type ≡ Some t →
    IsTarget slots (record { slot = v.0; data_type = t }) v.1.kind
variable-target v t slots (x, is, of) e =
    let (fine, kind) = stores-itself v.1 t x of e in
    record { there = ap (λ o. holds o (stores t)) is ∙ fine; same = kind }

stored-typed : (i : Ident) (o : Option (ℕ × Held)) (p : Surroundings) (slots : List Slot) →
    variable_named i.name p.scopes ≡ o → ScopesIn p.scopes slots → target_faults i o ≡ []
    → IsTarget slots (stored_in i.anchor o).target (stored_in i.anchor o).kind
stored-typed i None p slots e scopes f = absurd cc
stored-typed i (Some v) p slots e scopes f =
    let (t, is) = there v.1.data_type (not-false (is_some v.1.data_type)
    (no_fault (not (is_some v.1.data_type)) NotPermitted i.anchor f)) in
    let target = variable-target v t slots (variable-slot i.name p.scopes slots v scopes e) is in
    let same : or_integer v.1.data_type ≡ t = ap or_integer is in
    subst (λ z. IsTarget slots (record { slot = v.0; data_type = z }) v.1.kind) (sym same) target

pub target-typed : (i : Ident) (p : Surroundings) (slots : List Slot) → ScopesIn p.scopes slots →
    faults_at i p ≡ [] → IsTarget slots (stored_at i p).target (stored_at i p).kind
target-typed i p slots scopes f = stored-typed i (variable_named i.name p.scopes) p slots refl
    scopes f

-- what takes a value of a kind
takes-typed : (slots : List Slot) (t : BoundTarget) (kind : Kind) (o : Option Kind) →
    IsTarget slots t kind → is_of kind o ≡ true → takes_value slots t o ≡ true
takes-typed slots t kind o target fit = both-true (is_target slots t) (is_of (kind_of_target t) o)
    target.there (ap (λ k. is_of k o) target.same ∙ fit)

-- ---- SET

pub set-typed : (x : Assignment) (p : Surroundings) (a : Around) → Sees (seen_from p) a →
    (judged_set x p).faults ≡ []
    → takes_value a.slots (judged_set x p).value.target (kind_of (judged_set x p).value.value a) ≡
    true
set-typed x p a sees f =
    let v = value_of_kind (stored_at x.target p).kind x.value p in
    takes-typed a.slots (stored_at x.target p).target (stored_at x.target p).kind
    (kind_of v.value a) (target-typed x.target p a.slots sees.scopes
    (front_nil (faults_at x.target p) v.faults f))
    (value-typed (stored_at x.target p).kind x.value p a sees
    (back_nil (faults_at x.target p) v.faults f))

-- ---- rows

targets-there : (is : List Ident) (p : Surroundings) (slots : List Slot) → ScopesIn p.scopes slots →
    targets_faults is p ≡ [] → list_all (is_target slots) (targets_of (targets_at is p)) ≡ true
targets-there [] p slots scopes f = refl
targets-there (i ∷ is) p slots scopes f =
    let rest = targets_of (targets_at is p) in
    both-true (is_target slots (stored_at i p).target) (list_all (is_target slots) rest)
    (target-typed i p slots scopes (front_nil (faults_at i p) (targets_faults is p) f)).there
    (targets-there is p slots scopes (back_nil (faults_at i p) (targets_faults is p) f))

targets-kinds : (is : List Ident) (p : Surroundings) (slots : List Slot) → ScopesIn p.scopes slots →
    targets_faults is p ≡ [] → map kind_of_target (targets_of (targets_at is p)) ≡ kinds_of
    (targets_at is p)
targets-kinds [] p slots scopes f = refl
targets-kinds (i ∷ is) p slots scopes f =
    let rest = targets-kinds is p slots scopes (back_nil (faults_at i p) (targets_faults is p) f) in
    let here = (target-typed i p slots scopes
    (front_nil (faults_at i p) (targets_faults is p) f)).same in
    ap (λ k. k ∷ map kind_of_target (targets_of (targets_at is p))) here ∙
    ap (λ ks. (stored_at i p).kind ∷ ks) rest

row-taken : (is : List Ident) (p : Surroundings) (slots : List Slot) (o : Option (List Kind)) →
    ScopesIn p.scopes slots → targets_faults is p ≡ [] →
    holds o (each_fits (kinds_of (targets_at is p))) ≡ true
    → take_row slots (targets_of (targets_at is p)) o ≡ true
row-taken is p slots o scopes f fit =
    both-true (list_all (is_target slots) (targets_of (targets_at is p)))
    (holds o (each_fits (map kind_of_target (targets_of (targets_at is p)))))
    (targets-there is p slots scopes f)
    (ap (λ (ks : List Kind). holds o (each_fits ks)) (targets-kinds is p slots scopes f) ∙ fit)

-- ---- SELECT INTO

pub select-into-typed : (s : SelectInto) (p : Surroundings) (a : Around) → Sees (seen_from p) a →
    (judged_select_into s p).faults ≡ []
    → take_row a.slots (judged_select_into s p).value.targets
    (kinds_of_query (judged_select_into s p).value.query a) ≡ true
select-into-typed s p a sees f =
    let ts = targets_at s.targets p in
    let q = judge_selection s (kinds_of ts) (seen_from p) in
    let known = front_nil (targets_faults s.targets p) (selected_for s ts p).faults f in
    let rest : q.faults ++ into_faults ts q.value ≡ [] =
    back_nil (targets_faults s.targets p) (selected_for s ts p).faults f in
    let typed = parts_typed s.anchor s.items s.from s.filter s.group_by s.having (kinds_of ts)
    (seen_from p) a sees (front_nil q.faults (into_faults ts q.value) rest) in
    let many : length q.value.columns ≡ length ts =
    equal (length q.value.columns) (length ts)
    (no_fault (not (length q.value.columns == length ts)) WrongCount q.value.at
    (back_nil q.faults (into_faults ts q.value) rest)) in
    row-taken s.targets p a.slots (kinds_of_query q.value.tree a) sees.scopes known
    (row-fits (kinds_of ts) (kinds_shown q.value.columns) (kinds_of_query q.value.tree a) typed.0
    typed.1 (length-map q.value.columns (λ c. c.kind) ∙ many ∙
    sym (length-map ts (λ t. t.kind))))

-- ---- cursors

cursor-placed : (s : Scope) (o : Option ℕ) (cursors : List (List Kind)) (c : ℕ × Cursor) →
    CursorsOf s cursors → ((k : ℕ) → o ≡ Some k → k < length s.cursors) → cursor_of s o ≡ Some c
    → HasAll (slice_get cursors c.0) c.1.kinds
cursor-placed s None cursors c h within is = absurd cc
cursor-placed s (Some k) cursors c h within is =
    let here : (s.first_cursor + k, cursor_at s.columns k) ≡ c = cc in
    let below : k < length s.columns = omega (arith, within k refl, h.as_many) in
    subst (λ (z : ℕ × Cursor). HasAll (slice_get cursors z.0) z.1.kinds) here
    (h.slot k (cursor_at s.columns k) (slice_get-get_or s.columns k (record { kinds = [] })
    below))

cursor-of-either : (s : Scope) (ss : List Scope) (name : List ℕ) (o : Option (ℕ × Cursor))
    (cursors : List (List Kind)) (c : ℕ × Cursor) → cursor_in name s ≡ o → CursorsOf s cursors
    → (cursor_named name ss ≡ Some c → HasAll (slice_get cursors c.0) c.1.kinds) →
    or_else o (cursor_named name ss) ≡ Some c → HasAll (slice_get cursors c.0) c.1.kinds
cursor-of-either s ss name None cursors c e h further is = further is
cursor-of-either s ss name (Some d) cursors c e h further is =
    cursor-placed s (place_of name s.cursors) cursors c h (λ k q. place-within name s.cursors k q)
    (e ∙ is)

-- a cursor has its slot
pub cursor-slot : (name : List ℕ) (ss : List Scope) (cursors : List (List Kind)) (c : ℕ × Cursor) →
    CursorsIn ss cursors → cursor_named name ss ≡ Some c → HasAll (slice_get cursors c.0) c.1.kinds
cursor-slot name [] cursors c h is = absurd cc
cursor-slot name (s ∷ ss) cursors c h is = cursor-of-either s ss name (cursor_in name s) cursors c
    refl h.0 (λ q. cursor-slot name ss cursors c h.1 q) is

opened : (i : Ident) (o : Option (ℕ × Cursor)) (p : Surroundings) (cursors : List (List Kind)) →
    cursor_at_place i p ≡ o → CursorsIn p.scopes cursors → cursor_faults i o ≡ []
    → is_some (slice_get cursors (cursor_slot o)) ≡ true
opened i None p cursors e h f = absurd cc
opened i (Some c) p cursors e h f =
    let (ks, is, below) = cursor-slot i.name p.scopes cursors c h e in ap is_some is

pub open-typed : (i : Ident) (p : Surroundings) (cursors : List (List Kind)) →
    CursorsIn p.scopes cursors → cursor_faults i (cursor_at_place i p) ≡ []
    → is_some (slice_get cursors (cursor_slot (cursor_at_place i p))) ≡ true
open-typed i p cursors h f = opened i (cursor_at_place i p) p cursors refl h f

-- ---- FETCH

-- each column is of the kind of its target, at which it is shown
turned : (is : List Ident) (p : Surroundings) (ks js : List Kind) → AllBelow js ks →
    in_turn ks (heads_at (targets_at is p)) ≡ [] → length ks ≡ length (targets_at is p)
    → each_fits (kinds_of (targets_at is p)) js ≡ true
turned [] p [] [] b f n = refl
turned [] p [] (j ∷ js) b f n = absurd b
turned [] p (k ∷ ks) js b f n = absurd (omega arith)
turned (i ∷ is) p [] js b f n = absurd (omega arith)
turned (i ∷ is) p (k ∷ ks) [] b f n = absurd b
turned (i ∷ is) p (k ∷ ks) (j ∷ js) b f n =
    let t = stored_at i p in
    let rest = in_turn ks (heads_at (targets_at is p)) in
    both-true (fits t.kind j) (each_fits (kinds_of (targets_at is p)) js)
    (fits-below t.kind j k b.0 (fits-swap t.kind k ∙
    fitting k (head_at t) (front_nil (misfit k (head_at t)) rest f)))
    (turned is p ks js b.1 (back_nil (misfit k (head_at t)) rest f) (omega arith))

fetched : (s : Fetch) (o : Option (ℕ × Cursor)) (p : Surroundings) (a : Around)
    (cursors : List (List Kind)) → cursor_at_place s.cursor p ≡ o → Sees (seen_from p) a →
    CursorsIn p.scopes cursors
    → cursor_faults s.cursor o ≡ [] → targets_faults s.targets p ≡ [] →
    fetch_faults s.cursor o (targets_at s.targets p) ≡ []
    → take_row a.slots (targets_of (targets_at s.targets p)) (slice_get cursors (cursor_slot o)) ≡
    true
fetched s None p a cursors e sees h f g t = absurd cc
fetched s (Some c) p a cursors e sees h f g t =
    let (js, is, below) = cursor-slot s.cursor.name p.scopes cursors c h e in
    let ts = targets_at s.targets p in
    let wide = not (length c.1.kinds == length ts) in
    let turn = in_turn c.1.kinds (heads_at ts) in
    let many : length c.1.kinds ≡ length ts =
    equal (length c.1.kinds) (length ts)
    (no_fault wide WrongCount s.cursor.anchor
    (front_nil (fault_if wide WrongCount s.cursor.anchor) turn t)) in
    row-taken s.targets p a.slots (slice_get cursors c.0) sees.scopes g
    (ap (λ (o : Option (List Kind)). holds o (each_fits (kinds_of ts))) is ∙
    turned s.targets p c.1.kinds js below
    (back_nil (fault_if wide WrongCount s.cursor.anchor) turn t) many)

pub fetch-typed : (s : Fetch) (p : Surroundings) (a : Around) (cursors : List (List Kind)) →
    Sees (seen_from p) a → CursorsIn p.scopes cursors → fetched_faults s p ≡ []
    → take_row a.slots (targets_of (targets_at s.targets p))
    (slice_get cursors (cursor_slot (cursor_at_place s.cursor p))) ≡ true
fetch-typed s p a cursors sees h f =
    let o = cursor_at_place s.cursor p in
    let rest = targets_faults s.targets p ++ fetch_faults s.cursor o (targets_at s.targets p) in
    let more = back_nil (cursor_faults s.cursor o) rest f in
    fetched s o p a cursors refl sees h (front_nil (cursor_faults s.cursor o) rest f)
    (front_nil (targets_faults s.targets p) (fetch_faults s.cursor o (targets_at s.targets p)) more)
    (back_nil (targets_faults s.targets p) (fetch_faults s.cursor o (targets_at s.targets p))
    more)

-- ---- GET DIAGNOSTICS

-- a target of the kind of what is read
read-typed : (kind : Kind) (i : Ident) (p : Surroundings) (slots : List Slot) →
    ScopesIn p.scopes slots → read_faults kind i p ≡ []
    → (is_target slots (stored_at i p).target && fits kind (kind_of_target (stored_at i p).target))
    ≡ true
read-typed kind i p slots scopes f =
    let h = head_at (stored_at i p) in
    let target = target-typed i p slots scopes (front_nil (faults_at i p) (misfit kind h) f) in
    both-true (is_target slots (stored_at i p).target)
    (fits kind (kind_of_target (stored_at i p).target)) target.there
    (ap (fits kind) target.same ∙ fitting kind h (back_nil (faults_at i p) (misfit kind h) f))

statement-reads : (is : List StatementItem) (p : Surroundings) (slots : List Slot) →
    ScopesIn p.scopes slots → statement_faults is p ≡ [] →
    list_all (statement_read_typed slots) (map (statement_read p) is) ≡ true
statement-reads [] p slots scopes f = refl
statement-reads (i ∷ is) p slots scopes f =
    let here = read_faults Integer i.target p in
    both-true (statement_read_typed slots (statement_read p i))
    (list_all (statement_read_typed slots) (map (statement_read p) is))
    (read-typed Integer i.target p slots scopes (front_nil here (statement_faults is p) f))
    (statement-reads is p slots scopes (back_nil here (statement_faults is p) f))

condition-reads : (is : List ConditionItem) (p : Surroundings) (slots : List Slot) →
    ScopesIn p.scopes slots → condition_faults is p ≡ [] →
    list_all (condition_read_typed slots) (map (condition_read p) is) ≡ true
condition-reads [] p slots scopes f = refl
condition-reads (i ∷ is) p slots scopes f =
    let here = read_faults Text i.target p in
    both-true (condition_read_typed slots (condition_read p i))
    (list_all (condition_read_typed slots) (map (condition_read p) is))
    (read-typed Text i.target p slots scopes (front_nil here (condition_faults is p) f))
    (condition-reads is p slots scopes (back_nil here (condition_faults is p) f))

-- a variable is of its kind
pub slot-kind : (v : Held) (x : Slot) → SlotOf v x → Below (kind_of_slot x) v.kind
slot-kind v (stored t) (is, kind) = inl (sym kind)
slot-kind v (read k) (is, below) = below

pub variable-typed : (name : List ℕ) (v : ℕ × Held) (p : Surroundings) (a : Around) →
    ScopesIn p.scopes a.slots → variable_named name p.scopes ≡ Some v →
    Has (kind_of (expr.Variable v.0) a) v.1.kind
variable-typed name v p a scopes e =
    let (x, is, of) = variable-slot name p.scopes a.slots v scopes e in
    (kind_of_slot x, variable-kind v.0 a ∙ ap (option_map kind_of_slot) is, slot-kind v.1 x of)

number-named : (i : Ident) (o : Option (ℕ × Held)) (p : Surroundings) (a : Around) →
    variable_named i.name p.scopes ≡ o → ScopesIn p.scopes a.slots → number_faults i o ≡ []
    → value_of Integer (expr.Variable (slot_in o)) a ≡ true
number-named i None p a e scopes f = absurd cc
number-named i (Some v) p a e scopes f = is-of Integer v.1.kind (kind_of (expr.Variable v.0) a)
    (variable-typed i.name v p a scopes e) (fitting Integer (head_of v.1.kind i.anchor) f)

number-typed : (n : ConditionNumber) (p : Surroundings) (a : Around) → ScopesIn p.scopes a.slots →
    faults_of_number n p ≡ [] → value_of Integer (number_of n p) a ≡ true
number-typed (number.Number at n) p a scopes f = ap (is_of Integer) (literal-kind (Int n) a)
number-typed (number.Variable i) p a scopes f =
    number-named i (variable_named i.name p.scopes) p a refl scopes f

pub diagnostics-typed : (x : DiagnosticsInformation) (p : Surroundings) (a : Around) →
    ScopesIn p.scopes a.slots → information_faults x p ≡ [] →
    information_typed (information_of x p) a ≡ true
diagnostics-typed (information.Statement is) p a scopes f = statement-reads is p a.slots scopes f
diagnostics-typed (information.Condition n is) p a scopes f =
    both-true (value_of Integer (number_of n p) a)
    (list_all (condition_read_typed a.slots) (map (condition_read p) is))
    (number-typed n p a scopes (front_nil (faults_of_number n p) (condition_faults is p) f))
    (condition-reads is p a.slots scopes (back_nil (faults_of_number n p) (condition_faults is p)
    f))
