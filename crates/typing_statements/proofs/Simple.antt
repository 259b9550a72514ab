-- Statements that hold no statement are well typed where they have no faults.
use Rattle.std.proofs.Common.{◌≡◌, refl, sym, ap, ap₂, ◌∙◌, arith, ℕ, ◌+◌, suc, Bool, true, false}
use Rattle.std.proofs.Common.{not, ◌&&◌, cond, List, [], ◌∷◌, map, Option, Some, None}
use Rattle.std.specs.Prelude.{slice_get, is_some, option_map}
use Rattle.std.proofs.lemmas.Option.{slice_get-map}
use Rattle.sql_values.specs.declared.value.SqlType.{SqlType}
use Rattle.syntax_trees.specs.declared.anchor.Anchor.{Anchor}
use Rattle.syntax_trees.specs.declared.anchor.Ident.{Ident}
use Rattle.syntax_trees.specs.declared.expr.Expr.{Expr}
use Rattle.statement_trees.specs.declared.condition.GetDiagnostics.{GetDiagnostics}
use Rattle.statement_trees.specs.declared.condition.Resignal.{Resignal}
use Rattle.statement_trees.specs.declared.condition.Signal.{Signal}
use Rattle.statement_trees.specs.declared.writing.Assignment.{Assignment}
use Rattle.statement_trees.specs.declared.writing.Call.{Call}
use Rattle.statement_trees.specs.declared.writing.Delete.{Delete}
use Rattle.statement_trees.specs.declared.writing.Fetch.{Fetch}
use Rattle.statement_trees.specs.declared.writing.Insert.{Insert}
use Rattle.statement_trees.specs.declared.writing.SelectInto.{SelectInto}
use Rattle.statement_trees.specs.declared.writing.Update.{Update}
use Rattle.bound_trees.specs.declared.statement.BoundStmt.TheVariants as bound
use Rattle.bind_faults.specs.declared.fault.FaultKind.TheVariants.{UnknownName, NotPermitted}
use Rattle.bind_faults.specs.Faults.{as_value, fault_if}
use Rattle.bind_kinds.specs.declared.kind.Kind.TheVariants.{Text}
use Rattle.bind_kinds.specs.Kinds.{kind_of_type}
use Rattle.bind_queries.proofs.Laws.{front_nil, back_nil, no_fault}
use Rattle.typing_trees.specs.Around.{Around}
use Rattle.typing_trees.specs.Statements.{Inside, Outer, holds, value_of, if_there, may_leave}
use Rattle.typing_trees.specs.Statements.{may_iterate, return_typed, is_typed}
use Rattle.typing_queries.proofs.Laws.{Sees}
use Rattle.bind_changes.specs.Writing.{judged_insert, judged_update, judged_delete}
use Rattle.bind_simple.specs.Calls.{judged_call}
use Rattle.bind_rules.specs.Labels.{Label, label_named, label_from, is_name}
use Rattle.bind_simple.specs.Places.{Surroundings, seen_from}
use Rattle.bind_simple.specs.Simple.{Judge, level_of, leave_faults, iterate_faults, judged_leave}
use Rattle.bind_simple.specs.Simple.{judged_iterate, returned_kind, judged_return, judged_open}
use Rattle.bind_simple.specs.Simple.{judged_close, judged_fetch, judged_get, inserted, changed}
use Rattle.bind_simple.specs.Simple.{removed, misplaced}
use Rattle.bind_simple.specs.States.{judged_message, judged_signal, judged_resignal, raised_faults}
use Rattle.bind_simple.specs.States.{again_faults}
use Rattle.bind_simple.specs.Storing.{judged_set, judged_select_into, cursor_at, cursor_slot}
use Rattle.bind_simple.specs.Storing.{cursor_faults, fetched_targets, fetched_faults}
use Rattle.bind_simple.specs.Storing.{information_faults, diagnostics_of}
use Rattle.bind_simple.specs.Values.{value_of_kind}
use Rattle.typing_statements.proofs.Calls.{call-typed}
use Rattle.typing_statements.proofs.Layers.{insert-layer, update-layer, delete-layer, call-layer}
use Rattle.typing_statements.proofs.Layers.{set-layer, select-into-layer, open-layer, close-layer}
use Rattle.typing_statements.proofs.Layers.{fetch-layer, signal-layer, resignal-layer}
use Rattle.typing_statements.proofs.Layers.{get-diagnostics-layer, leave-layer, iterate-layer}
use Rattle.typing_statements.proofs.Layers.{return-layer}
use Rattle.typing_statements.proofs.Lists.{left-true, not-false, there, same-some}
use Rattle.typing_statements.proofs.Stands.{Stands, outer_of}
use Rattle.typing_statements.proofs.Storing.{set-typed, select-into-typed, open-typed, fetch-typed}
use Rattle.typing_statements.proofs.Storing.{diagnostics-typed}
use Rattle.typing_statements.proofs.Values.{value-typed}
use Rattle.typing_statements.proofs.Writing.{insert-typed, update-typed, delete-typed}

-- where a statement without faults stands, it is well typed
abbrev pub StatementFits : Judge → Type 0
StatementFits j = (p : Surroundings) → (j p).faults ≡ [] → (i : Inside) → Stands p i →
    is_typed (j p).value i ≡ true

-- ---- labels

-- a label that may be left, as many levels outwards
abbrev Leads : ℕ → ℕ → Bool → List Label → Type 0
Leads from level is_loop ls = (k : ℕ) × (l : Label) × (level ≡ from + k) ×
    (slice_get ls k ≡ Some l) × (l.may_leave ≡ true) × (l.is_loop ≡ is_loop)

further : (from level : ℕ) (is_loop : Bool) (l : Label) (ls : List Label) →
    Leads (from + 1) level is_loop ls → Leads from level is_loop (l ∷ ls)
further from level is_loop l ls (k, o, at, is, leaves, loops) =
    (suc k, o, omega arith, is, leaves, loops)

found : (b : Bool) (from : ℕ) (name : List ℕ) (l : Label) (ls : List Label) (level : ℕ)
    (is_loop : Bool) → (l.may_leave && is_name name l.name) ≡ b
    → (label_from (from + 1) name ls ≡ Some (record { level = level; is_loop = is_loop }) →
    Leads (from + 1) level is_loop ls)
    → cond b (Some (record { level = from; is_loop = l.is_loop })) (label_from (from + 1) name ls) ≡
    Some (record { level = level; is_loop = is_loop })
    → Leads from level is_loop (l ∷ ls)
found true from name l ls level is_loop e rest is =
    let whole = same-some _ _ is in
    let same : from ≡ level = ap (λ r. r.level) whole in
    let loops : l.is_loop ≡ is_loop = ap (λ r. r.is_loop) whole in
    (0, l, omega arith, refl, left-true l.may_leave (is_name name l.name) e, loops)
found false from name l ls level is_loop e rest is = further from level is_loop l ls (rest is)

leads : (from : ℕ) (name : List ℕ) (ls : List Label) (level : ℕ) (is_loop : Bool) →
    label_from from name ls ≡ Some (record { level = level; is_loop = is_loop }) →
    Leads from level is_loop ls
leads from name [] level is_loop is = absurd cc
leads from name (l ∷ ls) level is_loop is = found (l.may_leave && is_name name l.name) from name l
    ls level is_loop refl (leads (from + 1) name ls level is_loop) is

-- the compound statement or loop that stands there
level-stands : (level : ℕ) (is_loop : Bool) (ls : List Label) (outer : List Outer) →
    outer ≡ map outer_of ls → Leads 0 level is_loop ls
    → slice_get outer level ≡ Some (record { is_loop = is_loop; may_leave = true })
level-stands level is_loop ls outer same (k, l, at, is, leaves, loops) =
    let here : level ≡ k = omega arith in
    ap₂ (λ os n. slice_get os n) same here ∙ slice_get-map outer_of ls k ∙
    ap (option_map outer_of) is ∙ ap₂ (λ b c. Some (record { is_loop = b; may_leave = c }))
    loops leaves

left : (i : Ident) (p : Surroundings) (outer : List Outer) → outer ≡ map outer_of p.labels →
    leave_faults i (label_named i.name p.labels) ≡ [] →
    may_leave outer (level_of (label_named i.name p.labels)) ≡ true
left i p outer same f =
    let (l, is) = there (label_named i.name p.labels)
    (not-false (is_some (label_named i.name p.labels))
    (no_fault (not (is_some (label_named i.name p.labels))) UnknownName i.anchor f)) in
    ap (λ o. may_leave outer (level_of o)) is
    ∙ ap (λ (o : Option Outer). holds o (λ x. x.may_leave))
    (level-stands l.level l.is_loop p.labels outer same
    (leads 0 i.name p.labels l.level l.is_loop is))

pub leave-fits : (i : Ident) → StatementFits (judged_leave i)
leave-fits i p f inner h = leave-layer (level_of (label_named i.name p.labels)) inner ∙
    left i p inner.outer h.outer (front_nil (leave_faults i (label_named i.name p.labels)) [] f)

iterates : (at : Anchor) (i : Ident) (p : Surroundings) (outer : List Outer) →
    outer ≡ map outer_of p.labels → iterate_faults at i (label_named i.name p.labels) ≡ []
    → may_iterate outer (level_of (label_named i.name p.labels)) ≡ true
iterates at i p outer same f =
    let (l, is) = there (label_named i.name p.labels) (known (label_named i.name p.labels) f) in
    let loops : l.is_loop ≡ true = not-false l.is_loop
    (no_fault (not l.is_loop) NotPermitted at (sym (ap (iterate_faults at i) is) ∙ f)) in
    ap (λ o. may_iterate outer (level_of o)) is
    ∙ ap (λ (o : Option Outer). holds o (λ x. x.may_leave && x.is_loop))
    (level-stands l.level l.is_loop p.labels outer same
    (leads 0 i.name p.labels l.level l.is_loop is)) ∙ loops
  where
    known : (o : Option _) → iterate_faults at i o ≡ [] → is_some o ≡ true
    known None g = absurd cc
    known (Some l) g = refl

pub iterate-fits : (at : Anchor) (i : Ident) → StatementFits (judged_iterate at i)
iterate-fits at i p f inner h = iterate-layer (level_of (label_named i.name p.labels)) inner ∙
    iterates at i p inner.outer h.outer (front_nil
    (iterate_faults at i (label_named i.name p.labels)) [] f)

-- ---- RETURN

returned : (e : Expr) (p : Surroundings) (i : Inside) (t : Option SqlType) → i.returns ≡ t →
    Sees (seen_from p) i.around → is_some t ≡ true →
    (value_of_kind (returned_kind t) e p).faults ≡ []
    → return_typed (value_of_kind (returned_kind t) e p).value i ≡ true
returned e p i None is sees s f = absurd cc
returned e p i (Some t) is sees s f =
    let x = (value_of_kind (kind_of_type t) e p).value in
    ap (λ (o : Option SqlType). holds o (λ u. value_of (kind_of_type u) x i.around)) is ∙
    value-typed (kind_of_type t) e p i.around sees f

pub return-fits : (at : Anchor) (e : Expr) → StatementFits (judged_return at e)
return-fits at e p f inner h =
    let x = value_of_kind (returned_kind p.returns) e p in
    let outside = fault_if (not (is_some p.returns)) NotPermitted at in
    return-layer x.value inner
    ∙ returned e p inner p.returns h.returns h.sees
    (not-false (is_some p.returns) (no_fault (not (is_some p.returns)) NotPermitted at
    (front_nil outside x.faults f))) (back_nil outside x.faults f)

-- ---- SIGNAL and RESIGNAL

message-typed : (m : Option Expr) (p : Surroundings) (a : Around) → Sees (seen_from p) a →
    (judged_message m p).faults ≡ [] → if_there Text (judged_message m p).value a ≡ true
message-typed None p a sees f = refl
message-typed (Some e) p a sees f = value-typed Text e p a sees f

pub signal-fits : (s : Signal) → StatementFits
    (λ p. as_value (λ b. bound.Signal b) (judged_signal s p))
signal-fits s p f inner h =
    signal-layer (judged_signal s p).value inner ∙ message-typed s.message p inner.around h.sees
    (back_nil (raised_faults s.value p) (judged_message s.message p).faults f)

pub resignal-fits : (s : Resignal) → StatementFits
    (λ p. as_value (λ b. bound.Resignal b) (judged_resignal s p))
resignal-fits s p f inner h =
    resignal-layer (judged_resignal s p).value inner ∙ message-typed s.message p inner.around h.sees
    (back_nil (again_faults s.value p) (judged_message s.message p).faults f)

-- ---- statements that store, cursors and diagnostics

pub set-fits : (x : Assignment) → StatementFits
    (λ p. as_value (λ b. bound.Set b.target b.value) (judged_set x p))
set-fits x p f inner h = set-layer (judged_set x p).value.target (judged_set x p).value.value
    inner ∙ set-typed x p inner.around h.sees f

pub select-into-fits : (s : SelectInto) → StatementFits
    (λ p. as_value (λ b. bound.SelectInto b.query b.targets) (judged_select_into s p))
select-into-fits s p f inner h = select-into-layer (judged_select_into s p).value.query
    (judged_select_into s p).value.targets inner ∙ select-into-typed s p inner.around h.sees f

pub open-fits : (i : Ident) → StatementFits (judged_open i)
open-fits i p f inner h = open-layer (cursor_slot (cursor_at i p)) inner ∙
    open-typed i p inner.cursors h.held (front_nil (cursor_faults i (cursor_at i p)) [] f)

pub close-fits : (i : Ident) → StatementFits (judged_close i)
close-fits i p f inner h = close-layer (cursor_slot (cursor_at i p)) inner ∙
    open-typed i p inner.cursors h.held (front_nil (cursor_faults i (cursor_at i p)) [] f)

pub fetch-fits : (s : Fetch) → StatementFits (judged_fetch s)
fetch-fits s p f inner h =
    fetch-layer (cursor_slot (cursor_at s.cursor p)) (fetched_targets s p) inner ∙
    fetch-typed s p inner.around inner.cursors h.sees h.held (front_nil (fetched_faults s p) [] f)

pub get-fits : (s : GetDiagnostics) → StatementFits (judged_get s)
get-fits s p f inner h =
    get-diagnostics-layer (diagnostics_of s p) inner ∙
    diagnostics-typed s.information p inner.around h.sees.scopes
    (front_nil (information_faults s.information p) [] f)

-- ---- CALL, and statements that write

pub call-fits : (s : Call) → StatementFits (λ p. as_value (λ b. bound.Call b)
    (judged_call false s p))
call-fits s p f inner h = call-layer (judged_call false s p).value inner ∙
    call-typed false s p inner h f

pub insert-fits : (s : Insert) → StatementFits (inserted s)
insert-fits s p f inner h =
    insert-layer (judged_insert s (seen_from p)).value.insert
    (judged_insert s (seen_from p)).value.listed inner ∙
    insert-typed s (seen_from p) inner.around h.sees f

pub update-fits : (s : Update) → StatementFits (changed s)
update-fits s p f inner h = update-layer (judged_update s (seen_from p)).value inner ∙
    update-typed s (seen_from p) inner.around h.sees f

pub delete-fits : (s : Delete) → StatementFits (removed s)
delete-fits s p f inner h = delete-layer (judged_delete s (seen_from p)).value inner ∙
    delete-typed s (seen_from p) inner.around h.sees f

-- what stands in no routine has a fault
pub misplaced-fits : (at : Anchor) → StatementFits (λ p. misplaced at)
misplaced-fits at p f inner h = absurd cc
