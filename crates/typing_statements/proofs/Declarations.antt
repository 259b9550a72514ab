-- What declarations without faults declare is well typed, in the slots and cursors that they add.
use Rattle.std.proofs.Common.{◌≡◌, refl, sym, ap, ◌∙◌, subst, arith, ◌⊎◌, inl, inr, ℕ, ◌+◌, suc}
use Rattle.std.proofs.Common.{Bool, true, false, not, ◌&&◌, ◌||◌, List, [], ◌∷◌, ◌++◌, map, length}
use Rattle.std.proofs.Common.{replicate, Option, Some, None, append_assoc}
use Rattle.std.specs.Prelude.{nat_eq, slice_get}
use Rattle.std.specs.List.{list_all}
use Rattle.sql_values.specs.declared.value.SqlType.{SqlType}
use Rattle.syntax_trees.specs.declared.anchor.Anchor.{Anchor}
use Rattle.syntax_trees.specs.declared.anchor.Ident.{Ident}
use Rattle.syntax_trees.specs.declared.expr.Expr.{Expr}
use Rattle.statement_trees.specs.declared.condition.ConditionValue.{ConditionValue}
use Rattle.statement_trees.specs.declared.declaration.ConditionDeclaration.{ConditionDeclaration}
use Rattle.statement_trees.specs.declared.declaration.CursorDeclaration.{CursorDeclaration}
use Rattle.statement_trees.specs.declared.declaration.HandlerType.{HandlerType}
use Rattle.statement_trees.specs.declared.declaration.HandlerType.TheVariants as type
use Rattle.statement_trees.specs.declared.declaration.VariableDeclaration.{VariableDeclaration}
use Rattle.bound_trees.specs.declared.expr.BoundExpr.{BoundExpr}
use Rattle.bound_trees.specs.declared.query.BoundQuery.{BoundQuery}
use Rattle.bound_trees.specs.declared.statement.BoundVariables.{BoundVariables}
use Rattle.bind_kinds.specs.declared.kind.Kind.{Kind}
use Rattle.bind_kinds.specs.Kinds.{kind_of_type}
use Rattle.bind_kinds.specs.Types.{type_of, type_faults}
use Rattle.bind_sight.specs.declared.scope.Cursor.{Cursor}
use Rattle.bind_sight.specs.declared.scope.Scope.{Scope}
use Rattle.bind_sight.specs.declared.scope.Variable.{Variable as Held}
use Rattle.bind_queries.proofs.Laws.{front_nil, back_nil}
use Rattle.bind_declarations.specs.declared.declared.Declared.{Declared}
use Rattle.bind_declarations.specs.Declarations.{nothing_declared, after_declared, with_variable}
use Rattle.bind_declarations.specs.Declarations.{with_variables, names_faults, judged_default}
use Rattle.bind_declarations.specs.Declarations.{default_after, with_group, judged_variables}
use Rattle.bind_declarations.specs.Declarations.{judged_condition, cursor_of, with_cursor}
use Rattle.bind_declarations.specs.Declarations.{query_after, again, judged_cursor, type_of_handler}
use Rattle.bind_declarations.specs.Declarations.{value_of, values_faults, judged_after}
use Rattle.bind_declarations.specs.Declarations.{judged_handler}
use Rattle.bind_rules.specs.Targets.{variable_of}
use Rattle.bind_rules.specs.Handlers.{undo_faults}
use Rattle.bind_declarations.specs.Loops.{next_slot, next_cursor, slot_after, cursor_after}
use Rattle.typing_trees.specs.Around.{Around, Slot, stored, with_slots, then, only_if}
use Rattle.typing_trees.specs.Queries.{kinds_of_query}
use Rattle.typing_trees.specs.Statements.{Inside, in_action, with_declared, if_there, declared}
use Rattle.typing_trees.specs.Statements.{each_kinds, handler_typed, undoes, is_typed, handler_of}
use Rattle.typing_queries.proofs.Laws.{AllBelow, HasAll, Sees, ScopeIn, SlotIs, ordered_typed}
use Rattle.bind_simple.specs.Places.{Surroundings, seen_from, with_scope, in_action as in_action_of}
use Rattle.bind_simple.specs.Simple.{Judge}
use Rattle.bind_routines.specs.Statements.{JudgedDeclaration}
use Rattle.typing_statements.proofs.Layers.{handler-layer}
use Rattle.typing_statements.proofs.Lists.{both-true, equals-itself, all-after, map-after}
use Rattle.typing_statements.proofs.Lists.{append-nil, slice-last, slice-either, length-after}
use Rattle.typing_statements.proofs.Lists.{same-some, none-of, no-more}
use Rattle.typing_statements.proofs.Simple.{StatementFits}
use Rattle.typing_statements.proofs.Stands.{CursorsOf, Stands, scope-grown, cursors-of-grown}
use Rattle.typing_statements.proofs.Stands.{sees-scope, stands-in-scope, stands-in-action}
use Rattle.typing_statements.proofs.Values.{value-typed, then-some, then-parts}

-- ---- what is declared

-- the variables so far have these slots after those outside
pub record VariablesDeclared (so : Declared) (i : Inside) (more : List Slot) : Type 0 where
  pub are : declared i.around i.around.slots so.variables ≡ Some (i.around.slots ++ more)
  pub held : ScopeIn so.scope (i.around.slots ++ more)
  pub count : length (i.around.slots ++ more) ≡ slot_after so.scope

-- the cursors so far, where the variables have these slots
pub record CursorsDeclared (so : Declared) (i : Inside) (slots : List Slot) : Type 0 where
  pub kinds : List (List Kind)
  pub are : each_kinds so.cursors (with_slots slots i.around) ≡ Some kinds
  pub held : CursorsOf so.scope (i.cursors ++ kinds)
  pub count : length (i.cursors ++ kinds) ≡ cursor_after so.scope

-- before the first handler: the cursors are the same where variables come after
pub record DeclaredFirst (so : Declared) (i : Inside) : Type 0 where
  pub more : List Slot
  pub variables : VariablesDeclared so i more
  pub first : so.scope.first_cursor ≡ length i.cursors
  pub cursors : (slots : List Slot) → CursorsDeclared so i ((i.around.slots ++ more) ++ slots)
  pub handlers : so.handlers ≡ []

-- then no variable and no cursor comes after, and the handlers see all of them
pub record DeclaredAll (atomic : Bool) (so : Declared) (i : Inside) : Type 0 where
  pub more : List Slot
  pub variables : VariablesDeclared so i more
  pub first : so.scope.first_cursor ≡ length i.cursors
  pub cursors : CursorsDeclared so i (i.around.slots ++ more)
  pub handlers : list_all (handler_typed atomic
      (with_declared (i.around.slots ++ more) (i.cursors ++ cursors.kinds) i))
      (map handler_of so.handlers) ≡ true

abbrev pub FirstFits : JudgedDeclaration → Type 0
FirstFits d = (atomic : Bool) (p : Surroundings) (so : Declared) (i : Inside) → Stands p i →
    (d atomic p so).faults ≡ [] → DeclaredFirst so i → DeclaredFirst (d atomic p so).value i

abbrev pub HandlerFits : JudgedDeclaration → Type 0
HandlerFits d = (atomic : Bool) (p : Surroundings) (so : Declared) (i : Inside) → Stands p i →
    (d atomic p so).faults ≡ [] → DeclaredAll atomic so i →
    DeclaredAll atomic (d atomic p so).value i

-- ---- nothing yet

pub nothing-first : (p : Surroundings) (i : Inside) → Stands p i →
    DeclaredFirst (nothing_declared p) i
nothing-first p i h = record {
  more = [];
  variables = record {
    are = ap (λ z. Some z) (sym (append-nil i.around.slots));
    held = record { as_many = refl; slot = λ place v is. absurd (none-of place v is) };
    count = ap length (append-nil i.around.slots) ∙ h.slots ∙ no-more (next_slot p.scopes);
  };
  first = sym h.cursors;
  cursors = λ slots. record {
    kinds = [];
    are = refl;
    held = record { as_many = refl; slot = λ place c is. absurd (none-of place c is) };
    count = ap length (append-nil i.cursors) ∙ h.cursors ∙ no-more (next_cursor p.scopes);
  };
  handlers = refl;
}

-- where the handlers begin
pub first-all : (atomic : Bool) (so : Declared) (i : Inside) → DeclaredFirst so i →
    DeclaredAll atomic so i
first-all atomic so i h =
    let cursors : CursorsDeclared so i (i.around.slots ++ h.more) =
    subst (CursorsDeclared so i) (append-nil (i.around.slots ++ h.more)) (h.cursors []) in
    record {
      more = h.more;
      variables = h.variables;
      first = h.first;
      cursors = cursors;
      handlers =
          ap (λ hs. list_all (handler_typed atomic
          (with_declared (i.around.slots ++ h.more) (i.cursors ++ cursors.kinds) i))
          (map handler_of hs)) h.handlers;
    }

-- ---- variables

declared-more : (a : Around) (slots out : List Slot) (vs : List BoundVariables) (v : BoundVariables)
    → declared a slots vs ≡ Some out → declared a slots (vs ++ v ∷ []) ≡ declared a out (v ∷ [])
declared-more a slots out [] v p = ap (λ z. declared a z (v ∷ [])) (same-some slots out p)
declared-more a slots out (w ∷ vs) v p = passed
    (nat_eq w.first (length slots) && if_there (kind_of_type w.data_type) w.default
    (with_slots slots a)) p (declared-more a (slots ++ replicate w.count (stored w.data_type)) out
    vs v)
  where
    passed : (b : Bool) → only_if b (declared a (slots ++ replicate w.count (stored w.data_type))
        vs) ≡ Some out
        → (declared a (slots ++ replicate w.count (stored w.data_type)) vs ≡ Some out →
        declared a (slots ++ replicate w.count (stored w.data_type)) (vs ++ v ∷ []) ≡
        declared a out (v ∷ []))
        → only_if b (declared a (slots ++ replicate w.count (stored w.data_type)) (vs ++ v ∷ [])) ≡
        declared a out (v ∷ [])
    passed true q rest = rest q
    passed false q rest = absurd cc

-- one variable more
one-in : (name : List ℕ) (t : SqlType) (s : Scope) (slots : List Slot) → ScopeIn s slots →
    length slots ≡ slot_after s → ScopeIn (with_variable name (variable_of t) s)
    (slots ++ stored t ∷ [])
one-in name t s slots h n = record {
  as_many = length-after s.variables name ∙ ap suc h.as_many ∙
      sym (length-after s.held (variable_of t));
  slot = λ place v is. placed place v (slice-either s.held (variable_of t) place v is);
}
  where
    placed : (place : ℕ) (v : Held) → (slice_get s.held place ≡ Some v) ⊎
        ((place ≡ length s.held) × (v ≡ variable_of t)) →
        SlotIs v (slice_get (slots ++ stored t ∷ []) (s.first + place))
    placed place v (inl old) = (scope-grown s slots (stored t ∷ []) h).slot place v old
    placed place v (inr (last, same)) =
        let at : s.first + place ≡ length slots = omega arith in (
          stored t,
          ap (slice_get (slots ++ stored t ∷ [])) at ∙
              slice-last slots (stored t),
          (
            ap (λ (w : Held). w.data_type) same,
            ap
                (λ (w : Held). w.kind) same,
          ),
        )

one-count : (name : List ℕ) (t : SqlType) (s : Scope) (slots : List Slot) →
    length slots ≡ slot_after s → length (slots ++ stored t ∷ []) ≡ slot_after
    (with_variable name (variable_of t) s)
one-count name t s slots n = let more = length-after slots (stored t) in
    let held = length-after s.held (variable_of t) in omega arith

-- and several
all-in : (names : List Ident) (t : SqlType) (s : Scope) (slots : List Slot) → ScopeIn s slots →
    length slots ≡ slot_after s
    → ScopeIn (with_variables names (variable_of t) s)
    (slots ++ replicate (length names) (stored t)) ×
    (length (slots ++ replicate (length names) (stored t)) ≡ slot_after
    (with_variables names (variable_of t) s))
all-in [] t s slots h n = subst (λ z. ScopeIn s z × (length z ≡ slot_after s))
    (sym (append-nil slots)) (h, n)
all-in (i ∷ is) t s slots h n =
    subst (λ z. ScopeIn (with_variables is (variable_of t) (with_variable i.name (variable_of t) s))
    z × (length z ≡ slot_after (with_variables is (variable_of t)
    (with_variable i.name (variable_of t) s))))
    (append_assoc slots (stored t ∷ []) (replicate (length is) (stored t)))
    (all-in is t (with_variable i.name (variable_of t) s) (slots ++ stored t ∷ [])
    (one-in i.name t s slots h n) (one-count i.name t s slots n))

-- variables leave the cursors as they are
cursors-kept : (names : List Ident) (v : Held) (s : Scope) (cursors : List (List Kind)) →
    CursorsOf s cursors → CursorsOf (with_variables names v s) cursors
cursors-kept [] v s cursors h = h
cursors-kept (i ∷ is) v s cursors h = cursors-kept is v (with_variable i.name v s) cursors
    (record { as_many = h.as_many; slot = h.slot })

first-kept : (names : List Ident) (v : Held) (s : Scope) →
    ((with_variables names v s).first_cursor ≡ s.first_cursor) ×
    (cursor_after (with_variables names v s) ≡ cursor_after s)
first-kept [] v s = (refl, refl)
first-kept (i ∷ is) v s = first-kept is v (with_variable i.name v s)

default-typed : (d : Option Expr) (kind : Kind) (p : Surroundings) (a : Around) →
    Sees (seen_from p) a → (judged_default d kind p).faults ≡ [] →
    if_there kind (judged_default d kind p).value a ≡ true
default-typed None kind p a sees f = refl
default-typed (Some e) kind p a sees f = value-typed kind e p a sees f

group-first : (d : VariableDeclaration) (default : Option BoundExpr) (so : Declared) (i : Inside)
    (h : DeclaredFirst so i)
    → if_there (kind_of_type (type_of d.data_type)) default
    (with_slots (i.around.slots ++ h.more) i.around) ≡ true →
    DeclaredFirst (with_group d so default) i
group-first d default so i h typed =
    let t = type_of d.data_type in
    let slots = i.around.slots ++ h.more in
    let new = replicate (length d.names) (stored t) in
    let v : BoundVariables = record {
      first = slot_after so.scope;
      count = length d.names;
      data_type = t;
      default = default;
    } in
    let joined = append_assoc i.around.slots h.more new in
    let (held, count) = all-in d.names t so.scope slots h.variables.held h.variables.count in
    let kept = first-kept d.names (variable_of t) so.scope in
    let passed : (nat_eq v.first (length slots) && if_there (kind_of_type t) default
    (with_slots slots i.around)) ≡ true =
    both-true (nat_eq v.first (length slots))
    (if_there (kind_of_type t) default (with_slots slots i.around))
    (equals-itself v.first (length slots) (sym h.variables.count)) typed in
    record {
      more = h.more ++ new;
      variables = record {
        are = declared-more i.around i.around.slots slots so.variables v h.variables.are ∙
            ap (λ b. only_if b (Some (slots ++ new))) passed ∙ ap (λ z. Some z) joined;
        held = subst (ScopeIn (with_variables d.names (variable_of t) so.scope)) joined held;
        count = sym (ap length joined) ∙ count;
      };
      first = kept.0 ∙ h.first;
      cursors = λ after.
          (let c = h.cursors (new ++ after) in
          let same : slots ++ (new ++ after) ≡ (i.around.slots ++ (h.more ++ new)) ++ after =
          sym (append_assoc slots new after) ∙ ap (λ z. z ++ after) joined in
          record {
            kinds = c.kinds;
            are = subst (λ z. each_kinds so.cursors (with_slots z i.around) ≡ Some c.kinds) same
                c.are;
            held = cursors-kept d.names (variable_of t) so.scope (i.cursors ++ c.kinds) c.held;
            count = c.count ∙ sym kept.1;
          });
      handlers = h.handlers;
    }

pub variables-fit : (d : VariableDeclaration) → FirstFits (λ atomic p so. judged_variables d p so)
variables-fit d atomic p so i stands f h =
    let default = default_after d so.scope p in
    let names = names_faults d.names (variable_of (type_of d.data_type)) so.scope in
    let free : default.faults ≡ [] = front_nil default.faults names
    (back_nil (type_faults d.data_type) (default.faults ++ names) f) in
    group-first d default.value so i h
    (default-typed d.default (kind_of_type (type_of d.data_type)) (with_scope so.scope p)
    (with_slots (i.around.slots ++ h.more) i.around)
    (sees-scope so.scope p i.around h.more stands.sees h.variables.held) free)

-- ---- conditions

pub condition-fits : (d : ConditionDeclaration) → FirstFits (λ atomic p so. judged_condition d so)
condition-fits d atomic p so i stands f h = record {
  more = h.more;
  variables = record {
    are = h.variables.are;
    held =
        record { as_many = h.variables.held.as_many; slot = h.variables.held.slot };
    count =
        h.variables.count;
  };
  first = h.first;
  cursors = λ slots. (let c = h.cursors slots in
      record {
        kinds = c.kinds;
        are = c.are;
        held =
            record { as_many = c.held.as_many; slot = c.held.slot };
        count = c.count;
      });
  handlers = h.handlers;
}

-- ---- cursors

each-more : (qs : List BoundQuery) (q : BoundQuery) (a : Around) (kss : List (List Kind))
    (ks : List Kind) → each_kinds qs a ≡ Some kss → kinds_of_query q a ≡ Some ks
    → each_kinds (qs ++ q ∷ []) a ≡ Some (kss ++ ks ∷ [])
each-more [] q a kss ks p is =
    let none : [] ≡ kss = same-some [] kss p in
    then-some (kinds_of_query q a) (λ zs. Some (zs ∷ [])) ks (Some (kss ++ ks ∷ [])) is
    (ap (λ (z : List (List Kind)). Some (z ++ ks ∷ [])) none)
each-more (r ∷ qs) q a kss ks p is =
    let front = then-parts (kinds_of_query r a)
    (λ zs. then (each_kinds qs a) (λ zss. Some (zs ∷ zss))) kss p in
    let back = then-parts (each_kinds qs a) (λ zss. Some (front.0 ∷ zss)) kss front.2 in
    then-some (kinds_of_query r a) (λ zs. then (each_kinds (qs ++ q ∷ []) a)
    (λ zss. Some (zs ∷ zss))) front.0 (Some (kss ++ ks ∷ [])) front.1
    (then-some (each_kinds (qs ++ q ∷ []) a) (λ zss. Some (front.0 ∷ zss)) (back.0 ++ ks ∷ [])
    (Some (kss ++ ks ∷ [])) (each-more qs q a back.0 ks back.1 is)
    (ap (λ (z : List (List Kind)). Some (z ++ ks ∷ [])) (same-some (front.0 ∷ back.0) kss back.2)))

-- one cursor more
cursor-in : (name : List ℕ) (c : Cursor) (s : Scope) (cursors : List (List Kind)) (ks : List Kind) →
    CursorsOf s cursors → length cursors ≡ cursor_after s → AllBelow ks c.kinds
    → CursorsOf (with_cursor name c s) (cursors ++ ks ∷ [])
cursor-in name c s cursors ks h n below = record {
  as_many = length-after s.cursors name ∙ ap suc h.as_many ∙ sym (length-after s.columns c);
  slot = λ place d is. placed place d (slice-either s.columns c place d is);
}
  where
    placed : (place : ℕ) (d : Cursor) → (slice_get s.columns place ≡ Some d) ⊎
        ((place ≡ length s.columns) × (d ≡ c)) →
        HasAll (slice_get (cursors ++ ks ∷ []) (s.first_cursor + place)) d.kinds
    placed place d (inl old) = (cursors-of-grown s cursors (ks ∷ []) h).slot place d old
    placed place d (inr (last, same)) =
        let at : s.first_cursor + place ≡ length cursors = omega arith in (
          ks,
          ap (slice_get (cursors ++ ks ∷ [])) at ∙
              slice-last cursors ks,
          subst (λ (z : Cursor). AllBelow ks z.kinds) (sym same) below,
        )

pub cursor-fits : (d : CursorDeclaration) → FirstFits (λ atomic p so. judged_cursor d p so)
cursor-fits d atomic p so i stands f h =
    let q = query_after d.query so.scope p in
    let free : q.faults ≡ [] = front_nil q.faults (again d.name so.scope) f in
    record {
      more = h.more;
      variables = record {
        are = h.variables.are;
        held =
            record { as_many = h.variables.held.as_many; slot = h.variables.held.slot };
        count =
            h.variables.count;
      };
      first = h.first;
      cursors = λ slots.
          (let c = h.cursors slots in
          let a = with_slots ((i.around.slots ++ h.more) ++ slots) i.around in
          let joined = append_assoc i.around.slots h.more slots in
          let sees : Sees (seen_from (with_scope so.scope p)) a =
          subst (λ z. Sees (seen_from (with_scope so.scope p)) (with_slots z i.around)) (sym joined)
          (sees-scope so.scope p i.around (h.more ++ slots) stands.sees
          (subst (ScopeIn so.scope) joined
          (scope-grown so.scope (i.around.slots ++ h.more) slots h.variables.held))) in
          let (ks, is, below) = ordered_typed d.query (seen_from (with_scope so.scope p)) a sees
          free in
          let more = append_assoc i.cursors c.kinds (ks ∷ []) in
          let long = length-after (i.cursors ++ c.kinds) ks in
          let wide = length-after so.scope.columns (cursor_of q.value) in
          let count : length ((i.cursors ++ c.kinds) ++ ks ∷ []) ≡ so.scope.first_cursor + length
          (so.scope.columns ++ cursor_of q.value ∷ []) = omega (arith, c.count, long, wide) in
          record {
            kinds = c.kinds ++ ks ∷ [];
            are = each-more so.cursors q.value.tree a c.kinds ks c.are is;
            held = subst (CursorsOf (with_cursor d.name.name (cursor_of q.value) so.scope)) more
                (cursor-in d.name.name (cursor_of q.value) so.scope (i.cursors ++ c.kinds) ks c.held
                c.count below);
            count = sym (ap length more) ∙ count;
          });
      handlers = h.handlers;
    }

-- ---- handlers

undoes-in : (handler : HandlerType) (atomic : Bool) (at : Anchor) →
    undo_faults at handler atomic ≡ [] → (atomic || not (undoes (type_of_handler handler))) ≡ true
undoes-in type.Continue true at f = refl
undoes-in type.Continue false at f = refl
undoes-in type.Exit true at f = refl
undoes-in type.Exit false at f = refl
undoes-in type.Undo true at f = refl
undoes-in type.Undo false at f = absurd cc

-- what is declared stands where the statements do
pub stands-declared : (atomic : Bool) (p : Surroundings) (so : Declared) (i : Inside) → Stands p i →
    (h : DeclaredAll atomic so i)
    → Stands (after_declared so p) (with_declared (i.around.slots ++ h.more)
    (i.cursors ++ h.cursors.kinds) i)
stands-declared atomic p so i stands h = stands-in-scope so.scope p i h.more h.cursors.kinds stands
    h.variables.held h.variables.count h.cursors.held h.cursors.count

pub handler-fits : (at : Anchor) (handler : HandlerType) (values : List ConditionValue)
    (action : Judge) → StatementFits action →
    HandlerFits (λ atomic p so. judged_handler at handler values action atomic p so)
handler-fits at handler values action fits atomic p so i stands f h =
    let here = after_declared so p in
    let inside = with_declared (i.around.slots ++ h.more) (i.cursors ++ h.cursors.kinds) i in
    let b = judged_after handler values action so.handlers here in
    let undo = undo_faults at handler atomic in
    let rest = values_faults here so.handlers values in
    let body = action (in_action_of here) in
    let typed : is_typed body.value (in_action inside) ≡ true =
    fits (in_action_of here) (back_nil rest body.faults (back_nil undo b.faults f))
    (in_action inside) (stands-in-action here inside (stands-declared atomic p so i stands h))
    in
    let layer = handler-layer (type_of_handler handler) (map (value_of here) values) body.value in
    let one : handler_typed atomic inside (handler_of b.value) ≡ true =
    ap (handler_typed atomic inside) layer
    ∙ both-true (atomic || not (undoes (type_of_handler handler)))
    (is_typed body.value (in_action inside))
    (undoes-in handler atomic at (front_nil undo b.faults f)) typed in
    record {
      more = h.more;
      variables = record {
        are = h.variables.are;
        held = h.variables.held;
        count =
            h.variables.count;
      };
      first = h.first;
      cursors = record {
        kinds = h.cursors.kinds;
        are = h.cursors.are;
        held = h.cursors.held;
        count = h.cursors.count;
      };
      handlers = ap (list_all (handler_typed atomic inside))
          (map-after handler_of so.handlers b.value) ∙ all-after (handler_typed atomic inside)
          (map handler_of so.handlers) (handler_of b.value) h.handlers one;
    }
