-- When what stands around a bound statement has what is in sight where it is bound, and how that
-- goes along into what stands inside.
use Rattle.std.proofs.Common.{◌≡◌, refl, ap, ◌∙◌, ℕ, ◌+◌, true, false, List, [], ◌∷◌, ◌++◌, map}
use Rattle.std.proofs.Common.{length, Option, Some}
use Rattle.std.specs.Prelude.{slice_get}
use Rattle.syntax_trees.specs.declared.anchor.Ident.{Ident}
use Rattle.bind_kinds.specs.declared.kind.Kind.{Kind}
use Rattle.bind_sight.specs.declared.scope.Cursor.{Cursor}
use Rattle.bind_sight.specs.declared.scope.Scope.{Scope}
use Rattle.bind_sight.specs.declared.scope.Variable.{Variable as Held}
use Rattle.typing_trees.specs.Around.{Around, Slot, with_slots}
use Rattle.typing_trees.specs.Statements.{Inside, Outer, in_loop, in_block, in_action}
use Rattle.typing_trees.specs.Statements.{with_declared, barred}
use Rattle.typing_queries.proofs.Laws.{HasAll, Sees, ScopeIn, ScopesIn, SlotIs}
use Rattle.bind_simple.specs.Calls.{procedure_named}
use Rattle.bind_rules.specs.Labels.{Label, barred as barred_labels}
use Rattle.bind_simple.specs.Places.{Surroundings, seen_from, within, with_scope}
use Rattle.bind_simple.specs.Places.{in_action as in_action_of}
use Rattle.bind_declarations.specs.Loops.{next_slot, next_cursor, slot_after, cursor_after}
use Rattle.typing_statements.proofs.Lists.{slice-front}

-- ---- cursors

-- each cursor of a scope has its slot, where its columns are of the kinds that are known, and there
-- are as many as names
pub record CursorsOf (s : Scope) (cursors : List (List Kind)) : Type 0 where
  pub as_many : length s.cursors ≡ length s.columns
  pub slot : (place : ℕ) (c : Cursor) → slice_get s.columns place ≡ Some c →
      HasAll (slice_get cursors (s.first_cursor + place)) c.kinds

abbrev pub CursorsIn : List Scope → List (List Kind) → Type 0
CursorsIn [] cursors = Unit {0}
CursorsIn (s ∷ ss) cursors = CursorsOf s cursors × CursorsIn ss cursors

-- ---- places

abbrev pub outer_of : Label → Outer
outer_of l = record { is_loop = l.is_loop; may_leave = l.may_leave }

pub record Stands (p : Surroundings) (i : Inside) : Type 0 where
  pub sees : Sees (seen_from p) i.around
  pub slots : length i.around.slots ≡ next_slot p.scopes
  pub held : CursorsIn p.scopes i.cursors
  pub cursors : length i.cursors ≡ next_cursor p.scopes
  pub outer : i.outer ≡ map outer_of p.labels
  pub returns : i.returns ≡ p.returns
  pub procedures : (name : List ℕ) → i.procedures name ≡ procedure_named name p

-- ---- what grows

slot-grown : (v : Held) (slots more : List Slot) (n : ℕ) → SlotIs v (slice_get slots n) →
    SlotIs v (slice_get (slots ++ more) n)
slot-grown v slots more n (x, is, of) = (x, slice-front slots more n x is, of)

pub scope-grown : (s : Scope) (slots more : List Slot) → ScopeIn s slots → ScopeIn s (slots ++ more)
scope-grown s slots more h = record {
  as_many = h.as_many;
  slot =
      λ place v is. slot-grown v slots more (s.first + place) (h.slot place v is);
}

pub scopes-grown : (ss : List Scope) (slots more : List Slot) → ScopesIn ss slots →
    ScopesIn ss (slots ++ more)
scopes-grown [] slots more h = tt
scopes-grown (s ∷ ss) slots more h = (scope-grown s slots more h.0, scopes-grown ss slots more h.1)

cursor-grown : (ks : List Kind) (cursors more : List (List Kind)) (n : ℕ) →
    HasAll (slice_get cursors n) ks → HasAll (slice_get (cursors ++ more) n) ks
cursor-grown ks cursors more n (js, is, below) = (js, slice-front cursors more n js is, below)

pub cursors-of-grown : (s : Scope) (cursors more : List (List Kind)) → CursorsOf s cursors →
    CursorsOf s (cursors ++ more)
cursors-of-grown s cursors more h = record {
  as_many = h.as_many;
  slot =
      λ place c is. cursor-grown c.kinds cursors more (s.first_cursor + place) (h.slot place c is);
}

pub cursors-grown : (ss : List Scope) (cursors more : List (List Kind)) → CursorsIn ss cursors →
    CursorsIn ss (cursors ++ more)
cursors-grown [] cursors more h = tt
cursors-grown (s ∷ ss) cursors more h = (
  cursors-of-grown s cursors more h.0,
  cursors-grown ss
      cursors more h.1,
)

-- ---- inside

-- an expression sees a scope more, where the slots are more
pub sees-scope : (s : Scope) (p : Surroundings) (a : Around) (more : List Slot) →
    Sees (seen_from p) a → ScopeIn s (a.slots ++ more) →
    Sees (seen_from (with_scope s p)) (with_slots (a.slots ++ more) a)
sees-scope s p a more sees h =
    record {
      levels = sees.levels;
      scopes = (h, scopes-grown p.scopes a.slots more sees.scopes);
      tables = sees.tables;
      functions = sees.functions;
    }

pub stands-in-scope : (s : Scope) (p : Surroundings) (i : Inside) (slots : List Slot)
    (cursors : List (List Kind)) → Stands p i
    → ScopeIn s (i.around.slots ++ slots) → length (i.around.slots ++ slots) ≡ slot_after s →
    CursorsOf s (i.cursors ++ cursors) → length (i.cursors ++ cursors) ≡ cursor_after s
    → Stands (with_scope s p) (with_declared (i.around.slots ++ slots) (i.cursors ++ cursors) i)
stands-in-scope s p i slots cursors h in-slots many in-cursors count = record {
  sees = sees-scope s p i.around slots h.sees in-slots;
  slots = many;
  held = (in-cursors, cursors-grown p.scopes i.cursors cursors h.held);
  cursors = count;
  outer = h.outer;
  returns = h.returns;
  procedures = h.procedures;
}

pub stands-in-loop : (name : Option Ident) (p : Surroundings) (i : Inside) → Stands p i →
    Stands (within (record { name = name; is_loop = true; may_leave = true }) p) (in_loop i)
stands-in-loop name p i h = record {
  sees = record {
    levels = h.sees.levels;
    scopes = h.sees.scopes;
    tables = h.sees.tables;
    functions = h.sees.functions;
  };
  slots = h.slots;
  held = h.held;
  cursors = h.cursors;
  outer = ap (λ os. record { is_loop = true; may_leave = true } ∷ os) h.outer;
  returns = h.returns;
  procedures = h.procedures;
}

pub stands-in-block : (name : Option Ident) (p : Surroundings) (i : Inside) → Stands p i →
    Stands (within (record { name = name; is_loop = false; may_leave = true }) p) (in_block i)
stands-in-block name p i h = record {
  sees = record {
    levels = h.sees.levels;
    scopes = h.sees.scopes;
    tables = h.sees.tables;
    functions = h.sees.functions;
  };
  slots = h.slots;
  held = h.held;
  cursors = h.cursors;
  outer = ap (λ os. record { is_loop = false; may_leave = true } ∷ os) h.outer;
  returns = h.returns;
  procedures = h.procedures;
}

barred-alike : (ls : List Label) → barred (map outer_of ls) ≡ map outer_of (barred_labels ls)
barred-alike [] = refl
barred-alike (l ∷ ls) = refl

pub stands-in-action : (p : Surroundings) (i : Inside) → Stands p i →
    Stands (in_action_of p) (in_action i)
stands-in-action p i h = record {
  sees = record {
    levels = h.sees.levels;
    scopes = h.sees.scopes;
    tables = h.sees.tables;
    functions = h.sees.functions;
  };
  slots = h.slots;
  held = h.held;
  cursors = h.cursors;
  outer = ap barred h.outer ∙ barred-alike p.labels;
  returns = h.returns;
  procedures = h.procedures;
}
