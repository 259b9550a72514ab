-- What a name stands for is well typed where it is in sight.
use Rattle.std.proofs.Common.{◌≡◌, refl, sym, ap, subst, ◌∙◌, arith, inl, ℕ, suc, ◌+◌, ◌<◌, Bool}
use Rattle.std.proofs.Common.{true, false, cond, List, [], ◌∷◌, length, position, option_map}
use Rattle.std.proofs.Common.{Option, Some, None, zero-add}
use Rattle.std.specs.List.{list_any}
use Rattle.std.specs.Str.{bytes_eq}
use Rattle.std.proofs.lemmas.Option.{slice_get-get_or}
use Rattle.syntax_trees.specs.Columns.{anchor_of_column}
use Rattle.syntax_trees.specs.declared.anchor.Anchor.{Anchor}
use Rattle.syntax_trees.specs.declared.anchor.ColumnName.{ColumnName}
use Rattle.syntax_trees.specs.declared.anchor.Ident.{Ident}
use Rattle.sql_values.specs.declared.value.Value.TheVariants as value
use Rattle.bind_kinds.specs.declared.kind.Kind.{Kind}
use Rattle.bind_sight.specs.declared.item.Item.{Item}
use Rattle.bind_sight.specs.declared.key.GroupingKey.{GroupingKey}
use Rattle.bind_sight.specs.declared.output.Hit.{Hit}
use Rattle.bind_sight.specs.declared.output.Hit.TheVariants.{Nowhere, Once, Twice}
use Rattle.bind_sight.specs.declared.scope.Scope.{Scope}
use Rattle.bind_sight.specs.declared.scope.Variable.{Variable as Held}
use Rattle.bind_sight.specs.declared.sight.Referent.{Referent}
use Rattle.bind_sight.specs.declared.sight.Referent.TheVariants.{Column, Guessed, Variable, Barred}
use Rattle.bind_sight.specs.declared.sight.Referent.TheVariants.{Several, Unknown}
use Rattle.bind_sight.specs.Index.{place_of, one_further}
use Rattle.bind_sight.specs.Scopes.{variable_named, variable_in, variable_at, loop_variable}
use Rattle.bind_sight.specs.Scopes.{held_at, no_variable, is_loop, or_else}
use Rattle.bind_sight.specs.Sight.{Level, Seen, stands_for, outwards, guess, guess_or, guess_of}
use Rattle.bind_sight.specs.Sight.{is_guess, unknown_item, found_or, found_variable, variable_by}
use Rattle.bind_sight.specs.Sight.{variable, column_of, among_keys, among, is_own, hides}
use Rattle.bind_parts.specs.Typed.{named}
use Rattle.std.specs.Prelude.{slice_get}
use Rattle.typing_trees.specs.Around.{Around, Slot, stored, read, kind_at, kind_in_slot}
use Rattle.typing_trees.specs.Around.{kind_of_slot, then}
use Rattle.typing_queries.proofs.Below.{Below, Has}
use Rattle.typing_queries.proofs.Hits.{HitIs, EachOf, among-is}
use Rattle.typing_queries.proofs.Layers.{literal-kind, column-kind, variable-kind}
use Rattle.typing_queries.proofs.Sees.{Sees, ScopesIn, ScopeIn, SlotIs, SlotOf, ColumnIn, ItemsIn}
use Rattle.typing_queries.proofs.Sees.{LevelsIn}
use Rattle.typing_queries.proofs.Shapes.{IsTyped}

-- ---- what is found

-- a column stands in its row, and a variable in its slot
abbrev pub FoundIn : Around → Referent → Type 0
FoundIn a (Column level place kind) = Has (kind_at a.rows level place) kind
FoundIn a (Guessed level item) = Unit {0}
FoundIn a (Variable place kind) = Has (kind_in_slot a.slots place) kind
FoundIn a Barred = Unit {0}
FoundIn a Several = Unit {0}
FoundIn a Unknown = Unit {0}

pub found-typed : (at : Anchor) (found : Referent) (a : Around) → FoundIn a found →
    (named at found).faults ≡ [] → IsTyped (named at found).value a
found-typed at (Column level place kind) a f p = (f.0, column-kind level place a ∙ f.1, f.2)
found-typed at (Guessed level item) a f p = (_, literal-kind value.Null a, inl refl)
found-typed at (Variable place kind) a f p = (f.0, variable-kind place a ∙ f.1, f.2)
found-typed at Barred a f p = absurd cc
found-typed at Several a f p = absurd cc
found-typed at Unknown a f p = absurd cc

-- ---- variables

place-within : (name : List ℕ) (names : List (List ℕ)) (place : ℕ) →
    place_of name names ≡ Some place → place < length names
place-within name [] place is = absurd cc
place-within name (n ∷ ns) place is = by (bytes_eq name n) (place_of name ns) (place-within name ns)
    is
  where
    by : (b : Bool) (o : Option ℕ) → ((q : ℕ) → o ≡ Some q → q < length ns) →
        cond b (Some 0) (one_further o) ≡ Some place → place < suc (length ns)
    by true o below e = let z : 0 ≡ place = cc in omega arith
    by false None below e = absurd cc
    by false (Some q) below e = let z : suc q ≡ place = cc in
        let l : q < length ns = below q refl in omega arith

-- the variable at a place
at-place : (s : Scope) (slots : List Slot) (o : Option ℕ) (v : ℕ × Held)
    → ScopeIn s slots → ((place : ℕ) → o ≡ Some place → place < length s.variables) →
    variable_at s o ≡ Some v → SlotIs v.1 (slice_get slots v.0)
at-place s slots None v in-slots within is = absurd cc
at-place s slots (Some place) v in-slots within is =
    let l : place < length s.variables = within place refl in
    let m : length s.variables ≡ length s.held = in-slots.as_many in
    let e : (s.first + place, held_at s.held place) ≡ v = cc in
    subst (λ (w : ℕ × Held). SlotIs w.1 (slice_get slots w.0)) e
    (in-slots.slot place (held_at s.held place)
    (slice_get-get_or s.held place no_variable (omega arith)))

variable-in : (name : List ℕ) (s : Scope) (slots : List Slot) (v : ℕ × Held) → ScopeIn s slots →
    variable_in name s ≡ Some v → SlotIs v.1 (slice_get slots v.0)
variable-in name s slots v in-slots is = at-place s slots (place_of name s.variables) v in-slots
    (place-within name s.variables) is

-- a variable has its slot
pub variable-slot : (name : List ℕ) (ss : List Scope) (slots : List Slot) (v : ℕ × Held) →
    ScopesIn ss slots → variable_named name ss ≡ Some v → SlotIs v.1 (slice_get slots v.0)
variable-slot name [] slots v in-slots is = absurd cc
variable-slot name (s ∷ ss) slots v in-slots is = by (variable_in name s) (variable_named name ss)
    (variable-in name s slots v in-slots.0) (variable-slot name ss slots v in-slots.1) is
  where
    by : (o other : Option (ℕ × Held))
        → (o ≡ Some v → SlotIs v.1 (slice_get slots v.0)) →
        (other ≡ Some v → SlotIs v.1 (slice_get slots v.0)) → or_else o other ≡ Some v →
        SlotIs v.1 (slice_get slots v.0)
    by None other f g e = g e
    by (Some w) other f g e = f e

-- and so has a column of a FOR loop
pub loop_variable-slot : (q : List ℕ) (name : List ℕ) (ss : List Scope) (slots : List Slot)
    (v : ℕ × Held) → ScopesIn ss slots → loop_variable q name ss ≡ Some v →
    SlotIs v.1 (slice_get slots v.0)
loop_variable-slot q name [] slots v in-slots is = absurd cc
loop_variable-slot q name (s ∷ ss) slots v in-slots is =
    by (is_loop q s.loop_name) (loop_variable-slot q name ss slots v in-slots.1) is
  where
    by : (b : Bool) → (loop_variable q name ss ≡ Some v → SlotIs v.1 (slice_get slots v.0)) →
        cond b (variable_in name s) (loop_variable q name ss) ≡ Some v →
        SlotIs v.1 (slice_get slots v.0)
    by true others e = variable-in name s slots v in-slots.0 e
    by false others e = others e

variable_by-slot : (q : Option Ident) (name : List ℕ) (ss : List Scope) (slots : List Slot)
    (v : ℕ × Held) → ScopesIn ss slots → variable_by q name ss ≡ Some v →
    SlotIs v.1 (slice_get slots v.0)
variable_by-slot None name ss slots v in-slots is = variable-slot name ss slots v in-slots is
variable_by-slot (Some q) name ss slots v in-slots is =
    loop_variable-slot q.name name ss slots v in-slots is

-- what a slot holds is of the variable's kind
pub slot-kind : (v : Held) (x : Slot) → SlotOf v x → Below (kind_of_slot x) v.kind
slot-kind v (stored t) is = inl (sym is.1)
slot-kind v (read k) is = is.1

pub slot-has : (v : Held) (slots : List Slot) (slot : ℕ) → SlotIs v (slice_get slots slot) →
    Has (kind_in_slot slots slot) v.kind
slot-has v slots slot is = (
  kind_of_slot is.0,
  ap (option_map kind_of_slot) is.1,
  slot-kind v is.0
      is.2,
)

variable-found : (o : Option (ℕ × Held)) (a : Around) →
    ((v : ℕ × Held) → o ≡ Some v → SlotIs v.1 (slice_get a.slots v.0)) →
    FoundIn a (found_variable o)
variable-found None a f = tt
variable-found (Some v) a f = slot-has v.1 a.slots v.0 (f v refl)

-- ---- columns

-- a column of a row that stands outwards
among-keys : (a : Around) (row : List Kind) (level : ℕ) (kind : Kind) (o : Option ℕ) →
    slice_get a.rows level ≡ Some row → ColumnIn row (among_keys 0 kind o) →
    FoundIn a (among_keys level kind o)
among-keys a row level kind None at c = tt
among-keys a row level kind (Some place) at c =
    (c.0, ap (λ r. then r (λ (w : List Kind). slice_get w place)) at ∙ c.1, c.2)

pub column-found : (a : Around) (row : List Kind) (level place : ℕ) (kind : Kind) (grouped : Bool)
    (keys : List GroupingKey) → slice_get a.rows level ≡ Some row
    → ColumnIn row (column_of 0 place kind grouped keys) →
    FoundIn a (column_of level place kind grouped keys)
column-found a row level place kind false keys at c =
    (c.0, ap (λ r. then r (λ (w : List Kind). slice_get w place)) at ∙ c.1, c.2)
column-found a row level place kind true keys at c =
    among-keys a row level kind (position (is_own place) keys) at c

-- the columns of items are columns of their level
abbrev pub Stands : Level → List Kind → ℕ → Kind → Type 0
Stands l row place kind = ColumnIn row (column_of 0 place kind l.grouped l.keys)

each-of : (l : Level) (row : List Kind) (is : List Item) → ItemsIn l row is →
    EachOf (Stands l row) l.base is
each-of l row [] h = tt
each-of l row (i ∷ is) h = (h.0, each-of l row is h.1)

found-or : (a : Around) (row : List Kind) (level : ℕ) (l : Level) (hit : Hit) (other : Referent)
    → slice_get a.rows level ≡ Some row → HitIs (Stands l row) hit → FoundIn a other →
    FoundIn a (found_or level l hit other)
found-or a row level l Nowhere other at h f = f
found-or a row level l (Once place kind) other at h f =
    column-found a row level place kind l.grouped l.keys at h
found-or a row level l Twice other at h f = tt

if-found : (a : Around) (b : Bool) (x y : Referent) → FoundIn a x → FoundIn a y →
    FoundIn a (cond b x y)
if-found a true x y p q = p
if-found a false x y p q = q

-- the rows from a level outwards
abbrev From : List (List Kind) → ℕ → List (List Kind) → Type 0
From rows level rs = (i : ℕ) → slice_get rows (level + i) ≡ slice_get rs i

from-here : (rows : List (List Kind)) (level : ℕ) (r : List Kind) (rs : List (List Kind)) →
    From rows level (r ∷ rs) → slice_get rows level ≡ Some r
from-here rows level r rs from = let e : level ≡ level + 0 = omega arith in ap (slice_get rows) e ∙
    from 0

from-next : (rows : List (List Kind)) (level : ℕ) (r : List Kind) (rs : List (List Kind)) →
    From rows level (r ∷ rs) → From rows (level + 1) rs
from-next rows level r rs from i = let e : level + 1 + i ≡ level + suc i = omega arith in
    ap (slice_get rows) e ∙ from (suc i)

outwards-found : (c : ColumnName) (a : Around) (level : ℕ) (ls : List Level) (rs : List (List Kind))
    (other : Referent)
    → LevelsIn ls rs → From a.rows level rs → FoundIn a other →
    FoundIn a (outwards c level ls other)
outwards-found c a level [] rs other in-rows from f = f
outwards-found c a level (l ∷ ls) [] other in-rows from f = absurd in-rows
outwards-found c a level (l ∷ ls) (r ∷ rs) other in-rows from f =
    found-or a r level l (among c l.base l.items)
    (cond (hides c.qualifier l.items) Unknown (outwards c (level + 1) ls other))
    (from-here a.rows level r rs from) (among-is (Stands l r) c l.base l.items
    (each-of l r l.items in-rows.0))
    (if-found a (hides c.qualifier l.items) Unknown (outwards c (level + 1) ls other) tt
    (outwards-found c a (level + 1) ls rs other in-rows.1 (from-next a.rows level r rs from) f))

-- of items that are not known nothing is claimed
guess-of : (a : Around) (level item : ℕ) (name : List ℕ) (grouped : Bool)
    (keys : List GroupingKey) → FoundIn a (guess_of level item name grouped keys)
guess-of a level item name false keys = tt
guess-of a level item name true keys = if-found a (list_any (is_guess item name) keys)
    (Guessed level item) Barred tt tt

guess-or : (a : Around) (level : ℕ) (c : ColumnName) (l : Level) (o : Option ℕ) (other : Referent) →
    FoundIn a other → FoundIn a (guess_or level c l o other)
guess-or a level c l None other f = f
guess-or a level c l (Some item) other f = guess-of a level item c.name.name l.grouped l.keys

guess-found : (c : ColumnName) (a : Around) (level : ℕ) (ls : List Level) (other : Referent) →
    FoundIn a other → FoundIn a (guess c level ls other)
guess-found c a level [] other f = f
guess-found c a level (l ∷ ls) other f = guess-or a level c l (unknown_item c.qualifier l.items)
    (guess c (level + 1) ls other) (guess-found c a (level + 1) ls other f)

-- ---- names

pub name-found : (c : ColumnName) (s : Seen) (a : Around) → Sees s a → FoundIn a (stands_for c s)
name-found c s a sees =
    outwards-found c a 0 s.levels a.rows (guess c 0 s.levels (variable c s.scopes)) sees.levels
    (λ i. ap (slice_get a.rows) (zero-add i))
    (guess-found c a 0 s.levels (variable c s.scopes)
    (variable-found (variable_by c.qualifier c.name.name s.scopes) a
    (λ v is. variable_by-slot c.qualifier c.name.name s.scopes a.slots v sees.scopes is)))

pub name-typed : (c : ColumnName) (s : Seen) (a : Around) → Sees s a →
    (named (anchor_of_column c) (stands_for c s)).faults ≡ [] →
    IsTyped (named (anchor_of_column c) (stands_for c s)).value a
name-typed c s a sees p = found-typed (anchor_of_column c) (stands_for c s) a
    (name-found c s a sees) p
