-- What is kept beside the entries, as one comes and as one goes.
use Rattle.std.proofs.Common.{◌≡◌, ℕ, ◌+◌, ◌-◌, ◌||◌, ◌&&◌, not, Bool, true, false, cond, List}
use Rattle.std.proofs.Common.{[], ◌∷◌, ◌++◌, length, filter, option_map, Option, Some, None, refl}
use Rattle.std.proofs.Common.{sym, ap, ◌∙◌, subst, arith, is_some, true≢false}
use Rattle.std.proofs.Common.{nat_cmp}
use Rattle.std.specs.BTreeMap.{insert_entry, is_at}
use Rattle.std.specs.List.{list_any}
use Rattle.std.specs.List.Sorted.{IsStrictlySortedBy}
use Rattle.std.specs.Map.{keys_of, lookup, remove_entry}
use Rattle.std.specs.Str.{bytes_eq}
use Rattle.catalog_store.specs.declared.entry.Object.{Object as HeldObject}
use Rattle.catalog_store.specs.declared.numbered.Numbered.{Numbered}
use Rattle.catalog_store.specs.declared.numbered.Entries.{Entries}
use Rattle.catalog_store.specs.Using.{Held, entry_uses, has_user, held_user, other_use, uses_of}
use Rattle.catalog_store.specs.Holding.{Awaits, Climb, Holds, held, held_of, numbers_of}
use Rattle.catalog_store.proofs.Named.{same_bytes}
use Rattle.catalog_store.proofs.Numbering.{climbed, climbs_left, climbs_on, held_put, held_removed}
use Rattle.catalog_store.proofs.Numbering.{mentioned, named_left, named_put, entry_put}
use Rattle.catalog_store.proofs.Numbering.{number_missing, numbers_distinct, object_found}
use Rattle.catalog_store.proofs.Numbering.{object_missing, unused_gone, used_again, used_back}
use Rattle.catalog_store.proofs.Numbering.{used_left, used_put, sorted_none, none_cut}

abbrev Numbers : Type 0
Numbers = List (List ℕ × ℕ)

abbrev Sets : Type 0
Sets = List (List ℕ × List (List ℕ))

-- the numbers without that of a name
abbrev NumberLess : List ℕ → Numbers → Numbers → Type 0
NumberLess name old new = (other : List ℕ) → lookup (bytes_eq other) new ≡ cond
    (bytes_eq name other) None (lookup (bytes_eq other) old)

-- the users without one of several names
abbrev UsesLess : List ℕ → List (List ℕ) → Sets → Sets → Type 0
UsesLess user uses old new = (name other : List ℕ) → has_user name other new ≡
    (has_user name other old && not (bytes_eq user other && list_any (λ used. bytes_eq used name)
    uses))

pub holds_nothing : (s : Entries) → s.entries.entries ≡ [] → s.numbers.entries ≡ [] →
    s.users.entries ≡ [] → Holds s
holds_nothing s e n u = record {
  climb = subst (λ es. Climb es s.next) (sym e)
      (record { ordered = sorted_none; below = refl; distinct = none_cut });
  named = λ name. ap (λ ns. lookup (bytes_eq name) ns) n ∙
      sym (ap (λ es. lookup (bytes_eq name) (numbers_of es)) e);
  used = λ name user. ap (λ us. has_user name user us) u ∙
      sym (ap (λ es. entry_uses name user (held_of es)) e);
}

-- the object of a name by its number
pub object_of_number : (s : Entries) (name : List ℕ) (n : ℕ) → Holds s →
    lookup (bytes_eq name) s.numbers.entries ≡ Some n →
    option_map (λ (e : Numbered). e.object) (lookup (is_at (nat_cmp n)) s.entries.entries) ≡
    lookup (bytes_eq name) (held s)
object_of_number s name n h k =
    object_found name s.entries.entries n (numbers_distinct s.entries.entries s.next h.climb)
    (sym (h.named name) ∙ k)

pub object_of_none : (s : Entries) (name : List ℕ) → Holds s →
    lookup (bytes_eq name) s.numbers.entries ≡ None → lookup (bytes_eq name) (held s) ≡ None
object_of_none s name h k = object_missing name s.entries.entries (sym (h.named name) ∙ k)

-- a number that comes and goes
back : (b : Bool) (n : ℕ) (o : Option ℕ) → (b ≡ true → o ≡ None) →
    cond b None (cond b (Some n) o) ≡ o
back true n o h = sym (h refl)
back false n o h = refl

pub forgotten : (s new : Entries) (name : List ℕ) (object : HeldObject) (uses : List (List ℕ)) →
    Awaits s name object → new.entries.entries ≡ s.entries.entries → new.next ≡ s.next →
    uses ≡ uses_of object → NumberLess name s.numbers.entries new.numbers.entries →
    UsesLess name uses s.users.entries new.users.entries → Holds new
forgotten s new name object uses a e x q ns us =
    let es = s.entries.entries in
    let free = number_missing name es a.free in
    record {
      climb = subst (λ rows. Climb rows new.next) (sym e)
          (subst (λ next. Climb es next) (sym x) (climbs_on es s.next a.past a.climb));
      named = λ other. ns other
          ∙ ap (λ o. cond (bytes_eq name other) None o) (a.named other)
          ∙ back (bytes_eq name other) (s.next - 1) (lookup (bytes_eq other) (numbers_of es))
          (λ t. subst (λ n. lookup (bytes_eq n) (numbers_of es) ≡ None)
          (same_bytes name other t) free)
          ∙ sym (ap (λ rows. lookup (bytes_eq other) (numbers_of rows)) e);
      used = λ one other. us one other
          ∙ ap (λ ls. has_user one other s.users.entries && not (bytes_eq name other &&
          list_any (λ used. bytes_eq used one) ls)) q
          ∙ ap (λ b. b && not (bytes_eq name other && list_any (λ used. bytes_eq used one)
          (uses_of object))) (a.used one other)
          ∙ used_back name object (held s) a.free one other
          ∙ sym (ap (λ rows. entry_uses one other (held_of rows)) e);
    }

-- a number and uses that come before their entry
pub noted : (s new : Entries) (name : List ℕ) (object : HeldObject) (uses : List (List ℕ)) →
    Holds s → lookup (bytes_eq name) (held s) ≡ None →
    new.entries.entries ≡ s.entries.entries → new.next ≡ s.next + 1 → uses ≡ uses_of object →
    ((other : List ℕ) → lookup (bytes_eq other) new.numbers.entries ≡ cond (bytes_eq name other)
    (Some s.next) (lookup (bytes_eq other) s.numbers.entries)) →
    ((one other : List ℕ) → has_user one other new.users.entries ≡
    (has_user one other s.users.entries || (bytes_eq name other && other_use one name uses))) →
    Awaits new name object
noted s new name object uses h free e x q ns us =
    let es = s.entries.entries in
    let less : new.next - 1 ≡ s.next = omega (arith, x) in
    record {
      past = omega (arith, x);
      climb = subst (λ rows. Climb rows (new.next - 1)) (sym e)
          (subst (λ next. Climb es next) (sym less) h.climb);
      free = ap (λ rows. lookup (bytes_eq name) (held_of rows)) e ∙ free;
      named = λ other. ns other
          ∙ ap (λ n. cond (bytes_eq name other) (Some n)
          (lookup (bytes_eq other) s.numbers.entries)) (sym less)
          ∙ ap (λ o. cond (bytes_eq name other) (Some (new.next - 1)) o) (h.named other)
          ∙ sym (ap (λ rows. cond (bytes_eq name other) (Some (new.next - 1))
          (lookup (bytes_eq other) (numbers_of rows))) e);
      used = λ one other. us one other
          ∙ ap (λ b. b || (bytes_eq name other && other_use one name uses)) (h.used one other)
          ∙ ap (λ ls. entry_uses one other (held s) || (bytes_eq name other &&
          other_use one name ls)) q
          ∙ ap (λ b. entry_uses one other (held s) || (bytes_eq name other && b))
          (sym (mentioned one name object))
          ∙ sym (ap (λ rows. entry_uses one other (held_of rows) || (bytes_eq name other &&
          held_user one (name, object))) e);
    }

-- the same given up, where memory ran out
pub given_up : (s new : Entries) (so : Sets) (name : List ℕ) (object : HeldObject)
    (uses : List (List ℕ)) (more : Numbers) → Holds s → lookup (bytes_eq name) (held s) ≡ None →
    new.entries.entries ≡ s.entries.entries → new.next ≡ s.next → uses ≡ uses_of object →
    ((other : List ℕ) → lookup (bytes_eq other) more ≡ cond (bytes_eq name other) (Some s.next)
    (lookup (bytes_eq other) s.numbers.entries)) → NumberLess name more new.numbers.entries →
    ((one other : List ℕ) → (bytes_eq name other && list_any (λ used. bytes_eq used one) uses) ≡
    false → has_user one other so ≡ has_user one other s.users.entries) →
    UsesLess name uses so new.users.entries → Holds new
given_up s new so name object uses more h free e x q ns less some us =
    let es = s.entries.entries in
    let none = number_missing name es free in
    record {
      climb = subst (λ rows. Climb rows new.next) (sym e)
          (subst (λ next. Climb es next) (sym x) h.climb);
      named = λ other. less other
          ∙ ap (λ o. cond (bytes_eq name other) None o) (ns other
          ∙ ap (λ o. cond (bytes_eq name other) (Some s.next) o) (h.named other))
          ∙ back (bytes_eq name other) s.next (lookup (bytes_eq other) (numbers_of es))
          (λ t. subst (λ n. lookup (bytes_eq n) (numbers_of es) ≡ None)
          (same_bytes name other t) none)
          ∙ sym (ap (λ rows. lookup (bytes_eq other) (numbers_of rows)) e);
      used = λ one other. used_again name object (held s) s.users.entries so
          new.users.entries free h.used
          (subst (λ ls. (n u : List ℕ) → (bytes_eq name u && list_any (λ used. bytes_eq used n) ls)
          ≡ false → has_user n u so ≡ has_user n u s.users.entries) q some)
          (subst (λ ls. UsesLess name ls so new.users.entries) q us) one other
          ∙ sym (ap (λ rows. entry_uses one other (held_of rows)) e);
    }

-- an entry that comes
pub more_held : (s : Entries) (rows : List (ℕ × Numbered)) (name : List ℕ) (object : HeldObject) →
    Awaits s name object →
    rows ≡ insert_entry nat_cmp s.entries.entries (s.next - 1)
    (record { name = name; object = object }) →
    held_of rows ≡ held s ++ (name, object) ∷ []
more_held s rows name object a put =
    let m : Numbered = record { name = name; object = object } in
    ap held_of (put ∙ entry_put s.entries.entries (s.next - 1) m a.climb.below)
    ∙ held_put s.entries.entries (s.next - 1) m

pub come : (s new : Entries) (name : List ℕ) (object : HeldObject) → Awaits s name object →
    new.entries.entries ≡ insert_entry nat_cmp s.entries.entries (s.next - 1)
    (record { name = name; object = object }) →
    IsStrictlySortedBy nat_cmp (keys_of new.entries.entries) → new.next ≡ s.next →
    new.numbers.entries ≡ s.numbers.entries → new.users.entries ≡ s.users.entries → Holds new
come s new name object a put sorted x n u =
    let es = s.entries.entries in
    let m : Numbered = record { name = name; object = object } in
    record {
      climb = subst (λ next. Climb new.entries.entries next) (sym x)
          (climbed es new.entries.entries s.next m a.past a.climb a.free put sorted);
      named = λ other. ap (λ ns. lookup (bytes_eq other) ns) n ∙
          named_put es new.entries.entries s.numbers.entries (s.next - 1) m
          (put ∙ entry_put es (s.next - 1) m a.climb.below) a.free a.named other;
      used = λ one other. ap (λ us. has_user one other us) u ∙
          used_put (held s) (held new) (name, object) s.users.entries
          (more_held s new.entries.entries name object a put) a.used one other;
    }

-- an entry that goes
pub less_held : (s : Entries) (rows : List (ℕ × Numbered)) (name : List ℕ) (number : ℕ) → Holds s →
    lookup (bytes_eq name) s.numbers.entries ≡ Some number →
    rows ≡ remove_entry (is_at (nat_cmp number)) s.entries.entries →
    held_of rows ≡ remove_entry (bytes_eq name) (held s)
less_held s rows name number h found cut =
    ap held_of cut
    ∙ held_removed name s.entries.entries number
    (numbers_distinct s.entries.entries s.next h.climb) (sym (h.named name) ∙ found)

pub went : (s new : Entries) (name : List ℕ) (number : ℕ) (entry : Numbered)
    (uses : List (List ℕ)) (left : Sets) → Holds s →
    length (filter (held_user name) (held s)) ≡ 0 →
    lookup (bytes_eq name) s.numbers.entries ≡ Some number →
    lookup (is_at (nat_cmp number)) s.entries.entries ≡ Some entry → uses ≡ uses_of entry.object →
    new.entries.entries ≡ remove_entry (is_at (nat_cmp number)) s.entries.entries →
    IsStrictlySortedBy nat_cmp (keys_of new.entries.entries) → new.next ≡ s.next →
    NumberLess name s.numbers.entries new.numbers.entries →
    UsesLess name uses s.users.entries left →
    ((other : List ℕ) → lookup (bytes_eq other) new.users.entries ≡ cond (bytes_eq name other) None
    (lookup (bytes_eq other) left)) → Holds new
went s new name number entry uses left h unused found at q cut sorted x ns us gone =
    let es = s.entries.entries in
    let number_is : lookup (bytes_eq name) (numbers_of es) ≡ Some number = sym (h.named name) ∙
    found in
    let object_is : lookup (bytes_eq name) (held s) ≡ Some entry.object =
    sym (object_of_number s name number h found) ∙
    ap (option_map (λ (e : Numbered). e.object)) at in
    let less : held new ≡ remove_entry (bytes_eq name) (held s) =
    less_held s new.entries.entries name number h found cut in
    record {
      climb = subst (λ next. Climb new.entries.entries next) (sym x)
          (climbs_left name es new.entries.entries s.next number h.climb number_is cut sorted);
      named = named_left name es new.entries.entries s.numbers.entries new.numbers.entries s.next
          number h.climb number_is cut h.named ns;
      used = unused_gone name (held s) (held new) left new.users.entries unused less
          (λ one other. us one other
          ∙ ap (λ ls. has_user one other s.users.entries && not (bytes_eq name other &&
          list_any (λ used. bytes_eq used one) ls)) q
          ∙ ap (λ b. b && not (bytes_eq name other && list_any (λ used. bytes_eq used one)
          (uses_of entry.object))) (h.used one other)
          ∙ used_left name (held s) entry.object h.climb.distinct object_is one other
          ∙ sym (ap (λ hs. entry_uses one other hs) less)) gone;
    }

-- no entry goes where none has the name
no_entry : (name : List ℕ) (hs : List Held) → lookup (bytes_eq name) hs ≡ None →
    hs ≡ remove_entry (bytes_eq name) hs
no_entry name [] h = refl
no_entry name (g ∷ hs) h = by (bytes_eq name g.0) h (λ k. no_entry name hs k)
  where
    by : (b : Bool) → cond b (Some g.1) (lookup (bytes_eq name) hs) ≡ None →
        (lookup (bytes_eq name) hs ≡ None → hs ≡ remove_entry (bytes_eq name) hs) →
        g ∷ hs ≡ cond b hs (g ∷ remove_entry (bytes_eq name) hs)
    by true k rest = absurd (true≢false (ap is_some k))
    by false k rest = ap (λ (gs : List Held). g ∷ gs) (rest k)

pub none_went : (s new : Entries) (name : List ℕ) → Holds s →
    lookup (bytes_eq name) s.numbers.entries ≡ None → new.entries.entries ≡ s.entries.entries →
    new.next ≡ s.next → new.numbers.entries ≡ s.numbers.entries →
    new.users.entries ≡ s.users.entries → Holds new
none_went s new name h none e x n u = record {
  climb = subst (λ rows. Climb rows new.next) (sym e)
      (subst (λ next. Climb s.entries.entries next) (sym x) h.climb);
  named = λ other. ap (λ ns. lookup (bytes_eq other) ns) n ∙ (h.named other
      ∙ sym (ap (λ rows. lookup (bytes_eq other) (numbers_of rows)) e));
  used = λ one other. ap (λ us. has_user one other us) u ∙ (h.used one other
      ∙ sym (ap (λ rows. entry_uses one other (held_of rows)) e));
}

pub none_less : (s : Entries) (name : List ℕ) → Holds s →
    lookup (bytes_eq name) s.numbers.entries ≡ None →
    held s ≡ remove_entry (bytes_eq name) (held s)
none_less s name h none = no_entry name (held s) (object_of_none s name h none)

-- a number without an entry isn't there
pub never : (s : Entries) (name : List ℕ) (number : ℕ) → Holds s →
    lookup (bytes_eq name) s.numbers.entries ≡ Some number →
    lookup (is_at (nat_cmp number)) s.entries.entries ≡ None → ⊥
never s name number h found none =
    let missing : lookup (bytes_eq name) (held s) ≡ None =
    sym (object_of_number s name number h found) ∙
    ap (option_map (λ (e : Numbered). e.object)) none in
    true≢false (ap is_some (sym found ∙ (h.named name ∙
    number_missing name s.entries.entries missing)))
