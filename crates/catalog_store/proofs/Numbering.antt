-- Entries by the numbers of their making: a name and its number stand for one entry.
use Rattle.std.proofs.Common.{◌≡◌, ℕ, ◌-◌, ◌<◌, ◌||◌, ◌&&◌, not, Bool, true, false, cond}
use Rattle.std.proofs.Common.{List, [], ◌∷◌, ◌++◌, length, filter, option_map, Option, Some}
use Rattle.std.proofs.Common.{None, unwrap_or, nat_lt, is_some, refl, sym, ap, ◌∙◌, subst, arith}
use Rattle.std.proofs.Common.{true≢false, if◌then◌else◌, nat_cmp, Ordering, Less, Equal, Greater}
use Rattle.std.proofs.lemmas.Bool.Decides.{nat_tests}
use Rattle.std.proofs.lemmas.Cmp.{eq_by_cmp_equiv, nat_cmp_total}
use Rattle.std.proofs.lemmas.List.Folds.{list_any-append}
use Rattle.std.proofs.lemmas.Map.{lookup-remove_entry}
use Rattle.std.proofs.lemmas.Map.Keys.{IsDistinct-cons, IsDistinct-from_sorted, IsDistinct-head}
use Rattle.std.proofs.lemmas.Map.Keys.{IsDistinct-push, IsDistinct-tail}
use Rattle.std.proofs.lemmas.Map.Made.{is_some-lookup}
use Rattle.std.specs.BTreeMap.{insert_entry, is_at}
use Rattle.std.specs.Cmp.Lexicographic.{nat_list_eq_equiv}
use Rattle.std.specs.List.{AllByRecursion, IsDistinct, list_all, list_any}
use Rattle.std.specs.List.Sorted.{IsStrictlySortedBy}
use Rattle.std.specs.Map.{keys_of, lookup, remove_entry}
use Rattle.std.specs.Ordering.{eq_by_cmp, match_ordering}
use Rattle.std.specs.Str.{bytes_eq}
use Rattle.catalog_store.specs.declared.entry.Object.{Object as HeldObject}
use Rattle.catalog_store.specs.declared.entry.Object.TheVariants.{Table, Function as FunctionRecord}
use Rattle.catalog_store.specs.declared.entry.Object.TheVariants.{Interpreted as InterpretedRecord}
use Rattle.catalog_store.specs.declared.entry.Object.TheVariants.{Procedure as ProcedureRecord}
use Rattle.catalog_store.specs.declared.numbered.Numbered.{Numbered}
use Rattle.catalog_store.specs.Using.{Held, entry_uses, has_user, held_user, uses_of}
use Rattle.catalog_store.specs.Holding.{Climb, held_of, numbers_of}
use Rattle.catalog_store.proofs.Named.{same_bytes}

abbrev Rows : Type 0
Rows = List (ℕ × Numbered)

abbrev Numbers : Type 0
Numbers = List (List ℕ × ℕ)

abbrev same_number : ℕ → ℕ → Bool
same_number = eq_by_cmp nat_cmp

none_some : {A : Type 0} (x : A) → None ≡ Some x → ⊥
none_some x h = true≢false (sym (ap is_some h))

some_none : {A : Type 0} (x : A) → Some x ≡ None → ⊥
some_none x h = true≢false (ap is_some h)

some_same : {A : Type 0} (x y : A) → Some x ≡ Some y → x ≡ y
some_same x y h = ap (λ o. unwrap_or o x) h

and_both : (a b : Bool) → (a && b) ≡ true → (a ≡ true) × (b ≡ true)
and_both true true h = (refl, refl)
and_both true false h = absurd (true≢false (sym h))
and_both false b h = absurd (true≢false (sym h))

pub sorted_none : IsStrictlySortedBy nat_cmp []
unfolding IsStrictlySortedBy
sorted_none = tt

pub none_cut : IsDistinct bytes_eq []
unfolding IsDistinct
none_cut = tt

-- ---- a number and its entry

-- what is said of each number is said of that of a name
of_number : (P : ℕ → Type 0) (name : List ℕ) (es : Rows) (n : ℕ) → AllByRecursion P (keys_of es) →
    lookup (bytes_eq name) (numbers_of es) ≡ Some n → P n
of_number P name [] n all h = absurd (none_some n h)
of_number P name (e ∷ es) n all h =
    by (bytes_eq name e.1.name) h (λ k. of_number P name es n all.1 k)
  where
    by : (b : Bool) → cond b (Some e.0) (lookup (bytes_eq name) (numbers_of es)) ≡ Some n →
        (lookup (bytes_eq name) (numbers_of es) ≡ Some n → P n) → P n
    by true k rest = subst P (some_same e.0 n k) all.0
    by false k rest = rest k

-- a later number is another
later : (name : List ℕ) (e : ℕ × Numbered) (es : Rows) (n : ℕ) →
    IsDistinct same_number (keys_of (e ∷ es)) →
    lookup (bytes_eq name) (numbers_of es) ≡ Some n → is_at (nat_cmp n) e.0 ≡ false
later name e es n d h =
    (eq_by_cmp_equiv nat_cmp_total).symm n e.0
    ∙ of_number (λ m. same_number e.0 m ≡ false) name es n
    (IsDistinct-head same_number e.0 (keys_of es) d) h

itself : (n m : ℕ) → m ≡ n → is_at (nat_cmp n) m ≡ true
itself n m e = subst (λ k. is_at (nat_cmp n) k ≡ true) (sym e)
    ((eq_by_cmp_equiv nat_cmp_total).refl n)

-- the object of a number is that of the name
pub object_found : (name : List ℕ) (es : Rows) (n : ℕ) → IsDistinct same_number (keys_of es) →
    lookup (bytes_eq name) (numbers_of es) ≡ Some n →
    option_map (λ (e : Numbered). e.object) (lookup (is_at (nat_cmp n)) es) ≡ lookup (bytes_eq name)
    (held_of es)
object_found name [] n d h = absurd (none_some n h)
object_found name (e ∷ es) n d h =
    by (bytes_eq name e.1.name) h
    (λ k. object_found name es n (IsDistinct-tail same_number e.0 (keys_of es) d) k)
  where
    by : (b : Bool) → cond b (Some e.0) (lookup (bytes_eq name) (numbers_of es)) ≡ Some n →
        (lookup (bytes_eq name) (numbers_of es) ≡ Some n →
        option_map (λ (m : Numbered). m.object) (lookup (is_at (nat_cmp n)) es) ≡
        lookup (bytes_eq name) (held_of es)) →
        option_map (λ (m : Numbered). m.object) (cond (is_at (nat_cmp n) e.0) (Some e.1)
        (lookup (is_at (nat_cmp n)) es)) ≡ cond b (Some e.1.object)
        (lookup (bytes_eq name) (held_of es))
    by true k rest =
        ap (λ c. option_map (λ (m : Numbered). m.object) (cond c (Some e.1)
        (lookup (is_at (nat_cmp n)) es))) (itself n e.0 (some_same e.0 n k))
    by false k rest =
        ap (λ c. option_map (λ (m : Numbered). m.object) (cond c (Some e.1)
        (lookup (is_at (nat_cmp n)) es))) (later name e es n d k)
        ∙ rest k

-- a name without a number has no object, and the other way round
pub object_missing : (name : List ℕ) (es : Rows) →
    lookup (bytes_eq name) (numbers_of es) ≡ None → lookup (bytes_eq name) (held_of es) ≡ None
object_missing name [] h = refl
object_missing name (e ∷ es) h =
    by (bytes_eq name e.1.name) h (λ k. object_missing name es k)
  where
    by : (b : Bool) → cond b (Some e.0) (lookup (bytes_eq name) (numbers_of es)) ≡ None →
        (lookup (bytes_eq name) (numbers_of es) ≡ None →
        lookup (bytes_eq name) (held_of es) ≡ None) →
        cond b (Some e.1.object) (lookup (bytes_eq name) (held_of es)) ≡ None
    by true k rest = absurd (some_none e.0 k)
    by false k rest = rest k

pub number_missing : (name : List ℕ) (es : Rows) → lookup (bytes_eq name) (held_of es) ≡ None →
    lookup (bytes_eq name) (numbers_of es) ≡ None
number_missing name [] h = refl
number_missing name (e ∷ es) h =
    by (bytes_eq name e.1.name) h (λ k. number_missing name es k)
  where
    by : (b : Bool) → cond b (Some e.1.object) (lookup (bytes_eq name) (held_of es)) ≡ None →
        (lookup (bytes_eq name) (held_of es) ≡ None →
        lookup (bytes_eq name) (numbers_of es) ≡ None) →
        cond b (Some e.0) (lookup (bytes_eq name) (numbers_of es)) ≡ None
    by true k rest = absurd (some_none e.1.object k)
    by false k rest = rest k

-- the entry of a number goes, and with it that of the name
pub held_removed : (name : List ℕ) (es : Rows) (n : ℕ) → IsDistinct same_number (keys_of es) →
    lookup (bytes_eq name) (numbers_of es) ≡ Some n →
    held_of (remove_entry (is_at (nat_cmp n)) es) ≡ remove_entry (bytes_eq name) (held_of es)
held_removed name [] n d h = refl
held_removed name (e ∷ es) n d h =
    by (bytes_eq name e.1.name) h
    (λ k. held_removed name es n (IsDistinct-tail same_number e.0 (keys_of es) d) k)
  where
    by : (b : Bool) → cond b (Some e.0) (lookup (bytes_eq name) (numbers_of es)) ≡ Some n →
        (lookup (bytes_eq name) (numbers_of es) ≡ Some n →
        held_of (remove_entry (is_at (nat_cmp n)) es) ≡ remove_entry (bytes_eq name) (held_of es)) →
        held_of (cond (is_at (nat_cmp n) e.0) es (e ∷ remove_entry (is_at (nat_cmp n)) es)) ≡
        cond b (held_of es) ((e.1.name, e.1.object) ∷ remove_entry (bytes_eq name) (held_of es))
    by true k rest =
        ap (λ c. held_of (cond c es (e ∷ remove_entry (is_at (nat_cmp n)) es)))
        (itself n e.0 (some_same e.0 n k))
    by false k rest =
        ap (λ c. held_of (cond c es (e ∷ remove_entry (is_at (nat_cmp n)) es)))
        (later name e es n d k)
        ∙ ap (λ (hs : List Held). (e.1.name, e.1.object) ∷ hs) (rest k)

pub numbers_removed : (name : List ℕ) (es : Rows) (n : ℕ) → IsDistinct same_number (keys_of es) →
    lookup (bytes_eq name) (numbers_of es) ≡ Some n →
    numbers_of (remove_entry (is_at (nat_cmp n)) es) ≡ remove_entry (bytes_eq name) (numbers_of es)
numbers_removed name [] n d h = refl
numbers_removed name (e ∷ es) n d h =
    by (bytes_eq name e.1.name) h
    (λ k. numbers_removed name es n (IsDistinct-tail same_number e.0 (keys_of es) d) k)
  where
    by : (b : Bool) → cond b (Some e.0) (lookup (bytes_eq name) (numbers_of es)) ≡ Some n →
        (lookup (bytes_eq name) (numbers_of es) ≡ Some n →
        numbers_of (remove_entry (is_at (nat_cmp n)) es) ≡
        remove_entry (bytes_eq name) (numbers_of es)) →
        numbers_of (cond (is_at (nat_cmp n) e.0) es (e ∷ remove_entry (is_at (nat_cmp n)) es)) ≡
        cond b (numbers_of es) ((e.1.name, e.0) ∷ remove_entry (bytes_eq name) (numbers_of es))
    by true k rest =
        ap (λ c. numbers_of (cond c es (e ∷ remove_entry (is_at (nat_cmp n)) es)))
        (itself n e.0 (some_same e.0 n k))
    by false k rest =
        ap (λ c. numbers_of (cond c es (e ∷ remove_entry (is_at (nat_cmp n)) es)))
        (later name e es n d k)
        ∙ ap (λ (hs : Numbers). (e.1.name, e.0) ∷ hs) (rest k)

pub names_same : (es : Rows) → keys_of (numbers_of es) ≡ keys_of (held_of es)
names_same [] = refl
names_same (e ∷ es) = ap (λ (ns : List (List ℕ)). e.1.name ∷ ns) (names_same es)

pub numbers_distinct : (es : Rows) (next : ℕ) → Climb es next →
    IsDistinct same_number (keys_of es)
numbers_distinct es next c = IsDistinct-from_sorted nat_cmp (keys_of es) c.ordered

-- ---- one entry more

above : (x n : ℕ) → nat_lt x n ≡ true → nat_cmp n x ≡ Greater
above x n h = grind (arith, nat_tests)

pub entry_put : (es : Rows) (n : ℕ) (m : Numbered) → list_all (λ e. nat_lt e.0 n) es ≡ true →
    insert_entry nat_cmp es n m ≡ es ++ (n, m) ∷ []
entry_put [] n m h = refl
entry_put (e ∷ es) n m h =
    let both = and_both (nat_lt e.0 n) (list_all (λ x. nat_lt x.0 n) es) h in
    by (nat_cmp n e.0) (above e.0 n both.0) (entry_put es n m both.1)
  where
    by : (o : Ordering) → o ≡ Greater → insert_entry nat_cmp es n m ≡ es ++ (n, m) ∷ [] →
        match_ordering o ((n, m) ∷ e ∷ es) ((e.0, m) ∷ es)
        (e ∷ insert_entry nat_cmp es n m) ≡ e ∷ es ++ (n, m) ∷ []
    by Less q k = absurd cc
    by Equal q k = absurd cc
    by Greater q k = ap (λ (xs : Rows). e ∷ xs) k

all_below : (es : Rows) (n m : ℕ) → n < m → list_all (λ e. nat_lt e.0 n) es ≡ true →
    list_all (λ e. nat_lt e.0 m) es ≡ true
all_below [] n m l h = refl
all_below (e ∷ es) n m l h =
    let both = and_both (nat_lt e.0 n) (list_all (λ x. nat_lt x.0 n) es) h in
    let first : nat_lt e.0 m ≡ true = (let a = both.0 in grind (arith, nat_tests)) in
    ap (λ b. b && list_all (λ x. nat_lt x.0 m) es) first ∙ all_below es n m l both.1

-- the same below a higher number
pub climbs_on : (es : Rows) (next : ℕ) → 0 < next → Climb es (next - 1) → Climb es next
climbs_on es next past c =
    let less : next - 1 < next = omega (arith, past) in
    record {
      ordered = c.ordered;
      below = all_below es (next - 1) next less c.below;
      distinct = c.distinct;
    }

last_below : (es : Rows) (e : ℕ × Numbered) (m : ℕ) → list_all (λ x. nat_lt x.0 m) es ≡ true →
    nat_lt e.0 m ≡ true → list_all (λ x. nat_lt x.0 m) (es ++ e ∷ []) ≡ true
last_below [] e m h k = ap (λ b. b && true) k
last_below (x ∷ es) e m h k =
    let both = and_both (nat_lt x.0 m) (list_all (λ y. nat_lt y.0 m) es) h in
    ap (λ b. b && list_all (λ y. nat_lt y.0 m) (es ++ e ∷ [])) both.0 ∙
    last_below es e m both.1 k

pub none_listed : (name : List ℕ) (hs : List Held) → lookup (bytes_eq name) hs ≡ None →
    list_any (bytes_eq name) (keys_of hs) ≡ false
none_listed name hs h = sym (is_some-lookup (bytes_eq name) hs) ∙ ap is_some h

names_put : (es : Rows) (n : ℕ) (m : Numbered) →
    keys_of (held_of (es ++ (n, m) ∷ [])) ≡ keys_of (held_of es) ++ m.name ∷ []
names_put [] n m = refl
names_put (e ∷ es) n m = ap (λ (ns : List (List ℕ)). e.1.name ∷ ns) (names_put es n m)

pub climbed : (es new : Rows) (next : ℕ) (m : Numbered) → 0 < next → Climb es (next - 1) →
    lookup (bytes_eq m.name) (held_of es) ≡ None → new ≡ insert_entry nat_cmp es (next - 1) m →
    IsStrictlySortedBy nat_cmp (keys_of new) → Climb new next
climbed es new next m past c free put sorted =
    let made : new ≡ es ++ (next - 1, m) ∷ [] = put ∙ entry_put es (next - 1) m c.below in
    let last : nat_lt (next - 1) next ≡ true = grind (arith, nat_tests) in
    let less : next - 1 < next = omega (arith, past) in
    record {
      ordered = sorted;
      below = ap (λ (xs : Rows). list_all (λ x. nat_lt x.0 next) xs) made
          ∙ last_below es (next - 1, m) next (all_below es (next - 1) next less c.below) last;
      distinct = subst (λ (xs : Rows). IsDistinct bytes_eq (keys_of (held_of xs))) (sym made)
          (subst (λ (ns : List (List ℕ)). IsDistinct bytes_eq ns) (sym (names_put es (next - 1) m))
          (IsDistinct-push nat_list_eq_equiv (keys_of (held_of es)) m.name c.distinct
          (none_listed m.name (held_of es) free)));
    }

pub held_put : (es : Rows) (n : ℕ) (m : Numbered) →
    held_of (es ++ (n, m) ∷ []) ≡ held_of es ++ (m.name, m.object) ∷ []
held_put [] n m = refl
held_put (e ∷ es) n m = ap (λ (hs : List Held). (e.1.name, e.1.object) ∷ hs) (held_put es n m)

numbers_put : (es : Rows) (n : ℕ) (m : Numbered) →
    numbers_of (es ++ (n, m) ∷ []) ≡ numbers_of es ++ (m.name, n) ∷ []
numbers_put [] n m = refl
numbers_put (e ∷ es) n m = ap (λ (ns : Numbers). (e.1.name, e.0) ∷ ns) (numbers_put es n m)

-- what is sought among numbers and one more after them
sought_more : (entry name : List ℕ) (ns : Numbers) (n : ℕ) → lookup (bytes_eq entry) ns ≡ None →
    lookup (bytes_eq name) (ns ++ (entry, n) ∷ []) ≡ (if bytes_eq entry name then Some n else
    lookup (bytes_eq name) ns)
sought_more entry name [] n h = ap (λ b. cond b (Some n) None) (nat_list_eq_equiv.symm name entry)
sought_more entry name (x ∷ ns) n h =
    by (bytes_eq entry x.0) refl h (λ k. sought_more entry name ns n k)
  where
    swapped : (a b : Bool) (o p q : Option ℕ) → (a ≡ true → b ≡ true → ⊥) →
        cond a o (cond b p q) ≡ cond b p (cond a o q)
    swapped true true o p q f = absurd (f refl refl)
    swapped true false o p q f = refl
    swapped false b o p q f = refl

    by : (b : Bool) → bytes_eq entry x.0 ≡ b → cond b (Some x.1) (lookup (bytes_eq entry) ns) ≡ None
        → (lookup (bytes_eq entry) ns ≡ None →
        lookup (bytes_eq name) (ns ++ (entry, n) ∷ []) ≡ cond (bytes_eq entry name) (Some n)
        (lookup (bytes_eq name) ns)) →
        cond (bytes_eq name x.0) (Some x.1) (lookup (bytes_eq name) (ns ++ (entry, n) ∷ [])) ≡
        cond (bytes_eq entry name) (Some n) (cond (bytes_eq name x.0) (Some x.1)
        (lookup (bytes_eq name) ns))
    by true e k rest = absurd (some_none x.1 k)
    by false e k rest =
        ap (λ o. cond (bytes_eq name x.0) (Some x.1) o) (rest k)
        ∙ swapped (bytes_eq name x.0) (bytes_eq entry name) (Some x.1) (Some n)
        (lookup (bytes_eq name) ns)
        (λ p q. true≢false (sym p ∙ (sym (nat_list_eq_equiv.congr entry name x.0 q) ∙ e)))

-- each name has its number with one entry more
pub named_put : (es new : Rows) (numbers : Numbers) (n : ℕ) (m : Numbered) →
    new ≡ es ++ (n, m) ∷ [] → lookup (bytes_eq m.name) (held_of es) ≡ None →
    ((name : List ℕ) → lookup (bytes_eq name) numbers ≡ (if bytes_eq m.name name then Some n else
    lookup (bytes_eq name) (numbers_of es))) →
    (name : List ℕ) → lookup (bytes_eq name) numbers ≡ lookup (bytes_eq name) (numbers_of new)
named_put es new numbers n m made free h name =
    h name
    ∙ sym (ap (λ (xs : Rows). lookup (bytes_eq name) (numbers_of xs)) made
    ∙ (ap (λ (ns : Numbers). lookup (bytes_eq name) ns) (numbers_put es n m)
    ∙ sought_more m.name name (numbers_of es) n (number_missing m.name es free)))

or_false : (a : Bool) → (a || false) ≡ a
or_false true = refl
or_false false = refl

-- and each used name its users
pub used_put : (hs new : List Held) (h : Held) (users : List (List ℕ × List (List ℕ))) →
    new ≡ hs ++ h ∷ [] →
    ((name user : List ℕ) → has_user name user users ≡ (entry_uses name user hs ||
    (bytes_eq h.0 user && held_user name h))) →
    (name user : List ℕ) → has_user name user users ≡ entry_uses name user new
used_put hs new h users made k name user =
    k name user
    ∙ sym (ap (λ (gs : List Held). entry_uses name user gs) made
    ∙ (list_any-append (λ g. bytes_eq user g.0 && held_user name g) hs (h ∷ [])
    ∙ ap (λ b. entry_uses name user hs || b)
    (or_false (bytes_eq user h.0 && held_user name h)
    ∙ ap (λ b. b && held_user name h) (nat_list_eq_equiv.symm user h.0))))

-- ---- an entry less

all_left : (P : List ℕ → Type 0) (test : List ℕ → Bool) (hs : List Held) →
    AllByRecursion P (keys_of hs) → AllByRecursion P (keys_of (remove_entry test hs))
all_left P test [] all = tt
all_left P test (h ∷ hs) all = by (test h.0) (all_left P test hs all.1)
  where
    by : (b : Bool) → AllByRecursion P (keys_of (remove_entry test hs)) →
        AllByRecursion P (keys_of (cond b hs (h ∷ remove_entry test hs)))
    by true rest = all.1
    by false rest = (all.0, rest)

pub distinct_left : (test : List ℕ → Bool) (hs : List Held) → IsDistinct bytes_eq (keys_of hs) →
    IsDistinct bytes_eq (keys_of (remove_entry test hs))
distinct_left test [] d = d
distinct_left test (h ∷ hs) d =
    by (test h.0) (distinct_left test hs (IsDistinct-tail bytes_eq h.0 (keys_of hs) d))
  where
    by : (b : Bool) → IsDistinct bytes_eq (keys_of (remove_entry test hs)) →
        IsDistinct bytes_eq (keys_of (cond b hs (h ∷ remove_entry test hs)))
    by true rest = IsDistinct-tail bytes_eq h.0 (keys_of hs) d
    by false rest = IsDistinct-cons bytes_eq h.0 (keys_of (remove_entry test hs))
        (all_left (λ y. bytes_eq h.0 y ≡ false) test hs
        (IsDistinct-head bytes_eq h.0 (keys_of hs) d)) rest

below_left : (test : ℕ → Bool) (es : Rows) (n : ℕ) → list_all (λ e. nat_lt e.0 n) es ≡ true →
    list_all (λ e. nat_lt e.0 n) (remove_entry test es) ≡ true
below_left test [] n h = refl
below_left test (e ∷ es) n h =
    let both = and_both (nat_lt e.0 n) (list_all (λ x. nat_lt x.0 n) es) h in
    by (test e.0) both.0 both.1 (below_left test es n both.1)
  where
    by : (b : Bool) → nat_lt e.0 n ≡ true → list_all (λ x. nat_lt x.0 n) es ≡ true →
        list_all (λ x. nat_lt x.0 n) (remove_entry test es) ≡ true →
        list_all (λ x. nat_lt x.0 n) (cond b es (e ∷ remove_entry test es)) ≡ true
    by true p q rest = q
    by false p q rest = ap (λ b. b && list_all (λ x. nat_lt x.0 n) (remove_entry test es)) p ∙ rest

pub climbs_left : (name : List ℕ) (es new : Rows) (next n : ℕ) → Climb es next →
    lookup (bytes_eq name) (numbers_of es) ≡ Some n →
    new ≡ remove_entry (is_at (nat_cmp n)) es → IsStrictlySortedBy nat_cmp (keys_of new) →
    Climb new next
climbs_left name es new next n c h gone sorted =
    record {
      ordered = sorted;
      below = ap (λ (xs : Rows). list_all (λ x. nat_lt x.0 next) xs) gone ∙
          below_left (is_at (nat_cmp n)) es next c.below;
      distinct = subst (λ (hs : List Held). IsDistinct bytes_eq (keys_of hs))
          (sym (ap held_of gone ∙ held_removed name es n (numbers_distinct es next c) h))
          (distinct_left (bytes_eq name) (held_of es) c.distinct);
    }

-- each other name keeps its number
pub named_left : (name : List ℕ) (es new : Rows) (old numbers : Numbers) (next n : ℕ) →
    Climb es next → lookup (bytes_eq name) (numbers_of es) ≡ Some n →
    new ≡ remove_entry (is_at (nat_cmp n)) es →
    ((other : List ℕ) → lookup (bytes_eq other) old ≡ lookup (bytes_eq other) (numbers_of es)) →
    ((other : List ℕ) → lookup (bytes_eq other) numbers ≡ cond (bytes_eq name other) None
    (lookup (bytes_eq other) old)) →
    (other : List ℕ) → lookup (bytes_eq other) numbers ≡ lookup (bytes_eq other) (numbers_of new)
named_left name es new old numbers next n c h gone were less other =
    less other
    ∙ ap (λ o. cond (bytes_eq name other) None o) (were other)
    ∙ sym (ap (λ (xs : Rows). lookup (bytes_eq other) (numbers_of xs)) gone
    ∙ (ap (λ (ns : Numbers). lookup (bytes_eq other) ns)
    (numbers_removed name es n (numbers_distinct es next c) h)
    ∙ lookup-remove_entry nat_list_eq_equiv (bytes_eq name)
    (λ x y p. nat_list_eq_equiv.congr name x y p) other (numbers_of es)
    (subst (λ (ns : List (List ℕ)). IsDistinct bytes_eq ns) (sym (names_same es)) c.distinct)))

-- ---- who uses what without an entry

-- an object uses what it lists
pub mentioned : (name user : List ℕ) (o : HeldObject) →
    held_user name (user, o) ≡ (not (bytes_eq user name) && list_any (λ used. bytes_eq used name)
    (uses_of o))
mentioned name user (Table row_type) = refl
mentioned name user (FunctionRecord r) = refl
mentioned name user (InterpretedRecord f) = refl
mentioned name user (ProcedureRecord p) = refl

pub no_use : (name user : List ℕ) (hs : List Held) →
    AllByRecursion (λ y. bytes_eq user y ≡ false) (keys_of hs) → entry_uses name user hs ≡ false
no_use name user [] all = refl
no_use name user (h ∷ hs) all = ap (λ b. (b && held_user name h) || entry_uses name user hs) all.0 ∙
    no_use name user hs all.1

none_there : (user : List ℕ) (hs : List Held) → lookup (bytes_eq user) hs ≡ None →
    AllByRecursion (λ y. bytes_eq user y ≡ false) (keys_of hs)
none_there user [] h = tt
none_there user (g ∷ hs) h = by (bytes_eq user g.0) refl h (λ k. none_there user hs k)
  where
    by : (b : Bool) → bytes_eq user g.0 ≡ b → cond b (Some g.1) (lookup (bytes_eq user) hs) ≡ None →
        (lookup (bytes_eq user) hs ≡ None →
        AllByRecursion (λ y. bytes_eq user y ≡ false) (keys_of hs)) →
        AllByRecursion (λ y. bytes_eq user y ≡ false) (g.0 ∷ keys_of hs)
    by true e k rest = absurd (some_none g.1 k)
    by false e k rest = (e, rest k)

none_left : (user : List ℕ) (hs : List Held) → IsDistinct bytes_eq (keys_of hs) →
    AllByRecursion (λ y. bytes_eq user y ≡ false) (keys_of (remove_entry (bytes_eq user) hs))
none_left user [] d = tt
none_left user (h ∷ hs) d =
    by (bytes_eq user h.0) refl
    (none_left user hs (IsDistinct-tail bytes_eq h.0 (keys_of hs) d))
  where
    by : (b : Bool) → bytes_eq user h.0 ≡ b →
        AllByRecursion (λ y. bytes_eq user y ≡ false)
        (keys_of (remove_entry (bytes_eq user) hs)) →
        AllByRecursion (λ y. bytes_eq user y ≡ false)
        (keys_of (cond b hs (h ∷ remove_entry (bytes_eq user) hs)))
    by true e rest = subst (λ u. AllByRecursion (λ y. bytes_eq u y ≡ false) (keys_of hs))
        (sym (same_bytes user h.0 e)) (IsDistinct-head bytes_eq h.0 (keys_of hs) d)
    by false e rest = (e, rest)

-- another entry uses what it used
other_stays : (name user gone : List ℕ) (hs : List Held) → bytes_eq gone user ≡ false →
    entry_uses name user hs ≡ entry_uses name user (remove_entry (bytes_eq gone) hs)
other_stays name user gone [] f = refl
other_stays name user gone (h ∷ hs) f =
    by (bytes_eq gone h.0) refl (other_stays name user gone hs f)
  where
    by : (b : Bool) → bytes_eq gone h.0 ≡ b →
        entry_uses name user hs ≡ entry_uses name user (remove_entry (bytes_eq gone) hs) →
        ((bytes_eq user h.0 && held_user name h) || entry_uses name user hs) ≡ entry_uses name user
        (cond b hs (h ∷ remove_entry (bytes_eq gone) hs))
    by true e rest =
        let apart : bytes_eq user h.0 ≡ false =
        nat_list_eq_equiv.symm user h.0 ∙ (sym (nat_list_eq_equiv.congr gone h.0 user e) ∙ f) in
        ap (λ b. (b && held_user name h) || entry_uses name user hs) apart
    by false e rest = ap (λ b. (bytes_eq user h.0 && held_user name h) || b) rest

-- what the entry used it lists
own_listed : (name user : List ℕ) (hs : List Held) (o : HeldObject) →
    IsDistinct bytes_eq (keys_of hs) → lookup (bytes_eq user) hs ≡ Some o →
    entry_uses name user hs ≡ true → list_any (λ used. bytes_eq used name) (uses_of o) ≡ true
own_listed name user [] o d h k = absurd (none_some o h)
own_listed name user (g ∷ hs) o d h k =
    by (bytes_eq user g.0) refl h k
    (λ p q. own_listed name user hs o (IsDistinct-tail bytes_eq g.0 (keys_of hs) d) p q)
  where
    by : (b : Bool) → bytes_eq user g.0 ≡ b →
        cond b (Some g.1) (lookup (bytes_eq user) hs) ≡ Some o →
        ((b && held_user name g) || entry_uses name user hs) ≡ true →
        (lookup (bytes_eq user) hs ≡ Some o → entry_uses name user hs ≡ true →
        list_any (λ used. bytes_eq used name) (uses_of o) ≡ true) →
        list_any (λ used. bytes_eq used name) (uses_of o) ≡ true
    by true e p q rest =
        let none : entry_uses name user hs ≡ false = no_use name user hs
        (subst (λ u. AllByRecursion (λ y. bytes_eq u y ≡ false) (keys_of hs))
        (sym (same_bytes user g.0 e)) (IsDistinct-head bytes_eq g.0 (keys_of hs) d)) in
        let one : held_user name g ≡ true = sym (or_false (held_user name g)) ∙
        (ap (λ b. held_user name g || b) (sym none) ∙ q) in
        subst (λ (x : HeldObject). list_any (λ used. bytes_eq used name) (uses_of x) ≡ true)
        (some_same g.1 o p)
        ((and_both (not (bytes_eq g.0 name)) (list_any (λ used. bytes_eq used name) (uses_of g.1))
        (sym (mentioned name g.0 g.1) ∙ one)).1)
    by false e p q rest = rest p q

taken : (a l : Bool) → (a ≡ true → l ≡ true) → (a && not (true && l)) ≡ false
taken true true h = refl
taken true false h = absurd (true≢false (sym (h refl)))
taken false l h = refl

and_true : (a : Bool) → (a && true) ≡ a
and_true true = refl
and_true false = refl

-- the users without an entry
pub used_left : (gone : List ℕ) (hs : List Held) (o : HeldObject) →
    IsDistinct bytes_eq (keys_of hs) → lookup (bytes_eq gone) hs ≡ Some o → (name user : List ℕ) →
    (entry_uses name user hs && not (bytes_eq gone user && list_any (λ used. bytes_eq used name)
    (uses_of o))) ≡ entry_uses name user (remove_entry (bytes_eq gone) hs)
used_left gone hs o d h name user = by (bytes_eq gone user) refl
  where
    by : (b : Bool) → bytes_eq gone user ≡ b →
        (entry_uses name user hs && not (b && list_any (λ used. bytes_eq used name) (uses_of o))) ≡
        entry_uses name user (remove_entry (bytes_eq gone) hs)
    by true e =
        let same : gone ≡ user = same_bytes gone user e in
        let found : lookup (bytes_eq user) hs ≡ Some o =
        subst (λ u. lookup (bytes_eq u) hs ≡ Some o) same h in
        taken (entry_uses name user hs) (list_any (λ used. bytes_eq used name) (uses_of o))
        (own_listed name user hs o d found)
        ∙ sym (no_use name user (remove_entry (bytes_eq gone) hs)
        (subst (λ u. AllByRecursion (λ y. bytes_eq u y ≡ false)
        (keys_of (remove_entry (bytes_eq gone) hs))) same (none_left gone hs d)))
    by false e = and_true (entry_uses name user hs) ∙ other_stays name user gone hs e

-- the users where an entry doesn't come, the uses of which were noted, all of them
pub used_back : (entry : List ℕ) (o : HeldObject) (hs : List Held) →
    lookup (bytes_eq entry) hs ≡ None → (name user : List ℕ) →
    ((entry_uses name user hs || (bytes_eq entry user && held_user name (entry, o))) &&
    not (bytes_eq entry user && list_any (λ used. bytes_eq used name) (uses_of o))) ≡
    entry_uses name user hs
used_back entry o hs free name user = by (bytes_eq entry user) refl
  where
    cut : (a n l : Bool) → a ≡ false → ((a || (true && (n && l))) && not (true && l)) ≡ a
    cut true n l e = absurd (true≢false e)
    cut false true true e = refl
    cut false true false e = refl
    cut false false l e = refl

    by : (b : Bool) → bytes_eq entry user ≡ b →
        ((entry_uses name user hs || (b && held_user name (entry, o))) &&
        not (b && list_any (λ used. bytes_eq used name) (uses_of o))) ≡ entry_uses name user hs
    by true e =
        ap (λ t. (entry_uses name user hs || (true && t)) &&
        not (true && list_any (λ used. bytes_eq used name) (uses_of o))) (mentioned name entry o)
        ∙ cut (entry_uses name user hs) (not (bytes_eq entry name))
        (list_any (λ used. bytes_eq used name) (uses_of o))
        (no_use name user hs (subst (λ u. AllByRecursion (λ y. bytes_eq u y ≡ false) (keys_of hs))
        (same_bytes entry user e) (none_there entry hs free)))
    by false e = and_true (entry_uses name user hs || false) ∙ or_false (entry_uses name user hs)

-- the same, where some of them were noted
pub used_again : (entry : List ℕ) (o : HeldObject) (hs : List Held)
    (old so new : List (List ℕ × List (List ℕ))) → lookup (bytes_eq entry) hs ≡ None →
    ((name user : List ℕ) → has_user name user old ≡ entry_uses name user hs) →
    ((name user : List ℕ) →
    (bytes_eq entry user && list_any (λ used. bytes_eq used name) (uses_of o)) ≡ false →
    has_user name user so ≡ has_user name user old) →
    ((name user : List ℕ) → has_user name user new ≡ (has_user name user so &&
    not (bytes_eq entry user && list_any (λ used. bytes_eq used name) (uses_of o)))) →
    (name user : List ℕ) → has_user name user new ≡ entry_uses name user hs
used_again entry o hs old so new free were some less name user =
    by (bytes_eq entry user && list_any (λ used. bytes_eq used name) (uses_of o)) refl
  where
    and_none : (a : Bool) → (a && false) ≡ false
    and_none true = refl
    and_none false = refl

    by : (b : Bool) → (bytes_eq entry user && list_any (λ used. bytes_eq used name) (uses_of o)) ≡ b
        → has_user name user new ≡ entry_uses name user hs
    by true e =
        let own = and_both (bytes_eq entry user) (list_any (λ used. bytes_eq used name) (uses_of o))
        e in
        less name user ∙ ap (λ b. has_user name user so && not b) e
        ∙ and_none (has_user name user so)
        ∙ sym (no_use name user hs (subst (λ u. AllByRecursion (λ y. bytes_eq u y ≡ false)
        (keys_of hs)) (same_bytes entry user own.0) (none_there entry hs free)))
    by false e =
        less name user ∙ ap (λ b. has_user name user so && not b) e
        ∙ and_true (has_user name user so) ∙ some name user e ∙ were name user

-- ---- a name that none uses

filtered_none : (test : Held → Bool) (user : List ℕ) (hs : List Held) →
    length (filter test hs) ≡ 0 → list_any (λ h. bytes_eq user h.0 && test h) hs ≡ false
filtered_none test user [] e = refl
filtered_none test user (h ∷ hs) e = by (test h) e (filtered_none test user hs)
  where
    and_none : (a : Bool) → (a && false) ≡ false
    and_none true = refl
    and_none false = refl

    by : (b : Bool) → length (cond b (h ∷ filter test hs) (filter test hs)) ≡ 0 →
        (length (filter test hs) ≡ 0 → list_any (λ g. bytes_eq user g.0 && test g) hs ≡ false) →
        ((bytes_eq user h.0 && b) || list_any (λ g. bytes_eq user g.0 && test g) hs) ≡ false
    by true k rest = absurd (omega (arith, k))
    by false k rest = ap (λ b. b || list_any (λ g. bytes_eq user g.0 && test g) hs)
        (and_none (bytes_eq user h.0)) ∙ rest k

not_left : (user : List ℕ) (test : Held → Bool) (pass : List ℕ → Bool) (gs : List Held) →
    list_any (λ h. bytes_eq user h.0 && test h) gs ≡ false →
    list_any (λ h. bytes_eq user h.0 && test h) (remove_entry pass gs) ≡ false
not_left user test pass [] e = refl
not_left user test pass (g ∷ gs) e =
    by (pass g.0) (bytes_eq user g.0 && test g) refl e (λ k. not_left user test pass gs k)
  where
    by : (b c : Bool) → (bytes_eq user g.0 && test g) ≡ c →
        (c || list_any (λ h. bytes_eq user h.0 && test h) gs) ≡ false →
        (list_any (λ h. bytes_eq user h.0 && test h) gs ≡ false →
        list_any (λ h. bytes_eq user h.0 && test h) (remove_entry pass gs) ≡ false) →
        list_any (λ h. bytes_eq user h.0 && test h)
        (cond b gs (g ∷ remove_entry pass gs)) ≡ false
    by b true q k rest = absurd (true≢false k)
    by true false q k rest = k
    by false false q k rest =
        ap (λ t. t || list_any (λ h. bytes_eq user h.0 && test h) (remove_entry pass gs)) q ∙ rest k

-- its set may go
pub unused_gone : (gone : List ℕ) (hs left : List Held)
    (users new : List (List ℕ × List (List ℕ))) → length (filter (held_user gone) hs) ≡ 0 →
    left ≡ remove_entry (bytes_eq gone) hs →
    ((name user : List ℕ) → has_user name user users ≡ entry_uses name user left) →
    ((name : List ℕ) → lookup (bytes_eq name) new ≡ cond (bytes_eq gone name) None
    (lookup (bytes_eq name) users)) →
    (name user : List ℕ) → has_user name user new ≡ entry_uses name user left
unused_gone gone hs left users new none cut were less name user =
    by (bytes_eq gone name) refl
  where
    by : (b : Bool) → bytes_eq gone name ≡ b → has_user name user new ≡ entry_uses name user left
    by true e =
        let same : gone ≡ name = same_bytes gone name e in
        ap (λ o. list_any (bytes_eq user) (unwrap_or o []))
        (less name ∙ ap (λ b. cond b None (lookup (bytes_eq name) users)) e)
        ∙ sym (ap (λ (gs : List Held). entry_uses name user gs) cut
        ∙ not_left user (held_user name) (bytes_eq gone) hs
        (filtered_none (held_user name) user hs
        (subst (λ n. length (filter (held_user n) hs) ≡ 0) same none)))
    by false e =
        ap (λ o. list_any (bytes_eq user) (unwrap_or o []))
        (less name ∙ ap (λ b. cond b None (lookup (bytes_eq name) users)) e)
        ∙ were name user
