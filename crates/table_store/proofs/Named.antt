-- The table of a name, in a list of named ones.
use Rattle.std.proofs.Common.{ℕ, zero, suc, ◌≡◌, ◌+◌, Bool, true, false, not, List, [], ◌∷◌, ◌++◌}
use Rattle.std.proofs.Common.{refl, sym, ap, ◌∙◌, subst, cond, map, option_map, Option, Some, None}
use Rattle.std.proofs.Common.{nat_lt, length, remove, arith}
use Rattle.std.proofs.lemmas.Bool.Decides.{nat_tests}
use Rattle.std.specs.List.{position, position_or_len, IsDistinct}
use Rattle.std.specs.Map.{keys_of, lookup}
use Rattle.std.specs.Str.{bytes_eq}
use Rattle.std.specs.Cmp.Lexicographic.{nat_list_eq_equiv}
use Rattle.row_types.specs.Tables.{Table, table_named, place_named, names_of}
use Rattle.table_store.specs.Kept.{Kept}
use Rattle.table_store.specs.Memory.{Named, Memory, stored_of, capacity_of, memory_of, kept_at}
use Rattle.table_store.specs.Memory.{table_of, without_place, with_one_more}

same : (a b : List ℕ) → bytes_eq a b ≡ bytes_eq b a
same a b = nat_list_eq_equiv.symm a b

further : (t : Bool) (k : ℕ) → cond t (Some (1 + k)) None ≡ option_map suc (cond t (Some k) None)
further true k = let e : 1 + k ≡ suc k = omega arith in ap (λ j. Some j) e
further false k = refl

both_on : (k n : ℕ) → nat_lt (1 + k) (suc n) ≡ nat_lt k n
both_on k n = grind (arith, nat_tests)

any_on : (n : ℕ) → nat_lt 0 (suc n) ≡ true
any_on n = grind (arith, nat_tests)

one_on : (b : Bool) (k n : ℕ) → cond (nat_lt (cond (not b) (1 + k) 0) (suc n))
    (Some (cond (not b) (1 + k) 0)) None ≡ cond b (Some 0)
    (option_map suc (cond (nat_lt k n) (Some k) None))
one_on true k n = ap (λ t. cond t (Some 0) None) (any_on n)
one_on false k n = ap (λ t. cond t (Some (1 + k)) None) (both_on k n) ∙ further (nat_lt k n) k

-- where a name stands among the keys
pub place_there : (name : List ℕ) (ns : List Named) →
    position (bytes_eq name) (keys_of ns) ≡ place_named name (map stored_of ns)
place_there name [] = refl
place_there name (n ∷ ns) =
    one_on (bytes_eq name n.0) (position_or_len (bytes_eq name) (keys_of ns)) (length (keys_of ns))
    ∙ ap (λ b. cond b (Some 0) (option_map suc (position (bytes_eq name) (keys_of ns))))
    (same name n.0)
    ∙ ap (λ o. cond (bytes_eq n.0 name) (Some 0) (option_map suc o)) (place_there name ns)

table_by : (b : Bool) (k : Kept) (o : Option Kept) (r : Option Table) → option_map table_of o ≡ r →
    option_map table_of (cond b (Some k) o) ≡ cond b (Some k.table) r
table_by true k o r h = refl
table_by false k o r h = h

-- the table of a name
pub table_there : (name : List ℕ) (ns : List Named) →
    option_map table_of (lookup (bytes_eq name) ns) ≡ table_named name (map stored_of ns)
table_there name [] = refl
table_there name (n ∷ ns) =
    table_by (bytes_eq name n.0) n.1 (lookup (bytes_eq name) ns)
    (table_named name (map stored_of ns)) (table_there name ns)
    ∙ ap (λ b. cond b (Some n.1.table) (table_named name (map stored_of ns))) (same name n.0)

none_from : (o : Option Kept) → option_map table_of o ≡ None → o ≡ None
none_from None h = refl
none_from (Some k) h = cc

-- no key is a free name
pub free_there : (name : List ℕ) (ns : List Named) → table_named name (map stored_of ns) ≡ None →
    lookup (bytes_eq name) ns ≡ None
free_there name ns h = none_from (lookup (bytes_eq name) ns) (table_there name ns ∙ h)

kept_by : (b : Bool) (n : Named) (ns : List Named) (o : Option Kept) (p : Option ℕ) →
    o ≡ option_map (kept_at (memory_of ns)) p
    → cond b (Some n.1) o ≡ option_map (kept_at (memory_of (n ∷ ns)))
    (cond b (Some 0) (option_map suc p))
kept_by true n ns o p h = refl
kept_by false n ns o None h = h
kept_by false n ns o (Some i) h = h

-- the table of a name, by its place
pub kept_there : (name : List ℕ) (ns : List Named) → lookup (bytes_eq name) ns ≡ option_map
    (kept_at (memory_of ns)) (place_named name (map stored_of ns))
kept_there name [] = refl
kept_there name (n ∷ ns) =
    ap (λ b. cond b (Some n.1) (lookup (bytes_eq name) ns)) (same name n.0)
    ∙ kept_by (bytes_eq n.0 name) n ns (lookup (bytes_eq name) ns)
    (place_named name (map stored_of ns)) (kept_there name ns)

-- names are the keys
names_there : (ns : List Named) → names_of (map stored_of ns) ≡ keys_of ns
names_there [] = refl
names_there (n ∷ ns) = ap (λ (xs : List (List ℕ)). n.0 ∷ xs) (names_there ns)

pub distinct_there : (ns : List Named) (m : Memory) → memory_of ns ≡ m →
    IsDistinct bytes_eq (keys_of ns) → IsDistinct bytes_eq (names_of m.tables)
distinct_there ns m e h = subst (IsDistinct bytes_eq)
    (sym (names_there ns) ∙ ap (λ (x : Memory). names_of x.tables) e) h

map-remove : {A : Type 0} (g : Named → A) (ns : List Named) (i : ℕ) →
    map g (remove ns i) ≡ remove (map g ns) i
map-remove g [] zero = refl
map-remove g [] (suc i) = refl
map-remove g (n ∷ ns) zero = refl
map-remove {A = A} g (n ∷ ns) (suc i) = ap (λ (xs : List A). g n ∷ xs) (map-remove g ns i)

pub memory-remove : (ns : List Named) (i : ℕ) →
    memory_of (remove ns i) ≡ without_place (Some i) (memory_of ns)
memory-remove ns i = λ k. record {
  tables = map-remove stored_of ns i k;
  capacities =
      map-remove capacity_of ns i k;
}

-- ---- a table more

map-push : {A : Type 0} (g : Named → A) (ns : List Named) (n : Named) →
    map g (ns ++ n ∷ []) ≡ map g ns ++ g n ∷ []
map-push g [] n = refl
map-push {A = A} g (m ∷ ns) n = ap (λ (xs : List A). g m ∷ xs) (map-push g ns n)

pub memory-push : (ns : List Named) (name : List ℕ) (k : Kept) →
    memory_of (ns ++ (name, k) ∷ []) ≡ with_one_more (memory_of ns) name k
memory-push ns name k = λ i. record {
  tables = map-push stored_of ns (name, k) i;
  capacities =
      map-push capacity_of ns (name, k) i;
}
