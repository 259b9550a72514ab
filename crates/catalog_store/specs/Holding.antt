-- Entries by the numbers of their making, with what is kept beside them.
use Rattle.std.specs.Prelude.{◌≡◌, ℕ, ◌<◌, ◌-◌, ◌&&◌, ◌||◌, true, List, map, nat_lt, Some, None}
use Rattle.std.specs.Prelude.{if◌then◌else◌}
use Rattle.std.specs.List.{IsDistinct, list_all}
use Rattle.std.specs.List.Sorted.{IsStrictlySortedBy}
use Rattle.std.specs.Map.{keys_of, lookup}
use Rattle.std.specs.Ordering.{nat_cmp}
use Rattle.std.specs.Str.{bytes_eq}
use Rattle.catalog_store.specs.declared.entry.Object.{Object as HeldObject}
use Rattle.catalog_store.specs.declared.numbered.Numbered.{Numbered}
use Rattle.catalog_store.specs.declared.numbered.Entries.{Entries}
use Rattle.catalog_store.specs.Using.{Held, entry_uses, has_user, held_user}

-- the objects with their names, in the order of their numbers
abbrev pub held_of : List (ℕ × Numbered) → List Held
held_of es = map (λ e. (e.1.name, e.1.object)) es

-- the names with their numbers
abbrev pub numbers_of : List (ℕ × Numbered) → List (List ℕ × ℕ)
numbers_of es = map (λ e. (e.1.name, e.0)) es

-- the objects with their names, in the order of their making
abbrev pub held : Entries → List Held
held s = held_of s.entries.entries

-- the numbers climb, all of them below another
pub record Climb (es : List (ℕ × Numbered)) (next : ℕ) : Type 0 where
  pub ordered : IsStrictlySortedBy nat_cmp (keys_of es)
  pub below : list_all (λ e. nat_lt e.0 next) es ≡ true
  pub distinct : IsDistinct bytes_eq (keys_of (held_of es))

-- Each name has its number, and each name that is used has its users.
pub record Holds (s : Entries) : Type 0 where
  pub climb : Climb s.entries.entries s.next
  pub named : (name : List ℕ) → lookup (bytes_eq name) s.numbers.entries ≡ lookup (bytes_eq name)
      (numbers_of s.entries.entries)
  pub used : (name user : List ℕ) → has_user name user s.users.entries ≡ entry_uses name user
      (held s)

-- The same, where the last number is that of an entry which comes, and its uses are noted.
pub record Awaits (s : Entries) (entry : List ℕ) (object : HeldObject) : Type 0 where
  pub past : 0 < s.next
  pub climb : Climb s.entries.entries (s.next - 1)
  pub free : lookup (bytes_eq entry) (held s) ≡ None
  pub named : (name : List ℕ) → lookup (bytes_eq name) s.numbers.entries ≡
      (if bytes_eq entry name then Some (s.next - 1) else lookup (bytes_eq name)
      (numbers_of s.entries.entries))
  pub used : (name user : List ℕ) → has_user name user s.users.entries ≡
      (entry_uses name user (held s) || (bytes_eq entry user && held_user name (entry, object)))
