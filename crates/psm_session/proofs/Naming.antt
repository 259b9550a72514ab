-- The names of tables, as tables come and go, and where they stay.
use Rattle.std.proofs.Common.{◌≡◌, ◌<◌, ◌≤◌, ◌+◌, ℕ, suc, arith, Bool, true, false, List, [], ◌∷◌, ◌++◌, length}
use Rattle.std.proofs.Common.{get_or, take, drop, map, refl, sym, ap, ◌∙◌, append_assoc, append-nil}
use Rattle.std.proofs.lemmas.List.{take_more, drop_more, take_all, drop_all}
use Rattle.row_types.specs.Tables.{Stored, Tables, names_of, without_table_named}
use Rattle.catalog_store.specs.declared.entry.Object.{Object as HeldObject}
use Rattle.catalog_store.specs.declared.entry.Object.TheVariants as held
use Rattle.catalog_store.specs.Catalog.{Catalog}
use Rattle.catalog_store.specs.Entries.{object_of}
use Rattle.psm_effects.specs.Effects.{with_table_of}
use Rattle.psm_effects.specs.Shapes.{Shape, shapes_of, shapes_in}
use Rattle.std.specs.Prelude.{if◌then◌else◌}
use Rattle.std.specs.List.{remove}
use Rattle.std.specs.Str.{bytes_eq}
use Rattle.psm_session.specs.Names.{names_of_object, without_name}

-- ---- in the list

module _ (name : List ℕ) (names : List (List ℕ)) (at : ℕ) (n : List ℕ) (there : at < length names)
    (is : n ≡ get_or names at n) where
  rest : drop at names ≡ n ∷ drop (at + 1) names
  rest = drop_more names at n there ∙ ap (λ x. x ∷ drop (at + 1) names) (sym is)

  front : take (at + 1) names ≡ take at names ++ n ∷ []
  front = take_more names at n there ∙ ap (λ x. take at names ++ x ∷ []) (sym is)

  -- another name is passed over
  pub name_passed : bytes_eq n name ≡ false →
      without_name name names ≡ take at names ++ without_name name (drop at names) →
      without_name name names ≡ take (at + 1) names ++ without_name name (drop (at + 1) names)
  name_passed other before =
      before ∙ ap (λ (ns : List (List ℕ)). take at names ++ without_name name ns) rest ∙
      ap (λ b. take at names ++ (if b then drop (at + 1) names else n ∷
      without_name name (drop (at + 1) names))) other
      ∙ sym (append_assoc (take at names) (n ∷ []) (without_name name (drop (at + 1) names))) ∙
      ap (λ (ns : List (List ℕ)). ns ++ without_name name (drop (at + 1) names)) (sym front)

  -- where the name stands, the others are left
  pub name_removed : bytes_eq n name ≡ true →
      without_name name names ≡ take at names ++ without_name name (drop at names) →
      remove names at ≡ without_name name names
  name_removed same before =
      let e : at + 1 ≡ suc at = omega arith in
      sym (before ∙ ap (λ (ns : List (List ℕ)). take at names ++ without_name name ns) rest ∙
      ap (λ b. take at names ++ (if b then drop (at + 1) names else n ∷
      without_name name (drop (at + 1) names))) same
      ∙ ap (λ (k : ℕ). take at names ++ drop k names) e)

-- where no name so far was the one, and there is no other, it does not stand there
pub name_absent : (name : List ℕ) (names : List (List ℕ)) (at : ℕ) → length names ≤ at →
    without_name name names ≡ take at names ++ without_name name (drop at names) →
    names ≡ without_name name names
name_absent name names at end before =
    sym (before ∙ ap (λ (ns : List (List ℕ)). take at names ++ without_name name ns)
    (drop_all at names end) ∙ append-nil (take at names) ∙ take_all at names end)

-- ---- of the tables

names-more : (ts : Tables) (s : Stored) → names_of (ts ++ s ∷ []) ≡ names_of ts ++ s.name ∷ []
names-more [] s = refl
names-more (t ∷ ts) s = ap (λ (ns : List (List ℕ)). t.name ∷ ns) (names-more ts s)

-- a new entry of the catalog has the name of its table, where it is one
pub names-made : (known : Catalog) (name : List ℕ) (o : HeldObject) (ts : Tables) →
    names_of (with_table_of name (object_of known o) ts) ≡ names_of ts ++ names_of_object name o
names-made known name (held.Table row_type) ts = names-more ts _
names-made known name (held.Function r) ts = sym (append-nil (names_of ts))
names-made known name (held.Interpreted f) ts = sym (append-nil (names_of ts))
names-made known name (held.Procedure p) ts = sym (append-nil (names_of ts))

-- a table goes with its name
pub names-dropped : (name : List ℕ) (ts : Tables) →
    names_of (without_table_named name ts) ≡ without_name name (names_of ts)
names-dropped name [] = refl
names-dropped name (s ∷ ss) = by (bytes_eq s.name name) (names-dropped name ss)
  where
    by : (b : Bool) → names_of (without_table_named name ss) ≡ without_name name (names_of ss) →
        names_of (if b then ss else s ∷ without_table_named name ss) ≡
        (if b then names_of ss else s.name ∷ without_name name (names_of ss))
    by true h = refl
    by false h = ap (λ (ns : List (List ℕ)). s.name ∷ ns) h

names-shaped : (ts : Tables) → names_of ts ≡ map (λ (s : Shape). s.name) (shapes_of ts)
names-shaped [] = refl
names-shaped (s ∷ ss) = ap (λ (ns : List (List ℕ)). s.name ∷ ns) (names-shaped ss)

-- the names stay where the tables are those of the same catalog
pub names-stay : (known : Catalog) (old new : Tables) (names : List (List ℕ)) →
    names ≡ names_of old → shapes_of old ≡ shapes_in known → shapes_of new ≡ shapes_in known →
    names ≡ names_of new
names-stay known old new names are before after =
    are ∙ names-shaped old ∙ ap (λ (ss : List Shape). map (λ (s : Shape). s.name) ss)
    (before ∙ sym after) ∙ sym (names-shaped new)
