-- Taking out the entry of a name that no other entry uses.
use Rattle.std.proofs.Common.{◌≡◌, ℕ, ◌+◌, ◌||◌, ◌&&◌, not, Bool, true, false, cond, List, [], ◌∷◌}
use Rattle.std.proofs.Common.{◌++◌, length, length-append, filter, None, Some, refl, sym, ap, ◌∙◌}
use Rattle.std.proofs.Common.{subst, arith}
use Rattle.std.specs.List.{list_any}
use Rattle.std.specs.Str.{bytes_eq}
use Rattle.std.specs.Map.{lookup, remove_entry}
use Rattle.std.specs.Option.{option_map}
use Rattle.std.proofs.lemmas.List.Elements.{filter-append}
use Rattle.catalog_store.specs.declared.entry.Object.{Object as HeldObject}
use Rattle.catalog_store.specs.declared.entry.Object.TheVariants.{Table, Function as FunctionRecord}
use Rattle.catalog_store.specs.declared.entry.Object.TheVariants.{Interpreted as InterpretedRecord}
use Rattle.catalog_store.specs.declared.entry.Object.TheVariants.{Procedure as ProcedureRecord}
use Rattle.catalog_store.specs.Catalog.{Object, Entry, Catalog, object_named}
use Rattle.catalog_store.specs.Uses.{Uses, name_used, names_used, uses_in}
use Rattle.catalog_store.specs.Entries.{object_of, entry_of, with_all, ObjectFits, Stands, AreSound}
use Rattle.catalog_store.specs.Users.{mentions, is_user, users_of, without}
use Rattle.catalog_store.specs.Using.{held_user}
use Rattle.catalog_store.proofs.Named.{bytes_self, bytes_swap, other_bytes, named_kept, named_after}
use Rattle.catalog_store.proofs.Named.{same_bytes}
use Rattle.catalog_store.proofs.Named.{named_more, named_less, without_none, without_front}
use Rattle.catalog_store.proofs.Named.{without_last}
use Rattle.catalog_store.proofs.Sound.{Held, grown, SameStand, SameUses, same_stand_back}
use Rattle.catalog_store.proofs.Sound.{same_object, same_fits, named_in_all}
use Rattle.catalog_store.proofs.Trees.{Same, same_back}
use Rattle.catalog_store.proofs.Lasting.{AgreeIn, AllLasting, lasting_more, planned_back}
use Rattle.catalog_store.specs.Widths.{object_width, width_in}

one_or_none : (b : Bool) (e : Entry) → length (cond b (e ∷ []) []) ≡ cond b 1 0
one_or_none true e = refl
one_or_none false e = refl

users_one : (name : List ℕ) (known : Catalog) (e : Held) →
    length (filter (is_user name) (entry_of known e.0 e.1 ∷ [])) ≡ cond (held_user name e) 1 0
users_one name known (other, Table row_type) =
    one_or_none (held_user name (other, Table row_type)) (entry_of known other (Table row_type))
users_one name known (other, FunctionRecord r) =
    one_or_none (held_user name (other, FunctionRecord r)) (entry_of known other (FunctionRecord r))
users_one name known (other, InterpretedRecord f) =
    one_or_none (held_user name (other, InterpretedRecord f))
    (entry_of known other (InterpretedRecord f))
users_one name known (other, ProcedureRecord p) =
    one_or_none (held_user name (other, ProcedureRecord p))
    (entry_of known other (ProcedureRecord p))

length-filter-cons : {A : Type 0} (test : A → Bool) (x : A) (xs : List A) →
    length (filter test (x ∷ xs)) ≡ cond (test x) 1 0 + length (filter test xs)
length-filter-cons test x xs = by (test x)
  where
    by : (b : Bool) → length (cond b (x ∷ filter test xs) (filter test xs)) ≡ cond b 1 0 + length
        (filter test xs)
    by true = omega arith
    by false = omega arith

-- how many entries use a name, by the entries in memory
pub users-with_all : (name : List ℕ) (known : Catalog) (es : List Held) →
    users_of name (with_all known es) ≡ users_of name known + length (filter (held_user name) es)
users-with_all name known [] = omega arith
users-with_all name known (e ∷ es) =
    let next = entry_of known e.0 e.1 ∷ [] in
    omega (
      arith,
      users-with_all name (grown known e) es,
      ap (λ (k : Catalog). length k) (filter-append (is_user name) known next),
      length-append (filter (is_user name) known) (filter (is_user name) next),
      users_one name known e,
      length-filter-cons (held_user name) e es,
    )

first_unused : (name : List ℕ) (e : Held) (es : List Held) →
    length (filter (held_user name) (e ∷ es)) ≡ 0 → held_user name e ≡ false
first_unused name e es h = by (held_user name e) (sym (length-filter-cons (held_user name) e es) ∙
    h)
  where
    by : (b : Bool) → cond b 1 0 + length (filter (held_user name) es) ≡ 0 → b ≡ false
    by true h = absurd (omega arith)
    by false h = refl

others_unused : (name : List ℕ) (e : Held) (es : List Held) →
    length (filter (held_user name) (e ∷ es)) ≡ 0 → length (filter (held_user name) es) ≡ 0
others_unused name e es h = by (held_user name e) (sym (length-filter-cons (held_user name) e es) ∙
    h)
  where
    by : (b : Bool) → cond b 1 0 + length (filter (held_user name) es) ≡ 0 →
        length (filter (held_user name) es) ≡ 0
    by true h = omega arith
    by false h = omega arith

-- what other names stand for is the same
other_uses : (name : List ℕ) (known : Catalog) (us : Uses) → list_any (λ used. bytes_eq used name)
    (names_used us) ≡ false → Same known (without name known) us
other_uses name known [] h = tt
other_uses name known (u ∷ us) h = by (bytes_eq (name_used u) name) refl h
    (other_uses name known us)
  where
    by : (b : Bool) → bytes_eq (name_used u) name ≡ b →
        (b || list_any (λ used. bytes_eq used name) (names_used us)) ≡ false →
        (list_any (λ used. bytes_eq used name) (names_used us) ≡ false →
        Same known (without name known) us) → Same known (without name known) (u ∷ us)
    by true e h k = cc
    by false e h k =
        let apart : ¬ (name_used u ≡ name) = λ q.
        let t : bytes_eq (name_used u) name ≡ true =
        subst (λ (x : List ℕ). bytes_eq (name_used u) x ≡ true) q
        (bytes_self (name_used u)) in cc in
        (named_less name (name_used u) known apart, k h)

other_names : (name : List ℕ) (known : Catalog) (names : List (List ℕ)) →
    list_any (λ used. bytes_eq used name) names ≡ false → SameStand known (without name known) names
other_names name known [] h = tt
other_names name known (other ∷ names) h = by (bytes_eq other name) refl h
    (other_names name known names)
  where
    by : (b : Bool) → bytes_eq other name ≡ b → (b || list_any (λ used. bytes_eq used name) names) ≡
        false →
        (list_any (λ used. bytes_eq used name) names ≡ false →
        SameStand known (without name known) names) →
        SameStand known (without name known) (other ∷ names)
    by true e h k = cc
    by false e h k =
        let apart : ¬ (other ≡ name) =
        λ q. let t : bytes_eq other name ≡ true = subst (λ (x : List ℕ). bytes_eq other x ≡ true) q (bytes_self other) in cc in
        (named_less name other known apart, k h)

same_without : (name : List ℕ) (known : Catalog) (o : HeldObject) → ObjectFits known o →
    mentions name (object_of [] o) ≡ false → SameUses known (without name known) o
same_without name known (Table row_type) fits h = tt
same_without name known (FunctionRecord r) fits h =
    other_uses name known (uses_in r.body) (sym (fits.uses name) ∙ h)
same_without name known (InterpretedRecord f) fits h = other_names name known f.head.uses h
same_without name known (ProcedureRecord p) fits h = other_names name known p.head.uses h

-- of an entry of another name that isn't a user
mentions_not : (name : List ℕ) (e : Held) → bytes_eq e.0 name ≡ false → held_user name e ≡ false →
    mentions name (object_of [] e.1) ≡ false
mentions_not name e apart h = ap (λ b. not b && mentions name (object_of [] e.1)) (sym apart) ∙ h

-- the tables that are left have their columns
agree_without : (name : List ℕ) (known : Catalog) → object_named name (without name known) ≡ None →
    AgreeIn (without name known) (width_in known) (width_in (without name known))
agree_without name known gone other o h =
    let apart : ¬ (other ≡ name) =
    λ q. let t : object_named other (without name known) ≡ None = subst (λ (n : List ℕ). object_named n (without name known) ≡ None) (sym q) gone in cc in
    ap object_width (sym (named_less name other known apart))

same_uses_back : (known more : Catalog) (o : HeldObject) → SameUses known more o →
    SameUses more known o
same_uses_back known more (Table row_type) same = tt
same_uses_back known more (FunctionRecord r) same = same_back known more (uses_in r.body) same
same_uses_back known more (InterpretedRecord f) same = same_stand_back known more f.head.uses same
same_uses_back known more (ProcedureRecord p) same = same_stand_back known more p.head.uses same

stands_without : (name : List ℕ) (known : Catalog) (o : HeldObject) →
    AllLasting (without name known) → object_named name (without name known) ≡ None →
    SameUses known (without name known) o → Stands known o → Stands (without name known) o
stands_without name known o all gone same stands =
    let fits = same_fits known (without name known) o same stands.fits in
    record {
      fits = fits;
      planned = planned_back (without name known) known o all (agree_without name known gone) fits
          (same_uses_back known (without name known) o same) stands.planned;
    }

-- entries after one that goes stand for what they stood for
later : (name : List ℕ) (known : Catalog) (es : List Held) (o : Object) →
    AllLasting (without name known) → object_named name (without name known) ≡ None →
    object_named name known ≡ Some o → length (filter (held_user name) es) ≡ 0 → AreSound known es →
    AreSound (without name known) es × (with_all (without name known) es ≡ without name
    (with_all known es))
later name known [] o all gone stands unused sound = (tt, refl)
later name known (e ∷ es) o all gone stands unused sound =
    let differ : ¬ (e.0 ≡ name) =
    λ q. let t : object_named name known ≡ None = subst (λ (n : List ℕ). object_named n known ≡ None) q sound.0 in cc in
    let apart : bytes_eq e.0 name ≡ false = other_bytes e.0 name differ in
    let same = same_without name known e.1 sound.1.fits
    (mentions_not name e apart (first_unused name e es unused)) in
    let less : without name (grown known e) ≡ grown (without name known) e =
    without_front name known (entry_of known e.0 e.1 ∷ []) o stands
    ∙ ap (λ (x : Object). without name known ++ record { name = e.0; object = x } ∷ [])
    (sym (same_object known (without name known) e.1 same)) in
    let here = stands_without name known e.1 all gone same sound.1 in
    let rest = later name (grown known e) es o
    (subst AllLasting (sym less) (lasting_more (without name known) e all here.fits))
    (subst (λ (k : Catalog). object_named name k ≡ None) (sym less)
    (named_more name (without name known) (entry_of (without name known) e.0 e.1) apart ∙ gone))
    (named_kept name known (entry_of known e.0 e.1 ∷ []) o stands) (others_unused name e es unused)
    sound.2 in (
      (
        named_less name e.0 known differ ∙ sound.0,
        here,
        subst (λ (k : Catalog). AreSound k es) less
            rest.0,
      ),
      ap (λ (k : Catalog). with_all k es) (sym less) ∙ rest.1,
    )

-- the entries without that of a name are sound, and stand for the catalog without it
pub dropped : (name : List ℕ) (known : Catalog) (es : List Held) → AllLasting known →
    object_named name known ≡ None → length (filter (held_user name) es) ≡ 0 → AreSound known es →
    AreSound known (remove_entry (bytes_eq name) es) ×
    (with_all known (remove_entry (bytes_eq name) es) ≡ without name (with_all known es))
dropped name known [] all none unused sound = (tt, sym (without_none name known none))
dropped name known (e ∷ es) all none unused sound =
    by (bytes_eq name e.0) refl (λ h. dropped name (grown known e) es
    (lasting_more known e all sound.1.fits) h (others_unused name e es unused) sound.2)
  where
    by : (b : Bool) → bytes_eq name e.0 ≡ b →
        (object_named name (grown known e) ≡ None →
        AreSound (grown known e) (remove_entry (bytes_eq name) es) ×
        (with_all (grown known e) (remove_entry (bytes_eq name) es) ≡ without name
        (with_all (grown known e) es))) →
        AreSound known (cond b es (e ∷ remove_entry (bytes_eq name) es)) ×
        (with_all known (cond b es (e ∷ remove_entry (bytes_eq name) es)) ≡ without name
        (with_all (grown known e) es))
    by true q rest =
        let here : bytes_eq e.0 name ≡ true = bytes_swap e.0 name ∙ q in
        let stands : object_named name (grown known e) ≡ Some (object_of known e.1) =
        named_after name known (entry_of known e.0 e.1 ∷ []) none ∙
        ap (λ (b : Bool). cond b (Some (object_of known e.1)) None) here in
        let gone = without_last name known (entry_of known e.0 e.1) none here in
        let after = later name (grown known e) es (object_of known e.1)
        (subst AllLasting (sym gone) all)
        (subst (λ (k : Catalog). object_named name k ≡ None) (sym gone) none) stands
        (others_unused name e es unused) sound.2 in (
          subst (λ (k : Catalog). AreSound k es) gone after.0,
          ap (λ (k : Catalog). with_all k es)
              (sym gone) ∙ after.1,
        )
    by false q rest =
        let r = rest (named_more name known (entry_of known e.0 e.1) (bytes_swap e.0 name ∙ q) ∙
        none) in
        ((sound.0, sound.1, r.0), r.1)

-- no entry has a name twice
none_after : (name : List ℕ) (known : Catalog) (es : List Held) (o : Object) →
    object_named name known ≡ Some o → AreSound known es → lookup (bytes_eq name) es ≡ None
none_after name known [] o h sound = refl
none_after name known (e ∷ es) o h sound =
    by (bytes_eq name e.0) refl (none_after name (grown known e) es o
    (named_kept name known (entry_of known e.0 e.1 ∷ []) o h) sound.2)
  where
    by : (b : Bool) → bytes_eq name e.0 ≡ b → lookup (bytes_eq name) es ≡ None →
        cond b (Some e.1) (lookup (bytes_eq name) es) ≡ None
    by true q rest =
        let gone : object_named name known ≡ None =
        subst (λ (n : List ℕ). object_named n known ≡ None) (sym (same_bytes name e.0 q)) sound.0 in
        absurd cc
    by false q rest = rest

one_removed : (name : List ℕ) (known : Catalog) (es : List Held) → AreSound known es →
    object_named name known ≡ None →
    lookup (bytes_eq name) (remove_entry (bytes_eq name) es) ≡ None
one_removed name known [] sound none = refl
one_removed name known (e ∷ es) sound none =
    by (bytes_eq name e.0) refl (λ k. one_removed name (grown known e) es sound.2 k)
  where
    by : (b : Bool) → bytes_eq name e.0 ≡ b →
        (object_named name (grown known e) ≡ None →
        lookup (bytes_eq name) (remove_entry (bytes_eq name) es) ≡ None) →
        lookup (bytes_eq name) (cond b es (e ∷ remove_entry (bytes_eq name) es)) ≡ None
    by true q rest = none_after name (grown known e) es (object_of known e.1)
        (named_after name known (entry_of known e.0 e.1 ∷ []) none ∙
        ap (λ (b : Bool). cond b (Some (object_of known e.1)) None) (bytes_swap e.0 name ∙ q))
        sound.2
    by false q rest = ap (λ c. cond c (Some e.1) (lookup (bytes_eq name)
        (remove_entry (bytes_eq name) es))) q
        ∙ rest (named_more name known (entry_of known e.0 e.1) (bytes_swap e.0 name ∙ q) ∙ none)

-- the name that is taken out stands for nothing
pub gone_from : (name : List ℕ) (es new : List Held) → AreSound [] es → AreSound [] new →
    new ≡ remove_entry (bytes_eq name) es → object_named name (with_all [] new) ≡ None
gone_from name es new sound left cut =
    named_in_all name [] new left refl
    ∙ ap (option_map (object_of (with_all [] new)))
    (ap (lookup (bytes_eq name)) cut ∙ one_removed name [] es sound refl)
