-- What the heads of routines say of what their bodies call.
use Rattle.std.proofs.Common.{◌≡◌, ℕ, Bool, true, false, cond, ◌&&◌, ◌||◌, not, List, [], ◌∷◌}
use Rattle.std.proofs.Common.{◌++◌, length, refl, sym, ap, ◌∙◌, subst, arith}
use Rattle.std.proofs.lemmas.List.{append-nil, append_assoc}
use Rattle.std.specs.List.{AllByRecursion}
use Rattle.std.specs.Prelude.{IsSome, filter}
use Rattle.std.specs.Str.{bytes_eq}
use Rattle.catalog_store.specs.declared.entry.Object.{Object as HeldObject}
use Rattle.catalog_store.specs.declared.entry.Object.TheVariants.{Table, Function as FunctionRecord}
use Rattle.catalog_store.specs.declared.entry.Object.TheVariants.{Interpreted as InterpretedRecord}
use Rattle.catalog_store.specs.declared.entry.Object.TheVariants.{Procedure as ProcedureRecord}
use Rattle.catalog_store.specs.Catalog.{Object, TableObject, FunctionObject, InterpretedObject}
use Rattle.catalog_store.specs.Catalog.{ProcedureObject, Entry, Catalog, object_named}
use Rattle.catalog_store.specs.Entries.{object_of, entry_of, with_all, ObjectFits, AreSound}
use Rattle.catalog_store.specs.Users.{mentions, is_user, users_of}
use Rattle.catalog_store.specs.Uses.{UsesStand}
use Rattle.catalog_store.proofs.Laws.{same_bytes}
use Rattle.viewing_laws.specs.Calls.{CalledNames}
use Rattle.viewing_laws.specs.Standing.{object_calls, StandsBeside, CallsStandAfter, is_called}
use Rattle.viewing_laws.specs.Standing.{is_caller, callers_of, head_names, HeadLists, HeadsSuffice}
use Rattle.viewing_laws.proofs.Deciding.{each_so}

-- ---- in a sound catalog

-- what the head of a routine without a plan lists stands in the catalog
abbrev HeadStands : Catalog → Object → Type 0
HeadStands known (TableObject row_type) = Unit {0}
HeadStands known (FunctionObject f) = Unit {0}
HeadStands known (InterpretedObject f) = UsesStand known f.uses
HeadStands known (ProcedureObject p) = UsesStand known p.uses

-- each of these entries, over what stands before it
abbrev HeadsStandAfter : Catalog → Catalog → Type 0
HeadsStandAfter known [] = Unit {0}
HeadsStandAfter known (e ∷ es) =
    HeadStands known e.object × HeadsStandAfter (known ++ e ∷ []) es

one_more : (known es : Catalog) (e : Entry) → HeadsStandAfter known es →
    HeadStands (known ++ es) e.object → HeadsStandAfter known (es ++ e ∷ [])
one_more known [] e h k =
    (subst (λ (c : Catalog). HeadStands c e.object) (append-nil known) k, tt)
one_more known (x ∷ xs) e h k = (
  h.0,
  one_more (known ++ x ∷ []) xs e h.1
      (subst (λ (c : Catalog). HeadStands c e.object) (sym (append_assoc known (x ∷ []) xs)) k),
)

head_stands : (known : Catalog) (o : HeldObject) → ObjectFits known o →
    HeadStands known (object_of known o)
head_stands known (Table row_type) fits = tt
head_stands known (FunctionRecord r) fits = tt
head_stands known (InterpretedRecord f) fits = fits
head_stands known (ProcedureRecord p) fits = fits

sound_heads : (known : Catalog) (es : List (List ℕ × HeldObject)) → HeadsStandAfter [] known →
    AreSound known es → HeadsStandAfter [] (with_all known es)
sound_heads known [] h sound = h
sound_heads known (e ∷ es) h sound = sound_heads (known ++ entry_of known e.0 e.1 ∷ []) es
    (one_more [] known (entry_of known e.0 e.1) h (head_stands known e.1 sound.1.fits)) sound.2

-- what is listed stands
listed_stands : (known : Catalog) (name : List ℕ) (names : List (List ℕ)) →
    UsesStand known names → is_called name names ≡ true → IsSome (object_named name known)
listed_stands known name [] s h = cc
listed_stands known name (x ∷ xs) s h =
    by (bytes_eq x name) refl h (listed_stands known name xs s.1)
  where
    by : (b : Bool) → bytes_eq x name ≡ b → (b || is_called name xs) ≡ true →
        (is_called name xs ≡ true → IsSome (object_named name known)) →
        IsSome (object_named name known)
    by true q h rest = subst (λ (n : List ℕ). IsSome (object_named n known)) (same_bytes x name q)
        s.0
    by false q h rest = rest h

called_stand : (known : Catalog) (own : List ℕ) (uses : List (List ℕ)) (calls : CalledNames) →
    UsesStand known uses →
    AllByRecursion (λ name. bytes_eq own name ≡ false → is_called name uses ≡ true) calls →
    AllByRecursion (StandsBeside own known) calls
called_stand known own uses calls s h = each_so
    (λ name. bytes_eq own name ≡ false → is_called name uses ≡ true) (StandsBeside own known)
    (λ name f q. listed_stands known name uses s (f q)) calls h

entry_stands : (known : Catalog) (own : List ℕ) (o : Object) → HeadStands known o →
    HeadLists (record { name = own; object = o }) →
    AllByRecursion (StandsBeside own known) (object_calls o)
entry_stands known own (TableObject row_type) s h = tt
entry_stands known own (FunctionObject f) s h = tt
entry_stands known own (InterpretedObject f) s h =
    called_stand known own f.uses (object_calls (InterpretedObject f)) s h
entry_stands known own (ProcedureObject p) s h =
    called_stand known own p.uses (object_calls (ProcedureObject p)) s h

calls_stand : (known es : Catalog) → HeadsStandAfter known es → AllByRecursion HeadLists es →
    CallsStandAfter known es
calls_stand known [] s h = tt
calls_stand known (e ∷ es) s h =
    (entry_stands known e.name e.object s.0 h.0, calls_stand (known ++ e ∷ []) es s.1 h.1)

-- ---- users and callers

-- what an object mentions is what its head lists
mentions_listed : (name : List ℕ) (o : Object) → mentions name o ≡ is_called name (head_names o)
mentions_listed name (TableObject row_type) = refl
mentions_listed name (FunctionObject f) = refl
mentions_listed name (InterpretedObject f) = refl
mentions_listed name (ProcedureObject p) = refl

-- what the head doesn't list isn't called
unlisted : (own name : List ℕ) (uses : List (List ℕ)) (calls : CalledNames) →
    AllByRecursion (λ called. bytes_eq own called ≡ false → is_called called uses ≡ true) calls →
    bytes_eq own name ≡ false → is_called name uses ≡ false → is_called name calls ≡ false
unlisted own name uses [] h other none = refl
unlisted own name uses (x ∷ xs) h other none =
    by (bytes_eq x name) refl (unlisted own name uses xs h.1 other none)
  where
    by : (b : Bool) → bytes_eq x name ≡ b → is_called name xs ≡ false →
        (b || is_called name xs) ≡ false
    by true q rest =
        let same = same_bytes x name q in
        let listed : is_called name uses ≡ true =
        subst (λ (n : List ℕ). bytes_eq own n ≡ false → is_called n uses ≡ true) same h.0 other
        in cc
    by false q rest = rest

no_caller : (name : List ℕ) (e : Entry) → HeadLists e → is_user name e ≡ false →
    is_caller name e ≡ false
no_caller name e h none = by (bytes_eq e.name name) refl none
  where
    by : (b : Bool) → bytes_eq e.name name ≡ b → (not b && mentions name e.object) ≡ false →
        (not b && is_called name (object_calls e.object)) ≡ false
    by true q none = refl
    by false q none = unlisted e.name name (head_names e.object) (object_calls e.object) h q
        (sym (mentions_listed name e.object) ∙ none)

none_call : (name : List ℕ) (es : Catalog) → AllByRecursion HeadLists es →
    users_of name es ≡ 0 → callers_of name es ≡ 0
none_call name [] h none = refl
none_call name (e ∷ es) h none =
    by (is_user name e) refl none (none_call name es h.1)
  where
    by : (b : Bool) → is_user name e ≡ b →
        length (cond b (e ∷ filter (is_user name) es) (filter (is_user name) es)) ≡ 0 →
        (users_of name es ≡ 0 → callers_of name es ≡ 0) → callers_of name (e ∷ es) ≡ 0
    by true q none rest = absurd (omega arith)
    by false q none rest =
        ap (λ b. length (cond b (e ∷ filter (is_caller name) es) (filter (is_caller name) es)))
        (no_caller name e h.0 q) ∙ rest none

pub heads_suffice : HeadsSuffice
heads_suffice = record {
  stand = λ es sound h. calls_stand [] (with_all [] es) (sound_heads [] es tt sound) h;
  unused = λ name known h none. none_call name known h none;
}
