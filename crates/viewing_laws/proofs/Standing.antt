-- What a name stands for is its object, seen by the whole catalog, and other entries come and go.
use Rattle.std.proofs.Common.{◌≡◌, ℕ, Bool, true, false, cond, ◌&&◌, ◌||◌, not, List, [], ◌∷◌}
use Rattle.std.proofs.Common.{◌++◌, length, Option, None, Some, refl, sym, ap, ◌∙◌, subst, arith}
use Rattle.std.proofs.lemmas.Map.Keys.{IsDistinct-head, IsDistinct-tail}
use Rattle.std.specs.List.{AllByRecursion, IsDistinct}
use Rattle.std.specs.Prelude.{IsSome, filter}
use Rattle.std.specs.Str.{bytes_eq}
use Rattle.rel_algebra.specs.Tree.{Function as FunctionTree, Procedure as ProcedureTree, Routine}
use Rattle.catalog_store.specs.Catalog.{Object, TableObject, FunctionObject}
use Rattle.catalog_store.specs.Catalog.{
  InterpretedObject,
  ProcedureObject,
  Entry,
  Catalog,
  names_of,
}
use Rattle.catalog_store.specs.Catalog.{object_named, missing}
use Rattle.catalog_store.specs.Users.{without}
use Rattle.catalog_store.proofs.Laws.{bytes_self, bytes_swap, other_bytes, same_bytes}
use Rattle.catalog_store.proofs.Laws.{named_after}
use Rattle.routine_views.specs.Routines.{with_modes, entry_view, with_entry, with_entries}
use Rattle.routine_views.specs.Routines.{routines_of}
use Rattle.viewing_laws.specs.Calls.{CalledNames}
use Rattle.viewing_laws.specs.Standing.{object_calls, StandsBeside, CallsStandAfter, is_called}
use Rattle.viewing_laws.specs.Standing.{is_caller, callers_of, RoutinesByName, AddingLeavesViews}
use Rattle.viewing_laws.specs.Standing.{DroppingLeavesViews}
use Rattle.viewing_laws.proofs.Deciding.{each_so, routines_decide}

-- ---- names

apart : (x y : List ℕ) → bytes_eq x y ≡ false → ¬ (x ≡ y)
apart x y e q =
    let t : bytes_eq x y ≡ true =
    subst (λ (z : List ℕ). bytes_eq x z ≡ true) q (bytes_self x) in cc

-- what isn't among entries is not the first of them
not_first : (name : List ℕ) (e : Entry) (es : Catalog) → object_named name (e ∷ es) ≡ None →
    (bytes_eq e.name name ≡ false) × (object_named name es ≡ None)
not_first name e es h = by (bytes_eq e.name name) refl h
  where
    by : (b : Bool) → bytes_eq e.name name ≡ b →
        cond b (Some e.object) (object_named name es) ≡ None →
        (bytes_eq e.name name ≡ false) × (object_named name es ≡ None)
    by true q h = cc
    by false q h = (q, h)

-- a name that none of them has stands for nothing
absent : (name : List ℕ) (es : Catalog) →
    AllByRecursion (λ other. bytes_eq name other ≡ false) (names_of es) →
    object_named name es ≡ None
absent name [] h = refl
absent name (e ∷ es) h =
    ap (λ b. cond b (Some e.object) (object_named name es)) (bytes_swap e.name name ∙ h.0) ∙
    absent name es h.1

-- ---- entries

-- with entries of other names a name stands for what it stood for
pub past : (r : List ℕ → Routine) (es : Catalog) (name : List ℕ) → object_named name es ≡ None →
    with_entries r es name ≡ r name
past r [] name h = refl
past r (e ∷ es) name h =
    let other = not_first name e es h in
    past (with_entry r e) es name other.1 ∙
    ap (λ b. cond b (entry_view r e.name e.object) (r name)) other.0

-- entries one after another
pub with-append : (r : List ℕ → Routine) (xs ys : Catalog) →
    with_entries r (xs ++ ys) ≡ with_entries (with_entries r xs) ys
with-append r [] ys = refl
with-append r (x ∷ xs) ys = with-append (with_entry r x) xs ys

-- An object is seen the same where what it calls beside itself stands for the same.
pub view-same : (r s : List ℕ → Routine) (name : List ℕ) (o : Object) →
    AllByRecursion (λ called. bytes_eq name called ≡ false → r called ≡ s called)
    (object_calls o) → entry_view r name o ≡ entry_view s name o
view-same r s name (TableObject row_type) h = refl
view-same r s name (FunctionObject f) h = refl
view-same r s name (InterpretedObject f) h =
    ap (FunctionTree f.self_calling f.parameters f.returns f.null_call)
    ((routines_decide (Some (record { name = name; parameters = with_modes [] f.parameters })) r
    s).statements f.body h [])
view-same r s name (ProcedureObject p) h =
    ap (ProcedureTree p.self_calling (with_modes p.modes p.parameters))
    ((routines_decide (Some (record {
      name = name;
      parameters = with_modes p.modes p.parameters;
    })) r s).statements p.body h [])

-- ---- each object is seen by the whole catalog

-- what stands for something in the one stands for nothing in the other
abbrev Apart : Catalog → Catalog → Type 0
Apart known es = (name : List ℕ) → IsSome (object_named name known) → object_named name es ≡ None

apart_more : (known : Catalog) (e : Entry) (es : Catalog) → Apart known (e ∷ es) →
    IsDistinct bytes_eq (names_of (e ∷ es)) → Apart (known ++ e ∷ []) es
apart_more known e es a d name s = by (object_named name known) refl
  where
    last : (b : Bool) → bytes_eq e.name name ≡ b → IsSome (cond b (Some e.object) None) →
        object_named name es ≡ None
    last true q h = subst (λ (n : List ℕ). object_named n es ≡ None) (same_bytes e.name name q)
        (absent e.name es (IsDistinct-head bytes_eq e.name (names_of es) d))
    last false q h = absurd cc

    by : (o : Option Object) → object_named name known ≡ o → object_named name es ≡ None
    by None h = last (bytes_eq e.name name) refl
        (subst (λ (o : Option Object). IsSome o) (named_after name known (e ∷ []) h) s)
    by (Some o) h =
        let there : IsSome (object_named name known) =
        subst (λ (p : Option Object). IsSome p) (sym h) refl in
        (not_first name e es (a name there)).1

pub seen-after : (r : List ℕ → Routine) (known es : Catalog) → Apart known es →
    IsDistinct bytes_eq (names_of es) → CallsStandAfter known es → (name : List ℕ) (o : Object) →
    object_named name es ≡ Some o →
    with_entries r es name ≡ entry_view (with_entries r es) name o
seen-after r known [] a d calls name o h = cc
seen-after r known (e ∷ es) a d calls name o h =
    by (bytes_eq e.name name) refl h
    (seen-after (with_entry r e) (known ++ e ∷ []) es (apart_more known e es a d)
    (IsDistinct-tail bytes_eq e.name (names_of es) d) calls.1 name o)
  where
    -- the first of them, by its own name
    first : with_entries r (e ∷ es) e.name ≡
        entry_view (with_entries r (e ∷ es)) e.name e.object
    first =
        past (with_entry r e) es e.name
        (absent e.name es (IsDistinct-head bytes_eq e.name (names_of es) d)) ∙
        ap (λ b. cond b (entry_view r e.name e.object) (r e.name)) (bytes_self e.name) ∙
        view-same r (with_entries r (e ∷ es)) e.name e.object
        (each_so (StandsBeside e.name known)
        (λ called. bytes_eq e.name called ≡ false → r called ≡ with_entries r (e ∷ es) called)
        (λ called s q. sym (past r (e ∷ es) called (a called (s q))))
        (object_calls e.object) calls.0)

    by : (b : Bool) → bytes_eq e.name name ≡ b →
        cond b (Some e.object) (object_named name es) ≡ Some o →
        (object_named name es ≡ Some o →
        with_entries (with_entry r e) es name ≡
        entry_view (with_entries (with_entry r e) es) name o) →
        with_entries r (e ∷ es) name ≡ entry_view (with_entries r (e ∷ es)) name o
    by true q h rest =
        let object : e.object ≡ o = cc in
        subst (λ (n : List ℕ). with_entries r (e ∷ es) n ≡ entry_view (with_entries r (e ∷ es)) n o)
        (same_bytes e.name name q)
        (first ∙ ap (entry_view (with_entries r (e ∷ es)) e.name) object)
    by false q h rest = rest h

-- of what needs no other routine
pub found : (r : List ℕ → Routine) (es : Catalog) → IsDistinct bytes_eq (names_of es) →
    (name : List ℕ) (o : Object) (t : Routine) → object_named name es ≡ Some o →
    ((s : List ℕ → Routine) → entry_view s name o ≡ t) → with_entries r es name ≡ t
found r [] d name o t h f = cc
found r (e ∷ es) d name o t h f =
    by (bytes_eq e.name name) refl h
    (λ k. found (with_entry r e) es (IsDistinct-tail bytes_eq e.name (names_of es) d) name o t k f)
  where
    by : (b : Bool) → bytes_eq e.name name ≡ b →
        cond b (Some e.object) (object_named name es) ≡ Some o →
        (object_named name es ≡ Some o → with_entries (with_entry r e) es name ≡ t) →
        with_entries r (e ∷ es) name ≡ t
    by true q h rest =
        let object : e.object ≡ o = cc in
        let same = same_bytes e.name name q in
        past (with_entry r e) es name
        (subst (λ (n : List ℕ). object_named n es ≡ None) same
        (absent e.name es (IsDistinct-head bytes_eq e.name (names_of es) d))) ∙
        ap (λ b. cond b (entry_view r e.name e.object) (r name)) q ∙
        (λ i. entry_view r (same i) (object i)) ∙ f r
    by false q h rest = rest h

pub routines_by_name : RoutinesByName
routines_by_name = record {
  seen = λ catalog name o d calls h.
      seen-after (λ name. missing) [] catalog (λ name s. absurd cc) d calls name o h;
  planned = λ catalog name f d h.
      found (λ name. missing) catalog d name (FunctionObject f) f.routine h (λ s. refl);
  table = λ catalog name t d h.
      found (λ name. missing) catalog d name (TableObject t) missing h (λ s. refl);
  unknown = λ catalog name h. past (λ name. missing) catalog name h;
}

-- ---- making

pub adding_leaves_views : AddingLeavesViews
adding_leaves_views = record {
  one = λ name known entry f.
      (λ i. with-append (λ name. missing) known (entry ∷ []) i name) ∙
      ap (λ b. cond b (entry_view (routines_of known) entry.name entry.object)
      (routines_of known name)) (other_bytes entry.name name (λ q. f (sym q)));
  more = λ name known later h.
      (λ i. with-append (λ name. missing) known later i name) ∙
      past (routines_of known) later name h;
}

-- ---- dropping

-- of no callers none is the first
first-not-caller : (name : List ℕ) (e : Entry) (es : Catalog) → callers_of name (e ∷ es) ≡ 0 →
    (is_caller name e ≡ false) × (callers_of name es ≡ 0)
first-not-caller name e es h = by (is_caller name e) h
  where
    by : (b : Bool) →
        length (cond b (e ∷ filter (is_caller name) es) (filter (is_caller name) es)) ≡ 0 →
        (b ≡ false) × (callers_of name es ≡ 0)
    by true h = absurd (omega arith)
    by false h = (refl, h)

-- what doesn't call a name calls others
others-called : (name : List ℕ) (P : List ℕ → Type 0) →
    ((other : List ℕ) → ¬ (other ≡ name) → P other) → (names : CalledNames) →
    is_called name names ≡ false → AllByRecursion P names
others-called name P f [] h = tt
others-called name P f (x ∷ xs) h = by (bytes_eq x name) refl h (others-called name P f xs)
  where
    by : (b : Bool) → bytes_eq x name ≡ b → (b || is_called name xs) ≡ false →
        (is_called name xs ≡ false → AllByRecursion P xs) → AllByRecursion P (x ∷ xs)
    by true q h rest = cc
    by false q h rest = (f x (apart x name q), rest h)

-- the same beside a name
abbrev Beside : List ℕ → (List ℕ → Routine) → (List ℕ → Routine) → Type 0
Beside name r s = (other : List ℕ) → ¬ (other ≡ name) → r other ≡ s other

entry-beside : (name : List ℕ) (r s : List ℕ → Routine) → Beside name r s → (e : Entry) →
    is_caller name e ≡ false → Beside name (with_entry r e) (with_entry s e)
entry-beside name r s same e none other f = by (bytes_eq e.name other) refl
  where
    by : (b : Bool) → bytes_eq e.name other ≡ b →
        cond b (entry_view r e.name e.object) (r other) ≡
        cond b (entry_view s e.name e.object) (s other)
    by true q =
        let apart : bytes_eq e.name name ≡ false =
        other_bytes e.name name (λ p. f (sym (same_bytes e.name other q) ∙ p)) in
        view-same r s e.name e.object
        (others-called name
        (λ called. bytes_eq e.name called ≡ false → r called ≡ s called)
        (λ called g h. same called g) (object_calls e.object)
        (ap (λ b. not b && is_called name (object_calls e.object)) (sym apart) ∙ none))
    by false q = same other f

entries-beside : (name : List ℕ) (r s : List ℕ → Routine) → Beside name r s → (es : Catalog) →
    callers_of name es ≡ 0 → Beside name (with_entries r es) (with_entries s es)
entries-beside name r s same [] none other f = same other f
entries-beside name r s same (e ∷ es) none other f =
    let first = first-not-caller name e es none in
    entries-beside name (with_entry r e) (with_entry s e)
    (entry-beside name r s same e first.0) es first.1 other f

dropped-beside : (name : List ℕ) (r : List ℕ → Routine) (es : Catalog) →
    callers_of name es ≡ 0 → Beside name (with_entries r (without name es)) (with_entries r es)
dropped-beside name r [] none other f = refl
dropped-beside name r (e ∷ es) none other f =
    by (bytes_eq e.name name) refl
    (dropped-beside name (with_entry r e) es (first-not-caller name e es none).1 other f)
  where
    by : (b : Bool) → bytes_eq e.name name ≡ b →
        with_entries (with_entry r e) (without name es) other ≡
        with_entries (with_entry r e) es other →
        with_entries r (cond b es (e ∷ without name es)) other ≡ with_entries r (e ∷ es) other
    by true q rest =
        entries-beside name r (with_entry r e)
        (λ x g. sym (ap (λ b. cond b (entry_view r e.name e.object) (r x))
        (other_bytes e.name x (λ p. g (sym p ∙ same_bytes e.name name q)))))
        es (first-not-caller name e es none).1 other f
    by false q rest = rest

pub dropping_leaves_views : DroppingLeavesViews
dropping_leaves_views name other known none f =
    dropped-beside name (λ name. missing) known none other f
