-- Each function that a catalog keeps with a plan is planned, since it fits those that stand before
-- it; and names differ.
use Rattle.std.proofs.Common.{◌≡◌, ℕ, Bool, true, false, cond, List, [], ◌∷◌, ◌++◌, Option, None}
use Rattle.std.proofs.Common.{Some, refl, subst, sym, ◌∙◌}
use Rattle.std.specs.List.{AllByRecursion, IsDistinct}
use Rattle.std.specs.Str.{bytes_eq}
use Rattle.catalog_store.specs.declared.entry.Object.{Object as HeldObject}
use Rattle.catalog_store.specs.declared.entry.Object.TheVariants.{Table, Function as FunctionRecord}
use Rattle.catalog_store.specs.declared.entry.Object.TheVariants.{Interpreted as InterpretedRecord}
use Rattle.catalog_store.specs.declared.entry.Object.TheVariants.{Procedure as ProcedureRecord}
use Rattle.catalog_store.specs.Catalog.{Object, Entry, Catalog, names_of, object_named}
use Rattle.catalog_store.specs.Entries.{object_of, entry_of, with_all, ObjectFits, AreSound}
use Rattle.catalog_store.specs.Planning.{AllPlanned, IsPlannedObject}
use Rattle.catalog_store.proofs.Named.{named_kept, named_after}
use Rattle.catalog_store.proofs.Sound.{Held, grown}

-- ---- catalogs

planned_object : (known : Catalog) (o : HeldObject) → ObjectFits known o →
    IsPlannedObject (Some (object_of known o))
planned_object known (Table row_type) fits = tt
planned_object known (FunctionRecord r) fits =
    record { planned = fits.planned; parameters = refl }
planned_object known (InterpretedRecord f) fits = tt
planned_object known (ProcedureRecord p) fits = tt

planned_more : (known : Catalog) (e : Held) → AllPlanned known → ObjectFits known e.1 →
    AllPlanned (grown known e)
planned_more known e all fits name = by (object_named name known) refl
  where
    at_end : (b : Bool) → IsPlannedObject (cond b (Some (object_of known e.1)) None)
    at_end true = planned_object known e.1 fits
    at_end false = tt

    by : (o : Option Object) → object_named name known ≡ o →
        IsPlannedObject (object_named name (grown known e))
    by None h = subst IsPlannedObject
        (sym (named_after name known (entry_of known e.0 e.1 ∷ []) h)) (at_end (bytes_eq e.0 name))
    by (Some o) h = subst IsPlannedObject
        (h ∙ sym (named_kept name known (entry_of known e.0 e.1 ∷ []) o h)) (all name)

pub all_planned : (known : Catalog) (es : List Held) → AllPlanned known → AreSound known es →
    AllPlanned (with_all known es)
all_planned known [] all sound = all
all_planned known (e ∷ es) all sound = all_planned (grown known e) es
    (planned_more known e all sound.1.fits) sound.2

-- ---- names

apart_from_first : (k : Entry) (ks : Catalog) (name : List ℕ) → object_named name (k ∷ ks) ≡ None →
    (bytes_eq k.name name ≡ false) × (object_named name ks ≡ None)
apart_from_first k ks name h = by (bytes_eq k.name name) refl h
  where
    by : (b : Bool) → bytes_eq k.name name ≡ b → cond b (Some k.object) (object_named name ks) ≡
        None → (bytes_eq k.name name ≡ false) × (object_named name ks ≡ None)
    by true e h = cc
    by false e h = (e, h)

apart_from_more : (name : List ℕ) (ks : Catalog) (e : Entry) →
    AllByRecursion (λ other. bytes_eq name other ≡ false) (names_of ks) →
    bytes_eq name e.name ≡ false →
    AllByRecursion (λ other. bytes_eq name other ≡ false) (names_of (ks ++ e ∷ []))
apart_from_more name [] e h k = (k, tt)
apart_from_more name (x ∷ xs) e h k = (h.0, apart_from_more name xs e h.1 k)

distinct_more : (ks : Catalog) (e : Entry) → object_named e.name ks ≡ None →
    IsDistinct bytes_eq (names_of ks) → IsDistinct bytes_eq (names_of (ks ++ e ∷ []))
unfolding IsDistinct
distinct_more [] e h d = (tt, tt)
distinct_more (k ∷ ks) e h d =
    let apart = apart_from_first k ks e.name h in
    (apart_from_more k.name ks e d.0 apart.0, distinct_more ks e apart.1 d.1)

pub none_alike : IsDistinct bytes_eq []
unfolding IsDistinct
none_alike = tt

pub all_distinct : (known : Catalog) (es : List Held) → AreSound known es →
    IsDistinct bytes_eq (names_of known) → IsDistinct bytes_eq (names_of (with_all known es))
all_distinct known [] sound d = d
all_distinct known (e ∷ es) sound d = all_distinct (grown known e) es sound.2
    (distinct_more known (entry_of known e.0 e.1) sound.0 d)
