-- Entries that are sound stand for the same seen by those before them and by all.
use Rattle.std.proofs.Common.{◌≡◌, ℕ, ◌+◌, Bool, true, false, cond, List, [], ◌∷◌, ◌++◌, length}
use Rattle.std.proofs.Common.{length-append, Option, None, Some, IsSome, refl, sym, ap, ◌∙◌, subst}
use Rattle.std.proofs.Common.{arith, Result, Ok, Err, OnOk, OnErr}
use Rattle.std.specs.Option.{option_map}
use Rattle.std.specs.Str.{bytes_eq}
use Rattle.std.specs.Map.{lookup}
use Rattle.catalog_store.specs.declared.entry.Object.{Object as HeldObject}
use Rattle.catalog_store.specs.declared.entry.Object.TheVariants.{Table, Function as FunctionRecord}
use Rattle.catalog_store.specs.declared.entry.Object.TheVariants.{Interpreted as InterpretedRecord}
use Rattle.catalog_store.specs.declared.entry.Object.TheVariants.{Procedure as ProcedureRecord}
use Rattle.rel_algebra.specs.Tree.{Expr, Returned}
use Rattle.rel_algebra.specs.Plain.{planned_expr}
use Rattle.catalog_store.specs.Catalog.{Object, TableObject, FunctionObject, Catalog, object_named}
use Rattle.catalog_store.specs.Uses.{calls, reads, Uses, AllFit, uses_in, UsesStand}
use Rattle.catalog_store.specs.Entries.{object_of, entry_of, with_all, ObjectFits, Stands, AreSound}
pub use Rattle.catalog_store.specs.Using.{Held}
use Rattle.catalog_store.proofs.Named.{bytes_swap, named_kept, named_after, named_more}
use Rattle.catalog_store.proofs.Trees.{Same, same_tree, fit_in_both}

-- the catalog with one more entry
abbrev pub grown : Catalog → Held → Catalog
grown known e = known ++ entry_of known e.0 e.1 ∷ []

-- ---- entries one by one

pub with_all-append : (known : Catalog) (xs ys : List Held) →
    with_all known (xs ++ ys) ≡ with_all (with_all known xs) ys
with_all-append known [] ys = refl
with_all-append known (x ∷ xs) ys = with_all-append (grown known x) xs ys

pub sound-append : (known : Catalog) (xs ys : List Held) → AreSound known xs →
    AreSound (with_all known xs) ys → AreSound known (xs ++ ys)
sound-append known [] ys h k = k
sound-append known (x ∷ xs) ys h k = (h.0, h.1, sound-append (grown known x) xs ys h.2 k)

pub length-with_all : (known : Catalog) (es : List Held) →
    length (with_all known es) ≡ length known + length es
length-with_all known [] = omega arith
length-with_all known (e ∷ es) = omega (
  arith,
  length-with_all (grown known e) es,
  length-append
      known (entry_of known e.0 e.1 ∷ []),
)

-- what is found stays found as entries come after
pub kept_in_all : (name : List ℕ) (known : Catalog) (es : List Held) (o : Object) →
    object_named name known ≡ Some o → object_named name (with_all known es) ≡ Some o
kept_in_all name known [] o h = h
kept_in_all name known (e ∷ es) o h = kept_in_all name (grown known e) es o
    (named_kept name known (entry_of known e.0 e.1 ∷ []) o h)

-- ---- names that stand for the same in two catalogs

abbrev pub SameStand : Catalog → Catalog → List (List ℕ) → Type 0
SameStand known more [] = Unit {0}
SameStand known more (name ∷ names) = (object_named name more ≡ object_named name known) ×
    SameStand known more names

pub same_stand_back : (known more : Catalog) (names : List (List ℕ)) → SameStand known more names →
    SameStand more known names
same_stand_back known more [] same = tt
same_stand_back known more (name ∷ names) same =
    (sym same.0, same_stand_back known more names same.1)

stand_in_both : (known more : Catalog) (names : List (List ℕ)) → SameStand known more names →
    UsesStand known names → UsesStand more names
stand_in_both known more [] same stand = tt
stand_in_both known more (name ∷ names) same stand =
    (subst IsSome (sym same.0) stand.0, stand_in_both known more names same.1 stand.1)

same_in_more : (known : Catalog) (es : List Held) (names : List (List ℕ)) → UsesStand known names →
    SameStand known (with_all known es) names
same_in_more known es [] stand = tt
same_in_more known es (name ∷ names) stand = (
  by (object_named name known) refl stand.0,
  same_in_more known es names stand.1,
)
  where
    by : (o : Option Object) → object_named name known ≡ o → IsSome o →
        object_named name (with_all known es) ≡ object_named name known
    by None h some = absurd cc
    by (Some o) h some = kept_in_all name known es o h ∙ sym h

-- ---- an object that fits stands for the same in the whole

same_uses : (known : Catalog) (es : List Held) (height : ℕ) (us : Uses) → AllFit known height us →
    Same known (with_all known es) us
same_uses known es height [] fit = tt
same_uses known es height (calls name n ∷ us) fit = (
  kept_in_all name known es (FunctionObject fit.0.function) fit.0.stands ∙
      sym fit.0.stands,
  same_uses known es height us fit.1,
)
same_uses known es height (reads name ∷ us) fit = (
  kept_in_all name known es (TableObject fit.0.row_type) fit.0.stands ∙
      sym fit.0.stands,
  same_uses known es height us fit.1,
)

-- an object stands for the same where what it uses does
abbrev pub SameUses : Catalog → Catalog → HeldObject → Type 0
SameUses known more (Table row_type) = Unit {0}
SameUses known more (FunctionRecord r) = Same known more (uses_in r.body)
SameUses known more (InterpretedRecord f) = SameStand known more f.head.uses
SameUses known more (ProcedureRecord p) = SameStand known more p.head.uses

pub same_object : (known more : Catalog) (o : HeldObject) → SameUses known more o →
    object_of more o ≡ object_of known o
same_object known more (Table row_type) s = refl
same_object known more (FunctionRecord r) s =
    ap (λ (tree : Expr). FunctionObject (record {
      parameters = r.head.parameters;
      returns =
          r.head.returns;
      access = r.head.access;
      height = r.head.height;
      weight = r.head.weight;
      uses =
          r.head.uses;
      routine = Returned r.head.parameters r.head.returns tree;
    }))
    (same_tree known more r.body s)
same_object known more (InterpretedRecord f) s = refl
same_object known more (ProcedureRecord p) s = refl

pub same_fits : (known more : Catalog) (o : HeldObject) → SameUses known more o →
    ObjectFits known o → ObjectFits more o
same_fits known more (Table row_type) s fits = fits
same_fits known more (FunctionRecord r) s fits = record {
  all = fit_in_both known more r.head.height (uses_in r.body) s fits.all;
  uses = fits.uses;
  planned = ap planned_expr (same_tree known more r.body s) ∙ fits.planned;
}
same_fits known more (InterpretedRecord f) s fits = stand_in_both known more f.head.uses s fits
same_fits known more (ProcedureRecord p) s fits = stand_in_both known more p.head.uses s fits

pub same_in_all : (known : Catalog) (es : List Held) (o : HeldObject) → ObjectFits known o →
    SameUses known (with_all known es) o
same_in_all known es (Table row_type) fits = tt
same_in_all known es (FunctionRecord r) fits =
    same_uses known es r.head.height (uses_in r.body) fits.all
same_in_all known es (InterpretedRecord f) fits = same_in_more known es f.head.uses fits
same_in_all known es (ProcedureRecord p) fits = same_in_more known es p.head.uses fits

-- ---- look-up

-- what a name stands for is what the entry of that name holds, seen by the whole
pub named_in_all : (name : List ℕ) (known : Catalog) (es : List Held) → AreSound known es →
    object_named name known ≡ None →
    object_named name (with_all known es) ≡ option_map (object_of (with_all known es))
    (lookup (bytes_eq name) es)
named_in_all name known [] sound none = none
named_in_all name known (e ∷ es) sound none =
    by (bytes_eq name e.0) refl (named_in_all name (grown known e) es sound.2)
  where
    by : (b : Bool) → bytes_eq name e.0 ≡ b →
        (object_named name (grown known e) ≡ None →
        object_named name (with_all (grown known e) es) ≡ option_map
        (object_of (with_all (grown known e) es)) (lookup (bytes_eq name) es)) →
        object_named name (with_all (grown known e) es) ≡ option_map
        (object_of (with_all (grown known e) es))
        (cond b (Some e.1) (lookup (bytes_eq name) es))
    by true q rest =
        let stands : object_named name (grown known e) ≡ Some (object_of known e.1) =
        named_after name known (entry_of known e.0 e.1 ∷ []) none ∙
        ap (λ (b : Bool). cond b (Some (object_of known e.1)) None) (bytes_swap e.0 name ∙ q) in
        kept_in_all name (grown known e) es (object_of known e.1) stands ∙
        ap (λ (o : Object). Some o) (sym (same_object known (with_all (grown known e) es) e.1
        (same_in_all known (e ∷ es) e.1 sound.1.fits)))
    by false q rest = rest (named_more name known (entry_of known e.0 e.1)
        (bytes_swap e.0 name ∙ q) ∙ none)

-- and it fits the whole
pub fits_in_all : (test : List ℕ → Bool) (known : Catalog) (es : List Held) (o : HeldObject) →
    AreSound known es → lookup test es ≡ Some o → ObjectFits (with_all known es) o
fits_in_all test known [] o sound h = cc
fits_in_all test known (e ∷ es) o sound h = by (test e.0) h
    (fits_in_all test (grown known e) es o sound.2)
  where
    by : (b : Bool) → cond b (Some e.1) (lookup test es) ≡ Some o →
        (lookup test es ≡ Some o → ObjectFits (with_all known (e ∷ es)) o) →
        ObjectFits (with_all known (e ∷ es)) o
    by true q rest =
        let same : e.1 ≡ o = cc in
        subst (ObjectFits (with_all known (e ∷ es))) same
        (same_fits known (with_all known (e ∷ es)) e.1
        (same_in_all known (e ∷ es) e.1 sound.1.fits) sound.1.fits)
    by false q rest = rest q

-- a name that stands for nothing has no entry
pub none_held : (name : List ℕ) (es : List Held) → AreSound [] es →
    object_named name (with_all [] es) ≡ None → lookup (bytes_eq name) es ≡ None
none_held name es sound none = by (lookup (bytes_eq name) es)
    (sym (named_in_all name [] es sound refl) ∙ none)
  where
    by : (x : Option HeldObject) → option_map (object_of (with_all [] es)) x ≡ None → x ≡ None
    by None h = refl
    by (Some o) h = cc

-- one more entry that fits
pub sound_more : (name : List ℕ) (object : HeldObject) (es : List Held) → AreSound [] es →
    object_named name (with_all [] es) ≡ None → Stands (with_all [] es) object →
    AreSound [] (es ++ (name, object) ∷ [])
sound_more name object es sound free stands =
    sound-append [] es ((name, object) ∷ []) sound (free, stands, tt)

-- the same, where memory may have run out
pub sound_added : {T E : Type 0} (name : List ℕ) (object : HeldObject) (es new : List Held)
    (r : Result T E) → OnOk r (new ≡ es ++ (name, object) ∷ []) → OnErr r (new ≡ es) →
    AreSound [] es → object_named name (with_all [] es) ≡ None → Stands (with_all [] es) object →
    AreSound [] new
sound_added name object es new (Ok x) ok err sound free stands =
    subst (AreSound []) (sym ok) (sound_more name object es sound free stands)
sound_added name object es new (Err y) ok err sound free stands = subst (AreSound []) (sym err)
    sound
