-- Calls stand before what calls them as entries are made and dropped.
use Rattle.std.proofs.Common.{◌≡◌, ℕ, Bool, true, false, cond, ◌&&◌, ◌||◌, not, List, [], ◌∷◌}
use Rattle.std.proofs.Common.{◌++◌, length, Option, None, Some, refl, sym, ap, ◌∙◌, subst, arith}
use Rattle.std.proofs.lemmas.List.{append-nil, append_assoc}
use Rattle.std.specs.List.{AllByRecursion}
use Rattle.std.specs.Prelude.{IsSome, filter, is_some}
use Rattle.std.specs.Str.{bytes_eq}
use Rattle.catalog_store.specs.declared.entry.Object.{Object as HeldObject}
use Rattle.catalog_store.specs.declared.entry.Object.TheVariants.{Table, Function as FunctionRecord}
use Rattle.catalog_store.specs.declared.entry.Object.TheVariants.{Interpreted as InterpretedRecord}
use Rattle.catalog_store.specs.declared.entry.Object.TheVariants.{Procedure as ProcedureRecord}
use Rattle.catalog_store.specs.Catalog.{Object, Entry, Catalog, object_named}
use Rattle.catalog_store.specs.Entries.{entry_of, object_of, ObjectFits}
use Rattle.catalog_store.specs.Users.{users_of, without}
use Rattle.catalog_store.specs.Uses.{UsesStand}
use Rattle.catalog_store.proofs.Laws.{bytes_self, bytes_swap, same_bytes, named_kept, named_after}
use Rattle.catalog_store.proofs.Laws.{adding_leaves_others}
use Rattle.viewing_laws.specs.Calls.{CalledNames}
use Rattle.viewing_laws.specs.Standing.{object_calls, StandsBeside, CallsStandAfter}
use Rattle.viewing_laws.specs.Standing.{CallsStandBefore, is_called, is_caller, callers_of}
use Rattle.viewing_laws.specs.Standing.{HeadLists}
use Rattle.viewing_laws.proofs.Laws.{each_so, heads_suffice}
use Rattle.listed_calls.specs.Kept.{CallsListed, CallsKept}

-- ---- making

-- what a head lists stands in the catalog
listed-stands : (known : Catalog) (name : List ℕ) (names : List (List ℕ)) →
    UsesStand known names → is_called name names ≡ true → IsSome (object_named name known)
listed-stands known name [] s h = absurd cc
listed-stands known name (x ∷ xs) s h =
    by (bytes_eq x name) refl h (listed-stands known name xs s.1)
  where
    by : (b : Bool) → bytes_eq x name ≡ b → (b || is_called name xs) ≡ true →
        (is_called name xs ≡ true → IsSome (object_named name known)) →
        IsSome (object_named name known)
    by true q h rest =
        subst (λ (n : List ℕ). IsSome (object_named n known)) (same_bytes x name q) s.0
    by false q h rest = rest h

-- and so what a body calls does
calls-stand : (known : Catalog) (own : List ℕ) (uses : List (List ℕ)) (calls : CalledNames) →
    UsesStand known uses →
    AllByRecursion (λ name. bytes_eq own name ≡ false → is_called name uses ≡ true) calls →
    AllByRecursion (StandsBeside own known) calls
calls-stand known own uses calls s h = each_so _ (StandsBeside own known)
    (λ name f q. listed-stands known name uses s (f q)) calls h

object-stands : (known : Catalog) (name : List ℕ) (o : HeldObject) → ObjectFits known o →
    HeadLists (entry_of known name o) →
    AllByRecursion (StandsBeside name known) (object_calls (object_of known o))
object-stands known name (Table row_type) fits h = tt
object-stands known name (FunctionRecord r) fits h = tt
object-stands known name (InterpretedRecord f) fits h =
    calls-stand known name f.head.uses (object_calls (object_of known (InterpretedRecord f))) fits h
object-stands known name (ProcedureRecord p) fits h =
    calls-stand known name p.head.uses (object_calls (object_of known (ProcedureRecord p))) fits h

-- one entry more after these
stand-last : (known es : Catalog) (e : Entry) → CallsStandAfter known es →
    AllByRecursion (StandsBeside e.name (known ++ es)) (object_calls e.object) →
    CallsStandAfter known (es ++ e ∷ [])
stand-last known [] e s h = (
  subst (λ (c : Catalog). AllByRecursion (StandsBeside e.name c) (object_calls e.object))
      (append-nil known) h,
  tt,
)
stand-last known (x ∷ es) e s h = (
  s.0,
  stand-last (known ++ x ∷ []) es e s.1
      (subst (λ (c : Catalog). AllByRecursion (StandsBeside e.name c) (object_calls e.object))
      (sym (append_assoc known (x ∷ []) es)) h),
)

made-stand : (known : Catalog) (name : List ℕ) (o : HeldObject) → CallsStandBefore known →
    ObjectFits known o → HeadLists (entry_of known name o) →
    CallsStandBefore (known ++ entry_of known name o ∷ [])
made-stand known name o s fits h =
    stand-last [] known (entry_of known name o) s (object-stands known name o fits h)

heads-last : (es : Catalog) (e : Entry) → AllByRecursion HeadLists es → HeadLists e →
    AllByRecursion HeadLists (es ++ e ∷ [])
heads-last [] e h l = (l, tt)
heads-last (x ∷ es) e h l = (h.0, heads-last es e h.1 l)

pub none-listed : CallsListed []
none-listed = record { heads = tt; stand = tt }

pub listed-made : (known : Catalog) (name : List ℕ) (o : HeldObject) → CallsListed known →
    ObjectFits known o → HeadLists (entry_of known name o) →
    CallsListed (known ++ entry_of known name o ∷ [])
listed-made known name o c fits h = record {
  heads = heads-last known (entry_of known name o) c.heads h;
  stand = made-stand known name o c.stand fits h;
}

-- ---- dropping

heads-less : (name : List ℕ) (es : Catalog) → AllByRecursion HeadLists es →
    AllByRecursion HeadLists (without name es)
heads-less name [] h = tt
heads-less name (e ∷ es) h = by (bytes_eq e.name name) (heads-less name es h.1)
  where
    by : (b : Bool) → AllByRecursion HeadLists (without name es) →
        AllByRecursion HeadLists (cond b es (e ∷ without name es))
    by true rest = h.1
    by false rest = (h.0, rest)

-- of no callers none is the first
first-silent : (name : List ℕ) (e : Entry) (es : Catalog) → callers_of name (e ∷ es) ≡ 0 →
    (is_caller name e ≡ false) × (callers_of name es ≡ 0)
first-silent name e es h = by (is_caller name e) h
  where
    by : (b : Bool) →
        length (cond b (e ∷ filter (is_caller name) es) (filter (is_caller name) es)) ≡ 0 →
        (b ≡ false) × (callers_of name es ≡ 0)
    by true h = absurd (omega arith)
    by false h = (refl, h)

-- what other names stand for in the one catalog they stand for in the other
abbrev Leaves : List ℕ → Catalog → Catalog → Type 0
Leaves name known less = (other : List ℕ) → bytes_eq other name ≡ false →
    IsSome (object_named other known) → IsSome (object_named other less)

leaves-more : (name : List ℕ) (known less : Catalog) (e : Entry) → Leaves name known less →
    Leaves name (known ++ e ∷ []) (less ++ e ∷ [])
leaves-more name known less e leaves other q s =
    by (object_named other known) refl (object_named other less) refl
  where
    by : (o : Option Object) → object_named other known ≡ o → (p : Option Object) →
        object_named other less ≡ p → IsSome (object_named other (less ++ e ∷ []))
    by o h (Some x) k = ap is_some (named_kept other less (e ∷ []) x k)
    by None h None k = ap is_some (named_after other less (e ∷ []) k ∙
        sym (named_after other known (e ∷ []) h)) ∙ s
    by (Some o) h None k =
        let gone = ap is_some k in
        let there = leaves other q (ap is_some h) in cc

-- a body that doesn't call the name, or is that of its own routine
body-silent : (name : List ℕ) (known less : Catalog) (own : List ℕ) (calls : CalledNames) →
    Leaves name known less → (not (bytes_eq own name) && is_called name calls) ≡ false →
    AllByRecursion (StandsBeside own known) calls → AllByRecursion (StandsBeside own less) calls
body-silent name known less own [] leaves silent s = tt
body-silent name known less own (x ∷ xs) leaves silent s = (
  λ q. leaves x (apart (bytes_eq own name) refl (bytes_eq x name) refl silent q) (s.0 q),
  body-silent name known less own xs leaves (later (bytes_eq own name) (bytes_eq x name) silent)
      s.1,
)
  where
    apart : (b : Bool) → bytes_eq own name ≡ b → (c : Bool) → bytes_eq x name ≡ c →
        (not b && (c || is_called name xs)) ≡ false → bytes_eq own x ≡ false →
        bytes_eq x name ≡ false
    apart true e c f h q =
        bytes_swap x name ∙ subst (λ n. bytes_eq n x ≡ false) (same_bytes own name e) q
    apart false e true f h q = absurd cc
    apart false e false f h q = f

    later : (b c : Bool) → (not b && (c || is_called name xs)) ≡ false →
        (not b && is_called name xs) ≡ false
    later true c h = refl
    later false true h = absurd cc
    later false false h = h

stand-without : (name : List ℕ) (known less es : Catalog) → Leaves name known less →
    callers_of name es ≡ 0 → CallsStandAfter known es → CallsStandAfter less es
stand-without name known less [] leaves silent s = tt
stand-without name known less (e ∷ es) leaves silent s =
    let first = first-silent name e es silent in (
      body-silent name known less e.name (object_calls e.object) leaves first.0 s.0,
      stand-without name (known ++ e ∷ []) (less ++ e ∷ []) es
          (leaves-more name known less e leaves) first.1 s.1,
    )

-- without an entry of the name at the end
leaves-last : (name : List ℕ) (known : Catalog) (e : Entry) → bytes_eq e.name name ≡ true →
    Leaves name (known ++ e ∷ []) known
leaves-last name known e same other q s =
    ap is_some (sym (adding_leaves_others other known e differs)) ∙ s
  where
    differs : ¬ (other ≡ e.name)
    differs p =
        let self = subst (λ n. bytes_eq other n ≡ true) (p ∙ same_bytes e.name name same)
        (bytes_self other) in cc

stand-less : (name : List ℕ) (known es : Catalog) → callers_of name es ≡ 0 →
    CallsStandAfter known es → CallsStandAfter known (without name es)
stand-less name known [] silent s = tt
stand-less name known (e ∷ es) silent s =
    by (bytes_eq e.name name) refl (stand-less name (known ++ e ∷ []) es rest s.1)
  where
    rest : callers_of name es ≡ 0
    rest = (first-silent name e es silent).1

    by : (b : Bool) → bytes_eq e.name name ≡ b →
        CallsStandAfter (known ++ e ∷ []) (without name es) →
        CallsStandAfter known (cond b es (e ∷ without name es))
    by true same more = stand-without name (known ++ e ∷ []) known es
        (leaves-last name known e same) rest s.1
    by false same more = (s.0, more)

pub listed-dropped : (known : Catalog) (name : List ℕ) → CallsListed known →
    users_of name known ≡ 0 → CallsListed (without name known)
listed-dropped known name c none = record {
  heads = heads-less name known c.heads;
  stand = stand-less name [] known (heads_suffice.unused name known c.heads none) c.stand;
}

pub calls_kept : CallsKept
calls_kept = record { making = made-stand; dropping = listed-dropped }
