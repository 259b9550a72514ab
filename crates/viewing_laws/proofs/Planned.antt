-- What has a plan is seen as its plain tree, in a routine too.
use Rattle.std.proofs.Common.{◌≡◌, ℕ, Bool, true, false, ◌||◌, List, [], ◌∷◌, Option, None}
use Rattle.std.proofs.Common.{Some, refl, sym, ap, ◌∙◌, cond}
use Rattle.std.specs.List.{AllByRecursion, IsDistinct}
use Rattle.std.specs.Str.{bytes_eq}
use Rattle.rel_algebra.specs.Plain.{planned_routine}
use Rattle.rel_algebra.specs.Tree.{Call, CallSelf, Returned}
use Rattle.catalog_store.specs.Catalog.{Object, TableObject, FunctionObject, InterpretedObject}
use Rattle.catalog_store.specs.Catalog.{ProcedureObject, Catalog, names_of, object_named}
use Rattle.catalog_store.specs.Catalog.{routine_named, routine_in}
use Rattle.catalog_store.proofs.Laws.{bytes_swap, same_bytes}
use Rattle.routine_views.specs.Routines.{routines_of, with_modes}
use Rattle.routine_views.specs.Views.{Known, Own, types_of}
use Rattle.viewing_laws.specs.Calls.{CalledNames}
use Rattle.viewing_laws.specs.Planned.{PlannedViews, SeenAsPlain, outside}
use Rattle.viewing_laws.specs.Standing.{is_called}
use Rattle.viewing_laws.proofs.Deciding.{others_decide}
use Rattle.viewing_laws.proofs.PlannedTrees.{PlainCalls, expr-planned, query-planned}
use Rattle.viewing_laws.proofs.Standing.{routines_by_name}

-- a function with a plan stands for the same by its view
planned_agree : (catalog : Catalog) → IsDistinct bytes_eq (names_of catalog) → (name : List ℕ) →
    planned_routine (routine_named name catalog) ≡ true →
    routines_of catalog name ≡ routine_named name catalog
planned_agree catalog d name h = by (object_named name catalog) refl h
  where
    by : (o : Option Object) → object_named name catalog ≡ o →
        planned_routine (routine_in o) ≡ true →
        routines_of catalog name ≡ routine_named name catalog
    by None q h = absurd cc
    by (Some (TableObject t)) q h = absurd cc
    by (Some (FunctionObject f)) q h =
        routines_by_name.planned catalog name f d q ∙ sym (ap routine_in q)
    by (Some (InterpretedObject f)) q h = absurd cc
    by (Some (ProcedureObject p)) q h = absurd cc

-- outside of routines a call of what has a plan is of what it stands for
called_outside : (catalog : Catalog) → IsDistinct bytes_eq (names_of catalog) →
    PlainCalls catalog (outside (routines_of catalog))
called_outside catalog d name args h = ap (λ r. Call name r args) (planned_agree catalog d name h)

-- and so it is in a routine that has none, since it isn't a call of that
called_beside : (catalog : Catalog) (own : Own) → IsDistinct bytes_eq (names_of catalog) →
    planned_routine (routine_named own.name catalog) ≡ false →
    PlainCalls catalog (record { routines = routines_of catalog; own = Some own })
called_beside catalog own d unplanned name args h = by (bytes_eq own.name name) refl
  where
    by : (b : Bool) → bytes_eq own.name name ≡ b →
        cond b (CallSelf (types_of own.parameters) args)
        (Call name (routines_of catalog name) args) ≡ Call name (routine_named name catalog) args
    by true q =
        let never : false ≡ true = sym unplanned ∙
        ap (λ (n : List ℕ). planned_routine (routine_named n catalog))
        (same_bytes own.name name q) ∙ h in cc
    by false q = called_outside catalog d name args h

-- what has a plan is seen as its plain tree where its calls are
seen_plain : (catalog : Catalog) (k : Known) → PlainCalls catalog k →
    SeenAsPlain (λ names. Unit {0}) catalog k
seen_plain catalog k agree = record {
  expressions = λ e s h. expr-planned catalog k agree e h;
  queries = λ q s h. query-planned catalog k agree q h;
}

-- a name that isn't called is none of the called ones
none_called : (name : List ℕ) (names : CalledNames) → is_called name names ≡ false →
    AllByRecursion (λ other. bytes_eq name other ≡ false) names
none_called name [] h = tt
none_called name (x ∷ xs) h = by (bytes_eq x name) refl h (none_called name xs)
  where
    by : (b : Bool) → bytes_eq x name ≡ b → (b || is_called name xs) ≡ false →
        (is_called name xs ≡ false → AllByRecursion (λ other. bytes_eq name other ≡ false) xs) →
        AllByRecursion (λ other. bytes_eq name other ≡ false) (x ∷ xs)
    by true q h rest = cc
    by false q h rest = (bytes_swap name x ∙ q, rest h)

pub planned_views : PlannedViews
planned_views = record {
  outside_routines = λ catalog d.
      seen_plain catalog (outside (routines_of catalog)) (called_outside catalog d);
  in_routine = λ catalog own d. record {
    expressions = λ e s h.
        (others_decide own (routines_of catalog)).expressions e (none_called own.name _ s) ∙
        expr-planned catalog (outside (routines_of catalog)) (called_outside catalog d) e h;
    queries = λ q s h.
        (others_decide own (routines_of catalog)).queries q (none_called own.name _ s) ∙
        query-planned catalog (outside (routines_of catalog)) (called_outside catalog d) q h;
  };
  beside = λ catalog own d unplanned.
      seen_plain catalog (record { routines = routines_of catalog; own = Some own })
      (called_beside catalog own d unplanned);
  bodies = λ catalog name r d s h.
      ap (Returned r.head.parameters r.head.returns)
      ((others_decide (record { name = name; parameters = with_modes [] r.head.parameters })
      (routines_of catalog)).expressions r.body (none_called name _ s) ∙
      expr-planned catalog (outside (routines_of catalog)) (called_outside catalog d) r.body h);
}
