-- Functions whose bodies are well typed, each over what stood before it, have shaped bodies.
use Rattle.std.proofs.Common.{◌≡◌, ℕ, Bool, true, false, cond, List, [], ◌∷◌, ◌++◌, length, Option}
use Rattle.std.proofs.Common.{Some, None, refl, sym, ◌∙◌, subst}
use Rattle.std.specs.Str.{bytes_eq}
use Rattle.row_types.specs.declared.RowType.{RowType}
use Rattle.rel_algebra.specs.Plain.{planned_routine}
use Rattle.rel_algebra.specs.WellFormed.{ShapedBody}
use Rattle.catalog_store.specs.declared.entry.Object.{Object as HeldObject}
use Rattle.catalog_store.specs.declared.entry.Object.TheVariants.{Table, Function as FunctionRecord}
use Rattle.catalog_store.specs.declared.entry.Object.TheVariants.{Interpreted as InterpretedRecord}
use Rattle.catalog_store.specs.declared.entry.Object.TheVariants.{Procedure as ProcedureRecord}
use Rattle.catalog_store.specs.Catalog.{Catalog, Object, TableObject, object_named, routine_in}
use Rattle.catalog_store.specs.Entries.{entry_of, object_of, with_all}
use Rattle.catalog_store.proofs.Laws.{named_kept, named_after}
use Rattle.typing_plans.specs.Shaping.{BodiesShaped}
use Rattle.typing_plans.specs.Bodies.{BodyTyped, BodiesTyped}
use Rattle.typing_plans.proofs.Induction.{expr_holds}

abbrev pub Held : Type 0
Held = List ℕ × HeldObject

-- the catalog with one more entry
abbrev pub grown : Catalog → Held → Catalog
grown known e = known ++ entry_of known e.0 e.1 ∷ []

pub kept : (name : List ℕ) (known : Catalog) (es : List Held) (o : Object) →
    object_named name known ≡ Some o → object_named name (with_all known es) ≡ Some o
kept name known [] o h = h
kept name known (e ∷ es) o h =
    kept name (grown known e) es o (named_kept name known (entry_of known e.0 e.1 ∷ []) o h)

-- each table of the catalog is as wide as its name
abbrev pub Wide : Catalog → (List ℕ → ℕ) → Type 0
Wide known widths = (name : List ℕ) (t : RowType) →
    object_named name known ≡ Some (TableObject t) → widths name ≡ length t.columns

module _ (widths : List ℕ → ℕ) where
  -- what an object runs is shaped, if it has a plan
  abbrev RunsShaped : Option Object → Type 0
  RunsShaped o = planned_routine (routine_in o) ≡ true → ShapedBody (routine_in o) widths

  new_shaped : (known : Catalog) (o : HeldObject) → BodiesShaped known widths →
      Wide known widths → BodyTyped known o → RunsShaped (Some (object_of known o))
  new_shaped known (Table row_type) bodies wide typed p = absurd cc
  new_shaped known (FunctionRecord r) bodies wide typed p =
      expr_holds known widths bodies r.body typed.around typed.kind
      (λ name t e. wide name t (typed.tables name t e)) typed.typed p
  new_shaped known (InterpretedRecord f) bodies wide typed p = absurd cc
  new_shaped known (ProcedureRecord f) bodies wide typed p = absurd cc

  grown_shaped : (known : Catalog) (e : Held) → BodiesShaped known widths → Wide known widths →
      BodyTyped known e.1 → BodiesShaped (grown known e) widths
  grown_shaped known e bodies wide typed name = by (object_named name known) refl
    where
      at_end : (b : Bool) → RunsShaped (cond b (Some (object_of known e.1)) None)
      at_end true = new_shaped known e.1 bodies wide typed
      at_end false = λ p. absurd cc

      by : (o : Option Object) → object_named name known ≡ o →
          RunsShaped (object_named name (grown known e))
      by None h = subst RunsShaped
          (sym (named_after name known (entry_of known e.0 e.1 ∷ []) h))
          (at_end (bytes_eq e.0 name))
      by (Some o) h = subst RunsShaped
          (h ∙ sym (named_kept name known (entry_of known e.0 e.1 ∷ []) o h)) (bodies name)

  pub all_bodies : (known : Catalog) (es : List Held) → BodiesShaped known widths →
      Wide (with_all known es) widths → BodiesTyped known es →
      BodiesShaped (with_all known es) widths
  all_bodies known [] bodies wide typed = bodies
  all_bodies known (e ∷ es) bodies wide typed = all_bodies (grown known e) es
      (grown_shaped known e bodies
      (λ name t h. wide name t (kept name known (e ∷ es) (TableObject t) h)) typed.0) wide typed.1
