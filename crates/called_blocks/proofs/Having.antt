-- Which names have plans after one more: none more where the name has one, or may have none.
use Rattle.std.proofs.Common.{◌≡◌, ℕ, Bool, true, false, List, [], ◌∷◌, Option, Some, Result}
use Rattle.std.proofs.Common.{Ok, Err, length, refl, sym, ap, ◌∙◌, ◌&&◌, ◌||◌, if◌then◌else◌}
use Rattle.std.specs.Prelude.{IfOk, is_some, nat_eq}
use Rattle.std.specs.List.{list_any}
use Rattle.std.specs.Str.{bytes_eq}
use Rattle.rel_algebra.specs.Plain.{planned_routine}
use Rattle.rel_algebra.specs.Tree.{Routine, parameters_of}
use Rattle.catalog_store.specs.declared.entry.FunctionPlan.{FunctionPlan}
use Rattle.catalog_store.specs.Catalog.{Catalog, Interpreted, InterpretedObject, object_named}
use Rattle.catalog_store.specs.Catalog.{routine_named}
use Rattle.routine_views.specs.Routines.{routines_of}
use Rattle.block_plans.specs.Blocks.{with_name}
use Rattle.block_plans.specs.Callees.{Callees, callee}
use Rattle.block_forms.specs.Forms.{may_be_planned}
use Rattle.called_names.specs.Reached.{Names}
use Rattle.called_blocks.specs.Planned.{planning, with_block, with_object}
use Rattle.called_blocks.proofs.Owning.{function_unplanned}

-- a name that is there is not put there again
stays : (name : List ℕ) (ns : Names) → list_any (bytes_eq name) ns ≡ true →
    with_name name ns ≡ ns
stays name [] h = absurd cc
stays name (n ∷ ns) h = by (bytes_eq name n) (stays name ns) h
  where
    by : (b : Bool) → (list_any (bytes_eq name) ns ≡ true → with_name name ns ≡ ns) →
        (b || list_any (bytes_eq name) ns) ≡ true →
        (if b then n ∷ ns else n ∷ with_name name ns) ≡ n ∷ ns
    by true rest e = refl
    by false rest e = ap (λ (ms : Names). n ∷ ms) (rest e)

-- a call of a function runs a plan only where the function is one of the blocks
is_there : (k : Callees) (name : List ℕ) (n : ℕ) →
    planned_routine (routine_named name k.known) ≡ false →
    planned_routine (callee k name n) ≡ true → list_any (bytes_eq name) k.blocks ≡ true
is_there k name n unplanned runs = by (list_any (bytes_eq name) k.blocks) refl
  where
    run_by : Bool → Routine
    run_by b = if b then routines_of k.known name else routine_named name k.known

    by : (b : Bool) → list_any (bytes_eq name) k.blocks ≡ b → b ≡ true
    by true q = refl
    by false q =
        sym unplanned
        ∙ sym (ap (λ (b : Bool). planned_routine
        (run_by (b && nat_eq n (length (parameters_of (routines_of k.known name)))))) q)
        ∙ runs

-- blocks of a catalog are those that stand beside it
pub in_catalog : (k : Callees) (known : Catalog) → k.known ≡ known → k ≡ planning known k.blocks
in_catalog k known same = λ i. record { known = same i; blocks = k.blocks }

module _ (known : Catalog) (name : List ℕ) (f : Interpreted) (blocks : Names)
    (is : object_named name known ≡ Some (InterpretedObject f)) where
  -- whether the name comes to the blocks, where it is known whether it may
  abbrev with_if : Bool → Names
  with_if b = if b then with_name name blocks else blocks

  pub by_form : with_block known name blocks ≡ with_if (may_be_planned (planning known blocks) f)
  by_form = ap (λ o. with_object known name o blocks) is

  -- where it has a plan, nothing comes
  pub has_one : (n : ℕ) → planned_routine (callee (planning known blocks) name n) ≡ true →
      with_block known name blocks ≡ blocks
  has_one n runs =
      by_form ∙ either (may_be_planned (planning known blocks) f)
      (stays name blocks (is_there (planning known blocks) name n
      (function_unplanned known name f is) runs))
    where
      either : (b : Bool) → with_name name blocks ≡ blocks → with_if b ≡ blocks
      either true same = same
      either false same = refl

  -- else what is made of it tells
  pub made_or_not : {E : Type 0} (r : Result (Option FunctionPlan) E) →
      IfOk r (λ made. is_some made ≡ may_be_planned (planning known blocks) f) →
      IfOk r (λ made. with_block known name blocks ≡ with_if (is_some made))
  made_or_not (Ok made) h = by_form ∙ ap with_if (sym h)
  made_or_not (Err e) h = h
