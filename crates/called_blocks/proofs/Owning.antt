-- That no call runs a function that has no plan yet, and that the plan that is made of a block is
-- its own.
use Rattle.std.proofs.Common.{◌≡◌, ℕ, Bool, true, false, List, Option, Some, length, sym, ap, refl}
use Rattle.std.proofs.Common.{◌∙◌, ◌&&◌, if◌then◌else◌, subst}
use Rattle.std.specs.Prelude.{nat_eq}
use Rattle.std.specs.List.{IsDistinct, list_any}
use Rattle.std.specs.Str.{bytes_eq}
use Rattle.std.proofs.lemmas.Bool.{eqb-true}
use Rattle.sql_values.specs.declared.value.SqlType.{SqlType}
use Rattle.rel_algebra.specs.Emit.{Emitted, emit_body, top}
use Rattle.rel_algebra.specs.Plain.{planned_routine}
use Rattle.rel_algebra.specs.Tree.{Function, Routine, parameters_of}
use Rattle.regions.specs.TreeBodies.{stmt_of}
use Rattle.catalog_store.specs.declared.entry.FunctionPlan.{FunctionPlan}
use Rattle.catalog_store.specs.Catalog.{Catalog, Interpreted, InterpretedObject, Object, names_of}
use Rattle.catalog_store.specs.Catalog.{object_named, routine_in, routine_named}
use Rattle.catalog_store.specs.Kept.{IsPlan}
use Rattle.routine_views.specs.Routines.{function_view, routines_of}
use Rattle.viewing_laws.specs.Standing.{CallsStandBefore, RoutinesByName}
use Rattle.block_plans.specs.Blocks.{IsBlock}
use Rattle.block_plans.specs.Callees.{Callees, callee, width_in}
use Rattle.block_places.specs.Seen.{IsApart}
use Rattle.block_forms.specs.Forms.{FormsArePlanned, body_routine, may_be_planned}
use Rattle.region_trees.specs.Regions.{region_seen}

-- ---- what a name stands for

-- a name of this catalog stands for this object
abbrev StandsFor : Catalog → List ℕ → Object → Type 0
StandsFor known name o = object_named name known ≡ Some o

pub function_unplanned : (known : Catalog) (name : List ℕ) (f : Interpreted) →
    StandsFor known name (InterpretedObject f) →
    planned_routine (routine_named name known) ≡ false
function_unplanned known name f is = ap (λ (o : Option Object). planned_routine (routine_in o)) is

-- what is emitted of a function's body over such parameters, where blocks have plans
abbrev pub emitted_of : Callees → Interpreted → List SqlType → Emitted
emitted_of k f parameters =
    emit_body (Function false parameters f.returns f.null_call (stmt_of (region_seen k f.body)))
    (width_in k) (top (length parameters)) 0

module _ (seen : RoutinesByName) (known : Catalog) (name : List ℕ)
    (names : IsDistinct bytes_eq (names_of known)) (calls : CallsStandBefore known) where
  pub function_seen : (f : Interpreted) → StandsFor known name (InterpretedObject f) →
      routines_of known name ≡ function_view (routines_of known) name f
  function_seen f is = seen.seen known name (InterpretedObject f) names calls is

  -- ---- what no call runs

  -- a function, of so many parameters, whose call runs no block
  pub function_apart : (k : Callees) (f : Interpreted) (n : ℕ) → k.known ≡ known →
      StandsFor known name (InterpretedObject f) → n ≡ length f.parameters →
      callee k name n ≡ routine_named name k.known → IsApart k name
  function_apart k f n same is many runs =
      let unplanned : planned_routine (routine_named name k.known) ≡ false =
      ap (λ (c : Catalog). planned_routine (routine_named name c)) same
      ∙ function_unplanned known name f is in
      let count : n ≡ length (parameters_of (routines_of k.known name)) =
      many ∙ sym (ap (λ (r : Routine). length (parameters_of r)) (function_seen f is))
      ∙ sym (ap (λ (c : Catalog). length (parameters_of (routines_of c name))) same) in
      λ m. apart_by k n m unplanned count runs
    where
      neither : (b : Bool) → (b && false) ≡ false
      neither true = refl
      neither false = refl

      run_by : Callees → Bool → Routine
      run_by k b = if b then routines_of k.known name else routine_named name k.known

      apart_by : (k : Callees) (n m : ℕ) →
          planned_routine (routine_named name k.known) ≡ false →
          n ≡ length (parameters_of (routines_of k.known name)) →
          callee k name n ≡ routine_named name k.known →
          planned_routine (callee k name m) ≡ false
      apart_by k n m unplanned count runs =
          by (nat_eq m (length (parameters_of (routines_of k.known name)))) refl
        where
          by : (b : Bool) → nat_eq m (length (parameters_of (routines_of k.known name))) ≡ b →
              planned_routine (callee k name m) ≡ false
          by true q =
              ap planned_routine
              (ap (callee k name)
              (eqb-true m (length (parameters_of (routines_of k.known name))) q ∙ sym count)
              ∙ runs) ∙ unplanned
          by false q =
              ap (λ (b : Bool). planned_routine
              (run_by k (list_any (bytes_eq name) k.blocks && b))) q
              ∙ ap (λ (b : Bool). planned_routine (run_by k b))
              (neither (list_any (bytes_eq name) k.blocks)) ∙ unplanned

-- ---- the plan of a block

-- the plan of a function's body, of such parameters, is that of the block
pub block_made : RoutinesByName → FormsArePlanned → (k : Callees) (name : List ℕ)
    (f : Interpreted) (parameters : List SqlType) (plan : FunctionPlan) →
    IsDistinct bytes_eq (names_of k.known) → CallsStandBefore k.known → IsApart k name →
    StandsFor k.known name (InterpretedObject f) → may_be_planned k f ≡ true →
    parameters ≡ f.parameters → IsPlan plan (emitted_of k f parameters) →
    IsBlock k.known name (record { parameters = f.parameters; plan = Some plan })
block_made seen forms k name f parameters plan names calls apart is may given h =
    let stands = function_seen seen k.known name names calls f is in
    let formed = forms k name f names apart may in
    let whole : routines_of k.known name ≡ body_routine k f = stands ∙ formed.same in
    record {
      planned = ap planned_routine stands ∙ formed.planned;
      parameters = sym (ap parameters_of stands);
      plan = subst (IsPlan plan)
          (ap (emitted_of k f) given
          ∙ (λ i. emit_body (sym whole i) (width_in k) (top (length f.parameters)) 0)) h;
    }
