-- That the plans that are made of blocks and of calls are theirs, and that no call runs the routine
-- around.
use Rattle.std.proofs.Common.{◌≡◌, ℕ, Bool, true, false, List, [], Option, Some, length, sym}
use Rattle.std.proofs.Common.{◌++◌, ◌∷◌, ap, refl, ◌∙◌, ◌&&◌, subst, if◌then◌else◌}
use Rattle.std.specs.Prelude.{nat_eq}
use Rattle.std.specs.List.{IsDistinct, list_any}
use Rattle.std.specs.Str.{bytes_eq}
use Rattle.std.proofs.lemmas.Bool.{eqb-true}
use Rattle.sql_values.specs.declared.value.SqlType.{SqlType}
use Rattle.rel_algebra.specs.Emit.{Emitted, emit_body, top}
use Rattle.rel_algebra.specs.Plain.{planned_routine}
use Rattle.rel_algebra.specs.Tree.{Function, Returned, Routine, parameters_of}
use Rattle.regions.specs.TreeBodies.{stmt_of}
use Rattle.bound_trees.specs.declared.expr.BoundExpr.{BoundExpr}
use Rattle.catalog_store.specs.declared.entry.FunctionPlan.{FunctionPlan}
use Rattle.catalog_store.specs.declared.entry.RoutineRecord.{RoutineRecord}
use Rattle.catalog_store.specs.Catalog.{Catalog, Interpreted, InterpretedObject, Object, Procedure}
use Rattle.catalog_store.specs.Catalog.{FunctionObject, ProcedureObject, names_of, object_named}
use Rattle.catalog_store.specs.Catalog.{routine_in, routine_named}
use Rattle.catalog_store.specs.Entries.{FunctionFits, function_of}
use Rattle.catalog_store.specs.Kept.{IsPlan}
use Rattle.catalog_store.specs.View.{tree_of}
use Rattle.catalog_store.specs.Widths as catalog
use Rattle.routine_views.specs.Routines.{function_view, procedure_view, routines_of}
use Rattle.viewing_laws.specs.Standing.{CallsStandBefore, RoutinesByName}
use Rattle.block_plans.specs.Blocks.{IsBlock}
use Rattle.block_plans.specs.Callees.{Callees, callee, is_block, width_in, without_blocks}
use Rattle.block_places.specs.Seen.{IsApart}
use Rattle.block_forms.specs.Forms.{FormsArePlanned, body_routine, may_be_planned}
use Rattle.region_trees.specs.Regions.{region_seen}
use Rattle.kept_queries.specs.Keeping.{AreKept, IsKeptFor}
use Rattle.kept_queries.specs.declared.around.Around.{Around}
use Rattle.kept_queries.specs.declared.keeping.KeptQuery.{KeptQuery}
use Rattle.std.specs.Option.{option_copied}
use Rattle.std.proofs.lemmas.List.Elements.{All-append, All-from_recursion}
use Rattle.body_queries.specs.Bodies.{HasOwnPlan, IsReturning}

-- ---- what a name stands for

-- a name of this catalog stands for this object
abbrev StandsFor : Catalog → List ℕ → Object → Type 0
StandsFor known name o = object_named name known ≡ Some o

pub function_unplanned : (known : Catalog) (name : List ℕ) (f : Interpreted) →
    StandsFor known name (InterpretedObject f) →
    planned_routine (routine_named name known) ≡ false
function_unplanned known name f is = ap (λ (o : Option Object). planned_routine (routine_in o)) is

pub procedure_unplanned : (known : Catalog) (name : List ℕ) (p : Procedure) →
    StandsFor known name (ProcedureObject p) →
    planned_routine (routine_named name known) ≡ false
procedure_unplanned known name p is = ap (λ (o : Option Object). planned_routine (routine_in o)) is

-- what is emitted of a function's body over such parameters, where blocks have plans
abbrev pub emitted_of : Callees → Interpreted → List SqlType → Emitted
emitted_of k f parameters =
    emit_body (Function false parameters f.returns f.null_call (stmt_of (region_seen k f.body)))
    (width_in k) (top (length parameters)) 0

module _ (seen : RoutinesByName) (known : Catalog) (name : List ℕ)
    (names : IsDistinct bytes_eq (names_of known)) (calls : CallsStandBefore known) where
  function_seen : (f : Interpreted) → StandsFor known name (InterpretedObject f) →
      routines_of known name ≡ function_view (routines_of known) name f
  function_seen f is = seen.seen known name (InterpretedObject f) names calls is

  procedure_seen : (p : Procedure) → StandsFor known name (ProcedureObject p) →
      routines_of known name ≡ procedure_view (routines_of known) name p
  procedure_seen p is = seen.seen known name (ProcedureObject p) names calls is

  -- ---- what no call runs

  -- a function, of so many parameters, whose call runs no block
  pub function_apart : (k : Callees) (f : Interpreted) (n : ℕ) → k.known ≡ known →
      StandsFor known name (InterpretedObject f) → n ≡ length f.parameters →
      callee k name n ≡ routine_named name k.known → IsApart k name
  function_apart k f n same is many runs =
      let unplanned : planned_routine (routine_named name k.known) ≡ false =
      ap (λ (c : Catalog). planned_routine (routine_named name c)) same
      ∙ function_unplanned known name f is in
      let count : n ≡ length (parameters_of (routines_of k.known name)) =
      many ∙ sym (ap (λ (r : Routine). length (parameters_of r)) (function_seen f is))
      ∙ sym (ap (λ (c : Catalog). length (parameters_of (routines_of c name))) same) in
      λ m. apart_by k n m unplanned count runs
    where
      neither : (b : Bool) → (b && false) ≡ false
      neither true = refl
      neither false = refl

      run_by : Callees → Bool → Routine
      run_by k b = if b then routines_of k.known name else routine_named name k.known

      apart_by : (k : Callees) (n m : ℕ) →
          planned_routine (routine_named name k.known) ≡ false →
          n ≡ length (parameters_of (routines_of k.known name)) →
          callee k name n ≡ routine_named name k.known →
          planned_routine (callee k name m) ≡ false
      apart_by k n m unplanned count runs =
          by (nat_eq m (length (parameters_of (routines_of k.known name)))) refl
        where
          by : (b : Bool) → nat_eq m (length (parameters_of (routines_of k.known name))) ≡ b →
              planned_routine (callee k name m) ≡ false
          by true q =
              ap planned_routine
              (ap (callee k name)
              (eqb-true m (length (parameters_of (routines_of k.known name))) q ∙ sym count)
              ∙ runs) ∙ unplanned
          by false q =
              ap (λ (b : Bool). planned_routine
              (run_by k (list_any (bytes_eq name) k.blocks && b))) q
              ∙ ap (λ (b : Bool). planned_routine (run_by k b))
              (neither (list_any (bytes_eq name) k.blocks)) ∙ unplanned

  -- a procedure
  pub procedure_apart : (k : Callees) (p : Procedure) → k.known ≡ known →
      StandsFor known name (ProcedureObject p) → IsApart k name
  procedure_apart k p same is = λ n. by (is_block k name n)
    where
      by : (b : Bool) → planned_routine
          (if b then routines_of k.known name else routine_named name k.known) ≡ false
      by true =
          ap (λ (c : Catalog). planned_routine (routines_of c name)) same
          ∙ ap planned_routine (procedure_seen p is)
      by false =
          ap (λ (c : Catalog). planned_routine (routine_named name c)) same
          ∙ procedure_unplanned known name p is

-- where no block has a plan
pub alone_apart : (k : Callees) (known : Catalog) (name : List ℕ) (f : Interpreted) →
    k ≡ without_blocks known → StandsFor known name (InterpretedObject f) → IsApart k name
alone_apart k known name f same is =
    subst (λ (l : Callees). IsApart l name) (sym same) (λ n. function_unplanned known name f is)

-- ---- the plan of a block

-- the plan of a function's body, of such parameters, is that of the block
pub block_made : RoutinesByName → FormsArePlanned → (k : Callees) (name : List ℕ)
    (f : Interpreted) (parameters : List SqlType) (plan : FunctionPlan) →
    IsDistinct bytes_eq (names_of k.known) → CallsStandBefore k.known → IsApart k name →
    StandsFor k.known name (InterpretedObject f) → may_be_planned k f ≡ true →
    parameters ≡ f.parameters → IsPlan plan (emitted_of k f parameters) →
    IsBlock k.known name (record { parameters = f.parameters; plan = Some plan })
block_made seen forms k name f parameters plan names calls apart is may given h =
    let stands = function_seen seen k.known name names calls f is in
    let formed = forms k name f names apart may in
    let whole : routines_of k.known name ≡ body_routine k f = stands ∙ formed.same in
    record {
      planned = ap planned_routine stands ∙ formed.planned;
      parameters = sym (ap parameters_of stands);
      plan = subst (IsPlan plan)
          (ap (emitted_of k f) given
          ∙ (λ i. emit_body (sym whole i) (width_in k) (top (length f.parameters)) 0)) h;
    }

-- ---- plans of calls

-- the plan of a block is its own, over as many arguments as it has parameters
pub block_own : (known seen : Catalog) (name : List ℕ) (parameters : List SqlType) (count : ℕ)
    (plan : FunctionPlan) → known ≡ seen → count ≡ length parameters →
    IsBlock known name (record { parameters = parameters; plan = Some plan }) →
    HasOwnPlan seen name count plan
block_own known seen name parameters count plan same counted is =
    subst (λ (c : Catalog). HasOwnPlan c name count plan) same (record {
      planned = is.planned;
      parameters = counted ∙ ap (λ (types : List SqlType). length types) is.parameters;
      plan = subst (λ n. IsPlan plan (emit_body (routines_of known name) (catalog.width_in known)
          (top n) 0)) (sym counted) is.plan;
    })

-- and so is that of a function that only returns an expression
pub returning_own : RoutinesByName → (known : Catalog) (name : List ℕ) (r : RoutineRecord)
    (returned : BoundExpr) (count : ℕ) (plan : FunctionPlan) →
    IsDistinct bytes_eq (names_of known) → IsReturning known name r →
    count ≡ length r.head.parameters → returned ≡ r.body →
    ((types : List SqlType) → IsPlan plan (emit_body
    (Returned types r.head.returns (tree_of known returned)) (catalog.width_in known) (top count)
    0)) → HasOwnPlan known name count plan
returning_own seen known name r returned count plan names is counted same h =
    let stands = seen.planned known name (function_of known r) names is.stands in
    record {
      planned = ap planned_routine stands ∙ is.planned;
      parameters = counted ∙ sym (ap (λ (x : Routine). length (parameters_of x)) stands);
      plan = subst (IsPlan plan)
          (ap (λ (e : BoundExpr). emit_body
          (Returned r.head.parameters r.head.returns (tree_of known e)) (catalog.width_in known)
          (top count) 0) same
          ∙ ap (λ (x : Routine). emit_body x (catalog.width_in known) (top count) 0) (sym stands))
          (h r.head.parameters);
    }

-- the function of a name, with its body, where it fits
pub returning : (known : Catalog) (name : List ℕ) (r : RoutineRecord) →
    StandsFor known name (FunctionObject (function_of known r)) → FunctionFits known r →
    IsReturning known name r
returning known name r stands fits = record { stands = stands; planned = fits.planned }

-- ---- what is kept

-- one more, after the others
pub one_more : (a : Around) (xs zs : List KeptQuery) (k : KeptQuery) → AreKept a xs →
    IsKeptFor a.functions.now.known (option_copied a.own) k → zs ≡ xs ++ k ∷ [] → AreKept a zs
one_more a xs zs k p q e =
    subst (AreKept a) (sym e)
    (All-append (IsKeptFor a.functions.now.known (option_copied a.own)) xs (k ∷ []) p
    (All-from_recursion (IsKeptFor a.functions.now.known (option_copied a.own)) (k ∷ []) (q, tt)))
