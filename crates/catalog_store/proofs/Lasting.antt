-- A function's plan stays right as the catalog changes, since the tables that its body reads, and
-- those that the functions that it calls read, stay.
use Rattle.std.proofs.Common.{◌≡◌, ℕ, Bool, true, false, cond, List, [], ◌∷◌, length, Option, None}
use Rattle.std.proofs.Common.{Some, refl, sym, ap, ◌∙◌, subst}
use Rattle.std.specs.Str.{bytes_eq}
use Rattle.std.specs.Map.{lookup}
use Rattle.rel_algebra.specs.Tree.{Expr, Returned}
use Rattle.rel_algebra.specs.Emit.{emit_body, top}
use Rattle.rel_algebra.specs.Lasting.{RoutineLasts}
use Rattle.rel_algebra.proofs.Laws.{lasting_plans}
use Rattle.catalog_store.specs.declared.entry.Object.{Object as HeldObject}
use Rattle.catalog_store.specs.declared.entry.Object.TheVariants.{Table, Function as FunctionRecord}
use Rattle.catalog_store.specs.declared.entry.Object.TheVariants.{Interpreted as InterpretedRecord}
use Rattle.catalog_store.specs.declared.entry.Object.TheVariants.{Procedure as ProcedureRecord}
use Rattle.catalog_store.specs.declared.entry.RoutineRecord.{RoutineRecord}
use Rattle.catalog_store.specs.Catalog.{Object, TableObject, Catalog, object_named, routine_named}
use Rattle.catalog_store.specs.Catalog.{routine_in}
use Rattle.catalog_store.specs.Entries.{object_of, entry_of, with_all, ObjectFits, FunctionFits}
use Rattle.catalog_store.specs.Entries.{IsPlanned, AreSound}
use Rattle.catalog_store.specs.Kept.{HasPlan, own_plan}
use Rattle.catalog_store.specs.Uses.{calls, reads, Uses, AllFit, uses_in}
use Rattle.catalog_store.specs.Widths.{object_width, width_in}
use Rattle.catalog_store.specs.View.{tree_of}
use Rattle.catalog_store.proofs.Named.{named_kept, named_after}
use Rattle.catalog_store.proofs.Sound.{Held, grown, SameUses, same_in_all, kept_in_all}
use Rattle.catalog_store.proofs.Trees.{same_tree}
use Rattle.catalog_store.proofs.LastingTrees.{UsesLast, lasting_tree}

-- each table of the catalog has as many columns by S as by R
abbrev pub AgreeIn : Catalog → (List ℕ → ℕ) → (List ℕ → ℕ) → Type 0
AgreeIn known S R = (name : List ℕ) (o : Object) → object_named name known ≡ Some o →
    S name ≡ R name

-- what a name stands for has the same plan by S as by R where these agree in the catalog
abbrev pub AllLasting : Catalog → Type 0
AllLasting known = (S R : List ℕ → ℕ) → AgreeIn known S R → (name : List ℕ) →
    RoutineLasts (routine_named name known) S R

-- ---- catalogs

pub fitting_last : (known : Catalog) → AllLasting known → (S R : List ℕ → ℕ) → AgreeIn known S R →
    (height : ℕ) (us : Uses) → AllFit known height us → UsesLast known S R us
fitting_last known all S R agree height [] fit = tt
fitting_last known all S R agree height (calls name n ∷ us) fit =
    (all S R agree name, fitting_last known all S R agree height us fit.1)
fitting_last known all S R agree height (reads name ∷ us) fit = (
  agree name (TableObject fit.0.row_type) fit.0.stands,
  fitting_last known all S R agree height
      us fit.1,
)

lasting_object : (known : Catalog) → AllLasting known → (o : HeldObject) → ObjectFits known o →
    (S R : List ℕ → ℕ) → AgreeIn known S R → RoutineLasts (routine_in (Some (object_of known o))) S
    R
lasting_object known all (Table row_type) fits S R agree = tt
lasting_object known all (FunctionRecord r) fits S R agree =
    lasting_tree known S R r.body (fitting_last known all S R agree r.head.height
    (uses_in r.body) fits.all)
lasting_object known all (InterpretedRecord f) fits S R agree = tt
lasting_object known all (ProcedureRecord p) fits S R agree = tt

pub none_lasting : AllLasting []
none_lasting S R agree name = tt

pub lasting_more : (known : Catalog) (e : Held) → AllLasting known → ObjectFits known e.1 →
    AllLasting (grown known e)
lasting_more known e all fits S R agree name = by (object_named name known) refl
  where
    before : AgreeIn known S R
    before other o h = agree other o (named_kept other known (entry_of known e.0 e.1 ∷ []) o h)

    at_end : (b : Bool) → RoutineLasts (routine_in (cond b (Some (object_of known e.1)) None)) S R
    at_end true = lasting_object known all e.1 fits S R before
    at_end false = tt

    by : (o : Option Object) → object_named name known ≡ o →
        RoutineLasts (routine_named name (grown known e)) S R
    by None h =
        subst (λ (o : Option Object). RoutineLasts (routine_in o) S R)
        (sym (named_after name known (entry_of known e.0 e.1 ∷ []) h))
        (at_end (bytes_eq e.0 name))
    by (Some o) h =
        subst (λ (o : Option Object). RoutineLasts (routine_in o) S R)
        (h ∙ sym (named_kept name known (entry_of known e.0 e.1 ∷ []) o h)) (all S R before name)

-- ---- plans

-- a function has the same plan in two catalogs where what it uses stands for the same, and tables
-- of the first are as wide in the second
own_plan-same : (known more : Catalog) (r : RoutineRecord) → AllLasting known →
    AgreeIn known (width_in more) (width_in known) → FunctionFits known r →
    SameUses known more (FunctionRecord r) → own_plan more r ≡ own_plan known r
own_plan-same known more r all agree fits same =
    let plan_of : Expr → (List ℕ → ℕ) → _ = λ x S.
    emit_body (Returned r.head.parameters r.head.returns x) S
    (top (length r.head.parameters)) 0 in
    let uses = fitting_last known all (width_in more) (width_in known) agree r.head.height
    (uses_in r.body) fits.all in
    ap (λ x. plan_of x (width_in more)) (same_tree known more r.body same)
    ∙ lasting_plans.bodies (Returned r.head.parameters r.head.returns
    (tree_of known r.body)) (width_in more) (width_in known) (top (length r.head.parameters)) 0
    (lasting_tree known (width_in more) (width_in known) r.body uses)

pub same_planned : (known more : Catalog) (o : HeldObject) → AllLasting known →
    AgreeIn known (width_in more) (width_in known) → ObjectFits known o → SameUses known more o →
    IsPlanned known o → IsPlanned more o
same_planned known more (Table row_type) all agree fits same planned = tt
same_planned known more (FunctionRecord r) all agree fits same planned =
    subst (HasPlan r.plan) (sym (own_plan-same known more r all agree fits same)) planned
same_planned known more (InterpretedRecord f) all agree fits same planned = tt
same_planned known more (ProcedureRecord p) all agree fits same planned = tt

-- the same towards the first
pub planned_back : (known more : Catalog) (o : HeldObject) → AllLasting known →
    AgreeIn known (width_in more) (width_in known) → ObjectFits known o → SameUses known more o →
    IsPlanned more o → IsPlanned known o
planned_back known more (Table row_type) all agree fits same planned = tt
planned_back known more (FunctionRecord r) all agree fits same planned =
    subst (HasPlan r.plan) (own_plan-same known more r all agree fits same) planned
planned_back known more (InterpretedRecord f) all agree fits same planned = tt
planned_back known more (ProcedureRecord p) all agree fits same planned = tt

-- tables keep their columns as entries come after
agree_in_all : (known : Catalog) (es : List Held) →
    AgreeIn known (width_in (with_all known es)) (width_in known)
agree_in_all known es name o h = ap object_width (kept_in_all name known es o h ∙ sym h)

-- what is found has its plan, as the whole sees it
pub planned_in_all : (test : List ℕ → Bool) (known : Catalog) (es : List Held) (o : HeldObject) →
    AllLasting known → AreSound known es → lookup test es ≡ Some o → IsPlanned (with_all known es) o
planned_in_all test known [] o all sound h = cc
planned_in_all test known (e ∷ es) o all sound h =
    by (test e.0) h (planned_in_all test (grown known e) es o
    (lasting_more known e all sound.1.fits) sound.2)
  where
    by : (b : Bool) → cond b (Some e.1) (lookup test es) ≡ Some o →
        (lookup test es ≡ Some o → IsPlanned (with_all known (e ∷ es)) o) →
        IsPlanned (with_all known (e ∷ es)) o
    by true q rest =
        let same : e.1 ≡ o = cc in
        subst (IsPlanned (with_all known (e ∷ es))) same
        (same_planned known (with_all known (e ∷ es)) e.1 all (agree_in_all known (e ∷ es))
        sound.1.fits (same_in_all known (e ∷ es) e.1 sound.1.fits) sound.1.planned)
    by false q rest = rest q
