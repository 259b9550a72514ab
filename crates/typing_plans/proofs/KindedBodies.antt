-- Functions whose bodies are well typed, each over what stood before it, are typed in plans for all
-- arguments of their parameters' kinds, each of which may be NULL.
use Rattle.std.proofs.Common.{◌≡◌, inl, ℕ, Bool, true, false, cond, List, [], ◌∷◌, map}
use Rattle.std.proofs.Common.{Option}
use Rattle.std.proofs.Common.{Some, None, refl, sym, ◌∙◌, subst}
use Rattle.std.specs.Str.{bytes_eq}
use Rattle.row_types.specs.declared.ColumnType.{ColumnType}
use Rattle.row_types.specs.declared.RowType.{RowType}
use Rattle.bind_kinds.specs.Kinds.{kind_of_type}
use Rattle.rel_algebra.specs.Kinds.{Kinds, TypedBody, body_kind, expr_kind, type_kind}
use Rattle.rel_algebra.specs.Plain.{planned_routine}
use Rattle.rel_algebra.specs.Tree.{parameters_of}
use Rattle.catalog_store.specs.declared.entry.FunctionHead.{FunctionHead}
use Rattle.catalog_store.specs.declared.entry.Object.{Object as HeldObject}
use Rattle.catalog_store.specs.declared.entry.Object.TheVariants.{Table, Function as FunctionRecord}
use Rattle.catalog_store.specs.declared.entry.Object.TheVariants.{Interpreted as InterpretedRecord}
use Rattle.catalog_store.specs.declared.entry.Object.TheVariants.{Procedure as ProcedureRecord}
use Rattle.catalog_store.specs.declared.entry.RoutineRecord.{RoutineRecord}
use Rattle.catalog_store.specs.Catalog.{Catalog, Function, Object, TableObject, FunctionObject}
use Rattle.catalog_store.specs.Catalog.{InterpretedObject, ProcedureObject, object_named}
use Rattle.catalog_store.specs.Catalog.{routine_in}
use Rattle.catalog_store.specs.Entries.{entry_of, object_of, function_of, with_all}
use Rattle.catalog_store.specs.View.{tree_of}
use Rattle.catalog_store.proofs.Laws.{named_kept, named_after}
use Rattle.typing_trees.specs.Around.{Around, kind_of_slot}
use Rattle.typing_plans.specs.Bodies.{BodyTyped, BodiesTyped, FunctionTyped, TablesOf, FunctionsOf}
use Rattle.typing_plans.specs.Kinding.{Lower, AllLower, RowsLower, InSight, BodyKinded}
use Rattle.typing_plans.proofs.Bodies.{Held, grown, kept}
use Rattle.typing_plans.proofs.Words.{type_same, parameter_lower}
use Rattle.typing_plans.proofs.KindedInduction.{expr_holds}

-- the kinds of the columns of a table of the catalog
abbrev pub KindsOf : Catalog → (List ℕ → Kinds) → Type 0
KindsOf known T = (name : List ℕ) (t : RowType) → object_named name known ≡ Some (TableObject t) →
    AllLower (T name) (map (λ c. kind_of_type c.data_type) t.columns)

pub columns_lower : (cs : List ColumnType) →
    AllLower (map (λ c. type_kind c.data_type) cs) (map (λ c. kind_of_type c.data_type) cs)
columns_lower [] = tt
columns_lower (c ∷ cs) = (inl (type_same c.data_type), columns_lower cs)

module _ (T : List ℕ → Kinds) where
  -- a function is typed for arguments of its parameters' kinds
  pub record FunctionKinded (f : Function) : Type 0 where
    pub parameters : parameters_of f.routine ≡ f.parameters
    pub typed : (p : Kinds) → AllLower p (map kind_of_type f.parameters) →
        TypedBody f.routine T p
    pub kind : (p : Kinds) → AllLower p (map kind_of_type f.parameters) →
        Lower (body_kind f.routine T p) (kind_of_type f.returns)

  -- what an object runs is typed so, if it has a plan
  abbrev pub RunsKinded : Option Object → Type 0
  RunsKinded None = Unit {0}
  RunsKinded (Some (TableObject row_type)) = Unit {0}
  RunsKinded (Some (FunctionObject f)) = planned_routine f.routine ≡ true → FunctionKinded f
  RunsKinded (Some (InterpretedObject f)) = Unit {0}
  RunsKinded (Some (ProcedureObject p)) = Unit {0}

  -- each function of the catalog is
  abbrev pub BodiesKinded : Catalog → Type 0
  BodiesKinded known = (name : List ℕ) → RunsKinded (object_named name known)

  -- a function that is called is the catalog's
  called : (known : Catalog) (o : Option Object) (h : FunctionHead) → RunsKinded o →
      ((f : Function) → o ≡ Some (FunctionObject f) →
      (f.parameters ≡ h.parameters) × (f.returns ≡ h.returns)) →
      planned_routine (routine_in o) ≡ true → BodyKinded (routine_in o) h T
  called known None h runs same p = absurd cc
  called known (Some (TableObject row_type)) h runs same p = absurd cc
  called known (Some (FunctionObject f)) h runs same p =
      let k = runs p in let e = same f refl in
      record {
        parameters = k.parameters ∙ e.0;
        typed = λ ds l. k.typed ds (subst (λ ts. AllLower ds (map kind_of_type ts)) (sym e.0) l);
        kind = λ ds l. subst (λ t. Lower (body_kind f.routine T ds) (kind_of_type t)) e.1
            (k.kind ds (subst (λ ts. AllLower ds (map kind_of_type ts)) (sym e.0) l));
      }
  called known (Some (InterpretedObject f)) h runs same p = absurd cc
  called known (Some (ProcedureObject f)) h runs same p = absurd cc

  pub in_sight : (known : Catalog) (a : Around) (g : List Kinds) (p : Kinds) →
      BodiesKinded known → KindsOf known T → TablesOf a known → FunctionsOf a known →
      RowsLower g a.rows → AllLower p (map kind_of_slot a.slots) → InSight known a T g p
  in_sight known a g p bodies columns tables functions rows slots = record {
    rows = rows;
    slots = slots;
    tables = λ name t e. columns name t (tables name t e);
    functions = λ name h e. called known (object_named name known) h (bodies name)
        (λ f o. functions name h f e o);
  }

  new_kinded : (known : Catalog) (r : RoutineRecord) → BodiesKinded known → KindsOf known T →
      FunctionTyped known r → planned_routine (function_of known r).routine ≡ true →
      FunctionKinded (function_of known r)
  new_kinded known r bodies columns t planned =
      let sight : (p : Kinds) → AllLower p (map kind_of_type r.head.parameters) →
      InSight known t.around T [] p = λ p l. in_sight known t.around [] p bodies columns t.tables
      t.functions (subst (RowsLower []) (sym t.rows) tt) (subst (AllLower p) (sym t.slots) l) in
      let one = λ (p : Kinds) (l : AllLower p (map kind_of_type r.head.parameters)).
      expr_holds known T r.body t.around [] p t.kind (sight p l) t.typed planned in
      let given = λ (p : Kinds) (l : AllLower p (map kind_of_type r.head.parameters)).
      parameter_lower r.head.returns (expr_kind (tree_of known r.body) T [] p) t.kind (one p l).1
      t.fitting in
      record {
        parameters = refl;
        typed = λ p l. ((one p l).0, (given p l).0);
        kind = λ p l. (given p l).1;
      }

  object_kinded : (known : Catalog) (o : HeldObject) → BodiesKinded known → KindsOf known T →
      BodyTyped known o → RunsKinded (Some (object_of known o))
  object_kinded known (Table row_type) bodies columns t = tt
  object_kinded known (FunctionRecord r) bodies columns t = new_kinded known r bodies columns t
  object_kinded known (InterpretedRecord f) bodies columns t = tt
  object_kinded known (ProcedureRecord p) bodies columns t = tt

  grown_kinded : (known : Catalog) (e : Held) → BodiesKinded known → KindsOf known T →
      BodyTyped known e.1 → BodiesKinded (grown known e)
  grown_kinded known e bodies columns t name = by (object_named name known) refl
    where
      at_end : (b : Bool) → RunsKinded (cond b (Some (object_of known e.1)) None)
      at_end true = object_kinded known e.1 bodies columns t
      at_end false = tt

      by : (o : Option Object) → object_named name known ≡ o →
          RunsKinded (object_named name (grown known e))
      by None h = subst RunsKinded
          (sym (named_after name known (entry_of known e.0 e.1 ∷ []) h))
          (at_end (bytes_eq e.0 name))
      by (Some o) h = subst RunsKinded
          (h ∙ sym (named_kept name known (entry_of known e.0 e.1 ∷ []) o h)) (bodies name)

  pub all_kinded : (known : Catalog) (es : List Held) → BodiesKinded known →
      KindsOf (with_all known es) T → BodiesTyped known es → BodiesKinded (with_all known es)
  all_kinded known [] bodies columns t = bodies
  all_kinded known (e ∷ es) bodies columns t = all_kinded (grown known e) es
      (grown_kinded known e bodies
      (λ name r h. columns name r (kept name known (e ∷ es) (TableObject r) h)) t.0) columns t.1
