-- When the functions of a catalog are well typed, each over what stood before it, and that plans of
-- queries over such a catalog are well formed. ISO/IEC 9075-2, 10.4 (routine invocation) and 11.60
-- (SQL-invoked routine).
use Rattle.std.specs.Prelude.{◌≡◌, ℕ, true, List, [], ◌∷◌, ◌++◌, map, Option, Some, None}
use Rattle.row_types.specs.declared.RowType.{RowType}
use Rattle.bound_trees.specs.declared.query.BoundQuery.{BoundQuery}
use Rattle.bind_kinds.specs.declared.kind.Kind.{Kind}
use Rattle.bind_kinds.specs.Kinds.{fits, kind_of_type}
use Rattle.rel_algebra.specs.Emit.{plan, top}
use Rattle.rel_algebra.specs.Kinds.{Kinds, Kinded, type_kind}
use Rattle.rel_algebra.specs.Plain.{planned}
use Rattle.rel_algebra.specs.WellFormed.{tree_fits}
use Rattle.catalog_store.specs.declared.entry.FunctionHead.{FunctionHead}
use Rattle.catalog_store.specs.declared.entry.Object.{Object as HeldObject}
use Rattle.catalog_store.specs.declared.entry.Object.TheVariants.{Table, Function as FunctionRecord}
use Rattle.catalog_store.specs.declared.entry.Object.TheVariants.{Interpreted as InterpretedRecord}
use Rattle.catalog_store.specs.declared.entry.Object.TheVariants.{Procedure as ProcedureRecord}
use Rattle.catalog_store.specs.declared.entry.RoutineRecord.{RoutineRecord}
use Rattle.catalog_store.specs.Catalog.{Catalog, Function, Object, TableObject, FunctionObject}
use Rattle.catalog_store.specs.Catalog.{InterpretedObject, ProcedureObject, object_named}
use Rattle.catalog_store.specs.Entries.{entry_of, plain}
use Rattle.catalog_store.specs.View.{query_of}
use Rattle.catalog_store.specs.Widths.{width_in}
use Rattle.typing_trees.specs.Around.{Around, kind_of_slot}
use Rattle.typing_trees.specs.Queries.{kind_of, kinds_of_query}
use Rattle.typing_plans.specs.Kinding.{AllLower}

-- a name that stands for a table around a tree stands for it in the catalog
abbrev pub TablesOf : Around → Catalog → Type 0
TablesOf a known = (name : List ℕ) (t : RowType) → a.tables name ≡ Some t →
    object_named name known ≡ Some (TableObject t)

-- a name that stands for a function around a tree, and for one with a plan in the catalog, stands
-- for one with these parameters and this result
abbrev pub FunctionsOf : Around → Catalog → Type 0
FunctionsOf a known = (name : List ℕ) (h : FunctionHead) (f : Function) →
    a.functions name ≡ Some h → object_named name known ≡ Some (FunctionObject f) →
    (f.parameters ≡ h.parameters) × (f.returns ≡ h.returns)

-- The body of a function with a plan is well typed over the catalog: in sight of no row, and of its
-- parameters, it has a kind that fits the type of its result.
pub record FunctionTyped (known : Catalog) (r : RoutineRecord) : Type 0 where
  -- what stands around it
  pub around : Around
  pub tables : TablesOf around known
  pub functions : FunctionsOf around known
  pub rows : around.rows ≡ []
  pub slots : map kind_of_slot around.slots ≡ map kind_of_type r.head.parameters
  -- its kind
  pub kind : Kind
  pub typed : kind_of r.body around ≡ Some kind
  pub fitting : fits (kind_of_type r.head.returns) kind ≡ true

-- an object is well typed over the catalog, as far as it has a plan
abbrev pub BodyTyped : Catalog → HeldObject → Type 0
BodyTyped known (Table row_type) = Unit {0}
BodyTyped known (FunctionRecord r) = FunctionTyped known r
BodyTyped known (InterpretedRecord f) = Unit {0}
BodyTyped known (ProcedureRecord p) = Unit {0}

-- each of these entries is, over those before it
abbrev pub BodiesTyped : Catalog → List (List ℕ × HeldObject) → Type 0
BodiesTyped known [] = Unit {0}
BodiesTyped known (e ∷ es) =
    BodyTyped known e.1 × BodiesTyped (known ++ entry_of known e.0 e.1 ∷ []) es

-- Over entries whose functions are well typed the plan of a well typed query is well formed, if the
-- query has a plan, whatever stands around it and however many arguments it has.
abbrev pub TypedPlansFit : Type 0
TypedPlansFit = (es : List (List ℕ × HeldObject)) (q : BoundQuery) (a : Around)
    (kinds : List Kind) (arguments : ℕ) → BodiesTyped [] es → TablesOf a (plain es) →
    kinds_of_query q a ≡ Some kinds → planned (query_of (plain es) q) ≡ true →
    tree_fits (plan (query_of (plain es) q) (width_in (plain es)) (top arguments))
    (width_in (plain es)) [] arguments ≡ true

-- the kinds of the columns of a table; none for a routine, and where the name stands for nothing
abbrev pub object_kinds : Option Object → Kinds
object_kinds None = []
object_kinds (Some (TableObject row_type)) = map (λ c. type_kind c.data_type) row_type.columns
object_kinds (Some (FunctionObject f)) = []
object_kinds (Some (InterpretedObject f)) = []
object_kinds (Some (ProcedureObject p)) = []

-- the kinds of the columns of the table of a name
abbrev pub kinds_in : Catalog → List ℕ → Kinds
kinds_in catalog name = object_kinds (object_named name catalog)

-- Each operand in that plan has the kind that it is wanted to have, and the columns are of the
-- kinds that the query has, where no row stands around it, and its arguments are of the kinds of
-- the slots, or NULL.
abbrev pub TypedPlansKinded : Type 0
TypedPlansKinded = (es : List (List ℕ × HeldObject)) (q : BoundQuery) (a : Around)
    (kinds : List Kind) (p : Kinds) → BodiesTyped [] es → TablesOf a (plain es) →
    FunctionsOf a (plain es) → a.rows ≡ [] → AllLower p (map kind_of_slot a.slots) →
    kinds_of_query q a ≡ Some kinds → planned (query_of (plain es) q) ≡ true →
    Kinded (query_of (plain es) q) (kinds_in (plain es)) p
