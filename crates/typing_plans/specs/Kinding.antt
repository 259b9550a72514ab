-- That plain trees of well typed bound trees have operands of the kinds that plans want. A plan
-- tells kinds exactly, so that NULL's kind stays where a column or a parameter has a type. ISO/IEC
-- 9075-2, 9.5 (type precedence) and 10.4 (routine invocation).
use Rattle.std.specs.Prelude.{◌≡◌, ◌⊎◌, ℕ, true, List, [], ◌∷◌, map, Some}
use Rattle.row_types.specs.declared.RowType.{RowType}
use Rattle.bound_trees.specs.declared.expr.BoundExpr.{BoundExpr}
use Rattle.bound_trees.specs.declared.query.BoundQuery.{BoundQuery}
use Rattle.bind_kinds.specs.declared.kind.Kind.{Kind}
use Rattle.bind_kinds.specs.declared.kind.Kind.TheVariants.{Integer, Text, Boolean, Null}
use Rattle.bind_kinds.specs.Kinds.{kind_of_type}
use Rattle.rel_algebra.specs.Kinds.{DataKind, NullKind, IntegerKind, TextKind, BooleanKind, Kinds}
use Rattle.rel_algebra.specs.Kinds.{Typed, TypedQuery, TypedBody, expr_kind, query_kinds, body_kind}
use Rattle.rel_algebra.specs.Plain.{planned, planned_expr, planned_routine}
use Rattle.rel_algebra.specs.Tree.{Routine, parameters_of}
use Rattle.catalog_store.specs.declared.entry.FunctionHead.{FunctionHead}
use Rattle.catalog_store.specs.Catalog.{Catalog, routine_named}
use Rattle.catalog_store.specs.View.{query_of, tree_of}
use Rattle.typing_trees.specs.Around.{Around, kind_of_slot}
use Rattle.typing_trees.specs.Queries.{kind_of, kinds_of_query}

-- a kind as plans know it
abbrev pub data_kind : Kind → DataKind
data_kind Integer = IntegerKind
data_kind Text = TextKind
data_kind Boolean = BooleanKind
data_kind Null = NullKind

-- this kind, or NULL's
abbrev pub Lower : DataKind → Kind → Type 0
Lower d k = (d ≡ data_kind k) ⊎ (d ≡ NullKind)

-- each at its place, and as many
abbrev pub AllLower : Kinds → List Kind → Type 0
AllLower [] [] = Unit {0}
AllLower [] (k ∷ ks) = ⊥
AllLower (d ∷ ds) [] = ⊥
AllLower (d ∷ ds) (k ∷ ks) = Lower d k × AllLower ds ks

-- row by row
abbrev pub RowsLower : List Kinds → List (List Kind) → Type 0
RowsLower [] [] = Unit {0}
RowsLower [] (r ∷ rs) = ⊥
RowsLower (g ∷ gs) [] = ⊥
RowsLower (g ∷ gs) (r ∷ rs) = AllLower g r × RowsLower gs rs

-- a function's body is typed for arguments of its parameters' kinds, each of which may be NULL
pub record BodyKinded (r : Routine) (h : FunctionHead) (T : List ℕ → Kinds) : Type 0 where
  pub parameters : parameters_of r ≡ h.parameters
  pub typed : (p : Kinds) → AllLower p (map kind_of_type h.parameters) → TypedBody r T p
  pub kind : (p : Kinds) → AllLower p (map kind_of_type h.parameters) →
      Lower (body_kind r T p) (kind_of_type h.returns)

-- what stands around a tree, and the kinds that plans see there: those of tables, of the rows
-- around, the innermost first, and of parameters
pub record InSight (known : Catalog) (a : Around) (T : List ℕ → Kinds) (g : List Kinds)
    (p : Kinds) : Type 0 where
  pub rows : RowsLower g a.rows
  pub slots : AllLower p (map kind_of_slot a.slots)
  pub tables : (name : List ℕ) (t : RowType) → a.tables name ≡ Some t →
      AllLower (T name) (map (λ c. kind_of_type c.data_type) t.columns)
  pub functions : (name : List ℕ) (h : FunctionHead) → a.functions name ≡ Some h →
      planned_routine (routine_named name known) ≡ true →
      BodyKinded (routine_named name known) h T

-- What is well typed, by whatever stands around it, is typed in a plan where it has one, and its
-- kinds there are the same or NULL's.
pub record KindedTrees (known : Catalog) (T : List ℕ → Kinds) : Type 0 where
  -- an expression, with each query that stands in it
  pub expressions : (e : BoundExpr) (a : Around) (g : List Kinds) (p : Kinds) (kind : Kind) →
      InSight known a T g p → kind_of e a ≡ Some kind →
      planned_expr (tree_of known e) ≡ true →
      Typed (tree_of known e) T g p × Lower (expr_kind (tree_of known e) T g p) kind
  -- a query
  pub queries : (q : BoundQuery) (a : Around) (g : List Kinds) (p : Kinds) (kinds : List Kind) →
      InSight known a T g p → kinds_of_query q a ≡ Some kinds →
      planned (query_of known q) ≡ true →
      TypedQuery (query_of known q) T g p × AllLower (query_kinds (query_of known q) T g p) kinds

-- in every catalog, for all kinds of tables
abbrev pub TypedTreesKinded : Type 0
TypedTreesKinded = (known : Catalog) (T : List ℕ → Kinds) → KindedTrees known T
