-- That what is well typed calls what stands around it alone; so the routines of a catalog whose
-- bodies are well typed, each over what stood before it, call themselves and those before them.
-- ISO/IEC 9075-2, 10.4 (routine invocation), 11.60 (SQL-invoked routine) and 15.1 (call statement).
use Rattle.std.specs.Prelude.{◌≡◌, ◌⊎◌, ℕ, true, List, [], ◌∷◌, ◌++◌, Some, IsSome}
use Rattle.std.specs.List.{AllByRecursion}
use Rattle.bound_trees.specs.declared.expr.BoundExpr.{BoundExpr}
use Rattle.bound_trees.specs.declared.query.BoundQuery.{BoundQuery}
use Rattle.bound_trees.specs.declared.statement.BoundStmt.{BoundStmt}
use Rattle.bind_kinds.specs.declared.kind.Kind.{Kind}
use Rattle.catalog_store.specs.declared.entry.FunctionHead.{FunctionHead}
use Rattle.catalog_store.specs.declared.entry.Object.{Object as HeldObject}
use Rattle.catalog_store.specs.declared.entry.ProcedureHead.{ProcedureHead}
use Rattle.catalog_store.specs.Catalog.{Object, TableObject, FunctionObject, InterpretedObject}
use Rattle.catalog_store.specs.Catalog.{ProcedureObject, Catalog}
use Rattle.catalog_store.specs.Entries.{object_of, entry_of, plain}
use Rattle.typing_trees.specs.Around.{Around}
use Rattle.typing_trees.specs.Queries.{kind_of, kinds_of_query}
use Rattle.typing_trees.specs.Statements.{Inside, is_typed}
use Rattle.viewing_laws.specs.Calls.{expr_calls, query_calls, statement_calls}
use Rattle.viewing_laws.specs.Standing.{StandsBeside, CallsStandBefore}

-- a name stands for a function or a procedure around a statement
abbrev pub IsCallable : Inside → List ℕ → Type 0
IsCallable i name = IsSome (i.around.functions name) ⊎ IsSome (i.procedures name)

-- ---- bodies

-- Each function and procedure around a body is the routine itself, or stands in the catalog.
pub record SeesBeside (own : List ℕ) (known : Catalog) (i : Inside) : Type 0 where
  pub functions : (name : List ℕ) (h : FunctionHead) → i.around.functions name ≡ Some h →
      StandsBeside own known name
  pub procedures : (name : List ℕ) (h : ProcedureHead) → i.procedures name ≡ Some h →
      StandsBeside own known name

-- The body of a routine is well typed over the catalog.
pub record StatementTyped (own : List ℕ) (known : Catalog) (body : BoundStmt) : Type 0 where
  -- what stands around it
  pub around : Inside
  pub sees : SeesBeside own known around
  pub typed : is_typed body around ≡ true

-- an object is well typed over the catalog, as far as its body is a statement
abbrev pub ObjectTyped : List ℕ → Catalog → Object → Type 0
ObjectTyped own known (TableObject row_type) = Unit {0}
ObjectTyped own known (FunctionObject f) = Unit {0}
ObjectTyped own known (InterpretedObject f) = StatementTyped own known f.body
ObjectTyped own known (ProcedureObject p) = StatementTyped own known p.body

-- each of these entries is, over those before it
abbrev pub RoutinesTyped : Catalog → List (List ℕ × HeldObject) → Type 0
RoutinesTyped known [] = Unit {0}
RoutinesTyped known (e ∷ es) = ObjectTyped e.0 known (object_of known e.1) ×
    RoutinesTyped (known ++ entry_of known e.0 e.1 ∷ []) es

-- What is well typed calls what is a function around it, or a procedure.
pub record TypedCallsStand : Type 0 where
  pub expressions : (e : BoundExpr) (a : Around) (kind : Kind) → kind_of e a ≡ Some kind →
      AllByRecursion (λ name. IsSome (a.functions name)) (expr_calls e)
  pub queries : (q : BoundQuery) (a : Around) (kinds : List Kind) →
      kinds_of_query q a ≡ Some kinds →
      AllByRecursion (λ name. IsSome (a.functions name)) (query_calls q)
  pub statements : (s : BoundStmt) (i : Inside) → is_typed s i ≡ true →
      AllByRecursion (IsCallable i) (statement_calls s)
  pub bodies : (es : List (List ℕ × HeldObject)) → RoutinesTyped [] es →
      CallsStandBefore (plain es)
