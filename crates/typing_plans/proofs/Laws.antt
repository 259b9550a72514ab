-- The laws on which upper crates stand.
use Rattle.std.proofs.Common.{ℕ, List, [], map, ap, sym, subst}
use Rattle.bind_kinds.specs.Kinds.{kind_of_type}
use Rattle.rel_algebra.proofs.Laws.{well_formed_plans, kinded_plans}
use Rattle.catalog_store.specs.declared.entry.Object.{Object as HeldObject}
use Rattle.catalog_store.specs.Catalog.{Catalog}
use Rattle.catalog_store.specs.Entries.{plain}
use Rattle.catalog_store.specs.View.{query_of}
use Rattle.catalog_store.specs.Widths.{object_width, width_in}
use Rattle.typing_plans.specs.Shaping.{BodiesShaped, TypedTreesShaped}
use Rattle.typing_plans.specs.Bodies.{BodiesTyped, TypedPlansFit, TypedPlansKinded, kinds_in}
use Rattle.typing_plans.specs.Bodies.{object_kinds}
use Rattle.typing_plans.specs.Kinding.{AllLower, TypedTreesKinded, RowsLower}
use Rattle.typing_plans.proofs.Induction.{expr_holds, query_holds}
use Rattle.typing_plans.proofs.Bodies.{all_bodies}
use Rattle.typing_plans.proofs.KindedInduction.{expr_holds as expr_kinded}
use Rattle.typing_plans.proofs.KindedInduction.{query_holds as query_kinded}
use Rattle.typing_plans.proofs.KindedBodies.{KindsOf, all_kinded, in_sight, columns_lower}
pub use Rattle.typing_plans.proofs.Induction.{pair}
pub use Rattle.typing_plans.proofs.Parts.{then_some, only_some, value_some, halves}

-- what is well typed is shaped
pub shaped_trees : TypedTreesShaped
shaped_trees known widths bodies = record {
  expressions = λ e a kind w h p. expr_holds known widths bodies e a kind w h p;
  queries = λ q a kinds w h p. (query_holds known widths bodies q a kinds w h).1 p;
  columns = λ q a kinds w h. (query_holds known widths bodies q a kinds w h).0;
}

-- functions whose bodies are well typed have shaped bodies, by the widths of the whole catalog
pub bodies_shaped : (es : List (List ℕ × HeldObject)) → BodiesTyped [] es →
    BodiesShaped (plain es) (width_in (plain es))
bodies_shaped es typed = all_bodies (width_in (plain es)) [] es (λ name p. absurd cc)
    (λ name t h. ap object_width h) typed

-- well typed queries have well formed plans
pub typed_plans_fit : TypedPlansFit
typed_plans_fit es q a kinds arguments typed tables h p =
    let widths = width_in (plain es) in
    well_formed_plans.queries (query_of (plain es) q) widths arguments
    ((shaped_trees (plain es) widths (bodies_shaped es typed)).queries q a kinds
    (λ name t e. ap object_width (tables name t e)) h p)

-- ---- kinds

-- what is well typed is typed in a plan
pub kinded_trees : TypedTreesKinded
kinded_trees known T = record {
  expressions = λ e a g p kind s h q. expr_kinded known T e a g p kind s h q;
  queries = λ q a g p kinds s h planned. query_kinded known T q a g p kinds s h planned;
}

kinds_of_tables : (known : Catalog) → KindsOf known (kinds_in known)
kinds_of_tables known name t h =
    subst (λ ds. AllLower ds (map (λ c. kind_of_type c.data_type) t.columns))
    (sym (ap object_kinds h)) (columns_lower t.columns)

-- in plans of well typed queries each operand has its kind
pub typed_plans_kinded : TypedPlansKinded
typed_plans_kinded es q a kinds p typed tables functions rows slots h planned =
    let T = kinds_in (plain es) in
    let columns = kinds_of_tables (plain es) in
    kinded_plans (query_of (plain es) q) T p
    (query_kinded (plain es) T q a [] p kinds
    (in_sight T (plain es) a [] p (all_kinded T [] es (λ name. tt) columns typed) columns tables
    functions (subst (RowsLower []) (sym rows) tt) slots) h planned).0
