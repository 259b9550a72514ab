-- What is made of a subquery's rows, and of rows in order, is what the expression or the query
-- gives. ISO/IEC 9075-2, 7.17 (query expression) and 7.19 (subquery).
use Rattle.std.proofs.Common.{◌≡◌, List, Result, sym, ap, ◌∙◌, subst}
use Rattle.sql_values.specs.declared.value.Value.{Value}
use Rattle.bound_trees.specs.declared.expr.BoundExpr.{BoundExpr}
use Rattle.bound_trees.specs.declared.expr.BoundExpr.TheVariants as expr
use Rattle.bound_trees.specs.declared.query.BoundQuery.{BoundQuery}
use Rattle.bound_trees.specs.declared.query.BoundQuery.TheVariants as query
use Rattle.row_types.specs.declared.sort_key.SortKey.{SortKey}
use Rattle.row_types.specs.Rows.{Row}
use Rattle.row_types.specs.Sorting.{in_order}
use Rattle.rel_algebra.specs.Tree.{Expr, Query}
use Rattle.rel_algebra.specs.World.{Frame, Ends, after, give, Called}
use Rattle.rel_algebra.specs.Joins.{single_of, exists_of}
use Rattle.rel_algebra.specs.Meaning.{ev, answer, carried}
use Rattle.routine_views.specs.Views.{Known, expr_in, query_in}
use Rattle.run_places.proofs.Seen.{expr_in-Single, expr_in-Exists, query_in-Ordered}
use Rattle.run_choices.specs.declared.stop.Stop.{Stop}
use Rattle.run_expressions.specs.Content.{Content, world_of}
use Rattle.run_expressions.specs.Ending.{Ended}
use Rattle.run_expressions.specs.Following.{Follows}
use Rattle.run_expressions.proofs.Laws.{follows}

module _ (self : Called) (k : Known) (x : BoundExpr) (rows : List Row) (f : Frame)
    (old new : Content)
    (r : Result Value Stop) where
  abbrev rows_of_it : BoundQuery → Content → Ends (List Row)
  rows_of_it q m = answer (query_in k q) self rows f (world_of m)

  -- the plain tree of the expression
  planted : (e : BoundExpr) (t : Expr) → x ≡ e → expr_in k e ≡ t →
      Ended old new r (ev t self rows f (world_of old)) →
      Ended old new r (ev (expr_in k x) self rows f (world_of old))
  planted e t is of d = subst (λ (u : Expr). Ended old new r (ev u self rows f (world_of old)))
      (sym (ap (expr_in k) is ∙ of)) d

  pub single_ends : (q p : BoundQuery) (found : Result (List Row) Stop) → x ≡ expr.Single q →
      p ≡ q → Ended old new found (answer (query_in k p) self rows f (world_of old)) →
      Follows found r (λ all. carried (single_of all)) →
      Ended old new r (ev (expr_in k x) self rows f (world_of old))
  single_ends q p found is same d made = planted (expr.Single q) _ is (expr_in-Single k q)
      (follows old new found r (rows_of_it q old) (λ all. carried (single_of all)) made
      (subst (λ (t : BoundQuery). Ended old new found (rows_of_it t old)) same d))

  pub exists_ends : (q p : BoundQuery) (found : Result (List Row) Stop) → x ≡ expr.Exists q →
      p ≡ q → Ended old new found (answer (query_in k p) self rows f (world_of old)) →
      Follows found r (λ all. give (exists_of all)) →
      Ended old new r (ev (expr_in k x) self rows f (world_of old))
  exists_ends q p found is same d made = planted (expr.Exists q) _ is (expr_in-Exists k q)
      (follows old new found r (rows_of_it q old) (λ all. give (exists_of all)) made
      (subst (λ (t : BoundQuery). Ended old new found (rows_of_it t old)) same d))

-- rows in order
pub ordered_ends : (self : Called) (k : Known) (x q p : BoundQuery) (keys ks : List SortKey)
    (outer : List Row)
    (f : Frame) (old new : Content) (first r : Result (List Row) Stop) → x ≡ query.Ordered q keys →
    p ≡ q → ks ≡ keys →
    Ended old new first (answer (query_in k p) self outer f (world_of old)) →
    Follows first r (λ all. give (in_order ks all)) →
    Ended old new r (answer (query_in k x) self outer f (world_of old))
ordered_ends self k x q p keys ks outer f old new first r is same keys_are d made =
    let w = world_of old in
    subst (λ (e : Ends (List Row)). Ended old new r e)
    (ap (λ (t : BoundQuery). after (answer (query_in k t) self outer f w)
    (λ all. give (in_order ks all))) same
    ∙ ap (λ (ys : List SortKey). after (answer (query_in k q) self outer f w)
    (λ all. give (in_order ys all))) keys_are
    ∙ sym (ap (λ (t : Query). answer t self outer f w)
    (ap (query_in k) is ∙ query_in-Ordered k q keys)))
    (follows old new first r (answer (query_in k p) self outer f w)
    (λ all. give (in_order ks all)) made d)
