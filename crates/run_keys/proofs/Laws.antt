-- What holds of rows that are met, for the crates above.
use Rattle.std.proofs.Common.{◌≡◌, sym, refl, ap, ◌∙◌, List, Option, Some, None, Result, Ok, map}
use Rattle.std.proofs.Common.{subst}
use Rattle.std.specs.Option.{option_map}
use Rattle.row_types.specs.Rows.{Row}
use Rattle.bound_trees.specs.declared.expr.BoundExpr.{BoundExpr}
use Rattle.bound_trees.specs.declared.query.BoundGrouping.{BoundGrouping}
use Rattle.bound_trees.specs.declared.query.BoundSelect.{BoundSelect, out-BoundSelect}
use Rattle.rel_algebra.specs.Tree.{Exprs, Query}
use Rattle.rel_algebra.specs.World.{Called, Ends, Eval, Frame, World, after}
use Rattle.rel_algebra.specs.Meaning.{answer, from_rows}
use Rattle.catalog_store.specs.View.{Grouping, from_of, selected}
use Rattle.routine_views.specs.Views.{Known}
use Rattle.run_choices.specs.declared.stop.Stop.{Stop}
use Rattle.run_expressions.specs.Content.{Content, world_of}
use Rattle.run_expressions.specs.Ending.{Ended}
use Rattle.run_expressions.proofs.Laws.{ends_as, going, goes_on}
use Rattle.run_places.specs.Groups.{grouped_by, groups_by, records_by}
use Rattle.run_places.specs.Views.{exprs_in, grouping_in, item_in, select_in}
use Rattle.run_places.proofs.Laws.{select_in-parts}
use Rattle.run_keys.specs.LeftOut.{AreMet}
use Rattle.run_keys.specs.Made.{made_of}

module _ (self : Called) (k : Known) (q : BoundSelect) (outer : List Row) (f : Frame) where
  abbrev list : Exprs
  list = exprs_in k (out-BoundSelect q).items

  abbrev conjuncts : Exprs
  conjuncts = exprs_in k (out-BoundSelect q).conjuncts

  abbrev groups : Option Grouping
  groups = option_map (grouping_in k) (out-BoundSelect q).grouping

  abbrev first : Eval (List Row)
  first = from_rows (from_of (map (item_in k) (out-BoundSelect q).from)) self outer f

  abbrev whole : Eval (List Row)
  whole = answer (select_in k q) self outer f

  -- what is made of rows of FROM
  abbrev pub of_rows : List Row → Eval (List Row)
  of_rows = made_of groups self list conjuncts outer f

  made_by : (g : Option Grouping) (w : World) →
      answer (selected g list (from_of (map (item_in k) (out-BoundSelect q).from)) conjuncts) self
      outer f w ≡ after (first w) (made_of g self list conjuncts outer f)
  made_by None w = refl
  made_by (Some g) w = refl

  whole_is : (w : World) → whole w ≡ after (first w) of_rows
  whole_is w = ap (λ (t : Query). answer t self outer f w) (select_in-parts k q) ∙ made_by groups w

  -- FROM is complete, and its rows go on
  pub all_make : (old now new : Content) (rows : List Row) (r : Result (List Row) Stop) →
      Ended old now (Ok rows) (first (world_of old)) →
      Ended now new r (of_rows rows (world_of now)) → Ended old new r (whole (world_of old))
  all_make old now new rows r d e =
      ends_as old now new (of_rows rows (world_of now)) (whole (world_of old))
      (of_rows rows (world_of now)) r
      (goes_on old old now rows (first (world_of old)) of_rows (whole (world_of old))
      (whole (world_of old)) (whole_is (world_of old))
      (going old (whole (world_of old)) (whole (world_of old)) refl) d)
      refl e

  same_made : (g : Option Grouping) (all rows : List Row) (w : World) →
      ((es : Exprs) → records_by self es conjuncts outer f all w
      ≡ records_by self es conjuncts outer f rows w) →
      made_of g self list conjuncts outer f all w ≡ made_of g self list conjuncts outer f rows w
  same_made None all rows w same = same list
  same_made (Some g) all rows w same =
      ap (λ (d : Ends (List Row)). after d (groups_by self g.keys g.aggregates g.having list outer f))
      (same g.parts)

  -- the rows that are met go on
  pub met_make : (old new : Content) (rows : List Row) (r : Result (List Row) Stop) →
      AreMet q outer f (world_of old) rows → Ended old new r (of_rows rows (world_of old)) →
      Ended old new r (whole (world_of old))
  met_make old new rows r met e =
      subst (λ (d : Ends (List Row)). Ended old new r d)
      (sym (whole_is (world_of old) ∙
      (ap (λ (d : Ends (List Row)). after d of_rows) (met.given k self outer f) ∙
      same_made groups met.all rows (world_of old) (met.same k self)))) e

-- what one of the two ways makes of rows
module _ (self : Called) (k : Known) (q : BoundSelect) (es cs : List BoundExpr) (outer : List Row)
    (f : Frame) (rows : List Row) (list_is : es ≡ (out-BoundSelect q).items)
    (conjuncts_are : cs ≡ (out-BoundSelect q).conjuncts) where
  pub grouped_made : (g : BoundGrouping) (old new : Content) (r : Result (List Row) Stop) →
      Some g ≡ (out-BoundSelect q).grouping →
      Ended old new r (grouped_by self (grouping_in k g) (exprs_in k cs) (exprs_in k es) outer f
      rows (world_of old)) → Ended old new r (of_rows self k q outer f rows (world_of old))
  grouped_made g old new r is e =
      subst (λ (d : Ends (List Row)). Ended old new r d)
      (λ i. made_of (option_map (grouping_in k) (is i)) self (exprs_in k (list_is i))
      (exprs_in k (conjuncts_are i)) outer f rows (world_of old)) e

  pub listed_made : (old new : Content) (r : Result (List Row) Stop) →
      None ≡ (out-BoundSelect q).grouping →
      Ended old new r (records_by self (exprs_in k es) (exprs_in k cs) outer f rows
      (world_of old)) → Ended old new r (of_rows self k q outer f rows (world_of old))
  listed_made old new r is e =
      subst (λ (d : Ends (List Row)). Ended old new r d)
      (λ i. made_of (option_map (grouping_in k) (is i)) self (exprs_in k (list_is i))
      (exprs_in k (conjuncts_are i)) outer f rows (world_of old)) e
