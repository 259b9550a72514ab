-- What a SELECT makes of the rows of its FROM is its meaning: groups that are folded as the rows
-- come are the groups of all parts. ISO/IEC 9075-2, 7.13 (group by clause).
use Rattle.std.proofs.Common.{ℕ, suc, ◌≡◌, ◌<◌, ◌+◌, ◌++◌, ◌∷◌, [], List, Option, Some, None}
use Rattle.std.proofs.Common.{length, drop, get_or, map, fold, refl, sym, ap, ◌∙◌, subst, Result}
use Rattle.std.proofs.Common.{Ok, Err}
use Rattle.sql_values.specs.Folds.{folded}
use Rattle.bound_trees.specs.declared.expr.BoundExpr.{BoundExpr}
use Rattle.bound_trees.specs.declared.query.BoundGrouping.{BoundGrouping, out-BoundGrouping}
use Rattle.row_types.specs.declared.aggregate_column.AggregateColumn.{AggregateColumn}
use Rattle.row_types.specs.Rows.{Row}
use Rattle.row_types.specs.Groups.{values_of_column, Group, groups}
use Rattle.rel_algebra.specs.Tree.{Aggregate, Exprs, From}
use Rattle.rel_algebra.specs.Endings.{after as after_end, ending_of}
use Rattle.rel_algebra.specs.World.{World, Frame, Ends, Gives, Raises, RunsOut, Eval, after, give}
use Rattle.rel_algebra.specs.World.{with_front, each_kept, Called}
use Rattle.rel_algebra.specs.Joins.{places, numbered, finish_all, group_row}
use Rattle.rel_algebra.specs.Meaning.{answer, carried, from_rows, record_of}
use Rattle.routine_views.specs.Views.{Known}
use Rattle.catalog_store.specs.View.{Grouping, selected}
use Rattle.run_places.specs.Views.{exprs_in, grouping_in}
use Rattle.run_places.proofs.Seen.{grouping_in-parts}
use Rattle.group_index.specs.declared.finished_group.FinishedGroup.{FinishedGroup}
use Rattle.group_index.specs.Folded.{Folded, with_row, finished, finished_groups, group_end}
use Rattle.group_index.specs.Folded.{folded_rows}
use Rattle.run_choices.specs.declared.stop.Stop.{Stop}
use Rattle.run_expressions.specs.Content.{Content, world_of}
use Rattle.run_expressions.specs.Ending.{Ended}
use Rattle.run_expressions.specs.Following.{Follows}
use Rattle.run_rows.specs.GroupRows.{all_given, row_of_ends}
use Rattle.run_rows.specs.Groups.{argument_columns, folded_parts}
use Rattle.run_places.specs.Groups.{records_by, groups_by, grouped_by, parts_folded, end_record}
use Rattle.run_expressions.proofs.Laws.{Going, going, goes_on, stops, ends_as, follows, after_after}
use Rattle.run_places.proofs.RowByRow.{each_kept-map, kept_at}

-- one by one, or in groups
abbrev pub one_by_one_or_grouped : Called → Option Grouping → Exprs → Exprs → List Row → Frame →
    List Row →
    Eval (List Row)
one_by_one_or_grouped self None conjuncts list outer f rows = records_by self list conjuncts outer f
    rows
one_by_one_or_grouped self (Some g) conjuncts list outer f rows =
    grouped_by self g conjuncts list outer f rows

-- over FROM, as it is grouped or not
pub selected_is : (self : Called) (g : Option Grouping) (list : Exprs) (from : From)
    (conjuncts : Exprs)
    (outer : List Row) (f : Frame) (w : World) →
    answer (selected g list from conjuncts) self outer f w ≡ after
    (from_rows from self outer f w) (one_by_one_or_grouped self g conjuncts list outer f)
selected_is self None list from conjuncts outer f w = refl
selected_is self (Some g) list from conjuncts outer f w = refl

-- ---- the row of a group

ends_are : (i : ℕ) (ags : List Aggregate) (rows : List Row) →
    finish_all (numbered i ags) rows ≡ all_given
    (map (λ (a : AggregateColumn). folded a.kind (values_of_column a.place rows))
    (argument_columns i ags))
ends_are i [] rows = refl
ends_are i (a ∷ ags) rows =
    λ j. after_end (ending_of (folded a (values_of_column i rows)))
    (λ v. after_end (ends_are (suc i) ags rows j) (λ vs. Ok (v ∷ vs)))

row_is : (i : ℕ) (ags : List Aggregate) (g : Group) → group_row (numbered i ags) g ≡ row_of_ends
    (group_end (argument_columns i ags) g).key (group_end (argument_columns i ags) g).ends
row_is i ags g = ap (λ e. after_end e (λ vs. Ok (g.key ++ vs))) (ends_are i ags g.members)

groups_are : (self : Called) (k : ℕ) (ags : List Aggregate) (having list : Exprs) (outer : List Row)
    (f : Frame)
    (parts : List Row) (w : World) →
    groups_by self k ags having list outer f parts w ≡ each_kept
    (end_record self having list outer f)
    (finished_groups (places 0 k) (argument_columns k ags) parts) w
groups_are self k ags having list outer f parts w =
    (λ j. each_kept (λ (g : Group) u. after (carried (row_is k ags g j) u)
    (λ row. record_of list having self (row ∷ outer) f)) (groups (places 0 k) parts) w)
    ∙ sym (each_kept-map (end_record self having list outer f) (group_end (argument_columns k ags))
    (groups (places 0 k) parts) w)

-- ---- all of it

-- that what is kept of parts finishes as their groups
abbrev pub IsOfGroups : Type 0
IsOfGroups = (places : List ℕ) (aggregates : List AggregateColumn) (rows : List Row) →
    finished (folded_rows places aggregates rows) ≡ finished_groups places aggregates rows

abbrev from_there : Called → Exprs → Exprs → List Row → Frame → Folded → Eval (List Row)
from_there self having list outer f x = each_kept (end_record self having list outer f) (finished x)

module _ (self : Called) (law : IsOfGroups) (g : Grouping) (conjuncts list : Exprs)
    (outer : List Row) (f : Frame)
    (rows : List Row) where
  abbrev whole : Eval (List Row)
  whole = grouped_by self g conjuncts list outer f rows

  abbrev parts : Folded → Eval Folded
  parts already = parts_folded self already g.parts conjuncts outer f rows

  grouped_is : (w : World) → whole w ≡ after (parts (folded_parts g.keys g.aggregates []) w)
      (from_there self g.having list outer f)
  grouped_is w =
      (λ j. after (records_by self g.parts conjuncts outer f rows w) (λ ps u.
      (groups_are self g.keys g.aggregates g.having list outer f ps u
      ∙ ap (λ (es : List FinishedGroup). each_kept (end_record self g.having list outer f) es u)
      (sym (law (places 0 g.keys) (argument_columns g.keys g.aggregates) ps))) j))
      ∙ sym (after_after (records_by self g.parts conjuncts outer f rows w)
      (λ ps. give (folded_parts g.keys g.aggregates ps)) (from_there self g.having list outer f))

  -- the groups of what is folded, each finished
  abbrev ended : Folded → World → Ends (List FinishedGroup)
  ended none w = after (parts none w) (λ x. give (finished x))

  abbrev records : List FinishedGroup → Eval (List Row)
  records gs = each_kept (end_record self g.having list outer f) gs

  ended_is : (none : Folded) (w : World) → none ≡ folded_parts g.keys g.aggregates [] →
      whole w ≡ after (ended none w) records
  ended_is none w is = grouped_is w ∙ ap (λ (already : Folded). after (parts already w)
      (from_there self g.having list outer f)) (sym is)
      ∙ sym (after_after (parts none w) (λ x. give (finished x)) records)

  -- they can't be made
  parts_stop : (old new : Content) (none : Folded) (s : Stop) (r : Result (List Row) Stop) →
      none ≡ folded_parts g.keys g.aggregates [] →
      Ended {A = List FinishedGroup} old new (Err s) (ended none (world_of old)) → r ≡ Err s →
      Ended old new r (whole (world_of old))
  parts_stop old new none s r is d answer =
      stops {A = List FinishedGroup} {B = List Row} old old new s (ended none (world_of old))
      records
      (whole (world_of old)) (whole (world_of old)) r (ended_is none (world_of old) is)
      (going old (whole (world_of old)) (whole (world_of old)) refl) d answer

  -- each gives its record
  parts_end : (old now new : Content) (none : Folded) (gs all : List FinishedGroup)
      (r : Result (List Row) Stop) → none ≡ folded_parts g.keys g.aggregates [] →
      Ended old now (Ok gs) (ended none (world_of old)) → all ≡ gs →
      Ended now new r (records all (world_of now)) → Ended old new r (whole (world_of old))
  parts_end old now new none gs all r is d are e =
      ends_as old now new (records gs (world_of now)) (whole (world_of old))
      (records all (world_of now)) r
      (goes_on old old now gs (ended none (world_of old)) records (whole (world_of old))
      (whole (world_of old)) (ended_is none (world_of old) is)
      (going old (whole (world_of old)) (whole (world_of old)) refl) d)
      (ap (λ (es : List FinishedGroup). records es (world_of now)) (sym are)) e

-- of a bound grouping with these parts
module _ (self : Called) (law : IsOfGroups) (k : Known) (g : BoundGrouping) (ps hs : List BoundExpr)
    (ags : List Aggregate) (conjuncts list : Exprs) (outer : List Row) (f : Frame) (rows : List Row)
    (old now : Content) (none : Folded) (first : Result Folded Stop)
    (ps_are : ps ≡ (out-BoundGrouping g).parts) (hs_are : hs ≡ (out-BoundGrouping g).having)
    (ags_are : ags ≡ (out-BoundGrouping g).aggregates)
    (none_is : none ≡ folded_parts (out-BoundGrouping g).keys ags [])
    (d : Ended old now first (parts_folded self none (exprs_in k ps) conjuncts outer f rows
    (world_of old))) where
  abbrev plain : Grouping
  plain = record {
    keys = (out-BoundGrouping g).keys;
    parts = exprs_in k ps;
    aggregates = ags;
    having = exprs_in k hs;
  }

  plain_is : plain ≡ grouping_in k g
  plain_is = (λ i. record {
    keys = (out-BoundGrouping g).keys;
    parts = exprs_in k (ps_are i);
    aggregates = ags_are i;
    having = exprs_in k (hs_are i);
  }) ∙ sym (grouping_in-parts k g)

  plainly : (new : Content) (r : Result (List Row) Stop) →
      Ended old new r (grouped_by self plain conjuncts list outer f rows (world_of old)) →
      Ended old new r (grouped_by self (grouping_in k g) conjuncts list outer f rows (world_of old))
  plainly new r e = subst (λ (q : Grouping). Ended old new r (grouped_by self q conjuncts list outer
      f
      rows (world_of old))) plain_is e

  pub groups_stop : (s : Stop) (r : Result (List Row) Stop) →
      Follows {B = List FinishedGroup} first (Err s) (λ x. give (finished x)) → r ≡ Err s →
      Ended old now r (grouped_by self (grouping_in k g) conjuncts list outer f rows (world_of old))
  groups_stop s r made answer = plainly now r
      (parts_stop self law plain conjuncts list outer f rows old now none s r none_is
      (follows {B = List FinishedGroup} old now first (Err s)
      (parts_folded self none (exprs_in k ps) conjuncts outer f rows (world_of old))
      (λ x. give (finished x)) made d) answer)

  pub groups_end : (new : Content) (gs all : List FinishedGroup) (r : Result (List Row) Stop) →
      Follows first (Ok gs) (λ x. give (finished x)) → all ≡ gs →
      Ended now new r (each_kept (end_record self (exprs_in k hs) list outer f) all (world_of now))
      →
      Ended old new r (grouped_by self (grouping_in k g) conjuncts list outer f rows (world_of old))
  groups_end new gs all r made are e = plainly new r
      (parts_end self law plain conjuncts list outer f rows old now new none gs all r none_is
      (follows old now first (Ok gs)
      (parts_folded self none (exprs_in k ps) conjuncts outer f rows (world_of old))
      (λ x. give (finished x)) made d) are e)

-- ---- the loop over rows

folds_on : (x : Folded) (o : Option Row) (vs : List Row) →
    fold with_row x (with_front o vs) ≡ fold with_row (fold with_row x (with_front o [])) vs
folds_on x None vs = refl
folds_on x (Some r) vs = refl

folds_in : (x : Folded) (o : Option Row) (e : Ends (List Row)) →
    after (after e (λ ys. give (with_front o ys))) (λ ts. give (fold with_row x ts)) ≡ after e
    (λ ts. give (fold with_row (fold with_row x (with_front o [])) ts))
folds_in x o (Gives ys w) = ap (λ (y : Folded). Gives y w) (folds_on x o ys)
folds_in x o (Raises area w) = refl
folds_in x o (RunsOut w) = refl

folded_on : (x : Folded) (e : Ends (Option Row)) (more : Eval (List Row)) →
    after (after e (λ o u. after (more u) (λ ys. give (with_front o ys))))
    (λ ts. give (fold with_row x ts)) ≡ after
    (after e (λ o. give (fold with_row x (with_front o []))))
    (λ y u. after (more u) (λ ts. give (fold with_row y ts)))
folded_on x (Gives o w) more = folds_in x o (more w)
folded_on x (Raises area w) more = refl
folded_on x (RunsOut w) more = refl

module _ (part : Row → Eval (Option Row)) (xs : List Row) (i : ℕ) (x : Row)
    (old now new : Content) (first : Result (Option Row) Stop) (kept : Folded)
    (whole : Ends Folded) (h : i < length xs) (is : x ≡ get_or xs i x)
    (g : Going old now (after (each_kept part (drop i xs) (world_of now))
    (λ ts. give (fold with_row kept ts))) whole)
    (d : Ended now new first (part x (world_of now))) where
  abbrev left : Ends Folded
  left = after (each_kept part (drop i xs) (world_of now)) (λ ts. give (fold with_row kept ts))

  abbrev taken : Ends Folded
  taken = after (part x (world_of now)) (λ o. give (fold with_row kept (with_front o [])))

  abbrev later : Folded → Eval Folded
  later y u = after (each_kept part (drop (i + 1) xs) u) (λ ts. give (fold with_row y ts))

  left_is : left ≡ after taken later
  left_is = ap (λ e. after e (λ ts. give (fold with_row kept ts)))
      (kept_at part xs i x (world_of now) h is)
      ∙ folded_on kept (part x (world_of now)) (each_kept part (drop (i + 1) xs))

  -- its parts can't be evaluated, or taken
  pub part_stops : (s : Stop) (r : Result Folded Stop) →
      Follows {B = Folded} first (Err s) (λ o. give (fold with_row kept (with_front o []))) →
      r ≡ Err s → Ended old new r whole
  part_stops s r made answer = stops {A = Folded} {B = Folded} old now new s taken later left whole
      r left_is g (follows {B = Folded} now new first (Err s) (part x (world_of now))
      (λ o. give (fold with_row kept (with_front o []))) made d) answer

  -- they are taken, where it is kept, and the next follows
  pub part_taken : (y : Folded) →
      Follows first (Ok y) (λ o. give (fold with_row kept (with_front o []))) →
      Going old new (later y (world_of new)) whole
  part_taken y made = goes_on old now new y taken later left whole left_is g
      (follows now new first (Ok y) (part x (world_of now))
      (λ o. give (fold with_row kept (with_front o []))) made d)
