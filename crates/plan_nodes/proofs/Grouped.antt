-- Finished groups are the rows that a Group means.
use Rattle.std.proofs.Common.{◌≡◌, ℕ, List, [], ◌∷◌, ◌++◌, map, Ok, Err, refl, ap, sym, ◌∙◌}
use Rattle.sql_values.specs.Folds.{folded}
use Rattle.sql_conditions.specs.Conditions.{Area}
use Rattle.row_types.specs.declared.aggregate_column.AggregateColumn.{AggregateColumn}
use Rattle.row_types.specs.Rows.{Row}
use Rattle.row_types.specs.Groups.{Group, groups, values_of_column}
use Rattle.row_types.specs.declared.cell.Cell.{Cell}
use Rattle.row_types.specs.Cells.{PlanRow, Whole, Poisoned}
use Rattle.rel_algebra.specs.Endings.{Ending, cell_end, ending_of}
use Rattle.rel_algebra.specs.Plan.{collected, finish_cells, group_rows, grouped, shown}
use Rattle.rel_algebra.specs.PlanView.{aggregates_of}
use Rattle.group_index.specs.declared.finished_group.FinishedGroup.{FinishedGroup}
use Rattle.group_index.specs.Folded.{Folded, group_end, finished_groups, no_rows, folded_rows}
use Rattle.group_index.specs.Folded.{finished as folded_groups}
use Rattle.plan_nodes.specs.declared.received.Received.{Received}
use Rattle.plan_nodes.specs.declared.received.Received.TheVariants.{Folds, Raised}
use Rattle.plan_nodes.specs.Grouping.{end_cells, groups_rows}
use Rattle.plan_nodes.specs.Receiving.{received}
use Rattle.plan_nodes.proofs.Receiving.{folded_end, folds_received, folds_same}

cells_are : (aggregates : List AggregateColumn) (rows : List Row)
    → end_cells (map (λ (a : AggregateColumn). folded a.kind (values_of_column a.place rows))
    aggregates) ≡ finish_cells (aggregates_of aggregates) rows
cells_are [] rows = refl
cells_are (a ∷ others) rows = ap (λ (cs : List Cell). cell_end
    (ending_of (folded a.kind (values_of_column a.place rows))) ∷ cs) (cells_are others rows)

rows_are : (aggregates : List AggregateColumn) (gs : List Group) →
    groups_rows (map (group_end aggregates) gs) ≡ group_rows (aggregates_of aggregates) gs
rows_are aggregates [] = refl
rows_are aggregates (g ∷ gs) = λ i. Whole (shown g.key ++ cells_are aggregates g.members i) ∷
    rows_are aggregates gs i

-- of rows of values
groups_of : (places : List ℕ) (aggregates : List AggregateColumn) (rs : List Row)
    (end : Ending (List Row)) → Ok rs ≡ end →
    groups_rows (finished_groups places aggregates rs) ≡ grouped places (aggregates_of aggregates)
    end
groups_of places aggregates rs end e = rows_are aggregates (groups places rs) ∙
    ap (grouped places (aggregates_of aggregates)) e

-- ---- of rows that came to a Group

module _ (laws : (places : List ℕ) (aggregates : List AggregateColumn) (rows : List Row) →
    folded_groups (folded_rows places aggregates rows) ≡ finished_groups places aggregates rows)
  where
    folds_by : (places : List ℕ) (aggregates : List AggregateColumn) (f : Folded)
        (gs : List FinishedGroup) (end : Ending (List Row)) →
        folded_end (no_rows places aggregates) end ≡ Folds f → gs ≡ folded_groups f →
        groups_rows gs ≡ grouped places (aggregates_of aggregates) end
    folds_by places aggregates f gs (Ok rs) h g =
        ap groups_rows
        (g ∙ (ap folded_groups (sym (folds_same _ _ h)) ∙ laws places aggregates rs)) ∙
        groups_of places aggregates rs (Ok rs) refl
    folds_by places aggregates f gs (Err a) h g = cc

    -- folded
    pub folds_grouped : (places : List ℕ) (aggregates : List AggregateColumn) (rows : List PlanRow)
        (came : Received) (f : Folded) (gs : List FinishedGroup) →
        received (Folds (no_rows places aggregates)) rows ≡ came → came ≡ Folds f →
        gs ≡ folded_groups f → groups_rows gs ≡ grouped places (aggregates_of aggregates)
        (collected rows)
    folds_grouped places aggregates rows came f gs h e g =
        folds_by places aggregates f gs (collected rows)
        (sym (folds_received (no_rows places aggregates) rows) ∙ (h ∙ e)) g

raised_by : (places : List ℕ) (aggregates : List AggregateColumn) (a : Area)
    (end : Ending (List Row)) → folded_end (no_rows places aggregates) end ≡ Raised a →
    Poisoned a ∷ [] ≡ grouped places (aggregates_of aggregates) end
raised_by places aggregates a (Ok rs) h = cc
raised_by places aggregates a (Err b) h = cc

-- or raised
pub raised_grouped : (places : List ℕ) (aggregates : List AggregateColumn) (rows : List PlanRow)
    (came : Received) (a : Area) →
    received (Folds (no_rows places aggregates)) rows ≡ came → came ≡ Raised a →
    Poisoned a ∷ [] ≡ grouped places (aggregates_of aggregates) (collected rows)
raised_grouped places aggregates rows came a h e = raised_by places aggregates a (collected rows)
    (sym (folds_received (no_rows places aggregates) rows) ∙ (h ∙ e))
