-- What is kept of rows that are taken one by one is what is kept of their groups.
use Rattle.std.proofs.Common.{◌≡◌, ℕ, Bool, true, false, List, [], ◌∷◌, ◌++◌, map, fold}
use Rattle.std.proofs.Common.{if◌then◌else◌, refl, sym, ap, ◌∙◌}
use Rattle.std.proofs.lemmas.List.{map-append}
use Rattle.sql_values.specs.declared.value.Value.{Value}
use Rattle.sql_values.specs.declared.fold.FoldKind.{FoldKind}
use Rattle.sql_values.specs.Folds.{folded, Taken, with_value, taken, finished as fold_end}
use Rattle.row_types.specs.declared.aggregate_column.AggregateColumn.{AggregateColumn}
use Rattle.row_types.specs.Rows.{Row}
use Rattle.row_types.specs.Groups.{value_at, values_of_column, values_at, same_row, Group, put}
use Rattle.row_types.specs.Groups.{grouped_from, first_groups, groups}
use Rattle.group_index.specs.Kept.{ColumnTaken, no_column, column_with, column_end, kept_with}
use Rattle.group_index.specs.Kept.{none_kept}
use Rattle.group_index.specs.Folded.{Folded, first_kept, kept_put, with_row, folded_rows}
use Rattle.group_index.specs.Folded.{finished_group, finished, group_end, finished_groups}

taken_more : (t : Taken) (vs : List Value) (v : Value) →
    fold with_value t (vs ++ v ∷ []) ≡ with_value (fold with_value t vs) v
taken_more t [] v = refl
taken_more t (w ∷ vs) v = taken_more (with_value t w) vs v

-- what is kept of a column, and of the aggregates, of rows
abbrev column_of : List Row → AggregateColumn → ColumnTaken
column_of rows a = record { place = a.place; taken = taken a.kind (values_of_column a.place rows) }

abbrev kept_of : List AggregateColumn → List Row → List ColumnTaken
kept_of aggregates rows = map (column_of rows) aggregates

abbrev column_at : AggregateColumn → Taken → ColumnTaken
column_at a t = record { place = a.place; taken = t }

column_more : (rows : List Row) (row : Row) (a : AggregateColumn) →
    column_of (rows ++ row ∷ []) a ≡ column_with row (column_of rows a)
column_more rows row a =
    ap (column_at a) (ap (taken a.kind) (map-append (λ (r : Row). value_at r a.place) rows
    (row ∷ [])) ∙ taken_more _ (values_of_column a.place rows) (value_at row a.place))

kept_more : (aggregates : List AggregateColumn) (rows : List Row) (row : Row) →
    kept_of aggregates (rows ++ row ∷ []) ≡ kept_with row (kept_of aggregates rows)
kept_more [] rows row = refl
kept_more (a ∷ others) rows row = λ i. column_more rows row a i ∷ kept_more others rows row i

abbrev Kept : Type 0
Kept = Row × List ColumnTaken

abbrev kept_group : List AggregateColumn → Group → Kept
kept_group aggregates g = (g.key, kept_of aggregates g.members)

abbrev put_by : Bool → Row → Group → List Group → List Group → List Group
put_by b row g gs more = if b then record { key = g.key; members = g.members ++ row ∷ [] } ∷
    gs else g ∷ more

abbrev kept_by : Bool → Row → Kept → List Kept → List Kept → List Kept
kept_by b row g gs more = if b then (g.0, kept_with row g.1) ∷ gs else g ∷ more

put_one : (aggregates : List AggregateColumn) (row : Row) (g : Group) (gs more : List Group)
    (b : Bool)
    → map (kept_group aggregates) (put_by b row g gs more) ≡ kept_by b row (kept_group aggregates g)
    (map (kept_group aggregates) gs) (map (kept_group aggregates) more)
put_one aggregates row g gs more true = ap (λ (k : List ColumnTaken). (g.key, k) ∷
    map (kept_group aggregates) gs) (kept_more aggregates g.members row)
put_one aggregates row g gs more false = refl

none_is : (aggregates : List AggregateColumn) → kept_of aggregates [] ≡ none_kept aggregates
none_is [] = refl
none_is (a ∷ others) = ap (λ (cs : List ColumnTaken). no_column a ∷ cs) (none_is others)

put_kept : (aggregates : List AggregateColumn) (key row : Row) (gs : List Group) →
    map (kept_group aggregates) (put key row gs) ≡ kept_put aggregates key row
    (map (kept_group aggregates) gs)
put_kept aggregates key row [] = ap (λ (k : List ColumnTaken). (key, k) ∷ [])
    (kept_more aggregates [] row ∙ ap (kept_with row) (none_is aggregates))
put_kept aggregates key row (g ∷ gs) =
    put_one aggregates row g gs (put key row gs) (same_row key g.key)
    ∙ ap (λ (ks : List Kept). kept_by (same_row key g.key) row (kept_group aggregates g)
    (map (kept_group aggregates) gs) ks) (put_kept aggregates key row gs)

abbrev of_kept : List ℕ → List AggregateColumn → List Kept → Folded
of_kept places aggregates kept = record { places = places; aggregates = aggregates; groups = kept }

grouped_kept : (places : List ℕ) (aggregates : List AggregateColumn) (gs : List Group)
    (rows : List Row)
    → fold with_row (of_kept places aggregates (map (kept_group aggregates) gs)) rows ≡
    of_kept places aggregates (map (kept_group aggregates) (grouped_from places gs rows))
grouped_kept places aggregates gs [] = refl
grouped_kept places aggregates gs (r ∷ rs) =
    ap (λ (ks : List Kept). fold with_row (of_kept places aggregates ks) rs)
    (sym (put_kept aggregates (values_at r places) r gs))
    ∙ grouped_kept places aggregates (put (values_at r places) r gs) rs

first_is : (places : List ℕ) (aggregates : List AggregateColumn) →
    first_kept places aggregates ≡ map (kept_group aggregates) (first_groups places)
first_is [] aggregates = ap (λ (k : List ColumnTaken). ([], k) ∷ []) (sym (none_is aggregates))
first_is (p ∷ ps) aggregates = refl

folded_is : (places : List ℕ) (aggregates : List AggregateColumn) (rows : List Row)
    → folded_rows places aggregates rows ≡ of_kept places aggregates
    (map (kept_group aggregates) (groups places rows))
folded_is places aggregates rows =
    ap (λ (ks : List Kept). fold with_row (of_kept places aggregates ks) rows)
    (first_is places aggregates)
    ∙ grouped_kept places aggregates (first_groups places) rows

-- an aggregate of values that were taken one by one is that of their list
module _ (folds : (kind : FoldKind) (vs : List Value) → fold_end (taken kind vs) ≡ folded kind vs)
  where
    ends_are : (aggregates : List AggregateColumn) (rows : List Row)
        → map column_end (kept_of aggregates rows) ≡
        map (λ (a : AggregateColumn). folded a.kind (values_of_column a.place rows)) aggregates
    ends_are [] rows = refl
    ends_are (a ∷ others) rows = λ i. folds a.kind (values_of_column a.place rows) i ∷
        ends_are others rows i

    groups_end : (aggregates : List AggregateColumn) (gs : List Group) →
        map finished_group (map (kept_group aggregates) gs) ≡ map (group_end aggregates) gs
    groups_end aggregates [] = refl
    groups_end aggregates (g ∷ gs) = λ i. record {
      key = g.key;
      ends =
          ends_are aggregates g.members i;
    } ∷ groups_end aggregates gs i

    pub of_groups : (places : List ℕ) (aggregates : List AggregateColumn) (rows : List Row) →
        finished (folded_rows places aggregates rows) ≡ finished_groups places aggregates rows
    of_groups places aggregates rows = ap finished (folded_is places aggregates rows) ∙
        groups_end aggregates (groups places rows)
