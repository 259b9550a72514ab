-- What a kind makes of what the rows of an inner plan come to.
use Rattle.std.proofs.Common.{◌≡◌, ℕ, zero, suc, List}
use Rattle.std.proofs.Common.{[], ◌∷◌, ◌++◌, map, length, replicate}
use Rattle.std.proofs.Common.{Ok, Err, refl, sym, ap, ◌∙◌}
use Rattle.std.proofs.lemmas.List.{append_assoc, append-nil, length-map}
use Rattle.sql_values.specs.declared.value.Value.{Value}
use Rattle.sql_conditions.specs.Conditions.{area_of}
use Rattle.sql_conditions.specs.declared.condition.EngineCondition.TheVariants.{SeveralRows}
use Rattle.row_types.specs.Rows.{Row}
use Rattle.row_types.specs.Groups.{grouped_from}
use Rattle.row_types.specs.declared.cell.Cell.{Cell}
use Rattle.row_types.specs.declared.cell.Cell.TheVariants.{Val, Cond}
use Rattle.row_types.specs.declared.aggregate_column.AggregateColumn.{AggregateColumn}
use Rattle.row_types.specs.Cells.{PlanRow}
use Rattle.rel_algebra.specs.Tree.{Aggregate}
use Rattle.rel_algebra.specs.Endings.{Ending, after}
use Rattle.rel_algebra.specs.Plan.{Kind, Scalar, single, exists, member, aggregate, all_or_first}
use Rattle.rel_algebra.specs.Plan.{cells_at, collapse, collapse_as, collected, finish_cells}
use Rattle.rel_algebra.specs.Plan.{group_rows, grouped, into, into_cells, kind_width, shown}
use Rattle.rel_algebra.specs.Plan.{values_of}
use Rattle.rel_algebra.specs.Joins.{places}
use Rattle.rel_algebra.specs.States.{no_data}
use Rattle.rel_algebra.specs.PlanView.{aggregates_of}
use Rattle.plan_conditions.specs.Into.{into_end}
use Rattle.plan_rows.specs.Subqueries.{exists_end, member_end, single_end}
use Rattle.plan_nodes.specs.declared.received.Received.{Received}
use Rattle.plan_nodes.specs.declared.received.Received.TheVariants.{Rows}
use Rattle.plan_exec.specs.Applying.{aggregate_cells, ended_as}
use Rattle.plan_nodes.specs.Fates.{passed}
use Rattle.plan_nodes.specs.Receiving.{received}
use Rattle.plan_nodes.proofs.Laws.{none_passed}
use Rattle.plan_nodes.proofs.Laws.{list_of, list_received, rows_same}
use Rattle.plan_exec.proofs.Settled.{told_values}

pub collapse_is : (k : Kind) (c : Cell) (rows : List PlanRow) →
    collapse k c rows ≡ ended_as k c (collected rows)
collapse_is single c rows = refl
collapse_is exists c rows = refl
collapse_is (member s) (Val v) rows = refl
collapse_is (member s) (Cond a) rows = refl
collapse_is (aggregate ags) c rows = refl
collapse_is (into n) c rows = refl

-- ---- queries inside expressions

pub single_ended : (c : Cell) (end : Ending (List Row)) →
    single_end end ∷ [] ≡ ended_as single c end
single_ended c (Ok rs) = refl
single_ended c (Err a) = refl

pub exists_ended : (c : Cell) (end : Ending (List Row)) →
    exists_end end ∷ [] ≡ ended_as exists c end
exists_ended c (Ok rs) = refl
exists_ended c (Err a) = refl

pub member_ended : (s : Scalar) (c : Cell) (end : Ending (List Row)) →
    member_end c end ∷ [] ≡ ended_as (member s) c end
member_ended s (Val v) (Ok rs) = refl
member_ended s (Val v) (Err a) = refl
member_ended s (Cond a) end = refl

-- ---- SELECT INTO

into_ended : (n : ℕ) (c : Cell) (end : Ending (List Row)) → into_end n end ≡ ended_as (into n) c end
into_ended n c (Ok rs) = refl
into_ended n c (Err a) = refl

-- ---- aggregates

-- without a column there is one group
one_group : (members rows : List Row) → grouped_from []
    (record { key = []; members = members } ∷ []) rows ≡
    record { key = []; members = members ++ rows } ∷ []
one_group members [] = ap (λ ms. record { key = []; members = ms } ∷ []) (sym (append-nil members))
one_group members (r ∷ rows) =
    one_group (members ++ r ∷ []) rows ∙ ap (λ ms. record { key = []; members = ms } ∷ [])
    (append_assoc members (r ∷ []) rows)

first_of : (n : ℕ) (e : Ending Row) → all_or_first n e ≡ aggregate_cells n
    (after e (λ r. Ok (r ∷ [])))
first_of n (Ok vs) = refl
first_of n (Err a) = refl

aggregates_end : (ags : List (Aggregate × ℕ)) (c : Cell) (e : Ending (List Row)) →
    collapse_as (aggregate ags) c e ≡ aggregate_cells (length ags) (collected (grouped [] ags e))
aggregates_end ags c (Ok rs) =
    first_of (length ags) (values_of (finish_cells ags rs))
    ∙ ap (λ gs. aggregate_cells (length ags) (collected (group_rows ags gs)))
    (sym (one_group [] rs))
aggregates_end ags c (Err a) = refl

-- the aggregates of all rows are those of their one group
pub aggregates_are : (columns : List AggregateColumn) (c : Cell) (rows : List PlanRow) →
    collapse (aggregate (aggregates_of columns)) c rows ≡ aggregate_cells (length columns)
    (collected (grouped [] (aggregates_of columns) (collected rows)))
aggregates_are columns c rows =
    aggregates_end (aggregates_of columns) c (collected rows)
    ∙ ap (λ n. aggregate_cells n (collected (grouped [] (aggregates_of columns) (collected rows))))
    (length-map columns _)

-- ---- how many cells there are

finish_length : (ags : List (Aggregate × ℕ)) (rs : List Row) →
    length (finish_cells ags rs) ≡ length ags
finish_length [] rs = refl
finish_length (a ∷ ags) rs = ap suc (finish_length ags rs)

copies_length : {A : Type 0} (n : ℕ) (x : A) → length (replicate n x) ≡ n
copies_length zero x = refl
copies_length (suc n) x = ap suc (copies_length n x)

all_length : (n : ℕ) (cs : List Cell) (e : Ending Row) → length cs ≡ n → values_of cs ≡ e →
    length (all_or_first n e) ≡ n
all_length n cs (Ok vs) l h = ap length (sym (told_values cs vs h)) ∙ l
all_length n cs (Err a) l h = copies_length n (Cond a)

picked_length : (row : List Cell) (is : List ℕ) → length (cells_at row is) ≡ length is
picked_length row [] = refl
picked_length row (i ∷ is) = ap suc (picked_length row is)

counted_places : (i n : ℕ) → length (places i n) ≡ n
counted_places i zero = refl
counted_places i (suc n) = ap suc (counted_places (suc i) n)

-- the cells of the one row, or copies
into_length : (n : ℕ) (rs : List Row) → length (into_cells n rs) ≡ n
into_length n [] = copies_length n (Cond no_data)
into_length n (r ∷ []) = picked_length (shown r) (places 0 n) ∙ counted_places 0 n
into_length n (r ∷ s ∷ rs) = copies_length n (Cond (area_of SeveralRows))

end_length : (k : Kind) (c : Cell) (e : Ending (List Row)) → length (ended_as k c e) ≡ kind_width k
end_length single c (Ok rs) = refl
end_length exists c (Ok rs) = refl
end_length (member s) (Val v) (Ok rs) = refl
end_length (member s) (Cond a) (Ok rs) = refl
end_length (aggregate ags) c (Ok rs) = all_length (length ags) (finish_cells ags rs)
    (values_of (finish_cells ags rs)) (finish_length ags rs) refl
end_length (into n) c (Ok rs) = into_length n rs
end_length single c (Err a) = refl
end_length exists c (Err a) = refl
end_length (member s) (Val v) (Err a) = refl
end_length (member s) (Cond b) (Err a) = refl
end_length (aggregate ags) c (Err a) = copies_length (length ags) (Cond a)
end_length (into n) c (Err a) = copies_length n (Cond a)

-- ---- the scalar of an Apply

-- it is true: each cell stays
pub all_stay : (f : Cell → Cell) → ((d : Cell) → f d ≡ d) → (cs : List Cell) → map f cs ≡ cs
all_stay f h [] = refl
all_stay f h (c ∷ cs) = ap (λ d. d ∷ map f cs) (h c) ∙ ap (λ ds. c ∷ ds) (all_stay f h cs)

all_turn : (f : Cell → Cell) (x : Cell) → ((d : Cell) → f d ≡ x) → (cs : List Cell) →
    map f cs ≡ replicate (length cs) x
all_turn f x h [] = refl
all_turn f x h (c ∷ cs) = ap (λ d. d ∷ map f cs) (h c) ∙ ap (λ ds. x ∷ ds) (all_turn f x h cs)

-- it isn't: each becomes the same
pub all_become : (f : Cell → Cell) (x : Cell) → ((d : Cell) → f d ≡ x) →
    (k : Kind) (c : Cell) (rows : List PlanRow) →
    map f (collapse k c rows) ≡ replicate (kind_width k) x
all_become f x h k c rows =
    all_turn f x h (collapse k c rows) ∙ ap (λ n. replicate n x) (ap length (collapse_is k c rows) ∙
    end_length k c (collected rows))

-- ---- the row of aggregates

one_row : (ags : List (Aggregate × ℕ)) (e : Ending (List Row)) → length (grouped [] ags e) ≡ 1
one_row ags (Ok rs) = ap (λ gs. length (group_rows ags gs)) (one_group [] rs)
one_row ags (Err a) = refl

module _ (columns : List AggregateColumn) (o : List (List Cell)) (args : List Value)
    (rows list : List PlanRow) (row : Received)
    (h : row ≡ received (Rows []) (passed [] o args
    (grouped [] (aggregates_of columns) (collected rows)))) (e : row ≡ Rows list) where
  pub row_came : list ≡ grouped [] (aggregates_of columns) (collected rows)
  row_came =
      let made = grouped [] (aggregates_of columns) (collected rows) in
      rows_same list made
      (sym e ∙ (h ∙ (list_received [] (passed [] o args made) ∙
      ap Rows (none_passed [] o args made refl))))

  pub row_length : length list ≡ 1
  row_length = ap length row_came ∙ one_row (aggregates_of columns) (collected rows)

  pub row_cells_are : (c : Cell) (n : ℕ) (end : Ending (List Row)) → n ≡ length columns →
      end ≡ collected list → aggregate_cells n end ≡ collapse (aggregate (aggregates_of columns)) c
      rows
  row_cells_are c n end k h =
      ap (λ m. aggregate_cells m end) k ∙ (ap (aggregate_cells (length columns))
      (h ∙ ap collected row_came) ∙ sym (aggregates_are columns c rows))

-- ---- a list that is judged

module _ (start came : Received) (rows list : List PlanRow) (b : start ≡ Rows [])
    (h : received start rows ≡ came) (e : came ≡ Rows list) where
  list_is : rows ≡ list
  list_is = list_of rows list (ap (λ r. received r rows) (sym b) ∙ (h ∙ e))

  pub judged_length : length list ≡ length rows
  judged_length = ap length (sym list_is)

  pub judged_cells : (k : Kind) (m : Cell) → ended_as k m (collected list) ≡ collapse k m rows
  judged_cells k m = ap (λ xs. ended_as k m (collected xs)) (sym list_is) ∙
      sym (collapse_is k m rows)

  pub into_judged : (k : Kind) (n : ℕ) (m : Cell) → k ≡ into n →
      into_end n (collected list) ≡ collapse k m rows
  into_judged k n m is =
      into_ended n m (collected list) ∙ (ap (λ j. ended_as j m (collected list)) (sym is) ∙
      judged_cells k m)
