-- What each construct of queries and of FROM means, where its parts are right.
use Rattle.std.proofs.Common.{◌≡◌, ℕ, zero, suc, ◌+◌, List, [], ◌∷◌, ◌++◌, length, replicate, refl}
use Rattle.std.proofs.Common.{ap, sym, ◌∙◌}
use Rattle.std.proofs.lemmas.List.{append-nil}
use Rattle.sql_values.specs.declared.value.Value.TheVariants.{Null}
use Rattle.row_types.specs.Cells.{PlanRow, Poisoned, Whole}
use Rattle.row_types.specs.Rows.{Row}
use Rattle.row_types.specs.declared.cell.Cell.{Cell}
use Rattle.row_types.specs.declared.cell.Cell.TheVariants.{Val}
use Rattle.rel_algebra.specs.Emit.{all_true, all_values, emit_all, emit_tests, entered, filters}
use Rattle.rel_algebra.specs.Emit.{filters_width, from_plan, none_waits, plan, selected}
use Rattle.rel_algebra.specs.Endings.{Ending, after}
use Rattle.rel_algebra.specs.Groups.{Group, groups}
use Rattle.row_types.specs.Sorting.{in_order}
use Rattle.rel_algebra.specs.Joins.{from_width, group_row, numbered, or_nulls, pairs, places}
use Rattle.rel_algebra.specs.Plain.{answer, columns_in, each_of, from_rows, holds, joined_row}
use Rattle.rel_algebra.specs.Plain.{kept_if, within}
use Rattle.rel_algebra.specs.Plan.{added, cell_of, cells_at, collected, cross, crossed, den, each}
use Rattle.rel_algebra.specs.Plan.{filter, finish_cells, finished, group, group_rows, grouped}
use Rattle.rel_algebra.specs.Plan.{joined, keep, kept, or_null_cells, settled, shown, shown_rows}
use Rattle.rel_algebra.specs.Plan.{sight, sorted, values_of, with_settled}
use Rattle.rel_algebra.specs.Tree.{Aggregate, Cross, Derived, Exprs, From, Grouped, Inner}
use Rattle.rel_algebra.specs.Tree.{LeftOuter, Ordered, Query, Select, Table}
use Rattle.row_types.specs.declared.sort_key.SortKey.{SortKey}
use Rattle.rel_algebra.proofs.Growing.{grown_columns, grows_same, shown_long}
use Rattle.rel_algebra.proofs.Truths.{both}
use Rattle.rel_algebra.proofs.Counts.{numbered_long}
use Rattle.rel_algebra.proofs.Nodes.{entered_reads, finish_long}
use Rattle.rel_algebra.proofs.Planned.{FromPlans}
use Rattle.rel_algebra.proofs.Right.{AllRight, Makes, QueryMeans, all_right}
use Rattle.rel_algebra.proofs.Rows.{AreCells, are_cells, both_finished, collected_append}
use Rattle.rel_algebra.proofs.Rows.{collected_each, collected_rows, collected_shown, crossed_shown}
use Rattle.rel_algebra.proofs.Rows.{each_each, settled_finished, shown_append}
use Rattle.rel_algebra.proofs.Tests.{all_true_cell, filtered, filters_den, kept_holds, kept_shown}
use Rattle.rel_algebra.proofs.Tests.{passed_kept, row_of, row_selected, selected_collected}
use Rattle.rel_algebra.proofs.Tests.{selected_den, selected_row, tests_pass, true_cell}
use Rattle.rel_algebra.proofs.Wide.{KeysLong, from_wide, groups_long, longer, pairs_wide, wide_two}
use Rattle.rel_algebra.proofs.Words.{checks_guard, guard, values_finished}
use Rattle.std.proofs.Common.{Err, Ok}

pub select_means : (x : From) (tests items : Exprs) → FromPlans x → Makes x → AllRight tests →
    AllRight items → QueryMeans (Select items x tests)
select_means x tests items px hx ht hi w fits o f e ag =
    selected_collected tests items ht hi w fits o f e ag (from_width x (columns_in w))
    (from_plan x (columns_in w) e) (from_rows x w f)
    (hx w fits o f e ag) (from_wide x w f px fits)

sorted_end : (keys : List SortKey) (e : Ending (List Row)) →
    collected (sorted keys e) ≡ after e (λ rs. Ok (in_order keys rs))
sorted_end keys (Ok rs) = collected_shown (in_order keys rs)
sorted_end keys (Err s) = refl

pub ordered_means : (q : Query) (keys : List SortKey) → QueryMeans q → QueryMeans (Ordered q keys)
ordered_means q keys h w fits o f e ag =
    ap (λ (d : Ending (List Row)). collected (sorted keys d)) (h w fits o f e ag) ∙ sorted_end keys
    (answer q w f)

-- Groups.
-- one group: its aggregates are finished, and then its row goes on
group_one : (row : List Cell → List PlanRow) (f : Row → Ending (List Row)) (k m : ℕ) (key : Row)
    (cs : List Cell) (e : Ending Row) → AreCells e cs →
    length key ≡ k → length cs ≡ m →
    ((r : Row) → length r ≡ k + m → collected (row (shown r)) ≡ f r) →
    collected (each row (kept (guard e) (shown key ++ cs)))
    ≡ after (after e (λ vs. Ok (key ++ vs))) f
group_one row f k m key cs (Err s) a lk lm h = refl
group_one row f k m key cs (Ok vs) a lk lm h =
    ap collected (append-nil (row (shown key ++ cs)))
    ∙ (ap (λ (ds : List Cell). collected (row ds)) (ap (λ (ds : List Cell). shown key ++ ds) a
    ∙ shown_append key vs)
    ∙ h (key ++ vs) (longer key vs k m lk (sym (shown_long vs)
    ∙ (ap (λ (ds : List Cell). length ds) (sym a) ∙ lm))))

group_each : (g : List Cell → List PlanRow) (f : Group →
    Ending (List Row)) (k : ℕ) (ags : List (Aggregate × ℕ)) (gs : List Group) → KeysLong k gs →
    ((x : Group) → length x.key ≡ k → collected (g (shown x.key ++ finish_cells ags x.members))
    ≡ f x) →
    collected (each g (group_rows ags gs)) ≡ each_of f gs
group_each g f k ags [] l h = refl
group_each g f k ags (x ∷ gs) l h =
    collected_append (g (shown x.key ++ finish_cells ags x.members)) (each g (group_rows ags gs))
    ∙ both (λ (a b : Ending (List Row)). after a (λ y. after b (λ z. Ok (y ++ z)))) _ _ _ _
    (h x l.0) (group_each g f k ags gs l.1 h)

grouped_end : (g : List Cell → List PlanRow) (f : Group →
    Ending (List Row)) (k : ℕ) (ags : List (Aggregate × ℕ)) (e : Ending (List Row)) →
    ((x : Group) → length x.key ≡ k → collected (g (shown x.key ++ finish_cells ags x.members))
    ≡ f x) →
    collected (each g (grouped (places 0 k) ags e))
    ≡ after e (λ rs. each_of f (groups (places 0 k) rs))
grouped_end g f k ags (Err s) h = refl
grouped_end g f k ags (Ok rs) h = group_each g f k ags (groups (places 0 k) rs) (groups_long k rs) h

pub grouped_means : (x : From) (tests : Exprs) (k : ℕ) (items : Exprs) (ags : List Aggregate)
    (having list : Exprs) → FromPlans x → Makes x →
    AllRight tests → AllRight items → AllRight having → AllRight list →
    QueryMeans (Grouped x tests k items ags having list)
grouped_means x tests k items ags having list px hx ht hi hh hl w fits o f e ag =
    let S = (columns_in w) in let n = from_width x S in let m = length ags in
    let as' = numbered k ags in
    let row = selected_row (emit_tests having S (entered e (k + m)) none_waits)
    (emit_all list S (entered e (k + m))) (k + m) w o in
    let test : List Cell → List PlanRow = λ q.
    kept (cell_of (all_values (places k m)) (sight w o q)) q in
    let parts = selected (emit_tests tests S (entered e n) none_waits)
    (emit_all items S (entered e n)) n (from_plan x S e) in
    let rows : collected (den parts w o)
    ≡ after (from_rows x w f) (λ rs. each_of (row_of tests items w f) rs) =
    selected_collected tests items ht hi w fits o f e ag n (from_plan x S e) (from_rows x w f)
    (hx w fits o f e ag) (from_wide x w f px fits) in
    ap collected (selected_den (emit_tests having S (entered e (k + m)) none_waits)
    (emit_all list S (entered e (k + m))) (k + m)
    (filter (all_values (places k m)) (group (places 0 k) as' parts)) w o
    ∙ each_each test row (grouped (places 0 k) as' (collected (den parts w o))))
    ∙ (ap (λ (d : Ending (List Row)). collected
    (each (λ q. each row (test q)) (grouped (places 0 k) as' d))) rows
    ∙ (grouped_end (λ q. each row (test q)) (λ g. after (group_row as' g) (row_of having list w f))
    k as'
    (after (from_rows x w f) (λ rs. each_of (row_of tests items w f) rs))
    (λ g lg. one_group g lg)
    ∙ after_after (from_rows x w f) (λ rs. each_of (row_of tests items w f) rs)
    (λ rs. each_of (λ g. after (group_row as' g) (row_of having list w f))
    (groups (places 0 k) rs))))
  where
    one_group : (g : Group) → length g.key ≡ k →
        collected (each (selected_row
        (emit_tests having (columns_in w) (entered e (k + length ags)) none_waits)
        (emit_all list (columns_in w) (entered e (k + length ags))) (k + length ags) w o)
        (kept (cell_of (all_values (places k (length ags)))
        (sight w o (shown g.key ++ finish_cells (numbered k ags) g.members)))
        (shown g.key ++ finish_cells (numbered k ags) g.members)))
        ≡ after (group_row (numbered k ags) g) (row_of having list w f)
    one_group g lg =
        let S = (columns_in w) in let m = length ags in
        let cs = finish_cells (numbered k ags) g.members in
        let row = selected_row (emit_tests having S (entered e (k + m)) none_waits)
        (emit_all list S (entered e (k + m))) (k + m) w o in
        let lm : length cs ≡ m = finish_long (numbered k ags) g.members ∙ numbered_long ags k in
        ap (λ (c : Cell). collected (each row (kept c (shown g.key ++ cs))))
        (checks_guard (places k m) w o (shown g.key ++ cs)
        ∙ ap (λ (ds : List Cell). guard (values_of ds))
        (grown_columns (shown g.key) cs (shown g.key ++ cs) k m (shown_long g.key ∙ lg) lm
        (grows_same (shown g.key ++ cs))))
        ∙ (group_one row (row_of having list w f) k m g.key cs (values_of cs) (are_cells cs) lg lm
        (λ r l. row_selected having list hh hl w fits o f e ag (k + m) r l)
        ∙ ap (λ (d : Ending Row). after (after d (λ vs. Ok (g.key ++ vs))) (row_of having list w f))
        (values_finished (numbered k ags) g.members))

    after_after : {A B C : Type 0} (x : Ending A) (g : A → Ending B) (h : B → Ending C) →
        after (after x g) h ≡ after x (λ a. after (g a) h)
    after_after (Ok a) g h = refl
    after_after (Err s) g h = refl

-- FROM.
pub table_makes : (t : List ℕ) → Makes (Table t)
table_makes t w fits o f e ag = refl

pub derived_makes : (q : Query) → QueryMeans q → Makes (Derived q)
derived_makes q h w fits o f e ag = settled_finished (den (plan q (columns_in w) e) w o)
    ∙ ap finished (h w fits o f e ag)

pub cross_makes : (a b : From) → FromPlans a → FromPlans b → Makes a → Makes b → Makes (Cross a b)
cross_makes a b pa pb ha hb w fits o f e ag =
    both (λ (x y : List PlanRow). with_settled x (λ left. with_settled y (crossed left))) _ _ _ _
    (ha w fits o f e ag) (hb w fits o f e ag)
    ∙ both_finished (from_width a (columns_in w)) (from_width b (columns_in w)) (from_rows a w f)
    (from_rows b w f) crossed
    (λ ls rs. Ok (pairs ls rs)) (from_wide a w f pa fits) (from_wide b w f pb fits)
    (λ ls rs wl wr. crossed_shown ls rs)

pairs_then : (a b : Ending (List Row)) (g : List Row → Ending (List Row)) →
    after (after a (λ ls. after b (λ rs. Ok (pairs ls rs)))) g
    ≡ after a (λ ls. after b (λ rs. g (pairs ls rs)))
pairs_then (Err s) b g = refl
pairs_then (Ok ls) (Err s) g = refl
pairs_then (Ok ls) (Ok rs) g = refl

pub inner_makes : (a b : From) (on : Exprs) → FromPlans a → FromPlans b → Makes a → Makes b →
    AllRight on → Makes (Inner a b on)
inner_makes a b on pa pb ha hb ho w fits o f e ag =
    let S = (columns_in w) in let na = from_width a S in let nb = from_width b S in
    let n = na + nb in let inner = entered e n in
    let ts = emit_tests on S inner none_waits n in
    let both_sides = cross (from_plan a S e) (from_plan b S e) in
    let ends : Ending (List Row) = after (from_rows a w f)
    (λ ls. after (from_rows b w f) (λ rs. Ok (pairs ls rs))) in
    let last : List Cell → List PlanRow = λ q. Whole (cells_at q (places 0 n)) ∷ [] in
    settled_finished (den (keep (places 0 n) (filters ts both_sides)) w o)
    ∙ ap finished
    (ap collected (ap (each last) (filters_den ts both_sides w o
    ∙ ap (each (filtered ts w o)) (cross_makes a b pa pb ha hb w fits o f e ag)) ∙
    each_each (filtered ts w o) last (finished ends))
    ∙ (collected_each n (λ q. each last (filtered ts w o q))
    (λ r. after (holds on w (within f r)) (λ t. Ok (kept_if t r)))
    (λ r l. passed_kept (holds on w (within f r)) (filters_width ts n) n r
    (filtered ts w o (shown r)) l
    (tests_pass on ho w fits o (within f r) inner n (shown r) (shown_long r
    ∙ l) (entered_reads e w o f n r l ag)))
    ends (wide_two na nb n (from_rows a w f) (from_rows b w f) (λ ls rs. Ok (pairs ls rs))
    (from_wide a w f pa fits) (from_wide b w f pb fits)
    (λ ls rs wl wr. pairs_wide na nb ls rs wl wr))
    ∙ pairs_then (from_rows a w f) (from_rows b w f)
    (each_of (λ r. after (holds on w (within f r)) (λ t. Ok (kept_if t r))))))

-- a left row with its right rows
nulls_shown : (l : Row) (n : ℕ) → shown l ++ replicate n (Val Null) ≡ shown (l ++ replicate n Null)
nulls_shown l n = ap (λ (cs : List Cell). shown l ++ cs) (shown_nulls n)
    ∙ shown_append l (replicate n Null)
  where
    shown_nulls : (n : ℕ) → replicate n (Val Null) ≡ shown (replicate n Null)
    shown_nulls zero = refl
    shown_nulls (suc n) = ap (λ (cs : List Cell). Val Null ∷ cs) (shown_nulls n)

some_nulls : (l : Row) (n : ℕ) (e : Ending Row) (d : Ending (List Row)) →
    after e (λ r. after d (λ rs. Ok (r ∷ rs))) ≡ after (after e (λ r. after d (λ rs. Ok (r ∷ rs))))
    (λ ms. Ok (or_nulls l n ms))
some_nulls l n (Err s) d = refl
some_nulls l n (Ok r) (Err s) = refl
some_nulls l n (Ok r) (Ok rs) = refl

nulls_collected : (l : Row) (n : ℕ) (rows : List PlanRow) →
    collected (or_null_cells (shown l) n rows) ≡ after (collected rows) (λ ms. Ok (or_nulls l n ms))
nulls_collected l n [] = ap (λ (cs : List Cell). collected (Whole cs ∷ [])) (nulls_shown l n)
    ∙ kept_shown (l ++ replicate n Null)
nulls_collected l n (Poisoned s ∷ rows) = refl
nulls_collected l n (Whole cs ∷ rows) = some_nulls l n (values_of cs) (collected rows)

pub left_outer_makes : (a b : From) (on : Exprs) → FromPlans a → FromPlans b → Makes a → Makes b →
    AllRight on → Makes (LeftOuter a b on)
left_outer_makes a b on pa pb ha hb ho w fits o f e ag =
    let S = (columns_in w) in let na = from_width a S in let nb = from_width b S in
    both (λ (x y : List PlanRow). with_settled x
    (λ left. with_settled y (λ right. settled (joined nb pair_test left right)))) _ _ _ _
    (ha w fits o f e ag) (hb w fits o f e ag)
    ∙ both_finished na nb (from_rows a w f) (from_rows b w f)
    (λ left right. settled (joined nb pair_test left right))
    (λ ls rs. each_of (joined_row nb (λ r. holds on w (within f r)) rs) ls)
    (from_wide a w f pa fits) (from_wide b w f pb fits)
    (λ ls rs wl wr. settled_finished (joined nb pair_test (shown_rows ls) (shown_rows rs))
    ∙ ap finished (collected_rows na
    (λ l. or_null_cells l nb (each (λ r. kept (pair_test (l ++ r)) (l ++ r)) (shown_rows rs)))
    (joined_row nb (λ r. holds on w (within f r)) rs)
    (λ l ll. nulls_collected l nb (each (λ r. kept (pair_test (shown l ++ r)) (shown l ++ r))
    (shown_rows rs))
    ∙ ap (λ (d : Ending (List Row)). after d (λ ms. Ok (or_nulls l nb ms)))
    (collected_rows nb (λ r. kept (pair_test (shown l ++ r)) (shown l ++ r))
    (λ r. after (holds on w (within f (l ++ r))) (λ t. Ok (kept_if t (l ++ r))))
    (λ r lr. one_pair l r ll lr) rs wr)) ls wl))
  where
    pair_test : List Cell → Cell
    pair_test q =
        let c = emit_all on (columns_in w)
        (entered e (from_width a (columns_in w) + from_width b (columns_in w)))
        (from_width a (columns_in w) + from_width b (columns_in w)) in
        cell_of (all_true c.scalars) (sight w o (added c.nodes w o q))

    one_pair : (l r : Row) → length l ≡ from_width a (columns_in w) →
        length r ≡ from_width b (columns_in w) →
        collected (kept (pair_test (shown l ++ shown r)) (shown l ++ shown r))
        ≡ after (holds on w (within f (l ++ r))) (λ t. Ok (kept_if t (l ++ r)))
    one_pair l r ll lr =
        let n = from_width a (columns_in w) + from_width b (columns_in w) in
        let inner = entered e n in let c = emit_all on (columns_in w) inner n in
        let q = shown (l ++ r) in let lq : length (l ++ r) ≡ n = longer l r _ _ ll lr in
        let z = added c.nodes w o q in
        ap (λ (cs : List Cell). collected (kept (pair_test cs) cs)) (shown_append l r)
        ∙ (ap (λ (x : Cell). collected (kept x q))
        (all_true_cell c.scalars (sight w o z)
        ∙ ap true_cell (all_right on ho w fits o (within f (l ++ r)) inner n q (shown_long (l ++ r)
        ∙ lq) (entered_reads e w o f n (l ++ r) lq ag) z
        (grows_same z)))
        ∙ kept_holds on w (within f (l ++ r)) (l ++ r))
