-- Queries of aggregates alone, folded under an Apply.
use Rattle.std.proofs.Common.{◌≡◌, ℕ, zero, suc, ◌+◌, true, false, List, [], ◌∷◌, ◌++◌, length, map}
use Rattle.std.proofs.Common.{replicate, Option, Some, None, refl, ap, sym, ◌∙◌, subst, arith}
use Rattle.std.proofs.Common.{append_assoc}
use Rattle.std.proofs.lemmas.List.{append-nil}
use Rattle.sql_values.specs.declared.value.Value.{Value}
use Rattle.sql_values.specs.declared.value.Value.TheVariants.{Null, Bool as Truth}
use Rattle.row_types.specs.Rows.{Row}
use Rattle.row_types.specs.declared.cell.Cell.{Cell}
use Rattle.row_types.specs.declared.cell.Cell.TheVariants.{Cond, Val}
use Rattle.rel_algebra.specs.Emit.{Emitted, Env, Folded, ask, ask_member, asked, asked_member, at}
use Rattle.rel_algebra.specs.Emit.{below, emit, first_value, folded, folded_columns, folded_env}
use Rattle.rel_algebra.specs.Emit.{folding, from_plan, plan, read, row_stands, width}
use Rattle.rel_algebra.specs.Endings.{Ending, after, among, cell_end, op_value, row_at, value_at}
use Rattle.rel_algebra.specs.Groups.{Group, grouped_from, groups}
use Rattle.rel_algebra.specs.Joins.{exists_of, finish_all, from_width, group_row, member_of}
use Rattle.rel_algebra.specs.Joins.{numbered, single_of}
use Rattle.rel_algebra.specs.Plain.{Inputs, Scope, answer, columns_in, each_of, ev, ev_all}
use Rattle.rel_algebra.specs.Plain.{from_rows, one_row, within}
use Rattle.rel_algebra.specs.Plan.{Kind, PlanTree, Scalar, Scalars, Sight, added, aggregate}
use Rattle.rel_algebra.specs.Plan.{all_or_first, applied, case_cell, cell_at, cell_of, cells_of}
use Rattle.rel_algebra.specs.Plan.{collapse, collapse_as, collected, den, exists, shown, sight}
use Rattle.rel_algebra.specs.Plan.{single, strictly, values_of}
use Rattle.rel_algebra.specs.Theorem.{Fits, outside}
use Rattle.rel_algebra.specs.Tree.{Aggregate, AnyOf, Exists, Expr, Exprs, From, Grouped, In, NoExpr}
use Rattle.rel_algebra.specs.Tree.{Query, Single}
use Rattle.rel_algebra.proofs.Growing.{Grows, grown_at, grows_by, grows_same, grows_trans, only_at}
use Rattle.rel_algebra.proofs.Growing.{shown_at, shown_long}
use Rattle.rel_algebra.proofs.Truths.{both}
use Rattle.rel_algebra.proofs.Counts.{numbered_long}
use Rattle.rel_algebra.proofs.Nodes.{Reads, Yields, added_grows, added_join, added_long}
use Rattle.rel_algebra.proofs.Nodes.{below_reads, reads_on, wider}
use Rattle.rel_algebra.proofs.Planned.{FromPlans}
use Rattle.rel_algebra.proofs.Right.{AllRight, Makes, QueryMeans, Right, all_right, exists_asked}
use Rattle.rel_algebra.proofs.Right.{member_asked, single_asked}
use Rattle.rel_algebra.proofs.Tests.{row_of, selected_collected}
use Rattle.rel_algebra.proofs.Wide.{LongEnd, from_wide, long_more}
use Rattle.rel_algebra.proofs.Words.{checks_guard, first_value_cell, guard, row_stands_cell}
use Rattle.rel_algebra.proofs.Words.{values_ends, values_finished}
use Rattle.std.proofs.Common.{Err, Ok}

-- what is to be known of a folded query that is asked on the row z of n columns
pub record FoldsAs (a : Folded) (q : Query) (w : Inputs) (o : List (List Cell)) (f : Scope)
    (z : List Cell) (n : ℕ) : Type 0 where
  pub parts : Ending (List Row)
  pub list : Row → Ending Row
  pub some : ℕ
  pub long : length a.aggregates ≡ suc some
  pub input : collected (den a.input w (z ∷ o)) ≡ parts
  pub answers : answer q w f
      ≡ after (after parts (finish_all a.aggregates)) (λ vs. one_row (list vs))
  pub yields : (vs : Row) → length vs ≡ length a.aggregates → (y : List Cell) →
      Grows (added (a.list n).nodes w o (z ++ shown vs)) y →
      values_of (cells_of (a.list n).scalars (sight w o y)) ≡ list vs

abbrev pub FoldedRight : Option Folded → Query → Inputs → List (List Cell) → Scope → List Cell → ℕ →
    Type 0
FoldedRight None q w o f z n = Unit {0}
FoldedRight (Some a) q w o f z n = FoldsAs a q w o f z n

abbrev pub Folds : Query → Type 0
Folds q = (w : Inputs) → Fits w →
    (o : List (List Cell)) (f : Scope) (e : Env) (z : List Cell) (n : ℕ) → length z ≡ n →
    Reads e w o f z → FoldedRight
    (folded q (columns_in w) e) q w o f z n

-- The cells of an Apply of aggregates.
applied_all : (cs : List Cell) → map (applied (Val (Truth true))) cs ≡ cs
applied_all [] = refl
applied_all (c ∷ cs) = ap (λ (ds : List Cell). c ∷ ds) (applied_all cs)

pub fold_cells : (ags : List (Aggregate × ℕ)) (e : Ending (List Row)) →
    collapse_as (aggregate ags) (Val Null) e ≡ all_or_first (length ags) (after e (finish_all ags))
fold_cells ags (Ok rs) = ap (all_or_first (length ags)) (values_finished ags rs)
fold_cells ags (Err s) = refl

finish_all_long : (ags : List (Aggregate × ℕ)) (rs : List Row) →
    LongEnd (length ags) (finish_all ags rs)
finish_all_long [] rs = refl
finish_all_long (a ∷ ags) rs = long_more (length ags) _ (finish_all ags rs) (finish_all_long ags rs)

pub finished_long : (ags : List (Aggregate × ℕ)) (e : Ending (List Row)) →
    LongEnd (length ags) (after e (finish_all ags))
finished_long ags (Ok rs) = finish_all_long ags rs
finished_long ags (Err s) = tt

pub first_cell : (z cs y : List Cell) (c : Cell) (n : ℕ) → length z ≡ n → Grows (z ++ c ∷ cs) y →
    cell_at y n ≡ c
first_cell z cs y c n e g =
    ap (cell_at y) (sym e)
    ∙ (ap (λ (r : List Cell). cell_at r (length z)) (sym g.1 ∙ append_assoc z (c ∷ cs) g.0)
    ∙ only_at z (cs ++ g.0) c)

first_guard : (fin : Ending Row) (k : ℕ) (z y : List Cell) (n : ℕ) → LongEnd (suc k) fin →
    length z ≡ n → Grows (z ++ all_or_first (suc k) fin) y →
    guard (values_of (cell_at y n ∷ [])) ≡ guard fin
first_guard (Err s) k z y n l e g = ap (λ (c : Cell). guard (values_of (c ∷ [])))
    (first_cell z (replicate k (Cond s)) y (Cond s) n e g)
first_guard (Ok []) k z y n l e g = absurd (omega arith)
first_guard (Ok (v ∷ vs)) k z y n l e g =
    ap (λ (c : Cell). guard (values_of (c ∷ []))) (first_cell z (shown vs) y (Val v) n e g)

fold_end : (fin : Ending Row) (m : ℕ) (x : Cell) (go : Row → Ending Value) → LongEnd m fin →
    ((vs : Row) → all_or_first m fin ≡ shown vs → length vs ≡ m → x ≡ cell_end (go vs)) →
    case_cell (guard fin ∷ x ∷ []) ≡ cell_end (after fin go)
fold_end (Ok vs) m x go l h = h vs refl l
fold_end (Err s) m x go l h = refl

-- asked on the row z, it gives what is picked of its one row
folding_yields : (a : Folded) (use_list : Scalars → Scalar) (pick : Row → Value) →
    ((ss : Scalars) (s : Sight) →
    cell_of (use_list ss) s ≡ cell_end (after (values_of (cells_of ss s)) (λ r. Ok (pick r)))) →
    (q : Query) (w : Inputs) (o : List (List Cell)) (f : Scope) (z : List Cell) (n : ℕ) →
    length z ≡ n → (k : FoldsAs a q w o f z n) →
    Yields (folding a use_list n) w o z
    (cell_end (after (after k.parts (finish_all a.aggregates))
    (λ vs. after (k.list vs) (λ r. Ok (pick r)))))
folding_yields a use_list pick hu q w o f z n l k y g =
    let m = length a.aggregates in let fin = after k.parts (finish_all a.aggregates) in
    let c = a.list n in
    let cells : map (applied (Val (Truth true)))
    (collapse (aggregate a.aggregates) (Val Null) (den a.input w (z ∷ o))) ≡ all_or_first m fin =
    applied_all (collapse (aggregate a.aggregates) (Val Null) (den a.input w (z ∷ o))) ∙
    (ap (collapse_as (aggregate a.aggregates) (Val Null)) k.input ∙ fold_cells a.aggregates k.parts)
    in
    let g' : Grows (added c.nodes w o (z ++ all_or_first m fin)) y =
    subst (λ (cs : List Cell). Grows (added c.nodes w o (z ++ cs)) y) cells g in
    let row : Grows (z ++ all_or_first m fin) y = grows_trans _ _ y
    (added_grows c.nodes w o (z ++ all_or_first m fin)) g' in
    let x : Cell = cell_of (use_list c.scalars) (sight w o y) in
    ap (λ (d : Cell). case_cell (d ∷ x ∷ []))
    (checks_guard (n ∷ []) w o y
    ∙ first_guard fin k.some z y n
    (subst (λ (i : ℕ). LongEnd i fin) k.long (finished_long a.aggregates k.parts)) l
    (subst (λ (i : ℕ). Grows (z ++ all_or_first i fin) y) k.long row))
    ∙ fold_end fin m x (λ vs. after (k.list vs) (λ r. Ok (pick r)))
    (finished_long a.aggregates k.parts)
    (λ vs is lv. hu c.scalars (sight w o y)
    ∙ ap (λ (d : Ending Row). cell_end (after d (λ r. Ok (pick r))))
    (k.yields vs lv y (subst (λ (cs : List Cell). Grows (added c.nodes w o (z ++ cs)) y) is g')))

picked : (fin : Ending Row) (list : Row → Ending Row) (g : List Row → Ending Value) (pick : Row →
    Value) → ((r : Row) → Ok (pick r) ≡ g (r ∷ [])) →
    after fin (λ vs. after (list vs) (λ r. Ok (pick r)))
    ≡ after (after fin (λ vs. one_row (list vs))) g
picked (Err s) list g pick h = refl
picked (Ok vs) list g pick h = picked_row (list vs)
  where
    picked_row : (e : Ending Row) → after e (λ r. Ok (pick r)) ≡ after (one_row e) g
    picked_row (Err s) = refl
    picked_row (Ok r) = h r

-- an Apply of the plan, or folded
ask_yields : (oa : Option Folded) (kind : Kind) (use_list : Scalars → Scalar) (pick : Row →
    Value) (g : List Row → Ending Value) →
    ((ss : Scalars) (s : Sight) →
    cell_of (use_list ss) s ≡ cell_end (after (values_of (cells_of ss s)) (λ r. Ok (pick r)))) →
    ((r : Row) → Ok (pick r) ≡ g (r ∷ [])) →
    (inner : PlanTree) (q : Query) (w : Inputs) (o : List (List Cell)) (f : Scope) (z : List Cell)
    (n : ℕ) →
    length z ≡ n →
    Yields (asked kind inner n) w o z (cell_end (after (answer q w f) g)) →
    FoldedRight oa q w o f z n → Yields (ask oa kind use_list inner n) w o z
    (cell_end (after (answer q w f) g))
ask_yields None kind use_list pick g hu hp inner q w o f z n l ya k = λ y gy. ya y gy
ask_yields (Some a) kind use_list pick g hu hp inner q w o f z n l ya k = λ y gy.
    folding_yields a use_list pick hu q w o f z n l k y gy
    ∙ ap cell_end (picked (after k.parts (finish_all a.aggregates)) k.list g pick hp
    ∙ ap (λ (d : Ending (List Row)). after d g) (sym k.answers))

pub single_right : (q : Query) → QueryMeans q → Folds q → Right (Single q)
single_right q h hf w fits o f e n z l r =
    ask_yields (folded q (columns_in w) e) single first_value (λ x. value_at x 0) single_of
    first_value_cell (λ x. refl) (plan q (columns_in w) e) q w
    o f z n l
    (single_asked q h w fits o f e n z l r) (hf w fits o f e z n l r)

pub exists_right : (q : Query) → QueryMeans q → Folds q → Right (Exists q)
exists_right q h hf w fits o f e n z l r =
    ask_yields (folded q (columns_in w) e) exists row_stands (λ x. Truth true)
    (λ rs. Ok (exists_of rs)) row_stands_cell (λ x. refl)
    (plan q (columns_in w) e) q w o f z n l
    (exists_asked q h w fits o f e n z l r) (hf w fits o f e z n l r)

any_of_ends : (x : Ending Value) (a : Ending Value) →
    strictly (op_value AnyOf) (cell_end x ∷ cell_end a ∷ [])
    ≡ cell_end (after x (λ v. after a (λ u. Ok (among (Truth false) v (u ∷ [])))))
any_of_ends (Err s) a = refl
any_of_ends (Ok v) (Err s) = refl
any_of_ends (Ok v) (Ok u) = refl

member_picked : (x : Ending Value) (fin : Ending Row) (list : Row → Ending Row) →
    after x (λ v. after (after fin (λ vs. after (list vs) (λ r. Ok (value_at r 0))))
    (λ u. Ok (among (Truth false) v (u ∷ [])))) ≡ after x
    (λ v. after (after fin (λ vs. one_row (list vs))) (λ rs. Ok (member_of v rs)))
member_picked (Err s) fin list = refl
member_picked (Ok v) (Err s) list = refl
member_picked (Ok v) (Ok vs) list = picked_row (list vs)
  where
    picked_row : (e : Ending Row) →
        after (after e (λ r. Ok (value_at r 0))) (λ u. Ok (among (Truth false) v (u ∷ [])))
        ≡ after (one_row e) (λ rs. Ok (member_of v rs))
    picked_row (Err s) = refl
    picked_row (Ok r) = refl

member_yields : (oa : Option Folded) (a : Emitted) (x : Ending Value) (inner : PlanTree) (q : Query)
    (w : Inputs) (o : List (List Cell)) (f : Scope)
    (z : List Cell) (n : ℕ) → length z ≡ n → Yields a w o z (cell_end x) →
    Yields (asked_member a inner n) w o z
    (cell_end (after x (λ v. after (answer q w f) (λ rs. Ok (member_of v rs))))) →
    FoldedRight oa q w o f
    (added a.nodes w o z) (width a.nodes n) →
    Yields (ask_member oa a inner n) w o z
    (cell_end (after x (λ v. after (answer q w f) (λ rs. Ok (member_of v rs)))))
member_yields None a x inner q w o f z n l ya yn k = λ y g. yn y g
member_yields (Some c) a x inner q w o f z n l ya yn k = λ y g.
    let b = folding c first_value (width a.nodes n) in let z' = added a.nodes w o z in
    let g' : Grows (added b.nodes w o z') y = subst (λ (r : List Cell). Grows r y)
    (added_join a.nodes b.nodes w o z) g in
    both (λ (c d : Cell). strictly (op_value AnyOf) (c ∷ d ∷ [])) _ _ _ _
    (ya y (grows_trans z' _ y (added_grows b.nodes w o z') g'))
    (folding_yields c first_value (λ r. value_at r 0) first_value_cell q w o f z' (width a.nodes n)
    (added_long a.nodes w o z n l) k y g')
    ∙ (any_of_ends x (after (after k.parts (finish_all c.aggregates))
    (λ vs. after (k.list vs) (λ r. Ok (value_at r 0))))
    ∙ ap cell_end (member_picked x (after k.parts (finish_all c.aggregates)) k.list ∙ ap
    (λ (d : Ending (List Row)). after x (λ v. after d (λ rs. Ok (member_of v rs))))
    (sym k.answers)))

pub in_right : (x : Expr) (q : Query) → Right x → QueryMeans q → Folds q → Right (In x q)
in_right x q hx h hf w fits o f e n z l r =
    let a = emit x (columns_in w) e n in
    member_yields (folded q (columns_in w) e) a (ev x w f) (plan q (columns_in w) e) q w o f z n l
    (hx w fits o f e n z l r)
    (member_asked x q hx h w fits o f e n z l r)
    (hf w fits o f e (added a.nodes w o z) (width a.nodes n) (added_long a.nodes w o z n l)
    (reads_on e w o f z (added a.nodes w o z) r (added_grows a.nodes w o z)))

-- Which queries are folded.
folded_reads : (e : Env) (w : Inputs) (o : List (List Cell)) (f : Scope) (z : List Cell) (n m : ℕ)
    (vs : Row) → length z ≡ n → length vs ≡ m →
    Reads e w o f z → Reads (folded_env e n m) w o (within f vs) (z ++ shown vs)
folded_reads e w o f z n m vs lz lv r y g =
    (columns, (r y (grows_trans z _ y (grows_by z (shown vs)) g)).1)
  where
    columns : (d i : ℕ) → cell_of (read (folded_columns e n m d i)) (outside w (y ∷ o))
        ≡ Val (value_at (row_at (within f vs).rows d) i)
    columns zero i =
        subst (λ (k : ℕ). cell_of (read (below k i (at 0 (n + i)))) (outside w (y ∷ o))
        ≡ Val (value_at vs i)) lv
        (below_reads vs i (at 0 (n + i)) (outside w (y ∷ o))
        (λ h. grown_at z (shown vs) y n i lz g (omega (arith, h, shown_long vs)) ∙ shown_at vs
        i))
    columns (suc d) i = (r y (grows_trans z _ y (grows_by z (shown vs)) g)).0 d i

one_group : (ms rs : List Row) → grouped_from [] (record { key = []; members = ms } ∷ []) rs
    ≡ record { key = []; members = ms ++ rs } ∷ []
one_group ms [] = ap (λ (rs : List Row). record { key = []; members = rs } ∷ [])
    (sym (append-nil ms))
one_group ms (r ∷ rs) = one_group (ms ++ r ∷ []) rs
    ∙ ap (λ (xs : List Row). record { key = []; members = xs } ∷ []) (append_assoc ms (r ∷ []) rs)

one_group_end : (fin : Ending Row) (list : Row → Ending Row) →
    after (after (after fin (λ vs. Ok ([] ++ vs))) (λ r. one_row (list r))) (λ ys. Ok (ys ++ []))
    ≡ after fin (λ vs. one_row (list vs))
one_group_end (Err s) list = refl
one_group_end (Ok vs) list = one_row_end (list vs)
  where
    one_row_end : (e : Ending Row) → after (one_row e) (λ ys. Ok (ys ++ [])) ≡ one_row e
    one_row_end (Err s) = refl
    one_row_end (Ok r) = refl

folded_answer : (ags : List (Aggregate × ℕ)) (list : Row → Ending Row) (from : Ending (List Row))
    (parts : List Row → Ending (List Row)) →
    after from (λ rows. after (parts rows)
    (λ ps. each_of (λ g. after (group_row ags g) (λ r. one_row (list r))) (groups [] ps))) ≡ after
    (after (after from parts) (finish_all ags)) (λ vs. one_row (list vs))
folded_answer ags list (Err s) parts = refl
folded_answer ags list (Ok rows) parts = folded_parts (parts rows)
  where
    folded_parts : (e : Ending (List Row)) →
        after e (λ ps. each_of (λ g. after (group_row ags g) (λ r. one_row (list r)))
        (groups [] ps)) ≡ after (after e (finish_all ags))
        (λ vs. one_row (list vs))
    folded_parts (Err s) = refl
    folded_parts (Ok ps) =
        ap (λ (gs : List Group). each_of (λ g. after (group_row ags g) (λ r. one_row (list r))) gs)
        (one_group [] ps) ∙ one_group_end
        (finish_all ags ps) list

pub grouped_folds : (x : From) (tests items : Exprs) (a : Aggregate) (ags : List Aggregate)
    (list : Exprs) → FromPlans x → Makes x → AllRight tests →
    AllRight items → AllRight list → Folds (Grouped x tests zero items (a ∷ ags) NoExpr list)
grouped_folds x tests items a ags list px hx ht hi hl w fits o f e z n l r =
    let m = suc (length ags) in
    record {
      parts = after (from_rows x w f) (λ rs. each_of (row_of tests items w f) rs);
      list = λ vs. ev_all list w (within f vs);
      some = length ags;
      long = numbered_long (a ∷ ags) 0;
      input = selected_collected tests items ht hi w fits (z ∷ o) f e (r z (grows_same z))
          (from_width x (columns_in w))
          (from_plan x (columns_in w) e) (from_rows x w f)
          (hx w fits (z ∷ o) f e (r z (grows_same z))) (from_wide x w f px fits);
      answers = folded_answer (numbered 0 (a ∷ ags)) (λ vs. ev_all list w (within f vs))
          (from_rows x w f)
          (λ rs. each_of (row_of tests items w f) rs);
      yields = λ vs lv y g.
          let lm : length vs ≡ m = lv ∙ numbered_long (a ∷ ags) 0 in
          ap values_of (all_right list hl w fits o (within f vs) (folded_env e n m) (n + m)
          (z ++ shown vs)
          (wider z (shown vs) n m l (shown_long vs ∙ lm)) (folded_reads e w o f z n m vs l lm r) y
          g)
          ∙ values_ends list w (within f vs);
    }
