-- Whole queries.
use Rattle.std.proofs.Common.{ℕ, slice_index_or, ◌≡◌, ◌<◌, ◌≤◌, ◌+◌, ◌∷◌, [], ◌++◌, List, Option}
use Rattle.std.proofs.Common.{Some, None, MatchOption, Bool, true, false, ◌&&◌, if◌then◌else◌}
use Rattle.std.proofs.Common.{replicate, length, map, drop, get_or, slice_get, suc, refl, sym, ap}
use Rattle.std.proofs.Common.{◌∙◌, subst, arith, append_assoc, Result, IfOk, OnOk}
use Rattle.std.proofs.lemmas.List.{drop_all, length-replicate, append-nil, nil_from_length}
use Rattle.bound_trees.specs.declared.expr.BoundExpr.{BoundExpr}
use Rattle.bound_trees.specs.declared.query.BoundFromItem.{BoundFromItem}
use Rattle.bound_trees.specs.declared.query.BoundGrouping.{BoundGrouping}
use Rattle.bound_trees.specs.declared.query.BoundQuery.{BoundQuery}
use Rattle.bound_trees.specs.declared.query.BoundQuery.TheVariants as query
use Rattle.bound_trees.specs.declared.query.BoundRow.{BoundRow}
use Rattle.bound_trees.specs.declared.query.BoundSelect.{BoundSelect, out-BoundSelect}
use Rattle.block_plans.specs.Callees.{Callees, width_in}
use Rattle.catalog_store.specs.View.{from_of}
use Rattle.block_plans.specs.View.{exprs_seen, row_seen, rows_seen, item_seen, select_seen}
use Rattle.block_plans.specs.View.{query_seen}
use Rattle.rel_algebra.specs.declared.plan.ScalarRow.{ScalarRow}
use Rattle.row_types.specs.declared.sort_key.SortKey.{SortKey}
use Rattle.rel_algebra.specs.Tree.{Aggregate, Values, Select, Grouped, Query, Ordered}
use Rattle.block_plans.proofs.Laws.{query_seen-Ordered, select_seen-grouped, select_seen-ungrouped}
use Rattle.rel_algebra.specs.Plan.{Scalar, Scalars, PlanTree, Nodes, no_node, extend_by, apply_by}
use Rattle.rel_algebra.specs.Plan.{values, unit_row, on_each, sort}
use Rattle.rel_algebra.specs.Joins.{from_width, rows_width}
use Rattle.rel_algebra.specs.declared.plan.Plan.{Plan}
use Rattle.rel_algebra.specs.declared.scalar.Scalar.{Scalar as ScalarCode}
use Rattle.rel_algebra.specs.PlanView.{scalars_of, lists_of, tree_of as plan_tree}
use Rattle.rel_algebra.specs.Emit.{Env, Emitted, EmittedAll, top, lifted, entered, none_waits}
use Rattle.rel_algebra.specs.Emit.{emit_all, emit_rows, emit_tests, filters, filters_width, listed}
use Rattle.rel_algebra.specs.Emit.{list_nodes, chosen, several, numbers, is_plain, all_plain}
use Rattle.rel_algebra.specs.Emit.{values_plan, scalars_of as all_scalars_of, plan, width}
use Rattle.rel_algebra.specs.Emit.{from_plan}
use Rattle.plan_expressions.specs.declared.draft.Draft.{Draft}
use Rattle.plan_expressions.specs.Drafts.{drafted}
use Rattle.plan_expressions.specs.Emission.{EmitsAll}
use Rattle.plan_drafts.specs.Grouping.{grouped_rows}
use Rattle.plan_drafts.specs.Joining.{IsFrom}
use Rattle.plan_drafts.specs.Listing.{listed_only}
use Rattle.plan_queries.specs.Selecting.{selected_rows, selected_groups}
use Rattle.plan_queries.specs.Plainness.{ArePlain, IsPlain, by_number, rows_plan}
use Rattle.plan_queries.proofs.Ends.{on_ok}
use Rattle.plan_expressions.specs.Drafts.{is_unit_row}
use Rattle.plan_drafts.specs.Choosing.{columns_from, with_row, closed, all_arms_of}
use Rattle.plan_expressions.proofs.Laws.{on_each-joined, width-joined}
use Rattle.plan_expressions.proofs.Laws.{rest, map-last}
use Rattle.plan_expressions.proofs.Laws.{plain_unit, if_ok}
use Rattle.plan_drafts.proofs.Laws.{listed-after}
use Rattle.plan_drafts.proofs.Laws.{columns_more, rows_narrow, columns_first, columns_last}

-- ---- a list over a plan

pub listed_emission : (f : ℕ → EmittedAll) (n : ℕ) (t : PlanTree) (start between : Draft)
    (ss : Scalars) (end : PlanTree) → (drafted start).tree ≡ t → (drafted start).width ≡ n →
    EmitsAll start between ss (f (drafted start).width) →
    end ≡ listed_only ss (drafted between).width (drafted between).tree → end ≡ listed (f n) n t
listed_emission f n t start between ss end tree wide d is =
    is ∙ (λ j. listed_only (d.scalars j) (d.columns j) (d.tree j)) ∙
    sym (listed-after (f (drafted start).width) (drafted start).width (drafted start).tree)
    ∙ (λ j. listed (f (wide j)) (wide j) (tree j))

-- ---- SELECT

-- a Filter for each conjunct over the rows of a plan, and the list
pub selected_plan : {B : Type 0} → (k : Callees) (items tests : List BoundExpr)
    (e within : Env) (columns : ℕ) (start filtered between new : Draft) (ss : Scalars)
    (r : Result Unit B) → columns ≡ (drafted start).width →
    within ≡ entered e columns →
    (drafted filtered).tree ≡ filters (emit_tests (exprs_seen k tests) (width_in k) within
    none_waits
    (drafted start).width) (drafted start).tree →
    (drafted filtered).width ≡ filters_width (emit_tests (exprs_seen k tests) (width_in k) within
    none_waits (drafted start).width) (drafted start).width →
    EmitsAll filtered between ss (emit_all (exprs_seen k items) (width_in k) within
    (drafted filtered).width) →
    OnOk r ((drafted new).tree ≡ listed_only ss (drafted between).width (drafted between).tree) →
    OnOk r ((drafted new).tree ≡ selected_rows (exprs_seen k items) (exprs_seen k tests)
    (width_in k) e
    (drafted start).width (drafted start).tree)
selected_plan k items tests e within columns start filtered between new ss r same env kept
    kept_width d made =
    let S = width_in k in
    let n = (drafted start).width in
    let input = (drafted start).tree in
    let list : Env → ℕ → EmittedAll = λ q m. emit_all (exprs_seen k items) S q m in
    let conjuncts : Env → List Emitted = λ q. emit_tests (exprs_seen k tests) S q none_waits n in
    on_ok r ((drafted new).tree ≡ listed_only ss (drafted between).width (drafted between).tree)
    ((drafted new).tree ≡ selected_rows (exprs_seen k items) (exprs_seen k tests) (width_in k) e
    (drafted start).width (drafted start).tree) made
    (λ is. listed_emission (list within) (filters_width (conjuncts within) n)
    (filters (conjuncts within) input) filtered between ss (drafted new).tree kept kept_width d is
    ∙ ap (λ q. let m = filters_width (conjuncts q) n in
    listed (list q m) m (filters (conjuncts q) input)) (env ∙ ap (entered e) same))

-- over the rows of FROM this is the plan of the select
pub select_plan : (k : Callees) (s : BoundSelect) (o : Option BoundGrouping) (e : Env)
    (items tests : List BoundExpr) (from : List BoundFromItem) (rows : Draft) (end : PlanTree) →
    o ≡ (out-BoundSelect s).grouping → from ≡ (out-BoundSelect s).from →
    items ≡ (out-BoundSelect s).items → tests ≡ (out-BoundSelect s).conjuncts →
    IsFrom k.known e rows (from_of (map (item_seen k) from)) →
    end ≡ selected_groups k o (exprs_seen k items) (exprs_seen k tests) (width_in k) e
    (drafted rows).width (drafted rows).tree →
    end ≡ plan (select_seen k s) (width_in k) e
select_plan k s o e items tests from rows end same f i c is made =
    made ∙ (λ j. selected_groups k o (exprs_seen k items) (exprs_seen k tests) (width_in k) e
    (is.width j) (is.tree j)) ∙ by o (sym same)
  where
    by : (q : Option BoundGrouping) → (out-BoundSelect s).grouping ≡ q →
        selected_groups k q (exprs_seen k items) (exprs_seen k tests) (width_in k) e
        (from_width (from_of (map (item_seen k) from)) (width_in k))
        (from_plan (from_of (map (item_seen k) from)) (width_in k) e)
        ≡ plan (select_seen k s) (width_in k) e
    by None h =
        (λ j. plan (Select (exprs_seen k (i j)) (from_of (map (item_seen k) (f j)))
        (exprs_seen k (c j))) (width_in k) e)
        ∙ ap (λ q. plan q (width_in k) e) (sym (select_seen-ungrouped k s h))
    by (Some g) h =
        (λ j. plan (Grouped (from_of (map (item_seen k) (f j))) (exprs_seen k (c j)) g.keys
        (exprs_seen k g.parts) g.aggregates (exprs_seen k g.having) (exprs_seen k (i j)))
        (width_in k) e)
        ∙ ap (λ q. plan q (width_in k) e) (sym (select_seen-grouped k s g h))

-- of the groups those that HAVING leaves
pub groups_selected : {B : Type 0} → (k : Callees) (o : Option BoundGrouping) (g : BoundGrouping)
    (items tests parts having : List BoundExpr) (aggregates : List Aggregate) (e : Env)
    (start least groups new : Draft) (r : Result Unit B) → o ≡ Some g → parts ≡ g.parts →
    aggregates ≡ g.aggregates → having ≡ g.having →
    (drafted least).tree ≡ selected_rows (exprs_seen k parts) (exprs_seen k tests) (width_in k) e
    (drafted start).width (drafted start).tree →
    (drafted groups).tree ≡ grouped_rows g.keys aggregates (drafted least).tree →
    (drafted groups).width ≡ g.keys + length aggregates →
    OnOk r ((drafted new).tree ≡ selected_rows (exprs_seen k items) (exprs_seen k having)
    (width_in k)
    e (drafted groups).width (drafted groups).tree) →
    OnOk r ((drafted new).tree ≡ selected_groups k o (exprs_seen k items) (exprs_seen k tests)
    (width_in k) e (drafted start).width (drafted start).tree)
groups_selected k o g items tests parts having aggregates e start least groups new r some p a h
    made tree wide last =
    let S = width_in k in
    let below : (drafted least).tree ≡ selected_rows (exprs_seen k g.parts) (exprs_seen k tests) S e
    (drafted start).width (drafted start).tree =
    made ∙ ap (λ (es : List BoundExpr). selected_rows (exprs_seen k es) (exprs_seen k tests) S e
    (drafted start).width (drafted start).tree) p in
    let between : (drafted groups).tree ≡ grouped_rows g.keys g.aggregates
    (selected_rows (exprs_seen k g.parts) (exprs_seen k tests) S e (drafted start).width
    (drafted start).tree) = tree ∙ (λ j. grouped_rows g.keys (a j) (below j)) in
    let many : (drafted groups).width ≡ g.keys + length g.aggregates =
    wide ∙ ap (λ (xs : List Aggregate). g.keys + length xs) a in
    on_ok r ((drafted new).tree ≡ selected_rows (exprs_seen k items) (exprs_seen k having)
    (width_in k)
    e (drafted groups).width (drafted groups).tree)
    ((drafted new).tree ≡ selected_groups k o (exprs_seen k items) (exprs_seen k tests) (width_in k)
    e
    (drafted start).width (drafted start).tree) last
    (λ is. is ∙ (λ j. selected_rows (exprs_seen k items) (exprs_seen k (h j)) S e (many j)
    (between j))
    ∙ ap (λ (q : Option BoundGrouping). selected_groups k q (exprs_seen k items)
    (exprs_seen k tests) S e (drafted start).width (drafted start).tree) (sym some))

-- and without groups
pub rows_selected : {B : Type 0} → (k : Callees) (o : Option BoundGrouping)
    (items tests : List BoundExpr) (e : Env) (start new : Draft) (r : Result Unit B) → o ≡ None →
    OnOk r ((drafted new).tree ≡ selected_rows (exprs_seen k items) (exprs_seen k tests)
    (width_in k)
    e (drafted start).width (drafted start).tree) →
    OnOk r ((drafted new).tree ≡ selected_groups k o (exprs_seen k items) (exprs_seen k tests)
    (width_in k) e (drafted start).width (drafted start).tree)
rows_selected k o items tests e start new r free made =
    subst (λ (q : Option BoundGrouping). OnOk r ((drafted new).tree ≡ selected_groups k q
    (exprs_seen k items) (exprs_seen k tests) (width_in k) e (drafted start).width
    (drafted start).tree)) (sym free) made

-- ---- VALUES

rows_counted : (k : Callees) (rs : List BoundRow) (S : List ℕ → ℕ) (e : Env) (n : ℕ) →
    length (emit_rows (rows_seen k rs) S e n) ≡ length rs
rows_counted k [] S e n = refl
rows_counted k (r ∷ rs) S e n = ap suc (rows_counted k rs S e
    (width (emit_all (row_seen k r) S e n).nodes n))

-- what is left of rows begins with the row at its place
rows_at : (k : Callees) (rs : List BoundRow) (i : ℕ) (r : BoundRow) (S : List ℕ → ℕ) (e : Env)
    (n : ℕ) → i < length rs → r ≡ get_or rs i r →
    emit_rows (rows_seen k (drop i rs)) S e n ≡ emit_all (row_seen k r) S e n ∷ emit_rows
    (rows_seen k (drop (i + 1) rs)) S e (width (emit_all (row_seen k r) S e n).nodes n)
rows_at k rs i r S e n h is = ap (λ (xs : List BoundRow). emit_rows (rows_seen k xs) S e n)
    (rest rs i r h is)

-- of the rows this much is done
pub record Numbering (k : Callees) (e : Env) (w : ℕ) (rs : List BoundRow) (i : ℕ)
    (start now : Draft) (held : List ScalarRow) : Type 0 where
  pub tree : on_each (list_nodes (emit_rows (rows_seen k (drop i rs)) (width_in k) e
      (drafted now).width)) (drafted now).tree
      ≡ on_each (list_nodes (emit_rows (rows_seen k rs) (width_in k) e (drafted start).width))
      (drafted start).tree
  pub columns : width (list_nodes (emit_rows (rows_seen k (drop i rs)) (width_in k) e
      (drafted now).width)) (drafted now).width
      ≡ width (list_nodes (emit_rows (rows_seen k rs) (width_in k) e (drafted start).width))
      (drafted start).width
  pub cells : columns_from (all_arms_of held)
      (chosen w i (emit_rows (rows_seen k (drop i rs)) (width_in k) e (drafted now).width))
      ≡ chosen w 0 (emit_rows (rows_seen k rs) (width_in k) e (drafted start).width)
  pub narrow : length (all_arms_of held) ≤ w

pub numbering_first : (k : Callees) (e : Env) (w : ℕ) (rs : List BoundRow) (start : Draft)
    (columns : List ScalarRow) → all_arms_of columns ≡ replicate w [] →
    Numbering k e w rs 0 start start columns
numbering_first k e w rs start columns h = record {
  tree = refl;
  columns = refl;
  cells =
      ap (λ cs. columns_from cs
      (chosen w 0 (emit_rows (rows_seen k rs) (width_in k) e (drafted start).width))) h
      ∙ columns_first w (emit_rows (rows_seen k rs) (width_in k) e (drafted start).width);
  narrow = omega (arith, ap length h, length-replicate {A = List Scalar} w []);
}

pub numbering_next : (k : Callees) (e : Env) (w : ℕ) (rs : List BoundRow) (i : ℕ) (r : BoundRow)
    (start old new : Draft) (columns grown : List ScalarRow) (ss : Scalars) → i < length rs →
    r ≡ get_or rs i r →
    Numbering k e w rs i start old columns → EmitsAll old new ss
    (emit_all (row_seen k r) (width_in k) e (drafted old).width) →
    all_arms_of grown ≡ with_row i (all_arms_of columns) ss →
    Numbering k e w rs (i + 1) start new grown
numbering_next k e w rs i r start old new columns grown ss h is b d g =
    let S = width_in k in
    let n = (drafted old).width in
    let a = emit_all (row_seen k r) S e n in
    let others : ℕ → List EmittedAll = emit_rows (rows_seen k (drop (i + 1) rs)) S e in
    let at = rows_at k rs i r S e n h is in
    let left = others (width a.nodes n) in
    let next : i + 1 ≡ suc i = omega arith in
    record {
      tree =
          (λ j. on_each (list_nodes (others (d.columns j))) (d.tree j)) ∙
          sym (on_each-joined a.nodes (list_nodes left) (drafted old).tree)
          ∙ ap (λ ls. on_each (list_nodes ls) (drafted old).tree) (sym at) ∙ b.tree;
      columns =
          (λ j. width (list_nodes (others (d.columns j))) (d.columns j)) ∙
          sym (width-joined a.nodes (list_nodes left) n)
          ∙ ap (λ ls. width (list_nodes ls) n) (sym at) ∙ b.columns;
      cells =
          (λ j. columns_from ((g ∙ (λ q. with_row i (all_arms_of columns) (d.scalars q))) j)
          (chosen w (next j) (others (d.columns j))))
          ∙ columns_more (all_arms_of columns) i a.scalars (chosen w (suc i) left)
          ∙ ap (λ ls. columns_from (all_arms_of columns) (chosen w i ls)) (sym at) ∙ b.cells;
      narrow = omega (arith, ap length g, rows_narrow (all_arms_of columns) i ss, b.narrow);
    }

-- all rows, column by column
pub numbering_done : (k : Callees) (e : Env) (w : ℕ) (rs : List BoundRow) (i : ℕ)
    (start now : Draft) (columns : List ScalarRow) → length rs ≤ i →
    Numbering k e w rs i start now columns →
    EmitsAll start now (closed (all_arms_of columns))
    (by_number w (emit_rows (rows_seen k rs) (width_in k) e (drafted start).width))
numbering_done k e w rs i start now columns h b =
    let S = width_in k in
    let done = drop_all i rs h in
    record {
      tree = ap (λ (xs : List BoundRow). on_each (list_nodes
          (emit_rows (rows_seen k xs) S e (drafted now).width)) (drafted now).tree) (sym done) ∙
          b.tree;
      columns = ap (λ (xs : List BoundRow). width (list_nodes
          (emit_rows (rows_seen k xs) S e (drafted now).width)) (drafted now).width) (sym done) ∙
          b.columns;
      scalars = sym (columns_last (all_arms_of columns) w b.narrow)
          ∙ ap (λ (xs : List BoundRow). columns_from (all_arms_of columns)
          (chosen w i (emit_rows (rows_seen k xs) S e (drafted now).width))) (sym done) ∙ b.cells;
    }

-- the plan of rows over their numbers
pub numbered_plan : {B : Type 0} → (k : Callees) (e : Env) (w : ℕ) (rs : List BoundRow)
    (start now : Draft) (columns : List ScalarRow) (r : Result Plan B) →
    (drafted start).tree ≡ values (numbers 0 (length rs)) → (drafted start).width ≡ 1 →
    EmitsAll start now (closed (all_arms_of columns))
    (by_number w (emit_rows (rows_seen k rs) (width_in k) e (drafted start).width)) →
    IfOk r (λ p. plan_tree p ≡ listed_only (closed (all_arms_of columns)) (drafted now).width
    (drafted now).tree) →
    IfOk r (λ p. plan_tree p ≡ several w (emit_rows (rows_seen k rs) (width_in k) e 1))
numbered_plan k e w rs start now columns r tree wide d made =
    let S = width_in k in
    let whole : ℕ → EmittedAll = λ n. by_number w (emit_rows (rows_seen k rs) S e n) in
    if_ok r (λ p. plan_tree p ≡ listed_only (closed (all_arms_of columns)) (drafted now).width
    (drafted now).tree) (λ p. plan_tree p ≡ several w (emit_rows (rows_seen k rs) (width_in k) e 1))
    made
    (λ p is. listed_emission whole 1 (values (numbers 0 (length rs))) start now
    (closed (all_arms_of columns)) (plan_tree p) tree wide d is
    ∙ ap (λ q. listed (whole 1) 1 (values (numbers 0 q))) (sym (rows_counted k rs S e 1)))

-- one row
pub single_plan : (k : Callees) (e : Env) (rs : List BoundRow) (r : BoundRow) → length rs ≡ 1 →
    r ≡ slice_index_or rs 0 r →
    listed (emit_all (row_seen k r) (width_in k) e 0) 0 unit_row ≡ rows_plan k rs e
single_plan k e [] r h is = absurd (omega (arith, h))
single_plan k e (x ∷ []) r h is = ap (λ (y : BoundRow).
    listed (emit_all (row_seen k y) (width_in k) e 0) 0 unit_row) is
single_plan k e (x ∷ y ∷ rs) r h is = absurd (omega (arith, h))

-- ---- rows that need no nodes

pub plain-width : (a : Nodes) (n : ℕ) → is_plain a ≡ true → width a n ≡ n
plain-width no_node n h = refl
plain-width (extend_by ss a) n h = absurd (let never = h in cc)
plain-width (apply_by when kind way inner a) n h = absurd (let never = h in cc)

pub record Plains (k : Callees) (e : Env) (rs : List BoundRow) (i : ℕ) (held : List ScalarRow) :
    Type 0 where
  pub plain : all_plain (emit_rows (rows_seen k (drop i rs)) (width_in k) e 0) ≡ all_plain
      (emit_rows (rows_seen k rs) (width_in k) e 0)
  pub lists : lists_of held ++ all_scalars_of (emit_rows (rows_seen k (drop i rs)) (width_in k) e 0)
      ≡
      all_scalars_of (emit_rows (rows_seen k rs) (width_in k) e 0)

plains_at : (k : Callees) (e : Env) (rs : List BoundRow) (i : ℕ) (r : BoundRow) → i < length rs →
    r ≡ get_or rs i r →
    is_plain (emit_all (row_seen k r) (width_in k) e 0).nodes ≡ true →
    emit_rows (rows_seen k (drop i rs)) (width_in k) e 0 ≡ emit_all (row_seen k r) (width_in k) e 0
    ∷
    emit_rows (rows_seen k (drop (i + 1) rs)) (width_in k) e 0
plains_at k e rs i r h is p =
    let a = emit_all (row_seen k r) (width_in k) e 0 in
    rows_at k rs i r (width_in k) e 0 h is ∙ ap
    (λ n. a ∷ emit_rows (rows_seen k (drop (i + 1) rs)) (width_in k) e n)
    (plain-width a.nodes 0 p)

pub plains_next : (k : Callees) (e : Env) (rs : List BoundRow) (i : ℕ) (r : BoundRow)
    (old new : List ScalarRow) (list : ScalarRow) → i < length rs → r ≡ get_or rs i r →
    Plains k e rs i old →
    is_plain (emit_all (row_seen k r) (width_in k) e 0).nodes ≡ true →
    scalars_of list.scalars ≡ (emit_all (row_seen k r) (width_in k) e 0).scalars →
    new ≡ old ++ list ∷ [] → Plains k e rs (i + 1) new
plains_next k e rs i r old new list h is b p same f =
    let a = emit_all (row_seen k r) (width_in k) e 0 in
    let left = emit_rows (rows_seen k (drop (i + 1) rs)) (width_in k) e 0 in
    let at = plains_at k e rs i r h is p in
    record {
      plain = ap (λ q. q && all_plain left) (sym p) ∙ ap all_plain (sym at) ∙ b.plain;
      lists =
          ap (λ (xs : List ScalarRow). lists_of xs ++ all_scalars_of left) f ∙
          ap (λ (xs : List Scalars). xs ++ all_scalars_of left)
          (map-last (λ (x : ScalarRow). scalars_of x.scalars) old list)
          ∙ append_assoc (lists_of old) (scalars_of list.scalars ∷ []) (all_scalars_of left) ∙
          ap (λ ss. lists_of old ++ ss ∷ all_scalars_of left) same
          ∙ ap (λ ls. lists_of old ++ all_scalars_of ls) (sym at) ∙ b.lists;
    }

-- a row that needs nodes
pub plains_end : (k : Callees) (e : Env) (rs : List BoundRow) (i : ℕ) (r : BoundRow)
    (old : List ScalarRow) → i < length rs → r ≡ get_or rs i r → Plains k e rs i old →
    is_plain (emit_all (row_seen k r) (width_in k) e 0).nodes ≡ false →
    all_plain (emit_rows (rows_seen k rs) (width_in k) e 0) ≡ false
plains_end k e rs i r old h is b p =
    let a = emit_all (row_seen k r) (width_in k) e 0 in
    let left = emit_rows (rows_seen k (drop (i + 1) rs)) (width_in k) e (width a.nodes 0) in
    sym b.plain ∙ ap all_plain (rows_at k rs i r (width_in k) e 0 h is) ∙
    ap (λ q. q && all_plain left) p

pub plains_done : (k : Callees) (e : Env) (rs : List BoundRow) (i : ℕ) (lists : List ScalarRow) →
    length rs ≤ i → Plains k e rs i lists →
    (all_plain (emit_rows (rows_seen k rs) (width_in k) e 0) ≡ true) ×
    (lists_of lists ≡ all_scalars_of (emit_rows (rows_seen k rs) (width_in k) e 0))
plains_done k e rs i lists h b =
    let done = drop_all i rs h in (
      sym b.plain ∙ ap (λ (xs : List BoundRow).
          all_plain (emit_rows (rows_seen k xs) (width_in k) e 0)) done,
      sym (append-nil (lists_of lists)) ∙ ap (λ (xs : List BoundRow). lists_of lists ++
          all_scalars_of (emit_rows (rows_seen k xs) (width_in k) e 0)) (sym done) ∙ b.lists,
    )

-- which of the plans of rows it is
pub several_there : (lists : List EmittedAll) (m : ℕ) → length lists ≡ m → ¬ (m ≡ 1) →
    all_plain lists ≡ false → (k : ℕ) (numbered : List EmittedAll) →
    several k numbered ≡ values_plan k lists numbered
several_there [] m h n p k numbered = refl
several_there (a ∷ []) m h n p k numbered = absurd (n (sym h))
several_there (a ∷ b ∷ lists) m h n p k numbered =
    ap (λ q. if q then values (all_scalars_of (a ∷ b ∷ lists)) else several k numbered) (sym p)

pub values_there : (lists : List EmittedAll) (m : ℕ) (rows : List Scalars) → length lists ≡ m →
    ¬ (m ≡ 1) → ¬ (m ≡ 0) → all_plain lists ≡ true → rows ≡ all_scalars_of lists →
    (k : ℕ) (numbered : List EmittedAll) →
    values rows ≡ values_plan k lists numbered
values_there [] m rows h n z p is k numbered = absurd (z (sym h))
values_there (a ∷ []) m rows h n z p is k numbered = absurd (n (sym h))
values_there (a ∷ b ∷ lists) m rows h n z p is k numbered =
    ap values is ∙ ap (λ q. if q then values (all_scalars_of (a ∷ b ∷ lists)) else several k
    numbered) (sym p)

pub rows-length : (k : Callees) (e : Env) (rs : List BoundRow) →
    length (emit_rows (rows_seen k rs) (width_in k) e 0) ≡ length rs
rows-length k e rs = rows_counted k rs (width_in k) e 0

pub none_there : (k : Callees) (e : Env) (rs : List BoundRow) → rs ≡ [] →
    (w : ℕ) (numbered : List EmittedAll) → several w numbered ≡ values_plan w
    (emit_rows (rows_seen k rs) (width_in k) e 0) numbered
none_there k e rs h w numbered = ap (λ (xs : List BoundRow). values_plan w
    (emit_rows (rows_seen k xs) (width_in k) e 0) numbered) (sym h)

-- ---- the same of bound trees

-- the plan of one row
pub row_bound : {B : Type 0} → (k : Callees) (e : Env) (vs : List BoundExpr)
    (start between : Draft) (ss : List ScalarCode) (r : Result Plan B) →
    (drafted start).tree ≡ unit_row → (drafted start).width ≡ 0 →
    EmitsAll start between (scalars_of ss)
    (emit_all (exprs_seen k vs) (width_in k) e (drafted start).width) →
    IfOk r (λ p. plan_tree p ≡ listed_only (scalars_of ss) (drafted between).width
    (drafted between).tree) →
    IfOk r (λ p. plan_tree p ≡ listed (emit_all (exprs_seen k vs) (width_in k) e 0) 0 unit_row)
row_bound k e vs start between ss r tree wide d made =
    if_ok r (λ p. plan_tree p ≡ listed_only (scalars_of ss) (drafted between).width
    (drafted between).tree)
    (λ p. plan_tree p ≡ listed (emit_all (exprs_seen k vs) (width_in k) e 0) 0 unit_row) made
    (λ p is. listed_emission (emit_all (exprs_seen k vs) (width_in k) e) 0 unit_row start between
    (scalars_of ss) (plan_tree p) tree wide d is)

-- one row
pub one_row : {B : Type 0} → (k : Callees) (e : Env) (rs : List BoundRow) (x : BoundRow)
    (vs : List BoundExpr) (r : Result Plan B) → length rs ≡ 1 → x ≡ slice_index_or rs 0 x →
    exprs_seen k vs ≡ row_seen k x →
    IfOk r (λ p. plan_tree p ≡ listed (emit_all (exprs_seen k vs) (width_in k) e 0) 0 unit_row) →
    IfOk r (λ p. plan_tree p ≡ rows_plan k rs e)
one_row k e rs x vs r one is same made =
    if_ok r (λ p. plan_tree p ≡ listed (emit_all (exprs_seen k vs) (width_in k) e 0) 0 unit_row)
    (λ p. plan_tree p ≡ rows_plan k rs e) made
    (λ p h. h ∙ ap (λ es. listed (emit_all es (width_in k) e 0) 0 unit_row) same ∙
    single_plan k e rs x one is)

-- whether a row is plain, and its list
pub plain_row : (k : Callees) (e : Env) (vs : List BoundExpr) (start new : Draft) (ss : Scalars)
    (b : Bool) → (drafted start).tree ≡ unit_row → (drafted start).width ≡ 0 →
    EmitsAll start new ss (emit_all (exprs_seen k vs) (width_in k) e (drafted start).width) →
    b ≡ is_unit_row (drafted new).tree →
    (b ≡ is_plain (emit_all (exprs_seen k vs) (width_in k) e 0).nodes) ×
    (ss ≡ (emit_all (exprs_seen k vs) (width_in k) e 0).scalars)
plain_row k e vs start new ss b tree wide d is =
    let a = emit_all (exprs_seen k vs) (width_in k) e 0 in
    let same : emit_all (exprs_seen k vs) (width_in k) e (drafted start).width ≡ a =
    λ j. emit_all (exprs_seen k vs) (width_in k) e (wide j) in (
      is ∙ ap is_unit_row (d.tree ∙ (λ j. on_each (same j).nodes (tree j))) ∙
          plain_unit a.nodes,
      d.scalars ∙ ap (λ y. y.scalars) same,
    )

-- a row more that is plain
pub plains_more : (k : Callees) (e : Env) (rs : List BoundRow) (i : ℕ) (x : BoundRow)
    (vs : List BoundExpr) (old new : List ScalarRow) (o : Option ScalarRow) (list : ScalarRow) →
    i < length rs → x ≡ get_or rs i x → exprs_seen k vs ≡ row_seen k x → Plains k e rs i old →
    o ≡ Some list → IsPlain o (emit_all (exprs_seen k vs) (width_in k) e 0) →
    new ≡ old ++ list ∷ [] → Plains k e rs (i + 1) new
plains_more k e rs i x vs old new o list h is same b some p f =
    let both : IsPlain (Some list) (emit_all (row_seen k x) (width_in k) e 0) =
    subst (λ (q : Option ScalarRow). IsPlain q (emit_all (row_seen k x) (width_in k) e 0)) some
    (subst (λ es. IsPlain o (emit_all es (width_in k) e 0)) same p) in
    plains_next k e rs i x old new list h is b both.0 both.1 f

-- a row that is not
pub plains_not : (k : Callees) (e : Env) (rs : List BoundRow) (i : ℕ) (x : BoundRow)
    (vs : List BoundExpr) (old : List ScalarRow) (o : Option ScalarRow) →
    i < length rs → x ≡ get_or rs i x → exprs_seen k vs ≡ row_seen k x → Plains k e rs i old →
    o ≡ None → IsPlain o (emit_all (exprs_seen k vs) (width_in k) e 0) →
    all_plain (emit_rows (rows_seen k rs) (width_in k) e 0) ≡ false
plains_not k e rs i x vs old o h is same b none p =
    let not_plain : IsPlain None (emit_all (row_seen k x) (width_in k) e 0) =
    subst (λ (q : Option ScalarRow). IsPlain q (emit_all (row_seen k x) (width_in k) e 0)) none
    (subst (λ es. IsPlain o (emit_all es (width_in k) e 0)) same p) in
    plains_end k e rs i x old h is b not_plain

pub numbering_bound : (k : Callees) (e : Env) (w : ℕ) (rs : List BoundRow) (i : ℕ) (r : BoundRow)
    (vs : List BoundExpr) (start old new : Draft) (columns grown : List ScalarRow) (ss : Scalars) →
    i < length rs → r ≡ get_or rs i r → exprs_seen k vs ≡ row_seen k r →
    Numbering k e w rs i start old columns →
    EmitsAll old new ss (emit_all (exprs_seen k vs) (width_in k) e (drafted old).width) →
    all_arms_of grown ≡ with_row i (all_arms_of columns) ss →
    Numbering k e w rs (i + 1) start new grown
numbering_bound k e w rs i r vs start old new columns grown ss h is p b d g =
    numbering_next k e w rs i r start old new columns grown ss h is b
    (subst (λ es. EmitsAll old new ss (emit_all es (width_in k) e (drafted old).width)) p d) g

-- rows of which there is not one, over their numbers
pub numbered_there : {B : Type 0} → (k : Callees) (e : Env) (rs : List BoundRow)
    (r : Result Plan B) → ¬ (length rs ≡ 1) →
    all_plain (emit_rows (rows_seen k rs) (width_in k) e 0) ≡ false →
    IfOk r (λ p. plan_tree p ≡ several (rows_width (rows_seen k rs))
    (emit_rows (rows_seen k rs) (width_in k) e 1)) →
    IfOk r (λ p. plan_tree p ≡ rows_plan k rs e)
numbered_there k e rs r one p made =
    if_ok r (λ q. plan_tree q ≡ several (rows_width (rows_seen k rs))
    (emit_rows (rows_seen k rs) (width_in k) e 1)) (λ q. plan_tree q ≡ rows_plan k rs e) made
    (λ q is. is ∙ several_there (emit_rows (rows_seen k rs) (width_in k) e 0) (length rs)
    (rows-length k e rs) one p (rows_width (rows_seen k rs))
    (emit_rows (rows_seen k rs) (width_in k) e 1))

-- none
pub no_rows : {B : Type 0} → (k : Callees) (e : Env) (rs : List BoundRow) (r : Result Plan B) →
    rs ≡ [] →
    IfOk r (λ p. plan_tree p ≡ several (rows_width (rows_seen k rs))
    (emit_rows (rows_seen k rs) (width_in k) e 1)) →
    IfOk r (λ p. plan_tree p ≡ rows_plan k rs e)
no_rows k e rs r none made =
    if_ok r (λ q. plan_tree q ≡ several (rows_width (rows_seen k rs))
    (emit_rows (rows_seen k rs) (width_in k) e 1)) (λ q. plan_tree q ≡ rows_plan k rs e) made
    (λ q is. is ∙ none_there k e rs none (rows_width (rows_seen k rs))
    (emit_rows (rows_seen k rs) (width_in k) e 1))

-- the lists alone
pub plain_there : (k : Callees) (e : Env) (rs : List BoundRow) (o : Option (List ScalarRow))
    (lists : List ScalarRow) (end : PlanTree) → ¬ (length rs ≡ 1) → ¬ (rs ≡ []) →
    o ≡ Some lists → ArePlain o (emit_rows (rows_seen k rs) (width_in k) e 0) →
    end ≡ values (lists_of lists) → end ≡ rows_plan k rs e
plain_there k e rs o lists end one some is are made =
    let plain : ArePlain (Some lists) (emit_rows (rows_seen k rs) (width_in k) e 0) =
    subst (λ (x : Option (List ScalarRow)). ArePlain x
    (emit_rows (rows_seen k rs) (width_in k) e 0)) is are in
    made ∙ values_there (emit_rows (rows_seen k rs) (width_in k) e 0) (length rs) (lists_of lists)
    (rows-length k e rs) one (λ z. some (nil_from_length rs z)) plain.0 plain.1
    (rows_width (rows_seen k rs)) (emit_rows (rows_seen k rs) (width_in k) e 1)

-- where names are read
pub values_lifted : {B : Type 0} → (k : Callees) (e within : Env) (rs : List BoundRow)
    (r : Result Plan B) → within ≡ lifted e → IfOk r (λ p. plan_tree p ≡ rows_plan k rs within) →
    IfOk r (λ p. plan_tree p ≡ plan (Values (rows_seen k rs)) (width_in k) e)
values_lifted k e within rs r env made =
    if_ok r (λ p. plan_tree p ≡ rows_plan k rs within)
    (λ p. plan_tree p ≡ plan (Values (rows_seen k rs)) (width_in k) e) made
    (λ p is. is ∙ ap (rows_plan k rs) env)

-- ---- queries by how they are made

pub plan_as : {B : Type 0} → (k : Callees) (x : BoundQuery) (q : Query) (e : Env)
    (r : Result Plan B) → q ≡ query_seen k x →
    IfOk r (λ p. plan_tree p ≡ plan q (width_in k) e) →
    IfOk r (λ p. plan_tree p ≡ plan (query_seen k x) (width_in k) e)
plan_as k x q e r same made = subst (λ y. IfOk r (λ p. plan_tree p ≡ plan y (width_in k) e)) same
    made

-- in an order
pub sorted_as : {B : Type 0} → (k : Callees) (x q b : BoundQuery) (keys ks : List SortKey)
    (e : Env) (below : Plan) (r : Result Plan B) → x ≡ query.Ordered q keys → b ≡ q → ks ≡ keys →
    plan_tree below ≡ plan (query_seen k b) (width_in k) e →
    IfOk r (λ p. plan_tree p ≡ sort ks (plan_tree below)) →
    IfOk r (λ p. plan_tree p ≡ plan (query_seen k x) (width_in k) e)
sorted_as k x q b keys ks e below r is same order there made =
    plan_as k x (Ordered (query_seen k q) keys) e r (sym (query_seen-Ordered k q keys) ∙
    ap (query_seen k) (sym is))
    (if_ok r (λ p. plan_tree p ≡ sort ks (plan_tree below))
    (λ p. plan_tree p ≡ plan (Ordered (query_seen k q) keys) (width_in k) e) made
    (λ p h. h ∙ (λ j. sort (order j) ((there ∙ ap (λ y. plan (query_seen k y) (width_in k) e) same)
    j))))
