-- SET and RETURN, and statements that store several values.
use Rattle.std.proofs.Common.{◌≡◌, ℕ, zero, suc, ◌+◌, ◌<◌, true, false, nat_eq, List, [], ◌∷◌, ◌++◌}
use Rattle.std.proofs.Common.{length, map, replicate, Option, Some, None, Ok, Err, slice_set, refl}
use Rattle.std.proofs.Common.{sym, ap, ◌∙◌, subst, arith, inl, inr, length-append}
use Rattle.std.proofs.lemmas.List.{length-set}
use Rattle.sql_values.specs.declared.value.Value.{Value}
use Rattle.sql_values.specs.declared.value.Value.TheVariants.{Null, Bool as Truth}
use Rattle.sql_values.specs.Casts.{assigned}
use Rattle.sql_conditions.specs.Conditions.{Area, area_of}
use Rattle.sql_conditions.specs.declared.condition.EngineCondition.TheVariants.{SeveralRows}
use Rattle.row_types.specs.declared.cell.Cell.{Cell}
use Rattle.row_types.specs.declared.cell.Cell.TheVariants.{Val, Cond}
use Rattle.row_types.specs.Rows.{Row}
use Rattle.rel_algebra.specs.Endings.{Ending, cell_end, after, ending_of}
use Rattle.rel_algebra.specs.Emissions.{EmittedAll, Folded, width, joined_nodes, assigning}
use Rattle.rel_algebra.specs.Emissions.{all_values}
use Rattle.rel_algebra.specs.Plan.{scalar_count, PlanTree, aggregate, all_or_first, case_cell, anew}
use Rattle.rel_algebra.specs.Plan.{Nodes, no_node, extend_by, apply_by, into, Scalars, constant}
use Rattle.rel_algebra.specs.Plan.{sight, added, applied, cell_at, cells_at, cell_of, cells_of}
use Rattle.rel_algebra.specs.Plan.{collapse, collapse_as, collected, den, shown, values_of}
use Rattle.rel_algebra.specs.Joins.{finish_all, places}
use Rattle.rel_algebra.proofs.Folding.{fold_cells, finished_long, first_cell}
use Rattle.rel_algebra.proofs.Widths.{width_join}
use Rattle.rel_algebra.proofs.Words.{if_values_cell, assigning_cell, guard, checks_guard}
use Rattle.rel_algebra.proofs.Words.{values_more}
use Rattle.rel_algebra.proofs.Growing.{Grows, grows_by, grows_same, grows_trans, grown_column}
use Rattle.rel_algebra.proofs.Growing.{grown_columns, shown_long}
use Rattle.rel_algebra.proofs.Nodes.{added_join, added_long, added_grows, cells_long}
use Rattle.rel_algebra.proofs.Rows.{AreCells, are_cells, WideEnd}
use Rattle.rel_algebra.proofs.Wide.{LongEnd}
use Rattle.rel_algebra.specs.Scopes.{Inputs, columns_in}
use Rattle.rel_algebra.specs.States.{no_data}
use Rattle.rel_algebra.specs.Bodies.{HasTarget, Target}
use Rattle.rel_algebra.specs.Leaves.{QueryLeaf, ValueLeaf}
use Rattle.rel_algebra.proofs.BodyHeld.{CountIs, Folds, FoldsTo, QueryMeans, ValueRight}
use Rattle.rel_algebra.specs.BodyDoing.{Frame, Next, Returning, ends, put_values, take_values}
use Rattle.rel_algebra.specs.BodyDoing.{storing}
use Rattle.rel_algebra.specs.BodyHandlers.{with_end, with_value}
use Rattle.rel_algebra.specs.BodyMeaning.{seen as sees, value_in, one_row}
use Rattle.rel_algebra.specs.BodySteps.{run, col, only, tag}
use Rattle.rel_algebra.specs.BodyDispatch.{Env, store_if}
use Rattle.rel_algebra.specs.BodyChain.{column_at, reading, emitted, with_column, with_columns}
use Rattle.rel_algebra.specs.BodyChain.{target_stores, assigns, assigns_if, one_step, into_by}
use Rattle.rel_algebra.specs.BodyChain.{emit_set, emit_return, emit_into}
use Rattle.rel_algebra.proofs.BodyBase.{at, both, lower_differs, set_same, set_other, shown_set}
use Rattle.rel_algebra.proofs.BodyBase.{Rising, rising_below, column_apart, cells_set_low}
use Rattle.rel_algebra.proofs.BodyBase.{cells_set_slot}
use Rattle.rel_algebra.proofs.BodyRows.{puts}
use Rattle.rel_algebra.proofs.BodyLands.{Lands, Ready, Sim, Seen, scopes_of, codes_of, Good}
use Rattle.rel_algebra.proofs.BodyJudged.{reads_frame, expr_yields, column_wide, column_cell}
use Rattle.rel_algebra.proofs.BodyJudged.{store_new, store_old, AllOld, Stored, Judged, one_sim}
use Rattle.rel_algebra.proofs.BodyJudged.{one_passes, one_lands}

-- one more value in its slot
one_stored : (env : Env) (n : ℕ) (q : List Cell) (f : Frame) (x : ℕ) (v : Value) →
    Rising 3 env.columns n → length q ≡ n → cells_at q env.columns ≡ shown f →
    Stored env n q (record { outcome = Next; frame = slice_set f x v })
    (slice_set q (column_at n env.columns x) (Val v))
one_stored env n q f x v r l s = record {
  long = length-set q (column_at n env.columns x) (Val v) ∙ l;
  shows = cells_set_slot 3 env.columns n x q (Val v) r (omega (arith, l))
      ∙ (ap (λ (cs : List Cell). slice_set cs x (Val v)) s ∙ shown_set f x v);
  done = tt;
  keeps = λ i lo hi p. set_other q (column_at n env.columns x) i (Val v)
      (column_apart env.columns n x i p hi);
}

-- ---- SET

set_ending : (E : Ending Value) (g : Value → Ending Value) →
    after E (λ v. after (g v) (λ x. Ok (x ∷ []))) ≡ after (after E g) (λ x. Ok (x ∷ []))
set_ending (Ok v) g = refl
set_ending (Err a) g = refl

set_judged : (w : Inputs) (o : List (List Cell)) (env : Env) (here : ℕ) (seen : Seen) (n : ℕ)
    (q z : List Cell) (p : ℕ) (f : Frame) (t : Target) (E : Ending Value) → Rising 3 env.columns n →
    length q ≡ n →
    cells_at q env.columns ≡ shown f → cell_at z p ≡ cell_end E →
    Judged w o env here seen n q z (store_if p p (column_at n env.columns t.slot) ∷ []) (tag here) p
    f
    (with_end (scopes_of w seen) (after E (λ x. Ok (x ∷ []))) f (storing (t ∷ [])))
set_judged w o env here seen n q z p f t (Ok v) r l s h =
    inr (
      v,
      h,
      refl,
      subst (λ (c : Cell). Stored env n q (record { outcome = Next; frame = slice_set f t.slot v })
          (slice_set q (column_at n env.columns t.slot) c))
          (sym (store_new p p (column_at n env.columns t.slot) (sight w o z) v h ∙ h))
          (one_stored env n q f t.slot v r l s),
    )
set_judged w o env here seen n q z p f t (Err a) r l s h =
    inl (a, h, (store_old p p (column_at n env.columns t.slot) (sight w o z) a h, tt), refl)

pub set_sim : (w : Inputs) (o : List (List Cell)) → (seen : Seen) → Good w o seen →
    (level : ℕ) (t : Target) (e : ValueLeaf) → ValueRight w e →
    Sim w o level (emit_set t e (columns_in w) (codes_of w seen))
    (λ st. with_value (scopes_of w seen) (λ f. after (value_in w e f)
    (λ v. take_values (t ∷ []) (v ∷ []))) (storing (t ∷ [])))
set_sim w o seen good level t e p =
    let S = columns_in w in
    one_sim w o seen good level (λ env n. with_column (emitted e S env n).nodes
    (assigning t.data_type (emitted e S env n).scalar)) (λ env n. width (emitted e S env n).nodes n)
    tag
    (λ env n. store_if (width (emitted e S env n).nodes n) (width (emitted e S env n).nodes n)
    (column_at n env.columns t.slot) ∷ [])
    (λ st. with_value (scopes_of w seen) (λ f. after (value_in w e f)
    (λ v. take_values (t ∷ []) (v ∷ []))) (storing (t ∷ [])))
    (λ env n q l. column_wide (emitted e S env n).nodes
    (assigning t.data_type (emitted e S env n).scalar) w o q n l)
    (λ env here n r st f q s.
    let a = emitted e S env n in let z = added
    (with_column a.nodes (assigning t.data_type a.scalar)) w o q in
    let E = after (value_in w e f) (λ v. ending_of (assigned t.data_type v)) in
    subst (λ (x : Ending (List Value)). Judged w o env here seen n q z
    (store_if (width a.nodes n) (width a.nodes n) (column_at n env.columns t.slot) ∷ []) (tag here)
    (width a.nodes n) f
    (with_end (scopes_of w seen) x f (storing (t ∷ []))))
    (sym (set_ending (value_in w e f) (λ v. ending_of (assigned t.data_type v))))
    (set_judged w o env here seen n q z (width a.nodes n) f t E r s.long s.shows
    (column_cell a.nodes (assigning t.data_type a.scalar) w o q n s.long
    ∙ assigning_cell t.data_type a.scalar (sight w o (added a.nodes w o q)) (value_in w e f)
    (expr_yields w o e p env n f q r s.long s.shows (added a.nodes w o q)
    (grows_same (added a.nodes w o q))))))

-- ---- RETURN

return_stored : (env : Env) (n : ℕ) (q : List Cell) (f : Frame) (v : Value) → Rising 3 env.columns
    n → length q ≡ n → cells_at q env.columns ≡ shown f →
    Stored env n q (record { outcome = Returning v; frame = f }) (slice_set q 1 (Val v))
return_stored env n q f v r l s = record {
  long = length-set q 1 (Val v) ∙ l;
  shows = cells_set_low 3 env.columns n 1 q (Val v) r (omega arith) ∙ s;
  done = set_same q 1 (Val v) (let h = rising_below 3 env.columns n r in omega (arith, l));
  keeps = λ i lo hi p. set_other q 1 i (Val v) (lower_differs 1 i (omega arith));
}

return_judged : (w : Inputs) (o : List (List Cell)) (env : Env) (here : ℕ) (seen : Seen) (n : ℕ)
    (q z : List Cell) (p : ℕ) (f : Frame) (E : Ending Value) → Rising 3 env.columns n → length q
    ≡ n →
    cells_at q env.columns ≡ shown f → cell_at z p ≡ cell_end E →
    Judged w o env here seen n q z (store_if p p 1 ∷ []) (tag 0) p f
    (with_end (scopes_of w seen) E f (λ v. ends (Returning v)))
return_judged w o env here seen n q z p f (Ok v) r l s h =
    inr (
      v,
      h,
      refl,
      subst (λ (c : Cell). Stored env n q (record { outcome = Returning v; frame = f })
          (slice_set q 1 c)) (sym (store_new p p 1 (sight w o z) v h ∙ h))
          (return_stored env n q f v r l s),
    )
return_judged w o env here seen n q z p f (Err a) r l s h =
    inl (a, h, (store_old p p 1 (sight w o z) a h, tt), refl)

pub return_sim : (w : Inputs) (o : List (List Cell)) → (seen : Seen) → Good w o seen →
    (level : ℕ) (e : ValueLeaf) → ValueRight w e →
    Sim w o level (emit_return e (columns_in w) (codes_of w seen))
    (λ st. with_value (scopes_of w seen) (value_in w e) (λ v. ends (Returning v)))
return_sim w o seen good level e p =
    let S = columns_in w in
    one_sim w o seen good level (λ env n. with_column (emitted e S env n).nodes
    (emitted e S env n).scalar) (λ env n. width (emitted e S env n).nodes n) (λ here. tag 0)
    (λ env n. store_if (width (emitted e S env n).nodes n) (width (emitted e S env n).nodes n) 1
    ∷ [])
    (λ st. with_value (scopes_of w seen) (value_in w e) (λ v. ends (Returning v)))
    (λ env n q l. column_wide (emitted e S env n).nodes (emitted e S env n).scalar w o q n l)
    (λ env here n r st f q s.
    let a = emitted e S env n in let z = added (with_column a.nodes a.scalar) w o q in
    return_judged w o env here seen n q z (width a.nodes n) f (value_in w e f) r s.long s.shows
    (column_cell a.nodes a.scalar w o q n s.long
    ∙ expr_yields w o e p env n f q r s.long s.shows (added a.nodes w o q)
    (grows_same (added a.nodes w o q))))

-- ---- several values

olds : (w : Inputs) (o : List (List Cell)) (env : Env) (n t : ℕ) (z : List Cell) (a : Area) →
    cell_at z t ≡ Cond a → (ts : List Target) (p : ℕ) → AllOld (target_stores ts env n t p)
    (sight w o z)
olds w o env n t z a h [] p = tt
olds w o env n t z a h (x ∷ ts) p = (
  store_old t p (column_at n env.columns x.slot) (sight w o z) a
      h,
  olds w o env n t z a h ts (suc p),
)

-- the first cell
abbrev head_of : List Cell → Cell
head_of [] = Val Null
head_of (c ∷ cs) = c

-- the cells but the first
abbrev tail_of : List Cell → List Cell
tail_of [] = []
tail_of (c ∷ cs) = cs

puts_many : (w : Inputs) (o : List (List Cell)) (env : Env) (n t : ℕ) (z : List Cell) (u : Value) →
    cell_at z t ≡ Val u → Rising 3 env.columns n → (ts : List Target) (xs : List Value) (p : ℕ)
    (q : List Cell) (f : Frame) →
    cells_at z (places p (length ts)) ≡ shown xs → length q ≡ n → cells_at q env.columns ≡ shown f →
    Stored env n q (record { outcome = Next; frame = put_values ts xs f })
    (puts (target_stores ts env n t p) (sight w o z) q)
puts_many w o env n t z u h r [] xs p q f c l s =
    record { long = l; shows = s; done = tt; keeps = λ i lo hi a. refl }
puts_many w o env n t z u h r (x ∷ ts) [] p q f c l s =
    absurd (omega (
      arith,
      let e : suc (length (cells_at z (places (suc p) (length ts)))) ≡ 0 =
          ap (λ (cs : List Cell). length cs) c in e,
    ))
puts_many w o env n t z u h r (x ∷ ts) (v ∷ xs) p q f c l s =
    let i = column_at n env.columns x.slot in
    let cell : cell_of (store_if t p i).new (sight w o z) ≡ Val v = store_new t p i (sight w o z) u
    h ∙ ap head_of c in
    let first = one_stored env n q f x.slot v r l s in
    let rest = puts_many w o env n t z u h r ts xs (suc p) (slice_set q i (Val v))
    (slice_set f x.slot v) (ap tail_of c) first.long first.shows in
    subst (λ (d : Cell). Stored env n q (record
    { outcome = Next; frame = put_values ts xs (slice_set f x.slot v) })
    (puts (target_stores ts env n t (suc p)) (sight w o z) (slice_set q i d))) (sym cell)
    (record {
      long = rest.long;
      shows = rest.shows;
      done = tt;
      keeps = λ j lo hi a. rest.keeps j lo
          hi a ∙ first.keeps j lo hi a;
    })

pub many_judged : (w : Inputs) (o : List (List Cell)) (env : Env) (here : ℕ) (seen : Seen) (n : ℕ)
    (q z : List Cell) (t p : ℕ) (f : Frame) (ts : List Target) (E : Ending (List Value)) →
    Rising 3 env.columns n → length q ≡ n →
    cells_at q env.columns ≡ shown f → cell_at z t ≡ guard E →
    ((xs : List Value) → E ≡ Ok xs → cells_at z (places p (length ts)) ≡ shown xs) →
    Judged w o env here seen n q z (target_stores ts env n t p) (tag here) t f
    (with_end (scopes_of w seen) E f (storing ts))
many_judged w o env here seen n q z t p f ts (Ok xs) r l s h c =
    inr (Truth true, h, refl, puts_many w o env n t z (Truth true) h r ts xs p q f (c xs refl) l s)
many_judged w o env here seen n q z t p f ts (Err a) r l s h c =
    inl (a, h, olds w o env n t z a h ts p, refl)

-- the row with columns and the test of some of them
pub columns_added : (nodes : Nodes) (ss : Scalars) (is : List ℕ) (w : Inputs) (o : List (List Cell))
    (q : List Cell) →
    let y = added nodes w o q in let z = y ++ cells_of ss (sight w o y) in
    added (with_columns nodes ss is) w o q ≡ z ++ cell_of (all_values is) (sight w o z) ∷ []
columns_added nodes ss is w o q = added_join nodes
    (extend_by ss (extend_by (only (all_values is)) no_node)) w o q

pub columns_wide : (nodes : Nodes) (ss : Scalars) (is : List ℕ) (w : Inputs) (o : List (List Cell))
    (q : List Cell) (m k : ℕ) → length (added nodes w o q) ≡ m → scalar_count ss ≡ k →
    length (added (with_columns nodes ss is) w o q) ≡ suc (m + k)
columns_wide nodes ss is w o q m k l c =
    let y = added nodes w o q in let cs = cells_of ss (sight w o y) in let z = y ++ cs in
    ap (λ (r : List Cell). length r) (columns_added nodes ss is w o q)
    ∙ (length-append z (cell_of (all_values is) (sight w o z) ∷ [])
    ∙ (let e = length-append y cs in let d = cells_long ss (sight w o y) in let g : length z + 1
    ≡ suc (m + k) = omega (arith, e, d, l, c) in g))

-- the test's cell
pub columns_test : (nodes : Nodes) (ss : Scalars) (is : List ℕ) (w : Inputs) (o : List (List Cell))
    (q : List Cell) (m k : ℕ) → length (added nodes w o q) ≡ m → scalar_count ss ≡ k →
    cell_at (added (with_columns nodes ss is) w o q) (m + k)
    ≡ guard (values_of (cells_at (added nodes w o q ++ cells_of ss (sight w o (added nodes w o q)))
    is))
columns_test nodes ss is w o q m k l c =
    let y = added nodes w o q in let cs = cells_of ss (sight w o y) in let z = y ++ cs in
    grown_column z (added (with_columns nodes ss is) w o q) (cell_of (all_values is) (sight w o z))
    (m + k)
    (length-append y cs ∙ both (λ (i j : ℕ). i + j) _ _ _ _ l (cells_long ss (sight w o y) ∙ c))
    (subst (λ (r : List Cell). Grows (z ++ cell_of (all_values is) (sight w o z) ∷ []) r)
    (sym (columns_added nodes ss is w o q)) (grows_same
    (z ++ cell_of (all_values is) (sight w o z) ∷ [])))
    ∙ checks_guard is w o z

-- the columns themselves
pub columns_cells : (nodes : Nodes) (ss : Scalars) (is : List ℕ) (w : Inputs) (o : List (List Cell))
    (q : List Cell) (m k : ℕ) → length (added nodes w o q) ≡ m → scalar_count ss ≡ k →
    cells_at (added (with_columns nodes ss is) w o q) (places m k) ≡ cells_of ss
    (sight w o (added nodes w o q))
columns_cells nodes ss is w o q m k l c =
    let y = added nodes w o q in let cs = cells_of ss (sight w o y) in let z = y ++ cs in
    grown_columns y cs (added (with_columns nodes ss is) w o q) m k l
    (cells_long ss (sight w o y) ∙ c)
    (subst (λ (r : List Cell). Grows z r) (sym (columns_added nodes ss is w o q))
    (grows_by z (cell_of (all_values is) (sight w o z) ∷ [])))

-- those before the test
pub columns_before : (nodes : Nodes) (ss : Scalars) (w : Inputs) (o : List (List Cell))
    (q : List Cell) (m k : ℕ) → length (added nodes w o q) ≡ m → scalar_count ss ≡ k →
    cells_at (added nodes w o q ++ cells_of ss (sight w o (added nodes w o q))) (places m k)
    ≡ cells_of ss (sight w o (added nodes w o q))
columns_before nodes ss w o q m k l c =
    let y = added nodes w o q in let cs = cells_of ss (sight w o y) in
    grown_columns y cs (y ++ cs) m k l (cells_long ss (sight w o y) ∙ c) (grows_same (y ++ cs))

-- ---- SELECT INTO

assigns_count : (ts : List Target) (p : ℕ) → scalar_count (assigns ts p) ≡ length ts
assigns_count [] p = refl
assigns_count (t ∷ ts) p = ap suc (assigns_count ts (suc p))

-- the cells of assigned ones
abbrev taken : List Target → List (Ending Value) → List Cell
taken [] es = []
taken (t ∷ ts) [] = []
taken (t ∷ ts) (e ∷ es) = cell_end (after e (λ v. ending_of (assigned t.data_type v))) ∷ taken ts es

-- how evaluations end, as cells
abbrev cells_end : List (Ending Value) → List Cell
cells_end [] = []
cells_end (e ∷ es) = cell_end e ∷ cells_end es

assigns_cells : (ts : List Target) (es : List (Ending Value)) (w : Inputs) (o : List (List Cell))
    (z : List Cell) (p : ℕ) → cells_at z (places p (length ts)) ≡ cells_end es →
    cells_of (assigns ts p) (sight w o z) ≡ taken ts es
assigns_cells [] es w o z p h = refl
assigns_cells (t ∷ ts) [] w o z p h = absurd (omega (
  arith,
  let e : suc (length (cells_at z (places (suc p) (length ts)))) ≡ 0 =
      ap (λ (cs : List Cell). length cs) h in e,
))
assigns_cells (t ∷ ts) (e ∷ es) w o z p h =
    both (λ (c : Cell) (cs : List Cell). c ∷ cs) _ _ _ _
    (assigning_cell t.data_type (col p) (sight w o z) e (ap head_of h))
    (assigns_cells ts es w o z (suc p) (ap tail_of h))

-- evaluations that give
abbrev given : List Value → List (Ending Value)
given [] = []
given (v ∷ vs) = Ok v ∷ given vs

given_cells : (vs : List Value) → cells_end (given vs) ≡ shown vs
given_cells [] = refl
given_cells (v ∷ vs) = ap (λ (cs : List Cell). Val v ∷ cs) (given_cells vs)

pub taken_values : (ts : List Target) (vs : List Value) → values_of (taken ts (given vs))
    ≡ take_values ts vs
taken_values [] vs = refl
taken_values (t ∷ ts) [] = refl
taken_values (t ∷ ts) (v ∷ vs) = values_more (ending_of (assigned t.data_type v))
    (taken ts (given vs)) (take_values ts vs) (taken_values ts vs)

-- k evaluations that raise
abbrev errs : ℕ → Area → List (Ending Value)
errs zero a = []
errs (suc k) a = Err a ∷ errs k a

errs_cells : (k : ℕ) (a : Area) → cells_end (errs k a) ≡ replicate k (Cond a)
errs_cells zero a = refl
errs_cells (suc k) a = ap (λ (cs : List Cell). Cond a ∷ cs) (errs_cells k a)

taken_errs : (ts : List Target) (a : Area) → HasTarget ts →
    values_of (taken ts (errs (length ts) a)) ≡ Err a
taken_errs [] a h = absurd h
taken_errs (t ∷ ts) a h = refl

-- what an inner list becomes by INTO
into_ends : (ts : List Target) → HasTarget ts → (R : Ending (List Row)) → WideEnd (length ts) R →
    (es : List (Ending Value)) × (collapse_as (into (length ts)) (Val Null) R ≡ cells_end es)
    × (values_of (taken ts es) ≡ after R (one_row ts))
into_ends ts h (Err a) wide = (
  errs (length ts) a,
  sym (errs_cells (length ts) a),
  taken_errs ts a
      h,
)
into_ends ts h (Ok []) wide = (
  errs (length ts) no_data,
  sym (errs_cells (length ts) no_data),
  taken_errs ts no_data h,
)
into_ends ts h (Ok (r ∷ [])) wide = (
  given r,
  whole r (length ts) wide.0 ∙ sym (given_cells r),
  taken_values ts r,
)
  where
    whole : (r : Row) (k : ℕ) → length r ≡ k → cells_at (shown r) (places 0 k) ≡ shown r
    whole r k e = grown_columns [] (shown r) (shown r) 0 k refl (shown_long r ∙ e)
        (grows_same (shown r))
into_ends ts h (Ok (r ∷ s ∷ rs)) wide = (
  errs (length ts) (area_of SeveralRows),
  sym (errs_cells (length ts) (area_of SeveralRows)),
  taken_errs ts (area_of SeveralRows) h,
)

all_applied : (cs : List Cell) → map (applied (Val (Truth true))) cs ≡ cs
all_applied [] = refl
all_applied (c ∷ cs) = ap (λ (ds : List Cell). c ∷ ds) (all_applied cs)

pub are_shown : (E : Ending Row) (cs : List Cell) → values_of cs ≡ E → (xs : List Value) →
    E ≡ Ok xs → cs ≡ shown xs
are_shown E cs h xs e = subst (λ (x : Ending Row). AreCells x cs) (h ∙ e) (are_cells cs)

-- the row on which the list is asked, by an inner plan
asked_judged : (w : Inputs) (o : List (List Cell)) → (seen : Seen) (env : Env)
    (here n : ℕ) → Rising 3 env.columns n → (query : QueryLeaf) (ts : List Target) → QueryMeans w
    query (length ts) → HasTarget ts →
    (f : Frame) (q : List Cell) → length q ≡ n → cells_at q env.columns ≡ shown f →
    let k = length ts in let pre = apply_by (constant (Truth true)) (into k) anew
    (query.plan (columns_in w) (reading env))
    (with_columns no_node (assigns ts n) (places (n + k) k)) in
    Judged w o env here seen n q (added pre w o q) (target_stores ts env n ((n + k) + k) (n + k))
    (tag here) ((n + k) + k) f
    (with_end (scopes_of w seen) (after (query.answer w (sees f)) (one_row ts)) f (storing ts))
asked_judged w o seen env here n r query ts qm has f q l s =
    let S = columns_in w in let k = length ts in
    let asks = apply_by (constant (Truth true)) (into k) anew (query.plan S (reading env))
    no_node in
    let pre = apply_by (constant (Truth true)) (into k) anew (query.plan S (reading env))
    (with_columns no_node (assigns ts n) (places (n + k) k)) in
    let long : length (added asks w o q) ≡ n + k = added_long asks w o q n l in
    let y = added asks w o q in let z = added pre w o q in
    let means : collected (den (query.plan S (reading env)) w (q ∷ o)) ≡ query.answer w (sees f) =
    qm.means (q ∷ o) (sees f) (reading env)
    (reads_frame env n w o f q r l s q (grows_same q)) in
    let t = into_ends ts has (query.answer w (sees f))
    (qm.wide (sees f)) in
    let X = map (applied (Val (Truth true))) (collapse_as (into k) (Val Null)
    (collected (den (query.plan S (reading env)) w (q ∷ o)))) in
    let found : cells_at y (places n k) ≡ cells_end t.0 =
    grown_columns q X y n k l
    (let d = long in let e = length-append q X in let m : length X ≡ k = omega (arith, d, e, l) in
    m) (grows_same y)
    ∙ (all_applied (collapse_as (into k) (Val Null)
    (collected (den (query.plan S (reading env)) w (q ∷ o))))
    ∙ (ap (collapse_as (into k) (Val Null)) means ∙ t.1)) in
    let cells : cells_of (assigns ts n) (sight w o y) ≡ taken ts t.0 = assigns_cells ts t.0 w o y n
    found in
    let values : values_of (cells_of (assigns ts n) (sight w o y)) ≡ after (query.answer w (sees f))
    (one_row ts) = ap values_of cells ∙ t.2 in
    many_judged w o env here seen n q z ((n + k) + k) (n + k) f ts
    (after (query.answer w (sees f)) (one_row ts)) r l s
    (columns_test asks (assigns ts n) (places (n + k) k) w o q (n + k) k long (assigns_count ts n)
    ∙ ap (λ (cs : List Cell). guard (values_of cs))
    (columns_before asks (assigns ts n) w o q (n + k) k long (assigns_count ts n))
    ∙ ap guard values)
    (λ xs e. columns_cells asks (assigns ts n) (places (n + k) k) w o q (n + k) k long
    (assigns_count ts n)
    ∙ are_shown (after (query.answer w (sees f)) (one_row ts))
    (cells_of (assigns ts n) (sight w o y)) values xs e)

asked_wide : (w : Inputs) (o : List (List Cell)) (inner : PlanTree) (ts : List Target) (n : ℕ)
    (q : List Cell) → length q ≡ n →
    let k = length ts in length (added (apply_by (constant (Truth true)) (into k) anew inner
    (with_columns no_node (assigns ts n) (places (n + k) k))) w o q) ≡ suc ((n + k) + k)
asked_wide w o inner ts n q l =
    let k = length ts in let asks = apply_by (constant (Truth true)) (into k) anew inner no_node in
    columns_wide asks (assigns ts n) (places (n + k) k) w o q (n + k) k (added_long asks w o q n l)
    (assigns_count ts n)

-- ---- folded

ifs_count : (is : List ℕ) (ts : List Target) (p : ℕ) → scalar_count (assigns_if is ts p) ≡ length ts
ifs_count is [] p = refl
ifs_count is (t ∷ ts) p = ap suc (ifs_count is ts (suc p))

-- where the guard is an area, each cell is
ifs_area : (is : List ℕ) (w : Inputs) (o : List (List Cell)) (y : List Cell) (a : Area) →
    guard (values_of (cells_at y is)) ≡ Cond a → (ts : List Target) → HasTarget ts → (p : ℕ) →
    values_of (cells_of (assigns_if is ts p) (sight w o y)) ≡ Err a
ifs_area is w o y a h [] t p = absurd t
ifs_area is w o y a h (x ∷ ts) t p =
    ap (λ (c : Cell). values_of (c ∷ cells_of (assigns_if is ts (suc p)) (sight w o y)))
    (if_values_cell is (assigning x.data_type (col p)) w o y
    ∙ ap (λ (c : Cell). case_cell (c ∷ cell_of (assigning x.data_type (col p)) (sight w o y) ∷ []))
    h)

-- and where it is true, the values are assigned
ifs_values : (is : List ℕ) (w : Inputs) (o : List (List Cell)) (y : List Cell) →
    guard (values_of (cells_at y is)) ≡ Val (Truth true) → (ts : List Target) (vs : List Value)
    (p : ℕ) → cells_at y (places p (length ts)) ≡ shown vs →
    cells_of (assigns_if is ts p) (sight w o y) ≡ taken ts (given vs)
ifs_values is w o y h [] vs p c = refl
ifs_values is w o y h (x ∷ ts) [] p c = absurd
    (omega (
      arith,
      let e : suc (length (cells_at y (places (suc p) (length ts)))) ≡ 0 =
          ap (λ (cs : List Cell). length cs) c in e,
    ))
ifs_values is w o y h (x ∷ ts) (v ∷ vs) p c =
    both (λ (a : Cell) (as_ : List Cell). a ∷ as_) _ _ _ _
    (if_values_cell is (assigning x.data_type (col p)) w o y
    ∙ (ap (λ (d : Cell). case_cell (d ∷ cell_of (assigning x.data_type (col p)) (sight w o y) ∷ []))
    h
    ∙ assigning_cell x.data_type (col p) (sight w o y) (Ok v) (ap head_of c)))
    (ifs_values is w o y h ts vs (suc p) (ap tail_of c))

-- by how the row of the list ends
ifs_ends : (is : List ℕ) (w : Inputs) (o : List (List Cell)) (y : List Cell) (ts : List Target) →
    HasTarget ts → (p : ℕ) (R : Ending Row) → guard (values_of (cells_at y is)) ≡ guard R →
    ((vs : Row) → R ≡ Ok vs → cells_at y (places p (length ts)) ≡ shown vs) →
    values_of (cells_of (assigns_if is ts p) (sight w o y)) ≡ after R (take_values ts)
ifs_ends is w o y ts has p (Err a) h c = ifs_area is w o y a h ts has p
ifs_ends is w o y ts has p (Ok vs) h c = ap values_of (ifs_values is w o y h ts vs p (c vs refl))
    ∙ taken_values ts vs

row_ends : (fin : Ending Row) (list : Row → Ending Row) (ts : List Target) →
    after (after fin (λ vs. Rattle.rel_algebra.specs.Scopes.one_row (list vs))) (one_row ts)
    ≡ after (after fin list) (take_values ts)
row_ends (Err s) list ts = refl
row_ends (Ok vs) list ts = of_row (list vs)
  where
    of_row : (e : Ending Row) → after (Rattle.rel_algebra.specs.Scopes.one_row e) (one_row ts)
        ≡ after e (take_values ts)
    of_row (Err s) = refl
    of_row (Ok r) = refl

-- the nodes of a folded query up to its list
abbrev folded_nodes : Folded → ℕ → Nodes
folded_nodes a n = let c = a.list n in apply_by (constant (Truth true)) (aggregate a.aggregates)
    anew a.input (joined_nodes c.nodes (extend_by c.scalars no_node))

folded_wide : (w : Inputs) (o : List (List Cell)) (a : Folded) (ts : List Target) (n : ℕ) →
    scalar_count (a.list n).scalars ≡ length ts → (q : List Cell) → length q ≡ n →
    let k = length ts in let p = width (a.list n).nodes (n + length a.aggregates) in
    length (added (folded_nodes a n) w o q) ≡ p + k
folded_wide w o a ts n sc q l =
    let c = a.list n in
    added_long (folded_nodes a n) w o q n l ∙
    (width_join c.nodes (extend_by c.scalars no_node) (n + length a.aggregates)
    ∙ ap (λ (i : ℕ). width c.nodes (n + length a.aggregates) + i) sc)

-- a join with what comes after
joined_behind : (a b c : Nodes) → joined_nodes (joined_nodes a b) c ≡ joined_nodes a
    (joined_nodes b c)
joined_behind no_node b c = refl
joined_behind (extend_by ss a) b c = ap (extend_by ss) (joined_behind a b c)
joined_behind (apply_by when kind way inner a) b c = ap (apply_by when kind way inner)
    (joined_behind a b c)

folded_pre : (a : Folded) (ts : List Target) (n : ℕ) →
    let k = length ts in let c = a.list n in let p = width c.nodes (n + length a.aggregates) in
    apply_by (constant (Truth true)) (aggregate a.aggregates) anew a.input
    (joined_nodes c.nodes (extend_by c.scalars
    (with_columns no_node (assigns_if (n ∷ places p k) ts p) (places (p + k) k))))
    ≡ with_columns (folded_nodes a n) (assigns_if (n ∷ places p k) ts p) (places (p + k) k)
folded_pre a ts n =
    let k = length ts in let c = a.list n in let p = width c.nodes (n + length a.aggregates) in
    ap (apply_by (constant (Truth true)) (aggregate a.aggregates) anew a.input)
    (sym (joined_behind c.nodes (extend_by c.scalars no_node)
    (with_columns no_node (assigns_if (n ∷ places p k) ts p) (places (p + k) k))))

guard_row : (e : Ending Row) (v : Value) → guard (after e (λ vs. Ok (v ∷ vs))) ≡ guard e
guard_row (Ok vs) v = refl
guard_row (Err a) v = refl

-- the row after a folded query, whose list is evaluated
folded_row : (w : Inputs) (o : List (List Cell)) (c : EmittedAll) (list : Row → Ending Row)
    (q : List Cell) (n some k p : ℕ) → length q ≡ n → scalar_count c.scalars ≡ k → width c.nodes
    (n + suc some) ≡ p → (fin : Ending Row) → LongEnd (suc some) fin →
    ((vs : Row) → length vs ≡ suc some → (y : List Cell) → Grows (added c.nodes w o (q ++ shown vs))
    y → values_of (cells_of c.scalars (sight w o y)) ≡ list vs) →
    let y1 = added c.nodes w o (q ++ all_or_first (suc some) fin) in let y = y1 ++ cells_of
    c.scalars (sight w o y1) in
    (guard (values_of (cells_at y (n ∷ places p k))) ≡ guard (after fin list))
    × ((rs : Row) → after fin list ≡ Ok rs → cells_of c.scalars (sight w o y1) ≡ shown rs)
folded_row w o c list q n some k p l sc wp (Err a) long ys =
    let x = q ++ Cond a ∷ replicate some (Cond a) in let y1 = added c.nodes w o x in let y =
    y1 ++ cells_of c.scalars (sight w o y1) in (
      ap (λ (d : Cell). guard (values_of (d ∷ cells_at y (places p k))))
          (first_cell q (replicate some (Cond a)) y (Cond a) n l
          (grows_trans x y1 y (added_grows c.nodes w o x)
          (grows_by y1 (cells_of c.scalars (sight w o y1))))),
      λ rs e. absurd (never_ok e),
    )
  where
    never_ok : {a : Area} {rs : Row} → Err a ≡ Ok rs → ⊥
    never_ok e = cc
folded_row w o c list q n some k p l sc wp (Ok []) long ys = absurd (omega (arith, long))
folded_row w o c list q n some k p l sc wp (Ok (v ∷ vs)) long ys =
    let x = q ++ Val v ∷ shown vs in let y1 = added c.nodes w o x in let E = cells_of c.scalars
    (sight w o y1) in let y = y1 ++ E in
    let long_x : length x ≡ n + suc some = length-append q (Val v ∷ shown vs)
    ∙ both (λ (i j : ℕ). i + j) _ _ _ _ l (ap suc (shown_long vs) ∙ long) in
    let evaluated : cells_at y (places p k) ≡ E = grown_columns y1 E y p k
    (added_long c.nodes w o x (n + suc some) long_x ∙ wp)
    (cells_long c.scalars (sight w o y1) ∙ sc) (grows_same y) in
    let values : values_of E ≡ list (v ∷ vs) = ys (v ∷ vs) long y1 (grows_same y1) in (
      both (λ (d : Cell) (cs : List Cell). guard (values_of (d ∷ cs))) _ _ _ _
          (first_cell q (shown vs) y (Val v) n l
          (grows_trans x y1 y (added_grows c.nodes w o x) (grows_by y1 E))) evaluated
          ∙ (guard_row (values_of E) v ∙ ap guard values),
      λ rs e. are_shown (list (v ∷ vs)) E values rs e,
    )

folded_judged : (w : Inputs) (o : List (List Cell)) (seen : Seen) (env : Env) (here n : ℕ) →
    Rising 3 env.columns n → (a : Folded) (query : QueryLeaf) (ts : List Target) → scalar_count
    (a.list n).scalars ≡ length ts → HasTarget ts →
    (f : Frame) (q : List Cell) → length q ≡ n → cells_at q env.columns ≡ shown f → FoldsTo a
    (query.answer w (sees f)) w o q n →
    let k = length ts in let p = width (a.list n).nodes (n + length a.aggregates) in
    Judged w o env here seen n q (added (with_columns (folded_nodes a n)
    (assigns_if (n ∷ places p k) ts p) (places (p + k) k)) w o q)
    (target_stores ts env n ((p + k) + k) (p + k)) (tag here) ((p + k) + k) f
    (with_end (scopes_of w seen) (after (query.answer w (sees f)) (one_row ts)) f (storing ts))
folded_judged w o seen env here n r a query ts sc has f q l s fold =
    let k = length ts in let c = a.list n in let m = length a.aggregates in let p = width c.nodes
    (n + m) in let is = n ∷ places p k in let ss = assigns_if is ts p in
    let fin = after fold.parts (finish_all a.aggregates) in
    let cells : map (applied (Val (Truth true)))
    (collapse (aggregate a.aggregates) (Val Null) (den a.input w (q ∷ o))) ≡ all_or_first
    (suc fold.some) fin =
    all_applied (collapse (aggregate a.aggregates) (Val Null) (den a.input w (q ∷ o)))
    ∙ (ap (collapse_as (aggregate a.aggregates) (Val Null)) fold.input
    ∙ (fold_cells a.aggregates fold.parts ∙ ap (λ (i : ℕ). all_or_first i fin) fold.long)) in
    let x = q ++ all_or_first (suc fold.some) fin in let y1 = added c.nodes w o x in let E =
    cells_of c.scalars (sight w o y1) in let y = y1 ++ E in
    let is_y : added (folded_nodes a n) w o q ≡ y =
    ap (λ (cs : List Cell). added (joined_nodes c.nodes (extend_by c.scalars no_node)) w o
    (q ++ cs)) cells ∙ added_join c.nodes (extend_by c.scalars no_node) w o x in
    let long : length (added (folded_nodes a n) w o q) ≡ p + k = folded_wide w o a ts n sc q l in
    let long_y : length y ≡ p + k = ap (λ (t : List Cell). length t) (sym is_y) ∙ long in
    let long_1 : length y1 ≡ p = let e = length-append y1 E in let d = cells_long c.scalars
    (sight w o y1) in let g : length y1 ≡ p = omega (arith, e, d, sc, long_y) in g in
    let R = after fin fold.list in
    let row = folded_row w o c fold.list q n fold.some k p l sc
    (ap (λ (i : ℕ). width c.nodes (n + i)) (sym fold.long)) fin
    (subst (λ (i : ℕ). LongEnd i fin) fold.long (finished_long a.aggregates fold.parts))
    (λ vs lv t g. fold.yields vs (lv ∙ sym fold.long) t g) in
    let evaluated : cells_at y (places p k) ≡ E = grown_columns y1 E y p k long_1
    (cells_long c.scalars (sight w o y1) ∙ sc) (grows_same y) in
    let ends_y : values_of (cells_of ss (sight w o y)) ≡ after R (take_values ts) = ifs_ends is w o
    y ts has p R row.0 (λ vs e. evaluated ∙ row.1 vs e) in
    let ends : values_of (cells_of ss (sight w o (added (folded_nodes a n) w o q))) ≡ after R
    (take_values ts) =
    ap (λ (t : List Cell). values_of (cells_of ss (sight w o t))) is_y ∙ ends_y in
    let answered : after (query.answer w (sees f)) (one_row ts) ≡ after R (take_values ts) =
    ap (λ (d : Ending (List Row)). after d (one_row ts)) fold.answers ∙ row_ends fin fold.list
    ts in
    subst (λ (d : Ending (List Value)). Judged w o env here seen n q
    (added (with_columns (folded_nodes a n) ss (places (p + k) k)) w o q)
    (target_stores ts env n ((p + k) + k) (p + k)) (tag here) ((p + k) + k) f
    (with_end (scopes_of w seen) d f (storing ts))) (sym answered)
    (many_judged w o env here seen n q (added
    (with_columns (folded_nodes a n) ss (places (p + k) k)) w o q) ((p + k) + k) (p + k) f ts
    (after R (take_values ts)) r l s
    (columns_test (folded_nodes a n) ss (places (p + k) k) w o q (p + k) k long (ifs_count is ts p)
    ∙ (ap (λ (cs : List Cell). guard (values_of cs))
    (columns_before (folded_nodes a n) ss w o q (p + k) k long (ifs_count is ts p)) ∙ ap guard
    ends))
    (λ xs e. columns_cells (folded_nodes a n) ss (places (p + k) k) w o q (p + k) k long
    (ifs_count is ts p)
    ∙ are_shown (after R (take_values ts)) (cells_of ss
    (sight w o (added (folded_nodes a n) w o q))) ends xs e))

-- ---- either way

into_passes : (w : Inputs) (o : List (List Cell)) (seen : Seen) → Good w o seen →
    (oa : Option Folded) (inner : PlanTree) (ts : List Target) → CountIs oa (length ts) →
    (env : Env) (here next n : ℕ) → Ready env here next n →
    (k : ℕ) → k < next → nat_eq k here ≡ false → (q : List Cell) → length q ≡ n → cell_at q 0
    ≡ at k → run w o (into_by oa inner ts (codes_of w seen) env here next n) q ≡ q
into_passes w o seen good None inner ts sc env here next n r k u x q l c =
    let j = length ts in
    one_passes w o seen good env here next n r
    (apply_by (constant (Truth true)) (into j) anew inner
    (with_columns no_node (assigns ts n) (places (n + j) j))) ((n + j) + j) (tag here)
    (target_stores ts env n ((n + j) + j) (n + j)) k u x q l (asked_wide w o inner ts n q l) c
into_passes w o seen good (Some a) inner ts sc env here next n r k u x q l c =
    let j = length ts in let p = width (a.list n).nodes (n + length a.aggregates) in
    ap (λ (pre : Nodes). run w o (one_step (codes_of w seen) env here next n pre ((p + j) + j)
    (tag here) (target_stores ts env n ((p + j) + j) (p + j))) q) (folded_pre a ts n)
    ∙ one_passes w o seen good env here next n r
    (with_columns (folded_nodes a n) (assigns_if (n ∷ places p j) ts p) (places (p + j) j))
    ((p + j) + j) (tag here)
    (target_stores ts env n ((p + j) + j) (p + j)) k u x q l
    (columns_wide (folded_nodes a n) (assigns_if (n ∷ places p j) ts p) (places (p + j) j) w o q
    (p + j) j (folded_wide w o a ts n (sc n) q l) (ifs_count (n ∷ places p j) ts p)) c

into_lands : (w : Inputs) (o : List (List Cell)) → (seen : Seen) → Good w o seen →
    (query : QueryLeaf) (ts : List Target) → QueryMeans w query (length ts) → HasTarget ts →
    (env : Env) (here next n : ℕ) → Ready env here next n →
    (f : Frame) (q : List Cell) → length q ≡ n → cells_at q env.columns ≡ shown f → cell_at q 0
    ≡ at here → (oa : Option Folded) → CountIs oa (length ts) → Folds oa (query.answer w (sees f)) w
    o q n →
    Lands env here n q (with_end (scopes_of w seen) (after (query.answer w (sees f)) (one_row ts)) f
    (storing ts)) (run w o (into_by oa (query.plan (columns_in w) (reading env)) ts
    (codes_of w seen) env here next n) q)
into_lands w o seen good query ts qm has env here next n r f q l s c None sc fold =
    let j = length ts in let inner = query.plan (columns_in w) (reading env) in
    one_lands w o seen good env here next n r
    (apply_by (constant (Truth true)) (into j) anew inner
    (with_columns no_node (assigns ts n) (places (n + j) j))) ((n + j) + j) (tag here)
    (target_stores ts env n ((n + j) + j) (n + j)) f
    (with_end (scopes_of w seen) (after (query.answer w (sees f)) (one_row ts)) f (storing ts)) q l
    s (asked_wide w o inner ts n q l) c
    (asked_judged w o seen env here n r.rising query ts qm has f q l s)
into_lands w o seen good query ts qm has env here next n r f q l s c (Some a) sc fold =
    let j = length ts in let p = width (a.list n).nodes (n + length a.aggregates) in
    let e = with_end (scopes_of w seen) (after (query.answer w (sees f)) (one_row ts)) f
    (storing ts) in
    subst (λ (pre : Nodes). Lands env here n q e
    (run w o (one_step (codes_of w seen) env here next n pre ((p + j) + j) (tag here)
    (target_stores ts env n ((p + j) + j) (p + j))) q)) (sym (folded_pre a ts n))
    (one_lands w o seen good env here next n r
    (with_columns (folded_nodes a n) (assigns_if (n ∷ places p j) ts p) (places (p + j) j))
    ((p + j) + j) (tag here)
    (target_stores ts env n ((p + j) + j) (p + j)) f e q l s
    (columns_wide (folded_nodes a n) (assigns_if (n ∷ places p j) ts p) (places (p + j) j) w o q
    (p + j) j (folded_wide w o a ts n (sc n) q l) (ifs_count (n ∷ places p j) ts p)) c
    (folded_judged w o seen env here n r.rising a query ts (sc n) has f q l s fold))

pub into_sim : (w : Inputs) (o : List (List Cell)) → (seen : Seen) → Good w o seen →
    (level : ℕ) (query : QueryLeaf) (ts : List Target) → QueryMeans w query (length ts) → HasTarget
    ts →
    Sim w o level (emit_into query ts (columns_in w) (codes_of w seen))
    (λ st. with_value (scopes_of w seen) (λ f. after (query.answer w (sees f)) (one_row ts))
    (storing ts))
into_sim w o seen good level query ts qm has =
    record {
      passes = λ env here next n r k u x q l c.
          into_passes w o seen good (query.folded (columns_in w) (reading env))
          (query.plan (columns_in w) (reading env)) ts (qm.counted (reading env)) env here next n r
          k u x q l c;
      lands = λ env here next n r v st f q s c.
          into_lands w o seen good query ts qm has env here next n r f q s.long s.shows c
          (query.folded (columns_in w) (reading env)) (qm.counted (reading env))
          (qm.folds o (sees f) (reading env) q n s.long
          (reads_frame env n w o f q r.rising s.long s.shows));
    }
