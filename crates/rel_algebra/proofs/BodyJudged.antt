-- Steps that judge a column: a value goes on, and an area is sent.
use Rattle.std.proofs.Common.{◌≡◌, ℕ, zero, suc, ◌+◌, ◌<◌, ◌≤◌, true, false, nat_eq, List, [], ◌∷◌}
use Rattle.std.proofs.Common.{◌++◌, length, Option, slice_set, refl, sym, ap, ◌∙◌, subst, arith}
use Rattle.std.proofs.Common.{inl, inr, ◌⊎◌, length-append, ◌-◌}
use Rattle.std.proofs.lemmas.List.{length-set}
use Rattle.sql_values.specs.declared.value.Value.{Value}
use Rattle.sql_values.specs.declared.value.Value.TheVariants.{Bool as Truth}
use Rattle.sql_conditions.specs.Conditions.{Area}
use Rattle.row_types.specs.declared.cell.Cell.{Cell}
use Rattle.row_types.specs.declared.cell.Cell.TheVariants.{Val, Cond}
use Rattle.rel_algebra.specs.Tree.{NullTest}
use Rattle.rel_algebra.specs.Endings.{op_value, cell_end}
use Rattle.rel_algebra.specs.Environments.{read}
use Rattle.rel_algebra.specs.Emissions.{width}
use Rattle.rel_algebra.specs.OnConditions.{number_cell}
use Rattle.rel_algebra.specs.Scopes.{Inputs, columns_in}
use Rattle.rel_algebra.specs.Plan.{Nodes, no_node, extend_by, Scalar, Scalars, Sight, sight, added}
use Rattle.rel_algebra.specs.Plan.{cell_at, cells_at, cell_of, cells_of, case_cell, shown, strictly}
use Rattle.rel_algebra.specs.Agreement.{outside}
use Rattle.rel_algebra.proofs.Growing.{Grows, grows_same, grown_column, shown_at}
use Rattle.rel_algebra.proofs.Nodes.{Reads, Yields, added_join, added_long, added_grows}
use Rattle.rel_algebra.specs.BodyDoing.{Frame, Outcome, Next, Leaving, Returning, Exiting, Raising}
use Rattle.rel_algebra.specs.BodyDoing.{End, Doing, ends}
use Rattle.rel_algebra.specs.BodyHandlers.{raising}
use Rattle.rel_algebra.specs.BodyMeaning.{seen as sees, value_in}
use Rattle.rel_algebra.specs.BodySteps.{stepped, run, Store, store, col, only, jump}
use Rattle.rel_algebra.specs.BodyDispatch.{Env, count, is_value, area_in, code_or, judging}
use Rattle.rel_algebra.specs.BodyDispatch.{raising_to, store_if, dispatch, handled}
use Rattle.rel_algebra.specs.BodyChain.{place_at, reading, emitted, with_column, one_step}
use Rattle.rel_algebra.specs.BodyChain.{one_raise, raising_step}
use Rattle.rel_algebra.proofs.BodyBase.{at, both, lower_differs, higher_differs, set_same}
use Rattle.rel_algebra.proofs.BodyBase.{set_other, set_grown, Rising, rising_below, cells_set_low}
use Rattle.rel_algebra.proofs.BodyBase.{Keeps, grown_cells}
use Rattle.rel_algebra.proofs.BodyRows.{puts, puts_append, acts_off, acts_on, jump_off, jump_on}
use Rattle.rel_algebra.proofs.BodyLands.{place_of, Carries, Lands, Ready, Starts, Sim, lands_same}
use Rattle.rel_algebra.proofs.BodyLands.{Seen, scopes_of, codes_of, Good}
use Rattle.rel_algebra.proofs.BodyArms.{Ended, case_more, Sends, dispatch_sends, dispatch_ended}
use Rattle.rel_algebra.proofs.BodyHandled.{Sent, Rests, handled_passes, handled_lands}
use Rattle.rel_algebra.proofs.BodyHeld.{ValueRight}
use Rattle.rel_algebra.specs.Leaves.{ValueLeaf}

-- ---- reading

place_cells : (cs : List ℕ) (w : Inputs) (o : List (List Cell)) (z : List Cell) (i : ℕ) →
    cell_of (read (place_at cs i)) (outside w (z ∷ o)) ≡ cell_at (cells_at z cs) i
place_cells [] w o z i = refl
place_cells (c ∷ cs) w o z zero = refl
place_cells (c ∷ cs) w o z (suc i) = place_cells cs w o z i

pub reads_frame : (env : Env) (n : ℕ) (w : Inputs) (o : List (List Cell)) (f : Frame)
    (q : List Cell) → Rising 3 env.columns n → length q ≡ n → cells_at q env.columns ≡ shown f →
    Reads (reading env) w o (sees f) q
reads_frame env n w o f q r l s = λ z g. (
  λ d i. refl,
  λ i. place_cells env.columns w o z i
      ∙ (ap (λ (row : List Cell). cell_at (cells_at row env.columns) i) (sym g.1)
      ∙ (ap (λ (cs : List Cell). cell_at cs i)
      (grown_cells 3 env.columns n q g.0 r (omega (arith, l)) ∙ s) ∙ shown_at f i)),
)

pub expr_yields : (w : Inputs) (o : List (List Cell)) (e : ValueLeaf) → ValueRight w e →
    (env : Env) (n : ℕ) (f : Frame) (q : List Cell) → Rising 3 env.columns n → length q ≡ n →
    cells_at q env.columns ≡ shown f → Yields (emitted e (columns_in w) env n) w o q
    (cell_end (value_in w e f))
expr_yields w o e p env n f q r l s = p o (sees f) (reading env) n q l
    (reads_frame env n w o f q r l s)

pub column_added : (nodes : Nodes) (s : Scalar) (w : Inputs) (o : List (List Cell))
    (q : List Cell) →
    added (with_column nodes s) w o q ≡ added nodes w o q ++ cell_of s
    (sight w o (added nodes w o q)) ∷ []
column_added nodes s w o q = added_join nodes (extend_by (only s) no_node) w o q

-- the row with one column more
pub column_wide : (nodes : Nodes) (s : Scalar) (w : Inputs) (o : List (List Cell)) (q : List Cell)
    (n : ℕ) → length q ≡ n → length (added (with_column nodes s) w o q) ≡ suc (width nodes n)
column_wide nodes s w o q n l =
    ap (λ (r : List Cell). length r) (column_added nodes s w o q)
    ∙ (length-append (added nodes w o q) (cell_of s (sight w o (added nodes w o q)) ∷ [])
    ∙ (let e = added_long nodes w o q n l in let d : length (added nodes w o q) + 1
    ≡ suc (width nodes n) = omega (arith, e) in d))

pub column_cell : (nodes : Nodes) (s : Scalar) (w : Inputs) (o : List (List Cell)) (q : List Cell)
    (n : ℕ) → length q ≡ n →
    cell_at (added (with_column nodes s) w o q) (width nodes n) ≡ cell_of s
    (sight w o (added nodes w o q))
column_cell nodes s w o q n l =
    grown_column (added nodes w o q) (added (with_column nodes s) w o q)
    (cell_of s (sight w o (added nodes w o q))) (width nodes n) (added_long nodes w o q n l)
    (subst (λ (r : List Cell). Grows (added nodes w o q ++ cell_of s (sight w o (added nodes w o q))
    ∷ []) r) (sym (column_added nodes s w o q))
    (grows_same (added nodes w o q ++ cell_of s (sight w o (added nodes w o q)) ∷ [])))

-- ---- the tests

pub value_is_value : (t : ℕ) (s : Sight) (v : Value) → cell_of (col t) s ≡ Val v →
    cell_of (is_value t) s ≡ Val (Truth true)
value_is_value t s v h = ap (λ (c : Cell). strictly (op_value NullTest) (number_cell c ∷ [])) h

pub area_is_none : (t : ℕ) (s : Sight) (a : Area) → cell_of (col t) s ≡ Cond a →
    cell_of (is_value t) s ≡ Val (Truth false)
area_is_none t s a h = ap (λ (c : Cell). strictly (op_value NullTest) (number_cell c ∷ [])) h

area_stays : (t : ℕ) (s : Sight) (a : Area) → cell_of (col t) s ≡ Cond a → cell_of (area_in t) s
    ≡ Cond a
area_stays t s a h = ap (λ (c : Cell). strictly (op_value NullTest) (c ∷ [])) h

pub store_new : (t p i : ℕ) (s : Sight) (v : Value) → cell_of (col t) s ≡ Val v →
    cell_of (store_if t p i).new s ≡ cell_of (col p) s
store_new t p i s v h = ap (λ (c : Cell). case_cell
    (c ∷ cell_of (col p) s ∷ cell_of (col i) s ∷ [])) (value_is_value t s v h)

pub store_old : (t p i : ℕ) (s : Sight) (a : Area) → cell_of (col t) s ≡ Cond a →
    cell_of (store_if t p i).new s ≡ cell_of (col i) s
store_old t p i s a h = ap (λ (c : Cell). case_cell
    (c ∷ cell_of (col p) s ∷ cell_of (col i) s ∷ [])) (area_is_none t s a h)

-- ---- rows with a code and an area

-- a row with another code and another area
abbrev pub marked : List Cell → ℕ → Cell → List Cell
marked y k c = slice_set (slice_set y 0 (at k)) 2 c

-- what such a row keeps
pub record Marked (y : List Cell) (n k : ℕ) (c : Cell) : Type 0 where
  pub long : length (marked y k c) ≡ n
  pub code : cell_at (marked y k c) 0 ≡ at k
  pub area : cell_at (marked y k c) 2 ≡ c
  pub result : cell_at (marked y k c) 1 ≡ cell_at y 1
  pub others : (i : ℕ) → 3 ≤ i → cell_at (marked y k c) i ≡ cell_at y i
  pub shows : (cs : List ℕ) → Rising 3 cs n → cells_at (marked y k c) cs ≡ cells_at y cs

pub marks : (y : List Cell) (n k : ℕ) (c : Cell) → length y ≡ n → 3 ≤ n → Marked y n k c
marks y n k c l h =
    let y0 = slice_set y 0 (at k) in
    let l0 : length y0 ≡ n = length-set y 0 (at k) ∙ l in
    record {
      long = length-set y0 2 c ∙ l0;
      code = set_other y0 2 0 c (higher_differs 2 0 (omega arith)) ∙ set_same y 0 (at k)
          (omega (arith, l));
      area = set_same y0 2 c (omega (arith, l0));
      result = set_other y0 2 1 c (higher_differs 2 1 (omega arith)) ∙ set_other y 0 1 (at k)
          (lower_differs 0 1 (omega arith));
      others = λ i lo. set_other y0 2 i c (lower_differs 2 i (omega arith)) ∙ set_other y 0 i (at k)
          (lower_differs 0 i (omega arith));
      shows = λ cs r. cells_set_low 3 cs n 2 y0 c r (omega arith) ∙ cells_set_low 3 cs n 0 y (at k)
          r (omega arith);
    }

-- the other stores leave each column as it was
abbrev pub AllOld : List Store → Sight → Type 0
AllOld [] s = Unit {0}
AllOld (x ∷ xs) s = (cell_of x.new s ≡ cell_of (col x.column) s) × AllOld xs s

pub puts_old : (xs : List Store) (w : Inputs) (o : List (List Cell)) (q x z : List Cell) → q ++ x
    ≡ z → AllOld xs (sight w o z) → puts xs (sight w o z) q ≡ q
puts_old [] w o q x z g a = refl
puts_old (s ∷ xs) w o q x z g a =
    ap (puts xs (sight w o z)) (ap (slice_set q s.column)
    (a.0 ∙ ap (λ (r : List Cell). cell_at r s.column) (sym g)) ∙ set_grown q x s.column)
    ∙ puts_old xs w o q x z g a.1

-- an area is sent
pub judged_area : (w : Inputs) (o : List (List Cell)) (seen : Seen) (goes : Scalar) (env : Env)
    (base here t : ℕ) (stores : List Store) (q x z : List Cell) (a : Area) (f : Frame) → q ++ x
    ≡ z →
    cell_at z t ≡ Cond a → AllOld stores (sight w o z) →
    (k : ℕ) × (puts (judging goes (codes_of w seen) env base here t stores) (sight w o z) q ≡ marked
    q k (Cond a)) × Sends w env here seen base a f (raising (scopes_of w seen) a f) k
judged_area w o seen goes env base here t stores q x z a f g h old =
    let s = sight w o z in let d = dispatch_sends w seen env base here t s a f h in (
      d.0,
      puts_append stores (store 0 (code_or goes (codes_of w seen) env base here t) ∷ store 2
          (area_in t) ∷ []) s q
          ∙ (ap (λ (y : List Cell). slice_set
          (slice_set y 0 (cell_of (code_or goes (codes_of w seen) env base here t) s)) 2
          (cell_of (area_in t) s)) (puts_old stores w o q x z g old)
          ∙ both (λ (b c : Cell). slice_set (slice_set q 0 b) 2 c) _ _ _ _
          (ap (λ (c : Cell). case_cell (c ∷ cell_of goes s ∷ cells_of
          (dispatch (codes_of w seen) env base here t) s)) (area_is_none t s a h)
          ∙ (case_more false (cell_of goes s) (dispatch (codes_of w seen) env base here t) s
          (dispatch_ended w seen env base here t) ∙ d.1))
          (area_stays t s a h)),
      d.2,
    )

case_first : (c : Cell) (rest : Scalars) (s : Sight) → Ended rest →
    case_cell (Val (Truth true) ∷ c ∷ cells_of rest s) ≡ c
case_first c rest s e = case_more true c rest s e

pub judged_value : (w : Inputs) (o : List (List Cell)) (seen : Seen) (goes : Scalar) (env : Env)
    (base here t : ℕ) (stores : List Store) (q z : List Cell) (v : Value) (k : ℕ) →
    cell_at z t ≡ Val v → cell_of goes (sight w o z) ≡ at k →
    puts (judging goes (codes_of w seen) env base here t stores) (sight w o z) q ≡ marked
    (puts stores (sight w o z) q) k (cell_of (area_in t) (sight w o z))
judged_value w o seen goes env base here t stores q z v k h g =
    let s = sight w o z in
    puts_append stores (store 0 (code_or goes (codes_of w seen) env base here t) ∷ store 2
    (area_in t) ∷ []) s q
    ∙ ap (λ (c : Cell). slice_set (slice_set (puts stores s q) 0 c) 2 (cell_of (area_in t) s))
    (ap (λ (c : Cell). case_cell (c ∷ cell_of goes s ∷ cells_of
    (dispatch (codes_of w seen) env base here t) s)) (value_is_value t s v h)
    ∙ (case_first (cell_of goes s) (dispatch (codes_of w seen) env base here t) s
    (dispatch_ended w seen env base here t) ∙ g))

-- what raises in any case
pub raised_area : (w : Inputs) (o : List (List Cell)) (seen : Seen) (env : Env) (base here t : ℕ)
    (q z : List Cell) (a : Area) (f : Frame) → cell_at z t ≡ Cond a →
    (k : ℕ) × (puts (raising_to (codes_of w seen) env base here t) (sight w o z) q ≡ marked q k
    (Cond a)) × Sends w env here seen base a f (raising (scopes_of w seen) a f) k
raised_area w o seen env base here t q z a f h =
    let s = sight w o z in let d = dispatch_sends w seen env base here t s a f h in (
      d.0,
      both (λ (b c : Cell). slice_set (slice_set q 0 b) 2 c) _ _ _ _ d.1 (area_stays t s a h),
      d.2,
    )

pub marked_sent : (w : Inputs) (env : Env) (here : ℕ) (seen : Seen) (base n : ℕ) (q : List Cell)
    (a : Area) (f : Frame) (e : End) (k : ℕ) → length q ≡ n → Rising 3 env.columns n →
    cells_at q env.columns ≡ shown f → Sends w env here seen base a f e k → Sent w env here seen
    base n q e (marked q k (Cond a))
marked_sent w env here seen base n q a f e k l r s sends =
    let m = marks q n k (Cond a) l (rising_below 3 env.columns n r) in
    record {
      area = a;
      frame = f;
      to = k;
      sends = sends;
      long = m.long;
      code = m.code;
      shows = m.shows env.columns r ∙ s;
      holds = m.area;
      keeps = λ i lo hi p. m.others i lo;
    }

-- ---- the end of what went well

-- what a statement that raised nothing leaves
abbrev pub Done : Outcome → List Cell → Type 0
Done Next y = Unit {0}
Done (Leaving l) y = Unit {0}
Done (Returning v) y = cell_at y 1 ≡ Val v
Done (Exiting l a) y = ⊥
Done (Raising a) y = ⊥

done_carries : (o : Outcome) (y z : List Cell) → cell_at z 1 ≡ cell_at y 1 → Done o y → Carries o z
done_carries Next y z h d = tt
done_carries (Leaving l) y z h d = tt
done_carries (Returning v) y z h d = h ∙ d
done_carries (Exiting l a) y z h d = absurd d
done_carries (Raising a) y z h d = absurd d

-- the row after its stores
pub record Stored (env : Env) (n : ℕ) (q : List Cell) (e : End) (y : List Cell) : Type 0 where
  pub long : length y ≡ n
  pub shows : cells_at y env.columns ≡ shown e.frame
  pub done : Done e.outcome y
  pub keeps : Keeps env.columns n q y

pub stored_lands : (env : Env) (here n : ℕ) (q : List Cell) (e : End) (y : List Cell) (c : Cell) →
    Rising 3 env.columns n → Stored env n q e y →
    Lands env here n q e (marked y (place_of env here e.outcome) c)
stored_lands env here n q e y c r s =
    let m = marks y n (place_of env here e.outcome) c s.long (rising_below 3 env.columns n r) in
    record {
      long = m.long;
      code = m.code;
      shows = m.shows env.columns r ∙ s.shows;
      carries = done_carries e.outcome y (marked y (place_of env here e.outcome) c) m.result s.done;
      keeps = λ i lo hi p. m.others i lo ∙ s.keeps i lo hi p;
    }

-- ---- statements of one step

-- a value that is stored, or an area
abbrev pub Judged : Inputs → List (List Cell) → Env → ℕ → Seen → ℕ → List Cell → List Cell →
    List Store → Scalar → ℕ → Frame → End → Type 0
Judged w o env here seen n q z stores goes p f e =
    ((a : Area) × (cell_at z p ≡ Cond a) × AllOld stores (sight w o z)
    × (e ≡ raising (scopes_of w seen) a f))
    ⊎ ((v : Value) × (cell_at z p ≡ Val v) × (cell_of goes (sight w o z)
    ≡ at (place_of env here e.outcome)) × Stored env n q e (puts stores (sight w o z) q))

-- the row after such a step
pub judged_rests : (w : Inputs) (o : List (List Cell)) (seen : Seen) (env : Env) (here base n : ℕ)
    (q z : List Cell) (stores : List Store) (goes : Scalar) (p : ℕ) (f : Frame) (e : End) →
    Grows q z →
    length q ≡ n → Rising 3 env.columns n → cells_at q env.columns ≡ shown f → Judged w o env here
    seen n q z stores goes p f e →
    Rests w env here seen base n q e (puts (judging goes (codes_of w seen) env base here p stores)
    (sight w o z) q)
judged_rests w o seen env here base n q z stores goes p f e g l r s j =
    elim j as (λ x. Rests w env here seen base n q e
    (puts (judging goes (codes_of w seen) env base here p stores) (sight w o z) q)) [
      | inl h ↦
          let a = h.0 in let t = judged_area w o seen goes env base here p stores q g.0 z a f g.1
          h.1
          h.2 in
          inr (subst (λ (x : End). Sent w env here seen base n q x
          (puts (judging goes (codes_of w seen) env base here p stores) (sight w o z) q)) (sym h.3)
          (subst (λ (y : List Cell). Sent w env here seen base n q (raising (scopes_of w seen) a f)
          y)
          (sym t.1)
          (marked_sent w env here seen base n q a f (raising (scopes_of w seen) a f) t.0 l r s
          t.2)))
      | inr h ↦
          inl (lands_same env here n q e _ _ (judged_value w o seen goes env base here p stores q z
          h.0
          (place_of env here e.outcome) h.1 h.2)
          (stored_lands env here n q e (puts stores (sight w o z) q)
          (cell_of (area_in p) (sight w o z))
          r h.3))
    ]

pub one_passes : (w : Inputs) (o : List (List Cell)) (seen : Seen) → Good w o seen →
    (env : Env) (here next n : ℕ) → Ready env here next n → (pre : Nodes) (p : ℕ) (goes : Scalar)
    (stores : List Store) →
    (k : ℕ) → k < next → nat_eq k here ≡ false → (q : List Cell) → length q ≡ n →
    length (added pre w o q) ≡ suc p → cell_at q 0 ≡ at k →
    run w o (one_step (codes_of w seen) env here next n pre p goes stores) q ≡ q
one_passes w o seen good env here next n r pre p goes stores k u x q l wide c =
    let h3 = rising_below 3 env.columns n r.rising in let b = r.before in
    ap (run w o (handled (codes_of w seen) env here next (next + count (codes_of w seen)) n))
    (acts_off here pre (suc p) (judging goes (codes_of w seen) env next here p stores) n w o q k l
    (omega arith) wide c x)
    ∙ handled_passes w o seen good env here next (next + count (codes_of w seen)) n r.under b
    (omega arith) r.rising k (omega arith) (inl u) q l h3 c

pub one_lands : (w : Inputs) (o : List (List Cell)) (seen : Seen) → Good w o seen →
    (env : Env) (here next n : ℕ) → Ready env here next n → (pre : Nodes) (p : ℕ) (goes : Scalar)
    (stores : List Store) →
    (f : Frame) (e : End) (q : List Cell) → length q ≡ n → cells_at q env.columns ≡ shown f →
    length (added pre w o q) ≡ suc p → cell_at q 0 ≡ at here →
    Judged w o env here seen n q (added pre w o q) stores goes p f e →
    Lands env here n q e (run w o (one_step (codes_of w seen) env here next n pre p goes stores) q)
one_lands w o seen good env here next n r pre p goes stores f e q l s wide c j =
    let h3 = rising_below 3 env.columns n r.rising in
    let z = added pre w o q in
    lands_same env here n q e _ _
    (ap (run w o (handled (codes_of w seen) env here next (next + count (codes_of w seen)) n))
    (acts_on here pre (suc p) (judging goes (codes_of w seen) env next here p stores) n w o q l
    (omega arith) wide c))
    (handled_lands w o seen good env here next (next + count (codes_of w seen)) n r.under r.before
    (omega arith) r.rising h3 q e _
    (judged_rests w o seen env here next n q z stores goes p f e (added_grows pre w o q) l r.rising
    s j))

pub one_sim : (w : Inputs) (o : List (List Cell)) (seen : Seen) → Good w o seen →
    (level : ℕ) (pre : Env → ℕ → Nodes) (p : Env → ℕ → ℕ) (goes : ℕ → Scalar)
    (stores : Env → ℕ → List Store) (d : Option Area → Doing) →
    ((env : Env) (n : ℕ) (q : List Cell) → length q ≡ n → length (added (pre env n) w o q)
    ≡ suc (p env n)) →
    ((env : Env) (here n : ℕ) → Rising 3 env.columns n → (st : Option Area) (f : Frame)
    (q : List Cell) → Starts env n st f q →
    Judged w o env here seen n q (added (pre env n) w o q) (stores env n) (goes here) (p env n) f
    (d st f)) →
    Sim w o level (λ env here next n. one_step (codes_of w seen) env here next n (pre env n)
    (p env n) (goes here) (stores env n)) d
one_sim w o seen good level pre p goes stores d wide judges = record {
  passes = λ env here next n r k u x q l c.
      one_passes w o seen good env here next n r (pre env n) (p env n) (goes here) (stores env n) k
      u x q l (wide env n q l) c;
  lands = λ env here next n r v st f q s c.
      one_lands w o seen good env here next n r (pre env n) (p env n) (goes here) (stores env n) f
      (d st f) q s.long s.shows (wide env n q s.long) c (judges env here n r.rising st f q s);
}

-- what raises in any case
pub raise_passes : (w : Inputs) (o : List (List Cell)) (seen : Seen) → Good w o seen →
    (env : Env) (here next n : ℕ) → Ready env here next n → (pre : Nodes) (p : ℕ) →
    (k : ℕ) → k < next → nat_eq k here ≡ false → (q : List Cell) → length q ≡ n →
    length (added pre w o q) ≡ suc p → cell_at q 0 ≡ at k →
    run w o (one_raise (codes_of w seen) env here next n pre p) q ≡ q
raise_passes w o seen good env here next n r pre p k u x q l wide c =
    let h3 = rising_below 3 env.columns n r.rising in let b = r.before in
    ap (run w o (handled (codes_of w seen) env here next (next + count (codes_of w seen)) n))
    (acts_off here pre (suc p) (raising_to (codes_of w seen) env next here p) n w o q k l
    (omega arith) wide c x)
    ∙ handled_passes w o seen good env here next (next + count (codes_of w seen)) n r.under b
    (omega arith) r.rising k (omega arith) (inl u) q l h3 c

-- the row after the step
pub raise_sent : (w : Inputs) (o : List (List Cell)) (seen : Seen) (env : Env)
    (from here base n : ℕ) → Rising 3 env.columns n → (pre : Nodes) (p : ℕ) (f : Frame) (e : End)
    (q : List Cell) → length q ≡ n →
    cells_at q env.columns ≡ shown f → length (added pre w o q) ≡ suc p → cell_at q 0 ≡ at from →
    (a : Area) → cell_at (added pre w o q) p ≡ Cond a → e ≡ raising (scopes_of w seen) a f →
    Sent w env here seen base n q e (stepped w o
    (raising_step (codes_of w seen) env from here base n pre p) q)
raise_sent w o seen env from here base n r pre p f e q l s wide c a h is =
    let h3 = rising_below 3 env.columns n r in let z = added pre w o q in
    let x = raised_area w o seen env base here p q z a f h in
    subst (λ (y : List Cell). Sent w env here seen base n q e y)
    (sym (acts_on from pre (suc p) (raising_to (codes_of w seen) env base here p) n w o q l
    (omega arith) wide c))
    (subst (λ (d : End). Sent w env here seen base n q d
    (puts (raising_to (codes_of w seen) env base here p) (sight w o z) q)) (sym is)
    (subst (λ (y : List Cell). Sent w env here seen base n q (raising (scopes_of w seen) a f) y)
    (sym x.1)
    (marked_sent w env here seen base n q a f (raising (scopes_of w seen) a f) x.0 l r s x.2)))

pub raise_lands : (w : Inputs) (o : List (List Cell)) (seen : Seen) → Good w o seen →
    (env : Env) (here next n : ℕ) → Ready env here next n → (pre : Nodes) (p : ℕ) (f : Frame)
    (e : End) (q : List Cell) → length q ≡ n →
    cells_at q env.columns ≡ shown f → length (added pre w o q) ≡ suc p → cell_at q 0 ≡ at here →
    (a : Area) → cell_at (added pre w o q) p ≡ Cond a → e ≡ raising (scopes_of w seen) a f →
    Lands env here n q e (run w o (one_raise (codes_of w seen) env here next n pre p) q)
raise_lands w o seen good env here next n r pre p f e q l s wide c a h is =
    handled_lands w o seen good env here next (next + count (codes_of w seen)) n r.under r.before
    (omega arith) r.rising (rising_below 3 env.columns n r.rising) q e _
    (inr (raise_sent w o seen env here here next n r.rising pre p f e q l s wide c a h is))

pub raise_sim : (w : Inputs) (o : List (List Cell)) (seen : Seen) → Good w o seen →
    (level : ℕ) (pre : Env → ℕ → Nodes) (p : Env → ℕ → ℕ) (d : Option Area → Doing) →
    ((env : Env) (n : ℕ) (q : List Cell) → length q ≡ n → length (added (pre env n) w o q)
    ≡ suc (p env n)) →
    ((env : Env) (n : ℕ) → Rising 3 env.columns n → (st : Option Area) (f : Frame) (q : List Cell) →
    Starts env n st f q →
    (a : Area) × (cell_at (added (pre env n) w o q) (p env n) ≡ Cond a)
    × (d st f ≡ raising (scopes_of w seen) a f)) →
    Sim w o level (λ env here next n. one_raise (codes_of w seen) env here next n (pre env n)
    (p env n)) d
raise_sim w o seen good level pre p d wide raises = record {
  passes = λ env here next n r k u x q l c. raise_passes w o seen good env here next n r (pre env n)
      (p env n) k u x q l (wide env n q l) c;
  lands = λ env here next n r v st f q s c.
      let t = raises env n r.rising st f q s in
      raise_lands w o seen good env here next n r (pre env n) (p env n) f (d st f) q s.long s.shows
      (wide env n q s.long) c t.0 t.1 t.2;
}

-- ---- LEAVE

pub leave_sim : (w : Inputs) (o : List (List Cell)) (level outwards : ℕ) →
    Sim w o level (λ env here next n. jump here (env.labels (env.level - suc outwards)) n ∷ [])
    (λ st. ends (Leaving (level - suc outwards)))
leave_sim w o level outwards = record {
  passes = λ env here next n r k u x q l c. let h3 = rising_below 3 env.columns n r.rising in
      jump_off here _ n w o q k l (omega arith) c x;
  lands = λ env here next n r v st f q s c.
      let h3 = rising_below 3 env.columns n r.rising in
      let to = env.labels (env.level - suc outwards) in
      let is : run w o (jump here to n ∷ []) q ≡ slice_set q 0 (at to) = jump_on here to n w o q
      s.long (omega arith) c in
      lands_same env here n q _ _ _ is (record {
        long = length-set q 0 (at to) ∙ s.long;
        code = set_same q 0 (at to) (let e = s.long in omega (arith, e))
            ∙ ap (λ (x : ℕ). at (env.labels (x - suc outwards))) v;
        shows = cells_set_low 3 env.columns n 0 q (at to) r.rising (omega arith) ∙ s.shows;
        carries = tt;
        keeps = λ i lo hi p. set_other q 0 i (at to) (lower_differs 0 i (omega arith));
      });
}
