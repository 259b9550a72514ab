-- CASE with an operand.
use Rattle.std.proofs.Common.{◌≡◌, ℕ, suc, ◌+◌, ◌<◌, ◌≤◌, List, [], ◌∷◌, ◌++◌, length, Option, Ok}
use Rattle.std.proofs.Common.{Err, refl, ap, ◌∙◌, arith, inl, inr, length-append}
use Rattle.sql_values.specs.declared.value.Value.{Value}
use Rattle.sql_values.specs.declared.value.Value.TheVariants.{Null}
use Rattle.sql_conditions.specs.Conditions.{Area}
use Rattle.row_types.specs.declared.cell.Cell.{Cell}
use Rattle.row_types.specs.declared.cell.Cell.TheVariants.{Val, Cond}
use Rattle.rel_algebra.specs.Endings.{Ending, cell_end}
use Rattle.rel_algebra.specs.Emissions.{width}
use Rattle.rel_algebra.specs.Joins.{places}
use Rattle.rel_algebra.specs.Scopes.{Inputs, columns_in}
use Rattle.rel_algebra.specs.Plan.{no_node, sight, added, cell_at, cells_at, cell_of, cells_of}
use Rattle.rel_algebra.proofs.Growing.{Grows, grows_by, grows_same, first_columns, grown_column}
use Rattle.rel_algebra.proofs.Nodes.{added_grows}
use Rattle.rel_algebra.specs.Leaves.{ValueLeaf}
use Rattle.rel_algebra.proofs.BodyHeld.{ValueRight}
use Rattle.rel_algebra.specs.BodyDoing.{Frame, End, Doing}
use Rattle.rel_algebra.specs.BodyHandlers.{raising, with_end, with_value}
use Rattle.rel_algebra.specs.BodyMeaning.{value_in}
use Rattle.rel_algebra.specs.BodySteps.{fat, run, guarded, tag}
use Rattle.rel_algebra.specs.BodyDispatch.{Env, count, judging, area_in, handled}
use Rattle.rel_algebra.specs.BodyChain.{Rest, emitted, with_column, compared_with}
use Rattle.rel_algebra.proofs.BodyBase.{lower_differs, Rising, rising_below, rising_more}
use Rattle.rel_algebra.proofs.BodyBase.{apart_above, front_at, grown_cells}
use Rattle.rel_algebra.proofs.BodyRows.{run_append, puts, acts_off_wide, acts_on_wide}
use Rattle.rel_algebra.proofs.BodyLands.{Ready, Starts, Sim, lands_same, Seen, scopes_of, codes_of}
use Rattle.rel_algebra.proofs.BodyLands.{Good}
use Rattle.rel_algebra.proofs.BodyHandled.{Sent, Rests, handled_passes, handled_lands}
use Rattle.rel_algebra.proofs.BodyJudged.{expr_yields, column_wide, column_cell, marked, marks}
use Rattle.rel_algebra.proofs.BodyJudged.{judged_area, judged_value, marked_sent}
use Rattle.rel_algebra.proofs.BodyTests.{rests_same, rests_pass, ReadyRest, Half, front_row}
use Rattle.rel_algebra.proofs.BodyTests.{rests_front, marked_starts, wider_starts, operand_known}

-- the sent row with one column more
sent_wider : (w : Inputs) (env : Env) (here : ℕ) (seen : Seen) (base n : ℕ) (q : List Cell)
    (e : End) (z : List Cell) (c : Cell) → Rising 3 env.columns n → 3 ≤ n → Sent w env here seen
    base n q e z →
    Sent w env here seen base (suc n) (z ++ c ∷ []) e (z ++ c ∷ [])
sent_wider w env here seen base n q e z c r h s = let l = s.long in record {
  area = s.area;
  frame = s.frame;
  to = s.to;
  sends = s.sends;
  long = length-append z (c ∷ []) ∙ (let g : length z + 1 ≡ suc n = omega (arith, l) in g);
  code = front_at z (c ∷ []) 0 (omega (arith, l)) ∙ s.code;
  shows = grown_cells 3 env.columns n z (c ∷ []) r (omega (arith, l)) ∙ s.shows;
  holds = front_at z (c ∷ []) 2 (omega (arith, l)) ∙ s.holds;
  keeps = λ i lo hi p. refl;
}

pub compared_sim : (w : Inputs) (o : List (List Cell)) → (seen : Seen) → Good w o seen →
    (level : ℕ) (e : ValueLeaf) → ValueRight w e → (rest : ℕ → Rest)
    (d : Value → Option Area → Doing) →
    ((m : ℕ) (x : Value) → Half w o seen level (operand_known m x) (rest m) (d x)) →
    Sim w o level (compared_with e (columns_in w) (codes_of w seen) rest)
    (λ st. with_value (scopes_of w seen) (value_in w e) (λ x. d x st))
compared_sim w o seen good level e p rest d halves = record {
  passes = λ env here next n r k u x q l c.
      let h3 = rising_below 3 env.columns n r.rising in let b = r.before in
      let a = emitted e (columns_in w) env n in let i = width a.nodes n in let start = next + count
      (codes_of w seen) in let free = suc start in
      let stores = judging (tag start) (codes_of w seen) env next here i [] in
      let t = acts_off_wide here (with_column a.nodes a.scalar) (suc i) stores n (i ∷ []) w o q k l
      (omega arith) (column_wide a.nodes a.scalar w o q n l) c x in
      let long : length (q ++ t.0) ≡ suc n = length-append q t.0
      ∙ (let y = t.1 in let z : length q + length t.0 ≡ suc n = omega (arith, l, y) in z) in
      ap (run w o (rest n env start here next free (suc n) ++ fat no_node (places 0 n) ∷ handled
      (codes_of w seen) env here next free n)) t.2
      ∙ (run_append w o (rest n env start here next free (suc n))
      (fat no_node (places 0 n) ∷ handled (codes_of w seen) env here next free n) (q ++ t.0)
      ∙ (ap (run w o (fat no_node (places 0 n) ∷ handled (codes_of w seen) env here next free n))
      ((halves n Null).passes env start here next free (suc n) (ready env here next n r) k
      (omega arith) (lower_differs k start (omega arith)) (q ++ t.0) long
      (front_at q t.0 0 (omega (arith, l)) ∙ c))
      ∙ (ap (run w o (handled (codes_of w seen) env here next free n))
      (first_columns q (q ++ t.0) n l (grows_by q t.0))
      ∙ handled_passes w o seen good env here next free n r.under b (omega arith) r.rising k
      (omega arith) (inl u) q l h3 c)));
  lands = λ env here next n r v st f q s c.
      let h3 = rising_below 3 env.columns n r.rising in let b = r.before in
      let a = emitted e (columns_in w) env n in let i = width a.nodes n in let start = next + count
      (codes_of w seen) in let free = suc start in
      let pre = with_column a.nodes a.scalar in let z = added pre w o q in
      let stores = judging (tag start) (codes_of w seen) env next here i [] in
      let gs = cells_of (guarded here stores) (sight w o z) in
      let tail = rest n env start here next free (suc n) ++ fat no_node (places 0 n) ∷ handled
      (codes_of w seen) env here next free n in
      let E = value_in w e f in
      let cell : cell_at z i ≡ cell_end E = column_cell a.nodes a.scalar w o q n s.long
      ∙ expr_yields w o e p env n f q r.rising s.long s.shows (added a.nodes w o q)
      (grows_same (added a.nodes w o q)) in
      let last : cell_at (z ++ gs) i ≡ cell_end E = front_at z gs i
      (let m = column_wide a.nodes a.scalar w o q n s.long in omega (arith, m)) ∙ cell in
      lands_same env here n q _ _ _
      (ap (run w o tail) (acts_on_wide here pre (suc i) stores n (i ∷ []) w o q s.long (omega arith)
      (column_wide a.nodes a.scalar w o q n s.long) c
      ∙ ap (λ (x : Cell). puts stores (sight w o z) q ++ x ∷ []) last)
      ∙ run_append w o (rest n env start here next free (suc n))
      (fat no_node (places 0 n) ∷ handled (codes_of w seen) env here next free n)
      (puts stores (sight w o z) q ++ cell_end E ∷ []))
      (handled_lands w o seen good env here next free n r.under b (omega arith) r.rising h3 q _ _
      (judged env here next n r v st f q s z (added_grows pre w o q) E cell));
}
  where
    ready : (env : Env) (here next n : ℕ) → Ready env here next n → ReadyRest w seen env
        (next + count (codes_of w seen)) here next (suc (next + count (codes_of w seen))) (suc n)
    ready env here next n r = let b = r.before in record {
      under = r.under;
      before = b;
      counted = omega arith;
      above = omega arith;
      below = omega arith;
      beside = inr (omega arith);
      rising = rising_more 3 env.columns n (suc n) r.rising (omega arith);
    }

    judged : (env : Env) (here next n : ℕ) → Ready env here next n → env.level ≡ level →
        (st : Option Area) (f : Frame) (q : List Cell) → Starts env n st f q → (z : List Cell) →
        Grows q z → (D : Ending Value) →
        let i = width (emitted e (columns_in w) env n).nodes n in let start = next + count
        (codes_of w seen) in cell_at z i ≡ cell_end D →
        Rests w env here seen next n q (with_end (scopes_of w seen) D f (λ x. d x st))
        (cells_at (run w o (rest n env start here next (suc start) (suc n))
        (puts (judging (tag start) (codes_of w seen) env next here i []) (sight w o z) q ++ cell_end
        D ∷ [])) (places 0 n))
    judged env here next n r v st f q s z g (Err a) h =
        let i = width (emitted e (columns_in w) env n).nodes n in let start = next + count
        (codes_of w seen) in
        let h3 = rising_below 3 env.columns n r.rising in let b = r.before in
        let t = judged_area w o seen (tag start) env next here i [] q g.0 z a f g.1 h tt in
        let x = marked q t.0 (Cond a) ++ Cond a ∷ [] in let m = marks q n t.0 (Cond a) s.long h3 in
        let sent = marked_sent w env here seen next n q a f (raising (scopes_of w seen) a f) t.0
        s.long r.rising s.shows t.2 in
        let steps = rest n env start here next (suc start) (suc n) in
        let passed : Rests w env here seen next (suc n) x (raising (scopes_of w seen) a f)
        (run w o steps x) =
        rests_pass w o env here r.under seen next (suc n) x (raising (scopes_of w seen) a f) x steps
        (λ k bk y l c.
        let low : k < start = elim bk as (λ x. k < start)
        [ inl j ↦ omega arith | inr j ↦ let j1 = j.1 in omega arith ] in
        (halves n Null).passes env start here next (suc start) (suc n) (ready env here next n r) k
        (omega arith) (lower_differs k start low) y l c)
        (inr (sent_wider w env here seen next n q _ (marked q t.0 (Cond a)) (Cond a) r.rising h3
        sent)) in
        rests_same w env here seen next n q _ _ _
        (ap (λ (y : List Cell). cells_at (run w o steps (y ++ Cond a ∷ [])) (places 0 n)) t.1)
        (rests_front w env here seen next n (suc n) q x _ (run w o steps x)
        (cells_at (run w o steps x) (places 0 n)) (omega arith) r.rising
        (front_row (run w o steps x) n)
        (λ j lo hi pp. front_at (marked q t.0 (Cond a)) (Cond a ∷ []) j
        (let l = m.long in omega (arith, l)) ∙ m.others j lo) passed)
    judged env here next n r v st f q s z g (Ok x0) h =
        let i = width (emitted e (columns_in w) env n).nodes n in let start = next + count
        (codes_of w seen) in
        let h3 = rising_below 3 env.columns n r.rising in let b = r.before in
        let ca = cell_of (area_in i) (sight w o z) in
        let is = judged_value w o seen (tag start) env next here i [] q z x0 start h refl in
        let y = marked q start ca in let x = y ++ Val x0 ∷ [] in let m = marks q n start ca s.long
        h3 in
        let steps = rest n env start here next (suc start) (suc n) in
        let starts = wider_starts env n st f y (Val x0) r.rising
        (marked_starts env n st f q start ca r.rising s) in
        let knows : operand_known n x0 env.columns (suc n) x = (
          h3,
          omega arith,
          apart_above 3 env.columns n n r.rising (omega arith),
          grown_column y x
              (Val x0) n m.long (grows_same x),
        ) in
        let rests = (halves n x0).lands env start here next (suc start) (suc n)
        (ready env here next n r) v st f x starts knows
        (front_at y (Val x0 ∷ []) 0 (let l = m.long in omega (arith, l)) ∙ m.code) in
        rests_same w env here seen next n q _ _ _
        (ap (λ (t : List Cell). cells_at (run w o steps (t ++ Val x0 ∷ [])) (places 0 n)) is)
        (rests_front w env here seen next n (suc n) q x _ (run w o steps x)
        (cells_at (run w o steps x) (places 0 n)) (omega arith) r.rising
        (front_row (run w o steps x) n)
        (λ j lo hi pp. front_at y (Val x0 ∷ []) j (let l = m.long in omega (arith, l)) ∙ m.others j
        lo) rests)
