-- The steps of a plan in which no Apply is left.
use Rattle.std.proofs.Common.{◌≡◌, ℕ, suc, ◌+◌, ◌*◌, ◌≤◌, max, List, [], ◌∷◌, ◌++◌, length, refl}
use Rattle.std.proofs.Common.{ap, ◌∙◌, arith}
use Rattle.std.proofs.Math.Nat.{add-mul, le-max_left, le-max_right, mul-add, mul_comm}
use Rattle.std.proofs.Math.Nat.{mul-le-mul_left, mul-le-mul_right}
use Rattle.row_types.specs.Cells.{PlanRow, Poisoned, Whole}
use Rattle.row_types.specs.Rows.{Row}
use Rattle.row_types.specs.Tables.{rows_named}
use Rattle.row_types.specs.declared.cell.Cell.{Cell}
use Rattle.rel_algebra.specs.Applies.{applies, applies_in, way_count}
use Rattle.rel_algebra.specs.Bound.{inner_peaks, lists_size, pairs_of, peak, run_peaks, size}
use Rattle.rel_algebra.specs.Bound.{size_in, way_size}
use Rattle.rel_algebra.specs.Plain.{Inputs}
use Rattle.rel_algebra.specs.Plan.{Kind, Nodes, PlanTree, Scalar, Scalars, Way, anew, apply}
use Rattle.rel_algebra.specs.Plan.{apply_by, apply_cells, argument, cells_of, column, constant}
use Rattle.rel_algebra.specs.Plan.{cross, den, extend, extend_by, filter, found, group, keep}
use Rattle.rel_algebra.specs.Plan.{left_outer, list_rows, lookup, no_node, once, scan, settle}
use Rattle.rel_algebra.specs.Plan.{settled, shown_rows, sight, Sight, sort, tree_width, unit_row}
use Rattle.rel_algebra.specs.Plan.{values, word}
use Rattle.rel_algebra.specs.Work.{inside, inside_row, keys_nodes, kind_nodes, lists_work, nodes_in}
use Rattle.rel_algebra.specs.Work.{nodes_in_all, nodes_once, nodes_work, over_pairs, over_rows}
use Rattle.rel_algebra.specs.Work.{way_nodes, when_nodes, work, work_below}

-- Sums of products with one factor.
three : (a b c k : ℕ) → (a + b + c) * k ≡ a * k + b * k + c * k
three a b c k = add-mul (a + b) c k ∙ ap (λ (x : ℕ). x + c * k) (add-mul a b k)

one_of : (k : ℕ) → 1 * k ≡ k
one_of k = omega arith

-- a node that takes at most k rows, and counts two, some nodes and as many searches for each
step : (below len n s k : ℕ) → below + k ≤ 3 * (n * k) → len ≤ k →
    below + len * (2 + s) + k ≤ 3 * ((1 + s + n) * k)
step below len n s k h l =
    let a = mul-le-mul_right (2 + s) l in let b = mul-add k 2 s in let c = mul_comm k s in
    let d = three 1 s n k in let e = one_of k in
    omega (arith, h, a, b, c, d, e)

-- the same with an inner plan that is run once, and its list
step_inner : (below len n s j k inner rows m : ℕ) → below + k ≤ 3 * (n * k) → len ≤ k →
    j ≤ 1 + s + s → inner + k ≤ 3 * (m * k) → rows ≤ k →
    below + len * (2 + j) + (inner + rows) + k ≤ 3 * ((1 + s + n + m) * k)
step_inner below len n s j k inner rows m h l p hi r =
    let a = mul-le-mul_right (2 + j) l in
    let b : k * (2 + j) ≤ k * (3 + s + s) = mul-le-mul_left k (omega (arith, p)) in
    let c = mul-add k (3 + s) s in let d = mul-add k 3 s in let e = mul_comm k s in
    let f = add-mul (1 + s + n) m k in let g = three 1 s n k in
    let u = one_of k in omega (arith, h, hi, r, a, b, c, d, e, f, g, u)

nodes_least : (s : Scalar) → 1 ≤ nodes_in s
nodes_least (constant v) = omega arith
nodes_least (column level i) = omega arith
nodes_least (argument i) = omega arith
nodes_least (word x ss) = omega arith

keys_least : (keys : List (ℕ × Scalar)) → length keys ≤ keys_nodes keys
keys_least [] = omega arith
keys_least (k ∷ keys) = let a = nodes_least k.1 in let b = keys_least keys in omega (arith, a, b)

-- what a node counts for each row, beside two
way_least : (way : Way) (when : Scalar) (kind : Kind) → way_count way ≡ 0 →
    when_nodes way when + kind_nodes kind + way_nodes way
    ≤ 1 + (when_nodes way when + kind_nodes kind + way_size way)
    + (when_nodes way when + kind_nodes kind + way_size way)
way_least anew when kind h = absurd (omega (arith, h))
way_least once when kind h = omega arith
way_least (lookup keys) when kind h = let a = keys_least keys in omega (arith, a)

inside_is : (way : Way) (f : List (List Cell) → ℕ) (o : List (List Cell)) (rows : List PlanRow) →
    way_count way ≡ 0 → inside way f o rows ≡ f o
inside_is anew f o rows h = absurd (omega (arith, h))
inside_is once f o rows h = refl
inside_is (lookup keys) f o rows h = refl

inside_none : (way : Way) (f : List (List Cell) → ℕ) (o : List (List Cell)) (row : List Cell) →
    way_count way ≡ 0 → inside_row way f o row ≡ 0
inside_none anew f o row h = absurd (omega (arith, h))
inside_none once f o row h = refl
inside_none (lookup keys) f o row h = refl

-- Leaves.
shown_count : (rs : List Row) → length (shown_rows rs) ≡ length rs
shown_count [] = refl
shown_count (r ∷ rs) = ap suc (shown_count rs)

lists_least : (lists : List Scalars) (k : ℕ) → length lists ≤ k →
    lists_work lists ≤ 2 * length lists + lists_size lists * k
lists_least [] k h = omega arith
lists_least (ss ∷ lists) k h =
    let a = lists_least lists k (omega (arith, h)) in
    let b = add-mul (nodes_in_all ss) (lists_size lists) k in
    let one : 1 ≤ k = omega (arith, h) in
    let c : nodes_in_all ss * 1 ≤ nodes_in_all ss * k = mul-le-mul_left (nodes_in_all ss) one in
    omega (arith, a, b, c)

-- Pairs.
rows_least : (f : List Cell → ℕ) (c : ℕ) (g : List Cell → ℕ) (rows : List PlanRow) →
    ((r : List Cell) → f r ≤ c * g r) →
    over_rows f rows ≤ c * over_rows g rows
rows_least f c g [] h = omega arith
rows_least f c g (Whole r ∷ rows) h =
    let a = h r in let b = rows_least f c g rows h in let d = mul-add c (g r) (over_rows g rows) in
    omega (arith, a, b, d)
rows_least f c g (Poisoned s ∷ rows) h = rows_least f c g rows h

pairs_least : (f : List Cell → ℕ) (c : ℕ) (left right : List PlanRow) →
    ((r : List Cell) → f r ≤ c) →
    over_pairs f left right ≤ c * over_pairs (λ r. 1) left right
pairs_least f c left right h =
    rows_least (λ l. over_rows (λ r. f (l ++ r)) right) c (λ l. over_rows (λ r. 1) right) left
    (λ l. rows_least (λ r. f (l ++ r)) c (λ r. 1) right (λ r. let a = h (l ++ r) in
    omega (arith, a)))

-- a join that takes rows of two sides and their pairs
step_join : (wa wb la lb ps cost n m s k : ℕ) → wa + k ≤ 3 * (n * k) → wb + k ≤ 3 * (m * k) →
    la + lb + ps ≤ k → cost ≤ (2 + s) * ps →
    wa + wb + la * 2 + lb * 2 + cost + k ≤ 3 * ((1 + s + n + m) * k)
step_join wa wb la lb ps cost n m s k ha hb l c =
    let a : (2 + s) * ps ≤ (2 + s) * k = mul-le-mul_left (2 + s) (omega (arith, l)) in
    let b = add-mul 2 s k in
    let p : (2 + s) * ps ≡ 2 * ps + s * ps = add-mul 2 s ps in
    let q : s * ps ≤ s * k = mul-le-mul_left s (omega (arith, l)) in
    let f = add-mul (1 + s + n) m k in let g = three 1 s n k in let u = one_of k in
    omega (arith, ha, hb, l, c, p, q, f, g, u)

abbrev pub Least : PlanTree → Inputs → List (List Cell) → ℕ → Type 0
Least t w o k = work_below t w o + k ≤ 3 * (size t * k)

-- the given rows are within the peak
pub given_least : (t : PlanTree) (w : Inputs) (o : List (List Cell)) →
    length (den t w o) ≤ peak t w o
given_least unit_row w o = omega arith
given_least (scan name n) w o = omega arith
given_least (values lists) w o = lists_rows lists (sight w o [])
  where
    lists_rows : (lists : List Scalars) (s : Sight) → length (list_rows lists s) ≤ length lists
    lists_rows [] s = omega arith
    lists_rows (ss ∷ lists) s = let a = lists_rows lists s in omega (arith, a)
given_least (extend ss t) w o = le-max_left (length (den (extend ss t) w o)) (peak t w o)
given_least (apply when kind way inner t) w o =
    le-max_left (length (den (apply when kind way inner t) w o)) (peak t w o)
given_least (filter s t) w o = le-max_left (length (den (filter s t) w o)) (peak t w o)
given_least (keep is t) w o = le-max_left (length (den (keep is t) w o)) (peak t w o)
given_least (cross a b) w o = omega arith
given_least (left_outer nodes s n a b) w o = omega arith
given_least (settle t) w o = le-max_left (length (den (settle t) w o)) (peak t w o)
given_least (group keys ags t) w o = le-max_left (length (den (group keys ags t) w o)) (peak t w o)
given_least (sort keys t) w o = le-max_left (length (den (sort keys t) w o)) (peak t w o)

-- a node over an input
over_input : (t : PlanTree) (w : Inputs) (o : List (List Cell)) (s k : ℕ) → Least t w o k →
    peak t w o ≤ k →
    work_below t w o + length (den t w o) * (2 + s) + k ≤ 3 * ((1 + s + size t) * k)
over_input t w o s k h p = let g = given_least t w o in
    step (work_below t w o) (length (den t w o)) (size t) s k h (omega (arith, g, p))

two_only : (n : ℕ) → n * 2 ≡ n * (2 + 0)
two_only n = omega arith

-- a join whose pairs go through a run
join_least : (wa wb la lb ps cost n m s c z inner k : ℕ) → wa + k ≤ 3 * (n * k) →
    wb + k ≤ 3 * (m * k) → la + lb + ps ≤ k → cost ≤ (2 + (s + c)) * ps →
    c * k + inner ≤ 3 * (z * k) → wa + wb + la * 2 + lb * 2 + cost + inner + k
    ≤ 3 * ((1 + (s + z) + n + m) * k)
join_least wa wb la lb ps cost n m s c z inner k ha hb l q r =
    let a : (2 + (s + c)) * ps ≡ 2 * ps + (s + c) * ps = add-mul 2 (s + c) ps in
    let b : (s + c) * ps ≡ s * ps + c * ps = add-mul s c ps in
    let d : s * ps ≤ s * k = mul-le-mul_left s (omega (arith, l)) in
    let e : c * ps ≤ c * k = mul-le-mul_left c (omega (arith, l)) in
    let f = add-mul (1 + (s + z) + n) m k in let g = three 1 (s + z) n k in let h = add-mul s z k in
    let u = one_of k in
    omega (arith, ha, hb, l, q, r, a, b, d, e, f, g, h, u)

-- a node of a run
run_step : (s j c z m inner rows others within k : ℕ) → j ≤ 1 + s + s →
    c * k + others ≤ 3 * (z * k) → inner + k ≤ 3 * (m * k) → rows ≤ k →
    within ≡ inner + rows → (2 + j + c) * k + (within + others) ≤ 3 * ((1 + s + z + m) * k)
run_step s j c z m inner rows others within k l h i r e =
    let a = add-mul (2 + j) c k in
    let b : (2 + j) * k ≤ (3 + s + s) * k = mul-le-mul_right k (omega (arith, l)) in
    let d = add-mul (3 + s) s k in let f = add-mul 3 s k in let g = add-mul (1 + s + z) m k in
    let u = three 1 s z k in let v = one_of k in
    omega (arith, h, i, r, e, a, b, d, f, g, u, v)

mutual
  pub least : (t : PlanTree) (w : Inputs) (o : List (List Cell)) (k : ℕ) → applies t ≡ 0 →
      peak t w o + inner_peaks t w o ≤ k → Least t w o k
  least unit_row w o k h p = omega (arith, p)
  least (scan name n) w o k h p = let e = shown_count (rows_named name w.tables) in
      let g : peak (scan name n) w o ≡ length (shown_rows (rows_named name w.tables)) = refl in
      omega (arith, p, e, g)
  least (values lists) w o k h p =
      let a = lists_least lists k (omega (arith, p)) in let b = add-mul 1 (lists_size lists) k in
      omega (arith, p, a, b)
  least (extend ss t) w o k h p =
      let m = le-max_right (length (den (extend ss t) w o)) (peak t w o) in
      over_input t w o (nodes_in_all ss) k (least t w o k h (omega (arith, p, m)))
      (omega (arith, p, m))
  least (apply when kind way inner t) w o k h p =
      let m = le-max_right (length (den (apply when kind way inner t) w o)) (peak t w o) in
      let wc : way_count way ≡ 0 = omega (arith, h) in
      let ai : applies inner ≡ 0 = omega (arith, h) in let at : applies t ≡ 0 = omega (arith, h) in
      let f : List (List Cell) → ℕ = λ q. work_below inner w q + length (den inner w q) in
      let g = given_least t w o in let gi = given_least inner w o in
      let s = when_nodes way when + kind_nodes kind + way_size way in
      let j = when_nodes way when + kind_nodes kind + way_nodes way in
      let r = step_inner (work_below t w o) (length (den t w o)) (size t) s j k
      (work_below inner w o) (length (den inner w o)) (size inner)
      (least t w o k at (omega (arith, p, m))) (omega (arith, p, m, g)) (way_least way when kind wc)
      (least inner w o k ai (omega (arith, p))) (omega (arith, p, gi)) in
      let e = inside_is way f o (den t w o) wc in
      let z : 2 + when_nodes way when + kind_nodes kind + way_nodes way ≡ 2 + j = omega arith in
      let y = ap (λ (x : ℕ). length (den t w o) * x) z in omega (arith, r, e, y)
  least (filter s t) w o k h p =
      let m = le-max_right (length (den (filter s t) w o)) (peak t w o) in
      over_input t w o (nodes_in s) k (least t w o k h (omega (arith, p, m))) (omega (arith, p, m))
  least (keep is t) w o k h p =
      let m = le-max_right (length (den (keep is t) w o)) (peak t w o) in
      let e = two_only (length (den t w o)) in
      let r = over_input t w o 0 k (least t w o k h (omega (arith, p, m))) (omega (arith, p, m)) in
      omega (arith, r, e)
  least (cross a b) w o k h p =
      let la = length (den a w o) in let lb = length (den b w o) in let ps = pairs_of a b w o in
      let ld = length (den (cross a b) w o) in
      let x = le-max_left (max ld (la + lb + ps)) (max (peak a w o) (peak b w o)) in
      let y = le-max_right ld (la + lb + ps) in
      let z = le-max_right (max ld (la + lb + ps)) (max (peak a w o) (peak b w o)) in
      let u = le-max_left (peak a w o) (peak b w o) in
      let v = le-max_right (peak a w o) (peak b w o) in
      let c = pairs_least (λ r. 2) 2 (settled (den a w o)) (settled (den b w o))
      (λ r. omega arith) in
      let r = step_join (work_below a w o) (work_below b w o) la lb ps
      (over_pairs (λ r. 2) (settled (den a w o)) (settled (den b w o))) (size a) (size b) 0 k
      (least a w o k (omega (arith, h)) (omega (arith, p, z, u)))
      (least b w o k (omega (arith, h)) (omega (arith, p, z, v))) (omega (arith, p, x, y)) c in
      let e : 1 + 0 + size a + size b ≡ 1 + size a + size b = omega arith in
      let f = ap (λ (n : ℕ). n * k) e in omega (arith, r, f)
  least (left_outer nodes s n a b) w o k h p =
      let la = length (den a w o) in let lb = length (den b w o) in let ps = pairs_of a b w o in
      let ld = length (den (left_outer nodes s n a b) w o) in
      let x = le-max_left (max ld (la + lb + ps)) (max (peak a w o) (peak b w o)) in
      let y = le-max_right ld (la + lb + ps) in
      let z = le-max_right (max ld (la + lb + ps)) (max (peak a w o) (peak b w o)) in
      let u = le-max_left (peak a w o) (peak b w o) in
      let v = le-max_right (peak a w o) (peak b w o) in
      let an : applies_in nodes ≡ 0 = omega (arith, h) in
      let cost = over_pairs (λ row. 2 + nodes_in s + nodes_work nodes w o row) (settled (den a w o))
      (settled (den b w o)) in
      let ha = least a w o k (omega (arith, h)) (omega (arith, p, z, u)) in
      let hb = least b w o k (omega (arith, h)) (omega (arith, p, z, v)) in
      let run = run_least nodes w o k an (omega (arith, p)) in
      let c = pairs_least (λ row. 2 + nodes_in s + nodes_work nodes w o row)
      (2 + (nodes_in s + run.0)) (settled (den a w o)) (settled (den b w o))
      (λ r. let q = run.1.0 r in omega (arith, q)) in
      join_least (work_below a w o) (work_below b w o) la lb ps cost (size a) (size b)
      (nodes_in s) run.0 (size_in nodes) (nodes_once nodes w o) k ha hb
      (omega (arith, p, x, y)) c run.1.1
  least (settle t) w o k h p =
      let m = le-max_right (length (den (settle t) w o)) (peak t w o) in
      let e = two_only (length (den t w o)) in
      let r = over_input t w o 0 k (least t w o k h (omega (arith, p, m))) (omega (arith, p, m)) in
      omega (arith, r, e)
  least (group keys ags t) w o k h p =
      let m = le-max_right (length (den (group keys ags t) w o)) (peak t w o) in
      let e = two_only (length (den t w o)) in
      let r = over_input t w o 0 k (least t w o k h (omega (arith, p, m))) (omega (arith, p, m)) in
      omega (arith, r, e)
  least (sort keys t) w o k h p =
      let m = le-max_right (length (den (sort keys t) w o)) (peak t w o) in
      let e = two_only (length (den t w o)) in
      let r = over_input t w o 0 k (least t w o k h (omega (arith, p, m))) (omega (arith, p, m)) in
      omega (arith, r, e)

  -- of a run: what it counts for a pair, and the inner plans, together within three for each node
  run_least : (nodes : Nodes) (w : Inputs) (o : List (List Cell)) (k : ℕ) → applies_in nodes ≡ 0 →
      run_peaks nodes w o ≤ k →
      (c : ℕ) × (((row : List Cell) → nodes_work nodes w o row ≤ c)
      × (c * k + nodes_once nodes w o ≤ 3 * (size_in nodes * k)))
  run_least no_node w o k h p = (0, ((λ row. omega arith), omega arith))
  run_least (extend_by ss rest) w o k h p =
      let r = run_least rest w o k h p in let s = nodes_in_all ss in (
        2 + s + r.0,
        (
          (λ row. let q = r.1.0 (row ++ cells_of ss (sight w o row)) in omega (arith, q)),
          (let a = add-mul (2 + s) r.0 k in let b = add-mul 2 s k in
              let c = three 1 s (size_in rest) k in let d = one_of k in let e = r.1.1 in
              omega (arith, a, b, c, d, e)),
        ),
      )
  run_least (apply_by when kind way inner rest) w o k h p =
      let wc : way_count way ≡ 0 = omega (arith, h) in
      let ai : applies inner ≡ 0 = omega (arith, h) in
      let ar : applies_in rest ≡ 0 = omega (arith, h) in
      let r = run_least rest w o k ar (omega (arith, p)) in
      let i = least inner w o k ai (omega (arith, p)) in let gi = given_least inner w o in
      let f : List (List Cell) → ℕ = λ q. work_below inner w q + length (den inner w q) in
      let s = when_nodes way when + kind_nodes kind + way_size way in
      let j = when_nodes way when + kind_nodes kind + way_nodes way in
      let l = way_least way when kind wc in let e = inside_is way f o [] wc in
      let rows : length (den inner w o) ≤ k = omega (arith, gi, p) in (
        2 + j + r.0,
        (
          (λ row. let q = r.1.0 (row ++ apply_cells when kind (sight w o row)
              (found way (tree_width inner) (sight w o row) (den inner w (row ∷ o)))) in
              let z = inside_none way f o row wc in omega (arith, q, z)),
          run_step s j r.0 (size_in rest) (size inner) (work_below inner w o)
              (length (den inner w o)) (nodes_once rest w o)
              (inside way f o []) k l r.1.1 i rows e,
        ),
      )

pub work_bound : (t : PlanTree) (w : Inputs) (o : List (List Cell)) → applies t ≡ 0 →
    work t w o ≤ 3 * (size t * (peak t w o + inner_peaks t w o))
work_bound t w o h =
    let k = peak t w o + inner_peaks t w o in let a = least t w o k h (omega arith) in
    let g = given_least t w o in omega (arith, a, g)
