-- What steps make of a row.
use Rattle.std.proofs.Common.{◌≡◌, ℕ, suc, ◌+◌, ◌<◌, Bool, true, false, cond, nat_eq, List, [], ◌∷◌}
use Rattle.std.proofs.Common.{◌++◌, length, map, slice_set, refl, ap, sym, ◌∙◌, subst, arith}
use Rattle.std.proofs.Common.{append_assoc, length-append}
use Rattle.std.proofs.lemmas.List.{append-nil}
use Rattle.sql_values.specs.declared.value.Value.TheVariants.{Bool as Truth, Null, Int, Str}
use Rattle.row_types.specs.declared.cell.Cell.{Cell}
use Rattle.row_types.specs.declared.cell.Cell.TheVariants.{Val, Cond}
use Rattle.rel_algebra.specs.Joins.{places}
use Rattle.rel_algebra.specs.Scopes.{Inputs}
use Rattle.rel_algebra.specs.Plan.{scalar_count, Nodes, no_node, extend_by, apply_by, kind_width}
use Rattle.rel_algebra.specs.Plan.{applied, collapse, member_cell, den, and_cell, and_word}
use Rattle.rel_algebra.specs.Plan.{constant, column, argument, word, Scalar, Sight, sight, added}
use Rattle.rel_algebra.specs.Plan.{cell_at, cell_of, cells_of, cells_at, case_cell, Way, anew, once}
use Rattle.rel_algebra.specs.Plan.{lookup, found, tree_width, strictly}
use Rattle.rel_algebra.specs.Emissions.{width}
use Rattle.rel_algebra.proofs.Growing.{first_columns, grows_by, grows_trans, grows_at, only_at}
use Rattle.rel_algebra.proofs.Nodes.{added_join, added_grows, added_long, cells_long}
use Rattle.rel_algebra.specs.BodySteps.{asked_when, Step, stepped, run, Store, store, guarded}
use Rattle.rel_algebra.specs.BodySteps.{placed, is_sure, also, asked_at, acts, jump, tag, two}
use Rattle.rel_algebra.specs.BodySteps.{code_is}
use Rattle.rel_algebra.proofs.BodyBase.{at, both, codes_equal, equals_itself, set_grown}
use Rattle.rel_algebra.proofs.BodyBase.{cells_at_append, cells_at_set, cells_at_long, front_at}
use Rattle.sql_values.specs.declared.operators.Comparison.TheVariants.{Equals}
use Rattle.rel_algebra.specs.Endings.{op_value}
use Rattle.rel_algebra.specs.Tree.{Comparing}

pub run_append : (w : Inputs) (o : List (List Cell)) (a b : List Step) (q : List Cell) →
    run w o (a ++ b) q ≡ run w o b (run w o a q)
run_append w o [] b q = refl
run_append w o (s ∷ a) b q = run_append w o a b (stepped w o s q)

-- the stores, one after another
abbrev pub puts : List Store → Sight → List Cell → List Cell
puts [] s q = q
puts (x ∷ xs) s q = puts xs s (slice_set q x.column (cell_of x.new s))

pub puts_append : (a b : List Store) (s : Sight) (q : List Cell) → puts (a ++ b) s q ≡ puts b s
    (puts a s q)
puts_append [] b s q = refl
puts_append (x ∷ a) b s q = puts_append a b s (slice_set q x.column (cell_of x.new s))

-- what stands in the new columns
abbrev put_cells : List Store → List Cell → List Cell → List Cell
put_cells [] cs q = q
put_cells (x ∷ xs) [] q = q
put_cells (x ∷ xs) (c ∷ cs) q = put_cells xs cs (slice_set q x.column c)

pub guarded_count : (k : ℕ) (xs : List Store) → scalar_count (guarded k xs) ≡ length xs
guarded_count k [] = refl
guarded_count k (x ∷ xs) = ap suc (guarded_count k xs)

placed_row : (xs : List Store) (z gs : List Cell) (m : ℕ) (is : List ℕ) → length z ≡ m → length gs
    ≡ length xs →
    cells_at (z ++ gs) (placed xs m is) ≡ put_cells xs gs (cells_at (z ++ gs) is)
placed_row [] z gs m is l k = refl
placed_row (x ∷ xs) z [] m is l k = absurd (omega (arith, k))
placed_row (x ∷ xs) z (g ∷ gs) m is l k =
    let r = z ++ g ∷ gs in
    let again : (z ++ g ∷ []) ++ gs ≡ r = append_assoc z (g ∷ []) gs in
    subst (λ (y : List Cell). cells_at y (placed xs (suc m) (slice_set is x.column m)) ≡ put_cells
    xs gs (cells_at y (slice_set is x.column m))) again
    (placed_row xs (z ++ g ∷ []) gs (suc m) (slice_set is x.column m)
    (length-append z (g ∷ []) ∙ (let e : length z + 1 ≡ suc m = omega (arith, l) in e))
    (omega (arith, k)))
    ∙ ap (put_cells xs gs) (cells_at_set r is x.column m ∙ ap (slice_set (cells_at r is) x.column)
    (ap (cell_at r) (sym l) ∙ only_at z gs g))

code_cell : (k n : ℕ) (new old : Cell) (z : List Cell) (w : Inputs) (o : List (List Cell)) →
    cell_at z 0 ≡ at k →
    case_cell (cell_of (code_is n) (sight w o z) ∷ new ∷ old ∷ []) ≡ cond (nat_eq k n) new old
code_cell k n new old z w o e =
    ap (λ (c : Cell). case_cell (strictly (op_value (Comparing Equals)) (c ∷ at n ∷ []) ∷ new ∷ old
    ∷ [])) e
    ∙ ap (λ v. case_cell (Val v ∷ new ∷ old ∷ [])) (codes_equal k n)

-- at another code
off_cells : (k n : ℕ) (xs : List Store) (w : Inputs) (o : List (List Cell)) (q x z : List Cell) →
    q ++ x ≡ z → cell_at z 0 ≡ at k → nat_eq k n ≡ false →
    put_cells xs (cells_of (guarded n xs) (sight w o z)) q ≡ q
off_cells k n [] w o q x z g e d = refl
off_cells k n (s ∷ xs) w o q x z g e d =
    ap (put_cells xs (cells_of (guarded n xs) (sight w o z)))
    (ap (slice_set q s.column) (code_cell k n (cell_of s.new (sight w o z)) (cell_at z s.column) z w
    o e ∙ (ap (λ b. cond b (cell_of s.new (sight w o z)) (cell_at z s.column)) d
    ∙ ap (λ (y : List Cell). cell_at y s.column) (sym g))) ∙ set_grown q x s.column)
    ∙ off_cells k n xs w o q x z g e d

on_cells : (k : ℕ) (xs : List Store) (w : Inputs) (o : List (List Cell)) (q z : List Cell) →
    cell_at z 0 ≡ at k →
    put_cells xs (cells_of (guarded k xs) (sight w o z)) q ≡ puts xs (sight w o z) q
on_cells k [] w o q z e = refl
on_cells k (s ∷ xs) w o q z e =
    ap (λ (c : Cell). put_cells xs (cells_of (guarded k xs) (sight w o z)) (slice_set q s.column c))
    (code_cell k k (cell_of s.new (sight w o z)) (cell_at z s.column) z w o e
    ∙ ap (λ b. cond b (cell_of s.new (sight w o z)) (cell_at z s.column)) (equals_itself k))
    ∙ on_cells k xs w o (slice_set q s.column (cell_of s.new (sight w o z))) z e

-- ---- inner plans that are asked at a code alone

pub asked_width : (k : ℕ) (nodes : Nodes) (n : ℕ) → width (asked_at k nodes) n ≡ width nodes n
asked_width k no_node n = refl
asked_width k (extend_by ss rest) n = asked_width k rest (n + scalar_count ss)
asked_width k (apply_by when kind way inner rest) n = asked_width k rest (n + kind_width kind)

asked_long : (k : ℕ) (nodes : Nodes) (w : Inputs) (o : List (List Cell)) (q : List Cell) (m : ℕ) →
    length (added nodes w o q) ≡ m → length (added (asked_at k nodes) w o q) ≡ m
asked_long k nodes w o q m h = added_long (asked_at k nodes) w o q (length q) refl
    ∙ (asked_width k nodes (length q) ∙ (sym (added_long nodes w o q (length q) refl) ∙ h))

sure_cell : (when : Scalar) (s : Sight) (c : Cell) → is_sure when ≡ true → applied (cell_of when s)
    c ≡ c
sure_cell (constant v) s c h = ap (λ b. cond b c (Val Null)) h
sure_cell (column level i) s c h = absurd cc
sure_cell (argument i) s c h = absurd cc
sure_cell (word x ss) s c h = absurd cc

and_applied : (d c : Cell) → applied (and_cell (Truth true) (Val (Truth true) ∷ d ∷ [])) c ≡ applied
    d c
and_applied (Cond a) c = refl
and_applied (Val Null) c = refl
and_applied (Val (Int n)) c = refl
and_applied (Val (Str t)) c = refl
and_applied (Val (Truth true)) c = refl
and_applied (Val (Truth false)) c = refl

code_true : (k : ℕ) (w : Inputs) (o : List (List Cell)) (z : List Cell) → cell_at z 0 ≡ at k →
    cell_of (code_is k) (sight w o z) ≡ Val (Truth true)
code_true k w o z e =
    ap (λ (c : Cell). strictly (op_value (Comparing Equals)) (c ∷ at k ∷ [])) e
    ∙ ap (λ v. Val v) (codes_equal k k ∙ ap (λ b. Truth b) (equals_itself k))

also_applied : (k : ℕ) (when : Scalar) (w : Inputs) (o : List (List Cell)) (z : List Cell)
    (c : Cell) → cell_at z 0 ≡ at k → applied (cell_of (also k when) (sight w o z)) c ≡ applied
    (cell_of when (sight w o z)) c
also_applied k when w o z c e = by_test (is_sure when) refl
  where
    by_test : (b : Bool) → is_sure when ≡ b →
        applied (cell_of (cond b (code_is k) (word and_word (two (code_is k) when))) (sight w o z))
        c ≡ applied (cell_of when (sight w o z)) c
    by_test true h = ap (λ (d : Cell). applied d c) (code_true k w o z e)
        ∙ sym (sure_cell when (sight w o z) c h)
    by_test false h = ap (λ (d : Cell). applied
        (and_cell (Truth true) (d ∷ cell_of when (sight w o z) ∷ [])) c) (code_true k w o z e)
        ∙ and_applied (cell_of when (sight w o z)) c

all_applied : (k : ℕ) (when : Scalar) (w : Inputs) (o : List (List Cell)) (z : List Cell)
    (cs : List Cell) → cell_at z 0 ≡ at k →
    map (applied (cell_of (also k when) (sight w o z))) cs
    ≡ map (applied (cell_of when (sight w o z))) cs
all_applied k when w o z [] e = refl
all_applied k when w o z (c ∷ cs) e = both (λ (x : Cell) (xs : List Cell). x ∷ xs) _ _ _ _
    (also_applied k when w o z c e) (all_applied k when w o z cs e)

way_applied : (k : ℕ) (way : Way) (when : Scalar) (w : Inputs) (o : List (List Cell))
    (z : List Cell) (cs : List Cell) → cell_at z 0 ≡ at k →
    map (applied (cell_of (asked_when way k when) (sight w o z))) cs
    ≡ map (applied (cell_of when (sight w o z))) cs
way_applied k anew when w o z cs e = all_applied k when w o z cs e
way_applied k once when w o z cs e = refl
way_applied k (lookup keys) when w o z cs e = all_applied k when w o z cs e

-- at this code nothing is another
asked_same : (k : ℕ) (nodes : Nodes) (w : Inputs) (o : List (List Cell)) (q : List Cell) →
    0 < length q → cell_at q 0 ≡ at k → added (asked_at k nodes) w o q ≡ added nodes w o q
asked_same k no_node w o q h e = refl
asked_same k (extend_by ss rest) w o q h e =
    let y = q ++ cells_of ss (sight w o q) in
    asked_same k rest w o y (let g = length-append q (cells_of ss (sight w o q)) in
    omega (arith, g)) (front_at q (cells_of ss (sight w o q)) 0 h ∙ e)
asked_same k (apply_by when kind way inner rest) w o q h e =
    let cs = collapse kind (member_cell kind (sight w o q))
    (found way (tree_width inner) (sight w o q) (den inner w (q ∷ o))) in
    let xs = map (applied (cell_of when (sight w o q))) cs in
    ap (λ (ys : List Cell). added (asked_at k rest) w o (q ++ ys))
    (way_applied k way when w o q cs e)
    ∙ asked_same k rest w o (q ++ xs) (let g = length-append q xs in omega (arith, g))
    (front_at q xs 0 h ∙ e)

-- the row that a step at a code leaves
acts_row : (n : ℕ) (pre : Nodes) (m : ℕ) (xs : List Store) (k : ℕ) (extra : List ℕ) (w : Inputs)
    (o : List (List Cell)) (q : List Cell) → length q ≡ k → length (added pre w o q) ≡ m →
    let z = added (asked_at n pre) w o q in let gs = cells_of (guarded n xs) (sight w o z) in
    stepped w o (acts n pre m xs k extra) q ≡ put_cells xs gs q ++ cells_at (z ++ gs) extra
acts_row n pre m xs k extra w o q l lz =
    let z = added (asked_at n pre) w o q in let gs = cells_of (guarded n xs) (sight w o z) in
    ap (λ (r : List Cell). cells_at r (placed xs m (places 0 k) ++ extra))
    (added_join (asked_at n pre) (extend_by (guarded n xs) no_node) w o q)
    ∙ (cells_at_append (z ++ gs) (placed xs m (places 0 k)) extra
    ∙ ap (λ (r : List Cell). r ++ cells_at (z ++ gs) extra)
    (placed_row xs z gs m (places 0 k) (asked_long n pre w o q m lz)
    (cells_long (guarded n xs) (sight w o z) ∙ guarded_count n xs)
    ∙ ap (put_cells xs gs) (first_columns q (z ++ gs) k l
    (grows_trans q z (z ++ gs) (added_grows (asked_at n pre) w o q) (grows_by z gs)))))

grown_code : (pre : Nodes) (w : Inputs) (o : List (List Cell)) (q : List Cell) (k : ℕ) →
    0 < length q → cell_at q 0 ≡ at k → cell_at (added pre w o q) 0 ≡ at k
grown_code pre w o q k h e = grows_at q (added pre w o q) 0 (added_grows pre w o q) h ∙ e

-- cells after the row
abbrev pub Wider : List Cell → ℕ → List Cell → Type 0
Wider q k z = (x : List Cell) × (length x ≡ k) × (z ≡ q ++ x)

pub acts_off_wide : (n : ℕ) (pre : Nodes) (m : ℕ) (xs : List Store) (k : ℕ) (extra : List ℕ)
    (w : Inputs) (o : List (List Cell)) (q : List Cell) (j : ℕ) → length q ≡ k → 0 < k →
    length (added pre w o q) ≡ m → cell_at q 0 ≡ at j → nat_eq j n ≡ false → Wider q (length extra)
    (stepped w o (acts n pre m xs k extra) q)
acts_off_wide n pre m xs k extra w o q j l h lz e d =
    let z = added (asked_at n pre) w o q in let gs = cells_of (guarded n xs) (sight w o z) in (
      cells_at (z ++ gs) extra,
      cells_at_long (z ++ gs) extra,
      acts_row n pre m xs k extra w o q l lz
          ∙ ap (λ (r : List Cell). r ++ cells_at (z ++ gs) extra)
          (off_cells j n xs w o q (added_grows (asked_at n pre) w o q).0 z
          (added_grows (asked_at n pre) w o q).1
          (grown_code (asked_at n pre) w o q j (omega (arith, l)) e) d),
    )

pub acts_off : (n : ℕ) (pre : Nodes) (m : ℕ) (xs : List Store) (k : ℕ) (w : Inputs)
    (o : List (List Cell)) (q : List Cell) (j : ℕ) → length q ≡ k → 0 < k →
    length (added pre w o q) ≡ m → cell_at q 0 ≡ at j → nat_eq j n ≡ false →
    stepped w o (acts n pre m xs k []) q ≡ q
acts_off n pre m xs k w o q j l h lz e d =
    let z = added (asked_at n pre) w o q in let gs = cells_of (guarded n xs) (sight w o z) in
    acts_row n pre m xs k [] w o q l lz
    ∙ (ap (λ (r : List Cell). r ++ []) (off_cells j n xs w o q
    (added_grows (asked_at n pre) w o q).0 z (added_grows (asked_at n pre) w o q).1
    (grown_code (asked_at n pre) w o q j (omega (arith, l)) e) d) ∙ append-nil q)

pub acts_on_wide : (n : ℕ) (pre : Nodes) (m : ℕ) (xs : List Store) (k : ℕ) (extra : List ℕ)
    (w : Inputs) (o : List (List Cell)) (q : List Cell) → length q ≡ k → 0 < k →
    length (added pre w o q) ≡ m → cell_at q 0 ≡ at n →
    stepped w o (acts n pre m xs k extra) q ≡ puts xs (sight w o (added pre w o q)) q
    ++ cells_at (added pre w o q ++ cells_of (guarded n xs) (sight w o (added pre w o q))) extra
acts_on_wide n pre m xs k extra w o q l h lz e =
    let z = added pre w o q in let gs = cells_of (guarded n xs) (sight w o z) in
    acts_row n pre m xs k extra w o q l lz
    ∙ (ap (λ (y : List Cell). put_cells xs (cells_of (guarded n xs) (sight w o y)) q ++ cells_at
    (y ++ cells_of (guarded n xs) (sight w o y)) extra)
    (asked_same n pre w o q (omega (arith, l)) e)
    ∙ ap (λ (r : List Cell). r ++ cells_at (z ++ gs) extra)
    (on_cells n xs w o q z (grown_code pre w o q n (omega (arith, l)) e)))

pub acts_on : (n : ℕ) (pre : Nodes) (m : ℕ) (xs : List Store) (k : ℕ) (w : Inputs)
    (o : List (List Cell)) (q : List Cell) → length q ≡ k → 0 < k →
    length (added pre w o q) ≡ m → cell_at q 0 ≡ at n →
    stepped w o (acts n pre m xs k []) q ≡ puts xs (sight w o (added pre w o q)) q
acts_on n pre m xs k w o q l h lz e =
    acts_on_wide n pre m xs k [] w o q l h lz e ∙ append-nil
    (puts xs (sight w o (added pre w o q)) q)

pub jump_off : (n to k : ℕ) (w : Inputs) (o : List (List Cell)) (q : List Cell) (j : ℕ) → length q
    ≡ k → 0 < k → cell_at q 0 ≡ at j → nat_eq j n ≡ false →
    stepped w o (jump n to k) q ≡ q
jump_off n to k w o q j l h e d = acts_off n no_node k (store 0 (tag to) ∷ []) k w o q j l h l e d

pub jump_on : (n to k : ℕ) (w : Inputs) (o : List (List Cell)) (q : List Cell) → length q ≡ k →
    0 < k → cell_at q 0 ≡ at n →
    stepped w o (jump n to k) q ≡ slice_set q 0 (at to)
jump_on n to k w o q l h e = acts_on n no_node k (store 0 (tag to) ∷ []) k w o q l h l e
