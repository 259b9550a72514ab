-- Numbers, lists of cells, and columns.
use Rattle.std.proofs.Common.{◌≡◌, ℕ, zero, suc, ◌+◌, ◌<◌, ◌≤◌, true, false, nat_eq, List, [], ◌∷◌}
use Rattle.std.proofs.Common.{◌++◌, length, take, drop, pos, slice_set, refl, ap, ◌∙◌, subst, arith}
use Rattle.std.proofs.lemmas.Bool.{ne_eqb}
use Rattle.sql_values.specs.declared.value.Value.{Value}
use Rattle.sql_values.specs.declared.value.Value.TheVariants.{Int, Bool as Truth}
use Rattle.sql_values.specs.declared.operators.Comparison.TheVariants.{Equals}
use Rattle.sql_values.specs.Operators.{compared}
use Rattle.row_types.specs.declared.cell.Cell.{Cell}
use Rattle.row_types.specs.declared.cell.Cell.TheVariants.{Val}
use Rattle.rel_algebra.specs.Joins.{places}
use Rattle.rel_algebra.specs.Plan.{cell_at, cells_at, shown}
use Rattle.rel_algebra.specs.BodyChain.{column_at}

pub both : {A B C : Type 0} (f : A → B → C) (a a' : A) (b b' : B) → a ≡ a' → b ≡ b' → f a b
    ≡ f a' b'
both f a a' b b' p q = ap (λ x. f x b) p ∙ ap (f a') q

pub lower_differs : (a b : ℕ) → a < b → nat_eq a b ≡ false
lower_differs a b h = ne_eqb a b (λ e. omega arith)

pub higher_differs : (a b : ℕ) → b < a → nat_eq a b ≡ false
higher_differs a b h = ne_eqb a b (λ e. omega arith)

pub equals_itself : (a : ℕ) → nat_eq a a ≡ true
equals_itself a = grind arith

-- a code in a cell
abbrev pub at : ℕ → Cell
at n = Val (Int (pos n))

pub codes_equal : (k n : ℕ) → compared Equals (Int (pos k)) (Int (pos n)) ≡ Truth (nat_eq k n)
codes_equal k n = grind arith

-- ---- cells of a row

pub set_same : (cs : List Cell) (i : ℕ) (c : Cell) → i < length cs → cell_at (slice_set cs i c) i
    ≡ c
set_same [] i c h = absurd (omega arith)
set_same (d ∷ cs) zero c h = refl
set_same (d ∷ cs) (suc i) c h = set_same cs i c (omega arith)

suc_differs : (i j : ℕ) → nat_eq (suc i) (suc j) ≡ false → nat_eq i j ≡ false
suc_differs i j h = grind arith

pub set_other : (cs : List Cell) (i j : ℕ) (c : Cell) → nat_eq i j ≡ false →
    cell_at (slice_set cs i c) j ≡ cell_at cs j
set_other [] i j c h = refl
set_other (d ∷ cs) zero zero c h = absurd (zero_equal h)
  where
    zero_equal : nat_eq 0 0 ≡ false → ⊥
    zero_equal h = cc
set_other (d ∷ cs) zero (suc j) c h = refl
set_other (d ∷ cs) (suc i) zero c h = refl
set_other (d ∷ cs) (suc i) (suc j) c h = set_other cs i j c (suc_differs i j h)

pub set_grown : (q x : List Cell) (i : ℕ) → slice_set q i (cell_at (q ++ x) i) ≡ q
set_grown [] x i = refl
set_grown (c ∷ q) x zero = refl
set_grown (c ∷ q) x (suc i) = ap (λ (cs : List Cell). c ∷ cs) (set_grown q x i)

pub cells_at_append : (row : List Cell) (a b : List ℕ) → cells_at row (a ++ b) ≡ cells_at row a
    ++ cells_at row b
cells_at_append row [] b = refl
cells_at_append row (i ∷ a) b = ap (λ (cs : List Cell). cell_at row i ∷ cs)
    (cells_at_append row a b)

pub cells_at_set : (row : List Cell) (is : List ℕ) (x i : ℕ) → cells_at row (slice_set is x i)
    ≡ slice_set (cells_at row is) x (cell_at row i)
cells_at_set row [] x i = refl
cells_at_set row (p ∷ is) zero i = refl
cells_at_set row (p ∷ is) (suc x) i = ap (λ (cs : List Cell). cell_at row p ∷ cs)
    (cells_at_set row is x i)

pub cells_at_long : (row : List Cell) (is : List ℕ) → length (cells_at row is) ≡ length is
cells_at_long row [] = refl
cells_at_long row (i ∷ is) = ap suc (cells_at_long row is)

pub take_cells : (row : List Cell) (v : ℕ) (is : List ℕ) → cells_at row (take v is) ≡ take v
    (cells_at row is)
take_cells row zero is = refl
take_cells row (suc v) [] = refl
take_cells row (suc v) (i ∷ is) = ap (λ (cs : List Cell). cell_at row i ∷ cs) (take_cells row v is)

pub drop_cells : (row : List Cell) (v : ℕ) (is : List ℕ) → cells_at row (drop v is) ≡ drop v
    (cells_at row is)
drop_cells row zero is = refl
drop_cells row (suc v) [] = refl
drop_cells row (suc v) (i ∷ is) = drop_cells row v is

pub take_shown : (v : ℕ) (f : List Value) → take v (shown f) ≡ shown (take v f)
take_shown zero f = refl
take_shown (suc v) [] = refl
take_shown (suc v) (x ∷ f) = ap (λ (cs : List Cell). Val x ∷ cs) (take_shown v f)

pub drop_shown : (v : ℕ) (f : List Value) → drop v (shown f) ≡ shown (drop v f)
drop_shown zero f = refl
drop_shown (suc v) [] = refl
drop_shown (suc v) (x ∷ f) = drop_shown v f

pub shown_set : (f : List Value) (x : ℕ) (v : Value) → slice_set (shown f) x (Val v)
    ≡ shown (slice_set f x v)
shown_set [] x v = refl
shown_set (u ∷ f) zero v = refl
shown_set (u ∷ f) (suc x) v = ap (λ (cs : List Cell). Val u ∷ cs) (shown_set f x v)

pub take_and_drop : (v : ℕ) (is : List ℕ) → take v is ++ drop v is ≡ is
take_and_drop zero is = refl
take_and_drop (suc v) [] = refl
take_and_drop (suc v) (i ∷ is) = ap (λ (js : List ℕ). i ∷ js) (take_and_drop v is)

-- ---- columns that rise, from lo on and below n

-- each column is above the one before it
abbrev pub Rising : ℕ → List ℕ → ℕ → Type 0
Rising lo [] n = lo ≤ n
Rising lo (c ∷ cs) n = (lo ≤ c) × Rising (suc c) cs n

pub rising_below : (lo : ℕ) (cs : List ℕ) (n : ℕ) → Rising lo cs n → lo ≤ n
rising_below lo [] n h = h
rising_below lo (c ∷ cs) n h = let e = rising_below (suc c) cs n h.1 in let d = h.0 in omega arith

pub rising_more : (lo : ℕ) (cs : List ℕ) (n m : ℕ) → Rising lo cs n → n ≤ m → Rising lo cs m
rising_more lo [] n m h g = omega arith
rising_more lo (c ∷ cs) n m h g = (h.0, rising_more (suc c) cs n m h.1 g)

pub rising_from : (lo lo' : ℕ) (cs : List ℕ) (n : ℕ) → Rising lo cs n → lo' ≤ lo → Rising lo' cs n
rising_from lo lo' [] n h g = omega arith
rising_from lo lo' (c ∷ cs) n h g = ((let e = h.0 in omega arith), h.1)

pub rising_take : (lo : ℕ) (v : ℕ) (cs : List ℕ) (n : ℕ) → Rising lo cs n → Rising lo (take v cs) n
rising_take lo zero cs n h = rising_below lo cs n h
rising_take lo (suc v) [] n h = h
rising_take lo (suc v) (c ∷ cs) n h = (h.0, rising_take (suc c) v cs n h.1)

rising_places : (lo n k : ℕ) → lo ≤ n → Rising lo (places n k) (n + k)
rising_places lo n zero h = omega arith
rising_places lo n (suc k) h = (
  h,
  let e : suc n + k ≡ n + suc k = omega arith in
      subst (λ (m : ℕ). Rising (suc n) (places (suc n) k) m) e
      (rising_places (suc n) (suc n) k (omega arith)),
)

pub rising_append : (lo : ℕ) (cs : List ℕ) (n k : ℕ) → Rising lo cs n → Rising lo (cs ++ places n k)
    (n + k)
rising_append lo [] n k h = rising_places lo n k h
rising_append lo (c ∷ cs) n k h = (h.0, rising_append (suc c) cs n k h.1)

-- no one of them is i
abbrev pub Apart : List ℕ → ℕ → Type 0
Apart [] i = Unit {0}
Apart (c ∷ cs) i = (nat_eq c i ≡ false) × Apart cs i

pub apart_take : (v : ℕ) (cs : List ℕ) (i : ℕ) → Apart cs i → Apart (take v cs) i
apart_take zero cs i h = tt
apart_take (suc v) [] i h = tt
apart_take (suc v) (c ∷ cs) i h = (h.0, apart_take v cs i h.1)

pub apart_above : (lo : ℕ) (cs : List ℕ) (n i : ℕ) → Rising lo cs n → n ≤ i → Apart cs i
apart_above lo [] n i h g = tt
apart_above lo (c ∷ cs) n i h g = (
  lower_differs c i
      (let e = rising_below (suc c) cs n h.1 in omega arith),
  apart_above (suc c) cs n i h.1 g,
)

pub apart_append : (cs ds : List ℕ) (i : ℕ) → Apart cs i → Apart ds i → Apart (cs ++ ds) i
apart_append [] ds i h g = g
apart_append (c ∷ cs) ds i h g = (h.0, apart_append cs ds i h.1 g)

pub apart_places : (n k i : ℕ) → i < n → Apart (places n k) i
apart_places n zero i h = tt
apart_places n (suc k) i h = (higher_differs n i h, apart_places (suc n) k i (omega arith))

column_high : (lo : ℕ) (cs : List ℕ) (n x : ℕ) → Rising lo cs n → lo ≤ column_at n cs x
column_high lo [] n x h = h
column_high lo (c ∷ cs) n zero h = h.0
column_high lo (c ∷ cs) n (suc x) h = let e = column_high (suc c) cs n x h.1 in let d = h.0 in
    omega arith

pub column_from : (lo : ℕ) (cs : List ℕ) (n x : ℕ) → Rising lo cs n → lo ≤ column_at n cs x
column_from = column_high

pub column_apart : (cs : List ℕ) (n x i : ℕ) → Apart cs i → i < n → nat_eq (column_at n cs x) i
    ≡ false
column_apart [] n x i h g = higher_differs n i g
column_apart (c ∷ cs) n zero i h g = h.0
column_apart (c ∷ cs) n (suc x) i h g = column_apart cs n x i h.1 g

-- a column below all of them, or one that is apart
pub cells_set_low : (lo : ℕ) (cs : List ℕ) (n i : ℕ) (q : List Cell) (c : Cell) → Rising lo cs n →
    i < lo → cells_at (slice_set q i c) cs ≡ cells_at q cs
cells_set_low lo [] n i q c h g = refl
cells_set_low lo (d ∷ cs) n i q c h g =
    both (λ (x : Cell) (xs : List Cell). x ∷ xs) _ _ _ _
    (set_other q i d c (lower_differs i d (let e = h.0 in omega arith)))
    (cells_set_low (suc d) cs n i q c h.1 (let e = h.0 in omega arith))

-- the column of a slot
pub cells_set_slot : (lo : ℕ) (cs : List ℕ) (n x : ℕ) (q : List Cell) (c : Cell) → Rising lo cs n →
    n ≤ length q →
    cells_at (slice_set q (column_at n cs x) c) cs ≡ slice_set (cells_at q cs) x c
cells_set_slot lo [] n x q c h g = refl
cells_set_slot lo (d ∷ cs) n zero q c h g =
    both (λ (y : Cell) (ys : List Cell). y ∷ ys) _ _ _ _
    (set_same q d c (let e = rising_below (suc d) cs n h.1 in omega arith))
    (cells_set_low (suc d) cs n d q c h.1 (omega arith))
cells_set_slot lo (d ∷ cs) n (suc x) q c h g =
    both (λ (y : Cell) (ys : List Cell). y ∷ ys) _ _ _ _
    (set_other q (column_at n cs x) d c (higher_differs (column_at n cs x) d
    (let e = column_high (suc d) cs n x h.1 in omega arith)))
    (cells_set_slot (suc d) cs n x q c h.1 g)

-- ---- what stays as it was

-- columns from 3 on and below n that are apart from these
abbrev pub Keeps : List ℕ → ℕ → List Cell → List Cell → Type 0
Keeps cs n q z = (i : ℕ) → 3 ≤ i → i < n → Apart cs i → cell_at z i ≡ cell_at q i

kept_from : (lo v : ℕ) (cs : List ℕ) (n : ℕ) (q z : List Cell) → Rising lo cs n →
    ((i : ℕ) → lo ≤ i → i < n → Apart (take v cs) i → cell_at z i ≡ cell_at q i) →
    cells_at z (drop v cs) ≡ cells_at q (drop v cs)
kept_from lo zero [] n q z h k = refl
kept_from lo zero (c ∷ cs) n q z h k =
    both (λ (y : Cell) (ys : List Cell). y ∷ ys) _ _ _ _
    (k c h.0 (let e = rising_below (suc c) cs n h.1 in omega arith) tt)
    (kept_from (suc c) zero cs n q z h.1 (λ i l u a. k i (let e = h.0 in omega arith) u tt))
kept_from lo (suc v) [] n q z h k = refl
kept_from lo (suc v) (c ∷ cs) n q z h k =
    kept_from (suc c) v cs n q z h.1 (λ i l u a. k i (let e = h.0 in omega arith) u
    (lower_differs c i (omega arith), a))

-- the variables after the first ones
pub kept_rest : (v : ℕ) (cs : List ℕ) (n : ℕ) (q z : List Cell) → Rising 3 cs n → Keeps (take v cs)
    n q z → cells_at z (drop v cs) ≡ cells_at q (drop v cs)
kept_rest v cs n q z h k = kept_from 3 v cs n q z h k

-- on a row that grew
pub grown_cells : (lo : ℕ) (cs : List ℕ) (n : ℕ) (q x : List Cell) → Rising lo cs n → n ≤ length q →
    cells_at (q ++ x) cs ≡ cells_at q cs
grown_cells lo [] n q x h g = refl
grown_cells lo (c ∷ cs) n q x h g =
    both (λ (y : Cell) (ys : List Cell). y ∷ ys) _ _ _ _
    (front q x c (let e = rising_below (suc c) cs n h.1 in omega arith))
    (grown_cells (suc c) cs n q x h.1 g)
  where
    front : (q x : List Cell) (i : ℕ) → i < length q → cell_at (q ++ x) i ≡ cell_at q i
    front [] x i h = absurd (omega arith)
    front (d ∷ q) x zero h = refl
    front (d ∷ q) x (suc i) h = front q x i (omega arith)

pub front_at : (q x : List Cell) (i : ℕ) → i < length q → cell_at (q ++ x) i ≡ cell_at q i
front_at [] x i h = absurd (omega arith)
front_at (d ∷ q) x zero h = refl
front_at (d ∷ q) x (suc i) h = front_at q x i (omega arith)
