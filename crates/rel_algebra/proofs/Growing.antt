-- Rows that grow, and where their cells stand.
use Rattle.std.proofs.Common.{◌≡◌, ℕ, zero, suc, ◌+◌, ◌<◌, List, [], ◌∷◌, ◌++◌, length, refl, ap}
use Rattle.std.proofs.Common.{sym, ◌∙◌, arith, append_assoc}
use Rattle.std.proofs.lemmas.List.{append-nil, length-map}
use Rattle.row_types.specs.Rows.{Row}
use Rattle.row_types.specs.declared.cell.Cell.{Cell}
use Rattle.row_types.specs.declared.cell.Cell.TheVariants.{Val}
use Rattle.rel_algebra.specs.Endings.{value_at}
use Rattle.rel_algebra.specs.Joins.{places}
use Rattle.rel_algebra.proofs.Truths.{both}
use Rattle.rel_algebra.specs.Plan.{cell_at, cells_at, shown}

-- z is q with more columns
abbrev pub Grows : List Cell → List Cell → Type 0
Grows q z = (x : List Cell) × (q ++ x ≡ z)

pub grows_same : (q : List Cell) → Grows q q
grows_same q = ([], append-nil q)

pub grows_by : (q x : List Cell) → Grows q (q ++ x)
grows_by q x = (x, refl)

pub grows_trans : (a b c : List Cell) → Grows a b → Grows b c → Grows a c
grows_trans a b c g h = (
  g.0 ++ h.0,
  sym (append_assoc a g.0 h.0)
      ∙ (ap (λ (q : List Cell). q ++ h.0) g.1 ∙ h.1),
)

front_at : (q x : List Cell) (i : ℕ) → i < length q → cell_at (q ++ x) i ≡ cell_at q i
front_at [] x i h = absurd (omega arith)
front_at (c ∷ q) x zero h = refl
front_at (c ∷ q) x (suc i) h = front_at q x i (omega arith)

pub grows_at : (q z : List Cell) (i : ℕ) → Grows q z → i < length q → cell_at z i ≡ cell_at q i
grows_at q z i g h = ap (λ (r : List Cell). cell_at r i) (sym g.1) ∙ front_at q g.0 i h

end_at : (z y : List Cell) (i : ℕ) → cell_at (z ++ y) (length z + i) ≡ cell_at y i
end_at [] y i = ap (cell_at y) (let e : 0 + i ≡ i = omega arith in e)
end_at (c ∷ z) y i = ap (cell_at (c ∷ (z ++ y))) (let e : suc (length z) + i
    ≡ suc (length z + i) = omega arith in e) ∙ end_at z y i

pub only_at : (z x : List Cell) (c : Cell) → cell_at (z ++ c ∷ x) (length z) ≡ c
only_at [] x c = refl
only_at (d ∷ z) x c = only_at z x c

-- the one column that was added
pub grown_column : (z y : List Cell) (c : Cell) (m : ℕ) → length z ≡ m → Grows (z ++ c ∷ []) y →
    cell_at y m ≡ c
grown_column z y c m e g =
    ap (cell_at y) (sym e)
    ∙ (ap (λ (r : List Cell). cell_at r (length z)) (sym g.1 ∙ append_assoc z (c ∷ []) g.0)
    ∙ only_at z g.0 c)

-- one of the columns that were added
pub grown_at : (z cs y : List Cell) (m i : ℕ) → length z ≡ m → Grows (z ++ cs) y → i < length cs →
    cell_at y (m + i) ≡ cell_at cs i
grown_at z cs y m i e g h =
    ap (λ (k : ℕ). cell_at y (k + i)) (sym e)
    ∙ (ap (λ (r : List Cell). cell_at r (length z + i)) (sym g.1 ∙ append_assoc z cs g.0)
    ∙ (end_at z (cs ++ g.0) i ∙ front_at cs g.0 i h))

places_past : (c : Cell) (row : List Cell) (i n : ℕ) → cells_at (c ∷ row) (places (suc i) n)
    ≡ cells_at row (places i n)
places_past c row i zero = refl
places_past c row i (suc n) =
    ap (λ (cs : List Cell). cell_at row i ∷ cs) (places_past c row (suc i) n)

places_all : (cs x : List Cell) → cells_at (cs ++ x) (places 0 (length cs)) ≡ cs
places_all [] x = refl
places_all (c ∷ cs) x = ap (λ (ds : List Cell). c ∷ ds) (places_past c (cs ++ x) 0 (length cs)
    ∙ places_all cs x)

places_after : (z cs x : List Cell) → cells_at (z ++ (cs ++ x)) (places (length z) (length cs)) ≡ cs
places_after [] cs x = places_all cs x
places_after (c ∷ z) cs x = places_past c (z ++ (cs ++ x)) (length z) (length cs)
    ∙ places_after z cs x

-- the columns that were added
pub grown_columns : (z cs y : List Cell) (m k : ℕ) → length z ≡ m → length cs ≡ k →
    Grows (z ++ cs) y → cells_at y (places m k) ≡ cs
grown_columns z cs y m k em ek g =
    both (λ (a b : ℕ). cells_at y (places a b)) _ _ _ _ (sym em) (sym ek)
    ∙ (ap (λ (r : List Cell). cells_at r (places (length z) (length cs))) (sym g.1
    ∙ append_assoc z cs g.0) ∙ places_after z cs g.0)

-- the columns that stood before
pub first_columns : (q z : List Cell) (n : ℕ) → length q ≡ n → Grows q z →
    cells_at z (places 0 n) ≡ q
first_columns q z n e g = ap (λ (k : ℕ). cells_at z (places 0 k)) (sym e) ∙
    (ap (λ (r : List Cell). cells_at r (places 0 (length q))) (sym g.1) ∙ places_all q g.0)

pub shown_at : (r : Row) (i : ℕ) → cell_at (shown r) i ≡ Val (value_at r i)
shown_at [] i = refl
shown_at (v ∷ r) zero = refl
shown_at (v ∷ r) (suc i) = shown_at r i

pub shown_long : (r : Row) → length (shown r) ≡ length r
shown_long r = length-map r Val
