-- Cells after the cells of a row, and cells in the place of others.
use Rattle.std.proofs.Common.{◌≡◌, ◌≢◌, ℕ, zero, suc, ◌+◌, ◌-◌, ◌<◌, ◌≤◌, List, [], ◌∷◌, ◌++◌}
use Rattle.std.proofs.Common.{length, take, drop, slice_index_or, get_or, set, refl, sym, ap, ◌∙◌}
use Rattle.std.proofs.Common.{◌⊎◌, inl, inr, arith}
use Rattle.std.proofs.lemmas.List.{append-nil, append_assoc, drop_more}
use Rattle.sql_values.specs.declared.value.Value.TheVariants.{Null}
use Rattle.row_types.specs.declared.cell.Cell.{Cell}
use Rattle.row_types.specs.declared.cell.Cell.TheVariants.{Val}
use Rattle.rel_algebra.specs.declared.scalar.Scalar.{Scalar}
use Rattle.rel_algebra.specs.Joins.{places}
use Rattle.rel_algebra.specs.Plan.{Sight, cell_at, cell_of, cells_of, cells_at}
use Rattle.rel_algebra.specs.PlanView.{scalar_of, scalars_of}

pub cell_front : (xs ys : List Cell) (i : ℕ) → i < length xs → cell_at (xs ++ ys) i ≡ cell_at xs i
cell_front [] ys i l = absurd (omega (arith, l))
cell_front (x ∷ xs) ys zero l = refl
cell_front (x ∷ xs) ys (suc i) l = cell_front xs ys i (omega (arith, l))

pub cell_following : (xs ys : List Cell) (i : ℕ) → length xs ≤ i →
    cell_at (xs ++ ys) i ≡ cell_at ys (i - length xs)
cell_following [] ys i l = ap (λ n. cell_at ys n) (omega arith)
cell_following (x ∷ xs) ys zero l = absurd (omega (arith, l))
cell_following (x ∷ xs) ys (suc i) l = cell_following xs ys i (omega (arith, l)) ∙
    ap (λ n. cell_at ys n) (omega arith)

pub cell_scalar : (ss : List Scalar) (s : Sight) (i : ℕ) (x : Scalar) → i < length ss →
    x ≡ slice_index_or ss i x → cell_at (cells_of (scalars_of ss) s) i ≡ cell_of (scalar_of x) s
cell_scalar [] s i x l h = absurd (omega (arith, l))
cell_scalar (y ∷ ss) s zero x l h = ap (λ z. cell_of (scalar_of z) s) (sym h)
cell_scalar (y ∷ ss) s (suc i) x l h = cell_scalar ss s i x (omega (arith, l)) h

pub cells_width : (ss : List Scalar) (s : Sight) → length (cells_of (scalars_of ss) s) ≡ length ss
cells_width [] s = refl
cells_width (x ∷ ss) s = ap suc (cells_width ss s)

-- the first cells of a row are those at places of another
pub kept_all : (full row : List Cell) (ps : List ℕ) → length ps ≤ length row →
    ((k : ℕ) → k < length ps → cell_at full (get_or ps k 0) ≡ cell_at row k) →
    cells_at full ps ≡ take (length ps) row
kept_all full row [] l h = refl
kept_all full [] (p ∷ ps) l h = absurd (omega (arith, l))
kept_all full (c ∷ row) (p ∷ ps) l h =
    let first : cell_at full p ≡ c = h 0 (omega arith) in
    ap (λ x. x ∷ cells_at full ps) first ∙
    ap (λ xs. c ∷ xs) (kept_all full row ps (omega (arith, l))
    (λ k b. h (suc k) (omega (arith, b))))

pub cell_set_same : (xs : List Cell) (i : ℕ) (c : Cell) → i < length xs → cell_at (set xs i c) i ≡ c
cell_set_same [] i c l = absurd (omega (arith, l))
cell_set_same (x ∷ xs) zero c l = refl
cell_set_same (x ∷ xs) (suc i) c l = cell_set_same xs i c (omega (arith, l))

pub cell_set_other : (xs : List Cell) (i j : ℕ) (c : Cell) → j ≢ i →
    cell_at (set xs i c) j ≡ cell_at xs j
cell_set_other [] i j c h = refl
cell_set_other (x ∷ xs) zero zero c h = absurd (h refl)
cell_set_other (x ∷ xs) zero (suc j) c h = refl
cell_set_other (x ∷ xs) (suc i) zero c h = refl
cell_set_other (x ∷ xs) (suc i) (suc j) c h = cell_set_other xs i j c (λ e. h (ap suc e))

-- one of the first cells more
pub front_cell : (row : List Cell) (i n : ℕ) (so : List Cell) (x : Cell) (new whole : List Cell) →
    i < n → x ≡ cell_at row i → new ≡ so ++ x ∷ [] →
    so ++ cells_at row (places i (n - i)) ≡ whole →
    new ++ cells_at row (places (i + 1) (n - (i + 1))) ≡ whole
front_cell row i n so x new whole l e m k =
    let up : i + 1 ≡ suc i = omega arith in
    let less : n - i ≡ suc (n - (i + 1)) = omega (arith, l) in
    let opened : places i (n - i) ≡ i ∷ places (i + 1) (n - (i + 1)) = ap (places i) less ∙
    ap (λ s. i ∷ places s (n - (i + 1))) (sym up) in
    ap (λ cs. cs ++ cells_at row (places (i + 1) (n - (i + 1))))
    (m ∙ ap (λ c. so ++ c ∷ []) e)
    ∙ (append_assoc so (cell_at row i ∷ []) (cells_at row (places (i + 1) (n - (i + 1))))
    ∙ (ap (λ ps. so ++ cells_at row ps) (sym opened) ∙ k))

pub no_cell : (row : List Cell) (i n : ℕ) (so whole : List Cell) → n ≤ i →
    so ++ cells_at row (places i (n - i)) ≡ whole → so ≡ whole
no_cell row i n so whole l k =
    let none : n - i ≡ 0 = omega (arith, l) in
    sym (append-nil so)
    ∙ (ap (λ m. so ++ cells_at row (places i m)) (sym none) ∙ k)

pub set_itself : (xs : List Cell) (i : ℕ) → set xs i (cell_at xs i) ≡ xs
set_itself [] i = refl
set_itself (x ∷ xs) zero = refl
set_itself (x ∷ xs) (suc i) = ap (λ ys. x ∷ ys) (set_itself xs i)

-- ---- one cell more of those that a Keep keeps is in its place

last_or : (k i : ℕ) → k < i + 1 → (k < i) ⊎ (k ≡ i)
last_or zero zero l = inr refl
last_or zero (suc i) l = inl (omega arith)
last_or (suc k) zero l = absurd (omega (arith, l))
last_or (suc k) (suc i) l = elim (last_or k i (omega (arith, l))) [
  | inl a ↦ inl (omega (arith, a))
  | inr e ↦ inr (ap suc e)
]

module _ (cells new old : List Cell) (ps : List ℕ) (i : ℕ)
    (n : new ≡ set cells i (cell_at cells (get_or ps i 0))) where
  pub others_stay : (k : ℕ) → k ≢ i → cell_at new k ≡ cell_at cells k
  others_stay k d = ap (λ xs. cell_at xs k) n ∙
      cell_set_other cells i k (cell_at cells (get_or ps i 0)) d

  pub brought : i < length cells → cell_at new i ≡ cell_at cells (get_or ps i 0)
  brought l = ap (λ xs. cell_at xs i) n ∙ cell_set_same cells i (cell_at cells (get_or ps i 0)) l

  one_done : i < length cells → i ≤ get_or ps i 0 →
      ((k : ℕ) → k < i → cell_at cells k ≡ cell_at old (get_or ps k 0)) →
      ((k : ℕ) → i ≤ k → cell_at cells k ≡ cell_at old k) →
      (k : ℕ) → (k < i) ⊎ (k ≡ i) → cell_at new k ≡ cell_at old (get_or ps k 0)
  one_done l f done rest k (inl b) = others_stay k (λ e. omega (arith, b, e)) ∙ done k b
  one_done l f done rest k (inr e) = ap (λ j. cell_at new j) e ∙
      (brought l ∙ (rest (get_or ps i 0) f ∙ ap (λ j. cell_at old (get_or ps j 0)) (sym e)))

  pub all_done : i < length cells → i ≤ get_or ps i 0 →
      ((k : ℕ) → k < i → cell_at cells k ≡ cell_at old (get_or ps k 0)) →
      ((k : ℕ) → i ≤ k → cell_at cells k ≡ cell_at old k) →
      (k : ℕ) → k < i + 1 → cell_at new k ≡ cell_at old (get_or ps k 0)
  all_done l f done rest k b = one_done l f done rest k (last_or k i b)

  pub rest_stays : ((k : ℕ) → i ≤ k → cell_at cells k ≡ cell_at old k) →
      (k : ℕ) → i + 1 ≤ k → cell_at new k ≡ cell_at old k
  rest_stays rest k b = others_stay k (λ e. omega (arith, b, e)) ∙ rest k (omega (arith, b))
