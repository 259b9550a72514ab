-- Nodes that all add cells to a row, and then one that keeps some of them.
use Rattle.std.proofs.Common.{◌≡◌, ℕ, ℤ, zero, suc, ◌+◌, ◌<◌, ◌≤◌, List, [], ◌∷◌, ◌++◌}
use Rattle.std.proofs.Common.{length, take, get_or, slice_index_or, refl, sym, ap, ◌∙◌, arith}
use Rattle.sql_values.specs.declared.value.Value.{Value}
use Rattle.sql_values.specs.declared.value.Value.TheVariants.{Int}
use Rattle.row_types.specs.declared.cell.Cell.{Cell}
use Rattle.row_types.specs.declared.cell.Cell.TheVariants.{Val}
use Rattle.rel_algebra.specs.declared.plan.Node.{Node}
use Rattle.rel_algebra.specs.declared.plan.Node.TheVariants.{Extend, Keep}
use Rattle.rel_algebra.specs.declared.scalar.Scalar.{Scalar}
use Rattle.rel_algebra.specs.Plan.{cell_at, cells_of, cells_at}
use Rattle.rel_algebra.specs.PlanView.{scalars_of}
use Rattle.plan_scalars.specs.Sights.{sight_of}
use Rattle.region_steps.specs.Chains.{chain_cells, node_cells}
use Rattle.region_steps.specs.Idle.{IsKept, IsNotAt}
use Rattle.region_steps.proofs.Cells.{cell_front, cells_width, kept_all}

pub chain_append : (ns ms : List Node) (row : List Cell) (o : List (List Cell))
    (args : List Value) → chain_cells (ns ++ ms) row o args ≡ chain_cells ms (chain_cells ns row o args) o args
chain_append [] ms row o args = refl
chain_append (n ∷ ns) ms row o args = chain_append ns ms (node_cells n row o args) o args

length_both : (xs ys : List Cell) → length (xs ++ ys) ≡ length xs + length ys
length_both [] ys = omega arith
length_both (x ∷ xs) ys = omega (arith, length_both xs ys)

take_front : (xs ys : List Cell) (n : ℕ) → n ≤ length xs → take n (xs ++ ys) ≡ take n xs
take_front [] ys zero l = refl
take_front [] ys (suc n) l = absurd (omega (arith, l))
take_front (x ∷ xs) ys zero l = refl
take_front (x ∷ xs) ys (suc n) l = ap (λ zs. x ∷ zs) (take_front xs ys n (omega (arith, l)))

-- what a row grows to
abbrev pub Grown : List Node → ℕ → ℕ → Type 0
Grown ns width wide = (row : List Cell) (outer : List (List Cell)) (args : List Value) →
    length row ≡ width →
    (take width (chain_cells ns row outer args) ≡ row)
    × (length (chain_cells ns row outer args) ≡ wide)

take_whole : (xs : List Cell) (n : ℕ) → length xs ≡ n → take n xs ≡ xs
take_whole [] zero e = refl
take_whole [] (suc n) e = refl
take_whole (x ∷ xs) zero e = absurd (omega (arith, e))
take_whole (x ∷ xs) (suc n) e = ap (λ zs. x ∷ zs) (take_whole xs n (omega (arith, e)))

pub none_grown : (width : ℕ) → Grown [] width width
none_grown width row outer args l = (take_whole row width l, l)

take_at : (ns : List Node) (i : ℕ) (n : Node) → i < length ns → n ≡ slice_index_or ns i n →
    take (suc i) ns ≡ take i ns ++ n ∷ []
take_at [] i n l h = absurd (omega (arith, l))
take_at (m ∷ ns) zero n l h = ap (λ x. x ∷ []) (sym h)
take_at (m ∷ ns) (suc i) n l h = ap (λ xs. m ∷ xs) (take_at ns i n (omega (arith, l)) h)

-- cells were added to it
pub one_grown : (ns : List Node) (i : ℕ) (n : Node) (ss : List Scalar) (width wide new : ℕ) →
    i < length ns → n ≡ slice_index_or ns i n → n ≡ Extend ss → width ≤ wide →
    new ≡ wide + length ss → Grown (take i ns) width wide → Grown (take (i + 1) ns) width new
one_grown ns i n ss width wide new l h e w m g row outer args r =
    let so = chain_cells (take i ns) row outer args in
    let up : i + 1 ≡ suc i = omega arith in
    let before = g row outer args r in
    let is : chain_cells (take (i + 1) ns) row outer args ≡
    so ++ cells_of (scalars_of ss) (sight_of so outer args) =
    ap (λ j. chain_cells (take j ns) row outer args) up
    ∙ (ap (λ xs. chain_cells xs row outer args) (take_at ns i n l h)
    ∙ (chain_append (take i ns) (n ∷ []) row outer args
    ∙ ap (λ x. node_cells x so outer args) e)) in
    let more : List Cell = cells_of (scalars_of ss) (sight_of so outer args) in
    let len : length (so ++ more) ≡ length so + length more = length_both so more in (
      ap (take width) is ∙ (take_front so more width (omega (arith, w, before.1)) ∙ before.0),
      ap length is ∙ omega (arith, len, before.1, m, cells_width ss (sight_of so outer args)),
    )

cell_taken : (xs : List Cell) (n k : ℕ) → k < n → cell_at (take n xs) k ≡ cell_at xs k
cell_taken xs zero k l = absurd (omega (arith, l))
cell_taken [] (suc n) k l = refl
cell_taken (x ∷ xs) (suc n) zero l = refl
cell_taken (x ∷ xs) (suc n) (suc k) l = cell_taken xs n k (omega (arith, l))

some_first : (row : List Cell) (n : ℤ) → cell_at row 0 ≡ Val (Int n) → 0 < length row
some_first [] n h = cc
some_first (c ∷ row) n h = omega arith

-- at another number the first cells stay
pub idle_nodes : (ns front : List Node) (ss : List Scalar) (ps : List ℕ) (code : ℤ)
    (width wide : ℕ) → ns ≡ front ++ (Extend ss ∷ Keep ps ∷ []) → Grown front width wide →
    length ps ≤ width → ((k : ℕ) → k < length ps → IsKept ss code wide (get_or ps k 0) k) →
    (row : List Cell) (outer : List (List Cell)) (args : List Value) → length row ≡ width →
    IsNotAt code row → chain_cells ns row outer args ≡ take (length ps) row
idle_nodes ns front ss ps code width wide e g l h row outer args r not_at =
    let f = chain_cells front row outer args in
    let full = f ++ cells_of (scalars_of ss) (sight_of f outer args) in
    let grown = g row outer args r in
    let pos = some_first row not_at.0 not_at.1.0 in
    let same : (k : ℕ) → k < width → cell_at f k ≡ cell_at row k =
    λ k b. sym (cell_taken f width k b) ∙ ap (λ xs. cell_at xs k) grown.0 in
    let there : IsNotAt code f =
    (not_at.0, (same 0 (omega (arith, pos, r)) ∙ not_at.1.0, not_at.1.1))
    in
    ap (λ (xs : List Node). chain_cells xs row outer args) e
    ∙ (chain_append front (Extend ss ∷ Keep ps ∷ []) row outer args
    ∙ kept_all full row ps (omega (arith, l, r))
    (λ k b. h k b f outer args grown.1 there ∙ same k (omega (arith, b, l))))
