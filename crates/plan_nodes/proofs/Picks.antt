-- Cells after the cells of a row, and nodes after nodes.
use Rattle.std.proofs.Common.{◌≡◌, ℕ, zero, suc, ◌+◌, ◌-◌, ◌<◌, ◌≤◌, List, [], ◌∷◌, ◌++◌}
use Rattle.std.proofs.Common.{length, take, drop, slice_index_or, Some, refl, sym, ap, ◌∙◌, arith}
use Rattle.std.specs.Prelude.{slice_get}
use Rattle.std.proofs.lemmas.List.{append-nil, append_assoc, drop_more}
use Rattle.sql_values.specs.declared.value.Value.{Value}
use Rattle.sql_values.specs.declared.value.Value.TheVariants.{Null}
use Rattle.row_types.specs.declared.cell.Cell.{Cell}
use Rattle.row_types.specs.declared.cell.Cell.TheVariants.{Val}
use Rattle.rel_algebra.specs.declared.scalar.Scalar.{Scalar}
use Rattle.rel_algebra.specs.declared.plan.Node.{Node}
use Rattle.rel_algebra.specs.declared.plan.Node.TheVariants.{Extend, Keep}
use Rattle.rel_algebra.specs.Joins.{places}
use Rattle.rel_algebra.specs.Plan.{Sight, cell_at, cell_of, cells_of, cells_at}
use Rattle.rel_algebra.specs.PlanView.{scalar_of, scalars_of}
use Rattle.plan_scalars.specs.Sights.{sight_of}
use Rattle.plan_nodes.specs.Fates.{RowOutcome, Stays, Gone, Raises, fate, node_fate, go_on}

pub cell_front : (xs ys : List Cell) (i : ℕ) → i < length xs → cell_at (xs ++ ys) i ≡ cell_at xs i
cell_front [] ys i l = absurd (omega (arith, l))
cell_front (x ∷ xs) ys zero l = refl
cell_front (x ∷ xs) ys (suc i) l = cell_front xs ys i (omega (arith, l))

pub cell_following : (xs ys : List Cell) (i : ℕ) → length xs ≤ i →
    cell_at (xs ++ ys) i ≡ cell_at ys (i - length xs)
cell_following [] ys i l = ap (λ n. cell_at ys n) (omega arith)
cell_following (x ∷ xs) ys zero l = absurd (omega (arith, l))
cell_following (x ∷ xs) ys (suc i) l = cell_following xs ys i (omega (arith, l)) ∙
    ap (λ n. cell_at ys n) (omega arith)

pub cell_scalar : (ss : List Scalar) (s : Sight) (i : ℕ) (x : Scalar) → i < length ss →
    x ≡ slice_index_or ss i x → cell_at (cells_of (scalars_of ss) s) i ≡ cell_of (scalar_of x) s
cell_scalar [] s i x l h = absurd (omega (arith, l))
cell_scalar (y ∷ ss) s zero x l h = ap (λ z. cell_of (scalar_of z) s) (sym h)
cell_scalar (y ∷ ss) s (suc i) x l h = cell_scalar ss s i x (omega (arith, l)) h

pub cell_none : (ss : List Scalar) (s : Sight) (i : ℕ) → length ss ≤ i →
    cell_at (cells_of (scalars_of ss) s) i ≡ Val Null
cell_none [] s i l = refl
cell_none (y ∷ ss) s zero l = absurd (omega (arith, l))
cell_none (y ∷ ss) s (suc i) l = cell_none ss s i (omega (arith, l))

go_on_twice : (f : RowOutcome) (g h : List Cell → RowOutcome) →
    go_on (go_on f g) h ≡ go_on f (λ r. go_on (g r) h)
go_on_twice (Stays r) g h = refl
go_on_twice Gone g h = refl
go_on_twice (Raises a) g h = refl

go_on_same : (f : RowOutcome) (g h : List Cell → RowOutcome) → ((r : List Cell) → g r ≡ h r) →
    go_on f g ≡ go_on f h
go_on_same (Stays r) g h e = e r
go_on_same Gone g h e = refl
go_on_same (Raises a) g h e = refl

pub fate_append : (ns ms : List Node) (row : List Cell) (o : List (List Cell)) (args : List Value) →
    fate (ns ++ ms) row o args ≡ go_on (fate ns row o args) (λ r. fate ms r o args)
fate_append [] ms row o args = refl
fate_append (n ∷ ns) ms row o args =
    go_on_same (node_fate n row o args) _ _ (λ r. fate_append ns ms r o args) ∙
    sym (go_on_twice (node_fate n row o args) (λ r. fate ns r o args) (λ r. fate ms r o args))

last_at : {A : Type 0} (xs : List A) (n : ℕ) (x : A) → length xs ≡ suc n → slice_get xs n ≡ Some x →
    xs ≡ take n xs ++ x ∷ []
last_at [] n x l h = cc
last_at (y ∷ []) zero x l h = let e : y ≡ x = cc in ap (λ z. z ∷ []) e
last_at (y ∷ []) (suc n) x l h = cc
last_at (y ∷ z ∷ xs) zero x l h = absurd (omega (arith, l))
last_at (y ∷ z ∷ xs) (suc n) x l h = ap (λ ys. y ∷ ys) (last_at (z ∷ xs) n x (omega (arith, l)) h)

pub last_is : {A : Type 0} (xs : List A) (x : A) → slice_get xs (length xs - 1) ≡ Some x →
    xs ≡ take (length xs - 1) xs ++ x ∷ []
last_is [] x h = cc
last_is (y ∷ xs) x h = last_at (y ∷ xs) (length (y ∷ xs) - 1) x (omega arith) h

-- nodes, the last of which keeps cells
pub kept_last : (ns : List Node) (ps : List ℕ) (row : List Cell) (o : List (List Cell))
    (args : List Value) → slice_get ns (length ns - 1) ≡ Some (Keep ps) →
    fate ns row o args ≡ go_on (fate (take (length ns - 1) ns) row o args)
    (λ r. Stays (cells_at r ps))
kept_last ns ps row o args h =
    ap (λ (ms : List Node). fate ms row o args) (last_is ns (Keep ps) h) ∙
    fate_append (take (length ns - 1) ns) (Keep ps ∷ []) row o args

-- and the last of these adds cells
pub extended_last : (ns : List Node) (ss : List Scalar) (ps : List ℕ) (row : List Cell)
    (o : List (List Cell)) (args : List Value) → slice_get ns (length ns - 1) ≡ Some (Extend ss) →
    go_on (fate ns row o args) (λ r. Stays (cells_at r ps)) ≡ go_on
    (fate (take (length ns - 1) ns) row o args)
    (λ r. Stays (cells_at (r ++ cells_of (scalars_of ss) (sight_of r o args)) ps))
extended_last ns ss ps row o args h =
    let front = take (length ns - 1) ns in
    ap (λ (ms : List Node). go_on (fate ms row o args) (λ r. Stays (cells_at r ps)))
    (last_is ns (Extend ss) h)
    ∙ (ap (λ f. go_on f (λ r. Stays (cells_at r ps)))
    (fate_append front (Extend ss ∷ []) row o args)
    ∙ go_on_twice (fate front row o args) (λ r. fate (Extend ss ∷ []) r o args)
    (λ r. Stays (cells_at r ps)))

pub plain_last : (ns : List Node) (ps : List ℕ) (row : List Cell) (o : List (List Cell))
    (args : List Value) →
    go_on (fate ns row o args) (λ r. Stays (cells_at r ps)) ≡ go_on (fate ns row o args)
    (λ r. Stays (cells_at (r ++ []) ps))
plain_last ns ps row o args = go_on_same (fate ns row o args) _ _
    (λ r. ap (λ x. Stays (cells_at x ps)) (sym (append-nil r)))

pub whole_last : (f : RowOutcome) → f ≡ go_on f (λ r. Stays r)
whole_last (Stays r) = refl
whole_last Gone = refl
whole_last (Raises a) = refl

cell_is : (row : List Cell) (i : ℕ) → slice_index_or row i (Val Null) ≡ cell_at row i
cell_is [] i = refl
cell_is (c ∷ row) zero = refl
cell_is (c ∷ row) (suc i) = cell_is row i

-- one cell more of a row
pub cell_more : (row : List Cell) (i : ℕ) (cs ds : List Cell) (c : Cell) (whole : List Cell) →
    i < length row → c ≡ cell_at row i → ds ≡ cs ++ c ∷ [] → cs ++ drop i row ≡ whole →
    ds ++ drop (i + 1) row ≡ whole
cell_more row i cs ds c whole l h e k =
    let at : drop i row ≡ c ∷ drop (i + 1) row = drop_more row i (Val Null) l ∙
    ap (λ x. x ∷ drop (i + 1) row) (cell_is row i ∙ sym h) in
    ap (λ xs. xs ++ drop (i + 1) row) e ∙ (append_assoc cs (c ∷ []) (drop (i + 1) row) ∙
    (ap (λ xs. cs ++ xs) (sym at) ∙ k))

-- one of the first cells more
pub front_cell : (row : List Cell) (i n : ℕ) (so : List Cell) (x : Cell) (new whole : List Cell) →
    i < n → x ≡ cell_at row i → new ≡ so ++ x ∷ [] →
    so ++ cells_at row (places i (n - i)) ≡ whole →
    new ++ cells_at row (places (i + 1) (n - (i + 1))) ≡ whole
front_cell row i n so x new whole l e m k =
    let up : i + 1 ≡ suc i = omega arith in
    let less : n - i ≡ suc (n - (i + 1)) = omega (arith, l) in
    let opened : places i (n - i) ≡ i ∷ places (i + 1) (n - (i + 1)) = ap (places i) less ∙
    ap (λ s. i ∷ places s (n - (i + 1))) (sym up) in
    ap (λ cs. cs ++ cells_at row (places (i + 1) (n - (i + 1))))
    (m ∙ ap (λ c. so ++ c ∷ []) e)
    ∙ (append_assoc so (cell_at row i ∷ []) (cells_at row (places (i + 1) (n - (i + 1))))
    ∙ (ap (λ ps. so ++ cells_at row ps) (sym opened) ∙ k))

pub no_cell : (row : List Cell) (i n : ℕ) (so whole : List Cell) → n ≤ i →
    so ++ cells_at row (places i (n - i)) ≡ whole → so ≡ whole
no_cell row i n so whole l k =
    let none : n - i ≡ 0 = omega (arith, l) in
    sym (append-nil so)
    ∙ (ap (λ m. so ++ cells_at row (places i m)) (sym none) ∙ k)
