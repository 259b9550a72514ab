-- Calls of functions with statements, as regions.
use Rattle.std.proofs.Common.{◌≡◌, ℕ, zero, suc, ◌+◌, true, List, [], ◌∷◌, ◌++◌, length, map, Ok}
use Rattle.std.proofs.Common.{Err, refl, sym, ap, ◌∙◌, subst, arith}
use Rattle.sql_values.specs.declared.value.Value.{Value}
use Rattle.sql_values.specs.declared.value.Value.TheVariants.{Null, Bool as Truth}
use Rattle.row_types.specs.Rows.{Row}
use Rattle.row_types.specs.declared.cell.Cell.{Cell}
use Rattle.row_types.specs.declared.cell.Cell.TheVariants.{Val, Cond}
use Rattle.rel_algebra.specs.Emissions.{all_values, called_region}
use Rattle.rel_algebra.specs.Endings.{Ending, after, cell_end}
use Rattle.rel_algebra.specs.Joins.{places}
use Rattle.rel_algebra.specs.Scopes.{Inputs, columns_in}
use Rattle.rel_algebra.specs.Plan.{applied, cell_at, cell_of, cells_at, cells_of, collapse}
use Rattle.rel_algebra.specs.Plan.{collapse_as, collected, den, sight, single, values_of, added}
use Rattle.rel_algebra.specs.Agreement.{one_cell}
use Rattle.rel_algebra.proofs.Growing.{grows_same, grown_column, grown_columns, shown_long, Grows}
use Rattle.rel_algebra.proofs.Nodes.{wider}
use Rattle.rel_algebra.proofs.Rows.{AreCells, are_cells}
use Rattle.rel_algebra.proofs.Words.{checks_guard, guard}
use Rattle.rel_algebra.specs.BodyMeaning.{call, called_with}
use Rattle.rel_algebra.proofs.BodyHeld.{RoutineRight}
use Rattle.rel_algebra.specs.Bodies.{Routine, parameters_of}
use Rattle.rel_algebra.specs.BodyChain.{outer_columns, region}
use Rattle.rel_algebra.proofs.BodyChain.{inlines_with}
use Rattle.sql_conditions.specs.Conditions.{Area}

outer_cells : (w : Inputs) (o : List (List Cell)) (q : List Cell) (m k : ℕ) →
    cells_of (outer_columns m k) (sight w (q ∷ o) []) ≡ cells_at q (places m k)
outer_cells w o q m zero = refl
outer_cells w o q m (suc k) = ap (λ (cs : List Cell). cell_at q m ∷ cs)
    (outer_cells w o q (suc m) k)

pub one_collapsed : (E : Ending Value) → collapse single (Val Null) (one_cell (cell_end E))
    ≡ cell_end E ∷ []
one_collapsed (Ok v) = refl
one_collapsed (Err a) = refl

-- A call, whose arguments stand in the columns from m on: the column that the region adds is the
-- value of the call, or the area of the first argument that has one, or that of the call.
pub calls_by_region : (r : Routine) (w : Inputs) (o : List (List Cell)) (z cs : List Cell)
    (m k : ℕ) → RoutineRight w r → k ≡ length (parameters_of r) → length z ≡ m → length cs ≡ k →
    let a = called_region (region r (columns_in w)) m k in
    cell_of a.scalar (sight w o (added a.nodes w o (z ++ cs))) ≡ cell_end (called_with r w cs)
calls_by_region r w o z cs m k right kp lz lc =
    let q = z ++ cs in let inner = region r (columns_in w) m k in
    let here : cells_at q (places m k) ≡ cs = grown_columns z cs q m k lz lc (grows_same q) in
    let when : cell_of (all_values (places m k)) (sight w o q) ≡ guard (values_of cs) = checks_guard
    (places m k) w o q ∙ ap (λ (ds : List Cell). guard (values_of ds)) here in
    let cells : map (applied (cell_of (all_values (places m k)) (sight w o q)))
    (collapse single (Val Null) (den inner w (q ∷ o))) ≡ cell_end (called_with r w cs) ∷ [] =
    ap (λ (c : Cell). map (applied c) (collapse single (Val Null) (den inner w (q ∷ o)))) when
    ∙ by_end (values_of cs) (are_cells cs) in
    grown_column q (q ++ map (applied (cell_of (all_values (places m k)) (sight w o q)))
    (collapse single (Val Null) (den inner w (q ∷ o)))) (cell_end (called_with r w cs)) (m + k)
    (wider z cs m k lz lc)
    (subst (λ (ds : List Cell). Grows (q ++ ds)
    (q ++ map (applied (cell_of (all_values (places m k)) (sight w o q)))
    (collapse single (Val Null) (den inner w (q ∷ o))))) cells
    (grows_same (q ++ map (applied (cell_of (all_values (places m k)) (sight w o q)))
    (collapse single (Val Null) (den inner w (q ∷ o))))))
  where
    raised : (a : Area) (xs : List Cell) → length xs ≡ 1 → map (applied (Cond a)) xs ≡ Cond a ∷ []
    raised a [] h = absurd (omega (arith, h))
    raised a (x ∷ []) h = refl
    raised a (x ∷ y ∷ xs) h = absurd (omega (arith, h))

    one_long : (E : Ending (List Row)) → length (collapse_as single (Val Null) E) ≡ 1
    one_long (Ok rs) = refl
    one_long (Err a) = refl

    by_end : (E : Ending Row) → AreCells E cs →
        map (applied (guard E)) (collapse single (Val Null)
        (den (region r (columns_in w) m k) w ((z ++ cs) ∷ o))) ≡ cell_end
        (after E (λ vs. call r vs w)) ∷ []
    by_end (Err a) h = raised a (collapse single (Val Null)
        (den (region r (columns_in w) m k) w ((z ++ cs) ∷ o)))
        (one_long (collected (den (region r (columns_in w) m k) w ((z ++ cs) ∷ o))))
    by_end (Ok vs) h =
        let q = z ++ cs in
        let long : length vs ≡ length (parameters_of r) = sym (shown_long vs)
        ∙ (ap (λ (xs : List Cell). length xs) (sym h) ∙ (lc ∙ kp)) in
        let means : den (region r (columns_in w) m k) w (q ∷ o) ≡ one_cell
        (cell_end (call r vs w)) =
        inlines_with r w (q ∷ o) (outer_columns m k) vs right long
        (outer_cells w o q m k ∙ (grown_columns z cs q m k lz lc (grows_same q) ∙ h)) in
        ap (λ rows. map (applied (Val (Truth true))) (collapse single (Val Null) rows)) means
        ∙ ap (map (applied (Val (Truth true)))) (one_collapsed (call r vs w))
