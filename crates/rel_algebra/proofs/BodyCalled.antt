-- What a call emits of a body, in the terms of all else that is emitted: that it is right, can be
-- removed, fits, uses no row further outside, lasts and moves.
use Rattle.std.proofs.Common.{◌≡◌, ℕ, suc, ◌+◌, Bool, true, false, ◌&&◌, ◌||◌, List, [], ◌∷◌}
use Rattle.std.proofs.Common.{length, refl, sym, ap, ◌∙◌, arith}
use Rattle.sql_values.specs.declared.value.Value.{Value}
use Rattle.sql_values.specs.declared.value.Value.TheVariants.{Null, Int, Str, Bool as Truth}
use Rattle.sql_values.specs.declared.value.SqlType.{SqlType}
use Rattle.row_types.specs.declared.cell.Cell.{Cell}
use Rattle.row_types.specs.declared.cell.Cell.TheVariants.{Val}
use Rattle.rel_algebra.specs.Environments.{Env, Place, at, given, nowhere, outward, read}
use Rattle.rel_algebra.specs.Endings.{cell_end, value_at}
use Rattle.rel_algebra.specs.MovedPlans.{Move, moved, moved_scalar, moved_scalars, moved_tree}
use Rattle.rel_algebra.specs.Scopes.{Inputs, columns_in}
use Rattle.rel_algebra.specs.Plan.{anew, apply_by, cell_of, cells_of, collapse, den, more}
use Rattle.rel_algebra.specs.Plan.{Scalar, Sight, coalesce_cell, no_node, scalar_count, shown}
use Rattle.rel_algebra.specs.Plan.{sight, single}
use Rattle.rel_algebra.proofs.BodyDeclares.{null_cell}
use Rattle.rel_algebra.specs.Removal.{all_removable, is_chain, is_region, nodes_removable, phase}
use Rattle.rel_algebra.specs.Removal.{removable, stays, stays_all, tree_within, nodes_within}
use Rattle.rel_algebra.specs.Agreement.{outside}
use Rattle.rel_algebra.specs.WellFormed.{scalar_fits, scalars_fit, tree_fits}
use Rattle.rel_algebra.proofs.FittingNodes.{EnvFits, Fit, lt_less, PlaceFits}
use Rattle.rel_algebra.proofs.Nodes.{Reads, Yields, asked_yields, outward_reads}
use Rattle.rel_algebra.proofs.Truths.{and_true}
use Rattle.rel_algebra.proofs.Growing.{grows_same}
use Rattle.rel_algebra.proofs.Moves.{EnvMoved, moved_place, own_column, wide}
use Rattle.rel_algebra.specs.Bodies.{Body, Routine, parameters_of}
use Rattle.rel_algebra.specs.BodyChain.{called_body, called_where, inline_with, null_of, of_type}
use Rattle.rel_algebra.specs.BodyChain.{read_outward}
use Rattle.rel_algebra.specs.BodyMeaning.{call}
use Rattle.rel_algebra.specs.Leaves.{Widths}
use Rattle.rel_algebra.proofs.BodyCalls.{one_collapsed}
use Rattle.rel_algebra.proofs.BodyChain.{inlines_with}
use Rattle.rel_algebra.proofs.BodyFits.{well_formed}
use Rattle.rel_algebra.proofs.BodyHeld.{RoutineFits, RoutineRemovable, RoutineRight}
use Rattle.rel_algebra.proofs.BodyInward.{RoutineWithin, chain_within}
use Rattle.rel_algebra.proofs.BodyMoved.{RoutineStays, inline_moved}
use Rattle.rel_algebra.proofs.BodyRemovals.{chain_over_unit, chain_removable}

outward_count : (e : Env) (i : ℕ) (ts : List SqlType) →
    scalar_count (read_outward e i ts) ≡ length ts
outward_count e i [] = refl
outward_count e i (t ∷ ts) = ap suc (outward_count e (suc i) ts)

-- ---- it is right

-- a value is the same as one of a type
value_stands : (v : Value) → coalesce_cell (Val v ∷ Val Null ∷ []) ≡ Val v
value_stands Null = refl
value_stands (Int n) = refl
value_stands (Str t) = refl
value_stands (Truth b) = refl

typed_cell : (t : SqlType) (s : Scalar) (z : Sight) (v : Value) → cell_of s z ≡ Val v →
    cell_of (of_type t s) z ≡ Val v
typed_cell t s z v h =
    ap (λ (c : Cell). coalesce_cell (c ∷ cell_of (null_of t) z ∷ [])) h
    ∙ (ap (λ (c : Cell). coalesce_cell (Val v ∷ c ∷ [])) (null_cell t z) ∙ value_stands v)

outward_cells : (e : Env) (w : Inputs) (o : List (List Cell)) (q : List Cell) (ts : List SqlType)
    (vs : List Value) (i : ℕ) → length vs ≡ length ts → ((j : ℕ) →
    cell_of (read (e.params (i + j))) (outside w (q ∷ o)) ≡ Val (value_at vs j)) →
    cells_of (read_outward e i ts) (sight w (q ∷ o) []) ≡ shown vs
outward_cells e w o q [] [] i l h = refl
outward_cells e w o q (t ∷ ts) (v ∷ vs) i l h =
    let read_here : cell_of (read (outward (e.params i))) (sight w (q ∷ o) []) ≡ Val v =
    outward_reads (e.params i) w (q ∷ o) []
    ∙ (ap (λ (j : ℕ). cell_of (read (e.params j)) (outside w (q ∷ o)))
    (let e0 : i ≡ i + 0 = omega arith in e0) ∙ h 0) in
    let here = typed_cell t (read (outward (e.params i))) (sight w (q ∷ o) []) v read_here in
    let rest = outward_cells e w o q ts vs (suc i) (omega (arith, l))
    (λ j. ap (λ (m : ℕ). cell_of (read (e.params m)) (outside w (q ∷ o)))
    (let e1 : suc i + j ≡ i + suc j = omega arith in e1) ∙ h (suc j)) in
    λ x. here x ∷ rest x
outward_cells e w o q [] (v ∷ vs) i l h = absurd (omega (arith, l))
outward_cells e w o q (t ∷ ts) [] i l h = absurd (omega (arith, l))

-- Where an environment has as many values as the function has parameters, the region's one row is
-- the value or the area of the call.
pub call_collapsed : (r : Routine) (w : Inputs) → RoutineRight w r → (o : List (List Cell))
    (vs : List Value) (e : Env) (q : List Cell) → length vs ≡ length (parameters_of r) →
    Reads e w o (record { rows = []; params = vs }) q →
    collapse single (Val Null)
    (den (inline_with r (columns_in w) (read_outward e 0 (parameters_of r))) w (q ∷ o))
    ≡ cell_end (call r vs w) ∷ []
call_collapsed r w right o vs e q k reads =
    let params = read_outward e 0 (parameters_of r) in
    let here = reads q (grows_same q) in
    let cells : cells_of params (sight w (q ∷ o) []) ≡ shown vs =
    outward_cells e w o q (parameters_of r) vs 0 k
    (λ j. ap (λ (m : ℕ). cell_of (read (e.params m)) (outside w (q ∷ o)))
    (let e0 : 0 + j ≡ j = omega arith in e0) ∙ here.1 j) in
    ap (collapse single (Val Null)) (inlines_with r w (q ∷ o) params vs right k cells)
    ∙ one_collapsed (call r vs w)

-- The Apply adds it.
pub called_right : (r : Routine) (w : Inputs) → RoutineRight w r → (o : List (List Cell))
    (vs : List Value) (e : Env) (n : ℕ) (q : List Cell) → length q ≡ n →
    length vs ≡ length (parameters_of r) →
    Reads e w o (record { rows = []; params = vs }) q →
    Yields (called_body r (columns_in w) e n) w o q (cell_end (call r vs w))
called_right r w right o vs e n q l k reads =
    asked_yields single (inline_with r (columns_in w) (read_outward e 0 (parameters_of r))) n w o q
    (cell_end (call r vs w)) l (call_collapsed r w right o vs e q k reads)

-- ---- it can be removed

by_region : (a b c : Bool) → c ≡ true → (a || (b || (c && true))) ≡ true
by_region true b c h = refl
by_region false true c h = refl
by_region false false c h = and_true c true h refl

-- whatever is tested before
pub called_removable : (when : Scalar) (r : Routine) (S : Widths) → RoutineRemovable S r →
    (e : Env) (n : ℕ) → nodes_removable (called_where when r S e n).nodes ≡ true
called_removable when r S h e n =
    let params = read_outward e 0 (parameters_of r) in let t = inline_with r S params in
    and_true (removable single t && all_removable t) true
    (and_true (removable single t) (all_removable t)
    (by_region (tree_within t 0) (is_chain (phase t)) (is_region t) (chain_over_unit r S params))
    (chain_removable r S params h)) refl

-- ---- it fits

outward_fit : (p : Place) (ws : List ℕ) (ps : ℕ) → PlaceFits p ws ps →
    scalar_fits (read (outward p)) (0 ∷ ws) ps ≡ true
outward_fit (at level i) ws ps h = h
outward_fit (given i) ws ps h = h
outward_fit nowhere ws ps h = refl

outward_fits_all : (e : Env) (i : ℕ) (ts : List SqlType) (ws : List ℕ) (ps : ℕ) →
    EnvFits e ws ps → scalars_fit (read_outward e i ts) (0 ∷ ws) ps ≡ true
outward_fits_all e i [] ws ps h = refl
outward_fits_all e i (t ∷ ts) ws ps h =
    let s = read (outward (e.params i)) in
    and_true (scalar_fits s (0 ∷ ws) ps && true)
    (scalars_fit (read_outward e (suc i) ts) (0 ∷ ws) ps)
    (and_true (scalar_fits s (0 ∷ ws) ps) true (outward_fit (e.params i) ws ps (h.1 i)) refl)
    (outward_fits_all e (suc i) ts ws ps h)

pub called_fits : (r : Routine) (S : Widths) → RoutineFits S r → (e : Env) (n : ℕ) (ws : List ℕ)
    (ps : ℕ) → EnvFits e (n ∷ ws) ps → Fit (called_body r S e n) S n ws ps
called_fits (Body types returns body) S h e n ws ps v =
    let r = Body types returns body in
    let params = read_outward e 0 types in let t = inline_with r S params in (
      and_true (tree_fits t S (n ∷ ws) ps) true
          (well_formed r S params (n ∷ ws) ps h (outward_fits_all e 0 types (n ∷ ws) ps v)
          (outward_count e 0 types)) refl,
      lt_less n (n + 1) (omega arith),
    )

-- ---- it uses no row further outside

outward_stays : (e : Env) (i n : ℕ) (ts : List SqlType) →
    ((j : ℕ) → stays (read (e.params j)) n ≡ true) →
    stays_all (read_outward e i ts) (suc n) ≡ true
outward_stays e i n [] h = refl
outward_stays e i n (t ∷ ts) h =
    let s = read (outward (e.params i)) in
    and_true (stays s (suc n) && true) (stays_all (read_outward e (suc i) ts) (suc n))
    (and_true (stays s (suc n)) true (one (e.params i) (h i)) refl)
    (outward_stays e (suc i) n ts h)
  where
    one : (p : Place) → stays (read p) n ≡ true → stays (read (outward p)) (suc n) ≡ true
    one (at level j) g = g
    one (given j) g = refl
    one nowhere g = refl

pub called_within : (r : Routine) (S : Widths) (n : ℕ) → RoutineWithin S (suc n) r → (e : Env)
    (m : ℕ) → ((j : ℕ) → stays (read (e.params j)) (suc n) ≡ true) →
    (nodes_within (called_body r S e m).nodes n ≡ true)
    × (stays (called_body r S e m).scalar (suc n) ≡ true)
called_within r S n h e m g =
    let types = parameters_of r in let params = read_outward e 0 types in (
      and_true (tree_within (inline_with r S params) (suc n)) true
          (chain_within r S (suc n) params h (outward_stays e 0 (suc n) types g)) refl,
      refl,
    )

-- ---- it moves

outward_moves : (e e' : Env) (v : Move) (d i : ℕ) (ts : List SqlType) → EnvMoved v d e e' →
    moved_scalars v (suc d) (read_outward e i ts) ≡ read_outward e' i ts
outward_moves e e' v d i [] h = refl
outward_moves e e' v d i (t ∷ ts) h = λ x.
    more (of_type t
    ((one (e.params i) ∙ ap (λ (p : Place). read (outward p)) (sym (h.params i))) x))
    (outward_moves e e' v d (suc i) ts h x)
  where
    one : (p : Place) → moved_scalar v (suc d) (read (outward p))
        ≡ read (outward (moved_place v d p))
    one (at level j) = refl
    one (given j) = refl
    one nowhere = refl

pub called_moved : (when when' : Scalar) (r : Routine) (S : Widths) (v : Move) (d : ℕ) →
    moved_scalar v d when ≡ when' → RoutineStays S v (suc d) r →
    (e e' : Env) (j : ℕ) → EnvMoved v d e e' →
    called_where when' r S e' (wide v d j) ≡ moved v d (called_where when r S e j)
called_moved when when' r S v d g h e e' j m =
    let types = parameters_of r in
    let p : moved_tree v d (inline_with r S (read_outward e 0 types))
    ≡ inline_with r S (read_outward e' 0 types) =
    inline_moved r S v d (read_outward e 0 types) h
    ∙ ap (inline_with r S) (outward_moves e e' v d 0 types m) in
    λ i. record {
      nodes = apply_by (sym g i) single anew (sym p i) no_node;
      scalar = own_column v d j i;
    }
