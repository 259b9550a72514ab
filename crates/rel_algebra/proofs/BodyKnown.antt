-- What a call emits of a function that returns NULL on NULL input: the test of its parameters; and
-- that the call is right, fits, uses no row further outside and moves.
use Rattle.std.proofs.Common.{◌≡◌, ℕ, suc, ◌+◌, Bool, true, false, not, ◌&&◌, ◌||◌, List, [], ◌∷◌}
use Rattle.std.proofs.Common.{length, map, if◌then◌else◌, Ok, refl, sym, ap, ◌∙◌, arith}
use Rattle.std.specs.List.{list_any}
use Rattle.sql_values.specs.declared.value.Value.{Value}
use Rattle.sql_values.specs.declared.value.Value.TheVariants.{Null, Bool as Truth}
use Rattle.sql_values.specs.declared.value.SqlType.{SqlType}
use Rattle.sql_values.specs.Values.{is_null}
use Rattle.row_types.specs.declared.cell.Cell.{Cell}
use Rattle.row_types.specs.declared.cell.Cell.TheVariants.{Val}
use Rattle.rel_algebra.specs.Tree.{NullTest, Opposite}
use Rattle.rel_algebra.specs.Environments.{Env, Place, read}
use Rattle.rel_algebra.specs.Endings.{Ending, cell_end, op_value, value_at}
use Rattle.rel_algebra.specs.MovedPlans.{Move, moved, moved_scalar, moved_scalars}
use Rattle.rel_algebra.specs.Scopes.{Inputs, columns_in}
use Rattle.rel_algebra.specs.Plan.{Sight, and_cell, and_word, applied, cell_of, cells_of}
use Rattle.rel_algebra.specs.Plan.{more, none, sight, single, strict, strictly, word}
use Rattle.rel_algebra.specs.Removal.{nodes_within, stays, stays_all, tree_within}
use Rattle.rel_algebra.specs.WellFormed.{scalar_fits, scalars_fit, tree_fits}
use Rattle.rel_algebra.specs.Bodies.{Body, Routine, parameters_of}
use Rattle.rel_algebra.specs.BodyChain.{all_known, inline_with, known, known_body, knowns}
use Rattle.rel_algebra.specs.BodyChain.{read_outward}
use Rattle.rel_algebra.specs.BodyMeaning.{call}
use Rattle.rel_algebra.specs.Leaves.{Widths}
use Rattle.rel_algebra.proofs.FittingNodes.{EnvFits, Fit, read_fits}
use Rattle.rel_algebra.proofs.Growing.{grows_same}
use Rattle.rel_algebra.proofs.Moves.{EnvMoved, read_moved, wide}
use Rattle.rel_algebra.proofs.Nodes.{Reads, Yields, asked_where_yields}
use Rattle.rel_algebra.proofs.Truths.{and_true}
use Rattle.rel_algebra.proofs.BodyCalled.{call_collapsed, called_fits, called_moved, called_within}
use Rattle.rel_algebra.proofs.BodyHeld.{RoutineFits, RoutineRight}
use Rattle.rel_algebra.proofs.BodyInward.{RoutineWithin}
use Rattle.rel_algebra.proofs.BodyMoved.{RoutineStays}

-- ---- the test

known_cell : (p : Place) (z : Sight) (v : Value) → cell_of (read p) z ≡ Val v →
    cell_of (known p) z ≡ Val (Truth (not (is_null v)))
known_cell p z v h = ap (λ (c : Cell). strictly (op_value Opposite)
    (strictly (op_value NullTest) (c ∷ []) ∷ [])) h

first_known : (b c : Bool) (cs : List Cell) →
    and_cell (Truth true) cs ≡ Val (Truth (not c)) →
    and_cell (Truth true) (Val (Truth (not b)) ∷ cs) ≡ Val (Truth (not (b || c)))
first_known true c cs h = refl
first_known false c cs h = h

knowns_cell : (e : Env) (z : Sight) (vs : List Value) (ts : List SqlType) (i : ℕ) →
    length vs ≡ length ts →
    ((j : ℕ) → cell_of (read (e.params (i + j))) z ≡ Val (value_at vs j)) →
    and_cell (Truth true) (cells_of (knowns e i ts) z) ≡ Val (Truth (not (list_any is_null vs)))
knowns_cell e z [] [] i l h = refl
knowns_cell e z (v ∷ vs) (t ∷ ts) i l h =
    let cs = cells_of (knowns e (suc i) ts) z in
    let here = known_cell (e.params i) z v
    (ap (λ (j : ℕ). cell_of (read (e.params j)) z)
    (let e0 : i ≡ i + 0 = omega arith in e0) ∙ h 0) in
    let rest = knowns_cell e z vs ts (suc i) (omega (arith, l))
    (λ j. ap (λ (m : ℕ). cell_of (read (e.params m)) z)
    (let e1 : suc i + j ≡ i + suc j = omega arith in e1) ∙ h (suc j)) in
    ap (λ (c : Cell). and_cell (Truth true) (c ∷ cs)) here
    ∙ first_known (is_null v) (list_any is_null vs) cs rest
knowns_cell e z [] (t ∷ ts) i l h = absurd (omega (arith, l))
knowns_cell e z (v ∷ vs) [] i l h = absurd (omega (arith, l))

-- whether no value is NULL
test_cell : (e : Env) (z : Sight) (vs : List Value) (ts : List SqlType) →
    length vs ≡ length ts →
    ((j : ℕ) → cell_of (read (e.params j)) z ≡ Val (value_at vs j)) →
    cell_of (all_known e ts) z ≡ Val (Truth (not (list_any is_null vs)))
test_cell e z [] [] l h = refl
test_cell e z vs (t ∷ ts) l h = knowns_cell e z vs (t ∷ ts) 0 l
    (λ j. ap (λ (m : ℕ). cell_of (read (e.params m)) z) (let e0 : 0 + j ≡ j = omega arith in e0)
    ∙ h j)
test_cell e z (v ∷ vs) [] l h = absurd (omega (arith, l))

-- ---- it is right

unless_null : (b : Bool) (end : Ending Value) →
    applied (Val (Truth (not b))) (cell_end end) ≡ cell_end (if b then Ok Null else end)
unless_null true end = refl
unless_null false end = refl

-- Where an environment has as many values as the function has parameters, the Apply adds NULL where
-- one of them is NULL, and else the value or the area of the call.
pub known_right : (r : Routine) (w : Inputs) → RoutineRight w r → (o : List (List Cell))
    (vs : List Value) (e : Env) (n : ℕ) (q : List Cell) → length q ≡ n →
    length vs ≡ length (parameters_of r) →
    Reads e w o (record { rows = []; params = vs }) q →
    Yields (known_body r (columns_in w) e n) w o q
    (cell_end (if list_any is_null vs then Ok Null else call r vs w))
known_right r w right o vs e n q l k reads =
    let types = parameters_of r in let when = all_known e types in
    let end = call r vs w in let here = reads q (grows_same q) in
    let test : cell_of when (sight w o q) ≡ Val (Truth (not (list_any is_null vs))) =
    test_cell e (sight w o q) vs types k here.1 in
    let cells = call_collapsed r w right o vs e q k reads in
    asked_where_yields when single (inline_with r (columns_in w) (read_outward e 0 types)) n w o q
    (cell_end (if list_any is_null vs then Ok Null else end)) l
    ((λ i. map (applied (test i)) (cells i))
    ∙ ap (λ (c : Cell). c ∷ []) (unless_null (list_any is_null vs) end))

-- ---- it fits

knowns_fit : (e : Env) (i : ℕ) (ts : List SqlType) (ws : List ℕ) (ps : ℕ) → EnvFits e ws ps →
    scalars_fit (knowns e i ts) ws ps ≡ true
knowns_fit e i [] ws ps h = refl
knowns_fit e i (t ∷ ts) ws ps h =
    let s = scalar_fits (read (e.params i)) ws ps in
    and_true ((s && true) && true) (scalars_fit (knowns e (suc i) ts) ws ps)
    (and_true (s && true) true (and_true s true (read_fits (e.params i) ws ps (h.1 i)) refl) refl)
    (knowns_fit e (suc i) ts ws ps h)

test_fits : (e : Env) (ts : List SqlType) (ws : List ℕ) (ps : ℕ) → EnvFits e ws ps →
    scalar_fits (all_known e ts) ws ps ≡ true
test_fits e [] ws ps h = refl
test_fits e (t ∷ ts) ws ps h = knowns_fit e 0 (t ∷ ts) ws ps h

pub known_fits : (r : Routine) (S : Widths) → RoutineFits S r → (e : Env) (n : ℕ) (ws : List ℕ)
    (ps : ℕ) → EnvFits e (n ∷ ws) ps → Fit (known_body r S e n) S n ws ps
known_fits (Body types returns body) S h e n ws ps v =
    let r = Body types returns body in let f = called_fits r S h e n ws ps v in
    let t = inline_with r S (read_outward e 0 types) in
    let s = scalar_fits (all_known e types) (n ∷ ws) ps in (
      and_true (s && true) (tree_fits t S (n ∷ ws) ps && true)
          (and_true s true (test_fits e types (n ∷ ws) ps v) refl) f.0,
      f.1,
    )

-- ---- it uses no row further outside

knowns_stay : (e : Env) (i n : ℕ) (ts : List SqlType) →
    ((j : ℕ) → stays (read (e.params j)) n ≡ true) → stays_all (knowns e i ts) n ≡ true
knowns_stay e i n [] h = refl
knowns_stay e i n (t ∷ ts) h =
    let s = stays (read (e.params i)) n in
    and_true ((s && true) && true) (stays_all (knowns e (suc i) ts) n)
    (and_true (s && true) true (and_true s true (h i) refl) refl) (knowns_stay e (suc i) n ts h)

test_stays : (e : Env) (n : ℕ) (ts : List SqlType) →
    ((j : ℕ) → stays (read (e.params j)) n ≡ true) → stays (all_known e ts) n ≡ true
test_stays e n [] h = refl
test_stays e n (t ∷ ts) h = knowns_stay e 0 n (t ∷ ts) h

pub known_within : (r : Routine) (S : Widths) (n : ℕ) → RoutineWithin S (suc n) r → (e : Env)
    (m : ℕ) → ((j : ℕ) → stays (read (e.params j)) (suc n) ≡ true) →
    (nodes_within (known_body r S e m).nodes n ≡ true)
    × (stays (known_body r S e m).scalar (suc n) ≡ true)
known_within r S n h e m g =
    let types = parameters_of r in let s = stays (all_known e types) (suc n) in
    let t = inline_with r S (read_outward e 0 types) in (
      and_true (s && true) (tree_within t (suc n) && true)
          (and_true s true (test_stays e (suc n) types g) refl)
          (called_within r S n h e m g).0,
      refl,
    )

-- ---- it moves

knowns_moved : (e e' : Env) (v : Move) (d i : ℕ) (ts : List SqlType) → EnvMoved v d e e' →
    moved_scalars v d (knowns e i ts) ≡ knowns e' i ts
knowns_moved e e' v d i [] h = refl
knowns_moved e e' v d i (t ∷ ts) h =
    let here : moved_scalar v d (read (e.params i)) ≡ read (e'.params i) =
    sym (read_moved (e.params i) v d) ∙ ap read (sym (h.params i)) in
    λ x. more (word (strict Opposite) (more (word (strict NullTest) (more (here x) none)) none))
    (knowns_moved e e' v d (suc i) ts h x)

test_moved : (e e' : Env) (v : Move) (d : ℕ) (ts : List SqlType) → EnvMoved v d e e' →
    moved_scalar v d (all_known e ts) ≡ all_known e' ts
test_moved e e' v d [] h = refl
test_moved e e' v d (t ∷ ts) h = ap (word and_word) (knowns_moved e e' v d 0 (t ∷ ts) h)

pub known_moved : (r : Routine) (S : Widths) (v : Move) (d : ℕ) → RoutineStays S v (suc d) r →
    (e e' : Env) (j : ℕ) → EnvMoved v d e e' →
    known_body r S e' (wide v d j) ≡ moved v d (known_body r S e j)
known_moved r S v d h e e' j m =
    let types = parameters_of r in
    called_moved (all_known e types) (all_known e' types) r S v d (test_moved e e' v d types m) h
    e e' j m
