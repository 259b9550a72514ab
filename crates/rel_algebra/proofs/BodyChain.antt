-- The chain of a function whose leaves are right, and what it gives.
use Rattle.std.proofs.Common.{false, ◌≡◌, ℕ, zero, suc, ◌+◌, List, [], ◌∷◌, ◌++◌, length, None, Ok}
use Rattle.std.proofs.Common.{refl, sym, ap, ◌∙◌, arith}
use Rattle.sql_values.specs.declared.value.Value.{Value}
use Rattle.sql_values.specs.declared.value.Value.TheVariants.{Null, Bool as Truth}
use Rattle.rel_algebra.proofs.BodyDeclares.{null_cell}
use Rattle.sql_values.specs.declared.value.SqlType.{SqlType}
use Rattle.sql_values.specs.declared.operators.Comparison.TheVariants.{Equals}
use Rattle.row_types.specs.declared.cell.Cell.{Cell}
use Rattle.row_types.specs.declared.cell.Cell.TheVariants.{Val}
use Rattle.row_types.specs.Cells.{PlanRow, Whole}
use Rattle.rel_algebra.specs.Tree.{Comparing, NullTest}
use Rattle.rel_algebra.specs.Endings.{cell_end, value_at, op_value}
use Rattle.rel_algebra.specs.Emissions.{assigning}
use Rattle.rel_algebra.specs.Scopes.{Inputs, columns_in}
use Rattle.rel_algebra.specs.Plan.{PlanTree, Scalars, extend, unit_row, sight, added, cell_at}
use Rattle.rel_algebra.specs.Plan.{cells_at, cell_of, cells_of, case_cell, strictly, den, each}
use Rattle.rel_algebra.specs.Plan.{shown}
use Rattle.rel_algebra.proofs.Growing.{grows_same, grown_column, grown_columns, shown_long}
use Rattle.rel_algebra.proofs.Nodes.{on_each_den}
use Rattle.rel_algebra.proofs.Words.{assigning_cell}
use Rattle.rel_algebra.specs.Agreement.{one_cell}
use Rattle.rel_algebra.proofs.BodyHeld.{RoutineRight}
use Rattle.rel_algebra.specs.Bodies.{Body, Routine, parameters_of}
use Rattle.rel_algebra.specs.BodyDoing.{Outcome, Next, Leaving, Returning, Exiting, Raising}
use Rattle.rel_algebra.specs.BodyMeaning.{call, does, no_context, returned_or}
use Rattle.rel_algebra.specs.BodySteps.{Step, grow, fat, stepped, run, step_tree, steps_tree, col}
use Rattle.rel_algebra.specs.BodyChain.{emit, top, last_cell, first_cells, arguments, raised_area}
use Rattle.rel_algebra.specs.BodyChain.{without_return_cell, inline, inline_with}
use Rattle.rel_algebra.proofs.BodyBase.{at, rising_append}
use Rattle.rel_algebra.proofs.BodyLands.{Lands, Ready, nowhere}
use Rattle.rel_algebra.proofs.BodyStatements.{stmt_sim}

step_den : (s : Step) (t : PlanTree) (w : Inputs) (o : List (List Cell)) (q : List Cell) → den t w o
    ≡ Whole q ∷ [] → den (step_tree s t) w o ≡ Whole (stepped w o s q) ∷ []
step_den (grow ss) t w o q h = ap (each (λ row. Whole (row ++ cells_of ss (sight w o row)) ∷ [])) h
step_den (fat nodes is) t w o q h =
    ap (each (λ row. Whole (cells_at row is) ∷ []))
    (on_each_den nodes t w o ∙ ap (each (λ row. Whole (added nodes w o row) ∷ [])) h)

-- a straight line is a chain
pub steps_den : (ss : List Step) (t : PlanTree) (w : Inputs) (o : List (List Cell))
    (q : List Cell) → den t w o ≡ Whole q ∷ [] → den (steps_tree ss t) w o ≡ Whole (run w o ss q)
    ∷ []
steps_den [] t w o q h = h
steps_den (s ∷ ss) t w o q h = steps_den ss (step_tree s t) w o (stepped w o s q)
    (step_den s t w o q h)

-- ---- the end

last_by : (returns : SqlType) (w : Inputs) (o : List (List Cell)) (z : List Cell) (k : ℕ) →
    cell_at z 0 ≡ at k →
    let s = sight w o z in let test : ℕ → Cell = λ n. strictly (op_value (Comparing Equals))
    (at k ∷ at n ∷ []) in
    cell_of (last_cell returns) s ≡ case_cell
    (test 0 ∷ cell_of (assigning returns (col 1)) s ∷ test 1 ∷ cell_of raised_area s ∷ cell_of
    without_return_cell s ∷ [])
last_by returns w o z k h =
    let s = sight w o z in
    ap (λ (c : Cell). case_cell (strictly (op_value (Comparing Equals)) (c ∷ at 0 ∷ []) ∷ cell_of
    (assigning returns (col 1)) s ∷ strictly (op_value (Comparing Equals)) (c ∷ at 1 ∷ []) ∷ cell_of
    raised_area s ∷ cell_of without_return_cell s ∷ [])) h

last_is : (returns : SqlType) (w : Inputs) (o : List (List Cell)) (k n : ℕ) (q z : List Cell)
    (out : Outcome) (f : List Value) → Lands (top k) 3 n q (record { outcome = out; frame = f }) z →
    cell_of (last_cell returns) (sight w o z) ≡ cell_end (returned_or returns out)
last_is returns w o k n q z Next f l = last_by returns w o z 3 l.code
last_is returns w o k n q z (Leaving j) f l = last_by returns w o z 2 l.code
last_is returns w o k n q z (Exiting j a) f l = last_by returns w o z 2 l.code
last_is returns w o k n q z (Returning v) f l = last_by returns w o z 0 l.code ∙ assigning_cell
    returns (col 1) (sight w o z) (Ok v) l.carries
last_is returns w o k n q z (Raising a) f l =
    last_by returns w o z 1 l.code ∙ ap (λ (c : Cell). case_cell
    (strictly (op_value NullTest) (c ∷ []) ∷ Val Null ∷ [])) l.carries

top_ready : (k : ℕ) → Ready (top k) 3 4 (3 + k)
top_ready k = record {
  under = record {
    labels = λ l. omega arith;
    exits = λ l. omega arith;
    out = omega arith;
    some =
        omega arith;
  };
  before = omega arith;
  rising = rising_append 3 [] 3 k (omega arith);
}

-- For all tables, rows outside and values of the parameters, which the given scalars read: the plan
-- has one row, without poison, of one cell, which is the value or the area of the call.
pub inlines_with : (r : Routine) (w : Inputs) (o : List (List Cell)) (params : Scalars)
    (values : List Value) → RoutineRight w r → length values ≡ length (parameters_of r) →
    cells_of params (sight w o []) ≡ shown values →
    den (inline_with r (columns_in w) params) w o ≡ one_cell (cell_end (call r values w))
inlines_with (Body types returns body) w o params values right l h =
    let S = columns_in w in let k = length types in let n = 3 + k in
    let q = at 3 ∷ Val Null ∷ Val (Truth false) ∷ shown values in
    let three : List Cell = at 3 ∷ Val Null ∷ Val (Truth false) ∷ [] in
    let long : length q ≡ n = ap (λ (i : ℕ). suc (suc (suc i))) (shown_long values ∙ l)
    ∙ (let e : suc (suc (suc k)) ≡ 3 + k = omega arith in e) in
    let start : den (extend (first_cells returns params) unit_row) w o ≡ Whole q ∷ [] =
    ap (λ (c : Cell). Whole (at 3 ∷ c ∷ Val (Truth false) ∷ cells_of params (sight w o []))
    ∷ []) (null_cell returns (sight w o []))
    ∙ ap (λ (cs : List Cell). Whole (at 3 ∷ Val Null ∷ Val (Truth false) ∷ cs) ∷ []) h in
    let steps = emit body S [] (top k) 3 4 n in
    let z = run w o steps q in
    let e = does body w no_context values in
    let L : Lands (top k) 3 n q e z = (stmt_sim body w o right nowhere tt 0).lands (top k) 3 4
    n (top_ready k) refl None values q
    (record {
      long = long;
      shows = grown_columns three (shown values) q 3 k refl
          (shown_long values ∙ l) (grows_same q);
      holds = tt;
    }) refl in
    let X = cell_of (last_cell returns) (sight w o z) in
    ap (λ (rows : List PlanRow). each (λ row. Whole (cells_at row (n ∷ [])) ∷ [])
    (each (λ row. Whole (row ++ cell_of (last_cell returns) (sight w o row) ∷ []) ∷ []) rows))
    (steps_den steps (extend (first_cells returns params) unit_row) w o q start)
    ∙ ap (λ (c : Cell). Whole (c ∷ []) ∷ []) (grown_column z (z ++ X ∷ []) X n L.long
    (grows_same (z ++ X ∷ [])) ∙ last_is returns w o k n q z e.outcome e.frame L)

-- ---- the arguments of the whole plan

later_arguments : (rows : List (List Cell)) (v : Value) (vs : List Value) (i k : ℕ) →
    cells_of (arguments (suc i) k) (record { rows = rows; args = v ∷ vs }) ≡ cells_of
    (arguments i k) (record { rows = rows; args = vs })
later_arguments rows v vs i zero = refl
later_arguments rows v vs i (suc k) = ap (λ (cs : List Cell). Val (value_at vs i) ∷ cs)
    (later_arguments rows v vs (suc i) k)

argument_cells : (rows : List (List Cell)) (vs : List Value) → cells_of (arguments 0 (length vs))
    (record { rows = rows; args = vs }) ≡ shown vs
argument_cells rows [] = refl
argument_cells rows (v ∷ vs) = ap (λ (cs : List Cell). Val v ∷ cs)
    (later_arguments rows v vs 0 (length vs) ∙ argument_cells rows vs)

pub inlines : (r : Routine) (w : Inputs) (o : List (List Cell)) → RoutineRight w r →
    length w.args ≡ length (parameters_of r) →
    den (inline r (columns_in w)) w o ≡ one_cell (cell_end (call r w.args w))
inlines (Body types returns body) w o right l =
    inlines_with (Body types returns body) w o (arguments 0 (length types)) w.args right l
    (ap (λ (k : ℕ). cells_of (arguments 0 k) (sight w o [])) (sym l) ∙ argument_cells ([] ∷ o)
    w.args)
