-- Rows that the first Filters leave out leave no trace: they need not be read.
use Rattle.std.proofs.Common.{◌≡◌, ℕ, zero, suc, Bool, true, false, not, List, [], ◌∷◌, ◌++◌}
use Rattle.std.proofs.Common.{◌||◌, if◌then◌else◌, refl, sym, ap, subst, ◌∙◌, take, drop}
use Rattle.std.specs.List.{list_all}
use Rattle.std.proofs.lemmas.Bool.{false≢true, and_parts}
use Rattle.sql_values.specs.declared.value.Value.{Value}
use Rattle.sql_values.specs.Values.{is_true}
use Rattle.row_types.specs.Rows.{Row}
use Rattle.row_types.specs.declared.cell.Cell.{Cell}
use Rattle.row_types.specs.declared.cell.Cell.TheVariants.{Val, Cond}
use Rattle.rel_algebra.specs.declared.plan.Node.{Node, roll-Node}
use Rattle.rel_algebra.specs.declared.plan.Node.TheOpen.{Node-F}
use Rattle.rel_algebra.specs.declared.plan.Node.TheVariants.{rolls-Extend, rolls-Apply}
use Rattle.rel_algebra.specs.declared.plan.Node.TheVariants.{rolls-Filter, rolls-Keep, rolls-Cross}
use Rattle.rel_algebra.specs.declared.plan.Node.TheVariants.{rolls-LeftOuter, rolls-Settle}
use Rattle.rel_algebra.specs.declared.plan.Node.TheVariants.{rolls-Group, rolls-Sort}
use Rattle.rel_algebra.specs.declared.plan.Plan.{Plan}
use Rattle.rel_algebra.specs.Plan.{cell_of, shown, shown_rows}
use Rattle.rel_algebra.specs.PlanView.{scalar_of}
use Rattle.plan_scalars.specs.Sights.{sight_of}
use Rattle.plan_rows.specs.declared.tests.Tested.TheVariants as test
use Rattle.plan_keys.specs.LeftOut.{left_out, node_leaves_out, out_by}
use Rattle.plan_nodes.specs.Fates.{RowOutcome, Gone, fate, fate_rows, go_on, node_fate, passed}
use Rattle.plan_nodes.specs.Fates.{tested, tested_fate}
use Rattle.plan_nodes.specs.declared.received.Received.{Received}
use Rattle.plan_nodes.specs.Receiving.{received}
use Rattle.plan_nodes.proofs.Nodes.{of_layer}

test_gone : (b : Bool) (row : List Cell) (later : Bool) (more : List Cell → RowOutcome) →
    (not b || later) ≡ true → (later ≡ true → more row ≡ Gone) →
    go_on (tested_fate (if b then test.Stays else test.Gone) row) more ≡ Gone
test_gone true row later more h f = f h
test_gone false row later more h f = refl

filter_gone : (c : Cell) (row : List Cell) (later : Bool) (more : List Cell → RowOutcome) →
    out_by c later ≡ true → (later ≡ true → more row ≡ Gone) → go_on (tested c row) more ≡ Gone
filter_gone (Val v) row later more h f = test_gone (is_true v) row later more h f
filter_gone (Cond a) row later more h f = absurd (false≢true h)

-- a node that leaves a row out, or passes it on to nodes that do
abbrev GoneBy : List Cell → List (List Cell) → List Value → Bool → (List Cell → RowOutcome) →
    Node → Type 0
GoneBy row o args later more n = node_leaves_out n row o args later ≡ true →
    (later ≡ true → more row ≡ Gone) → go_on (node_fate n row o args) more ≡ Gone

module _ (row : List Cell) (o : List (List Cell)) (args : List Value) (later : Bool)
    (more : List Cell → RowOutcome) where
  abbrev By : Node → Type 0
  By = GoneBy row o args later more

  gone_at : (y : Node-F Node Plan) → By (roll-Node y)
  gone_at (Node-F.Extend ss) = subst By (sym (rolls-Extend ss)) (λ h f. absurd (false≢true h))
  gone_at (Node-F.Apply when kind inner) = subst By (sym (rolls-Apply when kind inner))
      (λ h f. absurd (false≢true h))
  gone_at (Node-F.Filter s) = subst By (sym (rolls-Filter s))
      (λ h f. filter_gone (cell_of (scalar_of s) (sight_of row o args)) row later more h f)
  gone_at (Node-F.Keep places) = subst By (sym (rolls-Keep places)) (λ h f. absurd (false≢true h))
  gone_at (Node-F.Cross right) = subst By (sym (rolls-Cross right)) (λ h f. absurd (false≢true h))
  gone_at (Node-F.LeftOuter ns s n right) = subst By (sym (rolls-LeftOuter ns s n right))
      (λ h f. absurd (false≢true h))
  gone_at Node-F.Settle = subst By (sym rolls-Settle) (λ h f. absurd (false≢true h))
  gone_at (Node-F.Group places aggregates) = subst By (sym (rolls-Group places aggregates))
      (λ h f. absurd (false≢true h))
  gone_at (Node-F.Sort keys) = subst By (sym (rolls-Sort keys)) (λ h f. absurd (false≢true h))

  gone_by : (n : Node) → By n
  gone_by = of_layer By gone_at

left_gone : (ns : List Node) (row : List Cell) (o : List (List Cell)) (args : List Value) →
    left_out ns row o args ≡ true → fate ns row o args ≡ Gone
left_gone [] row o args h = absurd (false≢true h)
left_gone (n ∷ ns) row o args h =
    gone_by row o args (left_out ns row o args) (λ r. fate ns r o args) n h
    (λ k. left_gone ns row o args k)

-- ---- rows of a table

module _ (ns : List Node) (o : List (List Cell)) (args : List Value) where
  abbrev pub out : Row → Bool
  out row = left_out ns (shown row) o args

  one_left : (row : Row) (rows : List Row) → out row ≡ true →
      passed ns o args (shown_rows (row ∷ rows)) ≡ passed ns o args (shown_rows rows)
  one_left row rows h = ap (λ f. fate_rows f ++ passed ns o args (shown_rows rows))
      (left_gone ns (shown row) o args h)

  -- rows in front
  pub front_left : (rows : List Row) (n : ℕ) → list_all out (take n rows) ≡ true →
      passed ns o args (shown_rows (drop n rows)) ≡ passed ns o args (shown_rows rows)
  front_left [] zero h = refl
  front_left [] (suc n) h = refl
  front_left (row ∷ rows) zero h = refl
  front_left (row ∷ rows) (suc n) h =
      let both = and_parts (out row) (list_all out (take n rows)) h in
      front_left rows n both.1 ∙ sym (one_left row rows both.0)

  -- all rows
  all_left : (rows : List Row) → list_all out rows ≡ true →
      passed ns o args (shown_rows rows) ≡ []
  all_left [] h = refl
  all_left (row ∷ rows) h =
      let both = and_parts (out row) (list_all out rows) h in
      one_left row rows both.0 ∙ all_left rows both.1

  -- the rows after a place
  pub rest_left : (rows : List Row) (n : ℕ) (r whole : Received) →
      list_all out (drop n rows) ≡ true →
      received r (passed ns o args (shown_rows (drop n rows))) ≡ whole → r ≡ whole
  rest_left rows n r whole h e =
      ap (received r) (sym (all_left (drop n rows) h)) ∙ e
