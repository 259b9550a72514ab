-- What is kept of the calls of a name, and that a call ends as the plan does.
use Rattle.std.proofs.Common.{◌≡◌, ℕ, List, [], Option, Some, None, Result, Ok, Err, length, IsTrue}
use Rattle.std.proofs.Common.{refl, sym, ap, ◌∙◌, subst}
use Rattle.std.specs.Prelude.{IfSome}
use Rattle.std.specs.Borrow.{Bor}
use Rattle.std.proofs.lemmas.List.Elements.{All-from_recursion}
use Rattle.sql_conditions.specs.Conditions.{Area}
use Rattle.sql_values.specs.declared.value.Value.{Value}
use Rattle.row_types.specs.Rows.{Row, well_kept}
use Rattle.row_types.specs.Tables.{Stored}
use Rattle.table_store.specs.Memory.{AllWellKept, Memory}
use Rattle.rel_algebra.specs.Endings.{Ending, cell_end}
use Rattle.rel_algebra.specs.Joins.{single_of, table_width}
use Rattle.rel_algebra.specs.Meaning.{call as calls, carried}
use Rattle.row_types.specs.Cells.{PlanRow}
use Rattle.rel_algebra.specs.Plan.{collected, den}
use Rattle.rel_algebra.specs.PlanView.{tree_of}
use Rattle.rel_algebra.specs.Theorem.{KeptTablesFit, one_cell}
use Rattle.catalog_store.specs.Catalog.{Catalog}
use Rattle.routine_views.specs.Routines.{routines_of}
use Rattle.scanned_tables.specs.Scans.{AreWide}
use Rattle.call_plans.specs.Calls.{CallsMean, IsCallPlan}
use Rattle.call_plans.specs.declared.calls.CallPlan.{CallPlan}
use Rattle.plan_exec.specs.Passing.{inputs_of}
use Rattle.plan_rows.specs.declared.firsts.Values.{Values}
use Rattle.plan_rows.specs.declared.firsts.Values.TheVariants as values
use Rattle.plan_rows.specs.Firsts.{values_end}
use Rattle.run_choices.specs.Ending.{Tells, TellsAnywhere}
use Rattle.run_choices.specs.declared.stop.Stop.{Stop}
use Rattle.run_choices.specs.declared.stop.Stop.TheVariants as stop
use Rattle.run_expressions.specs.Content.{Content, world_of}
use Rattle.run_expressions.specs.Ending.{Ended}
use Rattle.run_expressions.proofs.Laws.{stays_same}
use Rattle.run_plans.specs.Calling.{call_end, value_end}

-- ---- what is found

-- what holds of a plan holds of it where it is given
pub given_so : (P : CallPlan → Type 0) (k : CallPlan) (o : Option (Bor CallPlan)) →
    IfSome o (λ r. r.now ≡ k) → IfSome o (λ _. P k) → IfSome o (λ r. P r.now)
given_so P k None same h = tt
given_so P k (Some r) same h = subst P (sym same) h

-- and what holds of it anyhow
pub given_sure : (P : CallPlan → Type 0) (k : CallPlan) (o : Option (Bor CallPlan)) →
    IfSome o (λ r. r.now ≡ k) → P k → IfSome o (λ r. P r.now)
given_sure P k None same h = tt
given_sure P k (Some r) same h = subst P (sym same) h

-- ---- how it ends

-- the one cell of a plan as the value of its one row
cell_told : (e : Ending Value) → value_end (collected (one_cell (cell_end e))) ≡ e
cell_told (Ok v) = refl
cell_told (Err area) = refl

module _ (mean : CallsMean) (fit : KeptTablesFit) (known : Catalog) (name : List ℕ)
    (args : List Value) (c : Content) (k : CallPlan) (kept : IsCallPlan known name k)
    (count : k.parameters ≡ length args) where
  -- a call ends as what is kept of it, over tables that are as wide
  ends_called : AllWellKept c.memory.tables → AreWide k.tables (table_width c.memory.tables) →
      calls (routines_of known name) args (world_of c) ≡ call_end k args (world_of c)
  ends_called rows wide =
      let e = mean known name k args (world_of c) kept (sym count)
      (fit c.memory.tables args (All-from_recursion
      (λ (s : Stored). IsTrue (well_kept s.table.columns s.table.key s.table.rows)) c.memory.tables
      rows)) wide in
      e.ends
      ∙ sym (ap (λ (cells : List PlanRow). carried (value_end (collected cells)) (world_of c)) e.has
      ∙ ap (λ (end : Ending Value). carried end (world_of c)) (cell_told e.end))

  ends_over : (m : Memory) → m ≡ c.memory → AllWellKept m.tables →
      AreWide k.tables (table_width m.tables) →
      calls (routines_of known name) args (world_of c) ≡ call_end k args (world_of c)
  ends_over m is rows wide =
      ends_called (subst (λ (n : Memory). AllWellKept n.tables) is rows)
      (subst (λ (n : Memory). AreWide k.tables (table_width n.tables)) is wide)

  -- and so does what is found of it, where it is found
  pub ends_by_plan : (m : Memory) → m ≡ c.memory → AllWellKept m.tables →
      (o : Option (Bor CallPlan)) → IfSome o (λ r. r.now ≡ k) →
      IfSome o (λ _. AreWide k.tables (table_width m.tables)) →
      IfSome o (λ r. calls (routines_of known name) args (world_of c)
      ≡ call_end r.now args (world_of c))
  ends_by_plan m is rows None same wide = tt
  ends_by_plan m is rows (Some r) same wide =
      ends_over m is rows wide ∙ ap (λ (x : CallPlan). call_end x args (world_of c)) (sym same)

-- ---- how it is run

-- how a plan ends over tables and arguments
abbrev plan_end : CallPlan → Memory → List Value → Ending (List Row)
plan_end k tables args = collected (den (tree_of k.plan) (inputs_of tables args) [])

module _ (k : CallPlan) (args : List Value) (c : Content) (m : Memory) (m_is : m ≡ c.memory) where
  -- over those of the world that is the end of the call
  told : (v : Values) (e : Ending (List Row)) → values_end v ≡ e →
      values_end v ≡ plan_end k m args →
      call_end k args (world_of c) ≡ carried (value_end e) (world_of c)
  told v e is h =
      sym (ap (λ (tables : Memory). carried (value_end (plan_end k tables args)) (world_of c)) m_is)
      ∙ ap (λ (x : Ending (List Row)). carried (value_end x) (world_of c)) (sym h ∙ is)

  -- with the value of these rows
  pub rows_told : (v : Values) (rows slice : List Row) (r : Result Value Stop) →
      v ≡ values.Rows rows → slice ≡ rows → values_end v ≡ plan_end k m args →
      TellsAnywhere r (carried (single_of slice)) →
      Ended c c r (call_end k args (world_of c))
  rows_told v rows slice r is same h tells = record {
    tells =
        subst (Tells (world_of c) r)
        (ap (λ (rs : List Row). carried (single_of rs) (world_of c)) same
        ∙ sym (told v (Ok rows) (ap values_end is) h))
        (tells (world_of c));
    stays = stays_same c;
  }

  -- with these conditions
  pub area_told : (v : Values) (area raised : Area) → v ≡ values.Raised area → raised ≡ area →
      values_end v ≡ plan_end k m args →
      Ended {A = Value} c c (Err (stop.Raised raised)) (call_end k args (world_of c))
  area_told v area raised is held h = record {
    tells =
        told v (Err raised)
        (ap values_end is ∙ ap (λ (x : Area). values_end (values.Raised x)) (sym held)) h;
    stays = stays_same c;
  }
