-- What the plan of a call is, and how the call ends.
use Rattle.std.proofs.Common.{◌≡◌, ℕ, true, List, [], ◌∷◌, length, sym, ap, subst, ◌∙◌}
use Rattle.rel_algebra.specs.Emit.{Emitted, emit_body, listed, routine_plan, singly, top, width}
use Rattle.rel_algebra.specs.Joins.{table_width}
use Rattle.rel_algebra.specs.Plain.{planned_routine}
use Rattle.rel_algebra.specs.Plan.{PlanTree, den, more, none, unit_row}
use Rattle.rel_algebra.specs.PlanView.{run_of, scalars_of, tree_of, with_nodes}
use Rattle.rel_algebra.specs.Theorem.{inputs_of}
use Rattle.rel_algebra.specs.Tree.{parameters_of}
use Rattle.rel_algebra.specs.World.{frame_of}
use Rattle.rel_algebra.specs.declared.scalar.Scalar.{Scalar}
use Rattle.rel_algebra.proofs.Laws.{function_plans, lasting_plans}
use Rattle.scanned_tables.specs.Scans.{AreWide, scans}
use Rattle.scanned_tables.specs.declared.scans.ScannedTable.{ScannedTable}
use Rattle.catalog_store.specs.Catalog.{Catalog}
use Rattle.catalog_store.specs.Kept.{IsPlan}
use Rattle.catalog_store.specs.Widths.{width_in}
use Rattle.catalog_store.specs.declared.entry.FunctionPlan.{FunctionPlan}
use Rattle.plan_drafts.specs.Listing.{listed_only}
use Rattle.plan_drafts.proofs.Laws.{listed-after}
use Rattle.routine_views.specs.Routines.{routines_of}
use Rattle.call_plans.specs.Calls.{CallsMean, IsCallPlan}
use Rattle.call_plans.specs.declared.calls.CallPlan.{CallPlan}
use Rattle.call_plans.proofs.Runs.{are_run, stand_over}
use Rattle.call_plans.proofs.Scanned.{routine_lasts}

-- ---- how one is made

-- the value of a function's plan alone
pub value_listed : (f : FunctionPlan) (e : Emitted) (ss : List Scalar) (n : ℕ)
    (start made : PlanTree) → IsPlan f e → ss ≡ f.scalar ∷ [] → n ≡ width (run_of f.nodes) 0 →
    start ≡ with_nodes f.nodes unit_row → made ≡ listed_only (scalars_of ss) n start →
    made ≡ listed (singly e) 0 unit_row
value_listed f e ss n start made own one wide over is =
    is
    ∙ (λ j. listed_only (scalars_of (one j)) (wide j) (over j))
    ∙ (λ j. listed_only (more (own.scalar j) none) (width (are_run f.nodes e.nodes own.nodes j) 0)
    (stand_over f.nodes e.nodes unit_row own.nodes j))
    ∙ sym (listed-after (singly e) 0 unit_row)

-- and with the tables that it reads
pub call_made : (f : FunctionPlan) (c : CallPlan) →
    ((e : Emitted) → IsPlan f e → tree_of c.plan ≡ listed (singly e) 0 unit_row) →
    c.tables ≡ scans (tree_of c.plan) → (known : Catalog) (name : List ℕ) →
    planned_routine (routines_of known name) ≡ true →
    c.parameters ≡ length (parameters_of (routines_of known name)) →
    IsPlan f (emit_body (routines_of known name) (width_in known) (top c.parameters) 0) →
    IsCallPlan known name c
call_made f c made are known name p count own = record {
  planned = p;
  parameters = count;
  plan =
      made (emit_body (routines_of known name) (width_in known) (top c.parameters) 0) own
      ∙ ap (λ (n : ℕ). listed
      (singly (emit_body (routines_of known name) (width_in known) (top n) 0)) 0 unit_row) count;
  tables = are;
}

-- ---- how a call ends

-- over tables that are as wide the plan is that of the function
plan_there : (known : Catalog) (name : List ℕ) (c : CallPlan) (R : List ℕ → ℕ) →
    IsCallPlan known name c → AreWide c.tables R →
    tree_of c.plan ≡ routine_plan (routines_of known name) R
plan_there known name c R kept wide =
    kept.plan
    ∙ lasting_plans.routines (routines_of known name) (width_in known) R
    (routine_lasts (routines_of known name) (width_in known) R kept.planned
    (subst (λ (ts : List ScannedTable). AreWide ts R) (kept.tables ∙ ap scans kept.plan) wide))

pub calls_mean : CallsMean
calls_mean known name c values w kept count fits wide =
    let m = function_plans (routines_of known name) values w kept.planned
    (count ∙ kept.parameters) fits in
    record {
      end = m.end;
      has =
          ap (λ (t : PlanTree). den t (inputs_of w (frame_of values)) [])
          (plan_there known name c (table_width w.tables) kept wide)
          ∙ m.has;
      ends = m.ends;
    }
