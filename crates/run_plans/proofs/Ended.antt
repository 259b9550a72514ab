-- The values of a plan's rows, or their first area, are the end of the kept query.
use Rattle.std.proofs.Common.{◌≡◌, List, Ok, Err, sym, ap, ◌∙◌}
use Rattle.sql_conditions.specs.Conditions.{Area}
use Rattle.row_types.specs.Rows.{Row}
use Rattle.rel_algebra.specs.Endings.{Ending}
use Rattle.rel_algebra.specs.Meaning.{carried}
use Rattle.rel_algebra.specs.Plan.{collected, den}
use Rattle.rel_algebra.specs.PlanView.{tree_of}
use Rattle.rel_algebra.specs.Theorem.{stack}
use Rattle.rel_algebra.specs.World.{Frame}
use Rattle.sql_values.specs.declared.value.Value.{Value}
use Rattle.table_store.specs.Memory.{Memory}
use Rattle.plan_exec.specs.Passing.{inputs_of}
use Rattle.plan_rows.specs.declared.firsts.Values.{Values}
use Rattle.plan_rows.specs.declared.firsts.Values.TheVariants as values
use Rattle.plan_rows.specs.Firsts.{values_end}
use Rattle.kept_queries.specs.declared.keeping.KeptQuery.{KeptQuery}
use Rattle.run_choices.specs.declared.stop.Stop.TheVariants as stop
use Rattle.run_expressions.specs.Content.{Content, world_of}
use Rattle.run_expressions.specs.Ending.{Ended}
use Rattle.run_expressions.proofs.Laws.{stays_same}
use Rattle.run_plans.specs.Ending.{kept_end}

-- how a kept plan ends over tables and arguments, under rows
abbrev pub plan_end : KeptQuery → List Row → Memory → List Value → Ending (List Row)
plan_end k under tables args =
    collected (den (tree_of k.plan) (inputs_of tables args) (stack under))

module _ (k : KeptQuery) (under : List Row) (f : Frame) (c : Content) (m : Memory)
    (args : List Value) (m_is : m ≡ c.memory) (args_are : args ≡ f.variables) where
  -- over those of the world and the frame that is the end of the kept query
  same_end : carried (plan_end k under m args) (world_of c) ≡ kept_end k under f (world_of c)
  same_end =
      ap (λ (tables : Memory). carried (plan_end k under tables args) (world_of c)) m_is
      ∙ ap (λ (values : List Value). carried (plan_end k under c.memory values) (world_of c)) args_are

  told_end : (v : Values) (e : Ending (List Row)) → values_end v ≡ e →
      values_end v ≡ plan_end k under m args → kept_end k under f (world_of c) ≡ carried e (world_of c)
  told_end v e is told =
      sym same_end ∙ ap (λ (x : Ending (List Row)). carried x (world_of c)) (sym told ∙ is)

  -- with these rows
  pub rows_end : (v : Values) (rows : List Row) → v ≡ values.Rows rows →
      values_end v ≡ plan_end k under m args →
      Ended {A = List Row} c c (Ok rows) (kept_end k under f (world_of c))
  rows_end v rows is told = record {
    tells = told_end v (Ok rows) (ap values_end is) told;
    stays = stays_same c;
  }

  -- with these conditions
  pub area_ends : (v : Values) (area raised : Area) → v ≡ values.Raised area → raised ≡ area →
      values_end v ≡ plan_end k under m args →
      Ended {A = List Row} c c (Err (stop.Raised raised)) (kept_end k under f (world_of c))
  area_ends v area raised is held told = record {
    tells =
        told_end v (Err raised)
        (ap values_end is ∙ ap (λ (x : Area). values_end (values.Raised x)) (sym held)) told;
    stays = stays_same c;
  }
