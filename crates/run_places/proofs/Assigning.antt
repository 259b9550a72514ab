-- SET while it runs, and what CLOSE, OPEN and FETCH leave.
use Rattle.std.proofs.Common.{◌≡◌, [], ◌∷◌, List, Result, Ok, Err, refl}
use Rattle.std.proofs.Common.{sym, ap, ◌∙◌}
use Rattle.sql_texts.specs.declared.memory.NoMemory.{NoMemory}
use Rattle.sql_values.specs.declared.value.Value.{Value}
use Rattle.sql_values.specs.Casts.{assigned}
use Rattle.bound_trees.specs.declared.expr.BoundExpr.{BoundExpr}
use Rattle.rel_algebra.specs.Tree.{Target, Set}
use Rattle.rel_algebra.specs.States.{success}
use Rattle.rel_algebra.specs.World.{World, Frame, Ends, Eval, Gives, Raises, RunsOut, after, give}
use Rattle.rel_algebra.specs.World.{outcome, unit, unit_of, ◌>>=◌}
use Rattle.rel_algebra.specs.Doing.{End, Next, ends, put_in, storing, take_values}
use Rattle.rel_algebra.specs.Doing.{with_diagnostics}
use Rattle.rel_algebra.specs.Meaning.{Context, does, ev}
use Rattle.routine_views.specs.Views.{Known, expr_in}
use Rattle.run_choices.specs.declared.stop.Stop.{Stop}
use Rattle.run_choices.specs.declared.stop.Stop.TheVariants.{Raised, Spent, NoMemory as NoRoom}
use Rattle.run_expressions.specs.Content.{Content, world_of}
use Rattle.run_expressions.specs.Ending.{Ended}
use Rattle.run_outcomes.specs.declared.outcome.Outcome.{Outcome}
use Rattle.run_outcomes.specs.declared.outcome.Outcome.TheVariants as held
use Rattle.run_places.specs.Defaults.{assigned_in}
use Rattle.run_places.specs.Ran.{Ran, GoesOnFrom}
use Rattle.run_places.proofs.Underway.{ends_here, underway, value_gives, value_stops}

-- ---- one value in a list

-- a unit whose value goes into a list
listed_unit : (w : World) (a : Ends Value) → unit_of w (after a (λ x. give (x ∷ []))) ≡
    after (unit_of w a) (λ x. give (x ∷ []))
listed_unit w (Gives x u) = refl
listed_unit w (Raises area u) = refl
listed_unit w (RunsOut u) = refl

-- the value that one target takes
taken_unit : (t : Target) (w : World) (a : Ends Value) →
    unit_of w (after a (λ v. take_values (t ∷ []) (v ∷ []))) ≡
    after (unit_of w (after a (λ v. outcome (assigned t.data_type v)))) (λ x. give (x ∷ []))
taken_unit t w (Gives v u) = listed_unit w (outcome (assigned t.data_type v) u)
taken_unit t w (Raises area u) = refl
taken_unit t w (RunsOut u) = refl

-- ---- SET

module _ (k : Known) (t : Target) (e : BoundExpr) (c : Context) (f : Frame)
    (old mid : Content) where
  -- what SET evaluates
  abbrev evaluated : Frame → Eval (List Value)
  evaluated g = do
    v ← ev (expr_in k e) c.self [] g
    take_values (t ∷ []) (v ∷ [])

  abbrev set_end : End
  set_end = does (Set t (expr_in k e)) c f (world_of old)

  -- its value is stored
  pub set_stores : (x : Value) (g h : Frame) (r : Result Outcome NoMemory) →
      Ended old mid (Ok x) (assigned_in k e t.data_type c.self f (world_of old)) →
      g ≡ put_in (t ∷ []) (x ∷ []) f → h ≡ with_diagnostics success 0 g → r ≡ Ok held.Next →
      Ran old mid h r set_end
  set_stores x g h r d put done is =
      ends_here old mid (storing (t ∷ []) (x ∷ []) f (world_of mid)) set_end held.Next h r
      (value_gives c.scopes evaluated (storing (t ∷ [])) f old old mid set_end set_end (x ∷ [])
      refl (underway old set_end set_end refl) (record {
        tells = taken_unit t (world_of old) (ev (expr_in k e) c.self [] f (world_of old))
            ∙ ap (λ (z : Ends Value). after z (λ x. give (x ∷ []))) d.tells;
        stays = d.stays;
      }))
      (ap (λ (y : Frame). ends Next (with_diagnostics success 0 y) (world_of mid)) (sym put)
      ∙ ap (λ (y : Frame). ends Next y (world_of mid)) (sym done)) is

  stop_told : (s : Stop) →
      Ended {A = Value} old mid (Err s) (assigned_in k e t.data_type c.self f (world_of old)) →
      Ended {A = List Value} old mid (Err s) (unit (evaluated f) (world_of old))
  stop_told (Raised area) d = record {
    tells = taken_unit t (world_of old) (ev (expr_in k e) c.self [] f (world_of old))
        ∙ ap (λ (z : Ends Value). after z (λ x. give (x ∷ []))) d.tells;
    stays = d.stays;
  }
  stop_told Spent d = record {
    tells = taken_unit t (world_of old) (ev (expr_in k e) c.self [] f (world_of old))
        ∙ ap (λ (z : Ends Value). after z (λ x. give (x ∷ []))) d.tells;
    stays = d.stays;
  }
  stop_told NoRoom d = record { tells = tt; stays = d.stays }

  -- it stops
  pub set_stops : (g : Frame) (new : Content) (s : Stop) (r : Result Outcome NoMemory) →
      Ended {A = Value} old mid (Err s) (assigned_in k e t.data_type c.self f (world_of old)) →
      GoesOnFrom s c.scopes mid new f g r → Ran old new g r set_end
  set_stops g new s r d so =
      value_stops c.scopes evaluated (storing (t ∷ [])) f old old mid set_end set_end g new s r
      refl (underway old set_end set_end refl) (stop_told s d) so
