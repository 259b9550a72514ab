-- Raising, by the handler that is chosen, and how an action ends.
use Rattle.std.proofs.Common.{◌≡◌, ℕ, List, Bool, true, false, Option, Some, None, Result, Ok, Err}
use Rattle.std.proofs.Common.{refl, sym, ap, ◌∙◌, subst, take, IfOk, OnOk}
use Rattle.sql_texts.specs.declared.memory.NoMemory.{NoMemory}
use Rattle.sql_conditions.specs.Conditions.{Area}
use Rattle.bound_trees.specs.declared.condition.BoundHandlerType.{BoundHandlerType}
use Rattle.bound_trees.specs.declared.condition.BoundHandlerType.TheVariants.{Continue, Exit, Undo}
use Rattle.bound_trees.specs.declared.statement.BoundHandler.{out-BoundHandler}
use Rattle.rel_algebra.specs.States.{state_in, success}
use Rattle.rel_algebra.specs.World.{World, Frame}
use Rattle.rel_algebra.specs.Doing.{Doing, End, Exiting, ends, outside, back_in, first_of, settled}
use Rattle.rel_algebra.specs.Doing.{with_diagnostics}
use Rattle.rel_algebra.specs.Handlers.{Chosen, acting, act_by, act_or, best, taking}
use Rattle.routine_views.specs.Views.{handler_type}
use Rattle.run_expressions.specs.Content.{Content, world_of}
use Rattle.run_expressions.proofs.Laws.{stays_same}
use Rattle.run_frames.specs.Frames.{Kept, kept_of, with_kept}
use Rattle.run_outcomes.specs.declared.choice.Chosen.{Chosen as HeldChosen}
use Rattle.run_outcomes.specs.declared.outcome.Outcome.{Outcome}
use Rattle.run_outcomes.specs.declared.outcome.Outcome.TheVariants as held
use Rattle.run_outcomes.specs.Outcomes.{outcome_of}
use Rattle.run_outcomes.specs.Scopes.{chosen_by, scopes_by, chosen_in}
use Rattle.run_places.specs.declared.place.Place.{Place}
use Rattle.run_places.specs.Acting.{acts_of, stays_after, untaken_by}
use Rattle.run_places.specs.Places.{scopes_of}
use Rattle.run_places.specs.Ran.{Ran}
use Rattle.run_places.proofs.Acting.{scopes_of-by}
use Rattle.run_places.proofs.Underway.{underway, ends_with}

-- ---- ends that are made without a run

-- what is made is the end
pub made_end : (m : Content) (f : Frame) (r : Result Outcome NoMemory) (whole : End) →
    IfOk r (λ o. ends (outcome_of o) f (world_of m) ≡ whole) → Ran m m f r whole
made_end m f (Ok o) whole h = record { tells = sym h; stays = stays_same m }
made_end m f (Err e) whole h = record { tells = tt; stays = stays_same m }

-- a run of the same end
pub same_end : (old new : Content) (f : Frame) (r : Result Outcome NoMemory) (e whole : End) →
    whole ≡ e → Ran old new f r e → Ran old new f r whole
same_end old new f r e whole h d =
    ends_with old old new whole whole e f r (underway old whole whole refl) h d

-- ---- what is done by the handler that is chosen

module _ (place : Place) (area : Area) (rest : Doing) (f g : Frame) (w : World)
    (shown : g ≡ with_diagnostics area 0 f) where
  -- by the choice
  by_choice : (o : Option HeldChosen) →
      best (state_in area) (scopes_by (acts_of place) place.scopes.now) ≡
      chosen_by (acts_of place) place.scopes.now o →
      taking (scopes_of place) area rest f w ≡
      act_or (chosen_by (acts_of place) place.scopes.now o) area rest g w
  by_choice o h =
      ap (λ (x : Option Chosen). act_or x area rest (with_diagnostics area 0 f) w)
      (ap (best (state_in area)) (scopes_of-by place) ∙ h)
      ∙ ap (λ (x : Frame). act_or (chosen_by (acts_of place) place.scopes.now o) area rest x w)
      (sym shown)

  -- no handler takes it
  pub none_takes : best (state_in area) (scopes_by (acts_of place) place.scopes.now) ≡
      chosen_by (acts_of place) place.scopes.now None →
      taking (scopes_of place) area rest f w ≡ rest g w
  none_takes h = by_choice None h

-- an action that is chosen, by its kind
here_by : (t : BoundHandlerType) (c : Chosen) (area : Area) → stays_after t ≡ true →
    act_by (handler_type t) c area ≡
    outside c.scope.variables c.scope.cursors (acting c.handling area)
here_by Continue c area h = refl
here_by Exit c area h = absurd cc
here_by Undo c area h = absurd cc

outwards_by : (t : BoundHandlerType) (c : Chosen) (area : Area) → stays_after t ≡ false →
    act_by (handler_type t) c area ≡ ends (Exiting c.scope.level area)
outwards_by Continue c area h = absurd cc
outwards_by Exit c area h = refl
outwards_by Undo c area h = refl

module _ (place : Place) (area : Area) (rest : Doing) (f g : Frame) (w : World)
    (shown : g ≡ with_diagnostics area 0 f) (c : HeldChosen)
    (best_is : best (state_in area) (scopes_by (acts_of place) place.scopes.now) ≡
    chosen_by (acts_of place) place.scopes.now (Some c)) where
  -- what the chosen handler does
  abbrev pub chosen_acts : Doing
  chosen_acts = λ x u. settled (acts_of place
      (scopes_by (acts_of place) (take c.outer place.scopes.now)) c.scope c.handler.now area x u)

  -- CONTINUE acts here
  pub taken_here : stays_after (out-BoundHandler c.handler.now).handler_type ≡ true →
      taking (scopes_of place) area rest f w ≡
      outside c.scope.variables c.scope.cursors chosen_acts g w
  taken_here is =
      by_choice place area rest f g w shown (Some c) best_is
      ∙ ap (λ (d : Doing). d g w) (here_by (out-BoundHandler c.handler.now).handler_type
      (chosen_in (acts_of place) (scopes_by (acts_of place) (take c.outer place.scopes.now)) c)
      area is)

  -- EXIT and UNDO go to the end of their compound statement
  pub taken_outwards : stays_after (out-BoundHandler c.handler.now).handler_type ≡ false →
      taking (scopes_of place) area rest f w ≡ ends (Exiting c.scope.level area) g w
  taken_outwards is =
      by_choice place area rest f g w shown (Some c) best_is
      ∙ ap (λ (d : Doing). d g w) (outwards_by (out-BoundHandler c.handler.now).handler_type
      (chosen_in (acts_of place) (scopes_by (acts_of place) (take c.outer place.scopes.now)) c)
      area is)

-- ---- how an action ends

-- an action that ends leaves the area of success
pub settles : (old new : Content) (f g : Frame) (o : Outcome) (r : Result Outcome NoMemory)
    (e whole : End) → Ran old new f (Ok o) e → g ≡ with_diagnostics success 0 f → e ≡ whole →
    r ≡ Ok o → Ran old new g r (settled whole)
settles old new f g o r e whole d left is answer =
    same_end old new g r (ends (outcome_of o) g (world_of new)) (settled whole)
    (ap settled (sym is ∙ d.tells)
    ∙ ap (λ (x : Frame). ends (outcome_of o) x (world_of new)) (sym left))
    (subst (λ (x : Result Outcome NoMemory).
    Ran old new g x (ends (outcome_of o) g (world_of new))) (sym answer)
    (record { tells = refl; stays = d.stays }))

-- what was kept aside comes back as the action ends
pub comes_back : (n m : ℕ) (start f1 f2 f3 : Frame) (old new : Content) (action : Doing)
    (o : Outcome) (kept : Kept) (r : Result Outcome NoMemory) → f1 ≡ first_of n m start →
    kept ≡ kept_of n m start → Ran old new f2 (Ok o) (action f1 (world_of old)) →
    IfOk r (λ p. p ≡ o) → OnOk r (f3 ≡ with_kept kept f2) →
    Ran old new f3 r (outside n m action start (world_of old))
comes_back n m start f1 f2 f3 old new action o kept (Err e) cut aside d same back =
    record { tells = tt; stays = d.stays }
comes_back n m start f1 f2 f3 old new action o kept (Ok p) cut aside d same back = record {
  tells =
      ap (λ (x : Frame). back_in n m start (action x (world_of old))) (sym cut)
      ∙ ap (back_in n m start) d.tells
      ∙ ap (λ (x : Kept). ends (outcome_of o) (with_kept x f2) (world_of new)) (sym aside)
      ∙ ap (λ (x : Frame). ends (outcome_of o) x (world_of new)) (sym back)
      ∙ ap (λ (x : Outcome). ends (outcome_of x) f3 (world_of new)) (sym same);
  stays = d.stays;
}

-- ---- what is taken, from its choice

module _ (place : Place) (raise area : Area) (raised : Bool) (f g : Frame) (m : Content)
    (state : List ℕ) (o : Option HeldChosen) (same : area ≡ raise)
    (shown : g ≡ with_diagnostics raise 0 f) (state_is : state ≡ state_in area)
    (best_is : best state (scopes_by (acts_of place) place.scopes.now) ≡
    chosen_by (acts_of place) place.scopes.now o) where
  -- the end of a statement that raises
  abbrev taken_end : End
  taken_end = taking (scopes_of place) raise (untaken_by raised raise) f (world_of m)

  best_by : (p : Option HeldChosen) → o ≡ p →
      best (state_in raise) (scopes_by (acts_of place) place.scopes.now) ≡
      chosen_by (acts_of place) place.scopes.now p
  best_by p is =
      ap (λ (x : List ℕ). best x (scopes_by (acts_of place) place.scopes.now))
      (sym (state_is ∙ ap state_in same))
      ∙ best_is ∙ ap (chosen_by (acts_of place) place.scopes.now) is

  -- no handler takes it
  pub none_ends : (x : Outcome) → o ≡ None → ends (outcome_of x) ≡ untaken_by raised area →
      Ran m m g (Ok x) taken_end
  none_ends x is made = record {
    tells =
        none_takes place raise (untaken_by raised raise) f g (world_of m) shown (best_by None is)
        ∙ ap (λ (a : Area). untaken_by raised a g (world_of m)) (sym same)
        ∙ ap (λ (d : Doing). d g (world_of m)) (sym made);
    stays = stays_same m;
  }

  -- EXIT and UNDO
  pub outwards_ends : (c : HeldChosen) → o ≡ Some c →
      false ≡ stays_after (out-BoundHandler c.handler.now).handler_type →
      Ran m m g (Ok (held.Exiting c.scope.level area)) taken_end
  outwards_ends c is goes = record {
    tells =
        taken_outwards place raise (untaken_by raised raise) f g (world_of m) shown c
        (best_by (Some c) is) (sym goes)
        ∙ ap (λ (a : Area). ends (Exiting c.scope.level a) g (world_of m)) (sym same);
    stays = stays_same m;
  }

  -- CONTINUE
  pub here_ends : (c : HeldChosen) (h : Frame) (new : Content) (r : Result Outcome NoMemory) →
      o ≡ Some c → true ≡ stays_after (out-BoundHandler c.handler.now).handler_type →
      Ran m new h r (outside c.scope.variables c.scope.cursors (λ x w. settled (acts_of place
      (scopes_by (acts_of place) (take c.outer place.scopes.now)) c.scope c.handler.now area x w))
      g (world_of m)) → Ran m new h r taken_end
  here_ends c h new r is stays d =
      same_end m new h r
      (outside c.scope.variables c.scope.cursors (λ x w. settled (acts_of place
      (scopes_by (acts_of place) (take c.outer place.scopes.now)) c.scope c.handler.now area x w))
      g (world_of m)) taken_end
      (taken_here place raise (untaken_by raised raise) f g (world_of m) shown c
      (best_by (Some c) is) (sym stays)
      ∙ ap (λ (a : Area). outside c.scope.variables c.scope.cursors (λ x w. settled (acts_of place
      (scopes_by (acts_of place) (take c.outer place.scopes.now)) c.scope c.handler.now a x w))
      g (world_of m)) (sym same)) d
