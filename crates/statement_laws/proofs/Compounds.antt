-- Compound statements by their parts.
use Rattle.std.proofs.Common.{ℕ, ◌≡◌, Bool, true, false, List, Option, Some, None, refl, ap, ◌∙◌}
use Rattle.std.proofs.Common.{if◌then◌else◌, nat_eq}
use Rattle.sql_conditions.specs.Conditions.{Area}
use Rattle.row_types.specs.Tables.{Tables}
use Rattle.rel_algebra.specs.Tree.{HandlerType}
use Rattle.rel_algebra.specs.States.{state_in}
use Rattle.rel_algebra.specs.World.{World, Frame, Ends, Eval, Gives}
use Rattle.rel_algebra.specs.Doing.{Doing, End, Outcome, Next, Leaving, Iterating, Returning}
use Rattle.rel_algebra.specs.Doing.{Exiting, Raising, Spent, ends, settled, left_by}
use Rattle.rel_algebra.specs.Handlers.{Scopes, Handling, best_here, acting}
use Rattle.rel_algebra.specs.Compounds.{scopes_in, exited_or, exited, exit_or, exit_by}
use Rattle.rel_algebra.specs.Compounds.{left, sealed_or, sealed, declared_or, with_closed}
use Rattle.rel_algebra.specs.Compounds.{listed, compound}
use Rattle.statement_laws.specs.Compounds.{NoExit, NoRaise, ExitGoesOn, SealGoesOn, CompoundGoesOn}
use Rattle.statement_laws.specs.Compounds.{frame_within, scopes_within}

-- ---- the end of the statement list

other_exit : (level : ℕ) (own : List Handling) (start : Tables) (o : Outcome) → NoExit o →
    exited_or level own start o ≡ ends o
other_exit level own start Next h = refl
other_exit level own start (Leaving l) h = refl
other_exit level own start (Iterating l) h = refl
other_exit level own start (Returning v) h = refl
other_exit level own start (Exiting l area) h = absurd (h l area refl)
other_exit level own start (Raising area) h = refl
other_exit level own start Spent h = refl

module _ (level : ℕ) (own : List Handling) (start : Tables) (l : ℕ) (area : Area) where
  -- by whether it is the end that is gone to
  exit_if : (b : Bool) → nat_eq l level ≡ b → exited_or level own start (Exiting l area) ≡
      (if b then exit_or (best_here (state_in area) own) level area start
      else ends (Exiting l area))
  exit_if b is = ap (λ (x : Bool).
      if x then exit_or (best_here (state_in area) own) level area start
      else ends (Exiting l area)) is

  -- by the handler that is chosen
  exit_best : (o : Option Handling) → nat_eq l level ≡ true → best_here (state_in area) own ≡ o →
      exited_or level own start (Exiting l area) ≡ exit_or o level area start
  exit_best o is best = exit_if true is ∙ ap (λ (x : Option Handling). exit_or x level area start)
      best

  -- and by its kind
  exit_kind : (h : Handling) (k : HandlerType) → nat_eq l level ≡ true →
      best_here (state_in area) own ≡ Some h → h.kind ≡ k →
      exited_or level own start (Exiting l area) ≡ exit_by k start (acting h area)
  exit_kind h k is best kind = exit_best (Some h) is best
      ∙ ap (λ (x : HandlerType). exit_by x start (acting h area)) kind

pub exit_goes_on : ExitGoesOn
exit_goes_on = record {
  other = other_exit;
  outwards = λ level own start l area is. exit_if level own start l area false is;
  exits = λ level own start l area h f g w u o is best kind done.
      ap (λ (d : Doing). d f w) (exit_kind level own start l area h _ is best kind)
      ∙ ap settled done;
  undoes = λ level own start l area h f g w u o is best kind done.
      ap (λ (d : Doing). d f w) (exit_kind level own start l area h _ is best kind)
      ∙ ap settled done;
  none = λ level own start l area f w is best.
      ap (λ (d : Doing). d f w) (exit_best level own start l area None is best);
}

-- ---- raising as a whole

open_seal : (scopes : Scopes) (start : Tables) (o : Outcome) →
    sealed_or false scopes start o ≡ ends o
open_seal scopes start Next = refl
open_seal scopes start (Leaving l) = refl
open_seal scopes start (Iterating l) = refl
open_seal scopes start (Returning v) = refl
open_seal scopes start (Exiting l area) = refl
open_seal scopes start (Raising area) = refl
open_seal scopes start Spent = refl

other_seal : (atomic : Bool) (scopes : Scopes) (start : Tables) (o : Outcome) → NoRaise o →
    sealed_or atomic scopes start o ≡ ends o
other_seal false scopes start o h = open_seal scopes start o
other_seal true scopes start Next h = refl
other_seal true scopes start (Leaving l) h = refl
other_seal true scopes start (Iterating l) h = refl
other_seal true scopes start (Returning v) h = refl
other_seal true scopes start (Exiting l area) h = refl
other_seal true scopes start (Raising area) h = absurd (h area refl)
other_seal true scopes start Spent h = refl

pub seal_goes_on : SealGoesOn
seal_goes_on = record {
  open_one = open_seal;
  other = other_seal;
  whole = λ scopes start area f w. refl;
}

-- ---- the whole

module _ (atomic : Bool) (level : ℕ) (scopes : Scopes) (declare : Frame → Eval Frame) (n : ℕ)
    (handlings : Scopes → List Handling) (body : Scopes → Doing) (f : Frame) (w : World) where
  -- what follows the declarations
  abbrev statements : Doing
  statements = let outer = scopes_in atomic scopes in
      with_closed n (listed level w.tables outer (handlings outer) body)

  -- by the end of the declarations
  by_declared : (e : Ends Frame) → declare f w ≡ e →
      compound atomic level scopes declare n handlings body f w ≡
      declared_or atomic scopes w.tables e statements f
  by_declared e h = ap (λ (x : Ends Frame). declared_or atomic scopes w.tables x statements f) h

  ran : (g i j : Frame) (u x y : World) (o p : Outcome) → declare f w ≡ Gives g u →
      body (scopes_within atomic level scopes handlings (frame_within n g)) (frame_within n g) u ≡
      ends o i x → exited_or level (handlings (scopes_in atomic scopes)) w.tables o i x ≡
      ends p j y → compound atomic level scopes declare n handlings body f w ≡
      sealed atomic scopes w.tables (left_by f (left level (ends p j y)))
  ran g i j u x y o p declared done exits =
      by_declared (Gives g u) declared
      ∙ ap (λ (e : End). sealed atomic scopes w.tables (left_by f (left level
      (exited level (handlings (scopes_in atomic scopes)) w.tables e)))) done
      ∙ ap (λ (e : End). sealed atomic scopes w.tables (left_by f (left level e))) exits

pub compound_goes_on : CompoundGoesOn
compound_goes_on = record {
  raises = λ level scopes declare n handlings body f w u area h.
      by_declared false level scopes declare n handlings body f w _ h;
  raises_atomic = λ level scopes declare n handlings body f w u area h.
      by_declared true level scopes declare n handlings body f w _ h;
  runs_out = λ atomic level scopes declare n handlings body f w u h.
      by_declared atomic level scopes declare n handlings body f w _ h;
  ran = λ atomic level scopes declare n handlings body f g i j w u x y o p declared done exits.
      ran atomic level scopes declare n handlings body f w g i j u x y o p declared done exits;
}
