-- What is done where a statement raises, by the handler that is chosen.
use Rattle.std.proofs.Common.{◌≡◌, Bool, Option, Some, None, ap, ◌∙◌, if◌then◌else◌}
use Rattle.sql_conditions.specs.Conditions.{Area}
use Rattle.rel_algebra.specs.Tree.{HandlerType}
use Rattle.rel_algebra.specs.World.{World, Frame}
use Rattle.rel_algebra.specs.Doing.{Doing, End, Next, Raising, ends, back_in, settled}
use Rattle.rel_algebra.specs.Doing.{with_diagnostics}
use Rattle.rel_algebra.specs.States.{state_in}
use Rattle.rel_algebra.specs.Handlers.{Scopes, Chosen, best, taking, act_or}
use Rattle.rel_algebra.specs.Handlers.{act_by, unhandled}
use Rattle.statement_laws.specs.Raising.{TakenAsChosen}

-- by what is chosen
by_best : (scopes : Scopes) (area : Area) (rest : Doing) (f : Frame) (w : World)
    (o : Option Chosen) → best (state_in area) scopes ≡ o →
    taking scopes area rest f w ≡ act_or o area rest (with_diagnostics area 0 f) w
by_best scopes area rest f w o h =
    ap (λ (x : Option Chosen). act_or x area rest (with_diagnostics area 0 f) w) h

-- and by its kind
by_kind : (scopes : Scopes) (area : Area) (rest : Doing) (f : Frame) (w : World) (c : Chosen)
    (k : HandlerType) → best (state_in area) scopes ≡ Some c → c.handling.kind ≡ k →
    taking scopes area rest f w ≡ act_by k c area (with_diagnostics area 0 f) w
by_kind scopes area rest f w c k h is =
    by_best scopes area rest f w (Some c) h
    ∙ ap (λ (x : HandlerType). act_by x c area (with_diagnostics area 0 f) w) is

pub taken_as_chosen : TakenAsChosen
taken_as_chosen = record {
  fails = λ scopes area f w none. by_best scopes area (ends (Raising area)) f w None none;
  drops = λ scopes area f w none is. by_best scopes area (unhandled area) f w None none
      ∙ ap (λ (b : Bool). (if b then ends (Raising area) else ends Next)
      (with_diagnostics area 0 f) w) is;
  raises = λ scopes area f w is. ap (λ (b : Bool). taking scopes area
      (if b then ends (Raising area) else ends Next) f w) is;
  exits = λ scopes area rest f w c some is. by_kind scopes area rest f w c _ some is;
  undoes = λ scopes area rest f w c some is. by_kind scopes area rest f w c _ some is;
  continues = λ scopes area rest f g w u c o some is done.
      by_kind scopes area rest f w c _ some is
      ∙ ap (λ (e : End). back_in c.scope.variables c.scope.cursors (with_diagnostics area 0 f)
      (settled e)) done;
}
