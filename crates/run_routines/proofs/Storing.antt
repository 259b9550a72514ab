-- INSERT, UPDATE and DELETE while they run.
use Rattle.std.proofs.Common.{Result, Ok, Err, sym, ap, subst}
use Rattle.rel_algebra.specs.World.{Ends, Eval, after, unit, unit_of}
use Rattle.run_choices.specs.declared.stop.Stop.{Stop}
use Rattle.run_choices.specs.Ending.{Tells}
use Rattle.run_expressions.specs.Content.{Content, world_of}
use Rattle.run_expressions.specs.Ending.{Ended}
use Rattle.run_expressions.proofs.Laws.{stops_too}
use Rattle.run_expressions.proofs.Laws.{stays_on}
use Rattle.run_routines.specs.Writing.{GoesOnWith}

-- what goes on from an answer, after it
pub goes_on_with : {A B : Type 0} (old mid new : Content) (r : Result A Stop)
    (answer : Result B Stop) (e : Ends A) (go : A → Eval B) → Ended old mid r e →
    GoesOnWith r mid new answer go → Ended old new answer (after e go)
goes_on_with {A} {B} old mid new (Ok a) answer e go d so = record {
  tells = subst (λ (x : Ends B). Tells (world_of new) answer x)
      (sym (ap (λ (z : Ends A). after z go) d.tells)) so.tells;
  stays = stays_on old mid new d.stays so.stays;
}
goes_on_with {A} {B} old mid new (Err s) answer e go d so =
    subst (λ (x : Result B Stop). Ended old new x (after e go)) (sym so.0)
    (subst (λ (m : Content). Ended {A = B} old m (Err s) (after e go)) (sym so.1)
    (record {
      tells = stops_too {A = A} {B = B} (world_of mid) s e go d.tells;
      stays = d.stays;
    }))

-- a unit that gives
pub unit_gives : {A : Type 0} (old new : Content) (a : A) (e : Eval A) →
    Ended old new (Ok a) (e (world_of old)) → Ended old new (Ok a) (unit e (world_of old))
unit_gives old new a e d =
    record { tells = ap (unit_of (world_of old)) d.tells; stays = d.stays }
