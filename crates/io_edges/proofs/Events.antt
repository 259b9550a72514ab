-- One event more changes what is told as the event says.
use Rattle.std.proofs.Common.{◌≡◌, ℕ, List, [], ◌∷◌, ◌++◌, refl}
use Rattle.std.specs.Prelude.{Option}
use Rattle.io_edges.specs.TakenBytes.{TakenBytes}
use Rattle.io_edges.specs.Events.{after_event, told_from}

pub one_event : (t : TakenBytes) (events : List (Option ℕ)) (e : Option ℕ) →
    told_from t (events ++ e ∷ []) ≡ after_event (told_from t events) e
one_event t [] e = refl
one_event t (first ∷ events) e = one_event (after_event t first) events e
