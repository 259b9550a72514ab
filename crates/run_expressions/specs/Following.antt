-- What is made of an answer, where it is there.
use Rattle.std.specs.Prelude.{◌≡◌, Result, Ok, Err}
use Rattle.rel_algebra.specs.World.{Eval}
use Rattle.run_choices.specs.declared.stop.Stop.{Stop}
use Rattle.run_choices.specs.Ending.{TellsAnywhere}

-- An answer that is made of an earlier one. Where the earlier gives a value, what goes on from it
-- leaves each world as it is, and ends as the answer says; where it stops, the answer is that stop.
abbrev pub Follows : {A B : Type 0} → Result A Stop → Result B Stop → (A → Eval B) → Type 0
Follows (Ok a) answer go = TellsAnywhere answer (go a)
Follows (Err stop) answer go = answer ≡ Err stop
