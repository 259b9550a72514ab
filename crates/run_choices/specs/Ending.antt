-- How an answer tells the end of an evaluation.
use Rattle.std.specs.Prelude.{◌≡◌, Result, Ok, Err}
use Rattle.rel_algebra.specs.World.{World, Ends, Gives, Raises, RunsOut, Eval}
use Rattle.run_choices.specs.declared.stop.Stop.{Stop}
use Rattle.run_choices.specs.declared.stop.Stop.TheVariants.{Raised, Spent, NoMemory}

-- the answer, with the world that is left, is exactly how the evaluation ends; want of memory tells
-- nothing of it
abbrev pub Tells : {A : Type 0} → World → Result A Stop → Ends A → Type 0
Tells w (Ok a) e = e ≡ Gives a w
Tells w (Err (Raised area)) e = e ≡ Raises area w
Tells w (Err Spent) e = e ≡ RunsOut w
Tells w (Err NoMemory) e = Unit {0}

-- an evaluation that leaves each world as it is ends as the answer says
abbrev pub TellsAnywhere : {A : Type 0} → Result A Stop → Eval A → Type 0
TellsAnywhere answer e = (w : World) → Tells w answer (e w)
