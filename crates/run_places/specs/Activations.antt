-- How an activation of a routine that calls itself starts, and what it does. ISO/IEC 9075-2, 10.4
-- (routine invocation).
use Rattle.std.specs.Prelude.{ℕ, ◌≡◌, ◌-◌, suc, Result, Ok, Err}
use Rattle.rel_algebra.specs.Tree.{Function, Procedure, Routine}
use Rattle.rel_algebra.specs.World.{Called, Calling, activation, no_again, no_self, turn}
use Rattle.run_choices.specs.declared.stop.Stop.{Stop}
use Rattle.run_expressions.specs.Content.{Content, counted, turned, world_of}
use Rattle.run_expressions.specs.Ending.{Ended}
use Rattle.run_places.specs.Places.{function_body, procedure_body}

-- a turn is taken, and one routine more is active; or it stops
abbrev pub Started : Content → Content → Result (Unit {0}) Stop → Type 0
Started old new (Ok done) = Ended old (turned (old.turns - 1) old) (Ok tt) (turn (world_of old))
    × (new ≡ counted (suc old.active) (turned (old.turns - 1) old))
Started old new (Err s) = Ended {A = Unit {0}} old new (Err s) (turn (world_of old))

-- a function that calls itself, with so much room
abbrev pub function_activation : ℕ → Routine → Called
function_activation room (Function calls_itself parameters returns null_call body) =
    activation room (function_body returns null_call body)
function_activation room (Procedure calls_itself parameters body) = no_self

-- a procedure that calls itself
abbrev pub procedure_activation : ℕ → Routine → Calling
procedure_activation room (Procedure calls_itself parameters body) =
    activation room (procedure_body parameters body)
procedure_activation room (Function calls_itself parameters returns null_call body) = no_again
