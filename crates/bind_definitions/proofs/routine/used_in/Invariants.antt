use Rattle.std.proofs.Common.{◌≡◌, ◌++◌, drop}
use Rattle.bind_definitions.specs.Routines.{used_in}
use Rattle.bind_definitions.proofs.routine.used_in.Given as goal

abbrev pub invariant-loop-name : goal.invariant-loop-name
invariant-loop-name l = l.used ++ used_in l.catalog (drop l.name-index l.names) ≡
    used_in l.catalog l.names
