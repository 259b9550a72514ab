use Rattle.std.proofs.Common.{◌≡◌, take, drop, map, []}
use Rattle.bind_faults.specs.Faults.{noted}
use Rattle.bind_simple.specs.Places.{place_by}
use Rattle.bind_declarations.specs.Declarations.{value_of, values_after}
use Rattle.bind_declarations.proofs.handlers.bind_values.Given as goal

abbrev pub invariant-loop-value : goal.invariant-loop-value
invariant-loop-value l = record {
  value : l.bound ≡ map (value_of (place_by l.place)) (take l.value-index l.values);
  faults : noted l.least (values_after (place_by l.place) l.handlers l.bound
      (drop l.value-index l.values)) ≡ noted l.initial.least
      (values_after (place_by l.place) l.handlers [] l.values);
}
