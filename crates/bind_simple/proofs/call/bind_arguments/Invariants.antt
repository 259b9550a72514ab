use Rattle.std.proofs.Common.{◌≡◌, drop, []}
use Rattle.std.specs.Option.{option_copied}
use Rattle.bind_faults.specs.Faults.{taken}
use Rattle.bind_parts.specs.Turns.{each_noted}
use Rattle.bind_simple.specs.Places.{place_by}
use Rattle.bind_simple.specs.Calls.{one_argument, judged_arguments}
use Rattle.bind_simple.proofs.call.bind_arguments.Given as goal

abbrev pub invariant-loop-argument : goal.invariant-loop-argument
invariant-loop-argument l =
    let left = each_noted (one_argument l.script (place_by l.place) (option_copied l.procedure))
    l.so (drop l.argument-index l.arguments) in
    let whole = judged_arguments l.script (place_by l.place) (option_copied l.procedure) l.arguments
    in
    record {
      value : left.value ≡ whole.value;
      notes : taken l.notes left ≡ taken l.initial.notes whole;
    }
