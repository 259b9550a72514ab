use Rattle.std.proofs.Common.{◌≡◌, drop}
use Rattle.bind_faults.specs.Faults.{taken}
use Rattle.bind_parts.specs.Turns.{each_noted}
use Rattle.bind_parts.specs.Order.{one_key, keys_of}
use Rattle.bind_parts.proofs.order.keys_by.Given as goal

abbrev pub invariant-loop-written : goal.invariant-loop-written
invariant-loop-written l =
    let left = each_noted (one_key l.columns) l.so (drop l.written-index l.order) in
    let whole = keys_of l.columns l.order in
    record {
      value : left.value ≡ whole.value;
      notes : taken l.notes left ≡ taken l.initial.notes whole;
    }
