use Rattle.std.proofs.Common.{◌∙◌, arith}
use Rattle.std.specs.Option.{option_copied}
use Rattle.bind_parts.proofs.Laws.{each-value, each-notes}
use Rattle.bind_simple.specs.Places.{place_by}
use Rattle.bind_simple.specs.Calls.{one_argument}
use Rattle.bind_simple.proofs.call.bind_arguments.Goals as goal

pub loop-argument-preserved : goal.loop-argument-preserved
loop-argument-preserved c =
    let one = one_argument c.args.script (place_by c.args.place.now)
    (option_copied c.args.procedure) in
    record {
      value = each-value one c.args.arguments.now c.loop-argument.argument-index
          c.argument-item.result c.loop-argument.so _
          (omega arith) c.argument-item.is c.in_ok-add_argument.ensures.value ∙
          c.loop-argument.invariant.value;
      notes = each-notes one c.args.arguments.now c.loop-argument.argument-index
          c.argument-item.result c.loop-argument.so _ c.loop-argument.notes _
          (omega arith) c.argument-item.is c.in_ok-add_argument.ensures.value
          c.in_ok-add_argument.ensures.notes ∙ c.loop-argument.invariant.notes;
    }
