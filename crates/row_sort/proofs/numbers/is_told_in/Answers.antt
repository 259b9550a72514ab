use Rattle.std.proofs.Common.{ap}
use Rattle.row_sort.specs.Numbers.{is_told}
use Rattle.row_sort.proofs.Values.{no_value}
use Rattle.row_sort.proofs.numbers.is_told_in.Goals as goal

pub returns-in-None : goal.returns-in-None
returns-in-None c = ap (is_told c.args.truths)
    (no_value c.args.row.now c.args.column c.in-None.ensures.value)
