use Rattle.std.proofs.Common.{rules}
use Rattle.sql_values.proofs.Places.{part-is}
use Rattle.sql_values.proofs.texts.part.Goals as goal

pub returns : goal.returns
returns c = part-is c.in_ok-part.field-0 c.args.text.now c.args.from c.args.length
    c.max-first.result c.place_within-end.result (search rules) (search rules) (search rules)
    (search rules)
