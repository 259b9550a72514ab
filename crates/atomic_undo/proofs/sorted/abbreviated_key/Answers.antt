use Rattle.std.proofs.Common.{arith}
use Rattle.atomic_undo.proofs.Placing.{first_is, no_value}
use Rattle.sql_values.specs.declared.value.Value.TheVariants.{Null}
use Rattle.atomic_undo.proofs.sorted.abbreviated_key.Goals as goal

pub returns-in-None : goal.returns-in-None
returns-in-None c =
    let h = c.in-Some.ensures.lookup in
    first_is c.args.key.now c.args.row.now c.in-Some.place.now Null (let l = h.0 in omega arith) h.1
    (no_value c.args.row.now c.in-Some.place.now c.in-None.ensures.value)
