use Rattle.sql_lex.proofs.Scanning.{front_is_digits}
use Rattle.sql_lex.proofs.step.number.Goals as goal

pub number_of-requires : goal.number_of-requires
number_of-requires c = front_is_digits c.args.bytes.now _ c.digits_width-width.ensures
