use Rattle.std.proofs.Common.{rules, ◌≡◌, true, Ok, Err, ℤ}
use Rattle.sql_values.specs.Spellings.{are_digits, without_sign}
use Rattle.sql_values.proofs.Numerals.{parsed, read_integer, read_too_great}
use Rattle.sql_values.proofs.spellings.number_in.Goals as goal

pub returns-in-Ok : goal.returns-in-Ok
returns-in-Ok c =
    let digits : are_digits (without_sign c.args.word.now) ≡ true = search rules in
    let known = parsed {E = ℤ} c.args.word.now (Ok c.in-Ok.number) digits c.in-Ok.ensures.value.0 in
    let read = read_integer c.args.word.now c.in-Ok.number digits known.0 known.1 in
    search (rules, read)

pub returns-in-Err : goal.returns-in-Err
returns-in-Err c =
    let digits : are_digits (without_sign c.args.word.now) ≡ true = search rules in
    read_too_great c.args.word.now digits (parsed c.args.word.now (Err c.in-Err.field-0) digits
    c.in-Err.ensures.value.0)
