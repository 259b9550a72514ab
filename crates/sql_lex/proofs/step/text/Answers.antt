use Rattle.std.proofs.Common.{ℕ, ◌-◌, ◌≤◌, List, length, take, drop, ap, arith, length-drop}
use Rattle.sql_lex.proofs.Scanning.{unquoted-within, rest_of}
use Rattle.sql_lex.proofs.step.text.Goals as goal

pub overflow_add-width : goal.overflow_add-width
overflow_add-width c =
    let s : List ℕ = c.args.bytes.now in
    let within : c.in-Some.width ≤ length (take (length s - 1) (drop 1 s)) =
    unquoted-within _ _ _ _ _ c.in_ok-unquoted.ensures c.in-Some.is in
    omega (arith, ap length (rest_of s 1), length-drop 1 s)
