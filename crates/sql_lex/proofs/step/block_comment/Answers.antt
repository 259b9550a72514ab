use Rattle.std.proofs.Common.{ℕ, ◌-◌, ◌≤◌, ◌∙◌, List, length, take, drop, sym, ap, arith}
use Rattle.std.proofs.Common.{length-drop}
use Rattle.sql_lex.proofs.Scanning.{close_end-within, rest_of}
use Rattle.sql_lex.proofs.step.block_comment.Goals as goal

pub overflow_add-result : goal.overflow_add-result
overflow_add-result c =
    let s : List ℕ = c.args.bytes.now in
    let within : c.in-Some.width ≤ length (take (length s - 2) (drop 2 s)) =
    close_end-within _ _ (sym c.close_end.ensures ∙ c.in-Some.is) in
    omega (arith, ap length (rest_of s 2), length-drop 2 s)
