use Rattle.std.proofs.Common.{◌≡◌, ◌+◌, suc, ap, ◌∙◌}
use Rattle.plan_statements.proofs.compound.block_codes.Goals as goal

pub returns : goal.returns
returns c =
    let s = c.args.sealing in
    let exit : c.in_ok-exit.exit ≡ suc s = c.in_ok-exit.ensures in
    let runs : c.in_ok-runs.runs ≡ suc (suc s) = c.in_ok-runs.ensures ∙ ap suc exit in
    let first : c.in_ok-first.first ≡ suc (suc (suc s)) = c.in_ok-first.ensures ∙ ap suc runs in
    let free : c.in_ok-free.free ≡ suc (suc (suc s)) + c.args.handlers =
    c.in_ok-free.ensures ∙ ap (λ n. n + c.args.handlers) first in
    λ j. record { sealing = s; exit = exit j; runs = runs j; first = first j; free = free j }
