use Rattle.std.proofs.Common.{◌≡◌, ◌++◌, replicate}
use Rattle.plan_exec.proofs.collapse.add_copies.Given as goal

abbrev pub invariant-loop : goal.invariant-loop
invariant-loop l = l.cells.items ≡ l.fn.cells.items ++ replicate l.counter l.cell
