use Rattle.std.proofs.Common.{◌≡◌, ◌∷◌, [], ◌++◌, replicate, ap, ◌∙◌, arith}
use Rattle.plan_rows.proofs.Laws.{copy_more}
use Rattle.plan_exec.proofs.collapse.add_copies.Goals as goal

pub loop-preserved : goal.loop-preserved
loop-preserved c =
    copy_more c.args.cell.now c.args.cells.now.items c.loop.cells.items c.push.new.self.items
    c.loop.counter c.loop.invariant
    (c.in_ok-push.ensures.items ∙ ap (λ x. c.loop.cells.items ++ x ∷ [])
    c.in_ok-copied_cell.ensures)

pub returns : goal.returns
returns c =
    let all : c.loop.counter ≡ c.args.count =
    omega (arith, c.loop-test.false, c.loop.auto.counter-end) in
    c.loop.invariant ∙ ap (λ n. c.args.cells.now.items ++ replicate n c.args.cell.now) all
