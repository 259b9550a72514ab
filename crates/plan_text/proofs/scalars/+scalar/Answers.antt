use Rattle.std.proofs.Common.{◌++◌, arith}
use Rattle.std.proofs.lemmas.Result.{on_ok_weaker}
use Rattle.rel_algebra.specs.PlanView.{scalars_of}
use Rattle.plan_text.specs.ScalarText.{comma, scalar_texts, separated}
use Rattle.plan_text.proofs.Operators.{chain_put, compare_put}
use Rattle.plan_text.proofs.ScalarLists.{scalar_put, all_put}
use Rattle.plan_text.proofs.scalars.+scalar.Goals as goal

pub put_scalar-returns-in_ok-put_further-in-Compare :
    goal.put_scalar-returns-in_ok-put_further-in-Compare
put_scalar-returns-in_ok-put_further-in-Compare t c =
    on_ok_weaker c.put.result (λ closed. compare_put c.args.scalar.now c.in-Compare.left
    c.in-Compare.right c.get-left.result.now c.get-right.result.now c.in-Compare.comparison
    c.args.text.now.items _ _ _ c.put.new.text.items c.in-Compare.is c.get-left.ensures
    c.get-right.ensures c.in_ok-put_compared-in-Compare.ensures
    c.in_ok-put_scalar-in-Compare.ensures c.in_ok-put_further-in-Compare.ensures closed)
    c.put.ensures

pub put_scalar-returns-in_ok-put_scalar-in-Chain : goal.put_scalar-returns-in_ok-put_scalar-in-Chain
put_scalar-returns-in_ok-put_scalar-in-Chain t c =
    on_ok_weaker c.put_closings.result (λ closed. chain_put c.args.scalar.now c.in-Chain.first
    c.get-first.result.now c.in-Chain.links c.as_slice-links.result.now c.args.text.now.items _ _
    c.put_closings.new.text.items c.in-Chain.is c.get-first.ensures c.as_slice-links.ensures
    c.in_ok-put_openings-in-Chain.ensures c.in_ok-put_scalar-in-Chain.ensures closed)
    c.put_closings.ensures

pub put_scalars-loop-scalar-preserved : goal.put_scalars-loop-scalar-preserved
put_scalars-loop-scalar-preserved t c =
    scalar_put c.loop-scalar.first c.args.scalars.now c.loop-scalar.scalar-index
    c.scalar-item.result c.loop-scalar.text.items c.put_mark.new.text.items
    c.put_scalar.new.text.items
    (c.args.text.now.items ++ separated comma (scalar_texts (scalars_of c.args.scalars.now)))
    c.loop-scalar-test.true c.scalar-item.is c.in_ok-put_mark.ensures c.in_ok-put_scalar.ensures
    c.loop-scalar.invariant

pub put_scalars-returns : goal.put_scalars-returns
put_scalars-returns t c =
    all_put c.loop-scalar.first c.args.scalars.now c.loop-scalar.scalar-index
    c.loop-scalar.text.items
    (c.args.text.now.items ++ separated comma (scalar_texts (scalars_of c.args.scalars.now)))
    (omega (arith, c.loop-scalar-test.false)) c.loop-scalar.invariant
