use Rattle.bound_trees.specs.declared.statement.BoundBlock.{out-BoundBlock}
use Rattle.std.proofs.Common.{◌≡◌, suc}
use Rattle.block_plans.specs.Callees.{Callees}
use Rattle.rel_algebra.specs.BodyChain.{ending_width}
use Rattle.rel_algebra.specs.BodyDispatch.{Codes}
use Rattle.plan_expressions.proofs.Laws.{if_ok}
use Rattle.plan_bodies.specs.Blocks.{own_in}
use Rattle.plan_bodies.proofs.Blocks.{handlers_wide, no_handlers_wide}
use Rattle.plan_steps.proofs.Seen.{none_in, some_in}
use Rattle.plan_bodies.proofs.emit.ending_columns.Goals as goal

pub returns-then-is_empty : goal.returns-then-is_empty
returns-then-is_empty c known outer =
    let hs = (out-BoundBlock c.args.block.now).handlers in
    no_handlers_wide known outer hs c.args.columns
    (none_in hs c.is_empty.result c.is_empty.ensures c.if-is_empty.true)

pub returns : goal.returns
returns c =
    let hs = (out-BoundBlock c.args.block.now).handlers in
    if_ok c.after.result (λ n. n ≡ suc c.args.columns)
    (λ n. (known : Callees) (outer : Codes) → n ≡ ending_width
    (own_in known outer c.args.block.now) c.args.columns) c.after.ensures
    (λ n h known outer. handlers_wide known outer hs c.args.columns n
    (some_in hs c.is_empty.result c.is_empty.ensures c.if-is_empty.false) h)
