use Rattle.std.proofs.Common.{false, length, subst, sym, IfOk}
use Rattle.block_plans.specs.Callees.{width_in}
use Rattle.catalog_store.specs.Kept.{IsPlan}
use Rattle.plan_bodies.proofs.Returned.{block_emitted, other_seen, return_seen}
use Rattle.plan_bodies.proofs.block.plan_called.Goals as goal
use Rattle.region_trees.specs.Regions.{region_seen}
use Rattle.regions.specs.TreeBodies.{stmt_of}
use Rattle.rel_algebra.specs.Emit.{Emitted, emit_body, top}
use Rattle.rel_algebra.specs.Tree.{Function, Stmt}

pub returns-in-Return : goal.returns-in-Return
returns-in-Return c =
    let k = c.args.functions.now in let types = c.args.parameters.now in
    subst (λ (s : Stmt). IfOk c.plan_returned.result (λ p. IsPlan p (emit_body
    (Function false types c.args.returns false s) (width_in k) (top (length types)) 0)))
    (sym (return_seen k c.args.body.now c.in-Return.value c.in-Return.is))
    c.plan_returned.ensures

pub returns-in_default : goal.returns-in_default
returns-in_default c =
    let k = c.args.functions.now in let types = c.args.parameters.now in
    let statement = stmt_of (region_seen k c.args.body.now) in
    subst (λ (e : Emitted). IfOk c.plan_chain.result (λ p. IsPlan p e))
    (sym (block_emitted types c.args.returns statement (width_in k) (top (length types)) 0
    (other_seen k c.args.body.now c.in_default.not-Return))) c.plan_chain.ensures
