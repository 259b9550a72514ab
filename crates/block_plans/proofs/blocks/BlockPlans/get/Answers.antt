use Rattle.std.proofs.Common.{◌≡◌, sym, subst}
use Rattle.catalog_store.specs.Catalog.{routine_named}
use Rattle.block_plans.specs.Blocks.{IsRun}
use Rattle.block_plans.specs.Callees.{Callees, callee}
use Rattle.block_plans.proofs.Holding.{none_run, other_run, block_run, by_count}
use Rattle.block_plans.proofs.blocks.BlockPlans.get.Goals as goal

pub returns-in-Some : goal.returns-in-Some
returns-in-Some c =
    let known = c.self.inside.known.value in
    let blocks = c.self.inside.plans.entries in
    let name = c.args.name.now in
    let n = c.args.count in
    let b = c.in-Some.block.now in
    by_count c.with_parameters.result b n
    (callee c.args.self.now name n ≡ routine_named name c.args.self.now.known)
    (IsRun c.args.self.now name n) c.with_parameters.ensures
    (λ other. subst (λ (k : Callees). callee k name n ≡ routine_named name k.known) c.self.view_is
    (other_run known blocks name n b c.self.invariant (sym c.in-Some.ensures.value) other))
    (λ many. subst (λ (k : Callees). IsRun k name n b) c.self.view_is
    (block_run known blocks name n b c.self.invariant (sym c.in-Some.ensures.value) many))

pub returns-in-None : goal.returns-in-None
returns-in-None c =
    let name = c.args.name.now in
    let n = c.args.count in
    subst (λ (k : Callees). callee k name n ≡ routine_named name k.known) c.self.view_is
    (none_run c.self.inside.known.value c.self.inside.plans.entries name n
    (sym c.in-None.ensures.value))
