use Rattle.std.proofs.Common.{arith, Result, Ok, Err, OnErr}
use Rattle.catalog_store.proofs.Counting.{all_noted, none_noted, one_noted, some_noted}
use Rattle.catalog_store.proofs.users.add_uses.Goals as goal

-- what holds anyhow holds after a failure
anyhow : {T E P : Type 0} (r : Result T E) → P → OnErr r P
anyhow (Ok x) p = tt
anyhow (Err e) p = p

pub loop-used-init : goal.loop-used-init
loop-used-init c = none_noted c.args.user.now c.args.uses.now c.args.users.now.entries

pub loop-used-preserved : goal.loop-used-preserved
loop-used-preserved c =
    one_noted c.args.user.now c.used-item.result c.args.uses.now c.loop-used.used-index
    c.args.users.now.entries c.loop-used.users.entries c.add_other.new.users.entries
    c.loop-used-test.true c.used-item.is c.loop-used.invariant c.in_ok-add_other.ensures.ok

pub returns-clause-ok : goal.returns-clause-ok
returns-clause-ok c =
    all_noted c.args.user.now c.args.uses.now c.loop-used.used-index c.args.users.now.entries
    c.loop-used.users.entries (omega (arith, c.loop-used-test.false)) c.loop-used.invariant

pub returns-in_err-add_other-clause-err : goal.returns-in_err-add_other-clause-err
returns-in_err-add_other-clause-err c =
    anyhow c.from_residual.result
    (some_noted c.args.user.now c.args.uses.now c.loop-used.used-index c.args.users.now.entries
    c.loop-used.users.entries c.add_other.new.users.entries c.loop-used.invariant
    c.in_err-add_other.ensures.err)
