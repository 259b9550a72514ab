use Rattle.std.proofs.Common.{arith}
use Rattle.catalog_store.proofs.Counting.{all_freed, none_freed, one_freed}
use Rattle.catalog_store.proofs.users.remove_uses.Goals as goal

pub loop-used-init : goal.loop-used-init
loop-used-init c = none_freed c.args.user.now c.args.uses.now c.args.users.now.entries

pub loop-used-preserved : goal.loop-used-preserved
loop-used-preserved c =
    one_freed c.args.user.now c.used-item.result c.args.uses.now c.loop-used.used-index
    c.args.users.now.entries c.loop-used.users.entries c.remove_user.new.users.entries
    c.loop-used-test.true c.used-item.is c.loop-used.invariant c.remove_user.ensures

pub returns : goal.returns
returns c =
    all_freed c.args.user.now c.args.uses.now c.loop-used.used-index c.args.users.now.entries
    c.loop-used.users.entries (omega (arith, c.loop-used-test.false)) c.loop-used.invariant
