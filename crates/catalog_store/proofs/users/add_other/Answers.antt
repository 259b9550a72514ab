use Rattle.std.proofs.Common.{sym, ◌∙◌}
use Rattle.std.proofs.lemmas.Result.{on_ok_weaker}
use Rattle.catalog_store.proofs.Counting.{other_added, own_added}
use Rattle.catalog_store.proofs.users.add_other.Goals as goal

pub returns-then-eq-clause-ok : goal.returns-then-eq-clause-ok
returns-then-eq-clause-ok c =
    own_added c.args.used.now c.args.user.now c.args.users.now.entries
    (sym c.eq.ensures ∙ c.if-eq.true)

pub returns-clause-ok : goal.returns-clause-ok
returns-clause-ok c =
    on_ok_weaker c.add_user.result
    (other_added c.args.used.now c.args.user.now c.args.users.now.entries
    c.add_user.new.users.entries (sym c.eq.ensures ∙ c.if-eq.false))
    c.add_user.ensures.ok
