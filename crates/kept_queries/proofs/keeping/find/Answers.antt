-- What holds of all of them holds of the one that is found.
use Rattle.std.proofs.Common.{sym, subst}
use Rattle.kept_queries.specs.Keeping.{IsKeptFor}
use Rattle.kept_queries.proofs.keeping.find.Goals as goal

pub returns-then-same_query-clause-kept : goal.returns-then-same_query-clause-kept
returns-then-same_query-clause-kept c = λ known own h.
    subst (IsKeptFor known own) (sym c.one-item.is)
    (h c.loop-one.one-index c.one-item.result c.loop-one-test.true)
