use Rattle.std.proofs.Common.{drop}
use Rattle.grammar_algebra.specs.Statement.{most_open}
use Rattle.grammar_order_law.proofs.Laws.{spelled_in_order}
use Rattle.bind_statements.proofs.Laws.{faultless-typed}
use Rattle.psm_session.proofs.typing.statements_are_typed.Goals as goal

pub returns : goal.returns
returns c lexing at tree to catalog (l, k, s) p =
    faultless-typed tree catalog (spelled_in_order most_open tree (drop at lexing.tokens)
    (drop to lexing.tokens) s) p
