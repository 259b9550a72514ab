-- How many columns there are is told by no table, and by nothing that calls run.
use Rattle.std.proofs.Common.{length, sym, ap, ◌∙◌}
use Rattle.std.specs.Prelude.{nat_eq}
use Rattle.block_plans.proofs.Laws.{query_width_seen}
use Rattle.block_forms.proofs.filled.fills.Goals as goal

pub returns : goal.returns
returns c =
    ap (λ n. nat_eq n (length c.args.targets.now))
    (c.columns_of.ensures c.args.functions.now.known (λ name. 0)
    ∙ sym (query_width_seen c.args.functions.now c.args.query.now (λ name. 0)))
