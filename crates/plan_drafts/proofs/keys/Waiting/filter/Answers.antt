use Rattle.plan_drafts.proofs.Waits.{both_filtered}
use Rattle.plan_drafts.proofs.keys.Waiting.filter.Goals as goal

pub returns-clause-tree : goal.returns-clause-tree
returns-clause-tree c = both_filtered c.args.self c.args.draft.now c.filter_each.new.draft
    c.filter_each-2.new.draft c.in_ok-filter_each.ensures.tree c.in_ok-filter_each-2.ensures.tree
