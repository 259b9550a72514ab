use Rattle.std.proofs.Common.{map, ◌∙◌}
use Rattle.rel_algebra.specs.Emit.{filters}
use Rattle.plan_expressions.specs.Drafts.{drafted}
use Rattle.plan_drafts.specs.Conjuncts.{plain_of}
use Rattle.plan_drafts.proofs.Waits.{each_next, each_done}
use Rattle.plan_drafts.proofs.keys.filter_each.Goals as goal

pub loop-test-preserved : goal.loop-test-preserved
loop-test-preserved c = record {
  tree = each_next c.loop-test.left c.pop.new.self c.in-Some.test c.loop-test.draft
      c.filter.new.self (filters (map plain_of c.args.tests) (drafted c.args.draft.now).tree)
      c.in-Some.ensures
      c.in_ok-filter.ensures.tree c.loop-test.invariant.tree;
  width = c.in_ok-filter.ensures.width ∙ c.loop-test.invariant.width;
}

pub returns-clause-tree : goal.returns-clause-tree
returns-clause-tree c =
    each_done c.loop-test.left c.loop-test.draft
    (filters (map plain_of c.args.tests) (drafted c.args.draft.now).tree) c.in_default.ensures.0
    c.loop-test.invariant.tree
