use Rattle.std.proofs.Common.{◌≡◌, length, map, reverse}
use Rattle.rel_algebra.specs.Emit.{filters}
use Rattle.plan_expressions.specs.Drafts.{drafted}
use Rattle.plan_drafts.specs.Conjuncts.{plain_of}
use Rattle.plan_drafts.proofs.keys.filter_each.Given as goal

abbrev pub invariant-loop-test : goal.invariant-loop-test
invariant-loop-test l =
    record {
      tree : filters (map plain_of (reverse l.left)) (drafted l.draft).tree ≡ filters
          (map plain_of l.fn.tests) (drafted l.initial.draft).tree;
      width : (drafted l.draft).width ≡ (drafted l.initial.draft).width;
    }

abbrev pub decreases-loop-test : goal.decreases-loop-test
decreases-loop-test l = length l.left
