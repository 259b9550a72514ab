use Rattle.std.proofs.Common.{◌≡◌, true, length, drop}
use Rattle.row_types.specs.Rows.{Row}
use Rattle.run_choices.specs.Sight.{seen}
use Rattle.plan_keys.specs.Terms.{misses}
use Rattle.run_keys.specs.LeftOut.{LeavesOut}
use Rattle.run_keys.proofs.terms.terms_of.Given as goal

abbrev pub invariant-loop-test : goal.invariant-loop-test
invariant-loop-test l = record {
  all : (row : Row) → misses l.terms row ≡ true → LeavesOut l.tests (seen l.outer) l.frame row;
  on : (row : Row) → LeavesOut (drop l.test-index l.tests) (seen l.outer) l.frame row →
      LeavesOut l.tests (seen l.outer) l.frame row;
  end : l.test-index-end ≡ length l.tests;
}
