use Rattle.std.proofs.Common.{arith}
use Rattle.row_types.specs.OuterRows.{outer_rows}
use Rattle.plan_keys.proofs.Compared.{found_more}
use Rattle.plan_keys.proofs.terms.terms_of.Goals as goal

pub loop-node-preserved : goal.loop-node-preserved
loop-node-preserved c = record {
  rows = λ row h. c.loop-node.invariant.rows row
      (found_more c.args.nodes.now c.loop-node.node-index c.node-item.result c.loop-node.terms
      c.add_term.new.terms c.in-Some.term c.in_ok-term.field-0 row
      (outer_rows c.args.outer.now) c.args.args.now
      (omega (arith, c.loop-node-test.true, c.loop-node.invariant.end))
      c.node-item.is (c.in_ok-add_term-in-Some.ensures row) c.in-Some.is c.in_ok-term.ensures h);
  end = c.loop-node.invariant.end;
}
