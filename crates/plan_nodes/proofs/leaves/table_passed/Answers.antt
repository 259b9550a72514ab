use Rattle.std.proofs.Common.{◌≡◌, map, ◌++◌, ◌∙◌, ap, sym, drop, arith}
use Rattle.std.specs.List.{list_all}
use Rattle.row_types.specs.declared.cell.Cell.TheVariants.{Val}
use Rattle.row_types.specs.OuterRows.{outer_rows}
use Rattle.plan_nodes.specs.Fates.{passed}
use Rattle.rel_algebra.specs.Plan.{shown_rows}
use Rattle.plan_nodes.specs.Receiving.{received}
use Rattle.plan_nodes.specs.Ways.{way_fate}
use Rattle.plan_nodes.proofs.Read.{way_is, row_passed}
use Rattle.plan_nodes.proofs.Skipped.{front_left, out, rest_left}
use Rattle.plan_nodes.proofs.leaves.table_passed.Goals as goal

pub loop-at-preserved : goal.loop-at-preserved
loop-at-preserved g c =
    let o = outer_rows c.args.outer.now in
    let args = c.args.args.now in
    let rows = c.args.table.now.table.rows in
    let vs = c.of-values.result in
    let cs = c.clear.new.self.cells.items in
    record {
      rows = row_passed c.args.nodes.now o args rows c.loop-at.at c.read_row.result.now
          c.loop-at.received c.add_passed.new.received
          (received c.args.into (passed c.args.nodes.now o args (shown_rows rows)))
          (way_fate c.through-way.result (map Val vs ++ cs) o args)
          (omega (arith, c.loop-at-test.true, c.in_ok-places.ensures.within))
          c.read_row.ensures.row
          (way_is c.args.nodes.now c.through-way.result o args vs c.read_row.result.now cs
          (λ r. c.through-way.ensures r o args) c.clear.ensures
          (c.of-values.ensures ∙ c.as_slice.ensures))
          c.in_ok-add_passed.ensures c.loop-at.invariant.rows;
      work = omega (arith, c.loop-at.invariant.work, c.read_row.ensures.step);
    }

pub loop-at-init : goal.loop-at-init
loop-at-init g c =
    let o = outer_rows c.args.outer.now in
    let args = c.args.args.now in
    let rows = c.args.table.now.table.rows in
    record {
      rows = ap (received c.in_ok-received.received) (front_left c.args.nodes.now o args rows
          c.in_ok-places.places.from c.in_ok-places.ensures.before) ∙
          ap (λ r. received r (passed c.args.nodes.now o args (shown_rows rows)))
          c.in_ok-received.ensures;
      work = omega arith;
    }

pub returns-clause-rows : goal.returns-clause-rows
returns-clause-rows g c =
    let o = outer_rows c.args.outer.now in
    let args = c.args.args.now in
    let rows = c.args.table.now.table.rows in
    let at : c.in_ok-places.places.to ≡ c.loop-at.at = omega (
      arith,
      c.loop-at-test.false,
      c.loop-at.auto.at-end c.in_ok-places.ensures.order,
    ) in
    rest_left c.args.nodes.now o args rows c.loop-at.at c.loop-at.received
    (received c.args.into (passed c.args.nodes.now o args (shown_rows rows)))
    (ap (λ n. list_all (out c.args.nodes.now o args) (drop n rows)) (sym at) ∙
    c.in_ok-places.ensures.past)
    c.loop-at.invariant.rows
