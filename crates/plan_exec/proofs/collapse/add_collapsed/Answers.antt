use Rattle.std.proofs.Common.{[], ◌++◌, length, sym, ap, ◌∙◌, arith}
use Rattle.std.proofs.lemmas.Result.{on_ok_weaker}
use Rattle.rel_algebra.specs.Plan.{collapse, collected, grouped}
use Rattle.rel_algebra.specs.PlanView.{aggregates_of, kind_of}
use Rattle.rel_algebra.specs.declared.plan.ApplyKind.TheVariants.{Aggregate}
use Rattle.plan_nodes.specs.declared.received.Received.TheVariants.{Rows}
use Rattle.plan_rows.specs.Firsts.{values_end}
use Rattle.plan_nodes.specs.Fates.{passed}
use Rattle.plan_nodes.specs.Receiving.{nothing_of, received}
use Rattle.plan_exec.proofs.Collapsing.{into_judged, judged_cells, judged_length, row_cells_are}
use Rattle.plan_exec.proofs.Collapsing.{row_length}
use Rattle.plan_exec.proofs.collapse.add_collapsed.Goals as goal

pub returns-in_err-values-in-Aggregate-clause-work :
    goal.returns-in_err-values-in-Aggregate-clause-work
returns-in_err-values-in-Aggregate-clause-work g c rows came =
    let columns = c.as_slice.result.now in
    let is = c.in-Aggregate.is ∙ ap Aggregate (sym c.as_slice.ensures) in
    let made = c.in_ok-row-in-Aggregate.ensures.rows rows
    (ap (λ k. received (nothing_of k) rows) (sym is) ∙ came)
    ∙ ap (λ l. received (Rows l) (passed [] [] []
    (grouped [] (aggregates_of columns) (collected rows)))) c.new.ensures in
    omega (
      arith,
      c.collect_values.ensures.work,
      row_length columns [] [] rows c.into_list.result
          c.in_ok-row-in-Aggregate.row made c.into_list.ensures,
    )

pub returns-in_ok-values-in-Aggregate-clause-work :
    goal.returns-in_ok-values-in-Aggregate-clause-work
returns-in_ok-values-in-Aggregate-clause-work g c rows came =
    let columns = c.as_slice.result.now in
    let is = c.in-Aggregate.is ∙ ap Aggregate (sym c.as_slice.ensures) in
    let made = c.in_ok-row-in-Aggregate.ensures.rows rows
    (ap (λ k. received (nothing_of k) rows) (sym is) ∙ came)
    ∙ ap (λ l. received (Rows l) (passed [] [] []
    (grouped [] (aggregates_of columns) (collected rows)))) c.new.ensures in
    omega (
      arith,
      c.collect_values.ensures.work,
      row_length columns [] [] rows c.into_list.result
          c.in_ok-row-in-Aggregate.row made c.into_list.ensures,
    )

pub returns-in_ok-values-in-Aggregate-clause-cells :
    goal.returns-in_ok-values-in-Aggregate-clause-cells
returns-in_ok-values-in-Aggregate-clause-cells g c =
    let old = c.args.cells.now.items in
    on_ok_weaker c.add_aggregates.result
    (λ h rows came.
    let columns = c.as_slice.result.now in
    let is = c.in-Aggregate.is ∙ ap Aggregate (sym c.as_slice.ensures) in
    let made = c.in_ok-row-in-Aggregate.ensures.rows rows
    (ap (λ k. received (nothing_of k) rows) (sym is) ∙ came)
    ∙ ap (λ l. received (Rows l) (passed [] [] []
    (grouped [] (aggregates_of columns) (collected rows)))) c.new.ensures in
    h ∙ ap (λ cs. old ++ cs) (row_cells_are columns [] [] rows c.into_list.result
    c.in_ok-row-in-Aggregate.row made c.into_list.ensures c.args.member c.len.result
    (values_end c.in_ok-values-in-Aggregate.values)
    (c.len.ensures ∙ ap length (sym c.as_slice.ensures)) c.in_ok-values-in-Aggregate.ensures.values
    ∙ ap (λ k. collapse (kind_of k) c.args.member rows) (sym is)))
    c.add_aggregates.ensures

pub returns-in-Single-clause-cells : goal.returns-in-Single-clause-cells
returns-in-Single-clause-cells g c =
    let old = c.args.cells.now.items in
    on_ok_weaker c.add_judged.result
    (λ h rows came. h ∙ ap (λ cs. old ++ cs) (judged_cells (nothing_of c.args.kind.now) c.args.came
    rows c.into_list-in-Single.result (ap nothing_of c.in-Single.is) came
    c.into_list-in-Single.ensures (kind_of c.args.kind.now) c.args.member))
    c.add_judged.ensures.cells

pub returns-in-Single-clause-work : goal.returns-in-Single-clause-work
returns-in-Single-clause-work g c rows came =
    omega (
      arith,
      c.add_judged.ensures.work,
      judged_length (nothing_of c.args.kind.now) c.args.came
          rows c.into_list-in-Single.result (ap nothing_of c.in-Single.is) came
          c.into_list-in-Single.ensures,
    )

pub returns-in-Exists-clause-cells : goal.returns-in-Exists-clause-cells
returns-in-Exists-clause-cells g c =
    let old = c.args.cells.now.items in
    on_ok_weaker c.add_judged-in-Exists.result
    (λ h rows came. h ∙ ap (λ cs. old ++ cs) (judged_cells (nothing_of c.args.kind.now) c.args.came
    rows c.into_list-in-Exists.result (ap nothing_of c.in-Exists.is) came
    c.into_list-in-Exists.ensures (kind_of c.args.kind.now) c.args.member))
    c.add_judged-in-Exists.ensures.cells

pub returns-in-Exists-clause-work : goal.returns-in-Exists-clause-work
returns-in-Exists-clause-work g c rows came =
    omega (
      arith,
      c.add_judged-in-Exists.ensures.work,
      judged_length (nothing_of c.args.kind.now)
          c.args.came rows c.into_list-in-Exists.result (ap nothing_of c.in-Exists.is) came
          c.into_list-in-Exists.ensures,
    )

pub returns-in-Member-clause-cells : goal.returns-in-Member-clause-cells
returns-in-Member-clause-cells g c =
    let old = c.args.cells.now.items in
    on_ok_weaker c.add_judged-in-Member.result
    (λ h rows came. h ∙ ap (λ cs. old ++ cs) (judged_cells (nothing_of c.args.kind.now) c.args.came
    rows c.into_list-in-Member.result (ap nothing_of c.in-Member.is) came
    c.into_list-in-Member.ensures (kind_of c.args.kind.now) c.args.member))
    c.add_judged-in-Member.ensures.cells

pub returns-in-Member-clause-work : goal.returns-in-Member-clause-work
returns-in-Member-clause-work g c rows came =
    omega (
      arith,
      c.add_judged-in-Member.ensures.work,
      judged_length (nothing_of c.args.kind.now)
          c.args.came rows c.into_list-in-Member.result (ap nothing_of c.in-Member.is) came
          c.into_list-in-Member.ensures,
    )

pub returns-in-Into-clause-cells : goal.returns-in-Into-clause-cells
returns-in-Into-clause-cells g c =
    let old = c.args.cells.now.items in
    on_ok_weaker c.add_into.result
    (λ h rows came. h ∙ ap (λ cs. old ++ cs) (into_judged (nothing_of c.args.kind.now) c.args.came
    rows c.into_list-in-Into.result (ap nothing_of c.in-Into.is) came
    c.into_list-in-Into.ensures (kind_of c.args.kind.now) c.in-Into.columns c.args.member
    (ap kind_of c.in-Into.is)))
    c.add_into.ensures.cells

pub returns-in-Into-clause-work : goal.returns-in-Into-clause-work
returns-in-Into-clause-work g c rows came =
    omega (
      arith,
      c.add_into.ensures.work,
      judged_length (nothing_of c.args.kind.now) c.args.came
          rows c.into_list-in-Into.result (ap nothing_of c.in-Into.is) came
          c.into_list-in-Into.ensures,
    )
