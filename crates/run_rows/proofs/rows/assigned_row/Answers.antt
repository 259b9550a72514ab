use Rattle.std.proofs.Common.{arith, rules, length, Some, sym, ap, ◌∙◌}
use Rattle.std.proofs.lemmas.List.{length-take, length-set}
use Rattle.sql_values.specs.declared.value.Value.{Value}
use Rattle.run_rows.proofs.Assigning.{none_assigned, one_assigned, one_refused, all_assigned}
use Rattle.run_rows.proofs.Assigning.{past}
use Rattle.run_rows.proofs.rows.assigned_row.Goals as goal

pub loop-place-init : goal.loop-place-init
loop-place-init c = record {
  tells = λ w. none_assigned c.args.columns.now c.args.values c.cut.new.row w c.cut.ensures;
  narrow = omega (
    arith,
    ap length c.cut.ensures,
    length-take (length c.args.columns.now)
        c.args.values,
  );
}

pub returns-in_default : goal.returns-in_default
returns-in_default c = λ w.
    sym (c.loop-place.invariant.tells w) ∙ all_assigned _ c.loop-place.row c.loop-place.place w
    (past c.loop-place.row c.loop-place.place c.in_default.ensures.value)

pub loop-place-preserved : goal.loop-place-preserved
loop-place-preserved c = record {
  tells = λ w.
      one_assigned c.args.columns.now c.loop-place.row c.set.new.self c.loop-place.place
      c.index-columns-place.result c.in_ok-copied.field-0 c.in_ok-assigned.assigned w
      c.loop-place-test.true c.index-columns-place.is
      (sym c.in-Some.ensures.value ∙ ap (λ (v : Value). Some v) (sym c.in_ok-copied.ensures))
      c.in_ok-assigned.ensures c.set.ensures
      ∙ c.loop-place.invariant.tells w;
  narrow = omega (
    arith,
    ap length c.set.ensures,
    length-set c.loop-place.row c.loop-place.place
        c.in_ok-assigned.assigned,
    c.loop-place.invariant.narrow,
  );
}

pub returns-in_err-assigned : goal.returns-in_err-assigned
returns-in_err-assigned c = λ w.
    one_refused c.args.columns.now c.loop-place.row c.loop-place.place c.index-columns-place.result
    c.in_ok-copied.field-0 c.in_err-assigned.field-0.0 c.from_residual-in_err-assigned.result _ w
    c.loop-place-test.true c.index-columns-place.is
    (sym c.in-Some.ensures.value ∙ ap (λ (v : Value). Some v) (sym c.in_ok-copied.ensures))
    c.in_err-assigned.ensures (search rules)
    (c.loop-place.invariant.tells w)
