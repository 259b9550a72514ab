use Rattle.std.proofs.Common.{sym, ap, length-set, ◌∙◌, arith, length}
use Rattle.region_steps.proofs.Cells.{all_done, kept_all, rest_stays}
use Rattle.region_steps.proofs.keeping.keep_forward.Goals as goal

pub loop-at-preserved : goal.loop-at-preserved
loop-at-preserved c =
    let cells = c.loop-at.cells.items in
    let new = c.bring.new.cells.items in
    let ps = c.args.places.now in
    let invariant = c.loop-at.invariant in
    record {
      done = all_done cells new c.args.cells.now.items ps c.loop-at.at c.in_ok-bring.ensures
          (omega (arith, c.loop-at-test.true, c.requires.within, invariant.wide))
          (c.requires.forward c.loop-at.at c.loop-at-test.true) invariant.done invariant.rest;
      rest = rest_stays cells new c.args.cells.now.items ps c.loop-at.at c.in_ok-bring.ensures
          invariant.rest;
      wide = ap length c.in_ok-bring.ensures ∙ (length-set cells c.loop-at.at _ ∙ invariant.wide);
    }

pub returns : goal.returns
returns c =
    let invariant = c.loop-at.invariant in
    c.truncate.ensures.items
    ∙ sym (kept_all c.args.cells.now.items c.loop-at.cells.items c.args.places.now
    (omega (arith, c.requires.within, invariant.wide))
    (λ k b. sym (invariant.done k (omega (arith, b, c.loop-at-test.false)))))
