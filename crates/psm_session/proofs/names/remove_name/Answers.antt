use Rattle.std.proofs.Common.{arith, ap, sym, length, ◌∙◌}
use Rattle.psm_session.specs.Names.{without_name}
use Rattle.psm_session.proofs.Naming.{name_passed, name_removed, name_absent}
use Rattle.psm_session.proofs.names.remove_name.Goals as goal

pub returns-then-eq : goal.returns-then-eq
returns-then-eq c =
    c.remove.ensures.items
    ∙ name_removed c.args.name.now c.loop-at.names.items c.loop-at.at c.index.result.now
    (omega (arith, ap length c.loop-at.invariant.0)) c.index.ensures (sym c.if-eq.ensures)
    c.loop-at.invariant.1
    ∙ ap (without_name c.args.name.now) c.loop-at.invariant.0

pub loop-at-preserved : goal.loop-at-preserved
loop-at-preserved c = (
  c.loop-at.invariant.0,
  name_passed c.args.name.now c.loop-at.names.items c.loop-at.at c.index.result.now
      (omega (arith, ap length c.loop-at.invariant.0)) c.index.ensures (sym c.if-eq.ensures)
      c.loop-at.invariant.1,
)

pub returns : goal.returns
returns c =
    name_absent c.args.name.now c.loop-at.names.items c.loop-at.at
    (omega (arith, ap length c.loop-at.invariant.0)) c.loop-at.invariant.1
    ∙ ap (without_name c.args.name.now) c.loop-at.invariant.0
