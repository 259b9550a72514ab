use Rattle.std.proofs.Common.{rules, arith, ◌∙◌}
use Rattle.bind_kinds.proofs.Steps.{join-more, join-none, join-end}
use Rattle.bind_kinds.proofs.columns.join_row.Goals.{in-Some, in_default}
use Rattle.bind_kinds.proofs.columns.join_row.Goals as goal

pub loop-place-preserved : goal.loop-place-preserved
loop-place-preserved c = elim c.match-get.branch [
  | in-Some w ↦ join-more c.loop-place.kinds c.match-get.kinds c.args.heads.now c.loop-place.place _
      w.in-Some.kind.now w.joined-kind.result
      (omega arith) (search rules) w.joined-kind.ensures (w.kinds-is ∙ w.set.ensures) ∙
      c.loop-place.invariant
  | in_default w ↦ join-none c.loop-place.kinds c.match-get.kinds c.args.heads.now
      c.loop-place.place (search rules) w.kinds-is ∙ c.loop-place.invariant
]

pub returns : goal.returns
returns c = join-end c.loop-place.kinds _ c.args.heads.now c.loop-place.place
    (omega arith) c.loop-place.invariant
