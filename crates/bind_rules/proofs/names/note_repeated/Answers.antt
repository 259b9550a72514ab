use Rattle.std.proofs.Common.{rules, ◌∙◌, arith}
use Rattle.bind_rules.proofs.Repeated.{repeated-more}
use Rattle.bind_rules.proofs.names.note_repeated.Goals as goal

pub loop-place-preserved : goal.loop-place-preserved
loop-place-preserved c =
    repeated-more c.args.idents.now c.args.names.now c.loop-place.place c.index-idents-place.result
    c.loop-place.least _ c.stands_before-again.result
    (omega arith) (search rules) (search rules) (search rules) (search rules) ∙
    c.loop-place.invariant
