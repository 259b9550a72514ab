use Rattle.std.proofs.Common.{rules}
use Rattle.bind_kinds.proofs.Laws.{lighter}
use Rattle.bind_words.proofs.conjunction.conjuncts.Goals as goal

pub loop-last-smaller : goal.loop-last-smaller
loop-last-smaller c = lighter c.loop-last.left c.pop.new.self c.part.new.left c.in-Some.last
    (search rules) c.in_ok-part.ensures.lighter
