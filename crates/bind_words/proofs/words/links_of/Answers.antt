use Rattle.std.proofs.Common.{rules, arith, ◌∙◌}
use Rattle.bind_kinds.proofs.Laws.{link-more, link-none}
use Rattle.bind_words.proofs.words.links_of.Goals.{in-Some+in_ok-push, in_default}
use Rattle.bind_words.proofs.words.links_of.Goals as goal

pub loop-link-preserved : goal.loop-link-preserved
loop-link-preserved c = elim c.match-pop.branch [
  | in-Some+in_ok-push w ↦ link-more c.args.links.now c.loop-link.link-index c.link-item.result
      c.loop-link.found c.match-pop.found c.loop-link.left c.pop.new.self w.in-Some.operand
      (omega arith) c.link-item.is (search rules) (search rules) ∙ c.loop-link.invariant
  | in_default w ↦ link-none c.args.links.now c.loop-link.link-index c.loop-link.found
      c.match-pop.found c.loop-link.left c.pop.new.self
      w.found-is (search rules) (search rules) ∙ c.loop-link.invariant
]
