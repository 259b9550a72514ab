use Rattle.std.proofs.Common.{rules}
use Rattle.bound_trees.specs.declared.expr.BoundExpr.TheVariants as bound
use Rattle.bind_kinds.proofs.Laws.{of_and, of_other, left_all, left_lighter, found_one}
use Rattle.bind_words.proofs.conjunction.part_word.Goals as goal

pub returns-in_ok-append-clause-conjuncts : goal.returns-in_ok-append-clause-conjuncts
returns-in_ok-append-clause-conjuncts c =
    left_all c.args.left.now c.append.new.self c.args.found.now
    (bound.Operation c.args.word c.args.operands) c.args.operands
    (of_and c.args.word c.args.operands (search rules)) (search rules)

pub returns-in_ok-append-clause-lighter : goal.returns-in_ok-append-clause-lighter
returns-in_ok-append-clause-lighter c = left_lighter c.args.left.now c.append.new.self c.args.word
    c.args.operands (search rules)

pub returns-in_ok-push-clause-conjuncts : goal.returns-in_ok-push-clause-conjuncts
returns-in_ok-push-clause-conjuncts c =
    found_one c.args.left.now c.args.found.now c.push.new.self
    (bound.Operation c.args.word c.args.operands)
    (of_other c.args.word c.args.operands (search rules)) (search rules)
