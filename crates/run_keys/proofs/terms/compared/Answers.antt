use Rattle.run_choices.specs.Sight.{seen}
use Rattle.run_keys.proofs.Saying.{left_answers, right_answers}
use Rattle.run_keys.proofs.terms.compared.Goals as goal

pub returns-in-Some : goal.returns-in-Some
returns-in-Some c =
    left_answers c.term_with.result c.in_ok-found.found c.args.comparison c.args.left.now
    c.args.right.now c.in-Some.place (seen c.args.outer.now) c.args.frame.now c.in-Some.ensures
    c.in_ok-found.ensures c.term_with.ensures.place c.term_with.ensures.comparison
    c.term_with.ensures.value

pub returns-in-Some-own_place : goal.returns-in-Some-own_place
returns-in-Some-own_place c =
    right_answers c.term_with-in-Some-own_place.result c.in_ok-found-2.found c.args.comparison
    c.turned.result c.args.left.now c.args.right.now c.in-Some-own_place.place
    (seen c.args.outer.now) c.args.frame.now c.in-Some-own_place.ensures c.in_ok-found-2.ensures
    c.turned.ensures c.term_with-in-Some-own_place.ensures.place
    c.term_with-in-Some-own_place.ensures.comparison
    c.term_with-in-Some-own_place.ensures.value
