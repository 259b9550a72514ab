use Rattle.row_types.specs.OuterRows.{outer_rows}
use Rattle.plan_keys.proofs.Compared.{left_term, right_term}
use Rattle.plan_keys.proofs.terms.term_in.Goals as goal

pub returns-in-Some : goal.returns-in-Some
returns-in-Some c =
    left_term c.term_with.result c.in_ok-found-in-Compare.found c.args.test.now c.in-Compare.left
    c.get-left.result.now c.in-Compare.right c.get-right.result.now c.in-Compare.comparison
    c.in-Some.place (outer_rows c.args.outer.now) c.args.args.now c.in-Compare.is
    c.get-left.ensures c.get-right.ensures c.in-Some.ensures c.term_with.ensures.place
    c.term_with.ensures.comparison c.term_with.ensures.value c.in_ok-found-in-Compare.ensures

pub returns-in-Some-own_place : goal.returns-in-Some-own_place
returns-in-Some-own_place c =
    right_term c.term_with-in-Some-own_place.result c.in_ok-found-in-Compare-2.found
    c.args.test.now c.in-Compare.left c.get-left.result.now c.in-Compare.right
    c.get-right.result.now c.in-Compare.comparison c.turned.result c.in-Some-own_place.place
    (outer_rows c.args.outer.now) c.args.args.now c.in-Compare.is c.get-left.ensures
    c.get-right.ensures c.in-Some-own_place.ensures c.turned.ensures
    c.term_with-in-Some-own_place.ensures.place c.term_with-in-Some-own_place.ensures.comparison
    c.term_with-in-Some-own_place.ensures.value c.in_ok-found-in-Compare-2.ensures
