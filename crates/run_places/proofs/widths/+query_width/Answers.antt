use Rattle.std.proofs.Common.{length, refl}
use Rattle.run_places.proofs.Counted.{select_counted, first_counted, none_counted, ordered_counted}
use Rattle.run_places.proofs.widths.+query_width.Goals as goal

pub returns-in-Select : goal.returns-in-Select
returns-in-Select t c = λ known tables. select_counted known tables c.args.query.now
    c.in-Select.select c.len.result c.in-Select.is c.len.ensures

pub returns-in-Some : goal.returns-in-Some
returns-in-Some t c = λ known tables.
    first_counted known tables c.args.query.now c.in-Values.rows c.in-Some.row.now
    c.values_in.result.now (length c.values_in.result.now) c.in-Values.is c.in-Some.ensures.value
    (c.values_in.ensures known) refl

pub returns-in-None : goal.returns-in-None
returns-in-None t c = λ known tables. none_counted known tables c.args.query.now c.in-Values.rows
    c.in-Values.is c.in-None.ensures.value

pub returns-in-Ordered : goal.returns-in-Ordered
returns-in-Ordered t c = λ known tables.
    ordered_counted known tables c.args.query.now c.in-Ordered.query c.get-in-Ordered.result.now
    c.in-Ordered.field-1 c.query_width.result c.in-Ordered.is c.get-in-Ordered.ensures
    (c.query_width.ensures known tables)
