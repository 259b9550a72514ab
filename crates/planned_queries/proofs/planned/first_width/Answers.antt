use Rattle.std.proofs.Common.{◌∙◌}
use Rattle.planned_queries.proofs.Parts.{first_row}
use Rattle.planned_queries.proofs.planned.first_width.Goals as goal

pub returns-in-Some : goal.returns-in-Some
returns-in-Some c = λ known. c.row_width.ensures known ∙
    first_row known c.args.rows.now c.in-Some.row.now c.in-Some.ensures.value
