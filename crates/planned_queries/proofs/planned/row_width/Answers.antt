use Rattle.planned_queries.proofs.Parts.{row_count}
use Rattle.planned_queries.proofs.planned.row_width.Goals as goal

pub returns : goal.returns
returns c = λ known. row_count known c.values_in.result.now c.args.row.now
    (c.values_in.ensures known)
