use Rattle.std.proofs.Common.{◌≡◌, [], ◌∷◌, sym, ◌∙◌}
use Rattle.plan_rows.proofs.Outcomes.{UnlessNoMemory_from, cell_as_defined}
use Rattle.plan_rows.proofs.Operands.{two_values}
use Rattle.plan_rows.proofs.cells.remainder.Goals as goal

pub returns-in-len2 : goal.returns-in-len2
returns-in-len2 c =
    let are : c.in-Values.values.items ≡ c.a-item.result ∷ c.b-item.result ∷ [] =
    sym c.as_slice.ensures ∙ two_values c.as_slice.result.now c.a-item.result c.b-item.result
    c.in-len2.len_at_least c.in-len2.len_below c.a-item.is c.b-item.is in
    rw (c.in-Values.is, are) (c.outcome_cell.ensures _
    (cell_as_defined _ _ (UnlessNoMemory_from _ c.modulo.ensures)))
