use Rattle.std.proofs.Common.{◌≡◌, [], ◌∷◌, sym, ◌∙◌}
use Rattle.plan_rows.proofs.Outcomes.{cell_as_defined}
use Rattle.plan_rows.proofs.Operands.{two_values, three_values}
use Rattle.plan_rows.proofs.cells.part.Goals as goal

pub returns-in-len2 : goal.returns-in-len2
returns-in-len2 c =
    let are : c.in-Values.values.items ≡ c.text-item.result ∷ c.from-item.result ∷ [] =
    sym c.as_slice.ensures ∙ two_values c.as_slice.result.now c.text-item.result c.from-item.result
    c.in-len2.len_at_least c.in-len2.len_below c.text-item.is c.from-item.is in
    rw (c.in-Values.is, are) (c.outcome_cell.ensures _ (cell_as_defined _ _ c.substring.ensures))

pub returns-in-len3 : goal.returns-in-len3
returns-in-len3 c =
    let text = c.text-item-then-this-lt4 in
    let from = c.from-item-then-this-lt4 in
    let are : c.in-Values.values.items ≡ text.result ∷ from.result ∷ c.length-item.result ∷ [] =
    sym c.as_slice.ensures
    ∙ three_values c.as_slice.result.now text.result from.result c.length-item.result
    c.in-len3.len_at_least c.in-len3.len_below text.is from.is c.length-item.is in
    rw (c.in-Values.is, are) (c.outcome_cell-in-len3.ensures _
    (cell_as_defined _ _ c.substring-in-len3.ensures))
