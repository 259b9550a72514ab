use Rattle.std.proofs.Common.{List, sym, ap, ◌∙◌}
use Rattle.bound_trees.specs.declared.query.BoundRow.{BoundRow}
use Rattle.bound_trees.specs.declared.query.BoundSelect.{out-BoundSelect}
use Rattle.rel_algebra.specs.Joins.{rows_width, query_width}
use Rattle.catalog_store.specs.View.{query_of, rows_of}
use Rattle.catalog_store.proofs.Laws.{query_of-Select, query_of-Values, query_of-Ordered}
use Rattle.plan_drafts.proofs.Widths.{count-exprs, select-width}
use Rattle.plan_drafts.proofs.tables.+columns_of.Goals as goal

pub returns-in-Select : goal.returns-in-Select
returns-in-Select t c = λ known widths.
    let s = c.in-Select.select in
    c.len.ensures ∙ sym (count-exprs known (out-BoundSelect s).items) ∙
    sym (select-width known s widths)
    ∙ ap (λ q. query_width q widths) (sym (query_of-Select known s) ∙
    ap (query_of known) (sym c.in-Select.is))

pub returns-in-Values : goal.returns-in-Values
returns-in-Values t c = λ known widths.
    c.first_width.ensures known ∙ ap (λ (rs : List BoundRow). rows_width (rows_of known rs))
    c.as_slice.ensures
    ∙ ap (λ q. query_width q widths) (sym (query_of-Values known c.in-Values.rows) ∙
    ap (query_of known) (sym c.in-Values.is))

pub returns-in-Ordered : goal.returns-in-Ordered
returns-in-Ordered t c = λ known widths.
    c.columns_of.ensures known widths ∙ ap (λ q. query_width (query_of known q) widths)
    c.get.ensures
    ∙ ap (λ q. query_width q widths)
    (sym (query_of-Ordered known c.in-Ordered.query c.in-Ordered.field-1) ∙
    ap (query_of known) (sym c.in-Ordered.is))
