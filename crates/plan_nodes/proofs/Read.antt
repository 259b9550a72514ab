-- One row of a table more was passed through the nodes.
use Rattle.std.proofs.Common.{◌≡◌, ℕ, ◌+◌, ◌<◌, List, [], ◌∷◌, ◌++◌, map, length, drop}
use Rattle.std.proofs.Common.{slice_index_or, sym, ap, ◌∙◌}
use Rattle.std.proofs.lemmas.List.{drop_more, append-nil, reverse-reverse}
use Rattle.std.specs.Prelude.{reverse}
use Rattle.sql_values.specs.declared.value.Value.{Value}
use Rattle.row_types.specs.Rows.{Row}
use Rattle.row_types.specs.declared.cell.Cell.{Cell}
use Rattle.row_types.specs.declared.cell.Cell.TheVariants.{Val}
use Rattle.rel_algebra.specs.declared.plan.Node.{Node}
use Rattle.rel_algebra.specs.Plan.{shown_rows}
use Rattle.plan_nodes.specs.declared.last.Way.{Way}
use Rattle.plan_nodes.specs.Fates.{RowOutcome, fate, fate_rows, passed}
use Rattle.plan_nodes.specs.Ways.{way_fate}
use Rattle.plan_nodes.specs.declared.received.Received.{Received}
use Rattle.plan_nodes.specs.Receiving.{received}
use Rattle.plan_nodes.proofs.Receiving.{received_append}

-- with nothing in the scratch, a way does what its nodes do
pub way_is : (ns : List Node) (way : Way) (o : List (List Cell)) (args vs row : List Value)
    (cs : List Cell) → ((r : List Cell) → fate ns r o args ≡ way_fate way r o args) → cs ≡ [] →
    vs ≡ row →
    way_fate way (map Val vs ++ cs) o args ≡ fate ns (map Val row) o args
way_is ns way o args vs row cs t e v =
    ap (λ ds. way_fate way (map Val vs ++ ds) o args) e
    ∙ (ap (λ r. way_fate way r o args) (append-nil (map Val vs)) ∙
    (ap (λ us. way_fate way (map Val us) o args) v ∙ sym (t (map Val row))))

pub row_passed : (ns : List Node) (o : List (List Cell)) (args : List Value) (rows : List Row)
    (i : ℕ) (row : Row) (out new whole : Received) (f : RowOutcome) → i < length rows →
    row ≡ slice_index_or rows i row →
    f ≡ fate ns (map Val row) o args → new ≡ received out (fate_rows f) →
    received out (passed ns o args (shown_rows (drop i rows))) ≡ whole →
    received new (passed ns o args (shown_rows (drop (i + 1) rows))) ≡ whole
row_passed ns o args rows i row out new whole f l h e n k =
    let rest = passed ns o args (shown_rows (drop (i + 1) rows)) in
    let at : drop i rows ≡ row ∷ drop (i + 1) rows = drop_more rows i row l ∙
    ap (λ r. r ∷ drop (i + 1) rows) (sym h) in
    ap (λ r. received r rest) (n ∙ ap (λ g. received out (fate_rows g)) e)
    ∙ (sym (received_append out (fate_rows (fate ns (map Val row) o args)) rest) ∙
    (ap (λ rs. received out (passed ns o args (shown_rows rs))) (sym at) ∙ k))

pub turned_twice : (rows : List Row) → reverse (reverse rows) ≡ rows
turned_twice rows = reverse-reverse rows
