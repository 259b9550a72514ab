use Rattle.std.proofs.Common.{ℕ, ◌≡◌, ◌<◌, ap, sym, ◌∙◌, subst, length, List, nat_eq}
use Rattle.std.proofs.lemmas.Result.{IfOk-weaker}
use Rattle.std.specs.List.{All, IsDistinct}
use Rattle.row_types.specs.Ordered.{in_order}
use Rattle.row_types.specs.Rows.{Row}
use Rattle.row_types.specs.Sorting.{keys_cmp}
use Rattle.row_sort.specs.Places.{at_places, places_from, rows_at}
use Rattle.row_sort.proofs.Places.{places_within, places_once, rows_at-sorted}
use Rattle.row_sort.proofs.sorted.Goals as goal

pub rows_at-requires-clause-there : goal.rows_at-requires-clause-there
rows_at-requires-clause-there c =
    let R = keys_cmp c.args.keys.now in
    let e = c.as_slice-2.ensures.value ∙ c.in_ok-places.ensures ∙
    ap (λ (rows : List Row). in_order (at_places R rows) (places_from 0 rows))
    c.as_slice.ensures in
    subst (λ (ps : List ℕ). All (λ (p : ℕ). p < length c.in_ok-apart.apart.items) ps) (sym e)
    (subst (λ (rows : List Row). All (λ (p : ℕ). p < length rows)
    (in_order (at_places R c.args.rows) (places_from 0 c.args.rows)))
    (sym c.in_ok-apart.ensures) (places_within c.args.rows R))

pub rows_at-requires-clause-once : goal.rows_at-requires-clause-once
rows_at-requires-clause-once c =
    let R = keys_cmp c.args.keys.now in
    let e = c.as_slice-2.ensures.value ∙ c.in_ok-places.ensures ∙
    ap (λ (rows : List Row). in_order (at_places R rows) (places_from 0 rows))
    c.as_slice.ensures in
    subst (λ (ps : List ℕ). IsDistinct nat_eq ps) (sym e) (places_once c.args.rows R)

pub returns : goal.returns
returns c =
    let R = keys_cmp c.args.keys.now in
    let e = c.as_slice-2.ensures.value ∙ c.in_ok-places.ensures ∙
    ap (λ (rows : List Row). in_order (at_places R rows) (places_from 0 rows))
    c.as_slice.ensures in
    let all = ap (λ (rows : List Row). rows_at rows c.as_slice-2.result.now) c.in_ok-apart.ensures ∙
    ap (rows_at c.args.rows) e ∙ rows_at-sorted c.args.rows R in
    IfOk-weaker c.rows_at.result (λ rows. rows ≡ rows_at _ _) (λ rows. rows ≡ _) (λ rows h. h ∙ all)
    c.rows_at.ensures
