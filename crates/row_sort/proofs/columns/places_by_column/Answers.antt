use Rattle.std.proofs.Common.{◌≡◌, ap, sym, ◌∙◌, map, Bool}
use Rattle.std.proofs.lemmas.Result.{IfOk-weaker}
use Rattle.row_types.specs.Ordered.{in_order}
use Rattle.row_sort.specs.Numbers.{numbered, place_of, by_number, by_value}
use Rattle.row_sort.proofs.ByNumbers.{by_numbers, by_values}
use Rattle.row_sort.proofs.columns.places_by_column.Goals as goal

pub returns-in_ok-all-2 : goal.returns-in_ok-all-2
returns-in_ok-all-2 c =
    let rows = c.args.rows.now in
    let key = c.args.key in
    let ps = c.args.places.now in
    let all = c.in_ok-all.ensures ∙ ap (λ (b : Bool). map (numbered b rows key.place) ps)
    c.if-alone.true in
    let order = ap (map place_of) (c.as_slice.ensures.value ∙ c.in_ok-all-2.ensures ∙
    ap (in_order (by_number key.descending)) all)
    ∙ by_numbers rows key ps (sym c.do_tell-alone.ensures ∙ c.if-alone.true) in
    IfOk-weaker c.places_of.result (λ v. v.items ≡ map place_of _) (λ v. v.items ≡ _)
    (λ v h. h ∙ order) c.places_of.ensures

pub returns-in_ok-all-3 : goal.returns-in_ok-all-3
returns-in_ok-all-3 c =
    let rows = c.args.rows.now in
    let key = c.args.key in
    let ps = c.args.places.now in
    let all = c.in_ok-all.ensures ∙ ap (λ (b : Bool). map (numbered b rows key.place) ps)
    c.if-alone.false in
    let order = ap (map place_of) (c.as_slice-else-alone.ensures.value ∙ c.in_ok-all-3.ensures ∙
    ap (in_order (by_value key rows)) all)
    ∙ by_values rows key ps in
    IfOk-weaker c.places_of-else-alone.result (λ v. v.items ≡ map place_of _) (λ v. v.items ≡ _)
    (λ v h. h ∙ order) c.places_of-else-alone.ensures
