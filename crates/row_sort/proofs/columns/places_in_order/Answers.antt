use Rattle.std.proofs.Common.{ℕ, ◌≡◌, ◌-◌, ◌<◌, ap, sym, ◌∙◌, arith, drop, length, List}
use Rattle.std.proofs.lemmas.List.{drop_all, get_or_default}
use Rattle.row_types.specs.Ordered.{in_order}
use Rattle.row_types.specs.Sorting.{keys_cmp}
use Rattle.row_types.specs.declared.sort_key.SortKey.{SortKey}
use Rattle.row_sort.specs.Places.{at_places, places_from}
use Rattle.row_sort.proofs.Places.{no_pass, pass_step}
use Rattle.row_sort.proofs.columns.places_in_order.Goals as goal

pub loop-i-init : goal.loop-i-init
loop-i-init c =
    let rows = c.args.rows.now in
    let keys = c.args.keys.now in
    let none = drop_all (length keys) keys (omega arith) in
    record {
      order = c.in_ok-places.ensures ∙ no_pass rows (places_from 0 rows) ∙
          ap (λ (ks : List SortKey). in_order (at_places (keys_cmp ks) rows) (places_from 0 rows))
          (sym none);
      within = omega arith;
    }

pub loop-i-preserved : goal.loop-i-preserved
loop-i-preserved c =
    let rows = c.args.rows.now in
    let keys = c.args.keys.now in
    let i = c.loop-i.i in
    let within = c.loop-i.invariant.within in
    let some : 0 < i = c.loop-i-test.true in
    let there : i - 1 < length keys = omega (arith, within, some) in
    record {
      order = pass_step rows keys (places_from 0 rows) i _ c.loop-i.places.items
          c.in-Ok.sorted.items some within (get_or_default keys (i - 1) _ _ there)
          c.loop-i.invariant.order
          (c.in-Ok.ensures ∙ ap (in_order _) c.as_slice.ensures.value);
      within = omega (arith, within);
    }

pub returns : goal.returns
returns c =
    let rows = c.args.rows.now in
    let keys = c.args.keys.now in
    let first : c.loop-i.i ≡ 0 = (let f = c.loop-i-test.false in omega (arith, f)) in
    c.loop-i.invariant.order ∙ ap (λ (n : ℕ). in_order (at_places (keys_cmp (drop n keys)) rows)
    (places_from 0 rows)) first
