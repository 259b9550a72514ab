use Rattle.std.proofs.Common.{◌≡◌, ◌≤◌, ◌++◌, ◌+◌, ◌∷◌, [], ℕ, List, Ok, Err, sym, ap, ◌∙◌, arith}
use Rattle.std.proofs.Common.{length, drop, take, true, not}
use Rattle.std.proofs.lemmas.List.{append-nil, drop_all, take_all}
use Rattle.std.specs.List.{list_all}
use Rattle.row_types.specs.Ordered.{searched, stands}
use Rattle.row_types.specs.Rows.{Row, by_key}
use Rattle.row_types.proofs.Laws.{by_key_total, err_within}
use Rattle.table_store.proofs.Laws.{kept_rises}
use Rattle.atomic_undo.specs.Between.{place_of, places_among}
use Rattle.atomic_undo.proofs.Merging.{places_next, free_next, taken_here}
use Rattle.atomic_undo.proofs.between.find_places.Goals as goal

pub returns-in-Ok : goal.returns-in-Ok
returns-in-Ok c =
    let k = c.args.table.now in
    let up = kept_rises k.table.columns k.table.key k.table.rows c.len-rows.ensures.kept.rows in
    let x = c.index-new-i.result in (
      (let l = c.loop-i-test.true in omega arith),
      taken_here (by_key k.table.key) (by_key_total k.table.key) k.table.rows c.args.new.now
          c.loop-i.i x x c.in-Ok.field-0 up c.requires c.loop-i-test.true c.index-new-i.is
          (sym c.in-Ok.ensures.place) c.loop-i.invariant.free,
    )

pub overflow_add-at : goal.overflow_add-at
overflow_add-at c =
    let k = c.args.table.now in
    let x = c.index-new-i.result in
    let w : c.in-Err.at ≤ length k.table.rows =
    err_within (λ y. by_key k.table.key y x) k.table.rows c.in-Err.at
    (sym c.in-Err.ensures.place) in
    let s = c.len-rows.ensures.small in
    let v = c.len-rows.ensures.value in
    omega arith

pub loop-i-preserved : goal.loop-i-preserved
loop-i-preserved c =
    let k = c.args.table.now in
    let R = by_key k.table.key in
    let o = by_key_total k.table.key in
    let rows = k.table.rows in
    let new = c.args.new.now in
    let x = c.index-new-i.result in
    let i = c.loop-i.i in
    let up = kept_rises k.table.columns k.table.key rows c.len-rows.ensures.kept.rows in
    let at : c.in-Err.at ≡ place_of (searched (λ y. R y x) rows) =
    ap place_of c.in-Err.ensures.place in
    record {
      places = ap (λ (ps : List ℕ). ps ++ places_among R rows (i + 1) (drop (i + 1) new))
          (c.push_reserved.ensures.items ∙ ap (λ n. c.loop-i.places.items ++ (n + i) ∷ []) at)
          ∙ places_next R o rows new i x x c.loop-i.places.items (places_among R rows 0 new)
          c.loop-i-test.true c.index-new-i.is c.loop-i.invariant.places;
      free = free_next R o rows new i x x c.in-Err.at up c.loop-i-test.true c.index-new-i.is
          (sym c.in-Err.ensures.place) c.loop-i.invariant.free;
      noted = (let h = c.loop-i.invariant.noted in let e = c.push_reserved.ensures.len in
          omega arith);
      memory = (let h = c.loop-i.invariant.memory in let e = c.push_reserved.ensures.capacity in
          omega arith);
    }

pub returns : goal.returns
returns c =
    let k = c.args.table.now in
    let R = by_key k.table.key in
    let i = c.loop-i.i in
    let new = c.args.new.now in
    let l : length new ≤ i = c.loop-i-test.false in (
      sym (ap (λ (xs : List Row). c.loop-i.places.items ++ places_among R k.table.rows i xs)
          (drop_all i new l) ∙ append-nil c.loop-i.places.items) ∙ c.loop-i.invariant.places,
      ap (list_all (λ (x : Row). not (stands R x k.table.rows))) (sym (take_all i new l)) ∙
          c.loop-i.invariant.free,
    )
