use Rattle.std.proofs.Common.{ℕ, ◌≡◌, ◌≤◌, ◌+◌, ◌++◌, ◌∷◌, [], List, sym, ap, ◌∙◌, subst, arith}
use Rattle.std.proofs.Common.{length, slice_index}
use Rattle.row_types.specs.Rows.{Row, by_key}
use Rattle.row_types.specs.Tables.{table_at}
use Rattle.row_types.proofs.Laws.{by_key_total}
use Rattle.table_store.specs.Kept.{Kept, IsKept, CanInsertAll}
use Rattle.table_store.specs.declared.placed_row.PlacedRow.{PlacedRow}
use Rattle.table_store.specs.Memory.{kept_at}
use Rattle.atomic_undo.specs.declared.between.FoundPlaces.{FoundPlaces}
use Rattle.atomic_undo.specs.declared.between.FoundPlaces.TheVariants.{Free, Taken}
use Rattle.atomic_undo.specs.declared.log.Edit.{Edit}
use Rattle.atomic_undo.specs.declared.log.Edit.TheVariants.{InsertedAll}
use Rattle.atomic_undo.specs.Between.{with_places, places_among, IsFound}
use Rattle.atomic_undo.specs.Changes.{order_in, rows_in}
use Rattle.atomic_undo.proofs.Inserting.{none_yet}
use Rattle.atomic_undo.proofs.Merging.{can_insert_all, went_at_once, length-places}
use Rattle.atomic_undo.proofs.between.insert_between.Goals as goal

pub with_places-requires : goal.with_places-requires
with_places-requires c =
    let m = c.args.tables.now in
    let t = c.args.table in
    let new = c.args.new.items in
    let R = order_in m.tables t in
    let rows = rows_in m.tables t in
    let f : IsFound R rows new (Free c.in-Free.places) =
    subst (λ (x : FoundPlaces). IsFound R rows new x) c.in-Free.is
    (subst (λ (xs : List Row). IsFound R rows xs c.in_ok-found.found) c.deref.ensures.value
    (subst (λ (k : Kept). IsFound (by_key k.table.key) k.table.rows c.deref.result.now
    c.in_ok-found.found) c.table_at-2.ensures c.in_ok-found.ensures)) in
    ap (λ (ps : List ℕ). length ps) (c.deref-in-Free.ensures.value ∙ f.0) ∙
    length-places R (by_key_total (table_at m.tables t).key) rows 0 new

pub insert_all-requires-clause-can : goal.insert_all-requires-clause-can
insert_all-requires-clause-can c =
    let m = c.args.tables.now in
    let t = c.args.table in
    let new = c.args.new.items in
    let R = order_in m.tables t in
    let rows = rows_in m.tables t in
    let kept : IsKept (kept_at m t) = subst IsKept c.table_at.ensures c.len-rows.ensures.kept in
    let room : length rows + length new ≤ slice_index m.capacities t =
    (let r = c.requires.room in omega arith) in
    let f : IsFound R rows new (Free c.in-Free.places) =
    subst (λ (x : FoundPlaces). IsFound R rows new x) c.in-Free.is
    (subst (λ (xs : List Row). IsFound R rows xs c.in_ok-found.found) c.deref.ensures.value
    (subst (λ (k : Kept). IsFound (by_key k.table.key) k.table.rows c.deref.result.now
    c.in_ok-found.found) c.table_at-2.ensures c.in_ok-found.ensures)) in
    let placed : c.in_ok-placed-in-Free.placed ≡ with_places (places_among R rows 0 new) new =
    c.in_ok-placed-in-Free.ensures ∙ ap (λ (ps : List ℕ). with_places ps new)
    (c.deref-in-Free.ensures.value ∙ f.0) in
    subst (λ (qs : List PlacedRow). CanInsertAll (kept_at m t) qs) (sym placed)
    (can_insert_all m t new kept c.requires.rise f.1 c.requires.fit room)

pub returns-in-Taken-clause-done : goal.returns-in-Taken-clause-done
returns-in-Taken-clause-done c =
    let m = c.args.tables.now in
    let t = c.args.table in
    let new = c.args.new.items in
    let R = order_in m.tables t in
    let rows = rows_in m.tables t in
    let kept : IsKept (kept_at m t) = subst IsKept c.table_at.ensures c.len-rows.ensures.kept in
    let room : length rows + length new ≤ slice_index m.capacities t =
    (let r = c.requires.room in omega arith) in
    let f : IsFound R rows new (Taken c.in-Taken.at) =
    subst (λ (x : FoundPlaces). IsFound R rows new x) c.in-Taken.is
    (subst (λ (xs : List Row). IsFound R rows xs c.in_ok-found.found) c.deref.ensures.value
    (subst (λ (k : Kept). IsFound (by_key k.table.key) k.table.rows c.deref.result.now
    c.in_ok-found.found) c.table_at-2.ensures c.in_ok-found.ensures)) in
    record {
      stored = 0;
      going = none_yet m t new c.args.edits.now.items c.requires.there room c.requires.can;
      place = f.0;
      judged = f.1;
    }

pub returns-in_ok-reserve-in-Free-clause-done : goal.returns-in_ok-reserve-in-Free-clause-done
returns-in_ok-reserve-in-Free-clause-done c =
    let m = c.args.tables.now in
    let t = c.args.table in
    let new = c.args.new.items in
    let R = order_in m.tables t in
    let rows = rows_in m.tables t in
    let kept : IsKept (kept_at m t) = subst IsKept c.table_at.ensures c.len-rows.ensures.kept in
    let room : length rows + length new ≤ slice_index m.capacities t =
    (let r = c.requires.room in omega arith) in
    let f : IsFound R rows new (Free c.in-Free.places) =
    subst (λ (x : FoundPlaces). IsFound R rows new x) c.in-Free.is
    (subst (λ (xs : List Row). IsFound R rows xs c.in_ok-found.found) c.deref.ensures.value
    (subst (λ (k : Kept). IsFound (by_key k.table.key) k.table.rows c.deref.result.now
    c.in_ok-found.found) c.table_at-2.ensures c.in_ok-found.ensures)) in
    let placed : c.in_ok-placed-in-Free.placed ≡ with_places c.in-Free.places.items new =
    c.in_ok-placed-in-Free.ensures ∙ ap (λ (ps : List ℕ). with_places ps new)
    c.deref-in-Free.ensures.value in
    let before = c.args.edits.now.items in
    went_at_once m t new kept c.requires.rise f.1 c.insert_all.new.self before
    c.push_reserved.new.self.items c.in-Free.places.items c.in_ok-placed-in-Free.placed
    c.requires.there c.requires.can room f.0 placed
    c.insert_all.ensures.tables c.insert_all.ensures.capacities
    (c.push_reserved.ensures.items ∙ ap (λ (es : List Edit). es ++ InsertedAll c.from_vec.result ∷
    []) c.reserve.ensures.items ∙ ap (λ (ps : List ℕ). before ++ InsertedAll ps ∷ [])
    c.from_vec.ensures)
