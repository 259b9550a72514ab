use Rattle.std.proofs.Common.{Bool, ◌≡◌, ◌<◌, ◌≤◌, ◌+◌, [], List, sym, ◌∙◌, subst, arith, length}
use Rattle.std.proofs.Common.{slice_index, Ok}
use Rattle.row_types.specs.Tables.{Tables}
use Rattle.table_store.specs.Kept.{IsKept}
use Rattle.table_store.specs.Memory.{Memory}
use Rattle.atomic_undo.specs.declared.log.Edit.{Edit}
use Rattle.atomic_undo.specs.Changes.{rows_in, set_all, NotIn, GoesIn, Unchanged, IsAnswer}
use Rattle.atomic_undo.proofs.Rekeyed.{still_fit, room_left, all_rekeyed, rekeyed_back}
use Rattle.atomic_undo.proofs.Rekeyed.{none_rekeyed, went_there, out_from, judged_from, climb_back}
use Rattle.atomic_undo.proofs.Rekeyed.{refused_at, refused_for, fit_back}
use Rattle.atomic_undo.proofs.rekey.rekey_rows.Goals as goal

pub put_in_order-requires-clause-there : goal.put_in_order-requires-clause-there
put_in_order-requires-clause-there c =
    let m = c.args.tables.now in
    let n = c.take_out.new.tables in
    let t = c.args.table in
    let l = c.requires.there in
    let places = c.args.places.items in
    let new = c.args.new.items in
    let out = c.take_out.new.edits.items in
    let g = (out_from c.args.tables.now c.take_out.new.tables c.args.table c.args.places.items
    c.new-edits.result.items c.take_out.new.edits.items c.new-edits.ensures.items
    c.in-Ok-take_out.ensures.out) in
    g.there

pub put_in_order-requires-clause-fit : goal.put_in_order-requires-clause-fit
put_in_order-requires-clause-fit c =
    let m = c.args.tables.now in
    let n = c.take_out.new.tables in
    let t = c.args.table in
    let l = c.requires.there in
    let places = c.args.places.items in
    let new = c.args.new.items in
    let out = c.take_out.new.edits.items in
    let g = (out_from c.args.tables.now c.take_out.new.tables c.args.table c.args.places.items
    c.new-edits.result.items c.take_out.new.edits.items c.new-edits.ensures.items
    c.in-Ok-take_out.ensures.out) in
    still_fit m n n t l places new out [] g c.requires.fit

pub put_in_order-requires-clause-room : goal.put_in_order-requires-clause-room
put_in_order-requires-clause-room c =
    let m = c.args.tables.now in
    let n = c.take_out.new.tables in
    let t = c.args.table in
    let l = c.requires.there in
    let places = c.args.places.items in
    let new = c.args.new.items in
    let out = c.take_out.new.edits.items in
    let g = (out_from c.args.tables.now c.take_out.new.tables c.args.table c.args.places.items
    c.new-edits.result.items c.take_out.new.edits.items c.new-edits.ensures.items
    c.in-Ok-take_out.ensures.out) in
    let r = room_left m n n t l places new out [] g
    (subst IsKept c.table_at.ensures c.len-before.ensures.kept) c.requires.places
    c.requires.both in
    omega arith

pub put_in_order-requires-clause-can : goal.put_in_order-requires-clause-can
put_in_order-requires-clause-can c =
    let m = c.args.tables.now in
    let n = c.take_out.new.tables in
    let t = c.args.table in
    let l = c.requires.there in
    let places = c.args.places.items in
    let new = c.args.new.items in
    let out = c.take_out.new.edits.items in
    let g = (out_from c.args.tables.now c.take_out.new.tables c.args.table c.args.places.items
    c.new-edits.result.items c.take_out.new.edits.items c.new-edits.ensures.items
    c.in-Ok-take_out.ensures.out) in
    g.can

pub take_back-requires-clause-there : goal.take_back-requires-clause-there
take_back-requires-clause-there c =
    let m = c.args.tables.now in
    let n = c.take_out.new.tables in
    let t = c.args.table in
    let l = c.requires.there in
    let places = c.args.places.items in
    let new = c.args.new.items in
    let out = c.take_out.new.edits.items in
    let g = (out_from c.args.tables.now c.take_out.new.tables c.args.table c.args.places.items
    c.new-edits.result.items c.take_out.new.edits.items c.new-edits.ensures.items
    c.in-Ok-take_out.ensures.out) in
    let q = c.put_in_order.new.tables in
    let es = c.put_in_order.new.edits.items in
    let r : length (rows_in n.tables t) + length new ≤ slice_index n.capacities t =
    room_left m n n t l places new out [] g
    (subst IsKept c.table_at.ensures c.len-before.ensures.kept) c.requires.places
    c.requires.both in
    let h = none_rekeyed m n q t places new out es g c.in_default-put_in_order.ensures.tables
    c.in_default-put_in_order.ensures.edits r in
    subst (λ (x : Memory). t < length x.tables) (sym c.in_default-put_in_order.ensures.tables)
    g.there

pub take_back-requires-clause-can : goal.take_back-requires-clause-can
take_back-requires-clause-can c =
    let m = c.args.tables.now in
    let n = c.take_out.new.tables in
    let t = c.args.table in
    let l = c.requires.there in
    let places = c.args.places.items in
    let new = c.args.new.items in
    let out = c.take_out.new.edits.items in
    let g = (out_from c.args.tables.now c.take_out.new.tables c.args.table c.args.places.items
    c.new-edits.result.items c.take_out.new.edits.items c.new-edits.ensures.items
    c.in-Ok-take_out.ensures.out) in
    let q = c.put_in_order.new.tables in
    let es = c.put_in_order.new.edits.items in
    let r : length (rows_in n.tables t) + length new ≤ slice_index n.capacities t =
    room_left m n n t l places new out [] g
    (subst IsKept c.table_at.ensures c.len-before.ensures.kept) c.requires.places
    c.requires.both in
    let h = none_rekeyed m n q t places new out es g c.in_default-put_in_order.ensures.tables
    c.in_default-put_in_order.ensures.edits r in
    h.can

pub returns-in_default-put_in_order : goal.returns-in_default-put_in_order
returns-in_default-put_in_order c =
    let m = c.args.tables.now in
    let n = c.take_out.new.tables in
    let t = c.args.table in
    let l = c.requires.there in
    let places = c.args.places.items in
    let new = c.args.new.items in
    let out = c.take_out.new.edits.items in
    let g = (out_from c.args.tables.now c.take_out.new.tables c.args.table c.args.places.items
    c.new-edits.result.items c.take_out.new.edits.items c.new-edits.ensures.items
    c.in-Ok-take_out.ensures.out) in
    let q = c.put_in_order.new.tables in
    let es = c.put_in_order.new.edits.items in
    let r : length (rows_in n.tables t) + length new ≤ slice_index n.capacities t =
    room_left m n n t l places new out [] g
    (subst IsKept c.table_at.ensures c.len-before.ensures.kept) c.requires.places
    c.requires.both in
    let h = none_rekeyed m n q t places new out es g c.in_default-put_in_order.ensures.tables
    c.in_default-put_in_order.ensures.edits r in
    rekeyed_back m n q t l places new out es g 0 c.take_back.new.tables h c.take_back.ensures.tables
    c.take_back.ensures.capacities

pub table_at-requires-2 : goal.table_at-requires-2
table_at-requires-2 c =
    let m = c.args.tables.now in
    let n = c.take_out.new.tables in
    let t = c.args.table in
    let l = c.requires.there in
    let places = c.args.places.items in
    let new = c.args.new.items in
    let out = c.take_out.new.edits.items in
    let g = (out_from c.args.tables.now c.take_out.new.tables c.args.table c.args.places.items
    c.new-edits.result.items c.take_out.new.edits.items c.new-edits.ensures.items
    c.in-Ok-take_out.ensures.out) in
    let q = c.put_in_order.new.tables in
    let es = c.put_in_order.new.edits.items in
    went_there n q t new out es c.in-Ok-put_in_order.all c.in-Ok-put_in_order.ensures.done g.there

pub returns-then-all : goal.returns-then-all
returns-then-all c =
    let m = c.args.tables.now in
    let n = c.take_out.new.tables in
    let t = c.args.table in
    let l = c.requires.there in
    let places = c.args.places.items in
    let new = c.args.new.items in
    let out = c.take_out.new.edits.items in
    let g = (out_from c.args.tables.now c.take_out.new.tables c.args.table c.args.places.items
    c.new-edits.result.items c.take_out.new.edits.items c.new-edits.ensures.items
    c.in-Ok-take_out.ensures.out) in
    let q = c.put_in_order.new.tables in
    let es = c.put_in_order.new.edits.items in
    let d = subst (λ (b : Bool). GoesIn n q t new out es b) c.if-all.true
    c.in-Ok-put_in_order.ensures.done in
    subst (λ (fs : List Edit). IsAnswer m q t (set_all places new (rows_in m.tables t)) (Ok fs))
    (sym c.from_vec.ensures)
    (all_rekeyed m n q t l places new out es g d.0
    (subst IsKept c.table_at-2.ensures c.len-rows.ensures.kept) c.requires.places
    c.requires.both)

pub take_back-requires-2-clause-there : goal.take_back-requires-2-clause-there
take_back-requires-2-clause-there c =
    let m = c.args.tables.now in
    let n = c.take_out.new.tables in
    let t = c.args.table in
    let l = c.requires.there in
    let places = c.args.places.items in
    let new = c.args.new.items in
    let out = c.take_out.new.edits.items in
    let g = (out_from c.args.tables.now c.take_out.new.tables c.args.table c.args.places.items
    c.new-edits.result.items c.take_out.new.edits.items c.new-edits.ensures.items
    c.in-Ok-take_out.ensures.out) in
    let q = c.put_in_order.new.tables in
    let es = c.put_in_order.new.edits.items in
    went_there n q t new out es c.in-Ok-put_in_order.all c.in-Ok-put_in_order.ensures.done g.there

pub take_back-requires-2-clause-can : goal.take_back-requires-2-clause-can
take_back-requires-2-clause-can c =
    let m = c.args.tables.now in
    let n = c.take_out.new.tables in
    let t = c.args.table in
    let l = c.requires.there in
    let places = c.args.places.items in
    let new = c.args.new.items in
    let out = c.take_out.new.edits.items in
    let g = (out_from c.args.tables.now c.take_out.new.tables c.args.table c.args.places.items
    c.new-edits.result.items c.take_out.new.edits.items c.new-edits.ensures.items
    c.in-Ok-take_out.ensures.out) in
    let q = c.put_in_order.new.tables in
    let es = c.put_in_order.new.edits.items in
    let d : NotIn n q t new out es = subst (λ (b : Bool). GoesIn n q t new out es b) c.if-all.false
    c.in-Ok-put_in_order.ensures.done in
    d.going.can

pub table_at-requires-3 : goal.table_at-requires-3
table_at-requires-3 c =
    let m = c.args.tables.now in
    let n = c.take_out.new.tables in
    let t = c.args.table in
    let l = c.requires.there in
    let places = c.args.places.items in
    let new = c.args.new.items in
    let out = c.take_out.new.edits.items in
    let g = (out_from c.args.tables.now c.take_out.new.tables c.args.table c.args.places.items
    c.new-edits.result.items c.take_out.new.edits.items c.new-edits.ensures.items
    c.in-Ok-take_out.ensures.out) in
    let q = c.put_in_order.new.tables in
    let es = c.put_in_order.new.edits.items in
    let d : NotIn n q t new out es = subst (λ (b : Bool). GoesIn n q t new out es b) c.if-all.false
    c.in-Ok-put_in_order.ensures.done in
    let p = c.take_back-2.new.tables in
    let u : Unchanged m p = rekeyed_back m n q t l places d.others out es g d.stored p d.going
    c.take_back-2.ensures.tables c.take_back-2.ensures.capacities in
    subst (λ (ts : Tables). t < length ts) (sym u.tables) l

pub judge-requires-clause-places : goal.judge-requires-clause-places
judge-requires-clause-places c =
    let m = c.args.tables.now in
    let n = c.take_out.new.tables in
    let t = c.args.table in
    let l = c.requires.there in
    let places = c.args.places.items in
    let new = c.args.new.items in
    let out = c.take_out.new.edits.items in
    let g = (out_from c.args.tables.now c.take_out.new.tables c.args.table c.args.places.items
    c.new-edits.result.items c.take_out.new.edits.items c.new-edits.ensures.items
    c.in-Ok-take_out.ensures.out) in
    let q = c.put_in_order.new.tables in
    let es = c.put_in_order.new.edits.items in
    let d : NotIn n q t new out es = subst (λ (b : Bool). GoesIn n q t new out es b) c.if-all.false
    c.in-Ok-put_in_order.ensures.done in
    let p = c.take_back-2.new.tables in
    let u : Unchanged m p = rekeyed_back m n q t l places d.others out es g d.stored p d.going
    c.take_back-2.ensures.tables c.take_back-2.ensures.capacities in
    let k = c.table_at-3.result.now in
    let e = c.table_at-3.ensures in
    let ps = c.in-Ok.places_again.items in
    let a : ps ≡ places = c.in-Ok.ensures.items ∙ c.deref.ensures.value in
    let rs = c.in-Ok-copied_rows.new_again.items in
    let b : rs ≡ new = c.in-Ok-copied_rows.ensures ∙ c.deref-2.ensures.value in
    climb_back m p t k places ps u e a c.requires.places

pub judge-requires-clause-fit : goal.judge-requires-clause-fit
judge-requires-clause-fit c =
    let m = c.args.tables.now in
    let n = c.take_out.new.tables in
    let t = c.args.table in
    let l = c.requires.there in
    let places = c.args.places.items in
    let new = c.args.new.items in
    let out = c.take_out.new.edits.items in
    let g = (out_from c.args.tables.now c.take_out.new.tables c.args.table c.args.places.items
    c.new-edits.result.items c.take_out.new.edits.items c.new-edits.ensures.items
    c.in-Ok-take_out.ensures.out) in
    let q = c.put_in_order.new.tables in
    let es = c.put_in_order.new.edits.items in
    let d : NotIn n q t new out es = subst (λ (b : Bool). GoesIn n q t new out es b) c.if-all.false
    c.in-Ok-put_in_order.ensures.done in
    let p = c.take_back-2.new.tables in
    let u : Unchanged m p = rekeyed_back m n q t l places d.others out es g d.stored p d.going
    c.take_back-2.ensures.tables c.take_back-2.ensures.capacities in
    let k = c.table_at-3.result.now in
    let e = c.table_at-3.ensures in
    let ps = c.in-Ok.places_again.items in
    let a : ps ≡ places = c.in-Ok.ensures.items ∙ c.deref.ensures.value in
    let rs = c.in-Ok-copied_rows.new_again.items in
    let b : rs ≡ new = c.in-Ok-copied_rows.ensures ∙ c.deref-2.ensures.value in
    fit_back m p t k new rs u e b c.requires.fit

pub judge-requires-clause-repeats : goal.judge-requires-clause-repeats
judge-requires-clause-repeats c =
    let m = c.args.tables.now in
    let n = c.take_out.new.tables in
    let t = c.args.table in
    let l = c.requires.there in
    let places = c.args.places.items in
    let new = c.args.new.items in
    let out = c.take_out.new.edits.items in
    let g = (out_from c.args.tables.now c.take_out.new.tables c.args.table c.args.places.items
    c.new-edits.result.items c.take_out.new.edits.items c.new-edits.ensures.items
    c.in-Ok-take_out.ensures.out) in
    let q = c.put_in_order.new.tables in
    let es = c.put_in_order.new.edits.items in
    let d : NotIn n q t new out es = subst (λ (b : Bool). GoesIn n q t new out es b) c.if-all.false
    c.in-Ok-put_in_order.ensures.done in
    let p = c.take_back-2.new.tables in
    let u : Unchanged m p = rekeyed_back m n q t l places d.others out es g d.stored p d.going
    c.take_back-2.ensures.tables c.take_back-2.ensures.capacities in
    let k = c.table_at-3.result.now in
    let e = c.table_at-3.ensures in
    let ps = c.in-Ok.places_again.items in
    let a : ps ≡ places = c.in-Ok.ensures.items ∙ c.deref.ensures.value in
    let rs = c.in-Ok-copied_rows.new_again.items in
    let b : rs ≡ new = c.in-Ok-copied_rows.ensures ∙ c.deref-2.ensures.value in
    refused_at m p t k places ps new rs u e a b
    (refused_for m n t l places new out g d.repeats c.requires.places c.requires.both)

pub returns : goal.returns
returns c =
    let m = c.args.tables.now in
    let n = c.take_out.new.tables in
    let t = c.args.table in
    let l = c.requires.there in
    let places = c.args.places.items in
    let new = c.args.new.items in
    let out = c.take_out.new.edits.items in
    let g = (out_from c.args.tables.now c.take_out.new.tables c.args.table c.args.places.items
    c.new-edits.result.items c.take_out.new.edits.items c.new-edits.ensures.items
    c.in-Ok-take_out.ensures.out) in
    let q = c.put_in_order.new.tables in
    let es = c.put_in_order.new.edits.items in
    let d : NotIn n q t new out es = subst (λ (b : Bool). GoesIn n q t new out es b) c.if-all.false
    c.in-Ok-put_in_order.ensures.done in
    let p = c.take_back-2.new.tables in
    let u : Unchanged m p = rekeyed_back m n q t l places d.others out es g d.stored p d.going
    c.take_back-2.ensures.tables c.take_back-2.ensures.capacities in
    let k = c.table_at-3.result.now in
    let e = c.table_at-3.ensures in
    let ps = c.in-Ok.places_again.items in
    let a : ps ≡ places = c.in-Ok.ensures.items ∙ c.deref.ensures.value in
    let rs = c.in-Ok-copied_rows.new_again.items in
    let b : rs ≡ new = c.in-Ok-copied_rows.ensures ∙ c.deref-2.ensures.value in
    judged_from m p t k places ps new rs c.judge.result u e a b c.judge.ensures
