use Rattle.std.proofs.Common.{◌≡◌, ◌<◌, ◌-◌, [], List, length, sym, ap, ◌∙◌, arith, get_or, set}
use Rattle.table_store.specs.declared.placed_row.PlacedRow.{PlacedRow}
use Rattle.table_store.specs.Places.{places_of, inserted_all}
use Rattle.table_store.proofs.Opening.{opens, not_yet, puts, lifts, still_left}
use Rattle.table_store.proofs.rows.Rows.insert_all.Goals as goal

pub loop-to-init : goal.loop-to-init
loop-to-init c = record {
  opening = opens c.args.new c.args.self.now.rows c.lengthen.new.self.rows c.len-to.result
      c.lengthen.ensures.rows (let e = c.lengthen.ensures.len in let f = c.len.ensures in
      omega arith) c.len-to.ensures.value c.requires.places;
  capacity = c.lengthen.ensures.capacity;
}

pub overflow_sub-to : goal.overflow_sub-to
overflow_sub-to c =
    let l : 0 < c.loop-to.to = not_yet c.loop-to.left c.loop-to.self.rows
    (inserted_all c.args.new c.args.self.now.rows) c.loop-to.to c.loop-to.invariant.opening
    (let t = c.loop-to-test.true in let e = c.len-in-loop-to.ensures in omega arith) in
    omega arith

pub loop-to-preserved-then-last_place-to : goal.loop-to-preserved-then-last_place-to
loop-to-preserved-then-last_place-to c =
    let all = inserted_all c.args.new c.args.self.now.rows in
    let g = c.loop-to.invariant.opening in
    let l : 0 < c.loop-to.to = not_yet c.loop-to.left c.loop-to.self.rows all c.loop-to.to g
    (let t = c.loop-to-test.true in let e = c.len-in-loop-to.ensures in omega arith) in
    let last : c.last_place.result ≡ get_or (places_of c.loop-to.left) (length c.loop-to.left - 1)
    0 =
    c.last_place.ensures ∙ ap (λ (xs : List PlacedRow). get_or (places_of xs) (length xs - 1) 0)
    c.as_slice.ensures in
    record {
      opening = puts c.loop-to.left c.loop-to.self.rows all c.loop-to.to g c.pop.new.self
          c.in-Some.last c.in-Some.ensures (sym last ∙ c.if-last_place-to.true) l
          c.replace_at.new.self.rows c.replace_at.ensures.rows;
      capacity = (let a = c.loop-to.invariant.capacity in let b = c.replace_at.ensures.capacity in
          omega arith);
    }

pub overflow_sub-to-else-last_place-to : goal.overflow_sub-to-else-last_place-to
overflow_sub-to-else-last_place-to c =
    let last : c.last_place.result ≡ get_or (places_of c.loop-to.left) (length c.loop-to.left - 1)
    0 =
    c.last_place.ensures ∙ ap (λ (xs : List PlacedRow). get_or (places_of xs) (length xs - 1) 0)
    c.as_slice.ensures in
    let l = still_left c.loop-to.left c.loop-to.self.rows
    (inserted_all c.args.new c.args.self.now.rows) c.loop-to.to c.loop-to.invariant.opening
    (λ e. c.if-last_place-to.false (last ∙ e))
    (let t = c.loop-to-test.true in let e = c.len-in-loop-to.ensures in omega arith) in
    omega arith

pub loop-to-smaller : goal.loop-to-smaller
loop-to-smaller c =
    let l : 0 < c.loop-to.to = not_yet c.loop-to.left c.loop-to.self.rows
    (inserted_all c.args.new c.args.self.now.rows) c.loop-to.to c.loop-to.invariant.opening
    (let t = c.loop-to-test.true in let e = c.len-in-loop-to.ensures in omega arith) in
    omega arith

pub loop-to-preserved : goal.loop-to-preserved
loop-to-preserved c =
    let rows = c.loop-to.self.rows in
    let next = c.loop-to.to - 1 in
    let last : c.last_place.result ≡ get_or (places_of c.loop-to.left) (length c.loop-to.left - 1)
    0 =
    c.last_place.ensures ∙ ap (λ (xs : List PlacedRow). get_or (places_of xs) (length xs - 1) 0)
    c.as_slice.ensures in
    record {
      opening = lifts c.loop-to.left rows (inserted_all c.args.new c.args.self.now.rows)
          c.loop-to.to c.loop-to.invariant.opening (λ e. c.if-last_place-to.false (last ∙ e))
          (let t = c.loop-to-test.true in let e = c.len-in-loop-to.ensures in omega arith)
          c.move_row.new.self.rows
          (c.move_row.ensures.rows ∙ ap (λ n. set (set rows (next - n) []) next
          (get_or rows (next - n) [])) c.len-else-last_place-to.ensures);
      capacity = (let a = c.loop-to.invariant.capacity in let b = c.move_row.ensures.capacity in
          omega arith);
    }
