use Rattle.std.proofs.Common.{◌≡◌, ◌+◌, ◌-◌, ◌<◌, ℕ, List, ◌∷◌, length, drop, not, sym, ap, ◌∙◌}
use Rattle.std.proofs.Common.{arith}
use Rattle.std.proofs.lemmas.Bool.{and_from}
use Rattle.std.specs.List.{list_all}
use Rattle.row_types.specs.Ordered.{rises, is_below_first, stands}
use Rattle.row_types.specs.Rows.{Row, by_key}
use Rattle.atomic_undo.specs.Sorting.{rows_at}
use Rattle.atomic_undo.proofs.Placing.{rows_next, not_there, none_free}
use Rattle.atomic_undo.proofs.sorted.may_go_in.Goals as goal

pub loop-i-preserved : goal.loop-i-preserved
loop-i-preserved c =
    let k = c.args.table.now in
    let R = by_key k.table.key in
    let ps = c.args.placed.now in
    let at = c.loop-i.i - 1 in
    let rs = c.args.rows.now in
    let x = c.index-rows-placed.result in
    let rest = rows_at rs (drop (at + 1) ps) in
    let there : at < length ps = (let h = c.loop-i.invariant.within in let t = c.loop-i-test.true in
    omega arith) in
    let next : at + 1 ≡ c.loop-i.i = (let t = c.loop-i-test.true in omega arith) in
    let rows : rows_at rs (drop at ps) ≡ x ∷ rest =
    rows_next rs ps at _ x c.requires there c.index-rows-placed.is in
    record {
      within = omega arith;
      up = ap (rises R) rows ∙ and_from (is_below_first R x rest) (rises R rest)
          (ap (λ (q : List ℕ). is_below_first (by_key q) x rest) (sym c.key.ensures.value) ∙
          sym c.is_below_next.ensures ∙ c.if-not-is_below_next.false)
          (ap (λ (n : ℕ). rises R (rows_at rs (drop n ps))) next ∙ c.loop-i.invariant.up);
      free = ap (list_all (λ (y : Row). not (stands R y k.table.rows))) rows
          ∙ and_from (not (stands R x k.table.rows))
          (list_all (λ (y : Row). not (stands R y k.table.rows)) rest)
          (not_there k x c.place_in.result c.place_in.ensures.kept c.place_in.ensures.place
          (sym c.is_ok.ensures.value ∙ c.if-is_ok.false))
          (ap (λ (n : ℕ). list_all (λ (y : Row). not (stands R y k.table.rows))
          (rows_at rs (drop n ps))) next ∙ c.loop-i.invariant.free);
    }

pub returns-clause-once : goal.returns-clause-once
returns-clause-once c = λ _.
    let k = c.args.table.now in
    let ps = c.args.placed.now in
    let rs = c.args.rows.now in
    let none : 0 ≡ c.loop-i.i = (let t = c.loop-i-test.false in omega arith) in
    none_free k (rows_at rs ps) c.len-rows.ensures.kept
    (ap (λ (n : ℕ). rises (by_key k.table.key) (rows_at rs (drop n ps))) none ∙
    c.loop-i.invariant.up)
    (ap (λ (n : ℕ). list_all (λ (x : Row). not (stands (by_key k.table.key) x k.table.rows))
    (rows_at rs (drop n ps))) none ∙ c.loop-i.invariant.free)

pub returns-clause-rise : goal.returns-clause-rise
returns-clause-rise c = λ _.
    let none : 0 ≡ c.loop-i.i = (let t = c.loop-i-test.false in omega arith) in
    ap (λ (n : ℕ). rises (by_key c.args.table.now.table.key)
    (rows_at c.args.rows.now (drop n c.args.placed.now))) none ∙ c.loop-i.invariant.up
