use Rattle.std.proofs.Common.{◌<◌, ◌++◌, List, length, refl, sym, ap, ◌∙◌, subst}
use Rattle.std.specs.List.{All, IsDistinct}
use Rattle.std.specs.List.Sorted.{IsPermutation}
use Rattle.row_types.specs.Ordered.{first_repeat}
use Rattle.row_types.specs.Rows.{Row, by_key}
use Rattle.atomic_undo.specs.declared.sorted.Placed.{Placed}
use Rattle.atomic_undo.specs.Sorting.{rows_at, have_one_place, IsOrder, PutAlike}
use Rattle.atomic_undo.proofs.Placing.{order_within, order_once, order_moves, alike_in_order}
use Rattle.atomic_undo.proofs.sorted.in_key_order.Goals as goal

pub may_go_in-requires : goal.may_go_in-requires
may_go_in-requires c =
    let order = subst (λ (xs : List Row). IsOrder c.key.result.now xs c.in_ok-placed.placed.items)
    c.deref.ensures.value c.in_ok-placed.ensures in
    let within = order_within c.key.result.now c.args.new.items c.in_ok-placed.placed.items order in
    subst (λ (ps : List Placed). All (λ p. p.place < length c.deref-2.result.now) ps)
    (sym c.deref-3.ensures.value)
    (subst (λ (xs : List Row). All (λ (p : Placed). p.place < length xs)
    c.in_ok-placed.placed.items) (sym c.deref-2.ensures.value) within)

pub rows_at-requires-clause-there : goal.rows_at-requires-clause-there
rows_at-requires-clause-there c =
    let order = subst (λ (xs : List Row). IsOrder c.key.result.now xs c.in_ok-placed.placed.items)
    c.deref.ensures.value c.in_ok-placed.ensures in
    subst (λ (ps : List Placed). All (λ p. p.place < length c.args.new.items) ps)
    (sym c.deref-then-may_go_in.ensures.value)
    (order_within c.key.result.now c.args.new.items c.in_ok-placed.placed.items order)

pub rows_at-requires-clause-once : goal.rows_at-requires-clause-once
rows_at-requires-clause-once c =
    let order = subst (λ (xs : List Row). IsOrder c.key.result.now xs c.in_ok-placed.placed.items)
    c.deref.ensures.value c.in_ok-placed.ensures in
    subst (λ (ps : List Placed). IsDistinct have_one_place ps)
    (sym c.deref-then-may_go_in.ensures.value)
    (order_once c.key.result.now c.args.new.items c.in_ok-placed.placed.items order)

pub returns-then-may_go_in-clause-moved : goal.returns-then-may_go_in-clause-moved
returns-then-may_go_in-clause-moved c =
    let new = c.args.new.items in
    let ps = c.in_ok-placed.placed.items in
    let order = subst (λ (xs : List Row). IsOrder c.key.result.now xs ps) c.deref.ensures.value
    c.in_ok-placed.ensures in
    subst (λ (xs : List Row). IsPermutation new xs)
    (sym (c.in_ok-rows.ensures ∙ ap (rows_at new) c.deref-then-may_go_in.ensures.value))
    (order_moves c.key.result.now new ps order)

pub returns-then-may_go_in-clause-alike : goal.returns-then-may_go_in-clause-alike
returns-then-may_go_in-clause-alike c =
    let k = c.args.table.now in
    let R = by_key k.table.key in
    let new = c.args.new.items in
    let ps = c.in_ok-placed.placed.items in
    let order = subst (λ (xs : List Row). IsOrder c.key.result.now xs ps) c.deref.ensures.value
    c.in_ok-placed.ensures in
    subst (λ (xs : List Row). PutAlike R k.table.rows xs new)
    (sym (c.in_ok-rows.ensures ∙ ap (rows_at new) c.deref-then-may_go_in.ensures.value))
    (alike_in_order k new (rows_at new ps) c.len-rows.ensures.kept
    (order_moves c.key.result.now new ps order)
    (ap (λ (qs : List Placed). first_repeat R (k.table.rows ++ rows_at new qs))
    (sym c.deref-3.ensures.value)
    ∙ ap (λ (xs : List Row). first_repeat R (k.table.rows ++ rows_at xs c.deref-3.result.now))
    (sym c.deref-2.ensures.value) ∙ c.if-may_go_in.ensures.once refl))
