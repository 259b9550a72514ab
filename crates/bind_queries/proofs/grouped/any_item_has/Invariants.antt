use Rattle.std.proofs.Common.{◌≡◌, map, drop}
use Rattle.std.specs.List.{list_any}
use Rattle.bind_queries.specs.Queries.{select_item}
use Rattle.bind_queries.proofs.grouped.any_item_has.Given as goal

abbrev pub invariant-loop-item : goal.invariant-loop-item
invariant-loop-item l = list_any (λ i. i.aggregates) (map select_item (drop l.item-index l.items)) ≡
    list_any (λ i. i.aggregates) (map select_item l.items)
