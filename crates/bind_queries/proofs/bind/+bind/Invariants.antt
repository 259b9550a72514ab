use Rattle.std.proofs.Common.{◌≡◌, drop, map}
use Rattle.bind_faults.specs.Faults.{taken}
use Rattle.bind_sight.specs.Sight.{seen_by}
use Rattle.bind_parts.specs.Turns.{each_noted}
use Rattle.bind_queries.specs.Lists.{judged_items}
use Rattle.bind_queries.specs.Names.{all_after, links_after}
use Rattle.bind_queries.specs.Queries.{select_item, value_row, from_judge, opened_of}
use Rattle.bind_queries.specs.Queries.{anchor_of_values}
use Rattle.bind_queries.specs.ValueRows.{one_row, judged_rows}
use Rattle.bind_queries.proofs.Steps.{appended}
use Rattle.bind_queries.proofs.bind.+bind.Given as goal

abbrev pub invariant-bind_all-loop-expr : goal.invariant-bind_all-loop-expr
invariant-bind_all-loop-expr l =
    let left = all_after (drop l.expr-index l.exprs) (seen_by l.sight) l.parts in
    let whole = all_after l.exprs (seen_by l.sight) l.initial.parts in
    record {
      value : appended l.so left.value.value ≡ whole.value.value;
      parts : left.value.parts ≡ whole.value.parts;
      notes : taken l.notes left ≡ taken l.initial.notes whole;
    }

abbrev pub invariant-bind_links-loop-link : goal.invariant-bind_links-loop-link
invariant-bind_links-loop-link l =
    let left = links_after (drop l.link-index l.links) (seen_by l.sight) l.parts in
    let whole = links_after l.links (seen_by l.sight) l.initial.parts in
    record {
      value : appended l.so left.value.value ≡ whole.value.value;
      parts : left.value.parts ≡ whole.value.parts;
      notes : taken l.notes left ≡ taken l.initial.notes whole;
    }

abbrev pub invariant-bind_items-loop-item : goal.invariant-bind_items-loop-item
invariant-bind_items-loop-item l =
    let left = each_noted (λ so i. i.judge (seen_by l.sight) so) l.so
    (map select_item (drop l.item-index l.items)) in
    let whole = judged_items (map select_item l.items) l.initial.so.parts (seen_by l.sight) in
    record {
      value : left.value ≡ whole.value;
      notes : taken l.notes left ≡ taken l.initial.notes whole;
    }

abbrev pub invariant-bind_rows-loop-row : goal.invariant-bind_rows-loop-row
invariant-bind_rows-loop-row l =
    let left = each_noted (one_row (anchor_of_values l.values) l.targets (seen_by l.sight)) l.so
    (map value_row (drop l.row-index l.rows)) in
    let whole = judged_rows (anchor_of_values l.values) l.targets (map value_row l.rows)
    (seen_by l.sight) in
    record {
      value : left.value ≡ whole.value;
      notes : taken l.notes left ≡ taken l.initial.notes whole;
    }

abbrev pub invariant-bind_from-loop-item : goal.invariant-bind_from-loop-item
invariant-bind_from-loop-item l =
    let left = each_noted (λ so item. from_judge item (seen_by l.outside) so) l.so
    (drop l.item-index l.items) in
    let whole = opened_of l.items (seen_by l.outside) in
    record {
      value : left.value ≡ whole.value;
      notes : taken l.notes left ≡ taken l.initial.notes whole;
    }
