use Rattle.std.proofs.Common.{map, sym, ap, ◌∙◌, ◌++◌}
use Rattle.std.specs.Option.{option_map}
use Rattle.std.proofs.lemmas.Result.{on_ok_weaker}
use Rattle.bound_trees.specs.declared.query.BoundSelect.{out-BoundSelect}
use Rattle.catalog_store.specs.Uses.{if_grouped, joined, uses_in, uses_in_grouping, uses_in_item}
use Rattle.catalog_store.proofs.Laws.{uses_in_select-parts}
use Rattle.called_names.specs.Called.{called, held}
use Rattle.called_names.proofs.Gathering.{gathered}
use Rattle.called_names.proofs.calls.+calls.Goals as goal

pub note_select-returns : goal.note_select-returns
note_select-returns t c =
    let groups = if_grouped (option_map uses_in_grouping
    (out-BoundSelect c.args.select.now).grouping) in
    let first = held c.args.names.now.items in
    on_ok_weaker c.note_exprs-2.result
    (λ last. gathered first (held c.note_items.new.names.items)
    (held c.note_exprs.new.names.items) (held c.note_groups.new.names.items)
    (held c.note_exprs-2.new.names.items) (joined (map uses_in_item c.as_slice.result.now))
    (joined (map uses_in c.as_slice-2.result.now)) groups
    (joined (map uses_in c.as_slice-3.result.now)) c.in_ok-note_items.ensures
    c.in_ok-note_exprs.ensures c.in_ok-note_groups.ensures last
    ∙ (λ i. first ++ called (joined (map uses_in_item (c.as_slice.ensures i)) ++
    (joined (map uses_in (c.as_slice-2.ensures i)) ++
    (groups ++ joined (map uses_in (c.as_slice-3.ensures i))))))
    ∙ ap (λ us. first ++ called us) (sym (uses_in_select-parts c.args.select.now)))
    c.note_exprs-2.ensures
