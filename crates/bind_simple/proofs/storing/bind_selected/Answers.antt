use Rattle.std.proofs.Common.{◌≡◌, ap, ap₂, List, Option}
use Rattle.bound_trees.specs.declared.statement.BoundTarget.{BoundTarget}
use Rattle.bind_faults.specs.declared.fault.Fault.{Fault}
use Rattle.bind_faults.specs.declared.notes.Notes.{Notes}
use Rattle.bind_faults.specs.Faults.{taken}
use Rattle.bind_parts.specs.declared.typed.TypedQuery.{TypedQuery}
use Rattle.bind_simple.specs.declared.storing.SelectedInto.{SelectedInto}
use Rattle.bind_simple.specs.Places.{place_by, seen_from}
use Rattle.bind_simple.specs.Storing.{judge_selection, into_faults, selected_into}
use Rattle.bind_simple.specs.Values.{kinds_of, targets_of}
use Rattle.bind_simple.proofs.Laws.{asked-notes}
use Rattle.bind_simple.proofs.storing.bind_selected.Goals as goal

pub returns-clause-value : goal.returns-clause-value
returns-clause-value c =
    let q : c.in_ok-query.query ≡ (judge_selection c.args.select.now (kinds_of c.args.stored.now)
    (seen_from (place_by c.args.place.now))).value =
    cc (
      c.in_ok-query.ensures.value,
      c.in_ok-kinds.ensures,
      c.as_slice.ensures,
      c.seen_from-sight.ensures,
    ) in
    ap₂ (λ (query : TypedQuery) (targets : List BoundTarget).
    record { query = query.tree; targets = targets }) q c.in_ok-targets.ensures

pub returns-clause-notes : goal.returns-clause-notes
returns-clause-notes c =
    let x = judge_selection c.args.select.now (kinds_of c.args.stored.now)
    (seen_from (place_by c.args.place.now)) in
    asked-notes (selected_into c.args.stored.now) (into_faults c.args.stored.now) x
    c.in_ok-query.query c.args.notes.now c.bind_selection.new.notes _
    (cc (
      c.in_ok-query.ensures.notes,
      c.in_ok-kinds.ensures,
      c.as_slice.ensures,
      c.seen_from-sight.ensures,
    ))
    (cc (
      c.in_ok-query.ensures.value,
      c.in_ok-kinds.ensures,
      c.as_slice.ensures,
      c.seen_from-sight.ensures,
    ))
    (ap (λ (l : Option Fault). record { least = l; uses = c.bind_selection.new.notes.uses })
    c.note_into.ensures)
