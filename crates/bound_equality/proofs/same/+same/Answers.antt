use Rattle.std.proofs.lemmas.Bool.{both_ways}
use Rattle.bound_equality.proofs.Parts.{select_told}
use Rattle.bound_equality.proofs.same.+same.Goals.{same_select-then-same_exprs}
use Rattle.bound_equality.proofs.same.+same.Goals.{same_select-else-same_exprs}
use Rattle.bound_equality.proofs.same.+same.Goals.{same_select-then-same_items}
use Rattle.bound_equality.proofs.same.+same.Goals.{same_select-else-same_items}
use Rattle.bound_equality.proofs.same.+same.Goals as goal

pub same_select-returns-then-same_exprs-2 : goal.same_select-returns-then-same_exprs-2
same_select-returns-then-same_exprs-2 t c = elim c.if-same_items.branch [
  | same_select-then-same_items w ↦ elim c.if-same_exprs.branch [
    | same_select-then-same_exprs v ↦ select_told c.args.one.now c.args.other.now
        c.same_groups.result
        (cc (
          c.as_slice.ensures,
          c.as_slice-2.ensures,
          c.same_exprs.ensures.0 v.if-same_exprs.true,
        ))
        (cc (
          v.as_slice-then-same_exprs.ensures,
          v.as_slice-then-same_exprs-2.ensures,
          v.same_items.ensures.0 (cc (v.value-is, w.if-same_items.true)),
        ))
        (cc (
          w.as_slice-then-same_items.ensures,
          w.as_slice-then-same_items-2.ensures,
          w.same_exprs-then-same_items.ensures.0 (cc (w.value-is, c.if-same_exprs-2.true)),
        ))
        c.same_groups.ensures
    | same_select-else-same_exprs v ↦ absurd (both_ways c.if-same_exprs.value
        (cc (v.value-is, v.if-same_exprs.false)) w.if-same_items.true)
  ]
  | same_select-else-same_items w ↦ absurd (both_ways c.if-same_items.value
      (cc (w.value-is, w.if-same_items.false)) c.if-same_exprs-2.true)
]
