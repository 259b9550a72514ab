use Rattle.std.proofs.Common.{List, sym, subst, arith}
use Rattle.table_store.specs.Kept.{IsKept}
use Rattle.atomic_undo.specs.declared.log.Edit.{Edit}
use Rattle.atomic_undo.specs.Changes.{Going_out}
use Rattle.atomic_undo.proofs.Deleting.{none_out, place_in, went_out}
use Rattle.atomic_undo.proofs.delete.remove_each.Goals as goal

pub loop-at-init : goal.loop-at-init
loop-at-init c = record {
  out = none_out c.args.tables.now c.args.table c.requires.there c.args.places.items
      c.args.edits.now.items c.requires.places c.requires.can
      (subst IsKept c.table_at.ensures c.len-rows.ensures.kept);
  noted = omega arith;
  capacity = omega arith;
}

pub remove_at-row-requires-clause-place : goal.remove_at-row-requires-clause-place
remove_at-row-requires-clause-place c =
    place_in c.args.tables.now c.args.table c.requires.there c.args.places.items
    c.args.edits.now.items c.loop-at.tables c.loop-at.rest.items c.pop.new.self.items
    c.loop-at.edits.items c.in-Some.at c.loop-at.invariant.out c.in-Some.ensures.items

pub loop-at-preserved : goal.loop-at-preserved
loop-at-preserved c = record {
  out = subst (λ (es : List Edit). Going_out c.args.tables.now c.remove_at-row.new.self c.args.table
      c.args.places.items c.pop.new.self.items c.args.edits.now.items es)
      (sym c.push_reserved.ensures.items)
      (went_out c.args.tables.now c.args.table c.requires.there c.args.places.items
      c.args.edits.now.items c.loop-at.tables c.remove_at-row.new.self c.loop-at.rest.items
      c.pop.new.self.items c.loop-at.edits.items c.in-Some.at c.remove_at-row.result
      c.loop-at.invariant.out c.in-Some.ensures.items c.remove_at-row.ensures.row
      c.remove_at-row.ensures.tables c.remove_at-row.ensures.capacities);
  noted = (let h = c.loop-at.invariant.noted in let k = c.push_reserved.ensures.len in
      let j = c.in-Some.ensures.cases in omega arith);
  capacity = (let h = c.loop-at.invariant.capacity in let k = c.push_reserved.ensures.capacity in
      omega arith);
}
