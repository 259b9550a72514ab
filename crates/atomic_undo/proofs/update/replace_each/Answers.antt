use Rattle.std.proofs.Common.{List, sym, subst, arith}
use Rattle.atomic_undo.specs.declared.log.Edit.{Edit}
use Rattle.atomic_undo.specs.Changes.{Replacing}
use Rattle.atomic_undo.proofs.Replacing.{may_replace, replaced_one}
use Rattle.atomic_undo.proofs.update.replace_each.Goals as goal

pub replace_at-old-requires-clause-can : goal.replace_at-old-requires-clause-can
replace_at-old-requires-clause-can c =
    may_replace c.args.tables.now c.args.table c.requires.start.there c.args.places.items
    c.args.new.items c.loop-at.tables c.loop-at.places.items c.pop.new.self.items
    c.loop-at.new.items c.pop-in-Some.new.self.items
    c.loop-at.edits.items c.in-Some.at c.in-Some-pop.row c.loop-at.invariant.going
    c.in-Some.ensures.items c.in-Some-pop.ensures.items

pub loop-at-preserved : goal.loop-at-preserved
loop-at-preserved c = record {
  going = subst (λ (es : List Edit). Replacing c.args.tables.now c.replace_at-old.new.self
      c.args.table c.args.places.items c.args.new.items c.pop.new.self.items
      c.pop-in-Some.new.self.items es) (sym c.push_reserved.ensures.items)
      (replaced_one c.args.tables.now c.args.table c.requires.start.there c.args.places.items
      c.args.new.items c.loop-at.tables c.loop-at.places.items c.pop.new.self.items
      c.loop-at.new.items c.pop-in-Some.new.self.items
      c.loop-at.edits.items c.in-Some.at c.in-Some-pop.row c.loop-at.invariant.going
      c.in-Some.ensures.items c.in-Some-pop.ensures.items
      c.replace_at-old.new.self c.replace_at-old.result c.replace_at-old.ensures.row
      c.replace_at-old.ensures.tables c.replace_at-old.ensures.capacities);
  noted = (let h = c.loop-at.invariant.noted in let k = c.push_reserved.ensures.len in
      let j = c.in-Some.ensures.cases in let i = c.push_reserved.ensures.capacity in omega arith);
}
