use Rattle.std.proofs.Common.{◌≤◌, sym, ◌∙◌, le_refl, le_trans, length}
use Rattle.std.proofs.lemmas.List.{take_all}
use Rattle.atomic_undo.proofs.Steps.{can_last, belongs_after, length_before, back_after}
use Rattle.atomic_undo.proofs.Steps.{front_after, back_here, at_end}
use Rattle.atomic_undo.proofs.undo.roll_back.Goals as goal

pub undo_all-requires : goal.undo_all-requires
undo_all-requires c = can_last c.loop-mark.tables c.pop.new.self.entries c.loop-mark.log.entries
    c.pop.result c.pop.ensures c.loop-mark.invariant.belongs

pub loop-mark-preserved : goal.loop-mark-preserved
loop-mark-preserved c =
    let l : c.args.mark ≤ length c.pop.new.self.entries =
    length_before c.pop.new.self.entries c.loop-mark.log.entries c.pop.result c.args.mark
    c.pop.ensures (c.goes_past.ensures.0 c.loop-mark-test.true) in
    record {
      mark = l;
      belongs = belongs_after c.loop-mark.tables c.undo_all.new.tables c.pop.new.self.entries
          c.loop-mark.log.entries c.pop.result c.pop.ensures c.loop-mark.invariant.belongs
          c.undo_all.ensures.tables c.undo_all.ensures.capacities;
      back = λ m k. back_after c.loop-mark.tables c.undo_all.new.tables c.pop.new.self.entries
          c.loop-mark.log.entries c.pop.result m c.pop.ensures
          (le_trans k l) c.undo_all.ensures.tables ∙ c.loop-mark.invariant.back m k;
      front = front_after c.pop.new.self.entries c.loop-mark.log.entries c.pop.result c.args.mark
          c.pop.ensures l ∙ c.loop-mark.invariant.front;
    }

pub returns : goal.returns
returns c =
    let l : length c.loop-mark.log.entries ≤ c.args.mark = at_end c.goes_past.result c.args.mark
    (length c.loop-mark.log.entries) c.goes_past.ensures.1 c.loop-mark-test.false in
    record {
      tables = sym (back_here c.loop-mark.log.entries c.args.mark c.loop-mark.tables.tables l) ∙
          c.loop-mark.invariant.back c.args.mark (le_refl c.args.mark);
      log = sym (take_all c.args.mark c.loop-mark.log.entries l) ∙ c.loop-mark.invariant.front;
      belongs = c.loop-mark.invariant.belongs;
      earlier = c.loop-mark.invariant.back;
    }
