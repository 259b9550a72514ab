use Rattle.run_changes.proofs.Setting.{last_set}
use Rattle.std.proofs.Common.{◌∙◌, ap, List}
use Rattle.row_types.specs.Rows.{Row}
use Rattle.atomic_undo.specs.Changes.{set_all}
use Rattle.run_changes.proofs.any_places.set_rows.Goals as goal

pub loop-at-preserved : goal.loop-at-preserved
loop-at-preserved c =
    let last = last_set c.loop-at.places.items c.pop.new.self.items c.loop-at.new.items
    c.pop-in-Some.new.self.items c.in-Some.at c.in-Some-pop.row c.loop-at.rows.items
    c.loop-at.invariant.both c.in-Some.ensures.items c.in-Some-pop.ensures.items in
    record {
      rows = ap (λ (rows : List Row). set_all c.pop.new.self.items c.pop-in-Some.new.self.items
          rows) c.set_row.ensures ∙ last.0 ∙ c.loop-at.invariant.rows;
      both = last.1;
    }
