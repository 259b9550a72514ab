use Rattle.std.proofs.Common.{◌∷◌, ◌++◌, [], List, ℕ, sym, ap, ◌∙◌, subst, arith, length}
use Rattle.std.proofs.Common.{length-set, set}
use Rattle.row_types.specs.Rows.{Row}
use Rattle.atomic_undo.specs.Changes.{set_all, Climb}
use Rattle.table_store.proofs.Laws.{Climb-last, Climb-front, Climb-more}
use Rattle.atomic_undo.proofs.Replacing.{set_all-append, last_both}
use Rattle.atomic_undo.proofs.rekey.with_rows_at.Goals as goal

pub index_mut-requires : goal.index_mut-requires
index_mut-requires c =
    let h = Climb-last 0 c.pop.new.self.items c.in-Some.at (length c.loop-at.rows.items)
    (subst (λ (ps : List ℕ). Climb 0 ps (length c.loop-at.rows.items)) c.in-Some.ensures.items
    c.loop-at.invariant.climb) in omega arith

pub loop-at-preserved : goal.loop-at-preserved
loop-at-preserved c =
    let even = last_both c.loop-at.places.items c.pop.new.self.items c.loop-at.new.items
    c.pop-in-Some.new.self.items c.in-Some.at c.in-Some-pop.row c.loop-at.invariant.both
    c.in-Some.ensures.items c.in-Some-pop.ensures.items in
    let climb = subst (λ (ps : List ℕ). Climb 0 ps (length c.loop-at.rows.items))
    c.in-Some.ensures.items c.loop-at.invariant.climb in
    let l = Climb-last 0 c.pop.new.self.items c.in-Some.at (length c.loop-at.rows.items) climb in
    record {
      rows = sym (set_all-append c.pop.new.self.items c.pop-in-Some.new.self.items c.in-Some.at
          c.in-Some-pop.row c.loop-at.rows.items even)
          ∙ ap (λ (ps : List ℕ). set_all ps (c.pop-in-Some.new.self.items ++ c.in-Some-pop.row ∷ [])
          c.loop-at.rows.items) (sym c.in-Some.ensures.items)
          ∙ ap (λ (rs : List Row). set_all c.loop-at.places.items rs c.loop-at.rows.items)
          (sym c.in-Some-pop.ensures.items) ∙ c.loop-at.invariant.rows;
      both = even;
      climb = Climb-more 0 c.pop.new.self.items c.in-Some.at
          (length (set c.loop-at.rows.items c.in-Some.at c.in-Some-pop.row))
          (let k = length-set c.loop-at.rows.items c.in-Some.at c.in-Some-pop.row in omega arith)
          (Climb-front 0 c.pop.new.self.items c.in-Some.at (length c.loop-at.rows.items) climb);
    }
