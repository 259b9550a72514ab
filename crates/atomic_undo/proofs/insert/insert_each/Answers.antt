use Rattle.std.proofs.Common.{ℕ, ◌≡◌, ◌<◌, ◌+◌, ◌∷◌, List, sym, ap, ◌∙◌, subst, arith, length}
use Rattle.std.proofs.Common.{insert, Err, Ok}
use Rattle.std.proofs.lemmas.List.{drop_all}
use Rattle.row_types.specs.Ordered.{searched}
use Rattle.row_types.specs.Rows.{Row, by_key, fits}
use Rattle.row_types.specs.Tables.{table_at}
use Rattle.table_store.specs.Kept.{Kept, IsKept}
use Rattle.atomic_undo.specs.declared.log.Edit.{Edit}
use Rattle.atomic_undo.specs.Changes.{Going}
use Rattle.atomic_undo.proofs.Steps.{there_after}
use Rattle.atomic_undo.proofs.Inserting.{none_yet, may_go_in, went_in, stands_there, none_there}
use Rattle.atomic_undo.proofs.Inserting.{step_in, fit_in}
use Rattle.atomic_undo.proofs.insert.insert_each.Goals as goal

pub loop-row-init : goal.loop-row-init
loop-row-init c = record {
  going = none_yet c.args.tables.now c.args.table c.args.new.items c.args.edits.now.items
      c.requires.there (omega arith) c.requires.can;
  there = c.requires.there;
  rest = c.from_vec-rest.ensures.items;
  left = omega arith;
  noted = omega arith;
}

pub returns-in-Ok : goal.returns-in-Ok
returns-in-Ok c =
    let w : c.loop-row.stored < length c.args.new.items =
    (let k = c.in-Some.ensures.cases in let h = c.loop-row.invariant.left in omega arith) in
    let here = c.in-Some.ensures.items in
    let next = step_in c.args.new.items c.pop_front.new.self.items c.loop-row.stored c.in-Some.row
    (sym here ∙ c.loop-row.invariant.rest) w in
    record {
      stored = c.loop-row.stored;
      going = c.loop-row.invariant.going;
      place = omega arith;
      judged = stands_there c.args.tables.now c.args.table c.args.new.items c.args.edits.now.items
          c.loop-row.tables c.loop-row.stored c.loop-row.edits.items c.in-Some.row c.in-Ok.field-0
          c.requires.there c.loop-row.invariant.going
          (subst (λ (k : Kept). Ok c.in-Ok.field-0 ≡ searched
          (λ r. by_key k.table.key r c.in-Some.row) k.table.rows) c.table_at.ensures
          c.in-Ok.ensures.place)
          (ap (λ (xs : List Row). c.in-Some.row ∷ xs) (sym next) ∙ sym here ∙
          c.loop-row.invariant.rest);
    }

pub insert_at-requires-clause-can : goal.insert_at-requires-clause-can
insert_at-requires-clause-can c =
    let w : c.loop-row.stored < length c.args.new.items =
    (let k = c.in-Some.ensures.cases in let h = c.loop-row.invariant.left in omega arith) in
    may_go_in c.args.tables.now c.args.table c.args.new.items c.args.edits.now.items
    c.loop-row.tables c.loop-row.stored c.loop-row.edits.items c.in-Some.row c.in-Err.at
    c.requires.there c.loop-row.invariant.going
    (subst IsKept c.table_at.ensures c.place_in.ensures.kept)
    (subst (λ (k : Kept). Err c.in-Err.at ≡ searched (λ r. by_key k.table.key r c.in-Some.row)
    k.table.rows) c.table_at.ensures c.in-Err.ensures.place)
    w (fit_in (fits (table_at c.args.tables.now.tables c.args.table).columns
    (table_at c.args.tables.now.tables c.args.table).key) c.args.new.items
    c.pop_front.new.self.items c.loop-row.stored c.in-Some.row c.requires.fit
    (sym c.in-Some.ensures.items ∙ c.loop-row.invariant.rest))

pub loop-row-preserved : goal.loop-row-preserved
loop-row-preserved c =
    let w : c.loop-row.stored < length c.args.new.items =
    (let k = c.in-Some.ensures.cases in let h = c.loop-row.invariant.left in omega arith) in
    let here = c.in-Some.ensures.items in
    let next = step_in c.args.new.items c.pop_front.new.self.items c.loop-row.stored c.in-Some.row
    (sym here ∙ c.loop-row.invariant.rest) w in
    record {
      going = subst (λ (es : List Edit). Going c.args.tables.now c.insert_at.new.self c.args.table
          c.args.new.items (c.loop-row.stored + 1) c.args.edits.now.items es)
          (sym c.push_reserved.ensures.items)
          (went_in c.args.tables.now c.args.table c.args.new.items c.args.edits.now.items
          c.loop-row.tables c.insert_at.new.self c.loop-row.stored c.loop-row.edits.items
          c.in-Some.row c.in-Err.at c.requires.there c.loop-row.invariant.going
          (subst IsKept c.table_at.ensures c.place_in.ensures.kept)
          (subst (λ (k : Kept). Err c.in-Err.at ≡ searched (λ r. by_key k.table.key r c.in-Some.row)
          k.table.rows) c.table_at.ensures c.in-Err.ensures.place)
          w (ap (λ (xs : List Row). c.in-Some.row ∷ xs) (sym next) ∙ sym here ∙
          c.loop-row.invariant.rest) c.insert_at.ensures.tables c.insert_at.ensures.capacities);
      there = there_after c.args.table (insert (table_at c.loop-row.tables.tables c.args.table).rows
          c.in-Err.at c.in-Some.row) c.loop-row.tables.tables c.insert_at.new.self.tables
          c.insert_at.ensures.tables c.loop-row.invariant.there;
      rest = next;
      left = (let k = c.in-Some.ensures.cases in let h = c.loop-row.invariant.left in omega arith);
      noted = (let k = c.loop-row.invariant.noted in let h = c.push_reserved.ensures.len in
          let j = c.push_reserved.ensures.capacity in omega arith);
    }

pub returns : goal.returns
returns c =
    let z = c.in_default.ensures.cases in
    let h = c.loop-row.invariant.left in
    let e : c.loop-row.stored ≡ length c.args.new.items = (let y = z.0 in omega arith) in (
      subst (λ (i : ℕ). Going c.args.tables.now c.loop-row.tables c.args.table c.args.new.items i
          c.args.edits.now.items c.loop-row.edits.items) e c.loop-row.invariant.going,
      none_there c.args.tables.now c.args.table c.args.new.items c.args.edits.now.items
          c.loop-row.tables c.loop-row.stored c.loop-row.edits.items c.loop-row.invariant.going
          (drop_all c.loop-row.stored c.args.new.items (omega arith)),
    )
