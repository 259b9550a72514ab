use Rattle.std.proofs.Common.{ℕ, ◌≡◌, ◌<◌, ◌+◌, ◌++◌, [], List, Option, Some, None, sym, ap, ◌∙◌}
use Rattle.std.proofs.Common.{subst, arith, length, take, Ok, Err}
use Rattle.row_types.specs.Ordered.{put_all}
use Rattle.row_types.specs.Tables.{Tables}
use Rattle.table_store.specs.Kept.{Kept, IsKept}
use Rattle.table_store.specs.Memory.{kept_at}
use Rattle.atomic_undo.specs.declared.log.Edit.{Edit}
use Rattle.atomic_undo.specs.declared.fault.ApplyFault.TheVariants.{Constraint}
use Rattle.atomic_undo.specs.Changes.{order_in, rows_in, Refused, WentIn, IsAnswer}
use Rattle.atomic_undo.proofs.Steps.{there_after}
use Rattle.atomic_undo.proofs.Inserting.{answer_in, all_in, refused_in, kept_more}
use Rattle.atomic_undo.proofs.insert.insert_or_refuse.Goals as goal

pub take_back-requires-clause-there : goal.take_back-requires-clause-there
take_back-requires-clause-there c =
    let l = c.args.tables.now in
    let m = c.reserve.new.self in
    let n = c.put_in.new.tables in
    let t = c.args.table in
    let new = c.args.new.items in
    let es = c.put_in.new.edits.items in
    let there : t < length m.tables = subst (λ (ts : Tables). t < length ts)
    (sym c.reserve.ensures.tables) c.requires.there in
    let k : IsKept (kept_at m t) = kept_more l m t c.reserve.ensures.tables
    c.reserve.ensures.capacities (subst IsKept c.table_at.ensures c.len-before.ensures.kept)
    in
    let w : WentIn m n t new [] es c.in-Ok-put_in.refused =
    subst (λ (fs : List Edit). WentIn m n t new fs es c.in-Ok-put_in.refused)
    c.new-edits.ensures.items c.in-Ok-put_in.ensures.done in
    let d : Refused m n t new c.in-Some.at [] es =
    subst (λ (r : Option ℕ). WentIn m n t new [] es r) c.in-Some.is w in
    there_after t (put_all (order_in m.tables t) (rows_in m.tables t) (take d.stored new)) m.tables
    n.tables d.going.tables there

pub take_back-requires-clause-can : goal.take_back-requires-clause-can
take_back-requires-clause-can c =
    let l = c.args.tables.now in
    let m = c.reserve.new.self in
    let n = c.put_in.new.tables in
    let t = c.args.table in
    let new = c.args.new.items in
    let es = c.put_in.new.edits.items in
    let there : t < length m.tables = subst (λ (ts : Tables). t < length ts)
    (sym c.reserve.ensures.tables) c.requires.there in
    let k : IsKept (kept_at m t) = kept_more l m t c.reserve.ensures.tables
    c.reserve.ensures.capacities (subst IsKept c.table_at.ensures c.len-before.ensures.kept)
    in
    let w : WentIn m n t new [] es c.in-Ok-put_in.refused =
    subst (λ (fs : List Edit). WentIn m n t new fs es c.in-Ok-put_in.refused)
    c.new-edits.ensures.items c.in-Ok-put_in.ensures.done in
    let d : Refused m n t new c.in-Some.at [] es =
    subst (λ (r : Option ℕ). WentIn m n t new [] es r) c.in-Some.is w in
    d.going.can

pub overflow_add-result : goal.overflow_add-result
overflow_add-result c =
    let l = c.args.tables.now in
    let m = c.reserve.new.self in
    let n = c.put_in.new.tables in
    let t = c.args.table in
    let new = c.args.new.items in
    let es = c.put_in.new.edits.items in
    let there : t < length m.tables = subst (λ (ts : Tables). t < length ts)
    (sym c.reserve.ensures.tables) c.requires.there in
    let k : IsKept (kept_at m t) = kept_more l m t c.reserve.ensures.tables
    c.reserve.ensures.capacities (subst IsKept c.table_at.ensures c.len-before.ensures.kept)
    in
    let w : WentIn m n t new [] es c.in-Ok-put_in.refused =
    subst (λ (fs : List Edit). WentIn m n t new fs es c.in-Ok-put_in.refused)
    c.new-edits.ensures.items c.in-Ok-put_in.ensures.done in
    let d : Refused m n t new c.in-Some.at [] es =
    subst (λ (r : Option ℕ). WentIn m n t new [] es r) c.in-Some.is w in
    let p = d.place in
    let s = c.len-before.ensures.small in
    omega arith

pub returns-in-None : goal.returns-in-None
returns-in-None c =
    let l = c.args.tables.now in
    let m = c.reserve.new.self in
    let n = c.put_in.new.tables in
    let t = c.args.table in
    let new = c.args.new.items in
    let es = c.put_in.new.edits.items in
    let there : t < length m.tables = subst (λ (ts : Tables). t < length ts)
    (sym c.reserve.ensures.tables) c.requires.there in
    let k : IsKept (kept_at m t) = kept_more l m t c.reserve.ensures.tables
    c.reserve.ensures.capacities (subst IsKept c.table_at.ensures c.len-before.ensures.kept)
    in
    let w : WentIn m n t new [] es c.in-Ok-put_in.refused =
    subst (λ (fs : List Edit). WentIn m n t new fs es c.in-Ok-put_in.refused)
    c.new-edits.ensures.items c.in-Ok-put_in.ensures.done in
    let d = subst (λ (r : Option ℕ). WentIn m n t new [] es r) c.in-None.is w in
    subst (λ (fs : List Edit). IsAnswer l n t (rows_in l.tables t ++ new) (Ok fs))
    (sym c.from_vec.ensures)
    (answer_in l m n t new (Ok es) c.reserve.ensures.tables c.reserve.ensures.capacities
    (all_in m n t new es k d.0 d.1))

pub returns-in-Some : goal.returns-in-Some
returns-in-Some c =
    let l = c.args.tables.now in
    let m = c.reserve.new.self in
    let n = c.put_in.new.tables in
    let t = c.args.table in
    let new = c.args.new.items in
    let es = c.put_in.new.edits.items in
    let there : t < length m.tables = subst (λ (ts : Tables). t < length ts)
    (sym c.reserve.ensures.tables) c.requires.there in
    let k : IsKept (kept_at m t) = kept_more l m t c.reserve.ensures.tables
    c.reserve.ensures.capacities (subst IsKept c.table_at.ensures c.len-before.ensures.kept)
    in
    let w : WentIn m n t new [] es c.in-Ok-put_in.refused =
    subst (λ (fs : List Edit). WentIn m n t new fs es c.in-Ok-put_in.refused)
    c.new-edits.ensures.items c.in-Ok-put_in.ensures.done in
    let d : Refused m n t new c.in-Some.at [] es =
    subst (λ (r : Option ℕ). WentIn m n t new [] es r) c.in-Some.is w in
    let p = c.take_back.new.tables in
    let before : length (rows_in m.tables t) ≡ c.len-before.result =
    ap (λ (ts : Tables). length (rows_in ts t)) c.reserve.ensures.tables ∙
    ap (λ (x : Kept). length x.table.rows) (sym c.table_at.ensures) ∙
    sym c.len-before.ensures.value in
    answer_in l m p t new (Err (Constraint (c.len-before.result + c.in-Some.at)))
    c.reserve.ensures.tables c.reserve.ensures.capacities
    (refused_in m n t new es d.stored (c.len-before.result + c.in-Some.at) p there k d.going
    (d.judged ∙ ap (λ (i : ℕ). Some (i + c.in-Some.at)) before) c.take_back.ensures.tables
    c.take_back.ensures.capacities)
