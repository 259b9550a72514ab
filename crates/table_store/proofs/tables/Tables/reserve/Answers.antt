use Rattle.std.proofs.Common.{OnOk, length, ◌+◌, ◌≤◌, subst, sym}
use Rattle.table_store.specs.Kept.{Kept}
use Rattle.table_store.proofs.Memory.{tables_stay, no_less_is, kept_then}
use Rattle.table_store.proofs.WellKept.{kept_same}
use Rattle.table_store.proofs.tables.Tables.reserve.Goals as goal

pub returns-clause-tables : goal.returns-clause-tables
returns-clause-tables c = tables_stay c.self.inside.entries.entries c.args.self.now c.args.t
    c.index_mut.result.now c.reserve.new.self c.self.view_is c.index_mut.ensures.value
    c.reserve.ensures.rows

pub returns-clause-room : goal.returns-clause-room
returns-clause-room c =
    subst (λ (k : Kept). OnOk c.reserve.result (length k.table.rows + c.args.n ≤ k.capacity))
    (sym (kept_then c.self.inside.entries.entries c.args.t c.index_mut.result.now c.reserve.new.self
    c.index_mut.ensures.value)) c.reserve.ensures.room

pub returns-clause-capacities : goal.returns-clause-capacities
returns-clause-capacities c = no_less_is c.self.inside.entries.entries c.args.self.now c.args.t
    c.index_mut.result.now c.reserve.new.self c.self.view_is c.index_mut.ensures.value
    c.reserve.ensures.capacity

pub invariant_of-self : goal.invariant_of-self
invariant_of-self c = kept_same c.self.inside.entries.entries c.args.self.now c.args.t
    c.index_mut.result.now c.reserve.new.self c.self.view_is c.index_mut.ensures.value
    c.self.invariant c.reserve.ensures.rows
