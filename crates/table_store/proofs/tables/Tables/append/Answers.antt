use Rattle.std.proofs.Common.{subst, ◌++◌}
use Rattle.table_store.specs.Kept.{Kept, CanAppend}
use Rattle.table_store.proofs.Memory.{kept_is, tables_are, no_less_is}
use Rattle.table_store.proofs.WellKept.{kept_with}
use Rattle.table_store.proofs.tables.Tables.append.Goals as goal

pub append-requires : goal.append-requires
append-requires c = subst (λ (k : Kept). CanAppend k c.args.more.items)
    (kept_is c.self.inside.entries.entries c.args.self.now c.args.t c.index_mut.result.now
    c.self.view_is c.index_mut.ensures.value) c.requires.can

pub returns-clause-tables : goal.returns-clause-tables
returns-clause-tables c =
    tables_are (λ rows. rows ++ c.args.more.items) c.self.inside.entries.entries c.args.self.now
    c.args.t c.index_mut.result.now c.append.new.self c.self.view_is c.index_mut.ensures.value
    c.append.ensures.rows

pub returns-clause-capacities : goal.returns-clause-capacities
returns-clause-capacities c = no_less_is c.self.inside.entries.entries c.args.self.now c.args.t
    c.index_mut.result.now c.append.new.self c.self.view_is c.index_mut.ensures.value
    c.append.ensures.capacity

pub invariant_of-self : goal.invariant_of-self
invariant_of-self c =
    kept_with c.self.inside.entries.entries c.args.self.now c.args.t c.index_mut.result.now
    c.append.new.self c.self.view_is c.index_mut.ensures.value c.self.invariant
    (λ rows. rows ++ c.args.more.items) c.append.ensures.rows c.requires.can.kept
