use Rattle.std.proofs.Common.{arith, take}
use Rattle.table_store.proofs.Memory.{tables_are, no_less_is}
use Rattle.table_store.proofs.WellKept.{kept_taken}
use Rattle.table_store.proofs.tables.Tables.truncate.Goals as goal

pub returns-clause-tables : goal.returns-clause-tables
returns-clause-tables c =
    tables_are (λ rows. take c.args.at rows) c.self.inside.entries.entries c.args.self.now c.args.t
    c.index_mut.result.now c.truncate.new.self c.self.view_is c.index_mut.ensures.value
    c.truncate.ensures.rows

pub returns-clause-capacities : goal.returns-clause-capacities
returns-clause-capacities c = no_less_is c.self.inside.entries.entries c.args.self.now c.args.t
    c.index_mut.result.now c.truncate.new.self c.self.view_is c.index_mut.ensures.value
    (let e = c.truncate.ensures.capacity in omega arith)

pub invariant_of-self : goal.invariant_of-self
invariant_of-self c = kept_taken c.self.inside.entries.entries c.args.self.now c.args.t
    c.index_mut.result.now c.truncate.new.self c.self.view_is c.index_mut.ensures.value
    c.self.invariant c.args.at c.truncate.ensures.rows
