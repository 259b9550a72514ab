use Rattle.std.proofs.Common.{arith, subst, length}
use Rattle.table_store.specs.Kept.{Kept}
use Rattle.table_store.specs.Places.{Climb, removed_all}
use Rattle.table_store.proofs.Memory.{kept_is, tables_are, no_less_is}
use Rattle.table_store.proofs.WellKept.{kept_removed_all}
use Rattle.table_store.proofs.tables.Tables.drop_all.Goals as goal

pub drop_all-requires : goal.drop_all-requires
drop_all-requires c =
    subst (λ (k : Kept). Climb 0 c.args.places.now (length k.table.rows))
    (kept_is c.self.inside.entries.entries c.args.self.now c.args.t c.index_mut.result.now
    c.self.view_is c.index_mut.ensures.value) c.requires.places

pub returns-clause-tables : goal.returns-clause-tables
returns-clause-tables c =
    tables_are (λ rows. removed_all c.args.places.now rows) c.self.inside.entries.entries
    c.args.self.now c.args.t c.index_mut.result.now c.drop_all.new.self c.self.view_is
    c.index_mut.ensures.value
    c.drop_all.ensures.rows

pub returns-clause-capacities : goal.returns-clause-capacities
returns-clause-capacities c =
    no_less_is c.self.inside.entries.entries c.args.self.now c.args.t c.index_mut.result.now
    c.drop_all.new.self c.self.view_is c.index_mut.ensures.value
    (let e = c.drop_all.ensures.capacity in omega arith)

pub invariant_of-self : goal.invariant_of-self
invariant_of-self c =
    kept_removed_all c.self.inside.entries.entries c.args.self.now c.args.t c.index_mut.result.now
    c.drop_all.new.self c.self.view_is c.index_mut.ensures.value c.self.invariant
    c.args.places.now c.drop_all.ensures.rows
