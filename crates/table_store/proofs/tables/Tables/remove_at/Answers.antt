use Rattle.std.proofs.Common.{◌≡◌, ◌<◌, arith, length, subst, sym, remove, get_or}
use Rattle.table_store.specs.Kept.{Kept}
use Rattle.table_store.proofs.Memory.{kept_is, tables_are, no_less_is}
use Rattle.table_store.proofs.WellKept.{kept_removed}
use Rattle.table_store.proofs.tables.Tables.remove_at.Goals as goal

pub remove_at-requires : goal.remove_at-requires
remove_at-requires c = subst (λ (k : Kept). c.args.at < length k.table.rows)
    (kept_is c.self.inside.entries.entries c.args.self.now c.args.t c.index_mut.result.now
    c.self.view_is c.index_mut.ensures.value) c.requires.place

pub returns-clause-row : goal.returns-clause-row
returns-clause-row c =
    subst (λ (k : Kept). c.remove_at.result ≡ get_or k.table.rows c.args.at c.remove_at.result)
    (sym (kept_is c.self.inside.entries.entries c.args.self.now c.args.t c.index_mut.result.now
    c.self.view_is c.index_mut.ensures.value)) c.remove_at.ensures.row

pub returns-clause-tables : goal.returns-clause-tables
returns-clause-tables c =
    tables_are (λ rows. remove rows c.args.at) c.self.inside.entries.entries c.args.self.now
    c.args.t c.index_mut.result.now c.remove_at.new.self c.self.view_is c.index_mut.ensures.value
    c.remove_at.ensures.rows

pub returns-clause-capacities : goal.returns-clause-capacities
returns-clause-capacities c = no_less_is c.self.inside.entries.entries c.args.self.now c.args.t
    c.index_mut.result.now c.remove_at.new.self c.self.view_is c.index_mut.ensures.value
    (omega arith)

pub invariant_of-self : goal.invariant_of-self
invariant_of-self c = kept_removed c.self.inside.entries.entries c.args.self.now c.args.t
    c.index_mut.result.now c.remove_at.new.self c.self.view_is c.index_mut.ensures.value
    c.self.invariant c.args.at c.remove_at.ensures.rows
