use Rattle.std.proofs.Common.{◌≡◌, arith, subst, sym, set, get_or}
use Rattle.table_store.specs.Kept.{Kept, CanReplace}
use Rattle.table_store.proofs.Memory.{kept_is, tables_are, no_less_is}
use Rattle.table_store.proofs.WellKept.{kept_with}
use Rattle.table_store.proofs.tables.Tables.replace_at.Goals as goal

pub replace_at-requires : goal.replace_at-requires
replace_at-requires c = subst (λ (k : Kept). CanReplace k c.args.at c.args.row)
    (kept_is c.self.inside.entries.entries c.args.self.now c.args.t c.index_mut.result.now
    c.self.view_is c.index_mut.ensures.value) c.requires.can

pub returns-clause-row : goal.returns-clause-row
returns-clause-row c =
    subst (λ (k : Kept). c.replace_at.result ≡ get_or k.table.rows c.args.at c.replace_at.result)
    (sym (kept_is c.self.inside.entries.entries c.args.self.now c.args.t c.index_mut.result.now
    c.self.view_is c.index_mut.ensures.value)) c.replace_at.ensures.row

pub returns-clause-tables : goal.returns-clause-tables
returns-clause-tables c =
    tables_are (λ rows. set rows c.args.at c.args.row) c.self.inside.entries.entries c.args.self.now
    c.args.t c.index_mut.result.now c.replace_at.new.self c.self.view_is c.index_mut.ensures.value
    c.replace_at.ensures.rows

pub returns-clause-capacities : goal.returns-clause-capacities
returns-clause-capacities c = no_less_is c.self.inside.entries.entries c.args.self.now c.args.t
    c.index_mut.result.now c.replace_at.new.self c.self.view_is c.index_mut.ensures.value
    (omega arith)

pub invariant_of-self : goal.invariant_of-self
invariant_of-self c =
    kept_with c.self.inside.entries.entries c.args.self.now c.args.t c.index_mut.result.now
    c.replace_at.new.self c.self.view_is c.index_mut.ensures.value c.self.invariant
    (λ rows. set rows c.args.at c.args.row) c.replace_at.ensures.rows c.requires.can.kept
