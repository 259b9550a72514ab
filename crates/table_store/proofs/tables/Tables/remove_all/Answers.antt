use Rattle.std.proofs.Common.{◌≡◌, arith, subst, sym, length, IfOk}
use Rattle.std.proofs.lemmas.Result.{on_ok_weaker, on_err_weaker}
use Rattle.table_store.specs.Kept.{Kept}
use Rattle.table_store.specs.Places.{Climb, removed_all, all_placed_at}
use Rattle.table_store.proofs.Memory.{kept_is, tables_are, tables_stay, no_less_is}
use Rattle.table_store.proofs.WellKept.{kept_either}
use Rattle.table_store.proofs.tables.Tables.remove_all.Goals as goal

pub remove_all-requires : goal.remove_all-requires
remove_all-requires c =
    subst (λ (k : Kept). Climb 0 c.args.places.now (length k.table.rows))
    (kept_is c.self.inside.entries.entries c.args.self.now c.args.t c.index_mut.result.now
    c.self.view_is c.index_mut.ensures.value) c.requires.places

pub returns-clause-taken : goal.returns-clause-taken
returns-clause-taken c =
    subst (λ (k : Kept). IfOk c.remove_all.result
    (λ v. v.items ≡ all_placed_at c.args.places.now k.table.rows))
    (sym (kept_is c.self.inside.entries.entries c.args.self.now c.args.t c.index_mut.result.now
    c.self.view_is c.index_mut.ensures.value)) c.remove_all.ensures.taken

pub returns-clause-tables : goal.returns-clause-tables
returns-clause-tables c =
    on_ok_weaker c.remove_all.result
    (tables_are (λ rows. removed_all c.args.places.now rows) c.self.inside.entries.entries
    c.args.self.now c.args.t c.index_mut.result.now c.remove_all.new.self c.self.view_is
    c.index_mut.ensures.value)
    c.remove_all.ensures.rows

pub returns-clause-unchanged : goal.returns-clause-unchanged
returns-clause-unchanged c =
    on_err_weaker c.remove_all.result (tables_stay c.self.inside.entries.entries c.args.self.now
    c.args.t c.index_mut.result.now c.remove_all.new.self c.self.view_is
    c.index_mut.ensures.value) c.remove_all.ensures.unchanged

pub returns-clause-capacities : goal.returns-clause-capacities
returns-clause-capacities c =
    no_less_is c.self.inside.entries.entries c.args.self.now c.args.t c.index_mut.result.now
    c.remove_all.new.self c.self.view_is c.index_mut.ensures.value
    (let e = c.remove_all.ensures.capacity in omega arith)

pub invariant_of-self : goal.invariant_of-self
invariant_of-self c =
    kept_either c.self.inside.entries.entries c.args.self.now c.args.t c.index_mut.result.now
    c.remove_all.new.self c.self.view_is c.index_mut.ensures.value c.self.invariant
    c.remove_all.result c.args.places.now
    c.remove_all.ensures.rows c.remove_all.ensures.unchanged
