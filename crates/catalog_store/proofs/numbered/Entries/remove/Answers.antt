use Rattle.std.proofs.Common.{refl, sym}
use Rattle.catalog_store.proofs.Noting.{less_held, never, none_less, none_went, went}
use Rattle.catalog_store.proofs.numbered.Entries.remove.Goals as goal

pub returns-in_default-clause-holds : goal.returns-in_default-clause-holds
returns-in_default-clause-holds c =
    none_went c.args.self.now _ c.args.name.now c.requires.holds (sym c.in_default.ensures.value)
    refl refl c.in_default.ensures.unchanged refl

pub returns-in_default-clause-entries : goal.returns-in_default-clause-entries
returns-in_default-clause-entries c =
    none_less c.args.self.now c.args.name.now c.requires.holds (sym c.in_default.ensures.value)

pub returns-in_default-remove-clause-holds : goal.returns-in_default-remove-clause-holds
returns-in_default-remove-clause-holds c =
    absurd (never c.args.self.now c.args.name.now c.in-Some.number c.requires.holds
    (sym c.in-Some.ensures.value) (sym c.in_default-remove.ensures.value))

pub returns-in_default-remove-clause-entries : goal.returns-in_default-remove-clause-entries
returns-in_default-remove-clause-entries c =
    absurd (never c.args.self.now c.args.name.now c.in-Some.number c.requires.holds
    (sym c.in-Some.ensures.value) (sym c.in_default-remove.ensures.value))

pub returns-clause-holds : goal.returns-clause-holds
returns-clause-holds c =
    went c.args.self.now _ c.args.name.now c.in-Some.number c.in-Some-remove.entry
    c.uses_of.result.now c.remove_uses.new.users.entries c.requires.holds c.requires.unused
    (sym c.in-Some.ensures.value) (sym c.in-Some-remove.ensures.value) c.uses_of.ensures
    c.in-Some-remove.ensures.entries c.in-Some-remove.ensures.ordered refl
    c.in-Some.ensures.updates.0 c.remove_uses.ensures c.swap_remove-2.ensures.updates.0

pub returns-clause-entries : goal.returns-clause-entries
returns-clause-entries c =
    less_held c.args.self.now c.remove.new.self.entries c.args.name.now c.in-Some.number
    c.requires.holds (sym c.in-Some.ensures.value) c.in-Some-remove.ensures.entries
