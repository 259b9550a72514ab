use Rattle.std.proofs.Common.{Some, cond, ap, refl, ◌∙◌, bytes_eq}
use Rattle.std.specs.Map.{lookup}
use Rattle.catalog_store.proofs.Noting.{given_up, noted}
use Rattle.catalog_store.proofs.numbered.Entries.note.Goals as goal

pub returns-in-Ok-clause-ok : goal.returns-in-Ok-clause-ok
returns-in-Ok-clause-ok c =
    noted c.args.self.now _ c.args.name.now c.args.object.now c.uses_of-uses.result.now
    c.requires.holds c.requires.free refl c.in-Some.ensures.1 c.uses_of-uses.ensures
    (λ other. c.in_ok-insert.ensures.updates.0 other
    ∙ ap (λ k. cond (bytes_eq k other) (Some c.args.self.now.next)
    (lookup (bytes_eq other) c.args.self.now.numbers.entries)) c.in_ok-copied.ensures)
    c.in-Ok.ensures.ok

pub returns-in-Err-clause-err : goal.returns-in-Err-clause-err
returns-in-Err-clause-err c =
    given_up c.args.self.now _ c.add_uses.new.users.entries c.args.name.now c.args.object.now
    c.uses_of-uses.result.now c.insert.new.self.entries c.requires.holds c.requires.free refl refl
    c.uses_of-uses.ensures
    (λ other. c.in_ok-insert.ensures.updates.0 other
    ∙ ap (λ k. cond (bytes_eq k other) (Some c.args.self.now.next)
    (lookup (bytes_eq other) c.args.self.now.numbers.entries)) c.in_ok-copied.ensures)
    c.swap_remove.ensures.updates.0 c.in-Err.ensures.err c.remove_uses.ensures
