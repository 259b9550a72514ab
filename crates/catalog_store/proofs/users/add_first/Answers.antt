use Rattle.std.proofs.Common.{[], Some, cond, true, ap, ◌∙◌, bytes_eq}
use Rattle.std.specs.List.{list_any}
use Rattle.std.specs.Map.{lookup}
use Rattle.catalog_store.proofs.Counting.{user_added, users_none}
use Rattle.catalog_store.proofs.users.add_first.Goals as goal

pub returns-clause-ok : goal.returns-clause-ok
returns-clause-ok c name other =
    user_added c.args.used.now c.args.user.now c.args.users.now.entries c.insert-2.new.self.entries
    [] c.insert.new.self
    (λ n. c.in_ok-insert-2.ensures.updates.0 n
    ∙ ap (λ k. cond (bytes_eq k n) (Some c.insert.new.self)
    (lookup (bytes_eq n) c.args.users.now.entries)) c.in_ok-copied.ensures)
    (users_none c.args.used.now c.args.users.now.entries c.requires) name other
    (λ q. c.in_ok-insert.ensures.ok q
    ∙ ap (λ old. cond (bytes_eq c.args.user.now q) true (list_any (bytes_eq q) old))
    c.new-set.ensures)
