use Rattle.std.proofs.Common.{true, cond, ap, ◌∙◌, bytes_eq}
use Rattle.std.specs.List.{list_any}
use Rattle.catalog_store.proofs.user_set.UserSet.insert.Goals as goal

pub returns-clause-ok : goal.returns-clause-ok
returns-clause-ok c other =
    c.in_ok-insert.ensures.updates.0 other
    ∙ ap (λ k. cond (bytes_eq k other) true (list_any (bytes_eq other) c.self.inside.names.keys))
    c.in_ok-copied.ensures
    ∙ ap (λ ks. cond (bytes_eq c.args.name.now other) true (list_any (bytes_eq other) ks))
    c.self.view_is
