use Rattle.std.proofs.Common.{false, cond, ap, ◌∙◌, bytes_eq}
use Rattle.std.specs.List.{list_any}
use Rattle.catalog_store.proofs.user_set.UserSet.remove.Goals as goal

pub returns : goal.returns
returns c other =
    c.swap_remove.ensures.updates.0 other
    ∙ ap (λ ks. cond (bytes_eq c.args.name.now other) false (list_any (bytes_eq other) ks))
    c.self.view_is
