use Rattle.std.proofs.Common.{◌≡◌, ℕ, List, ◌&&◌, not, take}
use Rattle.std.specs.List.{list_any}
use Rattle.std.specs.Str.{bytes_eq}
use Rattle.catalog_store.specs.Using.{has_user}
use Rattle.catalog_store.proofs.users.remove_uses.Given as goal

-- no user of the names so far
abbrev pub invariant-loop-used : goal.invariant-loop-used
invariant-loop-used l = (name other : List ℕ) → has_user name other l.users.entries ≡
    (has_user name other l.fn.users.entries && not (bytes_eq l.user other &&
    list_any (λ used. bytes_eq used name) (take l.used-index l.uses)))
