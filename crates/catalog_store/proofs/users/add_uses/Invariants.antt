use Rattle.std.proofs.Common.{◌≡◌, ℕ, List, ◌||◌, ◌&&◌, take}
use Rattle.std.specs.Str.{bytes_eq}
use Rattle.catalog_store.specs.Using.{has_user, other_use}
use Rattle.catalog_store.proofs.users.add_uses.Given as goal

-- a user of the names so far
abbrev pub invariant-loop-used : goal.invariant-loop-used
invariant-loop-used l = (name other : List ℕ) → has_user name other l.users.entries ≡
    (has_user name other l.fn.users.entries || (bytes_eq l.user other &&
    other_use name l.user (take l.used-index l.uses)))
