use Rattle.std.proofs.Common.{sym, bytes_eq}
use Rattle.std.specs.Map.{lookup}
use Rattle.catalog_store.proofs.Counting.{none_found, none_removed, set_at, set_found, user_removed}
use Rattle.catalog_store.proofs.Counting.{users_found}
use Rattle.catalog_store.proofs.users.remove_user.Goals as goal

pub returns-in_default : goal.returns-in_default
returns-in_default c =
    none_removed c.args.used.now c.args.user.now c.args.users.now.entries
    (none_found (lookup (bytes_eq c.args.used.now) c.args.users.now.entries)
    c.in_default.ensures.found)

pub returns : goal.returns
returns c name other =
    let used = c.args.used.now in
    let us = c.args.users.now.entries in
    let there = set_found (lookup (bytes_eq used) us) _ c.index_mut.result.now
    c.index_mut.ensures.value c.in-Some.ensures.value in
    user_removed used c.args.user.now us _ c.index_mut.result.now c.remove.new.self
    (set_at used us c.in-Some.at c.remove.new.self (sym c.in-Some.ensures.index))
    (users_found used us c.index_mut.result.now there) name other c.remove.ensures
