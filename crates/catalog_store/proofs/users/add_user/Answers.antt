use Rattle.std.proofs.Common.{ap, sym, bytes_eq}
use Rattle.std.proofs.lemmas.Result.{on_err_weaker, on_ok_weaker}
use Rattle.std.specs.Map.{lookup}
use Rattle.catalog_store.specs.Using.{has_user}
use Rattle.catalog_store.proofs.Counting.{none_found, set_at, set_found, set_stays, user_added}
use Rattle.catalog_store.proofs.Counting.{users_found}
use Rattle.catalog_store.proofs.users.add_user.Goals as goal

pub add_first-requires : goal.add_first-requires
add_first-requires c =
    none_found (lookup (bytes_eq c.args.used.now) c.args.users.now.entries) c.in-None.ensures.found

pub returns-in-Some-clause-ok : goal.returns-in-Some-clause-ok
returns-in-Some-clause-ok c =
    let used = c.args.used.now in
    let us = c.args.users.now.entries in
    let there = set_found (lookup (bytes_eq used) us) _ c.index_mut.result.now
    c.index_mut.ensures.value c.in-Some.ensures.value in
    on_ok_weaker c.insert.result
    (λ h name other. user_added used c.args.user.now us _ c.index_mut.result.now c.insert.new.self
    (set_at used us c.in-Some.at c.insert.new.self (sym c.in-Some.ensures.index))
    (users_found used us c.index_mut.result.now there) name other h)
    c.insert.ensures.ok

pub returns-in-Some-clause-err : goal.returns-in-Some-clause-err
returns-in-Some-clause-err c =
    let used = c.args.used.now in
    let us = c.args.users.now.entries in
    let there = set_found (lookup (bytes_eq used) us) _ c.index_mut.result.now
    c.index_mut.ensures.value c.in-Some.ensures.value in
    on_err_weaker c.insert.result
    (λ h name other. set_stays used us c.in-Some.at c.index_mut.result.now c.insert.new.self
    (sym c.in-Some.ensures.index) there h name other)
    c.insert.ensures.err

pub returns-in-None-clause-err : goal.returns-in-None-clause-err
returns-in-None-clause-err c =
    on_err_weaker c.add_first.result (λ h name other. ap (has_user name other) h)
    c.add_first.ensures.err
