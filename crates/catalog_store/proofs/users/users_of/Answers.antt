use Rattle.std.proofs.Common.{length, ap, subst, sym, ◌∙◌, bytes_eq}
use Rattle.std.specs.List.{IsDistinct}
use Rattle.std.specs.Option.{option_copied}
use Rattle.catalog_store.proofs.Counting.{users_found, users_none}
use Rattle.catalog_store.proofs.Numbering.{none_cut}
use Rattle.catalog_store.proofs.users.users_of.Goals as goal

pub returns-in-Some-clause-value : goal.returns-in-Some-clause-value
returns-in-Some-clause-value c =
    c.len.ensures.value
    ∙ sym (ap length (users_found c.args.name.now c.args.users.now.entries c.in-Some.set.now
    (sym c.get.ensures.value ∙ ap option_copied c.in-Some.is)))

pub returns-in-Some-clause-distinct : goal.returns-in-Some-clause-distinct
returns-in-Some-clause-distinct c =
    subst (IsDistinct bytes_eq)
    (sym (users_found c.args.name.now c.args.users.now.entries c.in-Some.set.now
    (sym c.get.ensures.value ∙ ap option_copied c.in-Some.is))) c.len.ensures.distinct

pub returns-in-None-clause-value : goal.returns-in-None-clause-value
returns-in-None-clause-value c =
    sym (ap length (users_none c.args.name.now c.args.users.now.entries
    (sym c.get.ensures.value ∙ ap option_copied c.in-None.is)))

pub returns-in-None-clause-distinct : goal.returns-in-None-clause-distinct
returns-in-None-clause-distinct c =
    subst (IsDistinct bytes_eq)
    (sym (users_none c.args.name.now c.args.users.now.entries
    (sym c.get.ensures.value ∙ ap option_copied c.in-None.is))) none_cut
