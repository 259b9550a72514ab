use Rattle.std.proofs.Common.{sym, ap, ◌∙◌, subst, [], ◌∷◌, ◌++◌}
use Rattle.bind_sight.specs.Index.{with_name, Indexes}
use Rattle.bind_sight.proofs.Index.{indexes_more}
use Rattle.bind_sight.proofs.name_list.NameList.push.Goals as goal

pub invariant_of-self-in-Ok : goal.invariant_of-self-in-Ok
invariant_of-self-in-Ok c =
    let es = c.self.inside.index.entries in
    let names = c.self.inside.names in
    let place = c.len-place.result in
    subst (λ z. Indexes z c.push.new.self) (sym c.in-Ok.ensures.ok)
    (subst (λ z. Indexes (with_name es c.args.name place) z)
    (sym (c.in_ok-push.ensures.ok ∙ ap (λ y. names ++ y ∷ []) c.in_ok-copy.ensures))
    (indexes_more es names c.args.name place c.self.invariant c.len-place.ensures))
