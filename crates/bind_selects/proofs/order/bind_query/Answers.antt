use Rattle.std.proofs.Common.{refl, sym, ap, ◌∙◌}
use Rattle.bind_sight.specs.Sight.{seen_by, over_catalog}
use Rattle.bind_queries.proofs.Laws.{bound_planned}
use Rattle.bind_selects.specs.declared.order.Asked.{Asked}
use Rattle.bind_selects.proofs.Typed.{bound-typed}
use Rattle.bind_selects.proofs.order.bind_query.Goals as goal

pub returns-in-None-clause-fits : goal.returns-in-None-clause-fits
returns-in-None-clause-fits c = λ new runs.
    bound_planned c.args.catalog.now c.args.query.now
    (over_catalog c.args.catalog.now (seen_by c.args.sight.now)) c.in_ok-bound.bound.query
    refl (ap (λ (a : Asked). a.query) c.in_ok-bound.ensures.value)
    (sym c.in_ok-bound.ensures.faults ∙ c.in-None.is) c.len-entries.ensures.planned new
    (sym (ap (λ (a : Asked). a.runs) c.in_ok-bound.ensures.value) ∙ runs)

pub returns-in-None-clause-typed : goal.returns-in-None-clause-typed
returns-in-None-clause-typed c =
    bound-typed c.args.query.now (over_catalog c.args.catalog.now (seen_by c.args.sight.now))
    c.in_ok-bound.bound.query (ap (λ (a : Asked). a.query) c.in_ok-bound.ensures.value)
    (sym c.in_ok-bound.ensures.faults ∙ c.in-None.is)
