use Rattle.std.proofs.Common.{ℕ, List, Option, sym, ap, ◌∙◌, ◌+◌, drop}
use Rattle.std.proofs.lemmas.List.{drop_all}
use Rattle.rel_algebra.specs.declared.scalar.Scalar.{Scalar as ScalarCode}
use Rattle.rel_algebra.specs.PlanView.{scalars_of}
use Rattle.rel_algebra.specs.Emit.{own_places}
use Rattle.plan_drafts.proofs.Own.{in_front, with_own, in_front-last, in_front-none, in_front-all}
use Rattle.plan_drafts.proofs.Own.{own_at}
use Rattle.plan_drafts.proofs.listing.own_places.Goals as goal

pub returns-in-None : goal.returns-in-None
returns-in-None c =
    let ss = c.args.scalars.now in
    let i = c.loop-scalar.scalar-index in
    let others = own_places (scalars_of (drop (i + 1) ss)) in
    sym (in_front-none c.loop-scalar.places) ∙
    ap (λ (o : Option ℕ). in_front c.loop-scalar.places (with_own o others)) c.in-None.ensures
    ∙ sym (own_at ss i c.scalar-item.result c.loop-scalar.places c.loop-scalar-test.true
    c.scalar-item.is) ∙ c.loop-scalar.invariant

pub loop-scalar-preserved : goal.loop-scalar-preserved
loop-scalar-preserved c =
    let ss = c.args.scalars.now in
    let i = c.loop-scalar.scalar-index in
    let others = own_places (scalars_of (drop (i + 1) ss)) in
    ap (λ (ps : List ℕ). in_front ps others) c.in_ok-push-in-Some.ensures.ok ∙
    in_front-last c.loop-scalar.places c.in-Some.place others
    ∙ ap (λ (o : Option ℕ). in_front c.loop-scalar.places (with_own o others)) c.in-Some.ensures
    ∙ sym (own_at ss i c.scalar-item.result c.loop-scalar.places c.loop-scalar-test.true
    c.scalar-item.is) ∙ c.loop-scalar.invariant

pub returns : goal.returns
returns c =
    let ss = c.args.scalars.now in
    sym (in_front-all c.loop-scalar.places)
    ∙ ap (λ (xs : List ScalarCode). in_front c.loop-scalar.places (own_places (scalars_of xs)))
    (sym (drop_all c.loop-scalar.scalar-index ss c.loop-scalar-test.false))
    ∙ c.loop-scalar.invariant
