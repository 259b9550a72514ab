use Rattle.std.proofs.Common.{◌<◌, ◌-◌, length, Some, ap, sym, ◌∙◌, arith}
use Rattle.std.proofs.lemmas.Option.{slice_get-get_or}
use Rattle.run_outcomes.proofs.Choices.{inner_chosen, outer_chosen}
use Rattle.run_outcomes.proofs.choice.choose.Goals as goal

pub returns-in-Some-clause-best : goal.returns-in-Some-clause-best
returns-in-Some-clause-best c acts =
    sym (c.loop-outer.invariant.best acts)
    ∙ inner_chosen acts c.args.state.now c.args.scopes.now c.loop-outer.outer
    c.index-scopes-outer.result c.in-Some.handler.now c.loop-outer-test.true
    c.loop-outer.invariant.within c.index-scopes-outer.is c.in-Some.ensures.best

pub returns-in-Some-clause-stands : goal.returns-in-Some-clause-stands
returns-in-Some-clause-stands c =
    let below : c.loop-outer.outer - 1 < length c.args.scopes.now =
    omega (arith, c.loop-outer.invariant.within, c.loop-outer-test.true)
    in (
      slice_get-get_or c.args.scopes.now (c.loop-outer.outer - 1) c.index-scopes-outer.result below
          ∙ ap Some (sym c.index-scopes-outer.is),
      c.in-Some.ensures.stands,
    )

pub loop-outer-preserved : goal.loop-outer-preserved
loop-outer-preserved c = record {
  within = omega (arith, c.loop-outer.invariant.within);
  best = λ acts.
      sym (outer_chosen acts c.args.state.now c.args.scopes.now c.loop-outer.outer
      c.index-scopes-outer.result c.loop-outer-test.true c.loop-outer.invariant.within
      c.index-scopes-outer.is c.in_default.ensures.best)
      ∙ c.loop-outer.invariant.best acts;
}
