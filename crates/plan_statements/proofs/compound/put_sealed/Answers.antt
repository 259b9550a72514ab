use Rattle.std.proofs.Common.{[], ◌∷◌, ap}
use Rattle.std.proofs.lemmas.Result.{on_ok_weaker}
use Rattle.rel_algebra.specs.BodySteps.{acts, store}
use Rattle.rel_algebra.specs.Plan.{Scalar, no_node}
use Rattle.plan_steps.proofs.Stepping.{puts_as}
use Rattle.plan_statements.proofs.compound.put_sealed.Goals as goal

pub returns : goal.returns
returns c =
    let n = c.args.spot.now.columns in
    on_ok_weaker c.go.result
    (puts_as c.args.draft.now c.go.new.draft _ _
    (ap (λ (s : Scalar). acts c.args.sealing no_node n (store 0 s ∷ []) n [] ∷ [])
    c.in_ok-target.ensures)) c.go.ensures
