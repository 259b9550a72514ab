use Rattle.std.proofs.Common.{◌≡◌, ◌∙◌}
use Rattle.rel_algebra.specs.BodyChain.{reading}
use Rattle.plan_expressions.specs.Scopes.{env_of, listed_env}
use Rattle.plan_expressions.proofs.Laws.{if_ok}
use Rattle.plan_steps.specs.Places.{env_in}
use Rattle.plan_steps.proofs.Listed.{listed_reading}
use Rattle.plan_steps.proofs.place.names.Goals as goal

pub returns : goal.returns
returns c =
    let p = c.args.place.now in
    if_ok c.listed.result (λ s. env_of s ≡ listed_env p.columns.now)
    (λ s. env_of s ≡ reading (env_in p)) c.listed.ensures (λ s h. h ∙ listed_reading p)
