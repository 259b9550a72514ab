use Rattle.std.proofs.Common.{◌≡◌, subst}
use Rattle.std.specs.Prelude.{IfOk}
use Rattle.rel_algebra.specs.Emit.{Env}
use Rattle.plan_expressions.specs.Scopes.{env_of}
use Rattle.kept_queries.proofs.Rows.{under_first}
use Rattle.kept_queries.proofs.sight.+sources_under.Goals as goal

pub returns-in_ok-around-in-len1-up : goal.returns-in_ok-around-in-len1-up
returns-in_ok-around-in-len1-up t c =
    subst (λ (e : Env). IfOk c.entered.result (λ s. env_of s ≡ e))
    (under_first c.args.rows.now c.args.variables _ c.in-len1-up.len_at_least
    c.in_ok-around-in-len1-up.ensures) c.entered.ensures
