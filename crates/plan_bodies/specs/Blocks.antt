-- The steps of compound statements, part by part.
use Rattle.std.specs.Prelude.{ℕ, suc, ◌+◌, Bool, true, false, ◌||◌, List, [], ◌∷◌, ◌++◌, map}
use Rattle.std.specs.Prelude.{length}
use Rattle.bound_trees.specs.declared.statement.BoundBlock.{BoundBlock, out-BoundBlock}
use Rattle.rel_algebra.specs.Bodies.{HandlerType}
use Rattle.rel_algebra.specs.BodyChain.{emit_all, emit_declares, ending, ending_env, ending_width}
use Rattle.rel_algebra.specs.BodyChain.{exits_in, has_default, variable_count, whole_raise}
use Rattle.rel_algebra.specs.BodyChain.{with_variables}
use Rattle.rel_algebra.specs.BodyCompounds.{scopes_in}
use Rattle.rel_algebra.specs.BodyDispatch.{Coded, Codes, Env, action_env, count, if_continue, joins}
use Rattle.rel_algebra.specs.BodyDispatch.{scope_actions, whatever}
use Rattle.rel_algebra.specs.BodySteps.{Step, jump}
use Rattle.block_plans.specs.Callees.{Callees, width_in}
use Rattle.plan_statements.specs.declared.compound.BlockCodes.{BlockCodes}
use Rattle.plan_steps.specs.Places.{coded_in, codes_in, codes_of, env_in, stmts_in, variables_in}
use Rattle.plan_steps.specs.Places.{widths_in}
use Rattle.plan_steps.specs.declared.dispatch.At.{At}
use Rattle.plan_steps.specs.declared.place.Place.{Place}
use Rattle.plan_steps.specs.declared.sight.Scope.{Scope}
use Rattle.plan_steps.specs.declared.sight.Sight.{Sight}

-- a statement that isn't in form: a compound statement of nothing
abbrev pub nothing_steps : Codes → At → List Step
nothing_steps codes at =
    let runs = suc (suc (at.next + count codes)) in
    jump at.here runs at.columns ∷ joins runs 1 at.here at.columns at.columns ∷ []

-- ---- actions

-- of all handlers, or of those that CONTINUE
abbrev pub picked_by : Bool → HandlerType → List Step → List Step
picked_by true = whatever
picked_by false = if_continue

-- the actions of the handlers of a compound statement, with the area after the columns
abbrev pub scope_steps : Bool → Scope → Sight → At → Place → List Step
scope_steps all s outer at place =
    let k = place.functions.now in
    scope_actions (picked_by all) (map (coded_in k (codes_in k outer)) s.handlers.now)
    (action_env (env_in place) s.level s.variables at.columns) at.here at.next (suc at.columns)

-- ---- the parts of a compound statement

-- the handlers of its own, by those outside of it
abbrev pub own_in : Callees → Codes → BoundBlock → List Coded
own_in k outer b = map (coded_in k outer) (out-BoundBlock b).handlers

-- its statements, by the handlers outside of it and the environment at its end
abbrev pub body_by : Callees → Codes → Env → BoundBlock → BlockCodes → ℕ → List Step
body_by k outer env b codes n =
    let own = own_in k outer b in
    emit_all (stmts_in k (out-BoundBlock b).statements) (width_in k) (record {
      handlers = own;
      level = env.level;
      variables = length env.columns;
    } ∷ outer) (record {
      columns = env.columns;
      labels = env.labels;
      exits = exits_in own env.exits env.level codes.exit;
      out = env.out;
      stacked = env.stacked;
      level = suc env.level;
    }) codes.runs codes.free n

-- the same at the place at its end
abbrev pub body_steps : BoundBlock → BlockCodes → ℕ → Place → List Step
body_steps b codes n place = body_by place.functions.now (codes_of place) (env_in place) b codes n

-- its actions at its end
abbrev pub ending_by : Callees → Codes → Env → BoundBlock → BlockCodes → ℕ → List Step
ending_by k outer env b codes n = ending (own_in k outer b) env codes.exit codes.first codes.free n

-- the same at the place there
abbrev pub ending_steps : BoundBlock → BlockCodes → ℕ → Place → List Step
ending_steps b codes n place = ending_by place.functions.now (codes_of place) (env_in place) b codes n

-- its statements and its actions, once its variables are declared
abbrev pub declared_by : Callees → BoundBlock → BlockCodes → Codes → Env → ℕ → ℕ → List Step
declared_by k b codes sight env here n =
    let x = out-BoundBlock b in let outer = scopes_in x.atomic sight in
    let last = ending_env x.atomic env here codes.sealing in
    body_by k outer last b codes n ++ ending_by k outer last b codes n

-- the same at a place
abbrev pub declared_steps : BoundBlock → BlockCodes → ℕ → ℕ → Place → List Step
declared_steps b codes here n place = declared_by place.functions.now b codes (codes_of place)
    (env_in place) here n

-- its declarations, its statements and its actions
abbrev pub inside_steps : BoundBlock → BlockCodes → At → Place → List Step
inside_steps b codes at place =
    let k = place.functions.now in let vs = variables_in k (out-BoundBlock b).variables in
    emit_declares vs (widths_in place) (codes_of place) (env_in place) codes.runs at.here at.next
    codes.free at.columns
    ++ declared_by k b codes (codes_of place)
    (with_variables (env_in place) at.columns (variable_count vs)) at.here
    (at.columns + variable_count vs)

-- after these on where it ends
abbrev pub end_step : Callees → Codes → BoundBlock → BlockCodes → At → Step
end_step k outer b codes at =
    let x = out-BoundBlock b in let own = own_in k outer b in
    joins codes.runs (suc (length own)) at.here
    (ending_width own (at.columns + variable_count (variables_in k x.variables))) at.columns

-- what it raises as a whole, and what handles it
abbrev pub whole_steps : BoundBlock → BlockCodes → At → Place → List Step
whole_steps b codes at place =
    let x = out-BoundBlock b in
    whole_raise (x.atomic || has_default (variables_in place.functions.now x.variables)) x.atomic
    (codes_of place) (env_in place) codes.sealing at.here at.next codes.free at.columns
