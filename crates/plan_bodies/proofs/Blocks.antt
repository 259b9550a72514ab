-- Compound statements, part by part.
use Rattle.std.proofs.Common.{◌≡◌, ℕ, suc, ◌+◌, ◌<◌, ◌≤◌, Bool, true, false, ◌||◌, List, [], ◌∷◌}
use Rattle.std.proofs.Common.{◌++◌, map, length, drop, get_or, refl, sym, ap, ◌∙◌, arith}
use Rattle.std.proofs.Common.{append_assoc, if◌then◌else◌}
use Rattle.std.proofs.lemmas.List.{drop_all}
use Rattle.bound_trees.specs.declared.statement.BoundBlock.{BoundBlock, out-BoundBlock}
use Rattle.bound_trees.specs.declared.statement.BoundHandler.{BoundHandler, out-BoundHandler}
use Rattle.bound_trees.specs.declared.statement.BoundStmt.{BoundStmt}
use Rattle.rel_algebra.specs.Bodies as body
use Rattle.rel_algebra.specs.Bodies.{Continue, Exit, Undo, HandlerType}
use Rattle.rel_algebra.specs.BodyChain.{compounded, emit, emit_all, emit_declares, ending}
use Rattle.rel_algebra.specs.BodyChain.{ending_env, ending_width, exits_in, has_default, set_at}
use Rattle.rel_algebra.specs.BodyChain.{sealed_step, variable_count, whole_raise, with_variables}
use Rattle.rel_algebra.specs.BodyCompounds.{scopes_in}
use Rattle.rel_algebra.specs.BodyDispatch.{Coded, CodedScope, Codes, Env, action_env, count}
use Rattle.rel_algebra.specs.BodyDispatch.{handled, is_continue, joins, scope_actions, whatever}
use Rattle.rel_algebra.specs.BodySteps.{Step, col, grow, jump, only, steps_tree}
use Rattle.rel_algebra.specs.Joins.{places}
use Rattle.rel_algebra.specs.Leaves.{Widths}
use Rattle.regions.specs.TreeBodies.{stmt_body}
use Rattle.region_trees.specs.Regions as region
use Rattle.block_plans.specs.Callees.{Callees, width_in}
use Rattle.routine_views.specs.Views.{handler_type}
use Rattle.plan_expressions.specs.Drafts.{drafted}
use Rattle.plan_expressions.specs.declared.draft.Draft.{Draft}
use Rattle.plan_expressions.proofs.Laws.{length-map, rest}
use Rattle.plan_bodies.specs.Blocks.{body_by, body_steps, declared_by, declared_steps}
use Rattle.plan_statements.specs.Codes.{codes_for}
use Rattle.plan_bodies.specs.Blocks.{end_step, ending_by, ending_steps}
use Rattle.plan_statements.specs.Codes.{ending_test}
use Rattle.plan_bodies.specs.Blocks.{inside_steps, nothing_steps, own_in}
use Rattle.plan_statements.specs.Codes.{own_if}
use Rattle.plan_bodies.specs.Blocks.{picked_by, scope_steps, whole_steps}
use Rattle.plan_bodies.specs.Cost.{actions_cost, cost}
use Rattle.plan_steps.specs.Places.{block_in, codes_in, codes_of, coded_in, env_in, stmt_in, marked}
use Rattle.plan_steps.specs.Places.{scope_in, stmts_in, variables_in, widths_in}
use Rattle.plan_steps.specs.Steps.{Puts}
use Rattle.plan_statements.specs.declared.compound.BlockCodes.{BlockCodes}
use Rattle.plan_steps.specs.declared.dispatch.At.{At}
use Rattle.plan_steps.specs.declared.dispatch.Spot.{Spot}
use Rattle.plan_steps.specs.declared.place.Marks.{Marks}
use Rattle.plan_steps.specs.declared.place.Place.{Place}
use Rattle.plan_steps.specs.declared.sight.Scope.{Scope}
use Rattle.plan_steps.specs.declared.sight.Sight.{Sight}
use Rattle.plan_steps.specs.declared.sight.Sight.TheVariants as sight
use Rattle.plan_bodies.proofs.Costs.{actions_rest}
use Rattle.plan_statements.proofs.Declaring.{seeing}
use Rattle.plan_statements.proofs.Single.{own_spot}
use Rattle.plan_steps.proofs.Stepping.{puts_after, puts_as, steps-append}
use Rattle.plan_steps.proofs.Trees.{block-parts, coded_all}

-- ---- a compound statement

-- the handlers outside of it that its own see
abbrev pub outer_in : Place → BoundBlock → Codes
outer_in p b = scopes_in (out-BoundBlock b).atomic (codes_of p)

-- its codes
abbrev pub codes_at : Place → At → BoundBlock → BlockCodes
codes_at p at b = codes_for (at.next + count (codes_of p))
    (length (own_in p.functions.now (outer_in p b) b))

-- all its steps, by these codes
abbrev pub all_steps : Place → At → BoundBlock → BlockCodes → List Step
all_steps p at b c = (jump at.here c.runs at.columns ∷ []) ++ (inside_steps b c at p
    ++ ((end_step p.functions.now (outer_in p b) b c at ∷ []) ++ whole_steps b c at p))

block_is : (p : Place) (at : At) (b : BoundBlock) →
    all_steps p at b (codes_at p at b) ≡ emit (block_in p.functions.now b) (widths_in p) (codes_of p)
    (env_in p) at.here at.next at.columns
block_is p at b =
    let k = p.functions.now in let x = out-BoundBlock b in let outer = outer_in p b in
    let c = codes_at p at b in let vs = variables_in k x.variables in
    let m = at.columns + variable_count vs in
    let within = with_variables (env_in p) at.columns (variable_count vs) in
    let last = ending_env x.atomic within at.here c.sealing in
    let declares = emit_declares vs (widths_in p) (codes_of p) (env_in p) c.runs at.here at.next
    c.free at.columns in
    let statements = body_by k outer last b c m in
    let actions = ending_by k outer last b c m in
    let others : List Step = end_step k outer b c at ∷ whole_steps b c at p in
    ap (λ (xs : List Step). jump at.here c.runs at.columns ∷ xs)
    (append_assoc declares (statements ++ actions) others ∙
    ap (λ (xs : List Step). declares ++ xs) (append_assoc statements actions others)) ∙
    sym (ap (λ (own : List Coded). compounded x.atomic (x.atomic || has_default vs) (codes_of p)
    (emit_declares vs (widths_in p) (codes_of p)) (variable_count vs) own
    (emit_all (stmts_in k x.statements) (widths_in p)) (env_in p) at.here at.next at.columns)
    (coded_all k x.handlers outer)) ∙
    sym (ap (λ (s : body.Stmt). emit s (widths_in p) (codes_of p) (env_in p) at.here at.next
    at.columns) (block-parts k b))

-- its codes, as they are counted
pub codes_are : (p : Place) (at : At) (b : BoundBlock) (c : BlockCodes) (sealing many : ℕ) →
    c ≡ codes_for sealing many → sealing ≡ at.next + count (codes_of p) →
    many ≡ length (out-BoundBlock b).handlers → c ≡ codes_at p at b
codes_are p at b c sealing many h g f =
    let all : many ≡ length (own_in p.functions.now (outer_in p b) b) = f ∙
    sym (length-map (coded_in p.functions.now (outer_in p b)) (out-BoundBlock b).handlers) in
    h ∙ (λ j. codes_for (g j) (all j))

pub block_put : (p : Place) (at : At) (b : BoundBlock) (c : BlockCodes) (old d1 d2 d3 new : Draft) →
    c ≡ codes_at p at b → Puts old d1 (jump at.here c.runs at.columns ∷ []) →
    Puts d1 d2 (inside_steps b c at p) →
    Puts d2 d3 (end_step p.functions.now (outer_in p b) b c at ∷ []) →
    Puts d3 new (whole_steps b c at p) →
    Puts old new (emit (block_in p.functions.now b) (widths_in p) (codes_of p) (env_in p) at.here
    at.next at.columns)
block_put p at b c old d1 d2 d3 new h e1 e2 e3 e4 =
    puts_as old new (all_steps p at b c) _ (ap (all_steps p at b) h ∙ block_is p at b)
    (puts_after old d1 new _ _ e1 (puts_after d1 d2 new _ _ e2 (puts_after d2 d3 new _ _ e3 e4)))

-- its declarations, and what follows them
pub inside_put : (p within : Place) (at : At) (b : BoundBlock) (c : BlockCodes) (wide : ℕ)
    (columns : List ℕ) (old d1 new : Draft) →
    columns ≡ p.columns.now ++ places at.columns (variable_count (variables_in p.functions.now
    (out-BoundBlock b).variables)) →
    wide ≡ at.columns + variable_count (variables_in p.functions.now (out-BoundBlock b).variables) →
    env_in within ≡ seeing p columns → within.sight.now ≡ p.sight.now →
    within.functions.now ≡ p.functions.now →
    Puts old d1 (emit_declares (variables_in p.functions.now (out-BoundBlock b).variables)
    (widths_in p) (codes_of p) (env_in p) c.runs at.here at.next c.free at.columns) →
    Puts d1 new (declared_steps b c at.here wide within) → Puts old new (inside_steps b c at p)
inside_put p within at b c wide columns old d1 new cols wide_is env sights cats e1 e2 =
    puts_after old d1 new _ _ e1 (puts_as d1 new (declared_steps b c at.here wide within) _
    ((λ j. declared_by (cats j) b c (codes_in (cats j) (sights j)) (env j) at.here (wide_is j)) ∙
    ap (λ (cs : List ℕ). declared_by p.functions.now b c (codes_of p) (seeing p cs) at.here
    (at.columns + variable_count (variables_in p.functions.now (out-BoundBlock b).variables))) cols)
    e2)

outside_is : (k : Callees) (atomic : Bool) (s nothing outer : Sight) → nothing ≡ sight.Nothing →
    outer ≡ (if atomic then nothing else s) → codes_in k outer ≡ scopes_in atomic (codes_in k s)
outside_is k true s none outer h g = ap (codes_in k) (g ∙ h)
outside_is k false s none outer h g = ap (codes_in k) g

-- its statements and its actions
pub declared_put : (p last : Place) (b : BoundBlock) (c : BlockCodes) (here n : ℕ)
    (nothing outer : Sight) (old d1 new : Draft) → nothing ≡ sight.Nothing →
    outer ≡ (if (out-BoundBlock b).atomic then nothing else p.sight.now) →
    env_in last ≡ ending_env (out-BoundBlock b).atomic (env_in p) here c.sealing →
    last.sight.now ≡ outer → last.functions.now ≡ p.functions.now →
    Puts old d1 (body_steps b c n last) → Puts d1 new (ending_steps b c n last) →
    Puts old new (declared_steps b c here n p)
declared_put p last b c here n nothing outer old d1 new none out env sights cats e1 e2 =
    let k = p.functions.now in let x = out-BoundBlock b in
    let seen : codes_of last ≡ scopes_in x.atomic (codes_of p) =
    (λ j. codes_in (cats j) (sights j)) ∙
    outside_is k x.atomic p.sight.now nothing outer none out in
    puts_after old d1 new _ _
    (puts_as old d1 (body_steps b c n last) _ (λ j. body_by (cats j) (seen j) (env j) b c n) e1)
    (puts_as d1 new (ending_steps b c n last) _ (λ j. ending_by (cats j) (seen j) (env j) b c n) e2)

-- ---- actions

pub pick_taken : (all : Bool) (kind : HandlerType) (steps : List Step) →
    (all || is_continue kind) ≡ true → picked_by all kind steps ≡ steps
pick_taken true kind steps h = refl
pick_taken false Continue steps h = refl
pick_taken false Exit steps h = absurd cc
pick_taken false Undo steps h = absurd cc

pub pick_left : (all : Bool) (kind : HandlerType) (steps : List Step) →
    (all || is_continue kind) ≡ false → picked_by all kind steps ≡ []
pick_left true kind steps h = absurd cc
pick_left false Continue steps h = absurd cc
pick_left false Exit steps h = refl
pick_left false Undo steps h = refl

-- the actions of handlers whose own codes begin at i
abbrev pub actions_from : Bool → Place → Scope → Sight → At → List BoundHandler → ℕ → List Step
actions_from all p s outer at hs i =
    let k = p.functions.now in
    scope_actions (picked_by all) (map (coded_in k (codes_in k outer)) hs)
    (action_env (env_in p) s.level s.variables at.columns) i at.next (suc at.columns)

-- of actions this much is done: those that are left go on from here
pub record Acting (all : Bool) (p : Place) (s : Scope) (outer : Sight) (at : At) (i own : ℕ)
    (start now : Draft) : Type 0 where
  pub going : steps_tree (actions_from all p s outer at (drop i s.handlers.now) own)
      (drafted now).tree ≡ steps_tree (scope_steps all s outer at p) (drafted start).tree
  pub small : actions_cost p.functions.now (drop i s.handlers.now)
      ≤ actions_cost p.functions.now s.handlers.now

pub acting_first : (all : Bool) (p : Place) (s : Scope) (outer : Sight) (at : At) (start : Draft) →
    Acting all p s outer at 0 at.here start start
acting_first all p s outer at start = record { going = refl; small = omega arith }

-- an action more, where it is put
pub acting_next : (all : Bool) (p inner : Place) (s : Scope) (outer : Sight) (at : At)
    (i own next wide : ℕ) (x : BoundHandler) (start old new : Draft) → i < length s.handlers.now →
    x ≡ get_or s.handlers.now i x → Acting all p s outer at i own start old →
    env_in inner ≡ action_env (env_in p) s.level s.variables at.columns →
    inner.sight.now ≡ outer → inner.functions.now ≡ p.functions.now → wide ≡ suc at.columns →
    Puts old new (picked_by all (handler_type (out-BoundHandler x).handler_type)
    (emit (stmt_in inner.functions.now (out-BoundHandler x).action) (widths_in inner)
    (codes_of inner) (env_in inner) own at.next wide)) → next ≡ suc own →
    Acting all p s outer at (i + 1) next start new
acting_next all p inner s outer at i own next wide x start old new h is a env sights cats wide_is
    puts next_is =
    let k = p.functions.now in let hs = drop (i + 1) s.handlers.now in
    let kind = handler_type (out-BoundHandler x).handler_type in
    let one = picked_by all kind (emit (stmt_in k (out-BoundHandler x).action) (width_in k)
    (codes_in k outer) (action_env (env_in p) s.level s.variables at.columns) own at.next
    (suc at.columns)) in
    let same : Puts old new one = puts_as old new _ one
    (λ j. picked_by all kind (emit (stmt_in (cats j) (out-BoundHandler x).action)
    (width_in (cats j)) (codes_in (cats j) (sights j)) (env j) own at.next (wide_is j))) puts in
    record {
      going = ap (λ n. steps_tree (actions_from all p s outer at hs n) (drafted new).tree) next_is ∙
          ap (steps_tree (actions_from all p s outer at hs (suc own))) same.tree ∙
          sym (steps-append one (actions_from all p s outer at hs (suc own)) (drafted old).tree) ∙
          ap (λ (ys : List BoundHandler). steps_tree (actions_from all p s outer at ys own)
          (drafted old).tree) (sym (rest s.handlers.now i x h is)) ∙ a.going;
      small = omega (arith, actions_rest k s.handlers.now i x h is, a.small);
    }

-- an action costs no more than all of them
pub action_small : (p : Place) (s : Scope) (all : Bool) (outer : Sight) (at : At) (i own : ℕ)
    (x : BoundHandler) (start now : Draft) → i < length s.handlers.now →
    x ≡ get_or s.handlers.now i x → Acting all p s outer at i own start now →
    cost (stmt_in p.functions.now (out-BoundHandler x).action)
    ≤ actions_cost p.functions.now s.handlers.now
action_small p s all outer at i own x start now h is a =
    omega (arith, actions_rest p.functions.now s.handlers.now i x h is, a.small)

pub acting_done : (all : Bool) (p : Place) (s : Scope) (outer : Sight) (at : At) (i own : ℕ)
    (start now : Draft) → length s.handlers.now ≤ i → Acting all p s outer at i own start now →
    Puts start now (scope_steps all s outer at p)
acting_done all p s outer at i own start now h a = record {
  tree = ap (λ (ys : List BoundHandler). steps_tree (actions_from all p s outer at ys own)
      (drafted now).tree) (sym (drop_all i s.handlers.now h)) ∙ a.going;
}

-- ---- a statement that isn't in form

pub nothing_is : (codes : Codes) (env : Env) (S : Widths) (at : At) → nothing_steps codes at ≡
    emit (stmt_body region.nothing) S codes env at.here at.next at.columns
nothing_is codes env S at =
    let runs = suc (suc (at.next + count codes)) in
    let same : at.columns ≡ at.columns + 0 = omega arith in
    ap (λ n. jump at.here runs at.columns ∷ joins runs 1 at.here n at.columns ∷ []) same

pub nothing_put : (p : Place) (at : At) (c : BlockCodes) (sealing : ℕ) (old mid new : Draft) →
    c ≡ codes_for sealing 0 → sealing ≡ at.next + count (codes_of p) →
    Puts old mid (jump at.here c.runs at.columns ∷ []) →
    Puts mid new (joins c.runs 1 at.here at.columns at.columns ∷ []) →
    Puts old new (nothing_steps (codes_of p) at)
nothing_put p at c sealing old mid new h g e f =
    let runs : c.runs ≡ suc (suc (at.next + count (codes_of p))) =
    ap (λ (x : BlockCodes). x.runs) h ∙ ap (λ n. suc (suc n)) g in
    puts_as old new _ _
    (λ j. jump at.here (runs j) at.columns ∷ joins (runs j) 1 at.here at.columns at.columns ∷ [])
    (puts_after old mid new _ _ e f)

-- ---- the end of a compound statement

pub no_handlers_wide : (k : Callees) (outer : Codes) (hs : List BoundHandler) (n : ℕ) → hs ≡ [] →
    n ≡ ending_width (map (coded_in k outer) hs) n
no_handlers_wide k outer hs n h =
    ap (λ (xs : List BoundHandler). ending_width (map (coded_in k outer) xs) n) (sym h)

pub handlers_wide : (k : Callees) (outer : Codes) (hs : List BoundHandler) (n m : ℕ) →
    ¬ (hs ≡ []) → m ≡ suc n → m ≡ ending_width (map (coded_in k outer) hs) n
handlers_wide k outer [] n m some h = absurd (some refl)
handlers_wide k outer (x ∷ hs) n m some h = h

pub end_put : (k : Callees) (outer : Codes) (b : BoundBlock) (c : BlockCodes) (at : At)
    (many columns wide : ℕ) (old new : Draft) → many ≡ suc (length (out-BoundBlock b).handlers) →
    columns ≡ at.columns + variable_count (variables_in k (out-BoundBlock b).variables) →
    wide ≡ ending_width (own_in k outer b) columns →
    Puts old new (joins c.runs many at.here wide at.columns ∷ []) →
    Puts old new (end_step k outer b c at ∷ [])
end_put k outer b c at many columns wide old new many_is columns_are wide_is puts =
    let all : many ≡ suc (length (own_in k outer b)) = many_is ∙
    ap suc (sym (length-map (coded_in k outer) (out-BoundBlock b).handlers)) in
    puts_as old new _ _
    (λ j. joins c.runs (all j) at.here ((wide_is ∙ ap (ending_width (own_in k outer b))
    columns_are) j) at.columns ∷ []) puts

-- ---- the statements and the actions of a compound statement

-- its statements, by the place among its handlers
pub statements_put : (p within : Place) (b : BoundBlock) (c : BlockCodes) (at : At) (n level : ℕ)
    (s : Scope) (statements : List BoundStmt) (old new : Draft) → level ≡ suc p.level →
    at ≡ record { here = c.runs; next = c.free; columns = n } →
    s.handlers.now ≡ (out-BoundBlock b).handlers → s.level ≡ p.level →
    s.variables ≡ length p.columns.now → statements ≡ (out-BoundBlock b).statements →
    codes_of within ≡ scope_in p.functions.now (codes_of p) s ∷ codes_of p →
    env_in within ≡ record {
      columns = p.columns.now;
      labels = (env_in p).labels;
      exits = exits_in (own_in p.functions.now (codes_of p) b) (env_in p).exits p.level c.exit;
      out = p.out;
      stacked = p.stacked;
      level = level;
    } → within.functions.now ≡ p.functions.now →
    Puts old new (emit_all (stmts_in within.functions.now statements) (widths_in within)
    (codes_of within) (env_in within) at.here at.next at.columns) →
    Puts old new (body_steps b c n p)
statements_put p within b c at n level s statements old new level_is at_is handlers_are own_level
    variables_are statements_are codes env cats puts =
    let k = p.functions.now in
    let scope : scope_in k (codes_of p) s ≡ record {
      handlers = own_in k (codes_of p) b;
      level = p.level;
      variables = length p.columns.now;
    } = (λ j. record {
      handlers = map (coded_in k (codes_of p)) (handlers_are j);
      level = own_level j;
      variables = variables_are j;
    }) in
    let inside = codes ∙ ap (λ (x : CodedScope). x ∷ codes_of p) scope in
    let around = env ∙ (λ j. record {
      columns = p.columns.now;
      labels = (env_in p).labels;
      exits = exits_in (own_in k (codes_of p) b) (env_in p).exits p.level c.exit;
      out = p.out;
      stacked = p.stacked;
      level = level_is j;
    }) in
    puts_as old new _ _
    (λ j. emit_all (stmts_in (cats j) (statements_are j)) (width_in (cats j)) (inside j)
    (around j) (at_is j).here (at_is j).next (at_is j).columns) puts

-- its actions at its end
pub ending_put : (p : Place) (b : BoundBlock) (c : BlockCodes) (at : At) (n exit : ℕ) (s : Scope)
    (hs : List BoundHandler) (old d1 d2 new : Draft) → ¬ ((out-BoundBlock b).handlers ≡ []) →
    exit ≡ (env_in p).exits p.level → hs ≡ (out-BoundBlock b).handlers →
    at ≡ record { here = c.first; next = c.free; columns = n } →
    s.handlers.now ≡ (out-BoundBlock b).handlers → s.level ≡ p.level →
    s.variables ≡ length p.columns.now →
    Puts old d1 (ending_test (map (coded_in p.functions.now (codes_of p)) hs) c exit n ∷ []) →
    Puts d1 d2 (grow (only (col 2)) ∷ []) → Puts d2 new (scope_steps true s p.sight.now at p) →
    Puts old new (ending_steps b c n p)
ending_put p b c at n exit s hs old d1 d2 new some exit_is hs_are at_is handlers_are own_level
    variables_are e1 e2 e3 =
    let k = p.functions.now in let x = out-BoundBlock b in
    let own = own_in k (codes_of p) b in
    let actions = scope_actions whatever own (action_env (env_in p) p.level
    (length p.columns.now) n) c.first c.free (suc n) in
    puts_as old new _ _
    (ending_some own (env_in p) c n (λ h. some (no_map (coded_in k (codes_of p)) x.handlers h)))
    (puts_after old d1 new _ _
    (puts_as old d1 _ _ (λ j. ending_test (map (coded_in k (codes_of p)) (hs_are j)) c
    (exit_is j) n ∷ []) e1)
    (puts_after d1 d2 new _ _ e2
    (puts_as d2 new _ actions (λ j. scope_actions whatever
    (map (coded_in k (codes_of p)) (handlers_are j))
    (action_env (env_in p) (own_level j) (variables_are j) (at_is j).columns) (at_is j).here
    (at_is j).next (suc (at_is j).columns)) e3)))
  where
    no_map : {A B : Type 0} (f : A → B) (xs : List A) → map f xs ≡ [] → xs ≡ []
    no_map f [] h = refl
    no_map f (y ∷ ys) h = absurd (let never = h in cc)

    ending_some : (own : List Coded) (env : Env) (c : BlockCodes) (n : ℕ) → ¬ (own ≡ []) →
        ending_test own c (env.exits env.level) n ∷ grow (only (col 2)) ∷ scope_actions whatever
        own (action_env env env.level (length env.columns) n) c.first c.free (suc n) ≡ ending own
        env c.exit c.first c.free n
    ending_some [] env c n some = absurd (some refl)
    ending_some (h ∷ hs) env c n some = refl

-- no handlers: nothing at its end
pub no_ending : (p : Place) (b : BoundBlock) (c : BlockCodes) (n : ℕ) (d : Draft) →
    (out-BoundBlock b).handlers ≡ [] → Puts d d (ending_steps b c n p)
no_ending p b c n d h = record {
  tree = ap (λ (hs : List BoundHandler). steps_tree (ending
      (map (coded_in p.functions.now (codes_of p)) hs) (env_in p) c.exit c.first c.free n)
      (drafted d).tree) (sym h);
}

-- the codes to which compound statements are left, among its statements
pub exits_are : (k : Callees) (outer : Codes) (hs : List BoundHandler) (own around : Marks)
    (level exit : ℕ) → marked own ≡ set_at (marked around) level exit →
    marked (own_if hs own around) ≡ exits_in (map (coded_in k outer) hs) (marked around) level exit
exits_are k outer [] own around level exit h = refl
exits_are k outer (x ∷ hs) own around level exit h = h

-- where nothing is raised as a whole, and where it is
pub whole_none : (p : Place) (at : At) (b : BoundBlock) (c : BlockCodes) (d : Draft) (given : Bool)
    → (out-BoundBlock b).atomic ≡ false →
    given ≡ has_default (variables_in p.functions.now (out-BoundBlock b).variables) →
    given ≡ false → Puts d d (whole_steps b c at p)
whole_none p at b c d given plain h not_given = record {
  tree = ap (λ (ss : List Step). steps_tree ss (drafted d).tree)
      (sym (λ j. whole_raise (plain j || (sym h ∙ not_given) j) (plain j) (codes_of p) (env_in p) c.sealing
      at.here at.next c.free at.columns));
}

pub whole_given : (p : Place) (at : At) (b : BoundBlock) (c : BlockCodes) (old new : Draft)
    (given : Bool) → (out-BoundBlock b).atomic ≡ false →
    given ≡ has_default (variables_in p.functions.now (out-BoundBlock b).variables) →
    given ≡ true → Puts old new (handled (codes_of p) (env_in p) at.here at.next c.free at.columns)
    → Puts old new (whole_steps b c at p)
whole_given p at b c old new given plain h is_given puts = puts_as old new _ _
    (sym (λ j. whole_raise (plain j || (sym h ∙ is_given) j) (plain j) (codes_of p) (env_in p)
    c.sealing at.here at.next c.free at.columns)) puts

pub whole_atomic : (p : Place) (at : At) (spot : Spot) (b : BoundBlock) (c : BlockCodes)
    (old mid new : Draft) → (out-BoundBlock b).atomic ≡ true → spot ≡ own_spot at →
    Puts old mid (sealed_step true (codes_of p) (env_in p) c.sealing spot.here spot.base
    spot.columns) →
    Puts mid new (handled (codes_of p) (env_in p) at.here at.next c.free at.columns) →
    Puts old new (whole_steps b c at p)
whole_atomic p at spot b c old mid new atomic spot_is h g = puts_as old new _ _
    (sym (λ j. whole_raise (atomic j || has_default (variables_in p.functions.now
    (out-BoundBlock b).variables)) (atomic j) (codes_of p) (env_in p) c.sealing at.here at.next
    c.free at.columns))
    (puts_after old mid new _ _
    (puts_as old mid _ _ (λ j. sealed_step true (codes_of p) (env_in p) c.sealing (spot_is j).here
    (spot_is j).base (spot_is j).columns) h) g)
