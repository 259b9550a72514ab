-- IF, CASE and what handles what statements raise, part by part.
use Rattle.std.proofs.Common.{◌≡◌, ℕ, suc, ◌+◌, Bool, true, false, List, [], ◌∷◌, ◌++◌, map, length}
use Rattle.std.proofs.Common.{Option, if◌then◌else◌, refl, sym, ap, ◌∙◌}
use Rattle.bound_trees.specs.declared.statement.BoundBranch.{BoundBranch}
use Rattle.bound_trees.specs.declared.statement.BoundStmt.{BoundStmt}
use Rattle.rel_algebra.specs.Bodies as body
use Rattle.rel_algebra.specs.BodyChain.{Rest, and_on, case_not_found_cell, compared_with, emit}
use Rattle.rel_algebra.specs.BodyChain.{emit_all, emitted, raising_step, tested, with_column}
use Rattle.rel_algebra.specs.BodyDispatch.{Codes, Env, actions, count, handled, has_continue, joins}
use Rattle.rel_algebra.specs.BodySteps.{Step, col, fat, grow, jump, only, steps_tree}
use Rattle.rel_algebra.specs.Joins.{places}
use Rattle.rel_algebra.specs.Leaves.{ValueLeaf}
use Rattle.rel_algebra.specs.Plan.{no_node}
use Rattle.plan_expressions.specs.Drafts.{drafted}
use Rattle.plan_expressions.specs.declared.draft.Draft.{Draft}
use Rattle.plan_expressions.proofs.Laws.{length-map}
use Rattle.plan_bodies.specs.Blocks.{scope_steps}
use Rattle.plan_steps.specs.Places.{codes_in, codes_of, coded_in, env_in, scope_in, stmt_in}
use Rattle.plan_steps.specs.Places.{stmts_in, widths_in}
use Rattle.plan_steps.specs.Steps.{GoesOn, Puts}
use Rattle.plan_bodies.specs.Choices.{branch_steps, choice_by, otherwise_by}
use Rattle.plan_statements.specs.Statements.{operand_step}
use Rattle.plan_bodies.specs.Choices.{lacks}
use Rattle.plan_steps.specs.Steps.{taken}
use Rattle.plan_steps.specs.declared.dispatch.At.{At}
use Rattle.plan_steps.specs.declared.dispatch.Reached.{Reached}
use Rattle.plan_steps.specs.declared.dispatch.Spot.{Spot}
use Rattle.plan_steps.specs.declared.place.Place.{Place}
use Rattle.plan_steps.specs.declared.sight.Scope.{Scope}
use Rattle.plan_steps.specs.declared.sight.Sight.{Sight}
use Rattle.plan_statements.proofs.Single.{own_spot}
use Rattle.plan_steps.proofs.Stepping.{puts_after, puts_as}

-- ---- IF and CASE

pub tested_put : (p : Place) (at : At) (spot : Spot) (rest : Rest) (free : ℕ)
    (old mid new : Draft) → spot ≡ own_spot at → free ≡ at.next + count (codes_of p) →
    Puts old mid (rest (env_in p) spot.from spot.here spot.base free spot.columns) →
    Puts mid new (handled (codes_of p) (env_in p) at.here at.next free at.columns) →
    Puts old new (tested (codes_of p) rest (env_in p) at.here at.next at.columns)
tested_put p at spot rest free old mid new spot_is free_is h g =
    puts_after old mid new _ _
    (puts_as old mid (rest (env_in p) spot.from spot.here spot.base free spot.columns) _
    (λ j. rest (env_in p) (spot_is j).from (spot_is j).here (spot_is j).base (free_is j)
    (spot_is j).columns) h)
    (puts_as mid new (handled (codes_of p) (env_in p) at.here at.next free at.columns) _
    (ap (λ n. handled (codes_of p) (env_in p) at.here at.next n at.columns) free_is) g)

pub compared_put : (p : Place) (at : At) (spot inner : Spot) (e : ValueLeaf) (rest : ℕ → Rest)
    (start free : ℕ) (old d1 d2 d3 new : Draft) → spot ≡ own_spot at →
    inner ≡ record {
      from = start;
      here = at.here;
      base = at.next;
      columns = suc at.columns;
    } → start ≡ at.next + count (codes_of p) → free ≡ suc start →
    Puts old d1 (operand_step (emitted e (widths_in p) (env_in p) spot.columns) start spot p ∷ [])
    → Puts d1 d2 (rest at.columns (env_in p) inner.from inner.here inner.base free inner.columns)
    → Puts d2 d3 (fat no_node (places 0 at.columns) ∷ []) →
    Puts d3 new (handled (codes_of p) (env_in p) at.here at.next free at.columns) →
    Puts old new (compared_with e (widths_in p) (codes_of p) rest (env_in p) at.here at.next
    at.columns)
compared_put p at spot inner e rest start free old d1 d2 d3 new spot_is inner_is start_is free_is h1
    h2 h3 h4 =
    let begin = at.next + count (codes_of p) in
    let after : free ≡ suc begin = free_is ∙ ap suc start_is in
    let inside : inner ≡ record {
      from = begin;
      here = at.here;
      base = at.next;
      columns = suc at.columns;
    } = inner_is ∙ (λ j. record {
      from = start_is j;
      here = at.here;
      base = at.next;
      columns = suc at.columns;
    }) in
    puts_after old d1 new _ _
    (puts_as old d1 _ _ (λ j. operand_step (emitted e (widths_in p) (env_in p) (spot_is j).columns)
    (start_is j) (spot_is j) p ∷ []) h1)
    (puts_after d1 d2 new _ _
    (puts_as d1 d2 _ _ (λ j. rest at.columns (env_in p) (inside j).from (inside j).here
    (inside j).base (after j) (inside j).columns) h2)
    (puts_after d2 d3 new _ _ h3
    (puts_as d3 new _ _ (ap (λ n. handled (codes_of p) (env_in p) at.here at.next n at.columns)
    after) h4)))

pub choice_put : (o : Option ℕ) (bs : List BoundBranch) (ss : List BoundStmt) (w : Bool)
    (p : Place) (spot last : Spot) (free : ℕ) (r : Reached) (old mid new : Draft) →
    last ≡ record {
      from = r.from;
      here = spot.here;
      base = spot.base;
      columns = spot.columns;
    } →
    ((f : Rest) → GoesOn old mid (branch_steps o bs f p spot free)
    (f (env_in p) r.from spot.here spot.base r.free spot.columns)) →
    Puts mid new (otherwise_by w ss p (env_in p) last.from last.here last.base r.free last.columns)
    → Puts old new (choice_by o bs ss w p (env_in p) spot.from spot.here spot.base free
    spot.columns)
choice_put o bs ss w p spot last free r old mid new last_is goes h = record {
  tree = (puts_as mid new (otherwise_by w ss p (env_in p) last.from last.here last.base r.free
      last.columns) (otherwise_by w ss p (env_in p) r.from spot.here spot.base r.free spot.columns)
      (λ j. otherwise_by w ss p (env_in p) (last_is j).from (last_is j).here (last_is j).base
      r.free (last_is j).columns) h).tree ∙ (goes (otherwise_by w ss p)).tree;
}

-- CASE without ELSE
pub otherwise_raises : (w : Bool) (ss : List BoundStmt) (p : Place) (spot : Spot) (free : ℕ)
    (old new : Draft) → lacks w ss ≡ true →
    Puts old new (raising_step (codes_of p) (env_in p) spot.from spot.here spot.base spot.columns
    (with_column no_node case_not_found_cell) spot.columns ∷ []) →
    Puts old new (otherwise_by w ss p (env_in p) spot.from spot.here spot.base free spot.columns)
otherwise_raises false ss p spot free old new h puts = absurd (let never = h in cc)
otherwise_raises true [] p spot free old new h puts = puts
otherwise_raises true (s ∷ ss) p spot free old new h puts = absurd (let never = h in cc)

otherwise_runs : (w : Bool) (ss : List BoundStmt) (p : Place) → lacks w ss ≡ false →
    and_on (emit_all (stmts_in p.functions.now ss) (widths_in p) (codes_of p)) ≡ otherwise_by w ss p
otherwise_runs false ss p h = refl
otherwise_runs true [] p h = absurd (let never = h in cc)
otherwise_runs true (s ∷ ss) p h = refl

-- the statements of ELSE, and on where the statement ends
pub otherwise_put : (w : Bool) (ss : List BoundStmt) (p : Place) (spot : Spot) (free : ℕ)
    (old mid new : Draft) → lacks w ss ≡ false →
    Puts old mid (emit_all (stmts_in p.functions.now ss) (widths_in p) (codes_of p) (env_in p)
    spot.from free spot.columns) →
    Puts mid new (jump spot.from spot.here spot.columns ∷ []) →
    Puts old new (otherwise_by w ss p (env_in p) spot.from spot.here spot.base free spot.columns)
otherwise_put w ss p spot free old mid new h g e = puts_as old new _ _
    (ap (λ (r : Rest). r (env_in p) spot.from spot.here spot.base free spot.columns)
    (otherwise_runs w ss p h)) (puts_after old mid new _ _ g e)

-- ---- what handles what is raised

pub taken_put : (p : Place) (at : At) (free : ℕ) (old new : Draft) →
    free ≡ at.next + count (codes_of p) →
    Puts old new (handled (codes_of p) (env_in p) at.here at.next free at.columns) →
    Puts old new (taken (codes_of p) (env_in p) at)
taken_put p at free old new free_is h = puts_as old new _ _
    (ap (λ n. handled (codes_of p) (env_in p) at.here at.next n at.columns) free_is) h

pub handled_none : (codes : Codes) (env : Env) (here base free n : ℕ) (d : Draft) →
    false ≡ has_continue codes → Puts d d (handled codes env here base free n)
handled_none codes env here base free n d h = record {
  tree = ap (λ (b : Bool). steps_tree (if b then grow (only (col 2)) ∷ (actions codes env base free n
      ++ joins base (count codes) here (suc n) n ∷ []) else []) (drafted d).tree) h;
}

pub handled_put : (codes : Codes) (env : Env) (here base free n wide many : ℕ)
    (old d1 d2 new : Draft) → true ≡ has_continue codes → wide ≡ suc n → many ≡ count codes →
    Puts old d1 (grow (only (col 2)) ∷ []) → Puts d1 d2 (actions codes env base free n) →
    Puts d2 new (joins base many here wide n ∷ []) →
    Puts old new (handled codes env here base free n)
handled_put codes env here base free n wide many old d1 d2 new has wide_is many_is h1 h2 h3 =
    let steps : List Step = grow (only (col 2)) ∷ (actions codes env base free n ++
    joins base (count codes) here (suc n) n ∷ []) in
    puts_as old new steps _ (ap (λ (b : Bool). if b then steps else []) has)
    (puts_after old d1 new _ _ h1 (puts_after d1 d2 new _ _ h2
    (puts_as d2 new _ _ (λ j. joins base (many_is j) here (wide_is j) n ∷ []) h3)))

-- the actions of one compound statement, and those of the ones around it
pub actions_put : (p : Place) (s : Scope) (outer : Sight) (at : At) (first next free n : ℕ)
    (old mid new : Draft) → at ≡ record { here = first; next = free; columns = n } →
    next ≡ first + length s.handlers.now →
    Puts old mid (scope_steps false s outer at p) →
    Puts mid new (actions (codes_in p.functions.now outer) (env_in p) next free n) →
    Puts old new (actions (scope_in p.functions.now (codes_in p.functions.now outer) s
    ∷ codes_in p.functions.now outer) (env_in p) first free n)
actions_put p s outer at first next free n old mid new at_is next_is h g =
    let k = p.functions.now in
    let after : next ≡ first + length (map (coded_in k (codes_in k outer)) s.handlers.now) =
    next_is ∙ ap (λ m. first + m) (sym (length-map (coded_in k (codes_in k outer)) s.handlers.now))
    in
    puts_after old mid new _ _
    (puts_as old mid _ _ (λ j. scope_steps false s outer (at_is j) p) h)
    (puts_as mid new _ _ (ap (λ m. actions (codes_in k outer) (env_in p) m free n) after) g)

-- ---- a statement by another name

pub seen_put : (p : Place) (at : At) (x : BoundStmt) (s : body.Stmt) (old new : Draft) →
    s ≡ stmt_in p.functions.now x →
    Puts old new (emit s (widths_in p) (codes_of p) (env_in p) at.here at.next at.columns) →
    Puts old new (emit (stmt_in p.functions.now x) (widths_in p) (codes_of p) (env_in p) at.here
    at.next at.columns)
seen_put p at x s old new h puts = puts_as old new _ _
    (ap (λ (y : body.Stmt). emit y (widths_in p) (codes_of p) (env_in p) at.here at.next
    at.columns) h) puts
