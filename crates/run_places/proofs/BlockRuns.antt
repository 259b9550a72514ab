-- Compound statements while they are run.
use Rattle.std.proofs.Common.{◌≡◌, ℕ, ◌≤◌, Bool, true, false, [], ◌∷◌, ◌++◌, List, length, map}
use Rattle.std.proofs.Common.{Result, Ok, Err, Option, Some, None, refl, sym, ap, ◌∙◌, subst}
use Rattle.std.proofs.Common.{if◌then◌else◌, Bor, IfOk, ◌+◌, arith}
use Rattle.sql_texts.specs.declared.memory.NoMemory.{NoMemory}
use Rattle.sql_conditions.specs.Conditions.{Area}
use Rattle.row_types.specs.Tables.{Tables}
use Rattle.atomic_undo.proofs.Laws.{KeepsMarks-rolled_back, back_to-run}
use Rattle.bound_trees.specs.declared.condition.BoundHandlerType.{BoundHandlerType}
use Rattle.bound_trees.specs.declared.condition.BoundHandlerType.TheVariants.{Continue, Exit, Undo}
use Rattle.bound_trees.specs.declared.query.BoundQuery.{BoundQuery}
use Rattle.bound_trees.specs.declared.statement.BoundBlock.{BoundBlock, out-BoundBlock}
use Rattle.bound_trees.specs.declared.statement.BoundBlock.{roll-BoundBlock}
use Rattle.bound_trees.specs.declared.statement.BoundBranch.{BoundBranch}
use Rattle.bound_trees.specs.declared.statement.BoundHandler.{BoundHandler, out-BoundHandler}
use Rattle.bound_trees.specs.declared.statement.BoundStmt.{BoundStmt}
use Rattle.bound_trees.specs.declared.statement.BoundStmt.TheFolds.{map-BoundBlock}
use Rattle.bound_trees.specs.declared.statement.BoundStmt.TheFolds.{fold-roll-BoundBlock}
use Rattle.bound_trees.specs.declared.statement.BoundStmt.TheViews.{roll-out-BoundBlock}
use Rattle.rel_algebra.specs.Tree as tree
use Rattle.rel_algebra.specs.Tree.{Query}
use Rattle.rel_algebra.specs.States.{state_in}
use Rattle.rel_algebra.specs.World.{World, Frame, Ends, Gives, with_tables}
use Rattle.rel_algebra.specs.Doing.{Doing, End, Outcome, ends, first_of, left_by, settled}
use Rattle.rel_algebra.specs.Handlers.{Handling, Scopes, acting, best_here, failing}
use Rattle.rel_algebra.specs.Compounds.{declared_or, exit_by, exit_or, exited, exited_or, left}
use Rattle.rel_algebra.specs.Compounds.{left_or, raising_whole, scope_in, scopes_in, sealed}
use Rattle.rel_algebra.specs.Compounds.{sealed_or}
use Rattle.rel_algebra.specs.Meaning.{declare, does, does_all, handlings, in_action, inside_scopes}
use Rattle.routine_views.specs.Views.{Known, View, BranchView, HandlerView, stmt_view, block_view}
use Rattle.routine_views.specs.Views.{branch_view, handler_view, handler_type, block_in, query_in}
use Rattle.routine_views.specs.Views.{handlers, stmt_in, variables}
use Rattle.routine_views.specs.Routines.{routines_of}
use Rattle.run_expressions.specs.Content.{Content, IsBackAt, Stays, world_of}
use Rattle.run_expressions.specs.Units.{IsBackIf}
use Rattle.run_outcomes.specs.declared.choice.Scope.{Scope as HeldScope}
use Rattle.run_outcomes.specs.declared.outcome.Outcome.{Outcome as Held}
use Rattle.run_outcomes.specs.declared.outcome.Outcome.TheVariants as held
use Rattle.run_outcomes.specs.Outcomes.{outcome_of}
use Rattle.run_outcomes.specs.Scopes.{handling_by, scopes_by}
use Rattle.run_outcomes.proofs.Laws.{scopes_by-append}
use Rattle.run_places.specs.declared.place.Place.{Place}
use Rattle.run_places.specs.Acting.{acts_of, IsWithin, undoes_by}
use Rattle.run_places.specs.Blocks.{IsSince, body_by, handlers_at, handlings_by, statements_by}
use Rattle.run_places.specs.Cost.{handlers_cost, stmts_cost}
use Rattle.run_places.specs.Places.{known_of, self_of, again_of, context_of, queries_of, at_level}
use Rattle.run_places.specs.Places.{queries_in, scopes_of, handler_in, handlers_costs, own_cost}
use Rattle.run_places.specs.Places.{handlers_of, scopes_cost, self_cost}
use Rattle.run_places.specs.Ran.{Ran}
use Rattle.run_places.specs.Statements.{branch_in, stmts_in}
use Rattle.run_places.proofs.Acting.{handlings_are, scopes_of-by, scopes_are, context_by, known_by}
use Rattle.run_places.proofs.SeenStatements.{BlockLayer}
use Rattle.run_places.proofs.Taking.{same_end}
use Rattle.run_places.proofs.Underway.{ends_with}

-- ---- the tree

module _ (k : Known) where
  block_in-at : (x : BlockLayer) → block_in k (roll-BoundBlock x) ≡
      block_view k (map-BoundBlock BoundStmt BoundBlock BoundBranch BoundHandler View View
      BranchView HandlerView (stmt_in k) (block_in k) (branch_in k) (handler_in k) x)
  block_in-at x = fold-roll-BoundBlock View View BranchView HandlerView (stmt_view k)
      (block_view k) (branch_view k) handler_view x

  -- a compound statement by its parts
  pub block_in-parts : (b : BoundBlock) → block_in k b ≡ (λ (cursors : List Query).
      let now = cursors ++ map (query_in k) (out-BoundBlock b).cursors in
      tree.Compound (out-BoundBlock b).atomic (variables k (out-BoundBlock b).variables)
      (length (out-BoundBlock b).cursors) (handlers_at k b now)
      (stmts_in k (out-BoundBlock b).statements now))
  block_in-parts b = ap (block_in k) (sym (roll-out-BoundBlock b)) ∙
      block_in-at (out-BoundBlock b)

-- a compound statement, by what its declarations do
pub block_does : (place : Place) (block : BoundBlock) (f : Frame) (w : World) →
    does (block_in (known_of place) block (queries_of place)) (context_of place) f w ≡
    declared_or (out-BoundBlock block).atomic (scopes_of place) w.tables
    (declare (variables (known_of place) (out-BoundBlock block).variables) (context_of place).self
    f w) (statements_by place block w.tables) f
block_does place block f w =
    ap (λ (v : View). does (v (queries_of place)) (context_of place) f w)
    (block_in-parts (known_of place) block)

-- ---- back at the start

module _ (mark : ℕ) (start now new : Content) (since : IsSince mark start now)
    (back : IsBackAt mark now new) where
  back_there : IsBackAt (length start.book.entries) now new
  back_there = subst (λ (m : ℕ). IsBackAt m now new) since.at back

  -- back there, each mark from before it is kept
  pub stays_back : Stays start new
  stays_back = record {
    marks = KeepsMarks-rolled_back start.memory start.book now.memory now.book new.memory new.book
        since.stays.marks back_there.entries back_there.earlier;
    active = back_there.active ∙ since.stays.active;
    turns = subst (λ (n : ℕ). n ≤ start.turns) (sym back_there.turns) since.stays.turns;
  }

  -- and the tables are those of then
  pub world_back : with_tables (world_of now) start.memory.tables ≡ world_of new
  world_back =
      ap (λ (ts : Tables). record { tables = ts; turns = now.turns; active = now.active })
      (sym (back_there.tables
      ∙ back_to-run start.memory start.book now.memory now.book since.stays.marks))
      ∙ ap (λ (n : ℕ). record { tables = new.memory.tables; turns = n; active = now.active })
      (sym back_there.turns)
      ∙ ap (λ (n : ℕ). record { tables = new.memory.tables; turns = new.turns; active = n })
      (sym back_there.active)

-- what raises as a whole, once it is back
pub whole_raised : (atomic : Bool) (mark : ℕ) (start now mid new : Content) (scopes : Scopes)
    (area : Area) (f g : Frame) (r : Result Held NoMemory) → IsSince mark start now →
    IsBackIf atomic mark now mid → Ran mid new g r (failing scopes area f (world_of mid)) →
    Ran start new g r (raising_whole atomic scopes start.memory.tables area f (world_of now))
whole_raised true mark start now mid new scopes area f g r since back d =
    ends_with start mid new (failing scopes area f (world_of mid))
    (raising_whole true scopes start.memory.tables area f (world_of now))
    (failing scopes area f (world_of mid)) g r (record {
      same = ap (failing scopes area f) (sym (world_back mark start now mid since back));
      stays = stays_back mark start now mid since back;
    }) refl d
whole_raised false mark start now mid new scopes area f g r since same d =
    ends_with start mid new (failing scopes area f (world_of mid))
    (raising_whole false scopes start.memory.tables area f (world_of now))
    (failing scopes area f (world_of mid)) g r (record {
      same = ap (λ (m : Content). failing scopes area f (world_of m)) same;
      stays = subst (λ (m : Content). Stays start m) (sym same) since.stays;
    }) refl d

-- a handler acts at the end, once what an UNDO handler takes back is
pub exit_acts : (t : BoundHandlerType) (mark : ℕ) (start now mid new : Content) (action : Doing)
    (f g : Frame) (r : Result Held NoMemory) → IsSince mark start now →
    IsBackIf (undoes_by t) mark now mid → Ran mid new g r (action f (world_of mid)) →
    Ran start new g r (exit_by (handler_type t) start.memory.tables action f (world_of now))
exit_acts Undo mark start now mid new action f g r since back d =
    ends_with start mid new (action f (world_of mid))
    (exit_by (handler_type Undo) start.memory.tables action f (world_of now))
    (action f (world_of mid)) g r (record {
      same = ap (action f) (sym (world_back mark start now mid since back));
      stays = stays_back mark start now mid since back;
    }) refl d
exit_acts Exit mark start now mid new action f g r since same d =
    ends_with start mid new (action f (world_of mid))
    (exit_by (handler_type Exit) start.memory.tables action f (world_of now))
    (action f (world_of mid)) g r (record {
      same = ap (λ (m : Content). action f (world_of m)) same;
      stays = subst (λ (m : Content). Stays start m) (sym same) since.stays;
    }) refl d
exit_acts Continue mark start now mid new action f g r since same d =
    ends_with start mid new (action f (world_of mid))
    (exit_by (handler_type Continue) start.memory.tables action f (world_of now))
    (action f (world_of mid)) g r (record {
      same = ap (λ (m : Content). action f (world_of m)) same;
      stays = subst (λ (m : Content). Stays start m) (sym same) since.stays;
    }) refl d

-- the handlers at the end, where one takes what is raised
pub exit_taken : (place : Place) (outer : List HeldScope) (own : HeldScope) (area : Area)
    (h : BoundHandler) (mark : ℕ) (start now mid new : Content) (f g : Frame)
    (r : Result Held NoMemory) → IsSince mark start now →
    best_here (state_in area) (handlings_by place outer own) ≡
    Some (handling_by (acts_of place (scopes_by (acts_of place) outer) own) h) →
    IsBackIf (undoes_by (out-BoundHandler h).handler_type) mark now mid →
    Ran mid new g r (settled (acts_of place (scopes_by (acts_of place) outer) own h area f
    (world_of mid))) →
    Ran start new g r (exit_or (best_here (state_in area) (handlings_by place outer own)) own.level
    area start.memory.tables f (world_of now))
exit_taken place outer own area h mark start now mid new f g r since best_is back d =
    let action = handling_by (acts_of place (scopes_by (acts_of place) outer) own) h in
    same_end start new g r
    (exit_or (Some action) own.level area start.memory.tables f (world_of now))
    (exit_or (best_here (state_in area) (handlings_by place outer own)) own.level area
    start.memory.tables f (world_of now))
    (ap (λ (o : Option Handling). exit_or o own.level area start.memory.tables f (world_of now))
    best_is)
    (exit_acts (out-BoundHandler h).handler_type mark start now mid new (acting action area) f g r
    since back d)

-- and where none does
pub exit_none : (place : Place) (outer : List HeldScope) (own : HeldScope) (area : Area)
    (mark : ℕ) (start now : Content) (f : Frame) → IsSince mark start now →
    best_here (state_in area) (handlings_by place outer own) ≡ None →
    Ran start now f (Ok (held.Exiting own.level area))
    (exit_or (best_here (state_in area) (handlings_by place outer own)) own.level area
    start.memory.tables f (world_of now))
exit_none place outer own area mark start now f since best_is = record {
  tells = ap (λ (x : Option Handling). exit_or x own.level area start.memory.tables f
      (world_of now)) best_is;
  stays = since.stays;
}

-- ---- what is seen inside

module _ (place inner : Place) (cursors : List (Bor BoundQuery)) (scopes : List HeldScope)
    (is : IsWithin place cursors scopes inner) (ss : List BoundStmt) where
  -- what the statements of a compound statement do where they are run
  pub within_does : does_all (stmts_in (known_of inner) ss (queries_of inner)) (context_of inner) ≡
      does_all (stmts_in (known_of place) ss (queries_in (known_of place) cursors))
      (inside_scopes (scopes_by (acts_of place) scopes) (context_of place))
  within_does =
      (λ i. does_all (stmts_in (known_by (is.catalog i) (is.own i)) ss
      (queries_in (known_by (is.catalog i) (is.own i)) (is.cursors i)))
      (context_by (is.catalog i) (is.own i) (is.scopes i) (is.level i) (is.stacked i)))
      ∙ (λ i. does_all (stmts_in (known_of place) ss (queries_in (known_of place) cursors))
      (inside_scopes (scopes_are (known_of place) (self_of place) (again_of place) scopes [] i)
      (context_of place)))

  -- and what they count there
  pub within_cost : stmts_cost (stmts_in (known_of inner) ss (queries_of inner)) +
      scopes_cost inner + self_cost inner ≡
      stmts_cost (stmts_in (known_of place) ss (queries_in (known_of place) cursors)) +
      handlers_costs (known_of place) scopes + self_cost place
  within_cost = (λ i. stmts_cost (stmts_in (known_by (is.catalog i) (is.own i)) ss
      (queries_in (known_by (is.catalog i) (is.own i)) (is.cursors i))) +
      handlers_costs (known_by (is.catalog i) (is.own i)) (is.scopes i) +
      own_cost (routines_of (is.catalog i)) (is.own i))

-- the compound statements that are seen outside of one
outer_scopes : (place : Place) (b : Bool) → scopes_in b (scopes_of place) ≡
    scopes_by (acts_of place) (if b then [] else place.scopes.now)
outer_scopes place true = refl
outer_scopes place false = scopes_of-by place

module _ (place : Place) (block : BoundBlock) (cursors : List (Bor BoundQuery))
    (ss : List BoundStmt) (outer inside : List HeldScope) (own : HeldScope) (start : Tables)
    (f : Frame) (w : World) where
  -- the end, by the handlers at it and the scopes inside
  abbrev end_by : ℕ → List Handling → List BoundStmt → List (Bor BoundQuery) → Scopes → End
  end_by level hs stmts queries inner =
      left place.level (exited level hs start
      (does_all (stmts_in (known_of place) stmts (queries_in (known_of place) queries))
      (inside_scopes inner (context_of place)) f w))

  -- by the scopes outside
  abbrev end_in : Scopes → End
  end_in o =
      let hs = handlings (handlers_at (known_of place) block (queries_in (known_of place) cursors))
      (context_of place) o in
      end_by place.level hs (out-BoundBlock block).statements cursors
      (scope_in place.level hs f ∷ o)

  -- what the handlers do, by those in code
  own_handlings : own.handlers.now ≡ (out-BoundBlock block).handlers → own.queries.now ≡ cursors →
      own.level ≡ place.level →
      handlings (handlers_at (known_of place) block (queries_in (known_of place) cursors))
      (context_of place) (scopes_by (acts_of place) outer) ≡ handlings_by place outer own
  own_handlings handlers_are queries_are level_is =
      handlings_are (known_of place) (queries_in (known_of place) cursors) (context_of place)
      (scopes_by (acts_of place) outer) (out-BoundBlock block).handlers
      ∙ (λ i. map (handling_by (λ h area.
      does ((handler_in (known_of place) h).action
      (queries_in (known_of place) (sym queries_are i)))
      (in_action (scopes_by (acts_of place) outer) area
      (at_level (self_of place) (again_of place) (sym level_is i))))) (sym handlers_are i))

  -- the statements of a compound statement, by what is run
  pub scoped_does : outer ≡ (if (out-BoundBlock block).atomic then [] else place.scopes.now) →
      inside ≡ outer ++ own ∷ [] → ss ≡ (out-BoundBlock block).statements →
      own.handlers.now ≡ (out-BoundBlock block).handlers → own.queries.now ≡ cursors →
      own.level ≡ place.level → own.variables ≡ length f.variables →
      own.cursors ≡ length f.cursors →
      body_by place block (queries_in (known_of place) cursors) start f w ≡
      end_by own.level (handlings_by place outer own) ss own.queries.now
      (scopes_by (acts_of place) inside)
  scoped_does outer_is inside_is ss_is handlers_are queries_are level_is variables_are
      cursors_are =
      ap end_in (outer_scopes place (out-BoundBlock block).atomic
      ∙ ap (scopes_by (acts_of place)) (sym outer_is))
      ∙ (λ i. end_by place.level (own_handlings handlers_are queries_are level_is i)
      (out-BoundBlock block).statements cursors
      (scope_in place.level (own_handlings handlers_are queries_are level_is i) f ∷
      scopes_by (acts_of place) outer))
      ∙ (λ i. end_by (sym level_is i) (handlings_by place outer own) (sym ss_is i)
      (sym queries_are i) (record {
        handlings = handlings_by place outer own;
        level = sym level_is i;
        variables = sym variables_are i;
        cursors = sym cursors_are i;
      } ∷ scopes_by (acts_of place) outer))
      ∙ ap (end_by own.level (handlings_by place outer own) ss own.queries.now)
      (sym (scopes_by-append (acts_of place) outer own)
      ∙ ap (scopes_by (acts_of place)) (sym inside_is))

-- ---- the end of the statements

-- the statements end, and then the handlers at their end
pub closed_end : (level at : ℕ) (hs : List Handling) (start now mid new : Content) (f g h : Frame)
    (body : Doing) (o p : Held) (r : Result Held NoMemory) (mark : ℕ) →
    Ran now mid g (Ok o) (body f (world_of now)) →
    Ran start new h (Ok p) (exited_or at hs start.memory.tables (outcome_of o) g (world_of mid)) →
    IfOk r (λ q. outcome_of q ≡ left_or level (outcome_of p)) →
    Ran start new h r (left level (exited at hs start.memory.tables (body f (world_of now))))
closed_end level at hs start now mid new f g h body o p (Err e) mark d closed q =
    record { tells = tt; stays = closed.stays }
closed_end level at hs start now mid new f g h body o p (Ok x) mark d closed q = record {
  tells = ap (λ (e : End). left level (exited at hs start.memory.tables e)) d.tells
      ∙ ap (left level) closed.tells
      ∙ ap (λ (y : Outcome). ends y h (world_of new)) (sym q);
  stays = closed.stays;
}

-- ---- the whole

-- the declarations are made, and the rest ends; what was declared leaves
pub block_ends : (atomic : Bool) (scopes : Scopes) (start now mid new : Content)
    (f g h i j : Frame) (declared : Ends Frame) (statements : Doing) (o : Held)
    (r : Result Held NoMemory) → declared ≡ Gives g (world_of now) →
    Ran start mid h (Ok o) (statements g (world_of now)) →
    i ≡ first_of (length f.variables) (length f.cursors) h →
    Ran start new j r (sealed_or atomic scopes start.memory.tables (outcome_of o) i
    (world_of mid)) →
    Ran start new j r (declared_or atomic scopes start.memory.tables declared statements f)
block_ends atomic scopes start now mid new f g h i j declared statements o r made_is d cut closed =
    same_end start new j r
    (sealed_or atomic scopes start.memory.tables (outcome_of o) i (world_of mid))
    (declared_or atomic scopes start.memory.tables declared statements f)
    (ap (λ (e : Ends Frame). declared_or atomic scopes start.memory.tables e statements f) made_is
    ∙ ap (λ (e : End). sealed atomic scopes start.memory.tables (left_by f e)) d.tells
    ∙ ap (λ (x : Frame). sealed_or atomic scopes start.memory.tables (outcome_of o) x
    (world_of mid)) (sym cut))
    closed

-- ---- costs

-- one compound statement more
pub costs_append : (k : Known) (ss : List HeldScope) (s : HeldScope) →
    handlers_costs k (ss ++ s ∷ []) ≡ handlers_costs k ss + handlers_cost (handlers_of k s)
costs_append k [] s = omega arith
costs_append k (t ∷ ss) s = omega (arith, costs_append k ss s)

-- what is seen outside counts at most as much as all
outer_cost : (place : Place) (b : Bool) →
    handlers_costs (known_of place) (if b then [] else place.scopes.now) ≤ scopes_cost place
outer_cost place true = omega arith
outer_cost place false = omega arith

-- what is run counts no more than the compound statement
pub scoped_cost : (place : Place) (block : BoundBlock) (cursors : List (Bor BoundQuery))
    (ss : List BoundStmt) (outer inside : List HeldScope) (own : HeldScope) →
    outer ≡ (if (out-BoundBlock block).atomic then [] else place.scopes.now) →
    inside ≡ outer ++ own ∷ [] → ss ≡ (out-BoundBlock block).statements →
    own.handlers.now ≡ (out-BoundBlock block).handlers → own.queries.now ≡ cursors →
    stmts_cost (stmts_in (known_of place) ss (queries_in (known_of place) own.queries.now)) +
    handlers_costs (known_of place) inside ≤
    handlers_cost (handlers_at (known_of place) block (queries_in (known_of place) cursors)) +
    stmts_cost (stmts_in (known_of place) (out-BoundBlock block).statements
    (queries_in (known_of place) cursors)) + scopes_cost place
scoped_cost place block cursors ss outer inside own outer_is inside_is ss_is handlers_are
    queries_are =
    let k = known_of place in
    omega (
      arith,
      ap (handlers_costs k) inside_is,
      costs_append k outer own,
      ap (handlers_costs k) outer_is,
      outer_cost place (out-BoundBlock block).atomic,
      ap (λ (xs : List BoundStmt).
          stmts_cost (stmts_in k xs (queries_in k own.queries.now))) ss_is,
      ap (λ (qs : List (Bor BoundQuery)). stmts_cost (stmts_in k
          (out-BoundBlock block).statements (queries_in k qs))) queries_are,
      ap (λ (hs : List BoundHandler). handlers_cost (handlers (map (handler_in k) hs)
          (queries_in k own.queries.now))) handlers_are,
      ap (λ (qs : List (Bor BoundQuery)).
          handlers_cost (handlers_at k block (queries_in k qs))) queries_are,
    )
