-- The tables of the steps of a body, step by step, and of those of each statement.
use Rattle.std.proofs.Common.{ℕ, suc, ◌+◌, Bool, List, [], ◌∷◌, ◌++◌, length}
use Rattle.std.proofs.Common.{Option, None, Some}
use Rattle.sql_values.specs.declared.value.SqlType.{SqlType}
use Rattle.sql_values.specs.declared.value.Value.TheVariants.{Null}
use Rattle.rel_algebra.specs.Emissions.{Emitted, Folded, all_values, assigning, joined_nodes, width}
use Rattle.rel_algebra.specs.Joins.{places}
use Rattle.rel_algebra.specs.OnConditions.{state_item}
use Rattle.rel_algebra.specs.Plan.{Nodes, PlanTree, Scalar, Scalars, apply_by, constant, extend}
use Rattle.rel_algebra.specs.Plan.{extend_by, keep, more, no_node, none, on_each}
use Rattle.rel_algebra.specs.Bodies.{Branches, ConditionRead, MoreBranches, NoBranch, Perhaps}
use Rattle.rel_algebra.specs.Bodies.{Target, With}
use Rattle.rel_algebra.specs.BodyChain.{Rest, again, and_on, assigned_as, assigns_if}
use Rattle.rel_algebra.specs.BodyChain.{branching, column_at, compared_with, compounded}
use Rattle.rel_algebra.specs.BodyChain.{condition_cells, declared, emit_again, emit_all}
use Rattle.rel_algebra.specs.BodyChain.{emit_branches, emit_condition_items, emit_matching}
use Rattle.rel_algebra.specs.BodyChain.{emit_return, emit_set, emit_signal, emitted, ending}
use Rattle.rel_algebra.specs.BodyChain.{ending_env, ending_width, equal_to, inside, into_by}
use Rattle.rel_algebra.specs.BodyChain.{item_cell, perhaps_emitted, push, target_stores, tested}
use Rattle.rel_algebra.specs.BodyChain.{whole_raise, with_column, with_columns, with_variables}
use Rattle.rel_algebra.specs.BodyCompounds.{scopes_in}
use Rattle.rel_algebra.specs.BodyDispatch.{Coded, Codes, Emit, Env, action_env, count, handled}
use Rattle.rel_algebra.specs.BodyDispatch.{joins, judging, raising_to, scope_actions, store_if}
use Rattle.rel_algebra.specs.BodyDispatch.{whatever}
use Rattle.rel_algebra.specs.BodyMeaning.{condition_targets}
use Rattle.rel_algebra.specs.BodySteps.{Step, Store, asked_at, case_of, col, fat, grow, guarded}
use Rattle.rel_algebra.specs.BodySteps.{jump, steps_tree, tag}
use Rattle.rel_algebra.specs.Leaves.{ValueLeaf, Widths}
use Rattle.scanned_tables.proofs.Alike.{acting}
use Rattle.scanned_tables.proofs.Reading.{AskedRead, NodesRead, Reads, each, left}

-- each table that a step reads is as wide by R
abbrev pub StepRead : (List ℕ → ℕ) → Step → Type 0
StepRead R (grow ss) = Unit {0}
StepRead R (fat nodes is) = NodesRead nodes R

-- each that steps read
abbrev pub StepsRead : (List ℕ → ℕ) → List Step → Type 0
StepsRead R [] = Unit {0}
StepsRead R (s ∷ ss) = StepRead R s × StepsRead R ss

-- each that is read from some code on
abbrev pub EmitRead : (List ℕ → ℕ) → Emit → Env → ℕ → Type 0
EmitRead R body env n = (here : ℕ) × ((next : ℕ) × StepsRead R (body env here next n))

-- the same of what follows tests
abbrev pub RestRead : (List ℕ → ℕ) → Rest → Env → ℕ → ℕ → ℕ → Type 0
RestRead R rest env here base n = (from : ℕ) × ((free : ℕ)
    × StepsRead R (rest env from here base free n))

-- each that tests and their statements read
abbrev pub BranchesRead : (List ℕ → ℕ) → Branches → Widths → Codes → Env → ℕ → Type 0
BranchesRead R NoBranch S cs env n = Unit {0}
BranchesRead R (MoreBranches e body others) S cs env n = NodesRead (emitted e S env n).nodes R
    × EmitRead R (emit_all body S cs) env n × BranchesRead R others S cs env n

module _ (R : List ℕ → ℕ) where
  -- ---- runs

  -- steps over a plan, and that plan
  pub steps_read : (ss : List Step) (p : PlanTree) → Reads (steps_tree ss p) R →
      StepsRead R ss × Reads p R
  steps_read [] p h = (tt, h)
  steps_read (grow ss ∷ rest) p h = let both = steps_read rest (extend ss p) h in
      ((tt, both.0), both.1)
  steps_read (fat nodes is ∷ rest) p h =
      let both = steps_read rest (keep is (on_each nodes p)) h in
      let own = each R nodes p both.1 in
      ((own.0, both.0), own.1)

  -- the first of some steps
  pub first_steps : (a b : List Step) → StepsRead R (a ++ b) → StepsRead R a
  first_steps [] b h = tt
  first_steps (s ∷ a) b h = (h.0, first_steps a b h.1)

  -- the last of them
  pub last_steps : (a b : List Step) → StepsRead R (a ++ b) → StepsRead R b
  last_steps [] b h = h
  last_steps (s ∷ a) b h = last_steps a b h.1

  -- ---- one step

  -- nodes whose inner plans are asked at one code alone
  asked_read : (at : ℕ) (a : Nodes) → NodesRead (asked_at at a) R → NodesRead a R
  asked_read at no_node h = tt
  asked_read at (extend_by ss rest) h = asked_read at rest h
  asked_read at (apply_by when kind way inner rest) h = (h.0, asked_read at rest h.1)

  -- nodes, and stores
  acts_read : (at : ℕ) (pre : Nodes) (stores : List Store) →
      NodesRead (joined_nodes (asked_at at pre) (extend_by (guarded at stores) no_node)) R →
      NodesRead pre R
  acts_read at pre stores h =
      asked_read at pre (left R (asked_at at pre) (extend_by (guarded at stores) no_node) h)

  -- nodes, one column more, and stores
  column_read : (at : ℕ) (a : Nodes) (s : Scalar) (stores : List Store) →
      NodesRead (joined_nodes (asked_at at (with_column a s))
      (extend_by (guarded at stores) no_node)) R →
      NodesRead a R
  column_read at a s stores h =
      left R a (extend_by (more s none) no_node) (acts_read at (with_column a s) stores h)

  -- ---- statements of one step

  -- SET
  pub set_read : (t : Target) (e : ValueLeaf) (S : Widths) (cs : Codes) (env : Env)
      (here next n : ℕ) → StepsRead R (emit_set t e S cs env here next n) →
      NodesRead (emitted e S env n).nodes R
  set_read t e S cs env here next n h =
      let a = emitted e S env n in let p = width a.nodes n in
      column_read here a.nodes (assigning t.data_type a.scalar)
      (judging (tag here) cs env next here p (store_if p p (column_at n env.columns t.slot) ∷ []))
      h.0

  -- RETURN
  pub return_read : (e : ValueLeaf) (S : Widths) (cs : Codes) (env : Env) (here next n : ℕ) →
      StepsRead R (emit_return e S cs env here next n) → NodesRead (emitted e S env n).nodes R
  return_read e S cs env here next n h =
      let a = emitted e S env n in let p = width a.nodes n in
      column_read here a.nodes a.scalar
      (judging (tag 0) cs env next here p (store_if p p 1 ∷ [])) h.0

  -- a SELECT INTO, whose query is folded or not
  pub into_read : (f : Option Folded) (inner : PlanTree) (targets : List Target) (cs : Codes)
      (env : Env) (here next n : ℕ) →
      StepsRead R (into_by f inner targets cs env here next n) → AskedRead R f inner
  into_read None inner targets cs env here next n h = h.0.0
  into_read (Some a) inner targets cs env here next n h =
      let k = length targets in let c = a.list n in
      let p = width c.nodes (n + length a.aggregates) in let t = (p + k) + k in
      let last : Nodes = extend_by c.scalars
      (with_columns no_node (assigns_if (n ∷ places p k) targets p) (places (p + k) k)) in
      let stores : List Store =
      judging (tag here) cs env next here t (target_stores targets env n t (p + k)) in (
        h.0.0,
        (n, left R c.nodes last (acts_read here (joined_nodes c.nodes last) stores h.0.1)),
      )

  -- SIGNAL
  pub signal_read : (state : List ℕ) (text : Perhaps) (S : Widths) (cs : Codes) (env : Env)
      (here next n : ℕ) → StepsRead R (emit_signal state text S cs env here next n) →
      NodesRead (perhaps_emitted text S env n).nodes R
  signal_read state text S cs env here next n h =
      let a = perhaps_emitted text S env n in
      column_read here a.nodes (push state a.scalar (constant Null))
      (raising_to cs env next here (width a.nodes n)) h.0

  -- a RESIGNAL in an action
  pub again_read : (c : ℕ) (state : Option (List ℕ)) (text : Perhaps) (S : Widths) (cs : Codes)
      (env : Env) (here next n : ℕ) →
      StepsRead R (emit_again (Some c) state text S cs env here next n) →
      NodesRead (perhaps_emitted text S env n).nodes R
  again_read c state text S cs env here next n h =
      let a = perhaps_emitted text S env n in
      column_read here a.nodes (again state text a.scalar c)
      (raising_to cs env next here (width a.nodes n)) h.0

  -- a GET CONDITION in an action
  pub items_read : (c : ℕ) (number : ValueLeaf) (reads : List ConditionRead) (S : Widths)
      (cs : Codes) (env : Env) (here next n : ℕ) →
      StepsRead R (emit_condition_items (Some c) number reads S cs env here next n) →
      NodesRead (emitted number S env n).nodes R
  items_read c number reads S cs env here next n h =
      let a = emitted number S env n in let i = width a.nodes n in let k = suc (length reads) in
      let cells : Scalars = more (item_cell state_item i c) (condition_cells reads i c) in
      let stores : List Store = judging (tag here) cs env next here (suc i + k)
      (target_stores (condition_targets reads) env n (suc i + k) (suc (suc i))) in
      left R a.nodes (extend_by (more a.scalar none) no_node)
      (left R (with_column a.nodes a.scalar)
      (extend_by cells (extend_by (more (all_values (places (suc i) k)) none) no_node))
      (acts_read here (with_columns (with_column a.nodes a.scalar) cells (places (suc i) k)) stores
      h.0))

  -- a default
  pub default_read : (e : ValueLeaf) (k : ℕ) (t : SqlType) (S : Widths) (cs : Codes) (env : Env)
      (from here base n : ℕ) → StepRead R (declared (With e) k t S cs env from here base n) →
      NodesRead (emitted e S env n).nodes R
  default_read e k t S cs env from here base n h =
      let a = emitted e S env n in let p = width a.nodes n in
      column_read from a.nodes (assigned_as t a.scalar)
      (judging (tag from) cs env base here p []) h

  -- ---- tests

  -- a test, what it chooses, and what follows
  branching_read : (test : Env → ℕ → Emitted) (cs : Codes) (body : Emit) (rest : Rest) (env : Env)
      (from here base free n : ℕ) →
      StepsRead R (branching test cs body rest env from here base free n) →
      NodesRead (test env n).nodes R × EmitRead R body env n
      × StepsRead R (rest env (suc free) here base (suc (suc free)) n)
  branching_read test cs body rest env from here base free n h =
      let a = test env n in let p = width a.nodes n in
      let own = body env free (suc (suc free)) n in
      let more_steps : List Step =
      jump free here n ∷ rest env (suc free) here base (suc (suc free)) n in (
        column_read from a.nodes a.scalar
            (judging (case_of (col p) (tag free) (tag (suc free))) cs env base here p []) h.0,
        (free, (suc (suc free), first_steps own more_steps h.1)),
        (last_steps own more_steps h.1).1,
      )

  -- tests, and what follows them
  pub branches_parts : (bs : Branches) (S : Widths) (cs : Codes) (rest : Rest) (env : Env)
      (from here base free n : ℕ) →
      StepsRead R (emit_branches bs S cs rest env from here base free n) →
      BranchesRead R bs S cs env n × RestRead R rest env here base n
  branches_parts NoBranch S cs rest env from here base free n h = (tt, (from, (free, h)))
  branches_parts (MoreBranches e body others) S cs rest env from here base free n h =
      let parts = branching_read (emitted e S) cs (emit_all body S cs)
      (emit_branches others S cs rest) env from here base free n h in
      let later = branches_parts others S cs rest env (suc free) here base (suc (suc free)) n
      parts.2 in
      ((parts.0, parts.1, later.0), later.1)

  -- what an operand is compared with, and what follows
  pub matching_parts : (bs : Branches) (x : ℕ) (S : Widths) (cs : Codes) (rest : Rest) (env : Env)
      (from here base free n : ℕ) →
      StepsRead R (emit_matching bs x S cs rest env from here base free n) →
      BranchesRead R bs S cs env n × RestRead R rest env here base n
  matching_parts NoBranch x S cs rest env from here base free n h = (tt, (from, (free, h)))
  matching_parts (MoreBranches e body others) x S cs rest env from here base free n h =
      let parts = branching_read (λ at m. equal_to x (emitted e S at m)) cs (emit_all body S cs)
      (emit_matching others x S cs rest) env from here base free n h in
      let later = matching_parts others x S cs rest env (suc free) here base (suc (suc free)) n
      parts.2 in
      ((parts.0, parts.1, later.0), later.1)

  -- statements, and then on
  pub on_read : (body : Emit) (env : Env) (here base n : ℕ) →
      RestRead R (and_on body) env here base n → EmitRead R body env n
  on_read body env here base n h = (
    h.0,
    (h.1.0, first_steps (body env h.0 h.1.0 n) (jump h.0 here n ∷ []) h.1.1),
  )

  -- IF, and CASE with tests
  pub tested_read : (cs : Codes) (rest : Rest) (env : Env) (here next n : ℕ) →
      StepsRead R (tested cs rest env here next n) →
      StepsRead R (rest env here here next (next + count cs) n)
  tested_read cs rest env here next n h =
      let free = next + count cs in
      first_steps (rest env here here next free n) (handled cs env here next free n) h

  -- CASE with an operand
  pub compared_read : (e : ValueLeaf) (S : Widths) (cs : Codes) (rest : ℕ → Rest) (env : Env)
      (here next n : ℕ) → StepsRead R (compared_with e S cs rest env here next n) →
      NodesRead (emitted e S env n).nodes R
      × StepsRead R (rest n env (next + count cs) here next (suc (next + count cs)) (suc n))
  compared_read e S cs rest env here next n h =
      let a = emitted e S env n in let p = width a.nodes n in let start = next + count cs in
      let free = suc start in (
        column_read here a.nodes a.scalar (judging (tag start) cs env next here p []) h.0,
        first_steps (rest n env start here next free (suc n))
            (fat no_node (places 0 n) ∷ handled cs env here next free n) h.1,
      )

  -- ---- compound statements

  -- the actions at its end
  ending_read : (own : List Coded) (env : Env) (exit first free n : ℕ) →
      StepsRead R (ending own env exit first free n) →
      StepsRead R (scope_actions whatever own
      (action_env env env.level (length env.columns) n) first free (suc n))
  ending_read [] env exit first free n h = tt
  ending_read (c ∷ own) env exit first free n h = h.1.1

  -- what its declarations, its statements and its actions give
  pub compounded_read : {A B C : Type 0} (atomic whole : Bool) (cs : Codes) (declares : Rest)
      (k : ℕ) (own : List Coded) (body : Codes → Emit) (env : Env) (here next n : ℕ) →
      ((from base free : ℕ) → StepsRead R (declares env from here base free n) → A) →
      ((inner : Codes) (within : Env) (m : ℕ) →
      EmitRead R (body inner) (acting env.stacked within) m → B) →
      ((c : ℕ) (at : Env) (first free m : ℕ) →
      StepsRead R (scope_actions whatever own (acting (Some c) at) first free m) → C) →
      StepsRead R (compounded atomic whole cs declares k own body env here next n) → A × B × C
  compounded_read atomic whole cs declares k own body env here next n on_declares on_body on_end h =
      let sealing = next + count cs in let exit = suc sealing in let runs = suc exit in
      let first = suc runs in let free = first + length own in
      let m = n + k in let within = with_variables env n k in
      let inner : Codes = record {
        handlers = own;
        level = env.level;
        variables = length within.columns;
      } ∷ scopes_in atomic cs in
      let at = inside atomic own within here exit sealing in
      let last = ending_env atomic within here sealing in
      let own_steps = declares env runs here next free n in
      let body_steps = body inner at runs free m in
      let end_steps = ending own last exit first free m in
      let leaving : List Step = joins runs (suc (length own)) here (ending_width own m) n
      ∷ whole_raise whole atomic cs env sealing here next free n in
      let later = last_steps own_steps (body_steps ++ (end_steps ++ leaving)) h.1 in (
        on_declares runs next free (first_steps own_steps
            (body_steps ++ (end_steps ++ leaving)) h.1),
        on_body inner at m (runs, (free, first_steps body_steps (end_steps ++ leaving) later)),
        on_end m (action_env last last.level (length last.columns) m) first free (suc m)
            (ending_read own last exit first free m
            (first_steps end_steps leaving (last_steps body_steps (end_steps ++ leaving) later))),
      )
