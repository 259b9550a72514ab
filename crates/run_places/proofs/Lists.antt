-- The statements of a list, and branches, while they are run.
use Rattle.std.proofs.Common.{ℕ, ◌≡◌, ◌<◌, ◌+◌, ◌≤◌, [], Bool, true, false, Option, Some, None}
use Rattle.std.proofs.Common.{Result, Ok, Err, List, length, drop, get_or, refl, sym, ap}
use Rattle.std.proofs.Common.{true≢false, subst, if◌then◌else◌}
use Rattle.std.proofs.lemmas.List.{drop_all}
use Rattle.sql_texts.specs.declared.memory.NoMemory.{NoMemory}
use Rattle.sql_values.specs.declared.value.Value.{Value}
use Rattle.bound_trees.specs.declared.statement.BoundBranch.{BoundBranch}
use Rattle.bound_trees.specs.declared.statement.BoundStmt.{BoundStmt}
use Rattle.rel_algebra.specs.Tree.{Query, MoreStmts, Branches, MoreBranches}
use Rattle.rel_algebra.specs.World.{Frame, unit}
use Rattle.rel_algebra.specs.Doing.{Doing, End, Outcome as Ending, Next, ends}
use Rattle.rel_algebra.specs.Handlers.{with_value}
use Rattle.rel_algebra.specs.Meaning.{Context, ev, does, does_all}
use Rattle.routine_views.specs.Views.{Known, BranchView, stmt_in, stmts}
use Rattle.run_choices.specs.declared.stop.Stop.{Stop}
use Rattle.run_choices.specs.Words.{passes_by}
use Rattle.run_expressions.specs.Content.{Content, world_of}
use Rattle.run_expressions.specs.Ending.{Ended}
use Rattle.run_expressions.proofs.Laws.{rest}
use Rattle.run_outcomes.specs.declared.outcome.Outcome.{Outcome}
use Rattle.run_outcomes.specs.declared.outcome.Outcome.TheVariants as held
use Rattle.run_outcomes.specs.Outcomes.{outcome_of}
use Rattle.statement_laws.proofs.Laws.{list_goes_on}
use Rattle.run_places.specs.Cost.{stmt_cost, stmts_cost}
use Rattle.run_places.specs.Ran.{Ran, GoesOnFrom, does_choice}
use Rattle.run_places.specs.Statements.{stmts_in, branches_in, branch_in}
use Rattle.run_places.proofs.Underway.{Underway, moves_on, ends_here, ends_with, value_stops}
use Rattle.run_places.proofs.Underway.{value_gives}

-- ---- statements

-- whether an outcome is Next
abbrev is_next : Ending → Bool
is_next Next = true
is_next _ = false

-- an outcome in code that isn't Next stands for none that is
pub otherwise : (o : Outcome) → (o ≡ held.Next → ⊥) → outcome_of o ≡ Next → ⊥
otherwise held.Next h is = h refl
otherwise (held.Leaving level) h is = true≢false (sym (ap is_next is))
otherwise (held.Iterating level) h is = true≢false (sym (ap is_next is))
otherwise (held.Returning value) h is = true≢false (sym (ap is_next is))
otherwise (held.Exiting level area) h is = true≢false (sym (ap is_next is))
otherwise (held.Raising area) h is = true≢false (sym (ap is_next is))
otherwise held.Spent h is = true≢false (sym (ap is_next is))

module _ (k : Known) (ss : List BoundStmt) (i : ℕ) (x : BoundStmt) (cursors : List Query)
    (c : Context) (f : Frame) (old now : Content) (whole : End) where
  -- what is left of the list
  abbrev list_left : End
  list_left = does_all (stmts_in k (drop i ss) cursors) c f (world_of now)

  first_is : i < length ss → x ≡ get_or ss i x →
      stmts_in k (drop i ss) cursors ≡
      MoreStmts (stmt_in k x cursors) (stmts_in k (drop (i + 1) ss) cursors)
  first_is h is = ap (λ (xs : List BoundStmt). stmts_in k xs cursors) (rest ss i x h is)

  -- a statement ends with Next, and the next one is done
  pub list_next : (g : Frame) (new : Content) → i < length ss → x ≡ get_or ss i x →
      Underway old now list_left whole →
      Ran now new g (Ok held.Next) (does (stmt_in k x cursors) c f (world_of now)) →
      Underway old new (does_all (stmts_in k (drop (i + 1) ss) cursors) c g (world_of new)) whole
  list_next g new h is u d =
      moves_on old now new list_left
      (does_all (stmts_in k (drop (i + 1) ss) cursors) c g (world_of new)) whole u
      (list_goes_on.next (stmts_in k (drop i ss) cursors) (stmt_in k x cursors)
      (stmts_in k (drop (i + 1) ss) cursors) c f g (world_of now) (world_of new) (first_is h is)
      d.tells) d.stays

  -- it ends otherwise, and so does the list
  pub list_stops : (g : Frame) (new : Content) (o : Outcome) (r : Result Outcome NoMemory) →
      i < length ss → x ≡ get_or ss i x → Underway old now list_left whole →
      Ran now new g (Ok o) (does (stmt_in k x cursors) c f (world_of now)) →
      (o ≡ held.Next → ⊥) → r ≡ Ok o → Ran old new g r whole
  list_stops g new o r h is u d other answer =
      let here = list_goes_on.stops (stmts_in k (drop i ss) cursors) (stmt_in k x cursors)
      (stmts_in k (drop (i + 1) ss) cursors) c f g (world_of now) (world_of new) (outcome_of o)
      (first_is h is) d.tells (otherwise o other) in
      ends_here old new (ends (outcome_of o) g (world_of new)) whole o g r
      (moves_on old now new list_left (ends (outcome_of o) g (world_of new)) whole u here d.stays)
      refl answer

-- the list is at its end
pub list_ends : (k : Known) (ss : List BoundStmt) (i : ℕ) (cursors : List Query) (c : Context)
    (f : Frame) (old now : Content) (whole : End) (r : Result Outcome NoMemory) → length ss ≤ i →
    Underway old now (does_all (stmts_in k (drop i ss) cursors) c f (world_of now)) whole →
    r ≡ Ok held.Next → Ran old now f r whole
list_ends k ss i cursors c f old now whole r h u answer =
    ends_here old now (does_all (stmts_in k (drop i ss) cursors) c f (world_of now)) whole held.Next
    f r u (ap (λ (xs : List BoundStmt). does_all (stmts_in k xs cursors) c f (world_of now))
    (drop_all i ss h)) answer

-- what is left costs less
pub stmts_cost-rest : (k : Known) (ss : List BoundStmt) (i : ℕ) (x : BoundStmt)
    (cursors : List Query) → i < length ss → x ≡ get_or ss i x →
    stmts_cost (stmts_in k (drop i ss) cursors) ≡ stmt_cost (stmt_in k x cursors) +
    stmts_cost (stmts_in k (drop (i + 1) ss) cursors) + 1
stmts_cost-rest k ss i x cursors h is =
    ap (λ (xs : List BoundStmt). stmts_cost (stmts_in k xs cursors)) (rest ss i x h is)

-- ---- branches

-- a value takes a branch
abbrev pub takes : Option Value → Value → Bool
takes operand v = passes_by operand v

module _ (k : Known) (bs : List BoundBranch) (i : ℕ) (x : BoundBranch) (cursors : List Query)
    (operand : Option Value) (c : Context) (otherwise : Doing) (f : Frame) (old now : Content)
    (whole : End) where
  -- what is left of the branches
  abbrev choice_left : End
  choice_left = does_choice operand (branches_in k (drop i bs) cursors) c otherwise f (world_of now)

  -- the branch that is looked at
  abbrev seen_branch : BranchView
  seen_branch = branch_in k x

  abbrev more_branches : Branches
  more_branches = branches_in k (drop (i + 1) bs) cursors

  branch_is : i < length bs → x ≡ get_or bs i x → branches_in k (drop i bs) cursors ≡
      MoreBranches seen_branch.test (stmts seen_branch.body cursors) more_branches
  branch_is h is = ap (λ (xs : List BoundBranch). branches_in k xs cursors) (rest bs i x h is)

  -- its test is a value, with which the choice goes on
  choice_at : (o : Option Value) → i < length bs → x ≡ get_or bs i x →
      does_choice o (branches_in k (drop i bs) cursors) c otherwise f (world_of now) ≡
      with_value c.scopes (ev seen_branch.test c.self []) (λ v.
      if passes_by o v then does_all (stmts seen_branch.body cursors) c
      else does_choice o more_branches c otherwise) f (world_of now)
  choice_at None h is =
      ap (λ (xs : Branches). does_choice None xs c otherwise f (world_of now)) (branch_is h is)
  choice_at (Some y) h is =
      ap (λ (xs : Branches). does_choice (Some y) xs c otherwise f (world_of now)) (branch_is h is)

  -- its test stops
  pub choice_stops : (g : Frame) (mid new : Content) (s : Stop) (r : Result Outcome NoMemory) →
      i < length bs → x ≡ get_or bs i x → Underway old now choice_left whole →
      Ended {A = Value} now mid (Err s) (unit (ev seen_branch.test c.self [] f) (world_of now)) →
      GoesOnFrom s c.scopes mid new f g r → Ran old new g r whole
  choice_stops g mid new s r h is u d so =
      value_stops c.scopes (ev seen_branch.test c.self []) (λ v.
      if passes_by operand v then does_all (stmts seen_branch.body cursors) c
      else does_choice operand more_branches c otherwise) f old now mid choice_left whole g new s r
      (choice_at operand h is) u d so

  choice_by : (mid : Content) (v : Value) (b : Bool) → i < length bs → x ≡ get_or bs i x →
      Underway old now choice_left whole →
      Ended now mid (Ok v) (unit (ev seen_branch.test c.self [] f) (world_of now)) →
      passes_by operand v ≡ b →
      Underway old mid ((if b then does_all (stmts seen_branch.body cursors) c
      else does_choice operand more_branches c otherwise) f (world_of mid)) whole
  choice_by mid v b h is u d truth =
      subst (λ (b : Bool). Underway old mid ((if b then does_all (stmts seen_branch.body cursors) c
      else does_choice operand more_branches c otherwise) f (world_of mid)) whole) truth
      (value_gives c.scopes (ev seen_branch.test c.self []) (λ v.
      if passes_by operand v then does_all (stmts seen_branch.body cursors) c
      else does_choice operand more_branches c otherwise) f old now mid choice_left whole v
      (choice_at operand h is) u d)

  -- it passes, and its statements are done
  pub choice_taken : (g : Frame) (mid new : Content) (v : Value) (r : Result Outcome NoMemory) →
      i < length bs → x ≡ get_or bs i x → Underway old now choice_left whole →
      Ended now mid (Ok v) (unit (ev seen_branch.test c.self [] f) (world_of now)) →
      passes_by operand v ≡ true →
      Ran mid new g r (does_all (stmts seen_branch.body cursors) c f (world_of mid)) →
      Ran old new g r whole
  choice_taken g mid new v r h is u d truth done =
      ends_with old mid new (does_all (stmts seen_branch.body cursors) c f (world_of mid)) whole
      (does_all (stmts seen_branch.body cursors) c f (world_of mid)) g r
      (choice_by mid v true h is u d truth) refl done

  -- it doesn't, and the next is looked at
  pub choice_passed : (mid : Content) (v : Value) → i < length bs → x ≡ get_or bs i x →
      Underway old now choice_left whole →
      Ended now mid (Ok v) (unit (ev seen_branch.test c.self [] f) (world_of now)) →
      passes_by operand v ≡ false →
      Underway old mid (does_choice operand more_branches c otherwise f (world_of mid)) whole
  choice_passed mid v h is u d truth = choice_by mid v false h is u d truth

-- no branch is left
pub choice_none : (k : Known) (bs : List BoundBranch) (i : ℕ) (cursors : List Query)
    (operand : Option Value) (c : Context) (otherwise : Doing) (f g : Frame)
    (old now new : Content) (whole : End) (r : Result Outcome NoMemory) → length bs ≤ i →
    Underway old now (does_choice operand (branches_in k (drop i bs) cursors) c otherwise f
    (world_of now)) whole → Ran now new g r (otherwise f (world_of now)) → Ran old new g r whole
choice_none k bs i cursors operand c otherwise f g old now new whole r h u d =
    ends_with old now new (does_choice operand (branches_in k (drop i bs) cursors) c otherwise f
    (world_of now)) whole (otherwise f (world_of now)) g r u (none operand) d
  where
    none : (o : Option Value) → does_choice o (branches_in k (drop i bs) cursors) c otherwise f
        (world_of now) ≡ otherwise f (world_of now)
    none None = ap (λ (xs : List BoundBranch). does_choice None (branches_in k xs cursors) c
        otherwise f (world_of now)) (drop_all i bs h)
    none (Some y) = ap (λ (xs : List BoundBranch). does_choice (Some y) (branches_in k xs cursors) c
        otherwise f (world_of now)) (drop_all i bs h)
