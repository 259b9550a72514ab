-- Branches while they are looked at, by those in code; and ELSE.
use Rattle.std.proofs.Common.{◌≡◌, ℕ, ◌<◌, ◌+◌, [], List, true, false, Option, Result, Ok}
use Rattle.std.proofs.Common.{Err, sym, ap, subst, length, drop, get_or}
use Rattle.sql_texts.specs.declared.memory.NoMemory.{NoMemory}
use Rattle.sql_values.specs.declared.value.Value.{Value}
use Rattle.bound_trees.specs.declared.statement.BoundBranch.{BoundBranch, out-BoundBranch}
use Rattle.rel_algebra.specs.Tree.{Expr, Query, Stmts}
use Rattle.rel_algebra.specs.World.{Frame, unit}
use Rattle.rel_algebra.specs.Doing.{Doing, End}
use Rattle.rel_algebra.specs.Meaning.{Context, ev, does_all}
use Rattle.routine_views.specs.Views.{BranchView, Known, expr_in, stmts}
use Rattle.run_choices.specs.declared.stop.Stop.{Stop}
use Rattle.run_choices.specs.Words.{passes_by}
use Rattle.run_expressions.specs.Content.{Content, world_of}
use Rattle.run_expressions.specs.Ending.{Ended}
use Rattle.run_expressions.proofs.Laws.{rest}
use Rattle.run_outcomes.specs.declared.outcome.Outcome.{Outcome}
use Rattle.run_places.specs.Cost.{branches_cost, cost, stmts_cost}
use Rattle.run_places.specs.Ran.{Ran, GoesOnFrom, does_choice}
use Rattle.run_places.specs.Statements.{branch_in, branches_in, stmts_in}
use Rattle.run_places.proofs.Lists.{choice_passed, choice_stops, choice_taken}
use Rattle.run_places.proofs.SeenStatements.{branch_in-parts}
use Rattle.run_places.proofs.Underway.{Underway}

module _ (k : Known) (bs : List BoundBranch) (i : ℕ) (x : BoundBranch) (cursors : List Query)
    (operand : Option Value) (c : Context) (otherwise : Doing) (f : Frame) (old now : Content)
    (whole : End) (within : i < length bs) (is : x ≡ get_or bs i x)
    (u : Underway old now (does_choice operand (branches_in k (drop i bs) cursors) c otherwise f
    (world_of now)) whole) where
  -- its test, as it is evaluated
  test_is : expr_in k (out-BoundBranch x).test ≡ (branch_in k x).test
  test_is = sym (ap (λ (b : BranchView). b.test) (branch_in-parts k x))

  -- its statements, as they are run
  body_is : stmts_in k (out-BoundBranch x).body cursors ≡ stmts (branch_in k x).body cursors
  body_is = sym (ap (λ (b : BranchView). stmts b.body cursors) (branch_in-parts k x))

  -- its test stops
  pub branch_stops : (g : Frame) (mid new : Content) (s : Stop) (r : Result Outcome NoMemory) →
      Ended {A = Value} now mid (Err s)
      (unit (ev (expr_in k (out-BoundBranch x).test) c.self [] f) (world_of now)) →
      GoesOnFrom s c.scopes mid new f g r → Ran old new g r whole
  branch_stops g mid new s r d so =
      choice_stops k bs i x cursors operand c otherwise f old now whole g mid new s r within is u
      (subst (λ (e : Expr). Ended {A = Value} now mid (Err s) (unit (ev e c.self [] f)
      (world_of now))) test_is d) so

  told : (mid : Content) (v : Value) →
      Ended now mid (Ok v)
      (unit (ev (expr_in k (out-BoundBranch x).test) c.self [] f) (world_of now)) →
      Ended now mid (Ok v) (unit (ev (branch_in k x).test c.self [] f) (world_of now))
  told mid v d = subst (λ (e : Expr). Ended now mid (Ok v) (unit (ev e c.self [] f)
      (world_of now))) test_is d

  -- it passes, and its statements are done
  pub branch_taken : (g : Frame) (mid new : Content) (v : Value) (r : Result Outcome NoMemory) →
      Ended now mid (Ok v)
      (unit (ev (expr_in k (out-BoundBranch x).test) c.self [] f) (world_of now)) →
      passes_by operand v ≡ true →
      Ran mid new g r (does_all (stmts_in k (out-BoundBranch x).body cursors) c f (world_of mid)) →
      Ran old new g r whole
  branch_taken g mid new v r d truth done =
      choice_taken k bs i x cursors operand c otherwise f old now whole g mid new v r within is u
      (told mid v d) truth
      (subst (λ (ss : Stmts). Ran mid new g r (does_all ss c f (world_of mid))) body_is done)

  -- it doesn't, and the next is looked at
  pub branch_passed : (mid : Content) (v : Value) →
      Ended now mid (Ok v)
      (unit (ev (expr_in k (out-BoundBranch x).test) c.self [] f) (world_of now)) →
      passes_by operand v ≡ false → Underway old mid
      (does_choice operand (branches_in k (drop (i + 1) bs) cursors) c otherwise f (world_of mid))
      whole
  branch_passed mid v d truth =
      choice_passed k bs i x cursors operand c otherwise f old now whole mid v within is u
      (told mid v d) truth

-- what is left counts less
pub branches_cost-rest : (k : Known) (bs : List BoundBranch) (i : ℕ) (x : BoundBranch)
    (cursors : List Query) → i < length bs → x ≡ get_or bs i x →
    branches_cost (branches_in k (drop i bs) cursors) ≡
    cost (branch_in k x).test + stmts_cost (stmts (branch_in k x).body cursors) +
    branches_cost (branches_in k (drop (i + 1) bs) cursors) + 1
branches_cost-rest k bs i x cursors h is =
    ap (λ (xs : List BoundBranch). branches_cost (branches_in k xs cursors)) (rest bs i x h is)
