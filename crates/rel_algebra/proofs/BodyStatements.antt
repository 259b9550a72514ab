-- All statements.
use Rattle.std.proofs.Common.{◌≡◌, ℕ, suc, true, false, List, Option, Ok, sym, subst}
use Rattle.sql_values.specs.declared.value.Value.{Value}
use Rattle.sql_conditions.specs.Conditions.{Area}
use Rattle.row_types.specs.declared.cell.Cell.{Cell}
use Rattle.rel_algebra.specs.Endings.{after, equal_values}
use Rattle.rel_algebra.specs.Scopes.{Inputs, columns_in}
use Rattle.rel_algebra.proofs.Growing.{grows_same}
use Rattle.rel_algebra.proofs.BodyHeld.{Holds, AllHold, BranchesHold, HandlersHold, ValueRight}
use Rattle.rel_algebra.proofs.BodyHeld.{QueryRight}
use Rattle.rel_algebra.specs.Bodies.{Stmt, Compound, If, SearchedCase, SimpleCase, Set, SelectInto}
use Rattle.rel_algebra.specs.Bodies.{Signal, Resignal, GetStatementItems, GetConditionItems, Leave}
use Rattle.rel_algebra.specs.Bodies.{Return, Stmts, NoStmt, MoreStmts, Branches, NoBranch}
use Rattle.rel_algebra.specs.Bodies.{MoreBranches, Handlers, NoHandler, MoreHandlers}
use Rattle.rel_algebra.specs.BodyDoing.{Doing, Frame, End}
use Rattle.rel_algebra.specs.BodyMeaning.{value_in, does_all, does_else, does_branches}
use Rattle.rel_algebra.specs.BodyMeaning.{does_matching}
use Rattle.rel_algebra.specs.BodyChain.{emitted, equal_to, emit_all, emit_else, emit_branches}
use Rattle.rel_algebra.specs.BodyChain.{emit_matching, and_on, Rest}
use Rattle.rel_algebra.proofs.BodyLands.{Sim, in_turn_sim, nothing_sim, Seen, nowhere, within}
use Rattle.rel_algebra.proofs.BodyLands.{scopes_of, codes_of, context, Simulated, AllGood, Good}
use Rattle.rel_algebra.proofs.BodyJudged.{expr_yields, leave_sim}
use Rattle.rel_algebra.proofs.BodyValues.{set_sim, return_sim, into_sim}
use Rattle.rel_algebra.proofs.BodyDiagnostics.{signal_sim, resignal_sim, statement_items_sim}
use Rattle.rel_algebra.proofs.BodyDiagnostics.{condition_items_sim}
use Rattle.rel_algebra.proofs.BodyTests.{Knowing, Half, and_on_half, not_found_half, branching_half}
use Rattle.rel_algebra.proofs.BodyTests.{nothing_known, tested_sim, operand_known, operand_stays}
use Rattle.rel_algebra.proofs.BodyTests.{matching_yields, matching_doing}
use Rattle.rel_algebra.proofs.BodyOperands.{compared_sim}
use Rattle.rel_algebra.proofs.BodyCompounds.{compound_general}
use Rattle.rel_algebra.proofs.BodyHandled.{Rests}
use Rattle.rel_algebra.specs.BodySteps.{run}

-- a half that does the same
half_same : (w : Inputs) (o : List (List Cell)) (seen : Seen) (level : ℕ) (K : Knowing)
    (rest : Rest) (d e : Option Area → Doing) →
    ((st : Option Area) (f : Frame) → d st f ≡ e st f) → Half w o seen level K rest d →
    Half w o seen level K rest e
half_same w o seen level K rest d e h x = record {
  passes = x.passes;
  lands = λ env from here base free n r v st f q s g c.
      subst (λ (y : End). Rests w env here seen base n q y
      (run w o (rest env from here base free n) q)) (h st f)
      (x.lands env from here base free n r v st f q s g c);
}

-- what may be known of a row where ELSE stands
pub data Known : Type 0 where
  no_operand : Known
  operand : ℕ → Value → Known

-- what that says of a row
abbrev pub knows : Known → Knowing
knows no_operand = nothing_known
knows (operand m x) = operand_known m x

mutual
  pub stmt_sim : (s : Stmt) (w : Inputs) (o : List (List Cell)) → Holds s (ValueRight w)
      (QueryRight w) →
      (seen : Seen) → Good w o seen → (level : ℕ) → Simulated w o seen level s
  stmt_sim (Compound true variables handlers body) w o h seen good level =
      compound_general w o seen good nowhere true variables handlers body
      h.0
      (λ lv. handlers_good handlers w o h.1 nowhere tt lv)
      (λ lv v. all_sim body w o h.2 (within handlers lv v nowhere)
      (handlers_good handlers w o h.1 nowhere tt lv, tt) (suc lv)) level
  stmt_sim (Compound false variables handlers body) w o h seen good level =
      compound_general w o seen good seen false variables handlers body
      h.0
      (λ lv. handlers_good handlers w o h.1 seen good lv)
      (λ lv v. all_sim body w o h.2 (within handlers lv v seen)
      (handlers_good handlers w o h.1 seen good lv, good) (suc lv)) level
  stmt_sim (If branches otherwise) w o h seen good level =
      tested_sim w o seen good level _ _
      (branches_half branches w o h.0 seen good level
      (and_on (emit_all otherwise (columns_in w) (codes_of w seen)))
      (λ st. does_all otherwise w (context w seen level st))
      (and_on_half w o seen level nothing_known _ _
      (all_sim otherwise w o h.1 seen good level)))
  stmt_sim (SearchedCase branches otherwise) w o h seen good level =
      tested_sim w o seen good level _ _
      (branches_half branches w o h.0 seen good level
      (emit_else otherwise (columns_in w) (codes_of w seen))
      (λ st. does_else otherwise w (context w seen level st))
      (else_half otherwise w o h.1 seen good level no_operand))
  stmt_sim (SimpleCase e branches otherwise) w o h seen good level =
      compared_sim w o seen good level e h.0
      (λ x. emit_matching branches x (columns_in w) (codes_of w seen)
      (emit_else otherwise (columns_in w) (codes_of w seen)))
      (λ x st. does_matching branches x w (context w seen level st)
      (does_else otherwise w (context w seen level st)))
      (λ m x. matching_half branches w o h.1 seen good level m x
      (emit_else otherwise (columns_in w) (codes_of w seen))
      (λ st. does_else otherwise w (context w seen level st))
      (else_half otherwise w o h.2 seen good level (operand m x)))
  stmt_sim (Set t e) w o h seen good level = set_sim w o seen good level t e h
  stmt_sim (SelectInto query ts) w o h seen good level = into_sim w o seen good level
      query ts h.0 h.1
  stmt_sim (Signal state text) w o h seen good level = signal_sim w o seen good level
      state text h
  stmt_sim (Resignal state text) w o h seen good level = resignal_sim w o seen good level
      state text h
  stmt_sim (GetStatementItems reads) w o h seen good level = statement_items_sim w o seen good
      level reads
  stmt_sim (GetConditionItems number reads) w o h seen good level = condition_items_sim w o
      seen good level number h reads
  stmt_sim (Leave outwards) w o h seen good level = leave_sim w o level outwards
  stmt_sim (Return e) w o h seen good level = return_sim w o seen good level e h

  pub all_sim : (ss : Stmts) (w : Inputs) (o : List (List Cell)) → AllHold ss (ValueRight w)
      (QueryRight w) → (seen : Seen) → Good w o seen → (level : ℕ) →
      Sim w o level (emit_all ss (columns_in w) (codes_of w seen))
      (λ st. does_all ss w (context w seen level st))
  all_sim NoStmt w o h seen good level = nothing_sim w o level
  all_sim (MoreStmts s ss) w o h seen good level =
      in_turn_sim w o level _ _ _ _ (stmt_sim s w o h.0 seen good level)
      (all_sim ss w o h.1 seen good level)

  pub else_half : (ss : Stmts) (w : Inputs) (o : List (List Cell)) → AllHold ss (ValueRight w)
      (QueryRight w) → (seen : Seen) → Good w o seen → (level : ℕ) (K : Known) →
      Half w o seen level (knows K) (emit_else ss (columns_in w) (codes_of w seen))
      (λ st. does_else ss w (context w seen level st))
  else_half NoStmt w o h seen good level K = not_found_half w o seen level (knows K)
  else_half (MoreStmts s ss) w o h seen good level K =
      and_on_half w o seen level (knows K) _ _
      (in_turn_sim w o level _ _ _ _ (stmt_sim s w o h.0 seen good level)
      (all_sim ss w o h.1 seen good level))

  pub branches_half : (bs : Branches) (w : Inputs) (o : List (List Cell)) → BranchesHold bs
      (ValueRight w) (QueryRight w) → (seen : Seen) → Good w o seen → (level : ℕ) (rest : Rest)
      (d : Option Area → Doing) →
      Half w o seen level nothing_known rest d →
      Half w o seen level nothing_known (emit_branches bs (columns_in w) (codes_of w seen) rest)
      (λ st. does_branches bs w (context w seen level st) (d st))
  branches_half NoBranch w o h seen good level rest d x = x
  branches_half (MoreBranches test body others) w o h seen good level rest d x =
      branching_half w o seen level nothing_known (λ cs n q z a b. tt) (emitted test (columns_in w))
      (value_in w test) _ _ _ _
      (λ env n f q r l s g. expr_yields w o test h.0 env n f q r l s _
      (grows_same _))
      (all_sim body w o h.1 seen good level)
      (branches_half others w o h.2 seen good level rest d x)

  pub matching_half : (bs : Branches) (w : Inputs) (o : List (List Cell)) → BranchesHold bs
      (ValueRight w) (QueryRight w) → (seen : Seen) → Good w o seen → (level : ℕ) (m : ℕ)
      (x : Value)
      (rest : Rest) (d : Option Area → Doing) →
      Half w o seen level (operand_known m x) rest d →
      Half w o seen level (operand_known m x)
      (emit_matching bs m (columns_in w) (codes_of w seen) rest)
      (λ st. does_matching bs x w (context w seen level st) (d st))
  matching_half NoBranch w o h seen good level m x rest d y = y
  matching_half (MoreBranches e body others) w o h seen good level m x rest d y =
      half_same w o seen level (operand_known m x) _ _ _
      (λ st f. sym (matching_doing (scopes_of w seen) (value_in w e f) x f
      (does_all body w (context w seen level st))
      (does_matching others x w (context w seen level st) (d st))))
      (branching_half w o seen level (operand_known m x) (operand_stays m x)
      (λ env n. equal_to m (emitted e (columns_in w) env n))
      (λ f. after (value_in w e f) (λ y. Ok (equal_values x y))) _ _ _ _
      (λ env n f q r l s g. matching_yields w o e h.0 m x env n f q r l s g)
      (all_sim body w o h.1 seen good level)
      (matching_half others w o h.2 seen good level m x rest d y))

  pub handlers_good : (hs : Handlers) (w : Inputs) (o : List (List Cell)) → HandlersHold hs
      (ValueRight w) (QueryRight w) → (outer : Seen) → Good w o outer → (level : ℕ) → AllGood w o hs
      level outer
  handlers_good NoHandler w o h outer good level = tt
  handlers_good (MoreHandlers kind takes action others) w o h outer good level = (
    stmt_sim action w o h.0 outer good (suc level),
    handlers_good others w o h.1 outer
        good level,
  )
