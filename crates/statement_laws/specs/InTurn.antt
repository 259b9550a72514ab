-- Statements in their order, and the branches of IF and CASE. ISO/IEC 9075-4, 14.6 (case statement)
-- and 14.7 (if statement).
use Rattle.std.specs.Prelude.{◌≡◌, [], true, false}
use Rattle.sql_values.specs.declared.value.Value.{Value}
use Rattle.sql_values.specs.Values.{is_true}
use Rattle.sql_conditions.specs.Conditions.{Area}
use Rattle.rel_algebra.specs.Tree.{Expr, Stmt, Stmts, NoStmt, MoreStmts, Branches, NoBranch}
use Rattle.rel_algebra.specs.Tree.{MoreBranches}
use Rattle.rel_algebra.specs.World.{World, Frame, Gives, Raises, RunsOut, unit}
use Rattle.rel_algebra.specs.Endings.{equal_values}
use Rattle.rel_algebra.specs.States.{case_not_found}
use Rattle.rel_algebra.specs.Doing.{Outcome, Next, Spent, Doing, ends, in_turn}
use Rattle.rel_algebra.specs.Handlers.{failing}
use Rattle.rel_algebra.specs.Meaning.{Context, ev, does, does_all, does_else, does_branches}
use Rattle.rel_algebra.specs.Meaning.{does_matching}

-- any end but Next
abbrev pub Otherwise : Outcome → Type 0
Otherwise o = o ≡ Next → ⊥

-- the first statements, and then the others
abbrev pub appended : Stmts → Stmts → Stmts
appended NoStmt ts = ts
appended (MoreStmts s ss) ts = MoreStmts s (appended ss ts)

-- the second is done where the first ends with Next, and only then
pub record GoesInTurn : Type 0 where
  pub next : (first second : Doing) (f g : Frame) (w u : World) → first f w ≡ ends Next g u →
      in_turn first second f w ≡ second g u
  pub stops : (first second : Doing) (f g : Frame) (w u : World) (o : Outcome) →
      first f w ≡ ends o g u → Otherwise o → in_turn first second f w ≡ ends o g u

-- statements, from one on
pub record ListGoesOn : Type 0 where
  -- nothing is left
  pub none : (ss : Stmts) (c : Context) (f : Frame) (w : World) → ss ≡ NoStmt →
      does_all ss c f w ≡ ends Next f w
  -- one ends with Next, and the next is done
  pub next : (ss : Stmts) (s : Stmt) (more : Stmts) (c : Context) (f g : Frame) (w u : World) →
      ss ≡ MoreStmts s more → does s c f w ≡ ends Next g u →
      does_all ss c f w ≡ does_all more c g u
  -- it ends otherwise, and so do all
  pub stops : (ss : Stmts) (s : Stmt) (more : Stmts) (c : Context) (f g : Frame) (w u : World)
      (o : Outcome) → ss ≡ MoreStmts s more → does s c f w ≡ ends o g u → Otherwise o →
      does_all ss c f w ≡ ends o g u
  -- the first ones end with Next, and the others are done
  pub rest : (ss ts : Stmts) (c : Context) (f g : Frame) (w u : World) →
      does_all ss c f w ≡ ends Next g u → does_all (appended ss ts) c f w ≡ does_all ts c g u
  -- the first ones end otherwise, and so do all
  pub first : (ss ts : Stmts) (c : Context) (f g : Frame) (w u : World) (o : Outcome) →
      does_all ss c f w ≡ ends o g u → Otherwise o → does_all (appended ss ts) c f w ≡ ends o g u

-- ELSE, without which CASE raises
pub record ElseGoesOn : Type 0 where
  pub none : (ss : Stmts) (c : Context) (f : Frame) (w : World) → ss ≡ NoStmt →
      does_else ss c f w ≡ failing c.scopes case_not_found f w
  pub some : (ss : Stmts) (s : Stmt) (more : Stmts) (c : Context) (f : Frame) (w : World) →
      ss ≡ MoreStmts s more → does_else ss c f w ≡ does_all ss c f w

-- the branches of IF, and of CASE without an operand, from one on
pub record BranchesGoOn : Type 0 where
  pub none : (bs : Branches) (c : Context) (otherwise : Doing) (f : Frame) (w : World) →
      bs ≡ NoBranch → does_branches bs c otherwise f w ≡ otherwise f w
  -- the test is true: the branch is done
  pub taken : (bs : Branches) (test : Expr) (body : Stmts) (more : Branches) (c : Context)
      (otherwise : Doing) (f : Frame) (w u : World) (v : Value) → bs ≡ MoreBranches test body more →
      unit (ev test c.self [] f) w ≡ Gives v u → is_true v ≡ true →
      does_branches bs c otherwise f w ≡ does_all body c f u
  -- it is not: the next is looked at
  pub passed : (bs : Branches) (test : Expr) (body : Stmts) (more : Branches) (c : Context)
      (otherwise : Doing) (f : Frame) (w u : World) (v : Value) → bs ≡ MoreBranches test body more →
      unit (ev test c.self [] f) w ≡ Gives v u → is_true v ≡ false →
      does_branches bs c otherwise f w ≡ does_branches more c otherwise f u
  -- it raises: the statement raises
  pub raises : (bs : Branches) (test : Expr) (body : Stmts) (more : Branches) (c : Context)
      (otherwise : Doing) (f : Frame) (w u : World) (area : Area) →
      bs ≡ MoreBranches test body more → unit (ev test c.self [] f) w ≡ Raises area u →
      does_branches bs c otherwise f w ≡ failing c.scopes area f u
  -- no turn is left
  pub runs_out : (bs : Branches) (test : Expr) (body : Stmts) (more : Branches) (c : Context)
      (otherwise : Doing) (f : Frame) (w u : World) → bs ≡ MoreBranches test body more →
      unit (ev test c.self [] f) w ≡ RunsOut u → does_branches bs c otherwise f w ≡ ends Spent f u

-- the branches of CASE with an operand, from one on
pub record MatchingGoesOn : Type 0 where
  pub none : (bs : Branches) (x : Value) (c : Context) (otherwise : Doing) (f : Frame)
      (w : World) → bs ≡ NoBranch → does_matching bs x c otherwise f w ≡ otherwise f w
  -- the value is equal: the branch is done
  pub taken : (bs : Branches) (e : Expr) (body : Stmts) (more : Branches) (x : Value)
      (c : Context) (otherwise : Doing) (f : Frame) (w u : World) (v : Value) →
      bs ≡ MoreBranches e body more → unit (ev e c.self [] f) w ≡ Gives v u →
      is_true (equal_values x v) ≡ true →
      does_matching bs x c otherwise f w ≡ does_all body c f u
  -- it is not: the next is looked at
  pub passed : (bs : Branches) (e : Expr) (body : Stmts) (more : Branches) (x : Value)
      (c : Context) (otherwise : Doing) (f : Frame) (w u : World) (v : Value) →
      bs ≡ MoreBranches e body more → unit (ev e c.self [] f) w ≡ Gives v u →
      is_true (equal_values x v) ≡ false →
      does_matching bs x c otherwise f w ≡ does_matching more x c otherwise f u
  -- it raises: the statement raises
  pub raises : (bs : Branches) (e : Expr) (body : Stmts) (more : Branches) (x : Value)
      (c : Context) (otherwise : Doing) (f : Frame) (w u : World) (area : Area) →
      bs ≡ MoreBranches e body more → unit (ev e c.self [] f) w ≡ Raises area u →
      does_matching bs x c otherwise f w ≡ failing c.scopes area f u
  -- no turn is left
  pub runs_out : (bs : Branches) (e : Expr) (body : Stmts) (more : Branches) (x : Value)
      (c : Context) (otherwise : Doing) (f : Frame) (w u : World) →
      bs ≡ MoreBranches e body more → unit (ev e c.self [] f) w ≡ RunsOut u →
      does_matching bs x c otherwise f w ≡ ends Spent f u
