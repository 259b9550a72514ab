-- WHILE, REPEAT and SELECT INTO, by what is run.
use Rattle.std.proofs.Common.{◌≡◌, List, Some, None, sym, ap, ◌∙◌, map}
use Rattle.bound_trees.specs.declared.expr.BoundExpr.{BoundExpr}
use Rattle.bound_trees.specs.declared.query.BoundQuery.{BoundQuery}
use Rattle.bound_trees.specs.declared.statement.BoundStmt.{BoundStmt}
use Rattle.bound_trees.specs.declared.statement.BoundStmt.TheVariants as bound
use Rattle.bound_trees.specs.declared.statement.BoundTarget.{BoundTarget}
use Rattle.rel_algebra.specs.Tree.{Query, SelectInto}
use Rattle.rel_algebra.specs.World.{World, Frame}
use Rattle.rel_algebra.specs.Loops.{looping}
use Rattle.rel_algebra.specs.Meaning.{Context, does, does_all, inside}
use Rattle.routine_views.specs.Views.{Known, View, query_in, stmt_in, target}
use Rattle.run_places.specs.Ran.{before_by, after_by}
use Rattle.run_places.specs.Statements.{stmts_in}
use Rattle.run_places.proofs.Laws.{stmt_in-While, stmt_in-Repeat}
use Rattle.run_places.proofs.Laws.{stmt_in-SelectInto}

module _ (k : Known) (s : BoundStmt) (e : BoundExpr) (body run : List BoundStmt)
    (cursors : List Query) (c : Context) (f : Frame) (w : World) (as_is : run ≡ body) where
  -- WHILE
  pub while_does : s ≡ bound.While e body → does (stmt_in k s cursors) c f w ≡
      looping c.level (before_by k (Some e) c.self c.scopes)
      (does_all (stmts_in k run cursors) (inside c)) (after_by k None c.self c.scopes) f w
  while_does is =
      ap (λ (x : BoundStmt). does (stmt_in k x cursors) c f w) is
      ∙ ap (λ (v : View). does (v cursors) c f w) (stmt_in-While k e body)
      ∙ ap (λ (ss : List BoundStmt). looping c.level (before_by k (Some e) c.self c.scopes)
      (does_all (stmts_in k ss cursors) (inside c)) (after_by k None c.self c.scopes) f w)
      (sym as_is)

  -- REPEAT
  pub repeat_does : s ≡ bound.Repeat body e → does (stmt_in k s cursors) c f w ≡
      looping c.level (before_by k None c.self c.scopes)
      (does_all (stmts_in k run cursors) (inside c)) (after_by k (Some e) c.self c.scopes) f w
  repeat_does is =
      ap (λ (x : BoundStmt). does (stmt_in k x cursors) c f w) is
      ∙ ap (λ (v : View). does (v cursors) c f w) (stmt_in-Repeat k body e)
      ∙ ap (λ (ss : List BoundStmt). looping c.level (before_by k None c.self c.scopes)
      (does_all (stmts_in k ss cursors) (inside c)) (after_by k (Some e) c.self c.scopes) f w)
      (sym as_is)

-- SELECT INTO
pub select_into_does : (k : Known) (s : BoundStmt) (query : BoundQuery) (into run : List BoundTarget)
    (cursors : List Query) (c : Context) (f : Frame) (w : World) → run ≡ into →
    s ≡ bound.SelectInto query into → does (stmt_in k s cursors) c f w ≡
    does (SelectInto (query_in k query) (map target run)) c f w
select_into_does k s query into run cursors c f w as_is is =
    ap (λ (x : BoundStmt). does (stmt_in k x cursors) c f w) is
    ∙ ap (λ (v : View). does (v cursors) c f w) (stmt_in-SelectInto k query into)
    ∙ ap (λ (ts : List BoundTarget). does (SelectInto (query_in k query) (map target ts)) c f w)
    (sym as_is)
