-- Expressions that have their values at once, for the crates above.
use Rattle.std.proofs.Common.{◌≡◌, List, Option, Some, Result, Ok, IfSome, subst}
use Rattle.sql_values.specs.declared.value.Value.{Value}
use Rattle.row_types.specs.Rows.{Row}
use Rattle.bound_trees.specs.declared.expr.BoundExpr.{BoundExpr}
use Rattle.bound_trees.specs.declared.statement.BoundStmt.{BoundStmt}
use Rattle.rel_algebra.specs.Tree.{Query}
use Rattle.rel_algebra.specs.World.{Called, Frame}
use Rattle.rel_algebra.specs.Meaning.{Context, does, ev}
use Rattle.routine_views.specs.Views.{Known, expr_in, stmt_in}
use Rattle.run_choices.specs.declared.stop.Stop.{Stop}
use Rattle.run_expressions.specs.Content.{Content, world_of}
use Rattle.run_expressions.specs.Ending.{Ended}
use Rattle.run_expressions.proofs.Laws.{stays_same}
use Rattle.run_outcomes.specs.declared.outcome.Outcome.TheVariants as held
use Rattle.run_places.specs.Ran.{Ran}
use Rattle.run_operands.specs.AtOnce.{EndsAs, IsDone}

-- what is found at once is how the expression ends
pub at_once_ends : (e : BoundExpr) (rows : List Row) (f : Frame) (k : Known) (self : Called)
    (old : Content) (found : Option (Result Value Stop)) (r : Result Value Stop) →
    found ≡ Some r → IfSome found (EndsAs e rows f) →
    Ended old old r (ev (expr_in k e) self rows f (world_of old))
at_once_ends e rows f k self old found r is h =
    let ends = subst (λ o. IfSome o (EndsAs e rows f)) is h in
    record { tells = ends k self (world_of old); stays = stays_same old }

-- a statement that is done at once ends so
pub done_ends : (stmt : BoundStmt) (k : Known) (cursors : List Query) (c : Context) (old : Content)
    (f g : Frame) → IsDone stmt f g →
    Ran old old g (Ok held.Next) (does (stmt_in k stmt cursors) c f (world_of old))
done_ends stmt k cursors c old f g h =
    record { tells = h k cursors c (world_of old); stays = stays_same old }
