-- ELSE while it runs.
use Rattle.std.proofs.Common.{◌≡◌, Bool, true, false, List, [], ◌∷◌, refl}
use Rattle.bound_trees.specs.declared.statement.BoundStmt.{BoundStmt}
use Rattle.rel_algebra.specs.Tree.{Query}
use Rattle.rel_algebra.specs.Handlers.{failing}
use Rattle.rel_algebra.specs.Meaning.{Context, does_all}
use Rattle.rel_algebra.specs.States.{case_not_found}
use Rattle.routine_views.specs.Views.{Known}
use Rattle.run_places.specs.Statements.{stmts_in}
use Rattle.run_routines.specs.Otherwise.{does_otherwise, lacks}

-- it isn't there, and CASE raises
pub else_fails : (k : Known) (w : Bool) (ss : List BoundStmt) (cursors : List Query)
    (c : Context) → lacks w ss ≡ true →
    does_otherwise w (stmts_in k ss cursors) c ≡ failing c.scopes case_not_found
else_fails k false ss cursors c h = absurd cc
else_fails k true [] cursors c h = refl
else_fails k true (s ∷ ss) cursors c h = absurd cc

-- else its statements are done
pub else_runs : (k : Known) (w : Bool) (ss : List BoundStmt) (cursors : List Query)
    (c : Context) → lacks w ss ≡ false →
    does_otherwise w (stmts_in k ss cursors) c ≡ does_all (stmts_in k ss cursors) c
else_runs k false ss cursors c h = refl
else_runs k true [] cursors c h = absurd cc
else_runs k true (s ∷ ss) cursors c h = refl
