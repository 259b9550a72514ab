-- ELSE of IF and of CASE. ISO/IEC 9075-4, 14.6 (case statement) and 14.7 (if statement).
use Rattle.std.specs.Prelude.{Bool, true, false, List, [], ◌∷◌}
use Rattle.bound_trees.specs.declared.statement.BoundStmt.{BoundStmt}
use Rattle.rel_algebra.specs.Tree.{Stmts}
use Rattle.rel_algebra.specs.Doing.{Doing}
use Rattle.rel_algebra.specs.Meaning.{Context, does_all, does_else}

-- the statements of ELSE: CASE raises without them, and IF doesn't
abbrev pub does_otherwise : Bool → Stmts → Context → Doing
does_otherwise true ss c = does_else ss c
does_otherwise false ss c = does_all ss c

-- whether ELSE is wanted, and isn't there
abbrev pub lacks : Bool → List BoundStmt → Bool
lacks false ss = false
lacks true [] = true
lacks true (s ∷ ss) = false
