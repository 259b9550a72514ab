-- RETURNS NULL ON NULL INPUT as a CASE over the parameters: CASE WHEN p1 IS NULL OR p2 IS NULL ..
-- THEN NULL ELSE e END, bound and plain. ISO/IEC 9075-2, 6.12 (case expression), 8.8 (null
-- predicate) and 10.4 (routine invocation).
use Rattle.std.specs.Prelude.{ℕ, zero, suc, List, [], ◌∷◌, ◌++◌}
use Rattle.sql_values.specs.declared.value.Value.TheVariants.{Null}
use Rattle.bound_trees.specs.declared.expr.BoundExpr.{BoundExpr}
use Rattle.bound_trees.specs.declared.expr.BoundExpr.TheVariants as bound
use Rattle.bound_trees.specs.declared.expr.BoundOperation.TheVariants as word
use Rattle.rel_algebra.specs.Tree.{Expr, Literal, Variable, Operate, Or, Case, NullTest, Exprs}
use Rattle.rel_algebra.specs.Tree.{NoExpr, MoreExprs}

-- ---- bound

-- IS NULL of a parameter
abbrev pub null_test : ℕ → BoundExpr
null_test place = bound.Operation word.NullTest (bound.Variable place ∷ [])

-- IS NULL of so many parameters, from one on
abbrev pub null_tests : ℕ → ℕ → List BoundExpr
null_tests place zero = []
null_tests place (suc n) = null_test place ∷ null_tests (suc place) n

-- whether one of so many parameters is NULL, and what is given then
abbrev pub guard : ℕ → List BoundExpr
guard n = bound.Operation word.Or (null_tests 0 n) ∷ bound.Literal Null ∷ []

-- CASE with a last result
abbrev pub case_of : List BoundExpr → BoundExpr → BoundExpr
case_of arms last = bound.Operation word.Case (arms ++ last ∷ [])

-- an expression that is NULL where one of so many parameters is; without parameters the expression
abbrev pub guarded : ℕ → BoundExpr → BoundExpr
guarded zero e = e
guarded (suc n) e = case_of (guard (suc n)) e

-- ---- plain

-- IS NULL of a parameter
abbrev pub null_test_tree : ℕ → Expr
null_test_tree place = Operate NullTest (MoreExprs (Variable place) NoExpr)

-- IS NULL of so many parameters, from one on
abbrev pub null_test_trees : ℕ → ℕ → Exprs
null_test_trees place zero = NoExpr
null_test_trees place (suc n) = MoreExprs (null_test_tree place) (null_test_trees (suc place) n)

-- the same CASE as a plain tree
abbrev pub guarded_tree : ℕ → Expr → Expr
guarded_tree zero e = e
guarded_tree (suc n) e =
    Case (MoreExprs (Or (null_test_trees 0 (suc n)))
    (MoreExprs (Literal Null) (MoreExprs e NoExpr)))
