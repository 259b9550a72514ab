-- The plans of RETURN alone and of a block around it, which hold by computation. ISO/IEC 9075-2,
-- 10.4 (routine invocation), and ISO/IEC 9075-4, 14.1 (compound statement).
use Rattle.std.specs.Prelude.{◌≡◌, false, true, List, [], ◌∷◌}
use Rattle.rel_algebra.specs.BodyChain.{first_cells, last_cell, of_type, top as registers}
use Rattle.rel_algebra.specs.BodyDispatch.{joins, judging, store_if}
use Rattle.rel_algebra.specs.BodySteps.{Step, acts, col, jump, only, steps_tree, tag}
use Rattle.rel_algebra.specs.Emit.{emit_body, top}
use Rattle.rel_algebra.specs.Plan.{PlanTree, and_word, anew, apply_by, argument, column, constant}
use Rattle.rel_algebra.specs.Plan.{extend, extend_by}
use Rattle.rel_algebra.specs.Plan.{keep, no_node, single, strict, unit_row, word}
use Rattle.rel_algebra.specs.Tree.{Assign, Compound, Function, MoreStmts, NoHandler, NoStmt}
use Rattle.rel_algebra.specs.Tree.{NoVariable, NullTest, Opposite, Return, Routine, Stmt}
use Rattle.rel_algebra.specs.Tree.{Variable}
use Rattle.sql_values.specs.declared.value.SqlType.TheVariants.{Varchar}
use Rattle.sql_values.specs.declared.value.Value.TheVariants.{Bool as Truth}

-- a function of one VARCHAR(3) that returns a VARCHAR(2)
abbrev pub worked : Stmt → Routine
worked statement = Function false (Varchar 3 ∷ []) (Varchar 2) false statement

-- the same, which returns NULL on NULL input
abbrev pub worked_known : Stmt → Routine
worked_known statement = Function false (Varchar 3 ∷ []) (Varchar 2) true statement

-- RETURN a
abbrev pub return_a : Stmt
return_a = Return (Variable 0)

-- BEGIN RETURN a; END
abbrev pub begin_return_a : Stmt
begin_return_a = Compound false NoVariable 0 NoHandler (MoreStmts return_a NoStmt)

-- The steps of the block: from code 3 on to its statements, at 6; there a value goes to code 0, and
-- an area to 1; and on at 3.
abbrev pub block_steps : List Step
block_steps =
    jump 3 6 4
    ∷ acts 6 (extend_by (only (col 3)) no_node) 5
    (judging (tag 0) [] (registers 1) 7 6 4 (store_if 4 4 1 ∷ [])) 4 []
    ∷ joins 6 1 3 4 4 ∷ []

-- the chain of its steps, which reads the argument as one of its type
abbrev pub block_chain : PlanTree
block_chain = keep (4 ∷ []) (extend (only (last_cell (Varchar 2))) (steps_tree block_steps
    (extend (first_cells (Varchar 2) (only (of_type (Varchar 3) (argument 0)))) unit_row)))

-- worked rows of what is emitted of a function's body
pub record BlocksPlanned : Type 0 where
  -- RETURN alone is its expression, as the result's type takes it
  pub alone : emit_body (worked return_a) (λ t. 0) (top 1) 0 ≡ record {
    nodes = no_node;
    scalar = word (strict (Assign (Varchar 2))) (only (argument 0));
  }
  -- a block is one Apply of its chain
  pub block : emit_body (worked begin_return_a) (λ t. 0) (top 1) 0 ≡ record {
    nodes = apply_by (constant (Truth true)) single anew block_chain no_node;
    scalar = column 0 0;
  }
  -- and asks whether its argument is NULL, where it returns NULL on NULL input
  pub known : emit_body (worked_known begin_return_a) (λ t. 0) (top 1) 0 ≡ record {
    nodes = apply_by (word and_word (only (word (strict Opposite)
        (only (word (strict NullTest) (only (argument 0))))))) single anew block_chain no_node;
    scalar = column 0 0;
  }
