-- Worked rows: statements that hold statements, by where they stand.
use Rattle.std.specs.Prelude.{ℕ, ◌≡◌, Bool, true, false, List, [], ◌∷◌, Some, None, codes}
use Rattle.statement_trees.specs.declared.condition.ConditionValue.TheVariants.{SqlException}
use Rattle.statement_trees.specs.declared.declaration.HandlerType.{HandlerType}
use Rattle.statement_trees.specs.declared.declaration.HandlerType.TheVariants.{Exit, Undo}
use Rattle.statement_trees.specs.declared.statement.Block.{roll-Block}
use Rattle.statement_trees.specs.declared.statement.Declaration.{Declaration}
use Rattle.statement_trees.specs.declared.statement.Declaration.TheVariants as declaration
use Rattle.statement_trees.specs.declared.statement.Handler.{roll-Handler}
use Rattle.statement_trees.specs.declared.statement.Labelled.{roll-Labelled}
use Rattle.statement_trees.specs.declared.statement.Stmt.{Stmt}
use Rattle.statement_trees.specs.declared.statement.Stmt.TheVariants as stmt
use Rattle.statement_trees.specs.declared.statement.Structure.{Structure}
use Rattle.statement_trees.specs.declared.statement.Structure.TheVariants as structure
use Rattle.bound_trees.specs.declared.statement.BoundStmt.TheVariants as bound
use Rattle.bind_faults.specs.declared.fault.Fault.{Fault}
use Rattle.bind_faults.specs.declared.fault.FaultKind.TheVariants.{UnknownName, NotPermitted}
use Rattle.bind_faults.specs.Faults.{give}
use Rattle.bind_simple.specs.Examples.{at, named, fault, inside}
use Rattle.bind_routines.specs.Statements.{judge_stmt}

-- label: structure END
abbrev pub labelled : List ℕ → Structure → Stmt
labelled label s = stmt.Labelled (roll-Labelled
    (record { label = Some (named label 1); anchor = at 3; structure = s; end_label = None }))

-- LOOP statements END LOOP
abbrev pub loop : List Stmt → Structure
loop statements = structure.Loop statements

-- BEGIN declarations END, ATOMIC or not
abbrev pub compound : Bool → List Declaration → Structure
compound atomic declarations = structure.Block
    (roll-Block (record { atomic = atomic; declarations = declarations; statements = [] }))

-- DECLARE type HANDLER FOR SQLEXCEPTION action
abbrev pub handler : HandlerType → Stmt → Declaration
handler type action = declaration.Handler (roll-Handler
    (record {
      anchor = at 5;
      handler_type = type;
      values = SqlException (at 8) ∷ [];
      action =
          action;
    }))

-- LEAVE label
abbrev pub leave : List ℕ → Stmt
leave label = stmt.Leave (at 9) (named label 10)

-- ITERATE label
abbrev pub iterate : List ℕ → Stmt
iterate label = stmt.Iterate (at 9) (named label 10)

-- the faults of a statement
abbrev pub Faults : Stmt → List Fault → Type 0
Faults s fs = (judge_stmt s inside).faults ≡ fs

-- what LEAVE, ITERATE and UNDO stand for inside of other statements
pub record StatementsInStatements : Type 0 where
  pub leave_of_a_loop : judge_stmt (labelled (codes "M") (loop (leave (codes "M") ∷ []))) inside ≡
      give (bound.Loop (bound.Leave 0 ∷ []))
  pub iterate_of_an_outer_loop : judge_stmt (labelled (codes "M") (loop (iterate (codes "L") ∷ [])))
      inside ≡ give (bound.Loop (bound.Iterate 1 ∷ []))
  pub leave_of_what_is_not : Faults (labelled (codes "M") (loop (leave (codes "X") ∷ [])))
      (fault UnknownName 10)
  pub action_iterates_a_compound_statement : Faults
      (labelled (codes "M") (compound false (handler Exit (iterate (codes "B")) ∷ [])))
      (fault NotPermitted 9)
  pub action_leaves_no_own : Faults (labelled (codes "M")
      (compound false (handler Exit (leave (codes "M")) ∷ []))) (fault UnknownName 10)
  pub action_leaves_further_out : Faults (labelled (codes "M")
      (compound false (handler Exit (leave (codes "B")) ∷ []))) []
  pub undo_in_atomic : Faults (labelled (codes "M")
      (compound true (handler Undo (leave (codes "B")) ∷ []))) []
  pub undo_elsewhere : Faults (labelled (codes "M")
      (compound false (handler Undo (leave (codes "B")) ∷ []))) (fault NotPermitted 5)
