use Rattle.std.proofs.Common.{ap, true, false, List}
use Rattle.std.specs.Prelude.{codes}
use Rattle.statement_trees.specs.declared.declaration.HandlerType.TheVariants.{Exit, Undo}
use Rattle.bind_faults.specs.declared.fault.Fault.{Fault}
use Rattle.bind_simple.specs.Examples.{inside}
use Rattle.bind_simple.specs.Simple.{Judge}
use Rattle.bind_routines.proofs.Rows.{left-row, iterated-row, leaving-row, iterating-row}
use Rattle.bind_routines.proofs.statements_in_statements.Goals as goal

abbrev faults : Judge → List Fault
faults j = (j inside).faults

pub returns : goal.returns
returns c = record {
  leave_of_a_loop = ap (λ (j : Judge). j inside) (left-row (codes "M") (codes "M"));
  iterate_of_an_outer_loop = ap (λ (j : Judge). j inside) (iterated-row (codes "M") (codes "L"));
  leave_of_what_is_not = ap faults (left-row (codes "M") (codes "X"));
  action_iterates_a_compound_statement = ap faults
      (iterating-row (codes "M") false Exit (codes "B"));
  action_leaves_no_own = ap faults (leaving-row (codes "M") false Exit (codes "M"));
  action_leaves_further_out = ap faults (leaving-row (codes "M") false Exit (codes "B"));
  undo_in_atomic = ap faults (leaving-row (codes "M") true Undo (codes "B"));
  undo_elsewhere = ap faults (leaving-row (codes "M") false Undo (codes "B"));
}
