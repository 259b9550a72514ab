-- What the form of a statement decides. ISO/IEC 9075-4, 14.6 (case statement) and 14.8 (iterate
-- statement).
use Rattle.std.specs.Prelude.{Bool, true, false, Option, Some, None}
use Rattle.statement_trees.specs.declared.statement.Block.{Block}
use Rattle.statement_trees.specs.declared.statement.Branch.{Branch}
use Rattle.statement_trees.specs.declared.statement.Case.{Case}
use Rattle.statement_trees.specs.declared.statement.CreateFunction.{CreateFunction}
use Rattle.statement_trees.specs.declared.statement.CreateProcedure.{CreateProcedure}
use Rattle.statement_trees.specs.declared.statement.Declaration.{Declaration}
use Rattle.statement_trees.specs.declared.statement.Declaration.TheOpen.{Structure-F}
use Rattle.statement_trees.specs.declared.statement.Handler.{Handler}
use Rattle.statement_trees.specs.declared.statement.If.{If}
use Rattle.statement_trees.specs.declared.statement.Labelled.{Labelled as LabelledTree}
use Rattle.statement_trees.specs.declared.statement.Stmt.{Stmt}
use Rattle.statement_trees.specs.declared.statement.Structure.{Structure}
use Rattle.bind_kinds.specs.declared.kind.Kind.{Kind}
use Rattle.bind_kinds.specs.declared.kind.Kind.TheVariants.{Boolean}

-- whether what may have a label is a loop
abbrev pub loops : Structure-F Declaration Stmt Structure Block Branch Case CreateFunction
    CreateProcedure Handler If LabelledTree → Bool
loops (Structure-F.Block b) = false
loops (Structure-F.Loop body) = true
loops (Structure-F.While test body) = true
loops (Structure-F.Repeat body test) = true
loops (Structure-F.For i q body) = true

-- the kind of the tests of CASE: that of its operand, and Boolean where it has none
abbrev pub kind_of_tests : Option Kind → Kind
kind_of_tests None = Boolean
kind_of_tests (Some kind) = kind
