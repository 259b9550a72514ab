-- Aggregate functions: what each asks of its argument, the kind that it gives, and the bound tree
-- of its argument. ISO/IEC 9075-2, 10.9 (aggregate function).
use Rattle.std.specs.Prelude.{true, List, [], ◌∷◌}
use Rattle.sql_values.specs.declared.fold.FoldKind.{FoldKind}
use Rattle.sql_values.specs.declared.fold.FoldKind.TheVariants.{Count, Sum, Avg, Min, Max}
use Rattle.sql_values.specs.declared.value.Value.TheVariants.{Bool as Truth}
use Rattle.bound_trees.specs.declared.expr.BoundExpr.{BoundExpr}
use Rattle.bound_trees.specs.declared.expr.BoundExpr.TheVariants as bound
use Rattle.bind_faults.specs.declared.fault.Fault.{Fault}
use Rattle.bind_kinds.specs.declared.kind.Kind.{Kind}
use Rattle.bind_kinds.specs.declared.kind.Kind.TheVariants.{Integer, Null}
use Rattle.bind_kinds.specs.declared.kind.OperandHead.{OperandHead}
use Rattle.bind_kinds.specs.Kinds.{all_of_kind}

-- SUM and AVG are of numbers, the others of any values
abbrev pub aggregate_asked : FoldKind → List OperandHead → List Fault
aggregate_asked Count hs = []
aggregate_asked Sum hs = all_of_kind Integer hs
aggregate_asked Avg hs = all_of_kind Integer hs
aggregate_asked Min hs = []
aggregate_asked Max hs = []

-- the kind of the one argument; COUNT(*) has none
abbrev pub kind_of_argument : List OperandHead → Kind
kind_of_argument [] = Null
kind_of_argument (h ∷ hs) = h.kind

-- MIN and MAX are of their argument's kind
abbrev pub aggregate_given : FoldKind → List OperandHead → Kind
aggregate_given Count hs = Integer
aggregate_given Sum hs = Integer
aggregate_given Avg hs = Integer
aggregate_given Min hs = kind_of_argument hs
aggregate_given Max hs = kind_of_argument hs

-- COUNT(*), which has no argument, counts TRUE
abbrev pub argument_of : List BoundExpr → BoundExpr
argument_of [] = bound.Literal (Truth true)
argument_of (e ∷ es) = e
