-- Worked rows of conjuncts and of aggregates.
use Rattle.std.specs.Prelude.{ℕ, ◌≡◌, true, [], ◌∷◌}
use Rattle.sql_values.specs.declared.fold.FoldKind.TheVariants.{Count, Sum, Avg, Min, Max}
use Rattle.sql_values.specs.declared.value.Value.TheVariants.{Bool as Truth}
use Rattle.bound_trees.specs.declared.expr.BoundExpr.{BoundExpr}
use Rattle.bound_trees.specs.declared.expr.BoundExpr.TheVariants.{Literal, Column, Operation}
use Rattle.bound_trees.specs.declared.expr.BoundOperation.{BoundOperation}
use Rattle.bound_trees.specs.declared.expr.BoundOperation.TheVariants.{And, Or}
use Rattle.bind_faults.specs.declared.fault.FaultKind.TheVariants.{TypeMismatch}
use Rattle.bind_kinds.specs.Aggregates.{aggregate_asked, aggregate_given, argument_of}
use Rattle.bind_kinds.specs.Conjuncts.{conjuncts_of}
use Rattle.bind_kinds.specs.Kinds.{head_of}
use Rattle.bind_kinds.specs.declared.kind.OperandHead.{OperandHead}
use Rattle.bind_kinds.specs.declared.kind.Kind.{Kind}
use Rattle.bind_kinds.specs.declared.kind.Kind.TheVariants.{Integer, Text, Boolean}

-- a column of the innermost row
abbrev pub column : ℕ → BoundExpr
column i = Column 0 i

-- a word with two operands
abbrev pub two : BoundOperation → BoundExpr → BoundExpr → BoundExpr
two word a b = Operation word (a ∷ b ∷ [])

-- (a AND b) AND (c AND (d OR e)), a OR b, and a
pub record ConjunctsStandInOrder : Type 0 where
  pub in_brackets : conjuncts_of (two And (two And (column 0) (column 1))
      (two And (column 2) (two Or (column 3) (column 4))))
      ≡ column 0 ∷ column 1 ∷ column 2 ∷ two Or (column 3) (column 4) ∷ []
  pub of_or : conjuncts_of (two Or (column 0) (column 1)) ≡ two Or (column 0) (column 1) ∷ []
  pub of_one : conjuncts_of (column 0) ≡ column 0 ∷ []

-- ---- aggregates

-- an argument at token 4
abbrev pub of_kind : Kind → OperandHead
of_kind kind = head_of kind (record { token = 4; line = 1; column = 4 })

-- what each aggregate asks of its argument
pub record AggregatesOfArguments : Type 0 where
  pub sum_of_text : aggregate_asked Sum (of_kind Text ∷ []) ≡
      record { at = record { token = 4; line = 1; column = 4 }; kind = TypeMismatch } ∷ []
  pub average_of_truth : aggregate_asked Avg (of_kind Boolean ∷ []) ≡
      record { at = record { token = 4; line = 1; column = 4 }; kind = TypeMismatch } ∷ []
  pub sum_of_numbers : aggregate_asked Sum (of_kind Integer ∷ []) ≡ []
  pub count_of_text : aggregate_asked Count (of_kind Text ∷ []) ≡ []
  pub greatest_text : aggregate_asked Max (of_kind Text ∷ []) ≡ []
  pub kind_of_count : aggregate_given Count (of_kind Text ∷ []) ≡ Integer
  pub kind_of_average : aggregate_given Avg (of_kind Integer ∷ []) ≡ Integer
  pub kind_of_least : aggregate_given Min (of_kind Boolean ∷ []) ≡ Boolean
  pub kind_of_greatest : aggregate_given Max (of_kind Text ∷ []) ≡ Text
  pub count_of_all : argument_of [] ≡ Literal (Truth true)
  pub argument : argument_of (column 3 ∷ []) ≡ column 3
