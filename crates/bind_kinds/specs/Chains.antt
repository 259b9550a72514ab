-- Chains of operators, read from the left: ISO/IEC 9075-2, 6.27 (numeric value expression), 6.29
-- (string value expression) and 6.39 (boolean value expression).
use Rattle.std.specs.Prelude.{Bool, ◌&&◌, List, [], ◌∷◌, ◌++◌}
use Rattle.sql_values.specs.declared.operators.Operator.{Operator}
use Rattle.sql_values.specs.declared.operators.Operator.TheVariants.{Add, Subtract, Multiply}
use Rattle.sql_values.specs.declared.operators.Operator.TheVariants.{Divide, Concatenate}
use Rattle.syntax_trees.specs.declared.anchor.Anchor.{Anchor}
use Rattle.syntax_trees.specs.declared.expr.ChainOperator.{ChainOperator}
use Rattle.syntax_trees.specs.declared.expr.ChainOperator.TheVariants.{Or, And, Value}
use Rattle.bind_faults.specs.declared.fault.Fault.{Fault}
use Rattle.bind_kinds.specs.declared.kind.Kind.{Kind}
use Rattle.bind_kinds.specs.declared.kind.Kind.TheVariants.{Integer, Text, Boolean}
use Rattle.bind_kinds.specs.declared.kind.OperandHead.{OperandHead}
use Rattle.bind_kinds.specs.Kinds.{fits, misfit, settled, head_of}

-- what an operator takes and gives: numbers, and `||` texts
abbrev pub kind_of_operator : Operator → Kind
kind_of_operator Add = Integer
kind_of_operator Subtract = Integer
kind_of_operator Multiply = Integer
kind_of_operator Divide = Integer
kind_of_operator Concatenate = Text

-- the kind of an operator's operands, and of what it gives
abbrev pub kind_for : ChainOperator → Kind
kind_for Or = Boolean
kind_for And = Boolean
kind_for (Value operator) = kind_of_operator operator

-- each operand that is not of the operator's kind, the left one first
abbrev pub link_faults : Kind → OperandHead → OperandHead → List Fault
link_faults kind left right = misfit kind left ++ misfit kind right

-- no fault is in the operands, and each is of the kind
abbrev pub link_free : Kind → OperandHead → OperandHead → Bool
link_free kind left right = (left.free && right.free) &&
    (fits kind left.kind && fits kind right.kind)

-- A chain so far, with one link more. With a fault inside, also in its first operand, it is of kind
-- Null; its place is its first operator.
abbrev pub linked : Anchor → Kind → OperandHead → OperandHead → OperandHead
linked at kind left right = settled (link_free kind left right) (head_of kind at)

-- what the links ask after a chain so far
abbrev pub links_faults : Anchor → OperandHead → List ChainOperator → List OperandHead → List Fault
links_faults at left [] hs = []
links_faults at left (o ∷ os) [] = []
links_faults at left (o ∷ os) (h ∷ hs) = link_faults (kind_for o) left h ++ links_faults at
    (linked at (kind_for o) left h) os hs

-- the kind of a chain that begins with a kind
abbrev pub kind_of_chain : Kind → List ChainOperator → Kind
kind_of_chain kind [] = kind
kind_of_chain kind (o ∷ os) = kind_of_chain (kind_for o) os

-- the first operator; a chain without one stands where its operand does
abbrev pub chain_place : Anchor → List Anchor → Anchor
chain_place first [] = first
chain_place first (operator ∷ operators) = operator
