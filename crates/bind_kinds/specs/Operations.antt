-- Words over operands: what each asks of its operands, and the kind that it gives, one line for
-- each. ISO/IEC 9075-2, 6.12 (case expression), 6.13 (cast specification), 6.27 to 6.32 (values of
-- numbers and texts), 6.39 (boolean value expression), 8.2 (comparison), 8.4 (in) and 8.8 (null).
use Rattle.std.specs.Prelude.{Bool, true, false, not, List, [], ◌∷◌, ◌++◌, Option, Some, None}
use Rattle.syntax_trees.specs.declared.data_type.DataType.{DataType}
use Rattle.syntax_trees.specs.declared.expr.Operation.{Operation}
use Rattle.syntax_trees.specs.declared.expr.Operation.TheVariants.{Plus, Minus, Not, Compare, Is}
use Rattle.syntax_trees.specs.declared.expr.Operation.TheVariants.{IsNot, In, NotIn, Modulo}
use Rattle.syntax_trees.specs.declared.expr.Operation.TheVariants.{CharLength, Substring, Cast}
use Rattle.syntax_trees.specs.declared.expr.Operation.TheVariants.{Coalesce, Case, CaseOf}
use Rattle.syntax_trees.specs.declared.expr.TruthTest.{TruthTest}
use Rattle.syntax_trees.specs.declared.expr.TruthTest.TheVariants as is
use Rattle.bind_faults.specs.declared.fault.Fault.{Fault}
use Rattle.bind_faults.specs.declared.fault.FaultKind.TheVariants.{TypeMismatch}
use Rattle.bind_faults.specs.Faults.{fault_if}
use Rattle.bind_kinds.specs.declared.kind.Kind.{Kind}
use Rattle.bind_kinds.specs.declared.kind.Kind.TheVariants.{Integer, Text, Boolean, Null}
use Rattle.bind_kinds.specs.declared.kind.OperandHead.{OperandHead}
use Rattle.bind_kinds.specs.Types.{type_of, type_faults}
use Rattle.bind_kinds.specs.Kinds.{kind_of_type, joined, misfit, all_of_kind, alike, common}
use Rattle.bind_kinds.specs.Kinds.{like_first, in_turn}

-- IS NULL takes any kind
abbrev pub test_faults : TruthTest → List OperandHead → List Fault
test_faults is.Null hs = []
test_faults is.True hs = all_of_kind Boolean hs
test_faults is.False hs = all_of_kind Boolean hs
test_faults is.Unknown hs = all_of_kind Boolean hs

-- ---- CAST

-- there is no cast between numbers and truth values
abbrev pub is_cast : Kind → Kind → Bool
is_cast Integer Boolean = false
is_cast Integer Integer = true
is_cast Integer Text = true
is_cast Integer Null = true
is_cast Boolean Integer = false
is_cast Boolean Boolean = true
is_cast Boolean Text = true
is_cast Boolean Null = true
is_cast Text k = true
is_cast Null k = true

-- CAST asks that a value of this kind can become one of that type
abbrev pub no_cast_faults : Kind → List OperandHead → List Fault
no_cast_faults to [] = []
no_cast_faults to (h ∷ hs) = fault_if (not (is_cast to h.kind)) TypeMismatch h.at ++
    no_cast_faults to hs

-- CAST asks that of its operand, and of the type that n of VARCHAR is in range
abbrev pub cast_faults : DataType → List OperandHead → List Fault
cast_faults to hs = type_faults to ++ no_cast_faults (kind_of_type (type_of to)) hs

-- ---- CASE

-- a test of the kind that is wanted, and a result of the kind of those before it
abbrev pub arm : Kind → Kind → OperandHead → OperandHead → List Fault
arm wanted kind test result = misfit wanted test ++ misfit kind result

-- tests and results in turn, by the test that waits for its result; a last one alone is the result
-- of ELSE
abbrev pub arms : Kind → Kind → Option OperandHead → List OperandHead → List Fault
arms wanted kind None [] = []
arms wanted kind (Some last) [] = misfit kind last
arms wanted kind None (test ∷ hs) = arms wanted kind (Some test) hs
arms wanted kind (Some test) (result ∷ hs) = arm wanted kind test result ++ arms wanted
    (joined kind result.kind) None hs

-- the kind of the results
abbrev pub kind_of_arms : Kind → Option OperandHead → List OperandHead → Kind
kind_of_arms kind None [] = kind
kind_of_arms kind (Some last) [] = joined kind last.kind
kind_of_arms kind None (test ∷ hs) = kind_of_arms kind (Some test) hs
kind_of_arms kind (Some test) (result ∷ hs) = kind_of_arms (joined kind result.kind) None hs

-- a searched CASE has no operand
abbrev pub no_test : Option OperandHead
no_test = None

-- with an operand, each is compared with it
abbrev pub arms_of : List OperandHead → List Fault
arms_of [] = []
arms_of (operand ∷ hs) = arms operand.kind Null None hs

-- the kind that the arms of a CASE with an operand have in common
abbrev pub kind_of_arms_of : List OperandHead → Kind
kind_of_arms_of [] = Null
kind_of_arms_of (operand ∷ hs) = kind_of_arms Null None hs

-- ---- the table

-- what each asks of its operands
abbrev pub asked : Operation → List OperandHead → List Fault
asked Plus hs = all_of_kind Integer hs
asked Minus hs = all_of_kind Integer hs
asked Not hs = all_of_kind Boolean hs
asked (Compare comparison) hs = alike Null hs
asked (Is test) hs = test_faults test hs
asked (IsNot test) hs = test_faults test hs
asked In hs = like_first hs
asked NotIn hs = like_first hs
asked Modulo hs = all_of_kind Integer hs
asked CharLength hs = all_of_kind Text hs
asked Substring hs = in_turn (Text ∷ Integer ∷ Integer ∷ []) hs
asked (Cast to) hs = cast_faults to hs
asked Coalesce hs = alike Null hs
asked Case hs = arms Boolean Null None hs
asked CaseOf hs = arms_of hs

-- the kind that each gives
abbrev pub given : Operation → List OperandHead → Kind
given Plus hs = Integer
given Minus hs = Integer
given Not hs = Boolean
given (Compare comparison) hs = Boolean
given (Is test) hs = Boolean
given (IsNot test) hs = Boolean
given In hs = Boolean
given NotIn hs = Boolean
given Modulo hs = Integer
given CharLength hs = Integer
given Substring hs = Text
given (Cast to) hs = kind_of_type (type_of to)
given Coalesce hs = common Null hs
given Case hs = kind_of_arms Null None hs
given CaseOf hs = kind_of_arms_of hs
