-- The bound trees of literals, words and chains. IS NOT and NOT IN are the opposite of the test, IS
-- UNKNOWN asks for NULL, and the sign + leaves its operand. ISO/IEC 9075-2, 5.3 (literal), 6.27 and
-- 6.39.
use Rattle.std.specs.Prelude.{Bool, true, false, List, [], ◌∷◌, Option, Some, None}
use Rattle.sql_values.specs.declared.value.Value.{Value}
use Rattle.sql_values.specs.declared.value.Value.TheVariants.{Null, Int, Str, Bool as Truth}
use Rattle.sql_values.specs.declared.operators.Operator.{Operator}
use Rattle.sql_values.specs.declared.operators.Operator.TheVariants.{Add}
use Rattle.syntax_trees.specs.declared.expr.Literal.{Literal}
use Rattle.syntax_trees.specs.declared.expr.Literal.TheVariants as literal
use Rattle.syntax_trees.specs.declared.expr.ChainOperator.{ChainOperator}
use Rattle.syntax_trees.specs.declared.expr.ChainOperator.TheVariants as chain
use Rattle.syntax_trees.specs.declared.expr.Operation.{Operation}
use Rattle.syntax_trees.specs.declared.expr.Operation.TheVariants.{Plus, Minus, Not, Compare, Is}
use Rattle.syntax_trees.specs.declared.expr.Operation.TheVariants.{IsNot, In, NotIn, Modulo}
use Rattle.syntax_trees.specs.declared.expr.Operation.TheVariants.{CharLength, Substring, Cast}
use Rattle.syntax_trees.specs.declared.expr.Operation.TheVariants.{Coalesce, Case, CaseOf}
use Rattle.syntax_trees.specs.declared.expr.TruthTest.{TruthTest}
use Rattle.syntax_trees.specs.declared.expr.TruthTest.TheVariants as is
use Rattle.bound_trees.specs.declared.expr.BoundExpr.{BoundExpr}
use Rattle.bound_trees.specs.declared.expr.BoundExpr.TheVariants as bound
use Rattle.bound_trees.specs.declared.expr.BoundLink.{BoundLink, roll-BoundLink}
use Rattle.bound_trees.specs.declared.expr.BoundOperation.{BoundOperation}
use Rattle.bound_trees.specs.declared.expr.BoundOperation.TheVariants as word
use Rattle.bind_kinds.specs.Types.{type_of}

-- the value of a literal; UNKNOWN and NULL are the null value
abbrev pub value_of : Literal → Value
value_of (literal.Number n) = Int n
value_of (literal.Text t) = Str t
value_of literal.True = Truth true
value_of literal.False = Truth false
value_of literal.Unknown = Null
value_of literal.Null = Null

-- what stands where nothing is known
abbrev pub missing : BoundExpr
missing = bound.Literal Null

-- ---- words

-- the word of a test after IS
abbrev pub word_of_test : TruthTest → BoundOperation
word_of_test is.Null = word.NullTest
word_of_test is.True = word.TrueTest
word_of_test is.False = word.FalseTest
word_of_test is.Unknown = word.NullTest

-- NOT of an expression
abbrev pub opposite : BoundExpr → BoundExpr
opposite e = bound.Operation word.Opposite (e ∷ [])

-- its operand; over another number of operands the sign + is as the sign -, which stands for NULL
-- there
abbrev pub plus : List BoundExpr → BoundExpr
plus [] = bound.Operation word.Negation []
plus (e ∷ []) = e
plus (e ∷ d ∷ es) = bound.Operation word.Negation (e ∷ d ∷ es)

-- the bound tree of a word over bound operands
abbrev pub tree_of : Operation → List BoundExpr → BoundExpr
tree_of Plus es = plus es
tree_of Minus es = bound.Operation word.Negation es
tree_of Not es = bound.Operation word.Opposite es
tree_of (Compare comparison) es = bound.Operation (word.Comparing comparison) es
tree_of (Is test) es = bound.Operation (word_of_test test) es
tree_of (IsNot test) es = opposite (bound.Operation (word_of_test test) es)
tree_of In es = bound.Operation word.AnyOf es
tree_of NotIn es = opposite (bound.Operation word.AnyOf es)
tree_of Modulo es = bound.Operation word.Modulo es
tree_of CharLength es = bound.Operation word.CharLength es
tree_of Substring es = bound.Operation word.Substring es
tree_of (Cast to) es = bound.Operation (word.Cast (type_of to)) es
tree_of Coalesce es = bound.Operation word.Coalesce es
tree_of Case es = bound.Operation word.Case es
tree_of CaseOf es = bound.Operation word.CaseOf es

-- the word over IN: NOT IN is the opposite of IN
abbrev pub over_in : Bool → Option BoundOperation
over_in false = None
over_in true = Some word.Opposite

-- ---- chains

-- the operators of a chain are of one level; OR and AND don't stand among those of values
abbrev pub operator_in : ChainOperator → Operator
operator_in (chain.Value operator) = operator
operator_in chain.Or = Add
operator_in chain.And = Add

-- an operator with its bound operand
abbrev pub link_of : Operator → BoundExpr → BoundLink
link_of operator operand = roll-BoundLink (record { operator = operator; operand = operand })

-- each operator of a chain with its bound operand
abbrev pub links_of : List ChainOperator → List BoundExpr → List BoundLink
links_of [] es = []
links_of (o ∷ os) [] = []
links_of (o ∷ os) (e ∷ es) = link_of (operator_in o) e ∷ links_of os es

-- a chain of OR or AND is a word over all of its operands
abbrev pub chain_of : BoundExpr → List ChainOperator → List BoundExpr → BoundExpr
chain_of first [] es = first
chain_of first (chain.Or ∷ os) es = bound.Operation word.Or (first ∷ es)
chain_of first (chain.And ∷ os) es = bound.Operation word.And (first ∷ es)
chain_of first (chain.Value operator ∷ os) es =
    bound.Chain first (links_of (chain.Value operator ∷ os) es)
