-- The text of a plan's scalars: a constant as it stands in replies, a column by its place and by
-- how far outside its row is, an argument by its place, and a word with its operands in brackets.
use Rattle.std.specs.Prelude.{ℕ, List, [], ◌∷◌, ◌++◌, codes, decimal, ◌==◌, if◌then◌else◌}
use Rattle.std.specs.List.{flat_map}
use Rattle.sql_values.specs.declared.value.SqlType.{SqlType}
use Rattle.sql_values.specs.declared.value.SqlType.TheVariants.{Integer, Varchar, Boolean}
use Rattle.sql_values.specs.declared.operators.Operator.{Operator}
use Rattle.sql_values.specs.declared.operators.Operator.TheVariants.{Add, Subtract, Multiply}
use Rattle.sql_values.specs.declared.operators.Operator.TheVariants.{Divide, Concatenate}
use Rattle.sql_values.specs.declared.operators.Comparison.{Comparison}
use Rattle.sql_values.specs.declared.operators.Comparison.TheVariants.{Equals, NotEquals}
use Rattle.sql_values.specs.declared.operators.Comparison.TheVariants.{LessThan, GreaterThan}
use Rattle.sql_values.specs.declared.operators.Comparison.TheVariants.{LessThanOrEquals}
use Rattle.sql_values.specs.declared.operators.Comparison.TheVariants.{GreaterThanOrEquals}
use Rattle.rel_algebra.specs.Tree.{Operation, Negation, Arithmetic, Comparing, Modulo, CharLength}
use Rattle.rel_algebra.specs.Tree.{Substring, Cast, Assign, Opposite, NullTest, TrueTest}
use Rattle.rel_algebra.specs.Tree.{FalseTest, AnyOf, ConditionValue, State, SqlException}
use Rattle.rel_algebra.specs.Tree.{SqlWarning, NotFound}
use Rattle.rel_algebra.specs.OnConditions.{state_item, text_item, ConditionWord}
use Rattle.rel_algebra.specs.OnConditions.{catch_word, matches_word, class_word, number_word}
use Rattle.rel_algebra.specs.OnConditions.{item_word, push_word, retext_word, raise_word}
use Rattle.rel_algebra.specs.Plan.{Word, strict, and_word, or_word, case_word, coalesce_word}
use Rattle.rel_algebra.specs.Plan.{on_condition, Scalar, constant, column, argument, word, Scalars}
use Rattle.rel_algebra.specs.Plan.{none, more}
use Rattle.rel_algebra.specs.PlanText.{Text}
use Rattle.reply_text.specs.Texts.{value_text}

-- ---- lists

-- a text after a mark
abbrev pub after : Text → Text → Text
after mark t = mark ++ t

-- texts in order, with a mark between each two
abbrev pub separated : Text → List Text → Text
separated mark [] = []
separated mark (t ∷ ts) = t ++ flat_map (after mark) ts

-- the same after a space; of no texts not even the space
abbrev pub spaced : Text → List Text → Text
spaced mark [] = []
spaced mark (t ∷ ts) = codes " " ++ separated mark (t ∷ ts)

-- what stands between two in most lists
abbrev pub comma : Text
comma = codes ", "

-- a word, and in brackets its operands
abbrev pub bracketed : Text → List Text → Text
bracketed w ts = w ++ codes "(" ++ separated comma ts ++ codes ")"

-- ---- words

-- a type, as scripts write it in capitals
abbrev pub type_text : SqlType → Text
type_text Integer = codes "INTEGER"
type_text (Varchar n) = codes "VARCHAR(" ++ decimal n ++ codes ")"
type_text Boolean = codes "BOOLEAN"

-- what a handler waits for, as scripts write it in capitals
abbrev pub handler_text : ConditionValue → Text
handler_text (State s) = codes "SQLSTATE '" ++ s ++ codes "'"
handler_text SqlException = codes "SQLEXCEPTION"
handler_text SqlWarning = codes "SQLWARNING"
handler_text NotFound = codes "NOT FOUND"

-- an operator
abbrev pub operator_text : Operator → Text
operator_text Add = codes "add"
operator_text Subtract = codes "sub"
operator_text Multiply = codes "mul"
operator_text Divide = codes "div"
operator_text Concatenate = codes "concat"

-- a comparison
abbrev pub comparison_text : Comparison → Text
comparison_text Equals = codes "eq"
comparison_text NotEquals = codes "ne"
comparison_text LessThan = codes "lt"
comparison_text LessThanOrEquals = codes "le"
comparison_text GreaterThan = codes "gt"
comparison_text GreaterThanOrEquals = codes "ge"

-- an operation that takes all its operands
abbrev pub operation_text : Operation → Text
operation_text Negation = codes "neg"
operation_text (Arithmetic operator) = operator_text operator
operation_text (Comparing comparison) = comparison_text comparison
operation_text Modulo = codes "mod"
operation_text CharLength = codes "length"
operation_text Substring = codes "substring"
operation_text (Cast t) = codes "cast:" ++ type_text t
operation_text (Assign t) = codes "assign:" ++ type_text t
operation_text Opposite = codes "not"
operation_text NullTest = codes "isnull"
operation_text TrueTest = codes "istrue"
operation_text FalseTest = codes "isfalse"
operation_text AnyOf = codes "anyof"

-- a word over a cell that may be a condition
abbrev pub condition_text : ConditionWord → Text
condition_text catch_word = codes "catch"
condition_text (matches_word v) = codes "matches:" ++ handler_text v
condition_text (class_word class) = codes "class:" ++ class
condition_text number_word = codes "number"
condition_text (item_word state_item) = codes "item:state"
condition_text (item_word text_item) = codes "item:text"
condition_text (push_word state) = codes "push:" ++ state
condition_text retext_word = codes "retext"
condition_text raise_word = codes "raise"

-- a word
abbrev pub word_text : Word → Text
word_text (strict operation) = operation_text operation
word_text and_word = codes "and"
word_text or_word = codes "or"
word_text case_word = codes "case"
word_text coalesce_word = codes "coalesce"
word_text (on_condition w) = condition_text w

-- ---- scalars

-- a column of the row itself, from 0
abbrev pub place_text : ℕ → Text
place_text i = codes "#" ++ decimal i

-- the same, or a column of the d-th row outside, d from 1
abbrev pub column_text : ℕ → ℕ → Text
column_text d i = if d == 0 then place_text i else codes "^" ++ decimal d ++ codes "." ++ decimal i

-- an argument, from 0
abbrev pub argument_text : ℕ → Text
argument_text i = codes "$" ++ decimal i

abbrev mutual
  -- a scalar
  pub scalar_text : Scalar → Text
  scalar_text (constant v) = value_text v
  scalar_text (column level i) = column_text level i
  scalar_text (argument i) = argument_text i
  scalar_text (word w operands) = bracketed (word_text w) (scalar_texts operands)

  -- scalars, each by itself
  pub scalar_texts : Scalars → List Text
  scalar_texts none = []
  scalar_texts (more s ss) = scalar_text s ∷ scalar_texts ss
