-- What the words of bound trees ask of the kinds of their operands, and the kind that each gives.
-- ISO/IEC 9075-2, 6.12 (case expression), 6.13 (cast specification), 6.27 to 6.32 (values of
-- numbers and texts), 6.39 (boolean value expression), 8.2 (comparison), 8.4 (in) and 10.9
-- (aggregate function).
use Rattle.std.specs.Prelude.{Bool, true, false, ◌&&◌, List, [], ◌∷◌}
use Rattle.std.specs.List.{list_all}
use Rattle.sql_values.specs.declared.fold.FoldKind.{FoldKind}
use Rattle.sql_values.specs.declared.fold.FoldKind.TheVariants.{Count, Sum, Avg, Min, Max}
use Rattle.sql_values.specs.declared.operators.Operator.{Operator}
use Rattle.sql_values.specs.declared.value.Value.{Value}
use Rattle.sql_values.specs.declared.value.Value.TheVariants as value
use Rattle.bound_trees.specs.declared.expr.BoundOperation.{BoundOperation}
use Rattle.bound_trees.specs.declared.expr.BoundOperation.TheVariants as word
use Rattle.bind_kinds.specs.declared.kind.Kind.{Kind}
use Rattle.bind_kinds.specs.declared.kind.Kind.TheVariants.{Integer, Text, Boolean, Null}
use Rattle.bind_kinds.specs.Kinds.{kind_of_type, fits, joined}
use Rattle.bind_kinds.specs.Chains.{kind_of_operator}
use Rattle.bind_kinds.specs.Operations.{is_cast}

-- NULL alone is of kind Null
abbrev pub kind_of_value : Value → Kind
kind_of_value value.Null = Null
kind_of_value (value.Int n) = Integer
kind_of_value (value.Str s) = Text
kind_of_value (value.Bool b) = Boolean

-- ---- several kinds

-- each fits what is wanted
abbrev pub all_fit : Kind → List Kind → Bool
all_fit wanted ks = list_all (fits wanted) ks

-- each fits those before it
abbrev pub alike : Kind → List Kind → Bool
alike kind [] = true
alike kind (k ∷ ks) = fits kind k && alike (joined kind k) ks

-- the kind of what is alike
abbrev pub common : Kind → List Kind → Kind
common kind [] = kind
common kind (k ∷ ks) = common (joined kind k) ks

-- each fits the first
abbrev pub like_first : List Kind → Bool
like_first [] = true
like_first (k ∷ ks) = all_fit k ks

-- each fits what is wanted at its place, as far as both go
abbrev pub in_turn : List Kind → List Kind → Bool
in_turn [] ks = true
in_turn (w ∷ ws) [] = true
in_turn (w ∷ ws) (k ∷ ks) = fits w k && in_turn ws ks

-- each fits what is wanted at its place, and there are as many
abbrev pub each_fits : List Kind → List Kind → Bool
each_fits [] [] = true
each_fits [] (k ∷ ks) = false
each_fits (w ∷ ws) [] = false
each_fits (w ∷ ws) (k ∷ ks) = fits w k && each_fits ws ks

-- ---- CASE

-- tests and results in turn, and perhaps a last result: each test is of the kind that is wanted,
-- each result fits those before it
abbrev pub arms : Kind → Kind → List Kind → Bool
arms wanted kind [] = true
arms wanted kind (last ∷ []) = fits kind last
arms wanted kind (test ∷ result ∷ ks) = (fits wanted test && fits kind result) && arms wanted
    (joined kind result) ks

-- the kind of the results
abbrev pub kind_of_arms : Kind → List Kind → Kind
kind_of_arms kind [] = kind
kind_of_arms kind (last ∷ []) = joined kind last
kind_of_arms kind (_ ∷ result ∷ ks) = kind_of_arms (joined kind result) ks

-- with an operand, each is compared with it
abbrev pub arms_of : List Kind → Bool
arms_of [] = true
arms_of (operand ∷ ks) = arms operand Null ks

-- the kind that the arms of a CASE with an operand have in common
abbrev pub kind_of_arms_of : List Kind → Kind
kind_of_arms_of [] = Null
kind_of_arms_of (operand ∷ ks) = kind_of_arms Null ks

-- ---- words

-- Whether a word takes operands of these kinds. Over another number of them than it takes it stands
-- for NULL.
abbrev pub allows : BoundOperation → List Kind → Bool
allows word.Negation ks = all_fit Integer ks
allows word.Opposite ks = all_fit Boolean ks
allows (word.Comparing comparison) ks = alike Null ks
allows word.NullTest ks = true
allows word.TrueTest ks = all_fit Boolean ks
allows word.FalseTest ks = all_fit Boolean ks
allows word.AnyOf ks = like_first ks
allows word.Modulo ks = all_fit Integer ks
allows word.CharLength ks = all_fit Text ks
allows word.Substring ks = in_turn (Text ∷ Integer ∷ Integer ∷ []) ks
allows (word.Cast to) ks = list_all (is_cast (kind_of_type to)) ks
allows word.And ks = all_fit Boolean ks
allows word.Or ks = all_fit Boolean ks
allows word.Coalesce ks = alike Null ks
allows word.Case ks = arms Boolean Null ks
allows word.CaseOf ks = arms_of ks

-- the kind that it gives
abbrev pub gives : BoundOperation → List Kind → Kind
gives word.Negation ks = Integer
gives word.Opposite ks = Boolean
gives (word.Comparing comparison) ks = Boolean
gives word.NullTest ks = Boolean
gives word.TrueTest ks = Boolean
gives word.FalseTest ks = Boolean
gives word.AnyOf ks = Boolean
gives word.Modulo ks = Integer
gives word.CharLength ks = Integer
gives word.Substring ks = Text
gives (word.Cast to) ks = kind_of_type to
gives word.And ks = Boolean
gives word.Or ks = Boolean
gives word.Coalesce ks = common Null ks
gives word.Case ks = kind_of_arms Null ks
gives word.CaseOf ks = kind_of_arms_of ks

-- an operator takes operands of its kind, and gives one of it
abbrev pub operator_allows : Operator → Kind → Kind → Bool
operator_allows operator left right = fits (kind_of_operator operator) left &&
    fits (kind_of_operator operator) right

-- ---- aggregates

-- SUM and AVG are of numbers, the others of any values
abbrev pub aggregate_allows : FoldKind → Kind → Bool
aggregate_allows Count k = true
aggregate_allows Sum k = fits Integer k
aggregate_allows Avg k = fits Integer k
aggregate_allows Min k = true
aggregate_allows Max k = true

-- COUNT, SUM and AVG give numbers, MIN and MAX the kind of their argument
abbrev pub aggregate_gives : FoldKind → Kind → Kind
aggregate_gives Count k = Integer
aggregate_gives Sum k = Integer
aggregate_gives Avg k = Integer
aggregate_gives Min k = k
aggregate_gives Max k = k
