-- Kinds of values, and what is asked of them: ISO/IEC 9075-2, 9.3 (results of data type
-- combinations) and 9.5 (type precedence). Each rule looks at the heads of operands, which say
-- their kinds and places, and at no tree.
use Rattle.std.specs.Prelude.{Bool, true, false, not, List, [], ◌∷◌, ◌++◌}
use Rattle.sql_values.specs.declared.value.SqlType.{SqlType}
use Rattle.sql_values.specs.declared.value.SqlType.TheVariants as type
use Rattle.syntax_trees.specs.declared.anchor.Anchor.{Anchor}
use Rattle.syntax_trees.specs.declared.expr.Literal.{Literal}
use Rattle.syntax_trees.specs.declared.expr.Literal.TheVariants as literal
use Rattle.bind_faults.specs.declared.fault.Fault.{Fault}
use Rattle.bind_faults.specs.declared.fault.FaultKind.TheVariants.{TypeMismatch}
use Rattle.bind_faults.specs.Faults.{fault_if}
use Rattle.bind_kinds.specs.declared.kind.Kind.{Kind}
use Rattle.bind_kinds.specs.declared.kind.Kind.TheVariants.{Integer, Text, Boolean, Null}
use Rattle.bind_kinds.specs.declared.kind.OperandHead.{OperandHead}

-- the kind of a type's values: the length of VARCHAR does not count
abbrev pub kind_of_type : SqlType → Kind
kind_of_type type.Integer = Integer
kind_of_type (type.Varchar n) = Text
kind_of_type type.Boolean = Boolean

-- UNKNOWN is a truth value
abbrev pub kind_of_literal : Literal → Kind
kind_of_literal (literal.Number n) = Integer
kind_of_literal (literal.Text t) = Text
kind_of_literal literal.True = Boolean
kind_of_literal literal.False = Boolean
kind_of_literal literal.Unknown = Boolean
kind_of_literal literal.Null = Null

-- NULL is of kind Null, which fits every kind
abbrev pub fits : Kind → Kind → Bool
fits Null k = true
fits Integer Integer = true
fits Integer Null = true
fits Integer Text = false
fits Integer Boolean = false
fits Text Text = true
fits Text Null = true
fits Text Integer = false
fits Text Boolean = false
fits Boolean Boolean = true
fits Boolean Null = true
fits Boolean Integer = false
fits Boolean Text = false

-- of two kinds that stand beside each other, the one that says more
abbrev pub joined : Kind → Kind → Kind
joined Null k = k
joined Integer k = Integer
joined Text k = Text
joined Boolean k = Boolean

-- the head of an expression at a place, without a fault inside
abbrev pub head_of : Kind → Anchor → OperandHead
head_of kind at = record { kind = kind; at = at; free = true }

-- NULL's kind where a fault was found, so that it makes no second one
abbrev pub quiet : Bool → Kind → Kind
quiet true kind = kind
quiet false kind = Null

-- an expression with a fault inside is of kind Null
abbrev pub settled : Bool → OperandHead → OperandHead
settled free h = record { kind = quiet free h.kind; at = h.at; free = free }

-- ---- what is asked

-- an operand of another kind is a fault at the operand
abbrev pub misfit : Kind → OperandHead → List Fault
misfit wanted h = fault_if (not (fits wanted h.kind)) TypeMismatch h.at

-- operands that are all of one kind
abbrev pub all_of_kind : Kind → List OperandHead → List Fault
all_of_kind kind [] = []
all_of_kind kind (h ∷ hs) = misfit kind h ++ all_of_kind kind hs

-- each of the kind of those before it; the later one is shown
abbrev pub alike : Kind → List OperandHead → List Fault
alike kind [] = []
alike kind (h ∷ hs) = misfit kind h ++ alike (joined kind h.kind) hs

-- the kind of operands that are alike
abbrev pub common : Kind → List OperandHead → Kind
common kind [] = kind
common kind (h ∷ hs) = common (joined kind h.kind) hs

-- each of the kind of the first
abbrev pub like_first : List OperandHead → List Fault
like_first [] = []
like_first (h ∷ hs) = all_of_kind h.kind hs

-- each of the kind at its place, as far as both go
abbrev pub in_turn : List Kind → List OperandHead → List Fault
in_turn [] hs = []
in_turn (k ∷ ks) [] = []
in_turn (k ∷ ks) (h ∷ hs) = misfit k h ++ in_turn ks hs

-- kinds of columns, with one row more
abbrev pub joined_row : List Kind → List OperandHead → List Kind
joined_row [] hs = []
joined_row (k ∷ ks) [] = k ∷ ks
joined_row (k ∷ ks) (h ∷ hs) = joined k h.kind ∷ joined_row ks hs
