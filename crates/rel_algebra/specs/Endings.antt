-- How evaluations end that change nothing, and what operations give on values. ISO/IEC 9075-2, 6.13
-- (cast specification), 6.27 (numeric value expression), 6.28 (length expression, MOD), 6.32
-- (SUBSTRING), 8.2 (comparison predicate), 8.4 (in predicate), 8.8 (null predicate), 6.39 (boolean
-- value expression) and 9.2 (store assignment).
use Rattle.std.specs.Prelude.{ℕ, zero, suc, Bool, false, not, if◌then◌else◌, List, [], ◌∷◌, Some}
use Rattle.std.specs.Prelude.{None, Result, Ok, Err}
use Rattle.sql_values.specs.declared.value.Value.{Value}
use Rattle.sql_values.specs.declared.value.Value.TheVariants.{Null, Bool as Truth}
use Rattle.sql_values.specs.declared.operators.Comparison.TheVariants.{Equals}
use Rattle.sql_values.specs.Values.{Outcome, negation_of, remainder_of, is_null, is_true}
use Rattle.sql_values.specs.Texts.{length_of, substring_of}
use Rattle.sql_values.specs.Casts.{cast_to, assigned}
use Rattle.sql_values.specs.Operators.{applied, compared}
use Rattle.sql_conditions.specs.Conditions.{Area, area_of}
use Rattle.row_types.specs.Rows.{Row}
pub use Rattle.row_types.specs.Groups.{value_at}
use Rattle.row_types.specs.declared.cell.Cell.{Cell}
use Rattle.row_types.specs.declared.cell.Cell.TheVariants.{Val, Cond}
use Rattle.rel_algebra.specs.Tree.{Operation, Negation, Arithmetic, Comparing, Modulo, CharLength}
use Rattle.rel_algebra.specs.Tree.{Substring, Cast, Assign, Opposite, NullTest, TrueTest, FalseTest}
use Rattle.rel_algebra.specs.Tree.{AnyOf}
use Rattle.rel_algebra.specs.World.{condition_of}

-- with what it gives, or with the conditions that it raises
abbrev pub Ending : Type 0 → Type 0
Ending A = Result A Area

-- goes on with what the first gives
abbrev pub after : {A B : Type 0} → Ending A → (A → Ending B) → Ending B
after (Ok a) go = go a
after (Err area) go = Err area

-- one after another, as `do` writes it
infixl 1 ◌>>=◌
abbrev pub ◌>>=◌ : {A B : Type 0} → Ending A → (A → Ending B) → Ending B
◌>>=◌ first go = after first go

-- an operation's value, or the condition of its fault
abbrev pub ending_of : Outcome → Ending Value
ending_of (Ok v) = Ok v
ending_of (Err fault) = Err (area_of (condition_of fault))

-- a value, or the conditions that are raised, as a cell
abbrev pub cell_end : Ending Value → Cell
cell_end (Ok v) = Val v
cell_end (Err area) = Cond area

-- whether a value is FALSE. 6.39 (boolean value expression)
abbrev pub is_false : Value → Bool
is_false (Truth p) = not p
is_false _ = false

-- unknown where an operand is NULL
abbrev pub equal_values : Value → Value → Value
equal_values x y = compared Equals x y

-- x IN a list: true where an item is equal, else unknown where a comparison is, else false
abbrev pub among : Value → Value → List Value → Value
among so_far x [] = so_far
among so_far x (v ∷ vs) =
    let c = equal_values x v in if is_true c then c
    else among (if is_null c then c else so_far) x vs

-- what an operation gives; NULL where it is not of so many operands
abbrev pub op_value : Operation → List Value → Ending Value
op_value Negation (x ∷ []) = ending_of (negation_of x)
op_value (Arithmetic operator) (x ∷ y ∷ []) = ending_of (applied operator x y)
op_value (Comparing comparison) (x ∷ y ∷ []) = Ok (compared comparison x y)
op_value Modulo (x ∷ y ∷ []) = ending_of (remainder_of x y)
op_value CharLength (x ∷ []) = Ok (length_of x)
op_value Substring (x ∷ from ∷ []) = ending_of (substring_of x from None)
op_value Substring (x ∷ from ∷ count ∷ []) = ending_of (substring_of x from (Some count))
op_value (Cast t) (x ∷ []) = ending_of (cast_to t x)
op_value (Assign t) (x ∷ []) = ending_of (assigned t x)
op_value Opposite (Truth p ∷ []) = Ok (Truth (not p))
op_value NullTest (x ∷ []) = Ok (Truth (is_null x))
op_value TrueTest (x ∷ []) = Ok (Truth (is_true x))
op_value FalseTest (x ∷ []) = Ok (Truth (is_false x))
op_value AnyOf (x ∷ vs) = Ok (among (Truth false) x vs)
op_value _ _ = Ok Null

-- the i-th row of a stack
abbrev pub row_at : List Row → ℕ → Row
row_at [] i = []
row_at (r ∷ rs) zero = r
row_at (r ∷ rs) (suc i) = row_at rs i
