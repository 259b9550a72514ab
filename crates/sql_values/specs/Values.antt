-- What the operations on numbers give, and the order of values: ISO/IEC 9075-2, 6.27 (numeric value
-- expression), 6.28 (MOD) and 8.2 (comparison predicate).
use Rattle.std.specs.Prelude.{ℕ, List, ℤ, pos, negsuc, ◌+ℤ◌, ◌-ℤ◌, ◌*ℤ◌, neg_ℤ, int_div, int_rem}
use Rattle.std.specs.Prelude.{int_le, ◌^◌, ◌-◌, ◌&&◌, Bool, true, false, if◌then◌else◌, Option}
use Rattle.std.specs.Prelude.{Some, None, Result, Ok, Err}
use Rattle.std.specs.Ordering.{int_cmp, bool_cmp, nat_cmp, int_eq}
use Rattle.std.specs.Cmp.Lexicographic.{slice_cmp}
use Rattle.std.specs.declared.cmp.Ordering.{Ordering}
use Rattle.sql_values.specs.declared.value.Value.{Value}
use Rattle.sql_values.specs.declared.value.Value.TheVariants.{Null, Int, Str, Bool as Truth}
use Rattle.sql_values.specs.declared.value.ValueFault.{ValueFault}
use Rattle.sql_values.specs.declared.value.ValueFault.TheVariants.{OutOfRange, DivZero}
use Rattle.sql_values.specs.declared.value.ValueFault.TheVariants.{NoMemory as WantOfMemory}

-- INTEGER: from -2^63 to 2^63-1
abbrev pub is_integer : ℤ → Bool
is_integer z = int_le (negsuc (2 ^ 63 - 1)) z && int_le z (pos (2 ^ 63 - 1))

-- a value, or why there is none; no definition gives want of memory
abbrev pub Outcome : Type 0
Outcome = Result Value ValueFault

-- what holds of an operation's answer unless memory was wanting
abbrev pub UnlessNoMemory : {A : Type 0} → Result A ValueFault → Type 0 → Type 0
UnlessNoMemory (Err WantOfMemory) P = Unit {0}
UnlessNoMemory _ P = P

-- the exact result, where it is an INTEGER
abbrev pub ranged : ℤ → Outcome
ranged z = if is_integer z then Ok (Int z) else Err OutOfRange

-- two numbers; a NULL operand gives NULL
abbrev pub of_numbers : (ℤ → ℤ → Outcome) → Value → Value → Outcome
of_numbers f (Int x) (Int y) = f x y
of_numbers f _ _ = Ok Null

-- a + b: the exact sum, or a fault where it is no INTEGER
abbrev pub sum_of : Value → Value → Outcome
sum_of = of_numbers (λ x y. ranged (x +ℤ y))

-- a - b: the exact difference, or a fault where it is no INTEGER
abbrev pub difference_of : Value → Value → Outcome
difference_of = of_numbers (λ x y. ranged (x -ℤ y))

-- a * b: the exact product, or a fault where it is no INTEGER
abbrev pub product_of : Value → Value → Outcome
product_of = of_numbers (λ x y. ranged (x *ℤ y))

-- the quotient, cut towards zero; a zero divisor is a fault
abbrev pub divided : ℤ → ℤ → Outcome
divided x y = if int_eq y (pos 0) then Err DivZero else ranged (int_div x y)

-- a / b: cut towards zero; NULL by zero is NULL, and no fault
abbrev pub quotient_of : Value → Value → Outcome
quotient_of = of_numbers divided

-- what the division leaves, with the sign of the dividend; a zero divisor is a fault
abbrev pub left_over : ℤ → ℤ → Outcome
left_over x y = if int_eq y (pos 0) then Err DivZero else Ok (Int (int_rem x y))

-- MOD(a, b): it has the sign of a; NULL by zero is NULL, and no fault
abbrev pub remainder_of : Value → Value → Outcome
remainder_of = of_numbers left_over

-- - a: a fault for the least INTEGER alone, of which the negation is none
abbrev pub negation_of : Value → Outcome
negation_of (Int x) = ranged (neg_ℤ x)
negation_of _ = Ok Null

-- texts, character by character, by code point, without padding
abbrev pub text_cmp : List ℕ → List ℕ → Ordering
text_cmp = slice_cmp nat_cmp

-- the order of two values of one kind, FALSE before TRUE; unknown where an operand is NULL
abbrev pub order_of : Value → Value → Option Ordering
order_of (Int x) (Int y) = Some (int_cmp x y)
order_of (Str s) (Str t) = Some (text_cmp s t)
order_of (Truth p) (Truth q) = Some (bool_cmp p q)
order_of _ _ = None

-- the value is NULL, which every type has
abbrev pub is_null : Value → Bool
is_null Null = true
is_null _ = false

-- the value is TRUE; FALSE and unknown, which is NULL, are not
abbrev pub is_true : Value → Bool
is_true (Truth p) = p
is_true _ = false
