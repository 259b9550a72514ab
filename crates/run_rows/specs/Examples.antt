-- Worked rows: what a left row gives, and the row of a group. ISO/IEC 9075-2, 7.10 (joined table)
-- and 10.9 (aggregate function).
use Rattle.std.specs.Prelude.{ℕ, pos, ◌≡◌, [], ◌∷◌, Some, None, Ok, Err}
use Rattle.std.proofs.Common.{refl}
use Rattle.sql_values.specs.declared.value.Value.TheVariants.{Null, Int}
use Rattle.sql_values.specs.declared.value.ValueFault.TheVariants.{OutOfRange, DivZero}
use Rattle.sql_conditions.specs.declared.condition.EngineCondition.TheVariants.{DivisionByZero}
use Rattle.sql_conditions.specs.Conditions.{area_of}
use Rattle.row_types.specs.Rows.{Row}
use Rattle.run_rows.specs.Joins.{or_itself}
use Rattle.run_rows.specs.GroupRows.{row_of_ends}

-- a row of one number
abbrev one : ℕ → Row
one n = Int (pos n) ∷ []

-- a row of two numbers
abbrev two : ℕ → ℕ → Row
two m n = Int (pos m) ∷ Int (pos n) ∷ []

-- a left row without a pair, of JOIN
inner_alone : or_itself None (one 1) [] ≡ []
inner_alone = refl

-- of LEFT JOIN with what has one column it stands beside a NULL
outer_alone : or_itself (Some 1) (one 1) [] ≡ (Int (pos 1) ∷ Null ∷ []) ∷ []
outer_alone = refl

-- with a pair the pair alone stands
outer_paired : or_itself (Some 1) (one 1) (two 1 7 ∷ []) ≡ two 1 7 ∷ []
outer_paired = refl

-- of two aggregates that raise the first ends it
first_of_two : row_of_ends (one 1) (Ok Null ∷ Err DivZero ∷ Err OutOfRange ∷ []) ≡
    Err (area_of DivisionByZero)
first_of_two = refl

-- where each gives a value, the row is the key and these
all_give : row_of_ends (one 1) (Ok Null ∷ Ok (Int (pos 2)) ∷ []) ≡ Ok (Int (pos 1) ∷ Null ∷ one 2)
all_give = refl
