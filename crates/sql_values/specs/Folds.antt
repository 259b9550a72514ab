-- What aggregates give: ISO/IEC 9075-2, 10.9 (aggregate function). Nulls are skipped.
use Rattle.std.specs.Prelude.{ℕ, suc, ℤ, pos, ◌+ℤ◌, int_div, nat_abs, ◌+◌, ◌*◌, ◌^◌, ◌<◌, ◌≤◌, ◌||◌}
use Rattle.std.specs.Prelude.{nat_eq, Bool, true, false, List, [], ◌∷◌, if◌then◌else◌, Option, Some}
use Rattle.std.specs.Prelude.{Ok}
use Rattle.std.specs.List.{fold}
use Rattle.std.specs.declared.cmp.Ordering.{Ordering}
use Rattle.std.specs.declared.cmp.Ordering.TheVariants.{Less}
use Rattle.sql_values.specs.declared.value.Value.{Value}
use Rattle.sql_values.specs.declared.value.Value.TheVariants.{Null, Int}
use Rattle.sql_values.specs.declared.fold.FoldKind.{FoldKind}
use Rattle.sql_values.specs.declared.fold.FoldKind.TheVariants.{Count, Sum, Avg, Min, Max}
use Rattle.sql_values.specs.Values.{Outcome, ranged, is_null, order_of}

-- ---- of a list

-- how many aren't NULL
abbrev pub count_of : List Value → ℕ
count_of [] = 0
count_of (v ∷ vs) = if is_null v then count_of vs else suc (count_of vs)

-- what a value adds to a sum: an INTEGER itself, and anything else, NULL among it, nothing
abbrev pub number_in : Value → ℤ
number_in (Int n) = n
number_in _ = pos 0

-- the exact sum of the INTEGERs of a list, without a bound; NULLs add nothing
abbrev pub total_of : List Value → ℤ
total_of [] = pos 0
total_of (v ∷ vs) = number_in v +ℤ total_of vs

-- a number made of the count and the total; of nothing NULL
abbrev pub of_some : (ℕ → ℤ → ℤ) → ℕ → ℤ → Outcome
of_some f count total = if nat_eq count 0 then Ok Null else ranged (f count total)

-- the order is known and is 'less'; of an unknown one it is false
abbrev pub is_less : Option Ordering → Bool
is_less (Some Less) = true
is_less _ = false

-- a value stands before another one of its kind
abbrev pub comes_before : Value → Value → Bool
comes_before a b = is_less (order_of a b)

-- a value takes the place of the best one so far
abbrev pub replaces : FoldKind → Value → Value → Bool
replaces Min best v = is_null best || comes_before v best
replaces Max best v = is_null best || comes_before best v
replaces _ best v = false

-- the better of two
abbrev pub better : FoldKind → Value → Value → Value
better kind best v = if is_null v then best else if replaces kind best v then v else best

-- the best of a list, the first among equal ones; of nothing NULL
abbrev pub best_of : FoldKind → List Value → Value
best_of kind vs = fold (better kind) Null vs

-- a sum is judged at its end alone, and an average is cut towards zero
abbrev pub folded : FoldKind → List Value → Outcome
folded Count vs = Ok (Int (pos (count_of vs)))
folded Sum vs = of_some (λ count total. total) (count_of vs) (total_of vs)
folded Avg vs = of_some (λ count total. int_div total (pos count)) (count_of vs) (total_of vs)
folded Min vs = Ok (best_of Min vs)
folded Max vs = Ok (best_of Max vs)

-- ---- of values that are taken one by one

-- what is kept of those that were taken
pub record Taken : Type 0 where
  pub kind : FoldKind
  pub count : ℕ
  pub total : ℤ
  pub best : Value

-- what is kept before any value was taken
abbrev pub nothing : FoldKind → Taken
nothing kind = record { kind = kind; count = 0; total = pos 0; best = Null }

-- with one value more
abbrev pub with_value : Taken → Value → Taken
with_value t v =
    if is_null v then t else record {
      kind = t.kind;
      count = t.count + 1;
      total =
          t.total +ℤ number_in v;
      best = better t.kind t.best v;
    }

-- with all values of a list, in its order
abbrev pub taken : FoldKind → List Value → Taken
taken kind vs = fold with_value (nothing kind) vs

-- the aggregate of what was taken
abbrev pub finished_by : FoldKind → ℕ → ℤ → Value → Outcome
finished_by Count count total best = Ok (Int (pos count))
finished_by Sum count total best = of_some (λ n z. z) count total
finished_by Avg count total best = of_some (λ n z. int_div z (pos n)) count total
finished_by Min count total best = Ok best
finished_by Max count total best = Ok best

-- the aggregate of what was taken, by its kind
abbrev pub finished : Taken → Outcome
finished t = finished_by t.kind t.count t.total t.best

-- so many INTEGERs have no greater total
abbrev pub IsTotalOf : ℕ → ℤ → Type 0
IsTotalOf count total = (count < 2 ^ 63) × (nat_abs total ≤ count * 2 ^ 63)
