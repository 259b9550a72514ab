-- The rows of VALUES, each judged with the kinds of those above. ISO/IEC 9075-2, 7.3 (table value
-- constructor).
use Rattle.std.specs.Prelude.{ℕ, List, [], ◌∷◌, ◌++◌, length}
use Rattle.syntax_trees.specs.declared.anchor.Anchor.{Anchor}
use Rattle.bind_faults.specs.Faults.{Noted, as_value}
use Rattle.bind_kinds.specs.declared.kind.Kind.{Kind}
use Rattle.bind_sight.specs.Sight.{Seen, inside_values}
use Rattle.bind_parts.specs.declared.typed.Operands.{Operands}
use Rattle.bind_parts.specs.declared.typed.TypedQuery.{TypedQuery}
use Rattle.bind_parts.specs.declared.values.TypedRows.{TypedRows}
use Rattle.bind_parts.specs.Turns.{each_noted}
use Rattle.bind_parts.specs.Typed.{alone, no_parts}
use Rattle.bind_parts.specs.ValueRows.{row_faults, with_row, no_rows, values_typed}
use Rattle.bind_queries.specs.Judges.{JudgedRow, all_of}

-- a row with what is asked of it: its length, and the kinds of the rows above and of what it is
-- stored into
abbrev pub row_with : Anchor → List Kind → List Kind → Noted Operands → Noted Operands
row_with at targets kinds so = record {
  value = so.value;
  faults =
      so.faults ++ row_faults at targets kinds so.value.heads;
  uses = so.uses;
}

-- the expressions of a row, in which no aggregate stands
abbrev pub row_values : Seen → JudgedRow → Noted Operands
row_values seen es = alone (all_of seen no_parts es)

-- a row after those above it, which left these kinds
abbrev pub judged_row : Anchor → List Kind → Seen → List Kind → JudgedRow → Noted Operands
judged_row at targets seen kinds es = row_with at targets kinds (row_values seen es)

-- one row more
abbrev pub one_row : Anchor → List Kind → Seen → TypedRows → JudgedRow → Noted TypedRows
one_row at targets seen so r = as_value (with_row so) (judged_row at targets seen so.kinds r)

-- how many expressions the first row has
abbrev pub width_of : List JudgedRow → ℕ
width_of [] = 0
width_of (r ∷ rs) = length r

-- the rows in turn; the first says how many columns there are
abbrev pub judged_rows : Anchor → List Kind → List JudgedRow → Seen → Noted TypedRows
judged_rows at targets rows seen = each_noted (one_row at targets seen) (no_rows (width_of rows))
    rows

-- no aggregate stands in VALUES
abbrev pub judged_values : Anchor → List JudgedRow → List Kind → Seen → Noted TypedQuery
judged_values at rows targets seen = as_value (values_typed at)
    (judged_rows at targets rows (inside_values seen))
