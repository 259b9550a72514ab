-- The rows of VALUES, and what is asked of each. ISO/IEC 9075-2, 7.3 (table value constructor) and
-- 9.2 (store assignment).
use Rattle.std.specs.Prelude.{ℕ, ◌==◌, not, List, [], ◌∷◌, ◌++◌, map, length, replicate, None}
use Rattle.syntax_trees.specs.declared.anchor.Anchor.{Anchor}
use Rattle.bound_trees.specs.declared.expr.BoundExpr.{BoundExpr}
use Rattle.bound_trees.specs.declared.query.BoundRow.{BoundRow}
use Rattle.bound_trees.specs.declared.query.BoundRow.TheVariants.{Row}
use Rattle.bound_trees.specs.declared.query.BoundQuery.TheVariants as bound
use Rattle.bind_faults.specs.declared.fault.Fault.{Fault}
use Rattle.bind_faults.specs.declared.fault.FaultKind.TheVariants.{WrongCount}
use Rattle.bind_faults.specs.Faults.{fault_if}
use Rattle.bind_kinds.specs.declared.kind.Kind.{Kind}
use Rattle.bind_kinds.specs.declared.kind.Kind.TheVariants.{Null}
use Rattle.bind_kinds.specs.declared.kind.OperandHead.{OperandHead}
use Rattle.bind_kinds.specs.Kinds.{in_turn, joined_row}
use Rattle.bind_sight.specs.declared.output.Output.{Output}
use Rattle.bind_parts.specs.declared.typed.Operands.{Operands}
use Rattle.bind_parts.specs.declared.typed.TypedQuery.{TypedQuery}
use Rattle.bind_parts.specs.declared.values.TypedRows.{TypedRows}

-- ---- a row

-- a bound row of these expressions
abbrev pub row_of : List BoundExpr → BoundRow
row_of es = Row es

-- a row's first expression; a row without one has another token
abbrev pub anchor_of_row : Anchor → List OperandHead → Anchor
anchor_of_row other [] = other
anchor_of_row other (h ∷ hs) = h.at

-- So many as there are columns, each of its column's kind so far, and of the kind of what it is
-- stored into.
abbrev pub row_faults : Anchor → List Kind → List Kind → List OperandHead → List Fault
row_faults at targets kinds hs =
    fault_if (not (length hs == length kinds)) WrongCount (anchor_of_row at hs) ++
    (in_turn kinds hs ++ in_turn targets hs)

-- ---- rows

-- one row more, whose kinds stand above those below it
abbrev pub with_row : TypedRows → Operands → TypedRows
with_row so o = record {
  kinds = joined_row so.kinds o.heads;
  rows =
      so.rows ++ row_of o.trees ∷ [];
}

-- columns of which no value is known yet
abbrev pub no_rows : ℕ → TypedRows
no_rows width = record { kinds = replicate width Null; rows = [] }

-- ---- VALUES as a query

-- a column of a kind, without a name
abbrev pub unnamed : Kind → Output
unnamed kind = record { name = None; kind = kind }

-- its columns have no names
abbrev pub values_typed : Anchor → TypedRows → TypedQuery
values_typed at v = record { at = at; columns = map unnamed v.kinds; tree = bound.Values v.rows }
