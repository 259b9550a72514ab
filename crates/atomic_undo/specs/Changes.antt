-- What INSERT, UPDATE and DELETE make of a table: ISO/IEC 9075-2, 14.11, 14.14 and 14.9, and the
-- judgement of keys.
use Rattle.std.specs.Prelude.{Bool, true, false, ◌&&◌, slice_index_or, ℕ, ◌≡◌, ◌+◌, ◌-◌, ◌≤◌, ◌<◌}
use Rattle.std.specs.Prelude.{List, [], ◌∷◌, ◌++◌, length, take, drop, slice_set, slice_index}
use Rattle.std.specs.Prelude.{Option, Some, None, Result, Ok, Err}
use Rattle.std.specs.List.{list_all}
use Rattle.std.specs.Ordering.{is_eq}
use Rattle.std.specs.declared.cmp.Ordering.{Ordering}
use Rattle.row_types.specs.Ordered.{in_order, put_all, first_repeat, first_repeat_after}
use Rattle.row_types.specs.Rows.{Row, by_key, fits}
use Rattle.row_types.specs.Tables.{Tables, table_at, with_rows_at}
use Rattle.table_store.specs.Kept.{IsKept}
use Rattle.table_store.specs.Memory.{Memory, kept_at, NoLess}
pub use Rattle.table_store.specs.Places.{Climb, removed_all}
use Rattle.atomic_undo.specs.declared.log.Edit.{Edit}
use Rattle.atomic_undo.specs.declared.fault.ApplyFault.{ApplyFault}
use Rattle.atomic_undo.specs.declared.fault.ApplyFault.TheVariants.{Constraint, NoMemory}
use Rattle.atomic_undo.specs.Undo.{rows_before, CanUndo}

-- the rows with others at places
abbrev pub set_all : List ℕ → List Row → List Row → List Row
set_all [] new rows = rows
set_all (p ∷ ps) [] rows = rows
set_all (p ∷ ps) (r ∷ rs) rows = slice_set (set_all ps rs rows) p r

-- the order of rows by the key of the table at a place
abbrev pub order_in : Tables → ℕ → Row → Row → Ordering
order_in ts t = by_key (table_at ts t).key

-- the rows of the table at a place
abbrev pub rows_in : Tables → ℕ → List Row
rows_in ts t = (table_at ts t).rows

-- a table was given rows, and the edits take it back
pub record Changed (m n : Memory) (t : ℕ) (rows : List Row) (es : List Edit) : Type 0 where
  pub tables : n.tables ≡ with_rows_at t rows m.tables
  pub can : CanUndo (kept_at n t) es
  pub back : rows_before es rows ≡ rows_in m.tables t
  pub capacities : NoLess m.capacities n.capacities

-- nothing changed but memory
pub record Unchanged (m n : Memory) : Type 0 where
  pub tables : n.tables ≡ m.tables
  pub capacities : NoLess m.capacities n.capacities

-- The answer to a change that would give a table these rows, in the order in which keys are judged:
-- it is made, or refused exactly where a row has the key of an earlier one, at the place of the
-- first such row.
abbrev pub IsAnswer : Memory → Memory → ℕ → List Row → Result (List Edit) ApplyFault → Type 0
IsAnswer m n t rows (Ok es) = Changed m n t (in_order (order_in m.tables t) rows) es ×
    (first_repeat (order_in m.tables t) rows ≡ None)
IsAnswer m n t rows (Err (Constraint at)) = Unchanged m n ×
    (first_repeat (order_in m.tables t) rows ≡ Some at)
IsAnswer m n t rows (Err NoMemory) = Unchanged m n

-- The first i of new rows stand in a table, and edits take them back, and with them what earlier
-- edits did.
pub record Going (m n : Memory) (t : ℕ) (new : List Row) (i : ℕ) (before es : List Edit) :
    Type 0 where
  pub tables : n.tables ≡ with_rows_at t (put_all (order_in m.tables t) (rows_in m.tables t)
      (take i new)) m.tables
  pub can : CanUndo (kept_at n t) es
  pub back : rows_before es (put_all (order_in m.tables t) (rows_in m.tables t) (take i new)) ≡
      rows_before before (rows_in m.tables t)
  pub count : i ≤ length new
  pub room : length (put_all (order_in m.tables t) (rows_in m.tables t) (take i new)) +
      (length new - i) ≤ slice_index n.capacities t
  pub judged : first_repeat_after (order_in m.tables t) (rows_in m.tables t) new ≡
      first_repeat_after (order_in m.tables t) (rows_in m.tables t ++ take i new) (drop i new)
  pub capacities : NoLess m.capacities n.capacities

-- New rows are refused at one of them. Some of them stand in a table, and edits take these back.
pub record Refused (m n : Memory) (t : ℕ) (new : List Row) (i : ℕ) (before es : List Edit) :
    Type 0 where
  pub stored : ℕ
  pub going : Going m n t new stored before es
  pub place : i ≤ length new
  pub judged : first_repeat_after (order_in m.tables t) (rows_in m.tables t) new ≡
      Some (length (rows_in m.tables t) + i)

-- new rows went in: all of them, or some where the key of one stands there
abbrev pub WentIn : Memory → Memory → ℕ → List Row → List Edit → List Edit → Option ℕ → Type 0
WentIn m n t new before es None = Going m n t new (length new) before es ×
    (first_repeat_after (order_in m.tables t) (rows_in m.tables t) new ≡ None)
WentIn m n t new before es (Some i) = Refused m n t new i before es

-- New rows don't all go in, since a key would stand twice. Some in place of them stand in a table,
-- and edits take these back.
pub record NotIn (m n : Memory) (t : ℕ) (new : List Row) (before es : List Edit) : Type 0 where
  pub others : List Row
  pub stored : ℕ
  pub going : Going m n t others stored before es
  pub repeats : first_repeat_after (order_in m.tables t) (rows_in m.tables t) new ≡ None → ⊥

-- new rows went in, all of them or not
abbrev pub GoesIn : Memory → Memory → ℕ → List Row → List Edit → List Edit → Bool → Type 0
GoesIn m n t new before es true = WentIn m n t new before es None
GoesIn m n t new before es false = NotIn m n t new before es

-- The rows at places went out but for those of the first that are left, and edits bring them back.
pub record Going_out (m n : Memory) (t : ℕ) (places left : List ℕ) (before es : List Edit) :
    Type 0 where
  pub tables : n.tables ≡ with_rows_at t (rows_in n.tables t) m.tables
  pub there : t < length n.tables
  pub rows : removed_all left (rows_in n.tables t) ≡ removed_all places (rows_in m.tables t)
  pub can : CanUndo (kept_at n t) es
  pub back : rows_before es (rows_in n.tables t) ≡ rows_before before (rows_in m.tables t)
  pub climb : Climb 0 left (length (rows_in n.tables t))
  pub kept : IsKept (kept_at n t)
  pub capacities : NoLess m.capacities n.capacities

-- each new row has the key of the row at its place
abbrev pub keys_stay : (Row → Row → Ordering) → List ℕ → List Row → List Row → Bool
keys_stay cmp [] new rows = true
keys_stay cmp (p ∷ ps) [] rows = true
keys_stay cmp (p ∷ ps) (r ∷ rs) rows = is_eq (cmp r (slice_index_or rows p r)) &&
    keys_stay cmp ps rs rows

-- New rows with the keys of the old ones took their places but for those that are left, and edits
-- bring the old ones back.
pub record Replacing (m n : Memory) (t : ℕ) (places : List ℕ) (new : List Row) (left : List ℕ)
    (more : List Row) (es : List Edit) : Type 0 where
  pub tables : n.tables ≡ with_rows_at t (rows_in n.tables t) m.tables
  pub there : t < length n.tables
  pub rows : set_all left more (rows_in n.tables t) ≡ set_all places new (rows_in m.tables t)
  pub can : CanUndo (kept_at n t) es
  pub back : rows_before es (rows_in n.tables t) ≡ rows_in m.tables t
  pub climb : Climb 0 left (length (rows_in n.tables t))
  pub both : length left ≡ length more
  pub same : keys_stay (order_in n.tables t) left more (rows_in n.tables t) ≡ true
  pub fit : list_all (fits (table_at n.tables t).columns (table_at n.tables t).key) more ≡ true
  pub kept : IsKept (kept_at n t)
  pub capacities : NoLess m.capacities n.capacities

-- a fault names the place that was judged
abbrev pub IsJudged : Option ℕ → ApplyFault → Type 0
IsJudged place (Constraint at) = place ≡ Some at
IsJudged place NoMemory = Unit {0}
