-- The order of rows by some of their columns. ISO/IEC 9075-2, 10.10 (sort specification list).
use Rattle.std.specs.Prelude.{List, [], ◌∷◌, slice_index_or, if◌then◌else◌}
use Rattle.std.specs.Ordering.{ordering_then}
use Rattle.std.specs.declared.cmp.Ordering.{Ordering}
use Rattle.std.specs.declared.cmp.Ordering.TheVariants.{Equal}
use Rattle.sql_values.specs.declared.value.Value.TheVariants.{Null}
use Rattle.row_types.specs.Rows.{Row, value_cmp}
use Rattle.row_types.specs.Ordered as ordered
use Rattle.row_types.specs.declared.sort_key.SortKey.{SortKey}

-- how two rows stand by a column: NULL first, and last for a descending one
abbrev pub key_cmp : SortKey → Row → Row → Ordering
key_cmp key a b =
    let x = slice_index_or a key.place Null in let y = slice_index_or b key.place Null in
    if key.descending then value_cmp y x else value_cmp x y

-- the first of these columns in which they differ decides
abbrev pub keys_cmp : List SortKey → Row → Row → Ordering
keys_cmp [] a b = Equal
keys_cmp (key ∷ keys) a b = ordering_then (key_cmp key a b) (keys_cmp keys a b)

-- rows in this order; equal ones keep theirs
abbrev pub in_order : List SortKey → List Row → List Row
in_order keys rows = ordered.in_order (keys_cmp keys) rows
