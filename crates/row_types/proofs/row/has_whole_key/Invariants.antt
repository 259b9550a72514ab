use Rattle.std.proofs.Common.{◌≡◌, drop, not}
use Rattle.std.specs.List.{list_all}
use Rattle.sql_values.specs.Values.{is_null}
use Rattle.row_types.specs.Rows.{key_of}
use Rattle.row_types.proofs.row.has_whole_key.Given as goal

abbrev pub invariant-loop-place : goal.invariant-loop-place
invariant-loop-place l = list_all (λ v. not (is_null v)) (key_of (drop l.place-index l.key) l.row) ≡
    list_all (λ v. not (is_null v)) (key_of l.key l.row)
