-- What a key feeds to a hasher.
use Rattle.std.specs.Prelude.{[], ◌∷◌, ◌++◌}
use Rattle.std.specs.Str.{encode_utf8_all}
use Rattle.std.specs.Hash as fed
use Rattle.sql_values.specs.declared.value.Value.{Value}
use Rattle.sql_values.specs.declared.value.Value.TheVariants.{Null, Int, Str, Bool as Truth}
use Rattle.row_types.specs.Rows.{Row}

-- a value that is no value of another kind need not be told from it: a hash only has to be the same
-- for the same
abbrev pub value_writes : Value → fed.HashWrites
value_writes Null = fed.u8 2
value_writes (Truth p) = fed.bool p
value_writes (Int n) = fed.i64 n
value_writes (Str s) = fed.str (encode_utf8_all s)

-- what the values of a key feed to a hasher, one after another
abbrev pub values_writes : Row → fed.HashWrites
values_writes [] = []
values_writes (v ∷ vs) = value_writes v ++ values_writes vs
