-- What a reply says of how its statement ended.
use Rattle.std.specs.Prelude.{◌==◌, ℕ, Bool, false, List, Option, None, Some, slice_get}

-- the byte is `!`; where there is none, it is not
abbrev pub begins_with_mark : Option ℕ → Bool
begins_with_mark None = false
begins_with_mark (Some b) = b == 33

-- a reply begins with `!` where its statement ended in an exception or a fault
abbrev pub is_exception : List ℕ → Bool
is_exception reply = begins_with_mark (slice_get reply 0)
