-- The text of SIGNAL and RESIGNAL. ISO/IEC 9075-4, 17.2 (signal statement).
use Rattle.std.specs.Prelude.{ℕ, List, Option, Some, None}
use Rattle.sql_values.specs.declared.value.Value.{Value}
use Rattle.sql_values.specs.declared.value.Value.TheVariants.{Str}

-- the text that a value stands for: none where none is written; NULL stands for no such thing
abbrev pub text_in : Option Value → Option (Option (List ℕ))
text_in None = Some None
text_in (Some (Str s)) = Some (Some s)
text_in (Some v) = None
