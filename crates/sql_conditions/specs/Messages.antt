-- Message texts, by where their characters lie. ISO/IEC 9075-2, 23.1 (MESSAGE_TEXT).
use Rattle.std.specs.Prelude.{ℕ, List, []}
use Rattle.sql_conditions.specs.declared.message.Words.{Words}
use Rattle.sql_conditions.specs.declared.message.Words.TheVariants.{None, Engine, Written}
use Rattle.sql_conditions.specs.Texts.{message_of}

-- the characters of a message
abbrev pub characters_of : Words → List ℕ
characters_of None = []
characters_of (Engine condition) = message_of condition
characters_of (Written text) = text
