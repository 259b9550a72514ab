-- Texts whose bytes are the same have the same characters.
use Rattle.std.proofs.Common.{rules}
use Rattle.sql_texts.proofs.ByteOrder.{same_characters}
use Rattle.sql_texts.proofs.text.TextPartialEq.eq.Goals as goal

pub returns : goal.returns
returns c = search (rules, same_characters)
