-- The order of the bytes is the order of the characters.
use Rattle.std.proofs.Common.{rules}
use Rattle.sql_texts.proofs.ByteOrder.{order_of_characters}
use Rattle.sql_texts.proofs.text.Text.order.Goals as goal

pub returns : goal.returns
returns c = search (rules, order_of_characters)
