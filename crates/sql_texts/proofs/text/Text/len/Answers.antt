-- The characters that the bytes give are the text's.
use Rattle.std.proofs.Common.{rules}
use Rattle.std.proofs.lemmas.Str.{chars_from_encodes}
use Rattle.sql_texts.proofs.text.Text.len.Goals as goal

pub returns-clause-count : goal.returns-clause-count
returns-clause-count c = search (rules, chars_from_encodes)

pub returns-clause-within : goal.returns-clause-within
returns-clause-within c = search (rules, chars_from_encodes)
