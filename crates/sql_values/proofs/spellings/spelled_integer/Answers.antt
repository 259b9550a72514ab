use Rattle.std.proofs.Common.{rules, ◌≡◌, ap, sym, ◌∙◌}
use Rattle.sql_values.specs.Spellings.{trimmed, integer_in}
use Rattle.sql_values.specs.Casts.{integer_or_fault}
use Rattle.sql_values.proofs.Spelling.{no_integer, same_bytes}
use Rattle.sql_values.proofs.spellings.spelled_integer.Goals as goal

pub returns-then-is_ascii : goal.returns-then-is_ascii
returns-then-is_ascii c =
    let same : c.as_str-text.result.now ≡ c.args.text.now =
    same_bytes _ _ (search rules) c.as_str-text.ensures.characters in
    c.number_in.ensures ∙ ap (λ s. integer_or_fault (integer_in s))
    (c.trimmed.ensures ∙ ap trimmed same)

pub returns-else-is_ascii : goal.returns-else-is_ascii
returns-else-is_ascii c =
    sym (ap integer_or_fault (no_integer c.as_str-text.result.now c.args.text.now
    c.as_str-text.ensures.bytes (search rules)))
