use Rattle.std.proofs.Common.{rules, ◌≡◌, ap, sym, ◌∙◌}
use Rattle.sql_values.specs.Spellings.{trimmed, truth_in}
use Rattle.sql_values.specs.Casts.{truth_or_fault}
use Rattle.sql_values.proofs.Spelling.{no_truth, same_bytes}
use Rattle.sql_values.proofs.spellings.spelled_truth.Goals as goal

pub returns-then-is_ascii : goal.returns-then-is_ascii
returns-then-is_ascii c =
    let same : c.as_str-text.result.now ≡ c.args.text.now =
    same_bytes _ _ (search rules) c.as_str-text.ensures.characters in
    c.word_in.ensures ∙ ap (λ s. truth_or_fault (truth_in s)) (c.trimmed.ensures ∙ ap trimmed same)

pub returns-else-is_ascii : goal.returns-else-is_ascii
returns-else-is_ascii c = sym (ap truth_or_fault
    (no_truth c.as_str-text.result.now c.args.text.now c.as_str-text.ensures.bytes (search rules)))
