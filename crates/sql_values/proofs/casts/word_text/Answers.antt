use Rattle.std.proofs.Common.{rules, ◌≡◌, ◌≤◌, ◌∙◌, ap, List, ℕ, length, sym, subst, string_bytes}
use Rattle.std.specs.Str.{chars}
use Rattle.sql_values.specs.declared.value.ValueFault.TheVariants.{BadCast}
use Rattle.sql_values.specs.Spellings.{letters}
use Rattle.sql_values.specs.Casts.{word_for}
use Rattle.sql_values.proofs.Decimals.{chars-letters, letters-short, roomy}
use Rattle.sql_values.proofs.casts.word_text.Goals as goal

pub of-requires : goal.of-requires
of-requires c =
    let bytes : string_bytes c.in_ok-from_str.field-0 ≡ letters (word_for c.args.truth) =
    search rules in
    subst (λ (s : List ℕ). length s ≤ 4096) (sym (ap chars bytes ∙
    chars-letters (word_for c.args.truth))) (letters-short (word_for c.args.truth))

pub returns : goal.returns
returns c =
    let bytes : string_bytes c.in_ok-from_str.field-0 ≡ letters (word_for c.args.truth) =
    search rules in
    roomy BadCast c.in_ok-of.field-0 (letters (word_for c.args.truth)) c.args.most
    (c.in_ok-of.ensures ∙ ap chars bytes ∙ chars-letters (word_for c.args.truth)) (search rules)
