use Rattle.std.proofs.Common.{rules, ◌≡◌, ◌≤◌, List, ℕ, length, sym, ◌∙◌, subst, string_bytes}
use Rattle.std.specs.Str.{chars}
use Rattle.std.specs.Fmt.{signed_decimal}
use Rattle.sql_values.proofs.Decimals.{chars-decimal, decimal-short, roomy}
use Rattle.sql_values.specs.declared.value.ValueFault.TheVariants.{TooLong}
use Rattle.sql_values.proofs.casts.decimal_text.Goals as goal

pub of-requires : goal.of-requires
of-requires c =
    let made : chars (string_bytes c.in_ok-digits.digits) ≡ signed_decimal c.args.number =
    chars-decimal _ c.args.number c.ranges.number.sfits (search rules) in
    subst (λ (s : List ℕ). length s ≤ 4096) (sym made)
    (decimal-short c.args.number c.ranges.number.sfits)

pub returns : goal.returns
returns c =
    let made : chars (string_bytes c.in_ok-digits.digits) ≡ signed_decimal c.args.number =
    chars-decimal _ c.args.number c.ranges.number.sfits (search rules) in
    roomy TooLong c.in_ok-of.field-0 (signed_decimal c.args.number) c.args.most
    (c.in_ok-of.ensures ∙ made) (search rules)
