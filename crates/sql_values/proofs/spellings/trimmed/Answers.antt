use Rattle.std.proofs.Common.{rules, ◌≡◌, arith, reverse, length, ap, ◌∙◌}
use Rattle.std.proofs.lemmas.List.{length-reverse}
use Rattle.std.proofs.lemmas.List.Sums.{prefix_len-le-length}
use Rattle.std.proofs.lemmas.Str.{IsCharBoundary-from_ascii}
use Rattle.sql_values.specs.Spellings.{is_space}
use Rattle.sql_values.proofs.Trimming.{trimmed-counted}
use Rattle.sql_values.proofs.spellings.trimmed.Goals as goal

pub range_from-rest-requires : goal.range_from-rest-requires
range_from-rest-requires c =
    let same : c.as_bytes.result.now ≡ c.args.text.now = search rules in
    λ _. IsCharBoundary-from_ascii c.args.text.now c.leading_spaces.result c.requires
    (omega (arith, prefix_len-le-length is_space c.as_bytes.result.now, ap length same))

pub overflow_sub-rest : goal.overflow_sub-rest
overflow_sub-rest c =
    let same : c.as_bytes-2.result.now ≡ c.range_from-rest.result.now = search rules in
    omega (
      arith,
      prefix_len-le-length is_space (reverse c.as_bytes-2.result.now),
      length-reverse
          c.as_bytes-2.result.now,
      ap length same,
    )

pub returns : goal.returns
returns c = search rules ∙ trimmed-counted c.args.text.now c.range_from-rest.result.now
    (search rules)
