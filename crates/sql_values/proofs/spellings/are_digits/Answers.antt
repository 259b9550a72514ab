use Rattle.std.proofs.Common.{rules, tests, ◌∙◌}
use Rattle.std.proofs.lemmas.Iterator.{YieldsList-from_slice}
use Rattle.std.proofs.lemmas.Iterator.Search.{all_from_yields_List}
use Rattle.sql_texts.specs.Names.{is_digit}
use Rattle.sql_values.proofs.Numerals.{some_digits}
use Rattle.sql_values.proofs.spellings.are_digits.Goals as goal

pub returns-then-not-is_empty : goal.returns-then-not-is_empty
returns-then-not-is_empty c = all_from_yields_List is_digit _ _ _ c.all.ensures.ran
    (YieldsList-from_slice c.args.bytes.now cc) (λ x b q k. search (rules, tests)) ∙
    some_digits c.args.bytes.now (search rules)
