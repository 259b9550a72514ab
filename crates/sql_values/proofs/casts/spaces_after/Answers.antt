use Rattle.std.proofs.Common.{rules, tests, drop, ap, ◌∙◌}
use Rattle.std.proofs.lemmas.Iterator.{YieldsList-from_chars}
use Rattle.std.proofs.lemmas.Iterator.Adapters.{YieldsList-from_skip}
use Rattle.std.proofs.lemmas.Iterator.Search.{all_from_yields_List}
use Rattle.sql_values.specs.Spellings.{is_space, are_spaces}
use Rattle.sql_values.proofs.casts.spaces_after.Goals as goal

pub returns : goal.returns
returns c =
    all_from_yields_List is_space _ _ _ c.all.ensures.ran
    (YieldsList-from_skip c.args.most (YieldsList-from_chars c.as_str.result.now c.as_str.utf8 cc)
    cc) (λ x b q k. search (rules, tests))
    ∙ ap (λ s. are_spaces (drop c.args.most s)) c.as_str.ensures.characters
