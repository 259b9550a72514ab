-- The laws that other crates' proofs use: of a part that may stand after any token, and of one that
-- may stand after any but END.
use Rattle.std.proofs.Common.{◌≡◌, ℕ, true, false, List, Result, ap, ◌∙◌}
use Rattle.sql_lex.specs.Openings.{follows_end}
use Rattle.sql_lex.specs.declared.token.Token.{Token}
use Rattle.grammar_algebra.specs.declared.fault.ParseFault.{ParseFault}
use Rattle.grammar_algebra.specs.Grammar.{Grammar}
use Rattle.grammar_algebra.specs.Statement.{Answers, PartAnswers}
use Rattle.grammar_sql.specs.Constructs.{before_at, has, any, but_end, stands, TellOpen, GoBySteps}
use Rattle.grammar_sql.specs.Constructs.{CountOpen, TellOpenButAfterEnd, GoByStepsButAfterEnd}
use Rattle.grammar_sql.specs.Constructs.{CountOpenButAfterEnd, DeepExactly}
use Rattle.grammar_sql.specs.Decides.{rules_sound}
use Rattle.grammar_sql.specs.Sql.{rules, shut}
use Rattle.grammar_sql.specs.Summary.{is_sound}
use Rattle.grammar_sql.specs.Trees.{Rule, Tree}
use Rattle.grammar_sql.proofs.Constructs.{tell_open_from, go_by_steps_from, count_open_from}
use Rattle.grammar_sql.proofs.Constructs.{deep_exactly as deep_exactly_from}
use Rattle.grammar_sql.proofs.Constructs.{part_deep_exactly as part_deep_exactly_from}
use Rattle.grammar_sql.proofs.Steps.{has_any, has_but_end}

module _ {A : Type 0} (g : Grammar Rule Tree A) (sound : is_sound shut false g ≡ true)
    (after_any : stands false g ≡ any) where
  anywhere : (tokens : List Token) (i : ℕ) → has (before_at tokens i) (stands false g) ≡ true
  anywhere tokens i = ap (has (before_at tokens i)) after_any ∙ has_any (before_at tokens i)

  pub tell_open : TellOpen rules g
  tell_open tokens i = tell_open_from shut rules rules_sound g sound tokens i (anywhere tokens i)

  pub go_by_steps : GoBySteps rules g
  go_by_steps tokens i = go_by_steps_from shut rules rules_sound g sound tokens i
      (anywhere tokens i)

  pub count_open : CountOpen rules g
  count_open tokens i = count_open_from shut rules rules_sound g sound tokens i (anywhere tokens i)

  pub part_deep_exactly : (n : ℕ) (tokens : List Token) (i : ℕ) (r : Result (A × ℕ) ParseFault) →
      PartAnswers rules n g tokens i r → DeepExactly rules n g tokens i r
  part_deep_exactly n tokens i r a = part_deep_exactly_from shut rules rules_sound g sound n tokens
      i (anywhere tokens i) r a

module _ {A : Type 0} (g : Grammar Rule Tree A) (sound : is_sound shut false g ≡ true)
    (after_any_but_end : stands false g ≡ but_end) where
  elsewhere : (tokens : List Token) (i : ℕ) → follows_end tokens i ≡ false →
      has (before_at tokens i) (stands false g) ≡ true
  elsewhere tokens i p = ap (has (before_at tokens i)) after_any_but_end ∙ has_but_end tokens i p

  pub tell_open_but_after_end : TellOpenButAfterEnd rules g
  tell_open_but_after_end tokens i p = tell_open_from shut rules rules_sound g sound tokens i
      (elsewhere tokens i p)

  pub go_by_steps_but_after_end : GoByStepsButAfterEnd rules g
  go_by_steps_but_after_end tokens i p = go_by_steps_from shut rules rules_sound g sound tokens i
      (elsewhere tokens i p)

  pub count_open_but_after_end : CountOpenButAfterEnd rules g
  count_open_but_after_end tokens i p = count_open_from shut rules rules_sound g sound tokens i
      (elsewhere tokens i p)

  pub deep_exactly_but_after_end : (n : ℕ) (tokens : List Token) (i : ℕ)
      (r : Result (A × ℕ) ParseFault) → Answers rules n g tokens i r
      → follows_end tokens i ≡ false → DeepExactly rules n g tokens i r
  deep_exactly_but_after_end n tokens i r a p =
      deep_exactly_from shut rules rules_sound g sound n tokens i (elsewhere tokens i p) r a
