-- What a grammar's laws ask of it, in one pass, so that each rule is judged by what its parts came
-- to.
use Rattle.std.specs.Prelude.{Bool, true, false, not, ◌&&◌, ◌||◌, cond, List, [], ◌∷◌, ◌++◌}
use Rattle.sql_lex.specs.declared.token.TokenKind.{TokenKind}
use Rattle.grammar_algebra.specs.declared.stage.Stage.TheVariants.{First, Second, Third}
use Rattle.grammar_algebra.specs.Grammar.{Grammar, token, nested, both, either, optional, many}
use Rattle.grammar_algebra.specs.Grammar.{staged, map_to}
use Rattle.grammar_algebra.specs.Reading.{is_one_of, apart, same_kind}
use Rattle.grammar_sql.specs.Constructs.{Befores, meet, join, if_so, any, none, only, subset}
use Rattle.grammar_sql.specs.Constructs.{before_of, opening_befores, other_befores, is_other}
use Rattle.grammar_sql.specs.Constructs.{same_truth, is_left_paren, is_right_paren, always_closes}
use Rattle.grammar_sql.specs.Constructs.{closing}

-- what is known of a grammar once its parts are known
pub record Summary : Type 0 where
  -- what it begins with, what goes on with a whole spelling, whether nothing spells it
  pub begins : List TokenKind
  pub goes_on : List TokenKind
  pub nullable : Bool
  -- after what its first tokens are told, and what its last ones are
  pub stands : Befores
  pub ends : Befores
  -- one token ahead decides it, and its tokens are told
  pub decides : Bool
  pub told : Bool

-- the summary of one token of a kind
abbrev pub of_token : Bool → TokenKind → Summary
of_token b k = record {
  begins = k ∷ [];
  goes_on = [];
  nullable = false;
  stands = other_befores b k;
  ends = only (before_of k);
  decides = true;
  told = not (closing k);
}

-- a construct whose rule is to be closed by the third kind
abbrev pub of_nested : Bool → TokenKind → TokenKind → TokenKind → Summary
of_nested b opening shut ending = record {
  begins = opening ∷ [];
  goes_on = [];
  nullable = false;
  stands = opening_befores b opening;
  ends = only (before_of ending);
  decides = same_kind ending shut;
  told = is_other (before_of opening) && (same_truth (is_left_paren opening) (is_right_paren shut)
      && always_closes ending);
}

-- of one after another: the seam is told by where the first ends and the second begins
abbrev pub of_both : Summary → Summary → Summary
of_both g h = record {
  begins = g.begins ++ cond g.nullable h.begins [];
  goes_on = h.goes_on ++ cond h.nullable g.goes_on [];
  nullable = g.nullable && h.nullable;
  stands = meet g.stands (if_so g.nullable h.stands any);
  ends = join h.ends (if_so h.nullable g.ends none);
  decides = g.decides && (h.decides && apart h.begins g.goes_on);
  told = g.told && (h.told && subset g.ends h.stands);
}

-- of a choice: its two sides begin apart, and neither spells nothing
abbrev pub of_either : Summary → Summary → Summary
of_either g h = record {
  begins = g.begins ++ h.begins;
  goes_on = g.goes_on ++ h.goes_on;
  nullable = g.nullable || h.nullable;
  stands = meet g.stands h.stands;
  ends = join g.ends h.ends;
  decides =
      g.decides && (h.decides && (apart h.begins g.begins && (not g.nullable && not h.nullable)));
  told = g.told && h.told;
}

-- of what may be left out
abbrev pub of_optional : Summary → Summary
of_optional g = record {
  begins = g.begins;
  goes_on = g.begins ++ g.goes_on;
  nullable = true;
  stands = g.stands;
  ends = g.ends;
  decides = g.decides && not g.nullable;
  told = g.told;
}

-- of a repetition: each item's end is told from the next one's beginning
abbrev pub of_many : Summary → Summary
of_many g = record {
  begins = g.begins;
  goes_on = g.begins ++ g.goes_on;
  nullable = true;
  stands = g.stands;
  ends = g.ends;
  decides = g.decides && (not g.nullable && apart g.begins g.goes_on);
  told = g.told && subset g.ends g.stands;
}

-- the same of the three stages, that of the present one first
abbrev pub each_decides : List TokenKind → Summary → Bool
each_decides all g = g.decides && (not g.nullable && apart all g.goes_on)

-- whether the constructs of one stage are told, with an item of any of the three after it
abbrev pub each_told : Summary → Summary → Summary → Summary → Bool
each_told a b c g = g.told && (subset g.ends a.stands &&
    (subset g.ends b.stands && subset g.ends c.stands))

-- of a repetition by stages, from the present stage's summary and those of the three
abbrev pub of_staged : Summary → Summary → Summary → Summary → Summary
of_staged here a b c = record {
  begins = here.begins ++ cond here.nullable (a.begins ++ (b.begins ++ c.begins)) [];
  goes_on = (a.begins ++ (b.begins ++ c.begins)) ++ (a.goes_on ++ (b.goes_on ++ c.goes_on));
  nullable = true;
  stands = meet a.stands (meet b.stands c.stands);
  ends = join a.ends (join b.ends c.ends);
  decides = each_decides (a.begins ++ (b.begins ++ c.begins)) a &&
      (each_decides (a.begins ++ (b.begins ++ c.begins)) b && each_decides
      (a.begins ++ (b.begins ++ c.begins)) c);
  told = each_told a b c a && (each_told a b c b && each_told a b c c);
}

-- The first argument says which token closes each rule, the second whether the grammar stands right
-- in brackets.
abbrev pub summary : {R : Type 0} {Tree : R → Type 0} {A : Type 0} → (R → TokenKind) → Bool →
    Grammar R Tree A → Summary
summary shut b (token kind) = of_token b kind
summary shut b (nested opening r closing) = of_nested b opening (shut r) closing
summary shut b (both g h) = of_both (summary shut b g) (summary shut b h)
summary shut b (either g h) = of_either (summary shut b g) (summary shut b h)
summary shut b (optional g) = of_optional (summary shut b g)
summary shut b (many g) = of_many (summary shut b g)
summary shut b (staged item next stage) =
    of_staged (summary shut b (item stage)) (summary shut b (item First))
    (summary shut b (item Second)) (summary shut b (item Third))
summary shut b (map_to f g) = summary shut b g

-- which rules stand in brackets
abbrev pub in_round : {R : Type 0} → (R → TokenKind) → R → Bool
in_round shut r = is_right_paren (shut r)

-- A part is sound, and a rule too: nothing that goes on with it closes it, and it may stand right
-- after what opens it.
abbrev pub is_sound : {R : Type 0} {Tree : R → Type 0} {A : Type 0} → (R → TokenKind) → Bool →
    Grammar R Tree A → Bool
is_sound shut b g = (summary shut b g).decides && (summary shut b g).told

-- whether a construct's text, closed by a token of this kind, is sound
abbrev pub is_rule : TokenKind → Summary → Bool
is_rule shut s = s.decides && (s.told && (s.stands.at_other && not (is_one_of shut s.goes_on)))

-- whether a rule is sound, by its own summary
abbrev pub rule_sound : {R : Type 0} {Tree : R → Type 0} → (R → TokenKind) →
    ((r : R) → Grammar R Tree (Tree r)) → R → Bool
rule_sound shut rules r = is_rule (shut r) (summary shut (in_round shut r) (rules r))
