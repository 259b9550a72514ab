use Rattle.std.proofs.Common.{ap, sym, ◌∙◌}
use denote.Enum.Bare.{same_true}
use Rattle.sql_lex.specs.contracts.word.Word.{the_type as words}
use Rattle.sql_lex.specs.declared.token.TokenKind.TheVariants as kinds
use Rattle.grammar_algebra.proofs.input.is_same.Goals as goal

pub returns-in-Word-b-clause-means : goal.returns-in-Word-b-clause-means
returns-in-Word-b-clause-means c e = c.in-Word.is ∙
    ap kinds.Word (same_true words tt _ _ (sym c.eq.ensures ∙ e)) ∙ sym c.in-Word-b.is
