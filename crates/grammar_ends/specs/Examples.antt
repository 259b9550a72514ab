-- Worked rows: two compound statements, one after another.
use Rattle.std.specs.Prelude.{◌≡◌, ℕ, true, false, List, [], ◌∷◌, drop, None, refl}
use Rattle.std.proofs.Common.{inr, arith}
use Rattle.sql_lex.specs.declared.sign.Sign.TheVariants as s
use Rattle.sql_lex.specs.declared.token.Lexeme.TheVariants as lexeme
use Rattle.sql_lex.specs.declared.token.Token.{Token}
use Rattle.sql_lex.specs.declared.word.Word.TheVariants as w
use Rattle.sql_lex.specs.Openings.{follows_end, opens_at}
use Rattle.statement_trees.specs.declared.statement.Structure.{Structure}
use Rattle.grammar_algebra.specs.Examples.{tokens_of}
use Rattle.grammar_algebra.specs.Grammar.{Spells, inside}
use Rattle.grammar_algebra.specs.Reading.{next_token}
use Rattle.grammar_sql.specs.declared.structure_word.StructureWord.TheVariants as structure_word
use Rattle.grammar_sql.specs.Trees.{anchor_of}
use Rattle.grammar_sql.specs.Statements.{if_label, labelled_block, structure, construct, end_label}
use Rattle.grammar_sql.specs.Statements.{statements}
use Rattle.grammar_sql.specs.Declarations.{atomic, declarations, block_of, block_body}
use Rattle.grammar_sql.specs.Declarations.{structure_body}
use Rattle.grammar_sql.specs.Sql.{rules, other_statement, unended, statement}
use Rattle.grammar_ends.specs.Begins.{Begins, first, next}

-- BEGIN END; BEGIN END;
abbrev pub two_blocks : List Token
two_blocks = tokens_of (lexeme.Word w.Begin ∷ lexeme.Word w.End ∷ lexeme.Sign s.Semicolon
    ∷ lexeme.Word w.Begin ∷ lexeme.Word w.End ∷ lexeme.Sign s.Semicolon ∷ [])

-- the token at a place
abbrev token_of : ℕ → Token
token_of at = next_token (drop at two_blocks)

-- what stands in the first: neither ATOMIC nor a declaration nor a statement
abbrev empty : Structure
empty = block_of (false, ([], []))

-- it is spelled by no token
empty_is_spelled : Spells (inside rules 0) (structure_body structure_word.Begin) empty
    (drop 1 two_blocks) (drop 1 two_blocks)
unfolding structure_body block_body atomic declarations statements
empty_is_spelled = (
  (false, ([], [])),
  refl,
  (
    drop 1 two_blocks,
    (None, refl, refl),
    (drop 1 two_blocks, refl, refl),
  ),
)

-- the first, up to its END
block_is_spelled : Spells (inside rules 1) (structure structure_word.Begin)
    ((anchor_of (token_of 0), empty), None) two_blocks (drop 2 two_blocks)
unfolding structure construct end_label
block_is_spelled = (
  drop 2 two_blocks,
  (
    (token_of 0, empty),
    refl,
    (
      drop 1 two_blocks,
      drop 1 two_blocks,
      (refl, refl),
      empty_is_spelled,
      (token_of 1, (refl, refl)),
    ),
  ),
  refl,
)

-- The second begins after the `;` of the first,
pub second_begins : Begins two_blocks 3
unfolding statement unended other_statement labelled_block if_label
second_begins = next 0 first 1 _ 3 (
  omega arith,
  omega arith,
  (
    (_, token_of 2),
    refl,
    (
      drop 2 two_blocks,
      inr (inr (inr (inr (inr (
        _,
        refl,
        ((None, _), refl, (two_blocks, refl, block_is_spelled)),
      ))))),
      (refl, refl),
    ),
  ),
)

-- where its BEGIN opens a construct by the tokens alone.
pub opens_there : opens_at two_blocks 3 ≡ true
opens_there = refl

-- END stands right before the `;` alone, where no statement begins.
pub semicolon_follows_end : follows_end two_blocks 2 ≡ true
semicolon_follows_end = refl
