use Rattle.sql_lex.proofs.Scanning.{front_is_word_like}
use Rattle.sql_lex.proofs.step.word.Goals as goal

pub folded-requires : goal.folded-requires
folded-requires c = front_is_word_like c.args.bytes.now _ c.requires c.name_width-width.ensures
    c.if-width-gt-MOST_NAME.false
