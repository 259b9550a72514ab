use Rattle.sql_lex.proofs.Longest.{longest}
use Rattle.sql_lex.proofs.law.each_token_is_the_longest.Goals as goal

pub returns : goal.returns
returns c = longest
