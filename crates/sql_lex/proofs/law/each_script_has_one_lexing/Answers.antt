use Rattle.sql_lex.proofs.Lists.{one_lexing, no_other_lexing}
use Rattle.sql_lex.proofs.law.each_script_has_one_lexing.Goals as goal

pub returns : goal.returns
returns c = record { one = one_lexing; no_other = no_other_lexing }
