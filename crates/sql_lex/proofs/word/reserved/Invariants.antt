use Rattle.std.proofs.Common.{◌≡◌, drop}
use Rattle.std.specs.List.{find}
use Rattle.std.specs.Str.{bytes_eq}
use Rattle.sql_lex.specs.Words.{spelling}
use Rattle.sql_lex.specs.Scan.{reserved}
use Rattle.sql_lex.proofs.word.reserved.Given as goal

-- what is found among the words that are left
abbrev pub invariant-loop-word : goal.invariant-loop-word
invariant-loop-word l = find (λ w. bytes_eq (spelling w) l.capitals) (drop l.word-index l.words) ≡
    reserved l.capitals
