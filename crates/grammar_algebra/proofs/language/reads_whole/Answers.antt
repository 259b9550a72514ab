use Rattle.grammar_algebra.proofs.Places.{reading_answers, one_spelling}
use Rattle.grammar_algebra.proofs.language.reads_whole.Goals as goal

pub returns : goal.returns
returns g c = let p = g.E.Part in record {
  answers = λ n tokens i li. reading_answers p.rules p.rules_decide n p.part p.part_decides
      g.met.E.Ending.ends tokens i li;
  one = λ n tokens i li. one_spelling p.rules p.rules_decide n p.part p.part_decides
      g.met.E.Ending.ends tokens i li;
}
