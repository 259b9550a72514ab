use Rattle.grammar_algebra.proofs.Places.{reading_part_answers}
use Rattle.grammar_algebra.proofs.language.reads_part.Goals as goal

pub returns : goal.returns
returns g c n tokens i li = let p = g.P.Part in
    reading_part_answers p.rules p.rules_decide n p.part p.part_decides tokens i li
