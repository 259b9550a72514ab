use Rattle.grammar_algebra.specs.Grammar.{inside, begun}
use Rattle.grammar_algebra.proofs.InTurn.{turns_of, of_turns, turns_of_cut, of_turns_cut}
use Rattle.grammar_algebra.proofs.language.stands_in_turn.Goals as goal

pub returns : goal.returns
returns g c = let p = g.S.Staged in record {
  whole = λ n items tokens rest. (
    turns_of (inside p.rules n) (begun p.rules n) p.part p.item p.next (p.of_parts n) items tokens
        rest,
    of_turns (inside p.rules n) (begun p.rules n) p.part p.item p.next (p.of_parts n) items tokens
        rest,
  );
  cut = λ n tokens end. (
    turns_of_cut (inside p.rules n) (begun p.rules n) p.part p.item p.next (p.of_parts n) tokens
        end,
    of_turns_cut (inside p.rules n) (begun p.rules n) p.part p.item p.next (p.of_parts n) tokens
        end,
  );
}
