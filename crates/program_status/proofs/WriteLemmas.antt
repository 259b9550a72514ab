-- How a write in pieces goes on.
use Rattle.std.proofs.Common.{◌≡◌, ℕ, ◌-◌, List, ◌++◌, length, take, drop, sym, ◌∙◌, ap, arith}
use Rattle.std.proofs.Common.{append_assoc, take-append-drop}
use Rattle.std.proofs.lemmas.Grind.{common_steps}
use Rattle.std.specs.Prelude.{Option}
use Rattle.io_edges.specs.TakenBytes.{TakenBytes, Takes}
use Rattle.io_edges.proofs.Laws.{Takes-trans}
use Rattle.program_status.specs.Writing.{Went}

to_end : (xs : List ℕ) (n : ℕ) → take (length xs - n) (drop n xs) ≡ drop n xs
to_end xs n = grind (arith, common_steps)

pub went_on : (a b c : Option TakenBytes) (bytes rest : List ℕ) (n : ℕ) → Went a b bytes rest →
    Takes b c (take n rest) → Went a c bytes (take (length rest - n) (drop n rest))
went_on a b c bytes rest n w t = (
  w.0 ++ take n rest,
  w.1 ∙ ap (λ x. w.0 ++ x) (sym (take-append-drop n rest)) ∙
      sym (append_assoc w.0 (take n rest) (drop n rest))
      ∙ ap (λ x. (w.0 ++ take n rest) ++ x) (sym (to_end rest n)),
  Takes-trans a b c w.0 (take n rest) w.2 t,
)
