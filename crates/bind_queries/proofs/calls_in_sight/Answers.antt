use Rattle.std.proofs.Common.{◌≡◌, ap, [], ◌∷◌}
use Rattle.std.specs.Prelude.{codes}
use Rattle.bind_sight.specs.Sight.{Seen, at_top, inside_writing}
use Rattle.bind_parts.specs.Typed.{alone, no_parts}
use Rattle.bind_queries.specs.Examples.{number, text, call, with_routines, in_function}
use Rattle.bind_queries.specs.Examples.{in_procedure}
use Rattle.bind_queries.specs.Judges.{Expression, look}
use Rattle.bind_queries.specs.Names.{judge}
use Rattle.bind_queries.specs.Written.{Expr, expr_of}
use Rattle.bind_queries.proofs.Rows.{plain, expr_plain}
use Rattle.bind_queries.proofs.calls_in_sight.Goals as goal

faults-of : (e : Expr) (seen : Seen) → (judge (expr_of e) seen).faults ≡
    (alone (look (plain e).judge seen no_parts)).faults
faults-of e seen = ap (λ (x : Expression). (alone (look x.judge seen no_parts)).faults)
    (expr_plain e)

pub returns : goal.returns
returns c = record {
  with_a_plan = faults-of (call (codes "F") 1 (number 3 ∷ [])) (at_top with_routines);
  without_a_plan = faults-of (call (codes "I") 1 (number 3 ∷ [])) (at_top with_routines);
  of_a_procedure = faults-of (call (codes "P") 1 (number 3 ∷ [])) (at_top with_routines);
  of_itself = faults-of (call (codes "G") 1 (text 3 ∷ [])) (in_function (codes "G"));
  of_itself_before_the_catalog = faults-of (call (codes "F") 1 (number 3 ∷ []))
      (in_function (codes "F"));
  of_its_procedure = faults-of (call (codes "F") 1 (number 3 ∷ [])) (in_procedure (codes "F"));
  writing = faults-of (call (codes "W") 1 (number 3 ∷ [])) (at_top with_routines);
  writing_in_insert = faults-of (call (codes "W") 1 (number 3 ∷ []))
      (inside_writing (at_top with_routines));
  reading_in_insert = faults-of (call (codes "I") 1 (number 3 ∷ []))
      (inside_writing (at_top with_routines));
  of_itself_in_insert = faults-of (call (codes "G") 1 (text 3 ∷ []))
      (inside_writing (in_function (codes "G")));
  arguments_in_insert = faults-of (call (codes "W") 1 []) (inside_writing (at_top with_routines));
}
