use Rattle.std.proofs.lemmas.Option.{IfSome_then}
use Rattle.plan_scalars.specs.Sights.{sight_of}
use Rattle.plan_rows.proofs.Laws.{among_operands}
use Rattle.plan_scalars.proofs.places.among_in_place.Goals as goal

pub returns-in_ok-value-in-len1-up : goal.returns-in_ok-value-in-len1-up
returns-in_ok-value-in-len1-up c =
    IfSome_then c.among_these.result c.among_these.ensures
    (λ w rest outer. among_operands c.args.operands.now c.first-item.result
    c.in_ok-value-in-len1-up.value.now w (sight_of c.args.row.now outer c.args.args.now)
    c.in-len1-up.len_at_least c.first-item.is (c.in_ok-value-in-len1-up.ensures outer) (rest outer))
