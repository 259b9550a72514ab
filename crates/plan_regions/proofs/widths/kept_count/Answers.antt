use Rattle.std.proofs.Common.{◌≡◌, length, sym, ap, ◌∙◌, rules}
use Rattle.rel_algebra.specs.Joins.{places}
use Rattle.plan_regions.proofs.Ended.{places_width}
use Rattle.plan_regions.proofs.widths.kept_count.Goals as goal

pub returns-in-Front : goal.returns-in-Front
returns-in-Front c =
    let e : places 0 c.in-Front.count ≡ c.args.places.now = search rules in
    sym (ap length (sym e) ∙ places_width 0 c.in-Front.count)
