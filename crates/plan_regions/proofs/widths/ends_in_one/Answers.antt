use Rattle.std.proofs.Common.{◌≡◌, sym, ◌∙◌, arith}
use Rattle.plan_regions.proofs.Ended.{ended}
use Rattle.plan_regions.proofs.widths.ends_in_one.Goals as goal

pub returns-in-Some : goal.returns-in-Some
returns-in-Some c h row outer args =
    let one : c.kept_count.result ≡ 1 = grind (arith, h) in
    ended c.args.nodes.now c.in-Some.places.now row outer args c.in-Some.ensures
    ∙ (sym c.kept_count.ensures ∙ one)
