-- The prepared query is run over the tables of its catalog.
use Rattle.std.proofs.Common.{ap, ◌∙◌, []}
use Rattle.rel_algebra.specs.Tree.{Query}
use Rattle.rel_algebra.specs.World.{no_self, no_frame}
use Rattle.rel_algebra.specs.Meaning.{answer}
use Rattle.catalog_store.specs.View.{query_of}
use Rattle.catalog_store.specs.Widths.{width_in}
use Rattle.psm_effects.specs.Conclusions.{database}
use Rattle.psm_effects.proofs.Answering.{if_ok}
use Rattle.psm_effects.proofs.Preparing.{lasts_here}
use Rattle.psm_effects.proofs.Seen.{planned_seen}
use Rattle.psm_effects.proofs.planned.planned_answer.Goals as goal

pub returns-clause-ends : goal.returns-clause-ends
returns-clause-ends g c =
    let known = c.args.catalog.now in
    let names = c.len-entries.ensures.names in
    let q = query_of known c.args.query.now in
    if_ok c.run_plan.result
    (λ a ends w h. ap (λ (t : Query). answer t no_self [] no_frame w)
    (planned_seen known c.args.query.now names c.requires.planned)
    ∙ ends q (width_in known) c.in_ok-prepared.ensures.plan
    (lasts_here (database known c.args.tables.now) q c.requires.whole names) w h)
    c.run_plan.ensures.ends
