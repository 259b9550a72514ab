-- What is explained by all blocks that may have plans is explained in their catalog.
use Rattle.std.proofs.Common.{◌∙◌}
use Rattle.psm_effects.proofs.Explaining.{explained_there}
use Rattle.psm_effects.proofs.explained.explain_query.Goals as goal

pub returns : goal.returns
returns c =
    explained_there c.args.catalog.now c.with_blocks-functions.result c.args.query.now
    (c.with_blocks-functions.ensures ∙ c.in_ok-blocks.ensures) c.explain_by.result
    c.explain_by.ensures
