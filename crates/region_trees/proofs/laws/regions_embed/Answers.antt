use Rattle.region_trees.proofs.Embedding.{regions_embed}
use Rattle.region_trees.proofs.laws.regions_embed.Goals as goal

pub returns : goal.returns
returns c = regions_embed
