use Rattle.block_places.proofs.Seen.{seen_in_place}
use Rattle.block_places.proofs.seen_in_place.Goals as goal

pub returns : goal.returns
returns c = seen_in_place
