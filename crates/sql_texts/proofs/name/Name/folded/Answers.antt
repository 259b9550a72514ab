-- A folded word is a name.
use Rattle.sql_texts.proofs.Folding.{IsName-folded}
use Rattle.sql_texts.proofs.name.Name.folded.Goals as goal

pub invariant_of-result : goal.invariant_of-result
invariant_of-result c = IsName-folded _ _ c.in_ok-letters.ensures c.requires
