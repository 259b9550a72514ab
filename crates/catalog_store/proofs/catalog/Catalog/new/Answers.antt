use Rattle.std.proofs.Common.{[], ap, subst, sym}
use Rattle.catalog_store.specs.Entries.{plain, AreSound}
use Rattle.catalog_store.proofs.catalog.Catalog.new.Goals as goal

pub invariant_of-result : goal.invariant_of-result
invariant_of-result c = (
  subst (AreSound []) (sym c.new.ensures.value) tt,
  c.new.ensures.holds,
)

pub returns : goal.returns
returns c = ap plain c.new.ensures.value
