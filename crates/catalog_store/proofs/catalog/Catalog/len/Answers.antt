use Rattle.std.proofs.Common.{[], length, ap, subst, arith}
use Rattle.std.specs.List.{IsDistinct}
use Rattle.std.specs.Str.{bytes_eq}
use Rattle.catalog_store.specs.Catalog.{Catalog, names_of}
use Rattle.catalog_store.specs.Holding.{held}
use Rattle.catalog_store.specs.Planning.{AllPlanned}
use Rattle.catalog_store.proofs.Sound.{length-with_all}
use Rattle.catalog_store.proofs.Planned.{all_planned, all_distinct, none_alike}
use Rattle.catalog_store.proofs.catalog.Catalog.len.Goals as goal

pub returns-clause-value : goal.returns-clause-value
returns-clause-value c = omega (
  arith,
  c.len.ensures,
  length-with_all [] (held c.self.inside.entries),
  ap (λ (k : Catalog). length k) c.self.view_is,
)

pub returns-clause-names : goal.returns-clause-names
returns-clause-names c =
    subst (λ (k : Catalog). IsDistinct bytes_eq (names_of k)) c.self.view_is
    (all_distinct [] (held c.self.inside.entries) c.self.invariant.0 none_alike)

pub returns-clause-planned : goal.returns-clause-planned
returns-clause-planned c = subst AllPlanned c.self.view_is
    (all_planned [] (held c.self.inside.entries) (λ name. tt) c.self.invariant.0)
