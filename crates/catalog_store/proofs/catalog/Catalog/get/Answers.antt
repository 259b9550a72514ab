use Rattle.std.proofs.Common.{◌≡◌, [], Option, None, Some, IfSome, Bor, refl, sym, subst}
use Rattle.std.specs.Option.{option_copied, option_map}
use Rattle.std.specs.Map.{lookup}
use Rattle.std.specs.Str.{bytes_eq}
use Rattle.catalog_store.specs.Catalog.{Catalog, object_named}
use Rattle.catalog_store.specs.Entries.{object_of, ObjectFits, IsPlanned}
use Rattle.catalog_store.specs.Holding.{held}
use Rattle.catalog_store.proofs.Sound.{named_in_all, fits_in_all}
use Rattle.catalog_store.proofs.Lasting.{none_lasting, planned_in_all}
use Rattle.catalog_store.proofs.catalog.Catalog.get.Goals as goal

-- what holds of what is found holds of what is lent
if_some : {A : Type 0} (P : A → Type 0) (r : Option (Bor A)) (x : Option A) → option_copied r ≡ x →
    ((o : A) → x ≡ Some o → P o) → IfSome r (λ o. P o.now)
if_some P None x e h = tt
if_some P (Some r) x e h = h r.now (sym e)

pub returns-clause-value : goal.returns-clause-value
returns-clause-value c =
    let value = named_in_all c.args.name.now [] (held c.self.inside.entries) c.self.invariant.0 refl
    in
    subst (λ (k : Catalog). object_named c.args.name.now k ≡ option_map (object_of k)
    (option_copied c.get.result)) c.self.view_is (rw c.get.ensures value)

pub returns-clause-fits : goal.returns-clause-fits
returns-clause-fits c =
    if_some (ObjectFits c.args.self.now) c.get.result
    (lookup (bytes_eq c.args.name.now) (held c.self.inside.entries)) c.get.ensures
    (λ o q. subst (λ (k : Catalog). ObjectFits k o) c.self.view_is
    (fits_in_all (bytes_eq c.args.name.now) [] (held c.self.inside.entries) o c.self.invariant.0
    q))

pub returns-clause-planned : goal.returns-clause-planned
returns-clause-planned c =
    if_some (IsPlanned c.args.self.now) c.get.result
    (lookup (bytes_eq c.args.name.now) (held c.self.inside.entries)) c.get.ensures
    (λ o q. subst (λ (k : Catalog). IsPlanned k o) c.self.view_is
    (planned_in_all (bytes_eq c.args.name.now) [] (held c.self.inside.entries) o none_lasting
    c.self.invariant.0 q))
