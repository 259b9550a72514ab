-- Places further inside.
use Rattle.std.proofs.Common.{◌≡◌, ℕ, suc}
use Rattle.viewing_laws.specs.Standing.{CallsStandBefore}
use Rattle.run_places.specs.declared.place.Place.{Place}
use Rattle.run_places.specs.Insides.{one_inside}
use Rattle.run_places.specs.Standing.{before-prop, same-prop}

-- the same place with one level more, whatever says that its calls stand and that its plans are
-- kept in its catalog
pub further_in : (p : Place) (level : ℕ) (calls : CallsStandBefore p.catalog.now)
    (same : p.kept.now ≡ p.catalog.now) → level ≡ suc p.level →
    record p { level = level; calls = calls; same = same } ≡ one_inside p
further_in p level calls same is = λ i. record p {
  level = is i;
  calls = before-prop p.catalog.now calls p.calls i;
  same = same-prop p.kept.now p.catalog.now same p.same i;
}
