-- The greater of two kinds of data access.
use Rattle.std.proofs.Common.{◌≡◌, refl}
use Rattle.catalog_store.specs.declared.entry.DataAccess.{DataAccess}
use Rattle.catalog_store.specs.declared.entry.DataAccess.TheVariants.{ContainsSql, ReadsSqlData}
use Rattle.catalog_store.specs.declared.entry.DataAccess.TheVariants.{ModifiesSqlData}
use Rattle.bind_definitions.specs.Characteristics.{greater}

pub none_before : (a : DataAccess) → greater ContainsSql a ≡ a
none_before ContainsSql = refl
none_before ReadsSqlData = refl
none_before ModifiesSqlData = refl

pub none_after : (a : DataAccess) → greater a ContainsSql ≡ a
none_after ContainsSql = refl
none_after ReadsSqlData = refl
none_after ModifiesSqlData = refl

pub greater_assoc : (a b c : DataAccess) → greater (greater a b) c ≡ greater a (greater b c)
greater_assoc ContainsSql ContainsSql ContainsSql = refl
greater_assoc ContainsSql ContainsSql ReadsSqlData = refl
greater_assoc ContainsSql ContainsSql ModifiesSqlData = refl
greater_assoc ContainsSql ReadsSqlData ContainsSql = refl
greater_assoc ContainsSql ReadsSqlData ReadsSqlData = refl
greater_assoc ContainsSql ReadsSqlData ModifiesSqlData = refl
greater_assoc ContainsSql ModifiesSqlData ContainsSql = refl
greater_assoc ContainsSql ModifiesSqlData ReadsSqlData = refl
greater_assoc ContainsSql ModifiesSqlData ModifiesSqlData = refl
greater_assoc ReadsSqlData ContainsSql ContainsSql = refl
greater_assoc ReadsSqlData ContainsSql ReadsSqlData = refl
greater_assoc ReadsSqlData ContainsSql ModifiesSqlData = refl
greater_assoc ReadsSqlData ReadsSqlData ContainsSql = refl
greater_assoc ReadsSqlData ReadsSqlData ReadsSqlData = refl
greater_assoc ReadsSqlData ReadsSqlData ModifiesSqlData = refl
greater_assoc ReadsSqlData ModifiesSqlData ContainsSql = refl
greater_assoc ReadsSqlData ModifiesSqlData ReadsSqlData = refl
greater_assoc ReadsSqlData ModifiesSqlData ModifiesSqlData = refl
greater_assoc ModifiesSqlData ContainsSql ContainsSql = refl
greater_assoc ModifiesSqlData ContainsSql ReadsSqlData = refl
greater_assoc ModifiesSqlData ContainsSql ModifiesSqlData = refl
greater_assoc ModifiesSqlData ReadsSqlData ContainsSql = refl
greater_assoc ModifiesSqlData ReadsSqlData ReadsSqlData = refl
greater_assoc ModifiesSqlData ReadsSqlData ModifiesSqlData = refl
greater_assoc ModifiesSqlData ModifiesSqlData ContainsSql = refl
greater_assoc ModifiesSqlData ModifiesSqlData ReadsSqlData = refl
greater_assoc ModifiesSqlData ModifiesSqlData ModifiesSqlData = refl
