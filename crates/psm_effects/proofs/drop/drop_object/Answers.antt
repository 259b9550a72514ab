-- The tables stay those of the catalog.
use Rattle.std.proofs.Common.{ap₂, sym, subst}
use Rattle.row_types.specs.Tables.{Tables}
use Rattle.catalog_store.specs.Catalog.{Catalog}
use Rattle.psm_effects.specs.Database.{Plain}
use Rattle.psm_effects.specs.Conclusions.{database}
use Rattle.psm_effects.specs.Shapes.{IsWhole}
use Rattle.psm_effects.proofs.Dropping.{dropped_is_whole}
use Rattle.psm_effects.proofs.drop.drop_object.Goals as goal

abbrev plain : Catalog → Tables → Plain
plain catalog tables = record { catalog = catalog; tables = tables }

pub returns-clause-whole : goal.returns-clause-whole
returns-clause-whole c =
    subst IsWhole (sym (ap₂ plain c.drop_entry.ensures.entries c.drop_table.ensures.tables))
    (dropped_is_whole c.args.name.now (database c.args.catalog.now c.args.tables.now)
    c.len-entries.ensures.names c.requires.whole)
