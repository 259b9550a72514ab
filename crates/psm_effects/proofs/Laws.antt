-- What crates above may cite: a prepared query lasts while the tables have their columns, and these
-- are as many by the tables as by the catalog; and EXPLAIN has a reply, and all begin alike.
pub use Rattle.psm_effects.proofs.Answering.{if_ok}
pub use Rattle.psm_effects.proofs.Lasting.{query_lasts}
pub use Rattle.psm_effects.proofs.Preparing.{same_widths}
pub use Rattle.psm_effects.proofs.Explaining.{some_explained, explained_begins}
