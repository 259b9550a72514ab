-- What stands around a bound tree, as the laws below have it.
pub use Rattle.typing_queries.specs.Sees.{ColumnIn, ItemIn, ItemsIn, LevelIn, LevelsIn, SlotOf}
pub use Rattle.typing_queries.specs.Sees.{SlotIs, ScopeIn, ScopesIn, Sees}
