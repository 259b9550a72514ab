-- The laws that upper crates cite.
pub use Rattle.listed_calls.proofs.Made.{calls_noted, new_routines_list}
pub use Rattle.listed_calls.proofs.Kept.{calls_kept, none-listed, listed-made, listed-dropped}
