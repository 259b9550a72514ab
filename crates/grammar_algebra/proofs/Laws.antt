-- The laws that other crates' proofs use.
pub use Rattle.grammar_algebra.proofs.Ahead.{same_is, each_stage, begins-append, apart_stops}
pub use Rattle.grammar_algebra.proofs.After.{After, after_next, spells_after, inside_after}
pub use Rattle.grammar_algebra.proofs.Places.{parsed, parsed_part, reading_answers, one_spelling}
pub use Rattle.grammar_algebra.proofs.Places.{goes_further}
pub use Rattle.grammar_algebra.proofs.Turns.{many_start, many_stop, each_step, each_smaller}
pub use Rattle.grammar_algebra.proofs.Turns.{each_err, joined_step, joined_err, joined_stop}
pub use Rattle.grammar_algebra.proofs.Turns.{after_step, after_smaller, after_err, staged_step}
pub use Rattle.grammar_algebra.proofs.Turns.{staged_err, staged_stop}
