-- The laws that other crates' proofs use.
pub use Rattle.parse_reads.proofs.Loops.{was_read, was_refused, put_step, put_smaller, put_err}
pub use Rattle.parse_reads.proofs.Loops.{append_step, append_err, put_after_step}
pub use Rattle.parse_reads.proofs.Loops.{put_after_smaller, put_after_err}
