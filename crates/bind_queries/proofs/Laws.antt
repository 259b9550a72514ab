-- The laws on which upper crates stand.
pub use Rattle.bind_queries.proofs.Sets.{has, front_nil, back_nil, no_fault}
pub use Rattle.bind_queries.proofs.Runs.{in-catalog, runs-by-name, runs-same, runs-both}
pub use Rattle.bind_queries.proofs.Runs.{runs-parts}
pub use Rattle.bind_queries.proofs.Fits.{fitting, expr_used, query_planned, query_fitting}
pub use Rattle.bind_queries.proofs.Fits.{query_used, ordered_planned, ordered_typed_planned}
pub use Rattle.bind_queries.proofs.Fits.{ordered_names}
pub use Rattle.bind_queries.proofs.Fits.{ordered_used, select_of, parts_as_query, conjuncts_planned}
pub use Rattle.bind_queries.proofs.Fits.{conjuncts_uses, bound_planned}
pub use Rattle.bind_queries.proofs.Rows.{plain, plains, expr_plain, exprs_plain, plain_query}
pub use Rattle.bind_queries.proofs.Rows.{query_plain}
pub use Rattle.bind_queries.proofs.Sets.{equal, Names}
pub use Rattle.bind_queries.proofs.Marks.{Known, known_in, Mark, Stands, AllStand, Covers, mark}
pub use Rattle.bind_queries.proofs.Marks.{grown-alone}
pub use Rattle.bind_queries.proofs.Bound.{query-mark}
pub use Rattle.bind_queries.proofs.Induction.{expr-fits, query-fits}
