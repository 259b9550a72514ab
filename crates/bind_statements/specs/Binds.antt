-- What a binder answers for a statement: the bound tree exactly where there is no fault, and else
-- the least fault, unless memory runs out, which says nothing of the statement.
use Rattle.std.specs.Prelude.{ℕ, ◌≡◌, Bool, true, List, [], None, IsSome}
use Rattle.statement_trees.specs.declared.statement.Stmt.{Stmt}
use Rattle.bound_trees.specs.declared.query.BoundQuery.{BoundQuery}
use Rattle.catalog_store.specs.Catalog.{Catalog, object_named}
use Rattle.catalog_store.specs.Entries.{ObjectFits}
use Rattle.catalog_store.specs.Planning.{AllPlanned}
use Rattle.catalog_store.specs.Users.{users_of}
use Rattle.catalog_store.specs.Uses.{names_used, uses_in_query}
use Rattle.catalog_store.specs.View.{query_of}
use Rattle.catalog_store.specs.Widths.{width_in}
use Rattle.data_change.specs.Met.{Meets}
pub use Rattle.bind_queries.specs.Binds.{Binds, HasPlan}
use Rattle.bind_queries.specs.Runs.{Runs}
use Rattle.bind_direct.specs.declared.bound.Bound.{Bound}
use Rattle.bind_direct.specs.declared.bound.BoundStatement.{BoundStatement}
use Rattle.bind_direct.specs.declared.bound.Bound.TheVariants as bound
use Rattle.bind_statements.specs.Statements.{judged_statement}

-- a query of rows of the table of a name has a plan, and gives each with all of its columns
abbrev pub MeetsRows : Catalog → List ℕ → BoundQuery → Type 0
MeetsRows catalog name q = HasPlan catalog q ×
    Meets name (width_in catalog name) (query_of catalog q)

-- What is made has a name that stands for nothing, and fits the catalog; what is dropped stands
-- there, and nothing else uses it. Where plans answer it, what a query or a change asks has one: so
-- have the functions that it calls, and the rows of VALUES are of one length. The query of EXPLAIN
-- has one where all that it uses may be run. Of CALL and of a compound statement nothing is said.
abbrev pub BoundFits : Catalog → Bool → Bound → Type 0
BoundFits catalog by_plan (bound.Create name object) = (object_named name catalog ≡ None) ×
    ObjectFits catalog object
BoundFits catalog by_plan (bound.Drop name) = IsSome (object_named name catalog) ×
    (users_of name catalog ≡ 0)
BoundFits catalog by_plan (bound.Insert b listed) = by_plan ≡ true → HasPlan catalog b.source
BoundFits catalog by_plan (bound.Update b) = by_plan ≡ true → MeetsRows catalog b.table b.rows
BoundFits catalog by_plan (bound.Delete b) = by_plan ≡ true → MeetsRows catalog b.table b.rows
BoundFits catalog by_plan (bound.Query q) = by_plan ≡ true → HasPlan catalog q
BoundFits catalog by_plan (bound.Explain q) = Runs catalog (names_used (uses_in_query q)) →
    HasPlan catalog q
BoundFits catalog by_plan (bound.Routine s) = Unit {0}

-- a statement fits a catalog, by whether plans answer it there
abbrev pub StatementFits : Catalog → BoundStatement → Type 0
StatementFits catalog s = BoundFits catalog s.by_plan s.bound

-- a statement without faults fits a catalog whose functions that are kept with plans are planned
abbrev pub FaultlessFits : Type 0
FaultlessFits = (s : Stmt) (catalog : Catalog) → AllPlanned catalog →
    (judged_statement s catalog).faults ≡ [] →
    StatementFits catalog (judged_statement s catalog).value
