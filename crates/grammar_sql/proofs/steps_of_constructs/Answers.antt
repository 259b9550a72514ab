use Rattle.grammar_sql.proofs.steps_of_constructs.Goals as goal
use Rattle.grammar_sql.proofs.Laws.{go_by_steps, go_by_steps_but_after_end}
use Rattle.grammar_sql.specs.Queries.{query}
use Rattle.grammar_sql.specs.Writing.{dml}
use Rattle.grammar_sql.specs.Definitions.{ddl}
use Rattle.grammar_sql.specs.Sql.{statement}
use Rattle.grammar_sql.specs.Decides.{statement_sound, statement_stands, query_sound, query_stands}
use Rattle.grammar_sql.specs.Decides.{dml_sound, dml_stands, ddl_sound, ddl_stands}

pub returns-clause-statement : goal.returns-clause-statement
returns-clause-statement c = go_by_steps_but_after_end statement statement_sound statement_stands

pub returns-clause-query : goal.returns-clause-query
returns-clause-query c = go_by_steps query query_sound query_stands

pub returns-clause-dml : goal.returns-clause-dml
returns-clause-dml c = go_by_steps dml dml_sound dml_stands

pub returns-clause-ddl : goal.returns-clause-ddl
returns-clause-ddl c = go_by_steps ddl ddl_sound ddl_stands
