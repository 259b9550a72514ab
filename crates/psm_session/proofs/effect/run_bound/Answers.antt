-- A statement that makes and drops nothing leaves the shapes of the tables, and so their names.
use Rattle.psm_session.proofs.Naming.{names-stay}
use Rattle.psm_session.proofs.effect.run_bound.Goals as goal

pub returns-in-Insert-clause-names : goal.returns-in-Insert-clause-names
returns-in-Insert-clause-names c = names-stay c.args.catalog.now c.args.tables.now.tables
    c.run_insert-reply.new.tables.tables c.args.names.now.items c.requires.names c.requires.whole
    c.run_insert-reply.ensures.whole

pub returns-in-Update-clause-names : goal.returns-in-Update-clause-names
returns-in-Update-clause-names c = names-stay c.args.catalog.now c.args.tables.now.tables
    c.run_update-reply.new.tables.tables c.args.names.now.items c.requires.names c.requires.whole
    c.run_update-reply.ensures.whole

pub returns-in-Delete-clause-names : goal.returns-in-Delete-clause-names
returns-in-Delete-clause-names c = names-stay c.args.catalog.now c.args.tables.now.tables
    c.run_delete-reply.new.tables.tables c.args.names.now.items c.requires.names c.requires.whole
    c.run_delete-reply.ensures.whole

pub returns-in-Query-clause-names : goal.returns-in-Query-clause-names
returns-in-Query-clause-names c = names-stay c.args.catalog.now c.args.tables.now.tables
    c.run_query-reply.new.tables.tables c.args.names.now.items c.requires.names c.requires.whole
    c.run_query-reply.ensures.whole

pub returns-in-Routine-clause-names : goal.returns-in-Routine-clause-names
returns-in-Routine-clause-names c = names-stay c.args.catalog.now c.args.tables.now.tables
    c.run_routine-reply.new.tables.tables c.args.names.now.items c.requires.names c.requires.whole
    c.run_routine-reply.ensures.whole
