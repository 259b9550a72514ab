use Rattle.rel_algebra.specs.Joins.{table_width}
use Rattle.run_places.proofs.Counted.{derived_counted}
use Rattle.run_places.proofs.widths.source_width.Goals as goal

pub returns-in-Derived : goal.returns-in-Derived
returns-in-Derived c = λ known.
    let tables = table_width c.args.world.now.memory.tables in
    derived_counted known tables c.args.source.now c.in-Derived.query c.get.result.now
    c.query_width.result c.in-Derived.is c.get.ensures (c.query_width.ensures known tables)
