use Rattle.std.proofs.Common.{codes}
use Rattle.demo_script.specs.Demo.{triples}
use Rattle.demo_script.proofs.Steps.{in_turn_on_ok}
use Rattle.demo_script.proofs.script.put_insert.Goals as goal

pub returns : goal.returns
returns c = in_turn_on_ok c.put-2.result c.args.text.now.items c.put.new.text.items
    c.put_triples.new.text.items c.put-2.new.text.items (codes "INSERT INTO p VALUES ")
    (triples c.args.seed c.args.rows) (codes ";\n") c.in_ok-put.ensures
    c.in_ok-put_triples.ensures c.put-2.ensures
