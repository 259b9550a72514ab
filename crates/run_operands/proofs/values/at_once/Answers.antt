use Rattle.std.proofs.lemmas.Option.{IfSome_then}
use Rattle.run_choices.specs.Sight.{seen}
use Rattle.run_operands.proofs.Given.{chain_given, operation_ends, value_ends}
use Rattle.run_operands.proofs.values.at_once.Goals as goal

pub returns-in-Operation : goal.returns-in-Operation
returns-in-Operation c =
    operation_ends c.args.expr.now c.in-Operation.operation c.in-Operation.operands
    c.as_slice.result.now (seen c.args.rows.now) c.args.frame.now c.word.result c.given.result
    c.in-Operation.is c.as_slice.ensures c.word.ensures c.given.ensures

pub returns-in-Chain : goal.returns-in-Chain
returns-in-Chain c =
    IfSome_then c.chain.result c.chain.ensures (λ r ends. chain_given c.args.expr.now
    c.in-Chain.first c.get.result.now c.in-Chain.links c.as_slice-in-Chain.result.now
    (seen c.args.rows.now) c.args.frame.now r c.in-Chain.is c.get.ensures
    c.as_slice-in-Chain.ensures ends)

pub returns-in-Some : goal.returns-in-Some
returns-in-Some c =
    value_ends c.args.expr.now c.in-Some.value.now (seen c.args.rows.now) c.args.frame.now
    c.copied.result c.in-Some.ensures c.copied.ensures
