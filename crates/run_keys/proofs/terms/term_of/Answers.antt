use Rattle.std.proofs.lemmas.Option.{IfSome_then}
use Rattle.std.proofs.lemmas.Result.{IfOk-weaker}
use Rattle.run_choices.specs.Sight.{seen}
use Rattle.run_keys.proofs.Saying.{operation_says}
use Rattle.run_keys.proofs.terms.term_of.Goals as goal

pub returns-in-Operation : goal.returns-in-Operation
returns-in-Operation c =
    IfOk-weaker c.term_by.result _ _ (λ o h. IfSome_then o h (λ t says.
    operation_says c.args.test.now c.in-Operation.operation c.in-Operation.sides
    c.as_slice.result.now (seen c.args.outer.now) c.args.frame.now t c.in-Operation.is
    c.as_slice.ensures says)) c.term_by.ensures
