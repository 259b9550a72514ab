use Rattle.std.proofs.lemmas.Option.{IfSome_then}
use Rattle.std.proofs.lemmas.Result.{IfOk-weaker}
use Rattle.run_choices.specs.Sight.{seen}
use Rattle.run_keys.proofs.Saying.{comparison_says, two_sides}
use Rattle.run_keys.proofs.terms.term_by.Goals as goal

pub returns-in-len2 : goal.returns-in-len2
returns-in-len2 c =
    IfOk-weaker c.compared.result _ _ (λ o h. IfSome_then o h (λ t says.
    comparison_says c.args.operation c.in-Comparing.comparison c.args.sides.now
    c.left-item.result c.right-item.result (seen c.args.outer.now) c.args.frame.now t
    c.in-Comparing.is (two_sides c.args.sides.now c.left-item.result c.right-item.result
    c.in-len2.len_at_least c.in-len2.len_below c.left-item.is c.right-item.is) says))
    c.compared.ensures
