use Rattle.std.proofs.Common.{sym, ap, ◌∙◌}
use Rattle.grammar_algebra.specs.Reading.{begins}
use Rattle.parse_expressions.proofs.Lone.{closers, lone_literal}
use Rattle.parse_expressions.proofs.words.is_lone_literal.Goals as goal

pub returns-then-sees_any-clause-alone : goal.returns-then-sees_any-clause-alone
returns-then-sees_any-clause-alone c begun n =
    lone_literal n c.args.input.now.rest.now (sym c.begins_literal.ensures ∙ begun)
    (ap (begins closers) (sym c.take.ensures) ∙ sym c.sees_any.ensures ∙ c.if-sees_any.true)
