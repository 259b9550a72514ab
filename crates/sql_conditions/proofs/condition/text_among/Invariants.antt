use Rattle.std.proofs.Common.{◌≡◌, drop}
use Rattle.sql_conditions.specs.Texts.{text_among}
use Rattle.sql_conditions.proofs.condition.text_among.Given as goal

abbrev pub invariant-loop-condition : goal.invariant-loop-condition
invariant-loop-condition l =
    text_among (drop l.condition-index l.conditions) l.state ≡ text_among l.conditions l.state
