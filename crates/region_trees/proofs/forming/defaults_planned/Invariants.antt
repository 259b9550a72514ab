use Rattle.std.proofs.Common.{◌≡◌, drop}
use Rattle.region_trees.specs.Form.{defaults_planned}
use Rattle.region_trees.proofs.forming.defaults_planned.Given as goal

abbrev pub invariant-loop-declared : goal.invariant-loop-declared
invariant-loop-declared l = defaults_planned l.functions (drop l.declared-index l.variables) ≡
    defaults_planned l.functions l.variables
