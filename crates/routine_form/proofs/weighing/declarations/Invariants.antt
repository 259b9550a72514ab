use Rattle.std.proofs.Common.{◌≡◌, ◌≤◌, drop}
use Rattle.routine_form.specs.declared.sum.TheConstants.{HEAVIEST}
use Rattle.routine_form.specs.Sums.{add}
use Rattle.routine_form.specs.Weight.{declarations}
use Rattle.routine_form.proofs.weighing.declarations.Given as goal

abbrev pub invariant-loop-declared : goal.invariant-loop-declared
invariant-loop-declared l = record {
  counted : add l.weight (declarations l.catalog l.handlers (drop l.declared-index l.variables)) ≡
      declarations l.catalog l.handlers l.variables;
  most : l.weight ≤ HEAVIEST;
}
