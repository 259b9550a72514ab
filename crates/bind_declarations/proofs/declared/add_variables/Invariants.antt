use Rattle.std.proofs.Common.{◌≡◌, drop}
use Rattle.bind_faults.specs.Faults.{noted}
use Rattle.bind_declarations.specs.Declarations.{with_variables, names_faults}
use Rattle.bind_declarations.proofs.declared.add_variables.Given as goal

abbrev pub invariant-loop-ident : goal.invariant-loop-ident
invariant-loop-ident l = record {
  value : with_variables (drop l.ident-index l.idents) l.variable l.scope ≡ with_variables l.idents
      l.variable l.initial.scope;
  faults : noted l.least (names_faults (drop l.ident-index l.idents) l.variable l.scope) ≡
      noted l.initial.least (names_faults l.idents l.variable l.initial.scope);
}
