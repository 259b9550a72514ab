use Rattle.std.proofs.Common.{◌≡◌, ◌++◌}
use Rattle.demo_script.specs.Demo.{number, triples}
use Rattle.demo_script.proofs.script.put_triples.Given as goal

abbrev pub invariant-loop-i : goal.invariant-loop-i
invariant-loop-i l = record {
  last : l.x ≡ number l.seed l.i;
  rows : l.text.items ≡ l.initial.text.items ++ triples l.seed l.i;
}
