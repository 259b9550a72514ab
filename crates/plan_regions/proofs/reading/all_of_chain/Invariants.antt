use Rattle.std.proofs.Common.{◌≡◌, drop}
use Rattle.std.specs.List.{list_all}
use Rattle.region_steps.specs.Chains.{is_of_chain}
use Rattle.plan_regions.proofs.reading.all_of_chain.Given as goal

abbrev pub invariant-loop-node : goal.invariant-loop-node
invariant-loop-node l = list_all is_of_chain (drop l.node-index l.nodes) ≡ list_all is_of_chain
    l.nodes
