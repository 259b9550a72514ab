-- The chain is one over Unit, and each Apply in it can be removed where each in its leaves can.
use Rattle.std.proofs.Common.{◌≡◌, ℕ, zero, suc, ◌+◌, true, false, ◌&&◌, ◌||◌, not, List, [], ◌∷◌}
use Rattle.std.proofs.Common.{length, Option, Some, None, refl, ◌∙◌}
use Rattle.rel_algebra.specs.Emissions.{Folded}
use Rattle.rel_algebra.specs.Plan.{Nodes, PlanTree, Scalars, aggregate, apply, apply_by, extend}
use Rattle.rel_algebra.specs.Plan.{extend_by, into, keep, more, no_node, none, on_each, unit_row}
use Rattle.rel_algebra.specs.Removal.{all_removable, is_anew, is_region, nodes_removable, removable}
use Rattle.rel_algebra.proofs.Reading.{Given}
use Rattle.rel_algebra.proofs.FoldedParts.{InputRemovable, PartsOk}
use Rattle.rel_algebra.proofs.Moves.{NotGiven}
use Rattle.rel_algebra.proofs.Truths.{and_true, left_true, right_true}
use Rattle.rel_algebra.specs.Bodies.{Body, Routine, Target}
use Rattle.rel_algebra.specs.BodyChain.{emit, first_cells, inline_with, place_at, top}
use Rattle.rel_algebra.specs.Leaves.{QueryLeaf, ValueLeaf, Widths}
use Rattle.rel_algebra.specs.BodySteps.{Step, fat, grow, steps_tree}
use Rattle.rel_algebra.proofs.BodyHeld.{QueryRemovable, RoutineRemovable, ValueRemovable}
use Rattle.rel_algebra.proofs.BodyHeld.{routine_gives}
use Rattle.rel_algebra.proofs.BodyTraits.{AllHave, ChainHas, FoldedHas, NodesHave, QueryHas, Trait}
use Rattle.rel_algebra.proofs.BodyTraits.{ValueHas, inline_has}

-- ---- a chain over Unit

on_each_region : (nodes : Nodes) (t : PlanTree) → is_region (on_each nodes t) ≡ is_region t
on_each_region no_node t = refl
on_each_region (extend_by ss a) t = on_each_region a (extend ss t)
on_each_region (apply_by when kind way inner a) t = on_each_region a (apply when kind way inner t)

steps_region : (ss : List Step) (t : PlanTree) → is_region (steps_tree ss t) ≡ is_region t
steps_region [] t = refl
steps_region (grow cs ∷ ss) t = steps_region ss (extend cs t)
steps_region (fat nodes is ∷ ss) t = steps_region ss (keep is (on_each nodes t)) ∙ on_each_region
    nodes t

-- The plan is a chain over Unit.
pub chain_over_unit : (r : Routine) (S : Widths) (params : Scalars) →
    is_region (inline_with r S params) ≡ true
chain_over_unit (Body types returns body) S params = steps_region
    (emit body S [] (top (length types)) 3 4 (3 + length types))
    (extend (first_cells returns params) unit_row)

-- ---- removals

not_given : (cs : List ℕ) (i : ℕ) → NotGiven (place_at cs i)
not_given [] i = tt
not_given (c ∷ cs) zero = tt
not_given (c ∷ cs) (suc i) = not_given cs i

-- that each Apply can be removed
abbrev removals : Trait
removals = record {
  scalar = λ s. Unit {0};
  asks = λ when kind way inner.
      ((not (is_anew way) || removable kind inner) && all_removable inner) ≡ true;
  places = λ env. Given env false;
  constants = λ v. tt;
  columns = λ i. tt;
  words = λ w ss h. tt;
  asked = λ k when kind way inner h. h;
  own_places = λ env i. not_given env.columns i;
}

any_scalars : (ss : Scalars) → AllHave (λ s. Unit {0}) ss
any_scalars none = tt
any_scalars (more s ss) = (tt, any_scalars ss)

nodes_have : (nodes : Nodes) → nodes_removable nodes ≡ true → NodesHave removals nodes
nodes_have no_node h = tt
nodes_have (extend_by ss rest) h = (any_scalars ss, nodes_have rest h)
nodes_have (apply_by when kind way inner rest) h =
    let x = (not (is_anew way) || removable kind inner) && all_removable inner in (
      left_true x (nodes_removable rest) h,
      nodes_have rest (right_true x (nodes_removable rest) h),
    )

folded_has : (oa : Option Folded) → PartsOk oa → InputRemovable oa → FoldedHas removals oa
folded_has None p i = tt
folded_has (Some a) p i = (
  and_true (removable (aggregate a.aggregates) a.input) (all_removable a.input) i p.0,
  λ n. (nodes_have (a.list n).nodes (p.1 n), any_scalars (a.list n).scalars),
)

value_has : (S : Widths) (e : ValueLeaf) → ValueRemovable S e → ValueHas removals S e
value_has S e h = λ env n g. (nodes_have (e.emitted S env n).nodes (h env n g), tt)

query_has : (S : Widths) (q : QueryLeaf) (ts : List Target) → QueryRemovable S q ts →
    QueryHas removals S q ts
query_has S q ts h = record {
  asked = λ env g is. and_true (removable (into (length ts)) (q.plan S env))
      (all_removable (q.plan S env)) (h.asked env g is (length ts)) (h.inside env g);
  folds = λ env g. folded_has (q.folded S env) (h.parts env g) (h.input env g);
}

chain_gives : (t : PlanTree) → ChainHas removals t → all_removable t ≡ true
chain_gives unit_row h = refl
chain_gives (extend ss t) h = chain_gives t h.1
chain_gives (apply when kind way inner t) h =
    and_true ((not (is_anew way) || removable kind inner) && all_removable inner) (all_removable t)
    h.0 (chain_gives t h.1)
chain_gives (keep is t) h = chain_gives t h
chain_gives _ h = absurd h

-- Where each Apply in the plans of the leaves can be removed, each in the function's can.
pub chain_removable : (r : Routine) (S : Widths) (params : Scalars) → RoutineRemovable S r →
    all_removable (inline_with r S params) ≡ true
chain_removable r S params h = chain_gives (inline_with r S params) (inline_has r removals S params
    (routine_gives r (ValueRemovable S) (ValueHas removals S) (QueryRemovable S)
    (QueryHas removals S) (value_has S) (query_has S) h) (any_scalars params))
