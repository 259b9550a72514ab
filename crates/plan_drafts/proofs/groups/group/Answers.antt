use Rattle.std.proofs.Common.{ℕ, ◌≡◌, ◌-◌, List, length, ap, ◌∙◌, arith}
use Rattle.rel_algebra.specs.Emit.{all_values}
use Rattle.rel_algebra.specs.Joins.{places}
use Rattle.rel_algebra.specs.Plan.{filter, group}
use Rattle.plan_expressions.specs.Drafts.{drafted}
use Rattle.plan_drafts.proofs.Places.{places-long}
use Rattle.plan_drafts.proofs.groups.group.Goals as goal

pub all_values-requires : goal.all_values-requires
all_values-requires c =
    omega (
      arith,
      c.columns.ensures,
      c.in_ok-group.ensures.width,
      ap (λ (ps : List ℕ). length ps)
          c.in_ok-places.ensures,
      places-long 0 (c.args.keys - 0),
    )

pub returns-clause-tree : goal.returns-clause-tree
returns-clause-tree c =
    let keys = c.args.keys in
    let same : keys - 0 ≡ keys = omega arith in
    let many : c.columns.result - keys ≡ length c.args.aggregates.now =
    omega (
      arith,
      c.columns.ensures,
      c.in_ok-group.ensures.width,
      ap (λ (ps : List ℕ). length ps)
          c.in_ok-places.ensures,
      places-long 0 (keys - 0),
      c.in_ok-columns.ensures.count,
    ) in
    let first = c.in_ok-places.ensures ∙ ap (places 0) same in
    let grouped = c.in_ok-group.ensures.tree ∙
    (λ j. group (first j) (c.in_ok-columns.ensures.columns j) (drafted c.args.draft.now).tree)
    in
    let test = c.in_ok-test.ensures ∙ ap (λ n. all_values (places keys n)) many in
    c.in_ok-filter.ensures.tree ∙ (λ j. filter (test j) (grouped j))

pub returns-clause-width : goal.returns-clause-width
returns-clause-width c =
    omega (
      arith,
      c.in_ok-filter.ensures.width,
      c.in_ok-group.ensures.width,
      ap (λ (ps : List ℕ). length ps) c.in_ok-places.ensures,
      places-long 0 (c.args.keys - 0),
      c.in_ok-columns.ensures.count,
    )
