-- Steps one after the other.
use Rattle.std.proofs.Common.{◌≡◌, List, [], ◌∷◌, ◌++◌, refl, sym, ap, ◌∙◌}
use Rattle.rel_algebra.specs.BodySteps.{Step, step_tree, steps_tree}
use Rattle.rel_algebra.specs.Plan.{PlanTree}
use Rattle.plan_expressions.specs.Drafts.{drafted}
use Rattle.plan_expressions.specs.declared.draft.Draft.{Draft}
use Rattle.plan_steps.specs.Steps.{Puts, GoesOn}

pub steps-append : (xs ys : List Step) (t : PlanTree) →
    steps_tree (xs ++ ys) t ≡ steps_tree ys (steps_tree xs t)
steps-append [] ys t = refl
steps-append (x ∷ xs) ys t = steps-append xs ys (step_tree x t)

-- steps after others
pub puts_after : (old mid new : Draft) (xs ys : List Step) → Puts old mid xs → Puts mid new ys →
    Puts old new (xs ++ ys)
puts_after old mid new xs ys h g = record {
  tree = g.tree ∙ ap (steps_tree ys) h.tree ∙ sym (steps-append xs ys (drafted old).tree);
}

-- the same steps by another name
pub puts_as : (old new : Draft) (xs ys : List Step) → xs ≡ ys → Puts old new xs → Puts old new ys
puts_as old new xs ys e h = record {
  tree = h.tree ∙ ap (λ (ss : List Step). steps_tree ss (drafted old).tree) e;
}

-- after some of the steps those that are left stand over what stands now
pub goes_after : (old new : Draft) (xs ys : List Step) → Puts old new xs →
    GoesOn old new (xs ++ ys) ys
goes_after old new xs ys h = record {
  tree = ap (steps_tree ys) h.tree ∙ sym (steps-append xs ys (drafted old).tree);
}
