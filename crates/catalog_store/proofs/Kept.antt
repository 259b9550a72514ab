-- Plans that are kept, part by part.
use Rattle.std.proofs.Common.{◌≡◌, List, ◌∷◌, sym, ap, ◌∙◌}
use Rattle.sql_values.specs.declared.value.Value.{Value}
use Rattle.rel_algebra.specs.Plan.{Scalar, constant}
use Rattle.rel_algebra.specs.declared.plan.ApplyKind.{ApplyKind}
use Rattle.rel_algebra.specs.declared.plan.Node.{Node}
use Rattle.rel_algebra.specs.declared.plan.Node.TheVariants.{Extend, Apply}
use Rattle.rel_algebra.specs.declared.plan.Node.TheViews.{outs-Extend, outs-Apply}
use Rattle.rel_algebra.specs.declared.plan.Plan.{Plan}
use Rattle.rel_algebra.specs.declared.scalar.Scalar.{Scalar as ScalarCode}
use Rattle.rel_algebra.specs.declared.scalar.Scalar.TheVariants.{Constant, rolls-Constant}
use Rattle.rel_algebra.specs.declared.scalar.Scalar.TheOpen.{Scalar-F}
use Rattle.rel_algebra.specs.declared.scalar.Scalar.TheFolds.{fold-roll-Scalar}
use Rattle.rel_algebra.specs.PlanView.{Link as ScalarLink, scalar_step}
use Rattle.rel_algebra.specs.PlanView.{link_step as scalar_link_step, scalar_of, scalars_of}
use Rattle.rel_algebra.specs.PlanView.{kind_of, tree_of}
use Rattle.catalog_store.specs.Kept.{extended, applied, with_below, run_of}

pub scalar_of-constant : (v : Value) → scalar_of (Constant v) ≡ constant v
scalar_of-constant v = ap scalar_of (sym (rolls-Constant v)) ∙
    fold-roll-Scalar Scalar ScalarLink scalar_step scalar_link_step (Scalar-F.Constant v)

-- a run whose lowest node is this one
pub run_of-Extend : (ss : List ScalarCode) (ns : List Node) →
    run_of (Extend ss ∷ ns) ≡ extended (scalars_of ss) (run_of ns)
run_of-Extend ss ns = ap (λ x. with_below x (run_of ns)) (outs-Extend ss)

pub run_of-Apply : (s : ScalarCode) (k : ApplyKind) (inner : Plan) (ns : List Node) →
    run_of (Apply s k inner ∷ ns) ≡ applied (scalar_of s) (kind_of k) (tree_of inner) (run_of ns)
run_of-Apply s k inner ns = ap (λ x. with_below x (run_of ns)) (outs-Apply s k inner)
