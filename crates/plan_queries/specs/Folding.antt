-- What the emission of a query that is folded under an Apply leaves. ISO/IEC 9075-2, 7.13 (group by
-- clause) and 10.9 (aggregate function).
use Rattle.std.specs.Prelude.{◌≡◌, ℕ, true, List, Option, None, Some}
use Rattle.sql_values.specs.declared.value.Value.TheVariants.{Bool as Truth}
use Rattle.rel_algebra.specs.declared.scalar.Scalar.{Scalar as ScalarCode}
use Rattle.rel_algebra.specs.Plan.{constant, aggregate, apply_by, anew}
use Rattle.rel_algebra.specs.PlanView.{scalars_of}
use Rattle.rel_algebra.specs.Emit.{EmittedAll, Folded}
use Rattle.plan_expressions.specs.declared.draft.Draft.{Draft}
use Rattle.plan_expressions.specs.Drafts.{drafted}
use Rattle.plan_expressions.specs.Emission.{EmitsAll}

-- an Apply of the aggregates, and the list on the row that has them
abbrev pub fold_list : Folded → ℕ → EmittedAll
fold_list f n = record {
  nodes = apply_by (constant (Truth true)) (aggregate f.aggregates) anew f.input
      (f.list n).nodes;
  scalars = (f.list n).scalars;
}

-- the list of a query that is folded stands over the plan as it was; of another query nothing does
abbrev pub EmitsFolded : Draft → Draft → Option (List ScalarCode) → Option Folded → Type 0
EmitsFolded old new None None = drafted new ≡ drafted old
EmitsFolded old new None (Some f) = ⊥
EmitsFolded old new (Some ss) None = ⊥
EmitsFolded old new (Some ss) (Some f) = EmitsAll old new (scalars_of ss)
    (fold_list f (drafted old).width)
