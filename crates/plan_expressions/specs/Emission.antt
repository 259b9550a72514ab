-- What the emission of a scalar makes of a plan in the making.
use Rattle.std.specs.Prelude.{◌≡◌, ℕ, Bool, true, false, List, [], ◌∷◌}
use Rattle.sql_values.specs.declared.value.Value.TheVariants.{Bool as Truth}
use Rattle.rel_algebra.specs.Tree.{NullTest}
use Rattle.rel_algebra.specs.declared.scalar.Scalar.{Scalar as ScalarCode}
use Rattle.rel_algebra.specs.PlanView.{scalar_of}
use Rattle.rel_algebra.specs.Plan.{strict, or_word, and_word, case_word, Scalar, constant, column}
use Rattle.rel_algebra.specs.Plan.{word, Scalars, none, more, on_each}
use Rattle.rel_algebra.specs.Emit.{Emitted, EmittedAll, width}
use Rattle.plan_expressions.specs.declared.draft.Draft.{Draft}
use Rattle.plan_expressions.specs.Drafts.{drafted}

-- the nodes stand over the plan as it was, and this is the scalar over them
pub record Emits (old new : Draft) (s : Scalar) (e : Emitted) : Type 0 where
  pub tree : (drafted new).tree ≡ on_each e.nodes (drafted old).tree
  pub columns : (drafted new).width ≡ width e.nodes (drafted old).width
  pub scalar : s ≡ e.scalar

-- the same for several scalars
pub record EmitsAll (old new : Draft) (ss : Scalars) (a : EmittedAll) : Type 0 where
  pub tree : (drafted new).tree ≡ on_each a.nodes (drafted old).tree
  pub columns : (drafted new).width ≡ width a.nodes (drafted old).width
  pub scalars : ss ≡ a.scalars

-- the scalar where all checks are TRUE; without checks the scalar itself
abbrev pub guarded : Scalars → Scalar → Scalar
guarded none s = s
guarded (more check checks) s = word case_word
    (more (word and_word (more check checks)) (more s none))

-- TRUE where a scalar is a value; where it is a condition, that
abbrev pub tested : Scalar → Scalar
tested s = word or_word (more (word (strict NullTest) (more s none))
    (more (constant (Truth true)) none))

-- the same of a column
abbrev pub value_check : ℕ → Scalar
value_check i = tested (column 0 i)

-- a check in front, where there is one
abbrev pub check_if : Bool → ℕ → Scalars → Scalars
check_if true i checks = more (value_check i) checks
check_if false i checks = checks

-- scalars in front of others
abbrev pub put : List ScalarCode → Scalars → Scalars
put [] rest = rest
put (s ∷ ss) rest = more (scalar_of s) (put ss rest)
