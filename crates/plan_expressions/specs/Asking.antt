-- Queries inside expressions. ISO/IEC 9075-2, 7.19 (subquery), 8.4 (in predicate) and 8.10 (exists
-- predicate).
use Rattle.std.specs.Prelude.{◌≡◌, ℕ, [], ◌∷◌, List, Option, None, Some}
use Rattle.rel_algebra.specs.Tree.{AnyOf}
use Rattle.rel_algebra.specs.declared.scalar.Scalar.{Scalar as ScalarCode}
use Rattle.rel_algebra.specs.Plan.{strict, word, Scalar, Scalars, none, more, PlanTree, single}
use Rattle.rel_algebra.specs.Plan.{exists}
use Rattle.rel_algebra.specs.PlanView.{scalar_of}
use Rattle.rel_algebra.specs.Emit.{Emitted, Folded, plain, ask, ask_member, first_value, row_stands}
use Rattle.rel_algebra.specs.Emit.{if_values}
use Rattle.plan_expressions.specs.declared.asked.Asked.{Asked}
use Rattle.plan_expressions.specs.declared.asked.Asked.TheVariants.{Single, Exists, Member}

-- what is emitted, by the query's plan, or by what is folded of it; the value that is sought stands
-- already
abbrev pub asked_by : Asked → Option Folded → PlanTree → ℕ → Emitted
asked_by Single f inner n = ask f single first_value inner n
asked_by Exists f inner n = ask f exists row_stands inner n
asked_by (Member s) f inner n = ask_member f (plain (scalar_of s)) inner n

-- what the list of a folded query is read as, where the cell of its first aggregate is a value
abbrev pub answered_by : Asked → ℕ → Scalars → Scalar
answered_by Single n ss = if_values (n ∷ []) (first_value ss)
answered_by Exists n ss = if_values (n ∷ []) (row_stands ss)
answered_by (Member s) n ss = word (strict AnyOf)
    (more (scalar_of s) (more (if_values (n ∷ []) (first_value ss)) none))
