-- The plain scalars that scalars of each kind stand for.
use Rattle.std.proofs.Common.{◌≡◌, ℕ, List, [], ◌∷◌, suc, map, length, refl, sym, ap, ◌∙◌}
use Rattle.sql_values.specs.declared.value.Value.{Value}
use Rattle.rel_algebra.specs.declared.scalar.Scalar.{Scalar as ScalarCode}
use Rattle.rel_algebra.specs.declared.scalar.Scalar.TheVariants as code
use Rattle.rel_algebra.specs.declared.scalar.Scalar.TheVariants.{rolls-Constant, rolls-Column}
use Rattle.rel_algebra.specs.declared.scalar.Scalar.TheVariants.{rolls-Argument, rolls-Chain}
use Rattle.rel_algebra.specs.declared.scalar.Scalar.TheVariants.{rolls-Listed}
use Rattle.rel_algebra.specs.declared.scalar.ScalarLink.{ScalarLink as LinkCode}
use Rattle.rel_algebra.specs.declared.scalar.Scalar.TheOpen.{Scalar-F}
use Rattle.rel_algebra.specs.declared.scalar.Scalar.TheFolds.{fold-roll-Scalar}
use Rattle.rel_algebra.specs.declared.scalar.Scalar.TheFolds.{fold-roll-ScalarLink}
use Rattle.rel_algebra.specs.declared.scalar.ListWord.{ListWord}
use Rattle.rel_algebra.specs.Plan.{Scalar, constant, column, argument, word}
use Rattle.rel_algebra.specs.PlanView.{Link, chained, list_word, scalar_step, link_step, scalar_of}
use Rattle.rel_algebra.specs.PlanView.{link_of, scalars_of}

pub length-map : {A B : Type 0} (f : A → B) (xs : List A) → length (map f xs) ≡ length xs
length-map f [] = refl
length-map f (x ∷ xs) = ap suc (length-map f xs)

pub scalar_of-Constant : (v : Value) → scalar_of (code.Constant v) ≡ constant v
scalar_of-Constant v = ap scalar_of (sym (rolls-Constant v)) ∙
    fold-roll-Scalar Scalar Link scalar_step link_step (Scalar-F.Constant v)

pub scalar_of-Column : (level place : ℕ) → scalar_of (code.Column level place) ≡ column level place
scalar_of-Column level place = ap scalar_of (sym (rolls-Column level place)) ∙
    fold-roll-Scalar Scalar Link scalar_step link_step (Scalar-F.Column level place)

pub scalar_of-Argument : (place : ℕ) → scalar_of (code.Argument place) ≡ argument place
scalar_of-Argument place = ap scalar_of (sym (rolls-Argument place)) ∙
    fold-roll-Scalar Scalar Link scalar_step link_step (Scalar-F.Argument place)

pub scalar_of-Chain : (first : ScalarCode) (ls : List LinkCode) →
    scalar_of (code.Chain first ls) ≡ chained (scalar_of first) (map link_of ls)
scalar_of-Chain first ls = ap scalar_of (sym (rolls-Chain first ls)) ∙
    fold-roll-Scalar Scalar Link scalar_step link_step (Scalar-F.Chain first ls)

pub scalar_of-Listed : (w : ListWord) (ss : List ScalarCode) →
    scalar_of (code.Listed w ss) ≡ word (list_word w) (scalars_of ss)
scalar_of-Listed w ss = ap scalar_of (sym (rolls-Listed w ss)) ∙
    fold-roll-Scalar Scalar Link scalar_step link_step (Scalar-F.Listed w ss)

-- what links stand for
pub link_of-parts : (l : LinkCode) → link_of l ≡ record {
  operator = l.operator;
  operand =
      scalar_of l.operand;
}
link_of-parts l = fold-roll-ScalarLink Scalar Link scalar_step link_step
    (record { operator = l.operator; operand = l.operand })
