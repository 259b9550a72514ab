-- A chain with operators is not TRUE itself.
use Rattle.std.proofs.Common.{◌≡◌, List, [], ◌∷◌, map, false, refl, sym, ap, ◌∙◌}
use Rattle.rel_algebra.specs.BodySteps.{is_sure}
use Rattle.rel_algebra.specs.Plan.{Scalars, Word, more, none, strict, word}
use Rattle.rel_algebra.specs.PlanView.{Link, chained, link_of, scalar_of}
use Rattle.rel_algebra.specs.Tree.{Arithmetic}
use Rattle.rel_algebra.specs.declared.scalar.Scalar.{Scalar as ScalarCode}
use Rattle.rel_algebra.specs.declared.scalar.Scalar.TheVariants.{Chain}
use Rattle.rel_algebra.specs.declared.scalar.ScalarLink.{ScalarLink as LinkCode}
use Rattle.plan_expressions.proofs.Laws.{scalar_of-Chain}

word_sure : (w : Word) (ss : Scalars) (ls : List Link) → false ≡ is_sure (chained (word w ss) ls)
word_sure w ss [] = refl
word_sure w ss (l ∷ ls) =
    word_sure (strict (Arithmetic l.operator)) (more (word w ss) (more l.operand none)) ls

pub chain_sure : (first : ScalarCode) (ls : List LinkCode) → ¬ (ls ≡ []) →
    false ≡ is_sure (scalar_of (Chain first ls))
chain_sure first [] h = absurd (h refl)
chain_sure first (l ∷ ls) h =
    word_sure (strict (Arithmetic (link_of l).operator))
    (more (scalar_of first) (more (link_of l).operand none)) (map link_of ls) ∙
    sym (ap is_sure (scalar_of-Chain first (l ∷ ls)))
