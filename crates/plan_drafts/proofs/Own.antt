-- Scalars that are columns of the row itself.
use Rattle.std.proofs.Common.{ℕ, ◌≡◌, zero, suc, ◌<◌, ◌+◌, ◌∷◌, [], ◌++◌, List, Option, Some, None}
use Rattle.std.proofs.Common.{map, length, drop, get_or, refl, sym, ap, ◌∙◌}
use Rattle.rel_algebra.specs.declared.scalar.Scalar.{Scalar as ScalarCode}
use Rattle.rel_algebra.specs.declared.scalar.Scalar.TheVariants.{Chain}
use Rattle.rel_algebra.specs.declared.scalar.ScalarLink.{ScalarLink as LinkCode}
use Rattle.rel_algebra.specs.Tree.{Arithmetic}
use Rattle.rel_algebra.specs.Plan.{Word, strict, extend, Scalar, constant, column, argument, word}
use Rattle.rel_algebra.specs.Plan.{Scalars, none, more, PlanTree, extend_by, no_node, keep, on_each}
use Rattle.rel_algebra.specs.Joins.{places}
use Rattle.rel_algebra.specs.PlanView.{Link, chained, scalar_of, scalars_of, link_of}
use Rattle.rel_algebra.specs.Emit.{EmittedAll, with_place, own_places, listed_by, listed, width}
use Rattle.rel_algebra.specs.Emit.{scalar_count}
use Rattle.plan_drafts.specs.Listing.{place_of, listed_only}
use Rattle.plan_expressions.proofs.Laws.{on_each-joined}
use Rattle.plan_expressions.proofs.Laws.{rest}
use Rattle.plan_expressions.proofs.Laws.{scalar_of-Chain}

-- places in front, where there are others
abbrev pub in_front : List ℕ → Option (List ℕ) → Option (List ℕ)
in_front [] o = o
in_front (p ∷ ps) o = with_place p (in_front ps o)

abbrev pub with_own : Option ℕ → Option (List ℕ) → Option (List ℕ)
with_own None o = None
with_own (Some p) o = with_place p o

pub own_places-first : (s : Scalar) (ss : Scalars) →
    own_places (more s ss) ≡ with_own (place_of s) (own_places ss)
own_places-first (column zero i) ss = refl
own_places-first (column (suc d) i) ss = refl
own_places-first (constant v) ss = refl
own_places-first (argument i) ss = refl
own_places-first (word w operands) ss = refl

pub in_front-last : (ps : List ℕ) (p : ℕ) (o : Option (List ℕ)) →
    in_front (ps ++ p ∷ []) o ≡ in_front ps (with_place p o)
in_front-last [] p o = refl
in_front-last (q ∷ ps) p o = ap (with_place q) (in_front-last ps p o)

pub in_front-none : (ps : List ℕ) → in_front ps None ≡ None
in_front-none [] = refl
in_front-none (p ∷ ps) = ap (with_place p) (in_front-none ps)

pub in_front-all : (ps : List ℕ) → in_front ps (Some []) ≡ Some ps
in_front-all [] = refl
in_front-all (p ∷ ps) = ap (with_place p) (in_front-all ps)

pub own_at : (ss : List ScalarCode) (i : ℕ) (x : ScalarCode) (ps : List ℕ) → i < length ss →
    x ≡ get_or ss i x →
    in_front ps (own_places (scalars_of (drop i ss))) ≡ in_front ps
    (with_own (place_of (scalar_of x)) (own_places (scalars_of (drop (i + 1) ss))))
own_at ss i x ps h is =
    ap (λ (xs : List ScalarCode). in_front ps (own_places (scalars_of xs))) (rest ss i x h is) ∙
    ap (in_front ps) (own_places-first (scalar_of x) (scalars_of (drop (i + 1) ss)))

-- ---- the end of a plan

pub listed-after : (a : EmittedAll) (n : ℕ) (input : PlanTree) →
    listed a n input ≡ listed_only a.scalars (width a.nodes n) (on_each a.nodes input)
listed-after a n input = by (own_places a.scalars)
  where
    by : (o : Option (List ℕ)) → listed_by o a n input ≡ listed_by o
        (record { nodes = no_node; scalars = a.scalars }) (width a.nodes n) (on_each a.nodes input)
    by (Some is) = refl
    by None = ap (keep (places (width a.nodes n) (scalar_count a.scalars)))
        (on_each-joined a.nodes (extend_by a.scalars no_node) input)

pub listed_none : (ss : Scalars) (n : ℕ) (input : PlanTree) → None ≡ own_places ss →
    keep (places n (scalar_count ss)) (extend ss input) ≡ listed_only ss n input
listed_none ss n input h = ap (λ o. listed_by o (record { nodes = no_node; scalars = ss }) n input)
    h

pub listed_some : (ss : Scalars) (n : ℕ) (is : List ℕ) (input : PlanTree) →
    Some is ≡ own_places ss → keep is input ≡ listed_only ss n input
listed_some ss n is input h = ap (λ o. listed_by o (record { nodes = no_node; scalars = ss }) n
    input) h

-- ---- chains

chained_place : (w : Word) (operands : Scalars) (ls : List Link) →
    None ≡ place_of (chained (word w operands) ls)
chained_place w operands [] = refl
chained_place w operands (l ∷ ls) = chained_place (strict (Arithmetic l.operator))
    (more (word w operands) (more l.operand none)) ls

pub chain_place : (first : ScalarCode) (ls : List LinkCode) → ¬ (ls ≡ []) →
    None ≡ place_of (scalar_of (Chain first ls))
chain_place first [] h = absurd (h refl)
chain_place first (l ∷ ls) h =
    let m = link_of l in
    chained_place (strict (Arithmetic m.operator)) (more (scalar_of first) (more m.operand none))
    (map link_of ls) ∙ sym (ap place_of (scalar_of-Chain first (l ∷ ls)))
