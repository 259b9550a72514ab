-- What the list of a folded query is read as.
use Rattle.std.proofs.Common.{ℕ, ◌≡◌, ◌∷◌, [], ◌++◌, List, Some, None, length, reverse, slice_get}
use Rattle.std.proofs.Common.{refl, sym, ap, ◌∙◌}
use Rattle.rel_algebra.specs.declared.scalar.Scalar.{Scalar as ScalarCode}
use Rattle.rel_algebra.specs.Plan.{Scalar, constant, Scalars, none, more}
use Rattle.rel_algebra.specs.PlanView.{scalar_of, scalars_of}
use Rattle.rel_algebra.specs.Emit.{checks_of, if_all, first_value}
use Rattle.plan_expressions.specs.Emission.{put, tested}
use Rattle.plan_expressions.proofs.Lists.{put-none, put-append, turned_last}

pub checks_next : (front longer left others : List ScalarCode) (x t : ScalarCode) (all : Scalars) →
    left ≡ others ++ x ∷ [] → scalar_of t ≡ tested (scalar_of x) → longer ≡ front ++ t ∷ [] →
    put front (checks_of (scalars_of (reverse left))) ≡ all →
    put longer (checks_of (scalars_of (reverse others))) ≡ all
checks_next front longer left others x t all h is f b =
    let others_checked = checks_of (scalars_of (reverse others)) in
    ap (λ (ss : List ScalarCode). put ss others_checked) f ∙
    put-append front (t ∷ []) others_checked ∙ ap (λ s. put front (more s others_checked)) is
    ∙ ap (λ (ss : List ScalarCode). put front (checks_of (scalars_of ss)))
    (sym (turned_last others x) ∙ ap reverse (sym h)) ∙ b

pub checks_done : (front left : List ScalarCode) (all : Scalars) → left ≡ [] →
    put front (checks_of (scalars_of (reverse left))) ≡ all → scalars_of front ≡ all
checks_done front left all h b = sym (put-none front) ∙
    ap (λ (ss : List ScalarCode). put front (checks_of (scalars_of (reverse ss)))) (sym h) ∙ b

pub first_alone : (ss : List ScalarCode) (x s : ScalarCode) → Some x ≡ slice_get ss 0 → s ≡ x →
    length ss ≡ 1 → scalar_of s ≡ first_value (scalars_of ss)
first_alone [] x s h g one = absurd (let never = h in cc)
first_alone (a ∷ []) x s h g one = let same : s ≡ a = cc in ap scalar_of same
first_alone (a ∷ b ∷ ss) x s h g one = absurd (let never = one in cc)

pub first_guarded : (ss : List ScalarCode) (x s : ScalarCode) → Some x ≡ slice_get ss 0 → s ≡ x →
    ¬ (length ss ≡ 1) → if_all (scalars_of ss) (scalar_of s) ≡ first_value (scalars_of ss)
first_guarded [] x s h g one = absurd (let never = h in cc)
first_guarded (a ∷ []) x s h g one = absurd (one refl)
first_guarded (a ∷ b ∷ ss) x s h g one = let same : s ≡ a = cc in
    ap (λ y. if_all (scalars_of (a ∷ b ∷ ss)) (scalar_of y)) same

pub first_none : (ss : List ScalarCode) → None ≡ slice_get ss 0 → none ≡ scalars_of ss
first_none [] h = refl
first_none (a ∷ ss) h = absurd (let never = h in cc)
