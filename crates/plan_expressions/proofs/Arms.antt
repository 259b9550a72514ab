-- The arms of CASE with an operand, taken from the first to the last.
use Rattle.std.proofs.Common.{ℕ, ◌≡◌, ◌∷◌, [], ◌++◌, List, reverse, sym, ap, ◌∙◌}
use Rattle.sql_values.specs.declared.operators.Comparison.TheVariants.{Equals}
use Rattle.rel_algebra.specs.declared.scalar.Scalar.{Scalar as ScalarCode}
use Rattle.rel_algebra.specs.Tree.{Comparing}
use Rattle.rel_algebra.specs.Plan.{strict, column, word, Scalars, none, more}
use Rattle.rel_algebra.specs.PlanView.{scalar_of, scalars_of}
use Rattle.rel_algebra.specs.Emit.{against}
use Rattle.plan_expressions.specs.Emission.{put}
use Rattle.plan_expressions.proofs.Lists.{put-none, put-append, turned_last}

-- a test and its result
pub pair_next : (p : ℕ) (front between longer left others least : List ScalarCode)
    (first result copy : ScalarCode) (whole : Scalars) → left ≡ others ++ first ∷ [] →
    others ≡ least ++ result ∷ [] → scalar_of copy ≡ word (strict (Comparing Equals))
    (more (column 0 p) (more (scalar_of first) none)) → between ≡ front ++ copy ∷ [] →
    longer ≡ between ++ result ∷ [] → put front (against p (scalars_of (reverse left))) ≡ whole →
    put longer (against p (scalars_of (reverse least))) ≡ whole
pair_next p front between longer left others least first result copy whole h g is f l b =
    let rest = against p (scalars_of (reverse least)) in
    ap (λ (ss : List ScalarCode). put ss rest) l ∙ put-append between (result ∷ []) rest ∙
    ap (λ (ss : List ScalarCode). put ss (more (scalar_of result) rest)) f
    ∙ put-append front (copy ∷ []) (more (scalar_of result) rest) ∙
    ap (λ s. put front (more s (more (scalar_of result) rest))) is
    ∙ ap (λ (ss : List ScalarCode). put front (against p (scalars_of (first ∷ ss))))
    (sym (turned_last least result) ∙ ap reverse (sym g))
    ∙ ap (λ (ss : List ScalarCode). put front (against p (scalars_of ss)))
    (sym (turned_last others first) ∙ ap reverse (sym h)) ∙ b

-- a last result
pub last_next : (p : ℕ) (front longer left others least : List ScalarCode) (first : ScalarCode)
    (whole : Scalars) → left ≡ others ++ first ∷ [] → others ≡ [] → least ≡ [] →
    longer ≡ front ++ first ∷ [] → put front (against p (scalars_of (reverse left))) ≡ whole →
    put longer (against p (scalars_of (reverse least))) ≡ whole
last_next p front longer left others least first whole h g n l b =
    ap (λ (ss : List ScalarCode). put longer (against p (scalars_of (reverse ss)))) n ∙
    ap (λ (ss : List ScalarCode). put ss none) l ∙ put-append front (first ∷ []) none
    ∙ ap (λ (ss : List ScalarCode). put front (against p (scalars_of (first ∷ reverse ss)))) (sym g)
    ∙ ap (λ (ss : List ScalarCode). put front (against p (scalars_of ss)))
    (sym (turned_last others first) ∙ ap reverse (sym h)) ∙ b

pub arms_done : (p : ℕ) (front left : List ScalarCode) (whole : Scalars) → left ≡ [] →
    put front (against p (scalars_of (reverse left))) ≡ whole → scalars_of front ≡ whole
arms_done p front left whole h b = sym (put-none front) ∙
    ap (λ (ss : List ScalarCode). put front (against p (scalars_of (reverse ss)))) (sym h) ∙ b
