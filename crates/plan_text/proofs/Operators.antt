-- The text of a chain of operators, whose words come before its operands.
use Rattle.std.proofs.Common.{ℕ, ◌≡◌, ◌+◌, ◌<◌, List, [], ◌∷◌, ◌++◌, map, drop, length, get_or}
use Rattle.std.proofs.Common.{codes, refl, sym, ap, ◌∙◌, append_assoc}
use Rattle.std.proofs.lemmas.List.{append-nil, drop_more}
use Rattle.std.specs.List.{flat_map}
use Rattle.sql_values.specs.declared.operators.Comparison.{Comparison}
use Rattle.rel_algebra.specs.declared.scalar.Scalar.{Scalar as ScalarCode}
use Rattle.rel_algebra.specs.declared.scalar.Scalar.TheVariants.{Chain, Compare, rolls-Chain}
use Rattle.rel_algebra.specs.declared.scalar.Scalar.TheVariants.{rolls-Compare}
use Rattle.rel_algebra.specs.declared.scalar.Scalar.TheOpen.{Scalar-F}
use Rattle.rel_algebra.specs.declared.scalar.Scalar.TheFolds.{fold-roll-Scalar}
use Rattle.rel_algebra.specs.declared.scalar.ScalarLink.{ScalarLink}
use Rattle.rel_algebra.specs.Tree.{Arithmetic, Comparing}
use Rattle.rel_algebra.specs.Plan.{Scalar, word, strict, more, none}
use Rattle.rel_algebra.specs.PlanText.{Text}
use Rattle.rel_algebra.specs.PlanView.{Link, chained, link_of, link_step, scalar_of, scalar_step}
use Rattle.plan_text.specs.ScalarText.{after, bracketed, comma, comparison_text, operator_text}
use Rattle.plan_text.specs.ScalarText.{scalar_text}
use Rattle.plan_text.specs.Parts.{opening, openings, closing}

-- an operator's word is moved before the operand at its left
nested : (o w f x r : Text) →
    (o ++ (((w ++ codes "(") ++ (f ++ ((codes ", " ++ x) ++ []))) ++ codes ")")) ++ r ≡
    ((o ++ (w ++ codes "(")) ++ f) ++ (((codes ", " ++ x) ++ codes ")") ++ r)
nested o w f x r = simp (append_assoc, append-nil) refl

-- nested words are the operators' words, the first operand, and what stands right of each operator
pub chain_text : (first : Scalar) (ls : List Link) → scalar_text (chained first ls) ≡
    (openings ls ++ scalar_text first) ++ flat_map closing ls
chain_text first [] = sym (append-nil (scalar_text first))
chain_text first (l ∷ ls) =
    chain_text (word (strict (Arithmetic l.operator)) (more first (more l.operand none))) ls ∙
    nested (openings ls) (operator_text l.operator) (scalar_text first) (scalar_text l.operand)
    (flat_map closing ls)

-- the parts of a chain, written one after another
parts_put : (first : Scalar) (ls : List Link) (old a b new : Text) → a ≡ old ++ openings ls →
    b ≡ a ++ scalar_text first → new ≡ b ++ flat_map closing ls →
    new ≡ old ++ scalar_text (chained first ls)
parts_put first ls old a b new opened put closed =
    closed ∙ (ap (λ (t : Text). t ++ flat_map closing ls)
    (put ∙ (ap (λ (t : Text). t ++ scalar_text first) opened ∙
    append_assoc old (openings ls) (scalar_text first))) ∙
    (append_assoc old (openings ls ++ scalar_text first) (flat_map closing ls) ∙
    ap (λ (t : Text). old ++ t) (sym (chain_text first ls))))

-- which nested words a chain in code stands for
chain_seen : (x first : ScalarCode) (links : List ScalarLink) → x ≡ Chain first links →
    scalar_of x ≡ chained (scalar_of first) (map link_of links)
chain_seen x first links is =
    ap scalar_of (is ∙ sym (rolls-Chain first links)) ∙
    fold-roll-Scalar Scalar Link scalar_step link_step (Scalar-F.Chain first links)

-- a chain in code
pub chain_put : (x first f : ScalarCode) (links ls : List ScalarLink) (old a b new : Text) →
    x ≡ Chain first links → f ≡ first → ls ≡ links → a ≡ old ++ openings (map link_of ls) →
    b ≡ a ++ scalar_text (scalar_of f) → new ≡ b ++ flat_map closing (map link_of ls) →
    new ≡ old ++ scalar_text (scalar_of x)
chain_put x first f links ls old a b new is one all opened put closed =
    parts_put (scalar_of f) (map link_of ls) old a b new opened put closed ∙
    (ap (λ (y : ScalarCode). old ++ scalar_text (chained (scalar_of y) (map link_of ls))) one ∙
    (ap (λ (ks : List ScalarLink). old ++ scalar_text (chained (scalar_of first) (map link_of ks)))
    all ∙ ap (λ (y : Scalar). old ++ scalar_text y) (sym (chain_seen x first links is))))

-- a word with two operands
paired : (o w f x : Text) →
    ((((o ++ (w ++ codes "(")) ++ f) ++ (codes ", " ++ x)) ++ codes ")") ≡
    o ++ (((w ++ codes "(") ++ (f ++ ((codes ", " ++ x) ++ []))) ++ codes ")")
paired o w f x = simp (append_assoc, append-nil) refl

pair_put : (w f x old a b c new : Text) → a ≡ old ++ (w ++ codes "(") → b ≡ a ++ f →
    c ≡ b ++ after comma x → new ≡ c ++ codes ")" → new ≡ old ++ bracketed w (f ∷ x ∷ [])
pair_put w f x old a b c new opened put further closed =
    closed ∙ (ap (λ (t : Text). t ++ codes ")")
    (further ∙ ap (λ (t : Text). t ++ after comma x) (put ∙ ap (λ (t : Text). t ++ f) opened)) ∙
    paired old w f x)

-- which word a comparison in code stands for
compare_seen : (x left right : ScalarCode) (w : Comparison) → x ≡ Compare w left right →
    scalar_of x ≡ word (strict (Comparing w)) (more (scalar_of left) (more (scalar_of right) none))
compare_seen x left right w is =
    ap scalar_of (is ∙ sym (rolls-Compare w left right)) ∙
    fold-roll-Scalar Scalar Link scalar_step link_step (Scalar-F.Compare w left right)

-- a comparison in code
pub compare_put : (x left right l r : ScalarCode) (w : Comparison) (old a b c new : Text) →
    x ≡ Compare w left right → l ≡ left → r ≡ right →
    a ≡ old ++ (comparison_text w ++ codes "(") → b ≡ a ++ scalar_text (scalar_of l) →
    c ≡ b ++ after comma (scalar_text (scalar_of r)) → new ≡ c ++ codes ")" →
    new ≡ old ++ scalar_text (scalar_of x)
compare_put x left right l r w old a b c new is one other opened put further closed =
    let made : Text → Text → Text = λ t u. old ++ bracketed (comparison_text w) (t ∷ u ∷ []) in
    pair_put (comparison_text w) (scalar_text (scalar_of l)) (scalar_text (scalar_of r)) old a b c
    new opened put further closed ∙
    (ap (λ (y : ScalarCode). made (scalar_text (scalar_of y)) (scalar_text (scalar_of r))) one ∙
    (ap (λ (y : ScalarCode). made (scalar_text (scalar_of left)) (scalar_text (scalar_of y))) other
    ∙ ap (λ (y : Scalar). old ++ scalar_text y) (sym (compare_seen x left right w is))))

-- one word more is written
pub word_put : (links : List ScalarLink) (i j : ℕ) (link : ScalarLink) (start old new : Text) →
    j ≡ i + 1 → i < length links → link ≡ get_or links i link →
    old ≡ start ++ openings (map link_of (drop j links)) →
    new ≡ old ++ opening (link_of link) →
    new ≡ start ++ openings (map link_of (drop i links))
word_put links i j link start old new up l is before wrote =
    let rest : List Link = map link_of (drop j links) in
    let whole : map link_of (drop i links) ≡ link_of link ∷ rest =
    ap (map link_of) (drop_more links i link l) ∙
    (ap (λ (x : ScalarLink). link_of x ∷ map link_of (drop (i + 1) links)) (sym is) ∙
    ap (λ (k : ℕ). link_of link ∷ map link_of (drop k links)) (sym up)) in
    wrote ∙ (ap (λ (t : Text). t ++ opening (link_of link)) before ∙
    (append_assoc start (openings rest) (opening (link_of link)) ∙
    ap (λ (ls : List Link). start ++ openings ls) (sym whole)))
