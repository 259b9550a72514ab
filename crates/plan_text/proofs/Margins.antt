-- The two spaces of each step in.
use Rattle.std.proofs.Common.{ℕ, zero, suc, ◌≡◌, ◌+◌, [], ◌++◌, codes, refl, sym, ap, ◌∙◌, arith}
use Rattle.std.proofs.Common.{append_assoc}
use Rattle.rel_algebra.specs.PlanText.{Text, indented}
use Rattle.plan_text.specs.Parts.{line}

pub indented_more : (i : ℕ) → indented (i + 1) [] ≡ indented i [] ++ codes "  "
indented_more zero = refl
indented_more (suc i) =
    let e : suc i + 1 ≡ suc (i + 1) = omega arith in
    ap (λ k. indented k []) e ∙ ap (λ (t : Text). codes "  " ++ t) (indented_more i)

-- a line is its margin, and then its text
indented_text : (depth : ℕ) (t : Text) → indented depth t ≡ indented depth [] ++ t
indented_text zero t = refl
indented_text (suc depth) t = ap (λ (u : Text). codes "  " ++ u) (indented_text depth t)

-- the parts of a line, written one after another
pub line_put : (depth : ℕ) (t old a b new : Text) → a ≡ old ++ indented depth [] → b ≡ a ++ t →
    new ≡ b ++ codes "\n" → new ≡ old ++ line t depth
line_put depth t old a b new margin put ended =
    ended ∙ (ap (λ (u : Text). u ++ codes "\n") (put ∙ ap (λ (u : Text). u ++ t) margin) ∙
    (append_assoc (old ++ indented depth []) t (codes "\n") ∙
    (append_assoc old (indented depth []) (t ++ codes "\n") ∙
    ap (λ (u : Text). old ++ u) (sym (indented_text depth (t ++ codes "\n"))))))
