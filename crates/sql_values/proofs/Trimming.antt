-- Spaces at the ends of texts.
use Rattle.std.proofs.Common.{ℕ, ◌≡◌, ◌<◌, ◌≤◌, ◌+◌, ◌-◌, zero, suc, Bool, true, false, cond, List}
use Rattle.std.proofs.Common.{[], ◌∷◌, ◌++◌, length, take, drop, reverse, refl, sym, ap, ap₂, ◌∙◌}
use Rattle.std.proofs.Common.{arith, one-add, take-append-drop, take_all, length-drop}
use Rattle.std.specs.List.{prefix_len}
use Rattle.std.proofs.lemmas.List.Sums.{prefix_len-le-length}
use Rattle.std.proofs.lemmas.List.{take-append-le, reverse-append, reverse-reverse, length-reverse}
use Rattle.std.proofs.lemmas.Bool.Decides.{nat_tests}
use Rattle.sql_values.specs.Spellings.{is_space, spaces, without_leading_spaces, trimmed}

abbrev pub lead : List ℕ → ℕ
lead s = prefix_len is_space s

-- ---- what is cut away

pub leading : (s : List ℕ) → take (lead s) s ≡ spaces (lead s)
leading [] = refl
leading (c ∷ s) = by (is_space c) refl (leading s)
  where
    by : (b : Bool) → is_space c ≡ b → take (lead s) s ≡ spaces (lead s) →
        take (cond b (1 + lead s) 0) (c ∷ s) ≡ spaces (cond b (1 + lead s) 0)
    by true e ih = rw one-add (ap₂ (λ (x : ℕ) (l : List ℕ). x ∷ l) (grind (arith, nat_tests)) ih)
    by false e ih = refl

pub front : (s : List ℕ) → s ≡ spaces (lead s) ++ without_leading_spaces s
front s = sym (take-append-drop (lead s) s) ∙ ap (λ (l : List ℕ). l ++ drop (lead s) s) (leading s)

snoc-spaces : (n : ℕ) → spaces n ++ 32 ∷ [] ≡ 32 ∷ spaces n
snoc-spaces zero = refl
snoc-spaces (suc n) = ap (λ (l : List ℕ). 32 ∷ l) (snoc-spaces n)

pub reverse-cons : (x : ℕ) (l : List ℕ) → reverse (x ∷ l) ≡ reverse l ++ x ∷ []
reverse-cons x l = reverse-append (x ∷ []) l

reverse-spaces : (n : ℕ) → reverse (spaces n) ≡ spaces n
reverse-spaces zero = refl
reverse-spaces (suc n) = reverse-cons 32 (spaces n) ∙
    ap (λ (l : List ℕ). l ++ 32 ∷ []) (reverse-spaces n) ∙ snoc-spaces n

-- what is left, and the spaces after it
back : (r : List ℕ) → r ≡ reverse (without_leading_spaces (reverse r)) ++ spaces (lead (reverse r))
back r =
    sym (reverse-reverse r) ∙ ap reverse (front (reverse r)) ∙
    reverse-append (spaces (lead (reverse r))) (without_leading_spaces (reverse r))
    ∙ ap (λ (l : List ℕ). reverse (without_leading_spaces (reverse r)) ++ l)
    (reverse-spaces (lead (reverse r)))

pub whole : (s : List ℕ) → s ≡ spaces (lead s) ++
    (trimmed s ++ spaces (lead (reverse (without_leading_spaces s))))
whole s = front s ∙ ap (λ (l : List ℕ). spaces (lead s) ++ l) (back (without_leading_spaces s))

-- ---- what is left

past_space : (r : List ℕ) → without_leading_spaces (32 ∷ r) ≡ without_leading_spaces r
past_space r = rw one-add refl

past_spaces : (n : ℕ) (r : List ℕ) → without_leading_spaces (spaces n ++ r) ≡ without_leading_spaces
    r
past_spaces zero r = refl
past_spaces (suc n) r = past_space (spaces n ++ r) ∙ past_spaces n r

solid : (r : List ℕ) → lead r ≡ 0 → without_leading_spaces r ≡ r
solid r e = ap (λ (n : ℕ). drop n r) e

still_solid : (w x : List ℕ) → lead w ≡ 0 → 0 < length w → lead (w ++ x) ≡ 0
still_solid [] x e h = absurd (omega arith)
still_solid (c ∷ w) x e h = by (is_space c) e
  where
    by : (b : Bool) → cond b (1 + lead w) 0 ≡ 0 → cond b (1 + lead (w ++ x)) 0 ≡ 0
    by true e = absurd (omega arith)
    by false e = refl

pub trimmed-spaced : (before after : ℕ) (w : List ℕ) → lead w ≡ 0 → lead (reverse w) ≡ 0 →
    0 < length w → trimmed (spaces before ++ (w ++ spaces after)) ≡ w
trimmed-spaced before after w e f h =
    let first : without_leading_spaces (spaces before ++ (w ++ spaces after)) ≡ w ++ spaces after =
    past_spaces before (w ++ spaces after) ∙ solid (w ++ spaces after)
    (still_solid w (spaces after) e h) in
    let turned : reverse (w ++ spaces after) ≡ spaces after ++ reverse w =
    reverse-append w (spaces after) ∙ ap (λ (l : List ℕ). l ++ reverse w) (reverse-spaces after) in
    ap (λ (l : List ℕ). reverse (without_leading_spaces (reverse l))) first ∙
    ap (λ (l : List ℕ). reverse (without_leading_spaces l)) turned
    ∙ ap reverse (past_spaces after (reverse w) ∙ solid (reverse w) f) ∙ reverse-reverse w

-- ---- the code's way: by counting

-- the last elements are cut by a count from the front
take-reverse : (n : ℕ) (r : List ℕ) → n ≤ length r →
    take (length r - n) r ≡ reverse (drop n (reverse r))
take-reverse n r h =
    let kept : List ℕ = reverse (drop n (reverse r)) in
    let cut : List ℕ = reverse (take n (reverse r)) in
    let parts : r ≡ kept ++ cut = sym (reverse-reverse r) ∙
    ap reverse (sym (take-append-drop n (reverse r))) ∙
    reverse-append (take n (reverse r)) (drop n (reverse r)) in
    let long : length r - n ≡ length kept = sym (length-reverse (drop n (reverse r)) ∙
    length-drop n (reverse r) ∙ ap (λ (k : ℕ). k - n) (length-reverse r)) in
    ap₂ take long parts ∙ take-append-le (length kept) kept cut (omega arith) ∙
    take_all (length kept) kept (omega arith)

pub trimmed-counted : (s rest : List ℕ) → rest ≡ without_leading_spaces s →
    take (length rest - lead (reverse rest)) rest ≡ trimmed s
trimmed-counted s rest e =
    take-reverse (lead (reverse rest)) rest (omega
    (arith, prefix_len-le-length is_space (reverse rest), length-reverse rest))
    ∙ ap (λ (l : List ℕ). reverse (without_leading_spaces (reverse l))) e
