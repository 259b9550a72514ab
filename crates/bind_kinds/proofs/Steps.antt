-- One step of each loop that has two lists, over plain variables.
use Rattle.std.proofs.Common.{◌≡◌, ◌≢◌, refl, sym, ap, ◌∙◌, subst, ℕ, ◌+◌, ◌<◌, zero, suc, List, []}
use Rattle.std.proofs.Common.{◌∷◌, ◌++◌, append_assoc, map, reverse, take, drop, length, get_or}
use Rattle.std.proofs.Common.{slice_get, slice_set, add-one, arith, Some, None, true}
use Rattle.std.proofs.Math.Seq.{drop-cons}
use Rattle.std.proofs.lemmas.List.{reverse-append, append-nil}
use Rattle.syntax_trees.specs.declared.expr.ChainOperator.{ChainOperator}
use Rattle.syntax_trees.specs.declared.expr.Link.{Link}
use Rattle.bound_trees.specs.declared.expr.BoundExpr.{BoundExpr}
use Rattle.bound_trees.specs.declared.expr.BoundExpr.TheVariants as bound
use Rattle.bound_trees.specs.declared.expr.BoundLink.{BoundLink}
use Rattle.bound_trees.specs.declared.expr.BoundOperation.TheVariants.{Negation}
use Rattle.sql_values.specs.declared.value.Value.TheVariants.{Bool as Truth}
use Rattle.bind_kinds.specs.declared.kind.Kind.{Kind}
use Rattle.bind_kinds.specs.declared.kind.OperandHead.{OperandHead}
use Rattle.bind_kinds.specs.Kinds.{joined, joined_row}
use Rattle.bind_kinds.specs.Aggregates.{argument_of}
use Rattle.bind_kinds.specs.Words.{plus, operator_in, link_of, links_of}

-- ---- the kinds of columns

joined-nil : (ks : List Kind) → joined_row ks [] ≡ ks
joined-nil [] = refl
joined-nil (k ∷ ks) = refl

join-at : (ks : List Kind) (hs : List OperandHead) (i : ℕ) (d : OperandHead) (k : Kind) →
    i < length hs → slice_get ks i ≡ Some k
    → take (suc i) (slice_set ks i (joined k (get_or hs i d).kind)) ++ joined_row
    (drop (suc i) (slice_set ks i (joined k (get_or hs i d).kind))) (drop (suc i) hs)
    ≡ take i ks ++ joined_row (drop i ks) (drop i hs)
join-at [] hs i d k l p = absurd cc
join-at (x ∷ ks) [] i d k l p = absurd (omega arith)
join-at (x ∷ ks) (y ∷ hs) zero d k l p = let same : x ≡ k = cc in
    ap (λ (z : Kind). joined z y.kind ∷ joined_row ks hs) (sym same)
join-at (x ∷ ks) (y ∷ hs) (suc i) d k l p = ap (λ z. x ∷ z) (join-at ks hs i d k (omega arith) p)

pub join-more : (ks new : List Kind) (hs : List OperandHead) (i : ℕ) (d : OperandHead)
    (k j : Kind) → i < length hs → slice_get ks i ≡ Some k
    → j ≡ joined k (get_or hs i d).kind → new ≡ slice_set ks i j
    → take (i + 1) new ++ joined_row (drop (i + 1) new) (drop (i + 1) hs) ≡ take i ks ++ joined_row
    (drop i ks) (drop i hs)
join-more ks new hs i d k j l p q is =
    ap (λ z. take (i + 1) z ++ joined_row (drop (i + 1) z) (drop (i + 1) hs))
    (is ∙ ap (λ z. slice_set ks i z) q) ∙ rw add-one (join-at ks hs i d k l p)

taken-whole : (ks : List Kind) (i : ℕ) → slice_get ks i ≡ None → take i ks ≡ ks
taken-whole [] zero p = refl
taken-whole [] (suc i) p = refl
taken-whole (k ∷ ks) zero p = absurd cc
taken-whole (k ∷ ks) (suc i) p = ap (λ z. k ∷ z) (taken-whole ks i p)

none-left : (ks : List Kind) (i : ℕ) → slice_get ks i ≡ None → drop i ks ≡ []
none-left [] zero p = refl
none-left [] (suc i) p = refl
none-left (k ∷ ks) zero p = absurd cc
none-left (k ∷ ks) (suc i) p = none-left ks i p

still-none : (ks : List Kind) (i : ℕ) → slice_get ks i ≡ None → slice_get ks (suc i) ≡ None
still-none [] i p = refl
still-none (k ∷ ks) zero p = absurd cc
still-none (k ∷ ks) (suc i) p = still-none ks i p

join-past : (ks : List Kind) (hs : List OperandHead) (i : ℕ) → slice_get ks i ≡ None →
    take i ks ++ joined_row (drop i ks) hs ≡ ks
join-past ks hs i p = ap (λ z. take i ks ++ joined_row z hs) (none-left ks i p) ∙
    append-nil (take i ks) ∙ taken-whole ks i p

pub join-none : (ks new : List Kind) (hs : List OperandHead) (i : ℕ) → slice_get ks i ≡ None →
    new ≡ ks
    → take (i + 1) new ++ joined_row (drop (i + 1) new) (drop (i + 1) hs) ≡ take i ks ++ joined_row
    (drop i ks) (drop i hs)
join-none ks new hs i p is =
    ap (λ z. take (i + 1) z ++ joined_row (drop (i + 1) z) (drop (i + 1) hs)) is
    ∙ rw add-one (join-past ks (drop (suc i) hs) (suc i) (still-none ks i p) ∙
    sym (join-past ks (drop i hs) i p))

at-end : (ks whole : List Kind) (hs : List OperandHead) →
    take (length hs) ks ++ joined_row (drop (length hs) ks) (drop (length hs) hs) ≡ whole →
    ks ≡ whole
at-end ks whole hs p = split ks (length hs) ∙
    ap (λ z. take (length hs) ks ++ z) (sym (joined-nil (drop (length hs) ks))) ∙
    ap (λ z. take (length hs) ks ++ joined_row (drop (length hs) ks) z) (sym (nothing hs)) ∙ p
  where
    split : (xs : List Kind) (n : ℕ) → xs ≡ take n xs ++ drop n xs
    split [] zero = refl
    split [] (suc n) = refl
    split (x ∷ xs) zero = refl
    split (x ∷ xs) (suc n) = ap (λ z. x ∷ z) (split xs n)

    nothing : (hs : List OperandHead) → drop (length hs) hs ≡ []
    nothing [] = refl
    nothing (h ∷ hs) = nothing hs

pub join-end : (ks whole : List Kind) (hs : List OperandHead) (n : ℕ) → n ≡ length hs →
    take n ks ++ joined_row (drop n ks) (drop n hs) ≡ whole → ks ≡ whole
join-end ks whole hs n is p = at-end ks whole hs
    (subst (λ m. take m ks ++ joined_row (drop m ks) (drop m hs) ≡ whole) is p)

-- ---- lists from after

-- the last of what is left goes after what is found
pub turn-more : {A : Type 0} (found more left rest whole : List A) (x : A) → left ≡ rest ++ x ∷ [] →
    more ≡ found ++ x ∷ [] → found ++ reverse left ≡ whole → more ++ reverse rest ≡ whole
turn-more found more left rest whole x is p q =
    ap (λ z. z ++ reverse rest) p ∙ append_assoc found (x ∷ []) (reverse rest) ∙
    ap (λ z. found ++ z) (sym (reverse-append rest (x ∷ []))) ∙
    ap (λ z. found ++ reverse z) (sym is) ∙ q

unrolled : {A : Type 0} (xs : List A) (i : ℕ) (x : A) → i < length xs → x ≡ get_or xs i x →
    drop i xs ≡ x ∷ drop (i + 1) xs
unrolled xs i x h e = rw (drop-cons xs i x h) (rw add-one (ap (λ y. y ∷ drop (suc i) xs) (sym e)))

abbrev operators : List Link → List ChainOperator
operators ls = map (λ l. l.operator) ls

links-none : (os : List ChainOperator) → links_of os [] ≡ []
links-none [] = refl
links-none (o ∷ os) = refl

pub link-more : (ls : List Link) (i : ℕ) (l : Link) (found more : List BoundLink)
    (left rest : List BoundExpr) (e : BoundExpr) → i < length ls → l ≡ get_or ls i l
    → left ≡ rest ++ e ∷ [] → more ≡ found ++ link_of (operator_in l.operator) e ∷ []
    → more ++ links_of (operators (drop (i + 1) ls)) (reverse rest) ≡ found ++ links_of
    (operators (drop i ls)) (reverse left)
link-more ls i l found more left rest e h at is p =
    ap (λ z. z ++ links_of (operators (drop (i + 1) ls)) (reverse rest)) p
    ∙ append_assoc found (link_of (operator_in l.operator) e ∷ [])
    (links_of (operators (drop (i + 1) ls)) (reverse rest))
    ∙ ap (λ z. found ++ links_of (operators z) (e ∷ reverse rest)) (sym (unrolled ls i l h at))
    ∙ ap (λ z. found ++ links_of (operators (drop i ls)) z) (sym (reverse-append rest (e ∷ [])))
    ∙ ap (λ z. found ++ links_of (operators (drop i ls)) (reverse z)) (sym is)

pub link-none : (ls : List Link) (i : ℕ) (found more : List BoundLink) (left rest : List BoundExpr)
    → more ≡ found → left ≡ [] → rest ≡ []
    → more ++ links_of (operators (drop (i + 1) ls)) (reverse rest) ≡ found ++ links_of
    (operators (drop i ls)) (reverse left)
link-none ls i found more left rest is p q =
    ap (λ z. z ++ links_of (operators (drop (i + 1) ls)) (reverse rest)) is
    ∙ ap (λ z. found ++ links_of (operators (drop (i + 1) ls)) (reverse z)) q ∙
    ap (λ z. found ++ z) (links-none (operators (drop (i + 1) ls)) ∙
    sym (links-none (operators (drop i ls))))
    ∙ ap (λ z. found ++ links_of (operators (drop i ls)) (reverse z)) (sym p)

-- ---- the sign +

pub plus_of_one : (es : List BoundExpr) (e : BoundExpr) → length es ≡ 1 → slice_get es 0 ≡ Some e →
    plus es ≡ e
plus_of_one [] e h p = absurd (omega arith)
plus_of_one (x ∷ []) e h p = cc
plus_of_one (x ∷ y ∷ es) e h p = absurd (omega arith)

pub plus_of_others : (es : List BoundExpr) → length es ≢ 1 → plus es ≡ bound.Operation Negation es
plus_of_others [] h = refl
plus_of_others (x ∷ []) h = absurd (h refl)
plus_of_others (x ∷ y ∷ es) h = refl

-- ---- the argument of an aggregate

pub argument_of_none : (es : List BoundExpr) → length es ≡ 0 →
    argument_of es ≡ bound.Literal (Truth true)
argument_of_none [] h = refl
argument_of_none (x ∷ es) h = absurd (omega arith)

pub argument_of_some : (es : List BoundExpr) (e : BoundExpr) → length es ≢ 0 →
    slice_get es 0 ≡ Some e → argument_of es ≡ e
argument_of_some [] e h p = absurd (h refl)
argument_of_some (x ∷ es) e h p = cc
