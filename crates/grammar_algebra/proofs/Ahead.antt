-- Tests of the next token.
use Rattle.std.proofs.Common.{◌≡◌, Bool, true, false, not, ◌&&◌, ◌||◌, List, [], ◌∷◌, ◌++◌, refl}
use Rattle.std.proofs.Common.{ap, sym, ◌∙◌, subst, inl, inr, ◌⊎◌}
use Rattle.std.proofs.lemmas.Bool.{and_parts, or_cases, or_left, or_right, or_parts, not-true}
use denote.Enum.Bare.{same_true, true_same}
use Rattle.sql_lex.specs.Tokens.{kind_of}
use Rattle.sql_lex.specs.contracts.word.Word.{the_type as words}
use Rattle.sql_lex.specs.contracts.sign.Sign.{the_type as signs}
use Rattle.sql_lex.specs.declared.token.TokenKind.{TokenKind}
use Rattle.sql_lex.specs.declared.token.TokenKind.TheVariants as kind
use Rattle.sql_lex.specs.declared.token.Token.{Token}
use Rattle.grammar_algebra.specs.declared.stage.Stage.{Stage}
use Rattle.grammar_algebra.specs.declared.stage.Stage.TheVariants.{First, Second, Third}
use Rattle.grammar_algebra.specs.Grammar.{Takes, Passes}
use Rattle.grammar_algebra.specs.Reading.{same_kind, is_one_of, begins, apart, at_stages}
use Rattle.grammar_algebra.specs.Reading.{at_each_stage}

pub same_is : (a b : TokenKind) → same_kind a b ≡ true → a ≡ b
unfolding same_kind
same_is kind.Name kind.Name e = refl
same_is (kind.Word a) (kind.Word b) e = ap kind.Word (same_true words tt a b e)
same_is kind.Number kind.Number e = refl
same_is kind.Text kind.Text e = refl
same_is (kind.Sign a) (kind.Sign b) e = ap kind.Sign (same_true signs tt a b e)
same_is kind.Bad kind.Bad e = refl
same_is a b e = cc

pub same_self : (a : TokenKind) → same_kind a a ≡ true
unfolding same_kind
same_self kind.Name = refl
same_self (kind.Word a) = true_same words a a refl
same_self kind.Number = refl
same_self kind.Text = refl
same_self (kind.Sign a) = true_same signs a a refl
same_self kind.Bad = refl

pub is_same : (a b : TokenKind) → a ≡ b → same_kind a b ≡ true
is_same a b e = subst (λ z. same_kind a z ≡ true) e (same_self a)

pub not_both : (a : Bool) → a ≡ true → a ≡ false → ⊥
not_both a t f = cc

or_assoc : (a b c : Bool) → (a || (b || c)) ≡ ((a || b) || c)
or_assoc true b c = refl
or_assoc false b c = refl

pub one_of-append : (k : TokenKind) (xs ys : List TokenKind) →
    is_one_of k (xs ++ ys) ≡ (is_one_of k xs || is_one_of k ys)
one_of-append k [] ys = refl
one_of-append k (x ∷ xs) ys = ap (λ (z : Bool). same_kind k x || z) (one_of-append k xs ys) ∙
    or_assoc (same_kind k x) (is_one_of k xs) (is_one_of k ys)

pub begins-append : (xs ys : List TokenKind) (ts : List Token) →
    begins (xs ++ ys) ts ≡ (begins xs ts || begins ys ts)
begins-append xs ys [] = refl
begins-append xs ys (t ∷ ts) = one_of-append (kind_of t.lexeme) xs ys

pub begins_none : (ts : List Token) → begins [] ts ≡ false
begins_none [] = refl
begins_none (t ∷ ts) = refl

pub begins_more : (k : TokenKind) (ks : List TokenKind) (ts : List Token) →
    begins (k ∷ ks) ts ≡ (begins (k ∷ []) ts || begins ks ts)
begins_more k ks ts = begins-append (k ∷ []) ks ts

pub begins_left : (xs ys : List TokenKind) (ts : List Token) → begins xs ts ≡ true →
    begins (xs ++ ys) ts ≡ true
begins_left xs ys ts e = begins-append xs ys ts ∙ or_left (begins xs ts) (begins ys ts) e

pub begins_right : (xs ys : List TokenKind) (ts : List Token) → begins ys ts ≡ true →
    begins (xs ++ ys) ts ≡ true
begins_right xs ys ts e = begins-append xs ys ts ∙ or_right (begins xs ts) (begins ys ts) e

pub stops_both : (xs ys : List TokenKind) (ts : List Token) → begins (xs ++ ys) ts ≡ false →
    (begins xs ts ≡ false) × (begins ys ts ≡ false)
stops_both xs ys ts e = or_parts (begins xs ts) (begins ys ts) (sym (begins-append xs ys ts) ∙ e)

apart_one : (k : TokenKind) (xs ys : List TokenKind) → apart xs ys ≡ true → is_one_of k xs ≡ true →
    is_one_of k ys ≡ false
apart_one k [] ys a e = cc
apart_one k (x ∷ xs) ys a e = go (or_cases (same_kind k x) (is_one_of k xs) e)
    (and_parts (not (is_one_of x ys)) (apart xs ys) a)
    (λ later. λ here. apart_one k xs ys later here)
  where
    go : (same_kind k x ≡ true) ⊎ (is_one_of k xs ≡ true) → (not (is_one_of x ys) ≡ true) ×
        (apart xs ys ≡ true)
        → (apart xs ys ≡ true → is_one_of k xs ≡ true → is_one_of k ys ≡ false) →
        is_one_of k ys ≡ false
    go (inl same) p ih = subst (λ (z : TokenKind). is_one_of z ys ≡ false) (sym (same_is k x same))
        (not-true (is_one_of x ys) p.0)
    go (inr later) p ih = ih p.1 later

pub apart_stops : (xs ys : List TokenKind) (ts : List Token) → apart xs ys ≡ true →
    begins xs ts ≡ true → begins ys ts ≡ false
apart_stops xs ys [] a e = refl
apart_stops xs ys (t ∷ ts) a e = apart_one (kind_of t.lexeme) xs ys a e

pub takes_begins : (kind : TokenKind) (t : Token) (ts rest : List Token) → Takes kind t ts rest →
    begins (kind ∷ []) ts ≡ true
takes_begins kind t ts rest (k, e) =
    let head : begins (kind ∷ []) (t ∷ rest) ≡ true =
    or_left (same_kind (kind_of t.lexeme) kind) false (is_same (kind_of t.lexeme) kind k) in
    subst (λ (z : List Token). begins (kind ∷ []) z ≡ true) (sym e) head

pub passes_begins : (kind : TokenKind) (ts rest : List Token) → Passes kind ts rest →
    begins (kind ∷ []) ts ≡ true
passes_begins kind ts rest (t, p) = takes_begins kind t ts rest p

pub stops_one : (kind : TokenKind) (kinds : List TokenKind) (ts rest : List Token) →
    Passes kind ts rest → not (is_one_of kind kinds) ≡ true → begins kinds ts ≡ false
stops_one kind kinds ts rest (t, (k, e)) n =
    let head : is_one_of (kind_of t.lexeme) kinds ≡ false =
    subst (λ (z : TokenKind). is_one_of z kinds ≡ false) (sym k)
    (not-true (is_one_of kind kinds) n) in
    subst (λ (z : List Token). begins kinds z ≡ false) (sym e) head

pub sees_is : (kind : TokenKind) (t : Token) (rest : List Token) →
    begins (kind ∷ []) (t ∷ rest) ≡ true → kind_of t.lexeme ≡ kind
sees_is kind t rest e = go (or_cases (same_kind (kind_of t.lexeme) kind) false e)
  where
    go : (same_kind (kind_of t.lexeme) kind ≡ true) ⊎ (false ≡ true) → kind_of t.lexeme ≡ kind
    go (inl e) = same_is (kind_of t.lexeme) kind e
    go (inr e) = cc

pub is_sees : (kind : TokenKind) (t : Token) (rest : List Token) → kind_of t.lexeme ≡ kind →
    begins (kind ∷ []) (t ∷ rest) ≡ true
is_sees kind t rest e = or_left (same_kind (kind_of t.lexeme) kind) false
    (is_same (kind_of t.lexeme) kind e)

-- ---- stages

-- what begins at one stage begins at some
pub some_stage : (kinds : Stage → List TokenKind) (stage : Stage) (ts : List Token) →
    begins (kinds stage) ts ≡ true → begins (at_stages kinds) ts ≡ true
some_stage kinds First ts e = begins_left (kinds First) (kinds Second ++ kinds Third) ts e
some_stage kinds Second ts e = begins_right (kinds First) (kinds Second ++ kinds Third) ts
    (begins_left (kinds Second) (kinds Third) ts e)
some_stage kinds Third ts e = begins_right (kinds First) (kinds Second ++ kinds Third) ts
    (begins_right (kinds Second) (kinds Third) ts e)

-- what stops all stages stops each
pub each_stage_stops : (kinds : Stage → List TokenKind) (ts : List Token) →
    begins (at_stages kinds) ts ≡ false → (stage : Stage) → begins (kinds stage) ts ≡ false
each_stage_stops kinds ts e First = (stops_both (kinds First) (kinds Second ++ kinds Third) ts e).0
each_stage_stops kinds ts e Second = (stops_both (kinds Second) (kinds Third) ts
    ((stops_both (kinds First) (kinds Second ++ kinds Third) ts e).1)).0
each_stage_stops kinds ts e Third = (stops_both (kinds Second) (kinds Third) ts
    ((stops_both (kinds First) (kinds Second ++ kinds Third) ts e).1)).1

pub each_stage : (test : Stage → Bool) → at_each_stage test ≡ true → (stage : Stage) →
    test stage ≡ true
each_stage test e First = (and_parts (test First) (test Second && test Third) e).0
each_stage test e Second = (and_parts (test Second) (test Third)
    ((and_parts (test First) (test Second && test Third) e).1)).0
each_stage test e Third = (and_parts (test Second) (test Third)
    ((and_parts (test First) (test Second && test Third) e).1)).1
