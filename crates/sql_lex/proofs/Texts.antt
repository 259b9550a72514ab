-- Texts in quotes, and comments from `/*` to `*/`.
use Rattle.std.proofs.Common.{ℕ, ◌≡◌, ◌+◌, Bool, true, false, ◌&&◌, List, [], ◌∷◌, ◌++◌, length}
use Rattle.std.proofs.Common.{refl, sym, ap, ◌∙◌, subst, arith, nat_eq, eqb-true}
use Rattle.std.proofs.lemmas.Bool.{and_parts, or_parts, or_from}
use Rattle.std.specs.Prelude.{Option, Some, None}
use Rattle.sql_texts.specs.Names.{begins_by}
use Rattle.sql_lex.specs.Tokens.{is_quote, doubled, has_close}
use Rattle.sql_lex.specs.Scan.{unquoted, with_front, close_end, plus, begins_with}

abbrev Read : Type 0
Read = Option (List ℕ × ℕ)

-- one step of the reading, at a quote written twice, at a quote that closes, and at any other byte
twice : (b c : ℕ) (cs : List ℕ) → is_quote b ≡ true → is_quote c ≡ true →
    unquoted (b ∷ (c ∷ cs)) ≡ with_front (b ∷ []) 2 (unquoted cs)
twice b c cs h k = rw (h, k) refl

closing : (b : ℕ) (rest : List ℕ) → is_quote b ≡ true → begins_by is_quote rest ≡ false →
    unquoted (b ∷ rest) ≡ Some ([], 1)
closing b [] h k = rw h refl
closing b (c ∷ cs) h k = rw (h, k) refl

plain : (b : ℕ) (rest : List ℕ) → is_quote b ≡ false →
    unquoted (b ∷ rest) ≡ with_front (b ∷ []) 1 (unquoted rest)
plain b [] h = rw h refl
plain b (c ∷ cs) h = rw h refl

doubled_quote : (b : ℕ) (bs : List ℕ) → is_quote b ≡ true → doubled (b ∷ bs) ≡ b ∷ (b ∷ doubled bs)
doubled_quote b bs h = rw h refl

doubled_other : (b : ℕ) (bs : List ℕ) → is_quote b ≡ false → doubled (b ∷ bs) ≡ b ∷ doubled bs
doubled_other b bs h = rw h refl

-- a text that is spelled is read
pub unquoted-doubled : (text rest : List ℕ) → begins_by is_quote rest ≡ false →
    unquoted (doubled text ++ (39 ∷ rest)) ≡ Some (text, length (doubled text) + 1)
unquoted-doubled [] rest h = closing 39 rest refl h
unquoted-doubled (b ∷ bs) rest h =
    let again = unquoted-doubled bs rest h in
    let Goal : List ℕ → Type 0 = λ d. unquoted (d ++ (39 ∷ rest)) ≡ Some (b ∷ bs, length d + 1) in
    elim (is_quote b) as (λ t. is_quote b ≡ t → Goal (doubled (b ∷ bs))) [
      | true ↦ λ e.
          let n : 2 + (length (doubled bs) + 1) ≡ length (b ∷ (b ∷ doubled bs)) + 1 = omega arith in
          subst Goal (sym (doubled_quote b bs e)) (twice b b (doubled bs ++ (39 ∷ rest)) e e ∙
          ap (with_front (b ∷ []) 2) again ∙ ap (λ (n : ℕ). Some (b ∷ bs, n)) n)
      | false ↦ λ e.
          let n : 1 + (length (doubled bs) + 1) ≡ length (b ∷ doubled bs) + 1 = omega arith in
          subst Goal (sym (doubled_other b bs e)) (plain b (doubled bs ++ (39 ∷ rest)) e ∙
          ap (with_front (b ∷ []) 1) again ∙ ap (λ (n : ℕ). Some (b ∷ bs, n)) n)
    ] refl

-- what is read is spelled
pub record IsQuoted (s text : List ℕ) (width : ℕ) : Type 0 where
  pub rest : List ℕ
  pub parts : s ≡ doubled text ++ (39 ∷ rest)
  pub width_is : width ≡ length (doubled text) + 1
  pub ends : begins_by is_quote rest ≡ false

is_the_quote : (b : ℕ) → is_quote b ≡ true → b ≡ 39
is_the_quote b h = eqb-true b 39 h

at_quote : (b : ℕ) (rest text : List ℕ) (width : ℕ) → is_quote b ≡ true →
    begins_by is_quote rest ≡ false → unquoted (b ∷ rest) ≡ Some (text, width) →
    IsQuoted (b ∷ rest) text width
at_quote b rest text width e k h =
    let read = closing b rest e k in
    let same : ([], 1) ≡ (text, width) = cc in
    let P : List ℕ × ℕ → Type 0 = λ r. IsQuoted (b ∷ rest) r.0 r.1 in
    subst P same (record {
      rest = rest;
      parts = ap (λ (n : ℕ). n ∷ rest) (is_the_quote b e);
      width_is = refl;
      ends = k;
    })

-- with one more byte in front
more : (s tail : List ℕ) (b n : ℕ) → unquoted s ≡ with_front (b ∷ []) n (unquoted tail) →
    ((t : List ℕ) (w : ℕ) → unquoted tail ≡ Some (t, w) → IsQuoted s (b ∷ t) (n + w)) →
    (text : List ℕ) (width : ℕ) → unquoted s ≡ Some (text, width) → IsQuoted s text width
more s tail b n e quoted text width h =
    elim (unquoted tail) as (λ o. unquoted tail ≡ o → with_front (b ∷ []) n o ≡ Some (text, width) →
    IsQuoted s text width) [
      | None ↦ λ _ k. cc
      | Some r ↦ λ f k.
          let same : (b ∷ r.0, n + r.1) ≡ (text, width) = cc in
          let P : List ℕ × ℕ → Type 0 = λ r. IsQuoted s r.0 r.1 in
          subst P same (quoted r.0 r.1 f)
    ] refl (sym e ∙ h)

more_twice : (b c : ℕ) (cs t : List ℕ) (w : ℕ) → is_quote b ≡ true → is_quote c ≡ true →
    IsQuoted cs t w → IsQuoted (b ∷ (c ∷ cs)) (b ∷ t) (2 + w)
more_twice b c cs t w e f q =
    let d = doubled_quote b t e in
    let same : c ≡ b = is_the_quote c f ∙ sym (is_the_quote b e) in
    let n = ap length d in
    record {
      rest = q.rest;
      parts = (λ i. b ∷ (same i ∷ q.parts i)) ∙ sym (ap (λ (l : List ℕ). l ++ (39 ∷ q.rest)) d);
      width_is = omega (arith, q.width_is, n);
      ends = q.ends;
    }

more_plain : (b : ℕ) (s t : List ℕ) (w : ℕ) → is_quote b ≡ false → IsQuoted s t w →
    IsQuoted (b ∷ s) (b ∷ t) (1 + w)
more_plain b s t w e q =
    let d = doubled_other b t e in
    let n = ap length d in
    record {
      rest = q.rest;
      parts = ap (λ (l : List ℕ). b ∷ l) q.parts ∙ sym (ap (λ (l : List ℕ). l ++ (39 ∷ q.rest)) d);
      width_is = omega (arith, q.width_is, n);
      ends = q.ends;
    }

pub IsQuoted-unquoted : (s text : List ℕ) (width : ℕ) → unquoted s ≡ Some (text, width) →
    IsQuoted s text width
IsQuoted-unquoted [] text width h = cc
IsQuoted-unquoted (b ∷ []) text width h =
    elim (is_quote b) as (λ t. is_quote b ≡ t → IsQuoted (b ∷ []) text width) [
      | true ↦ λ e. at_quote b [] text width e refl h
      | false ↦ λ e. let none = plain b [] e in cc
    ] refl
IsQuoted-unquoted (b ∷ (c ∷ cs)) text width h =
    elim (is_quote b) as (λ t. is_quote b ≡ t → IsQuoted (b ∷ (c ∷ cs)) text width) [
      | true ↦ λ e. elim (is_quote c) as (λ t. is_quote c ≡ t → IsQuoted (b ∷ (c ∷ cs)) text width) [
        | true ↦ λ f. more (b ∷ (c ∷ cs)) cs b 2 (twice b c cs e f)
            (λ t w k. more_twice b c cs t w e f (IsQuoted-unquoted cs t w k)) text width h
        | false ↦ λ f. at_quote b (c ∷ cs) text width e f h
      ] refl
      | false ↦ λ e. more (b ∷ (c ∷ cs)) (c ∷ cs) b 1 (plain b (c ∷ cs) e)
          (λ t w k. more_plain b (c ∷ cs) t w e (IsQuoted-unquoted (c ∷ cs) t w k)) text width h
    ] refl

-- comments
close_found : (b : ℕ) (bs : List ℕ) → begins_with 42 47 (b ∷ bs) ≡ true →
    close_end (b ∷ bs) ≡ Some 2
close_found b bs h = rw h refl

close_later : (b : ℕ) (bs : List ℕ) → begins_with 42 47 (b ∷ bs) ≡ false →
    close_end (b ∷ bs) ≡ plus 1 (close_end bs)
close_later b bs h = rw h refl

abbrev is_solidus : ℕ → Bool
is_solidus c = nat_eq c 47

-- whether `*/` begins with a byte that stands before others
close_here : (b : ℕ) (bs : List ℕ) → begins_with 42 47 (b ∷ bs) ≡
    (nat_eq b 42 && begins_by (λ c. nat_eq c 47) bs)
close_here b [] = elim (nat_eq b 42) as (λ t. false ≡ (t && false)) [ true ↦ refl | false ↦ refl ]
close_here b (c ∷ cs) = refl

begins_by-front : (p : ℕ → Bool) (body : List ℕ) (b : ℕ) (rest : List ℕ) →
    begins_by p (body ++ b ∷ rest) ≡ begins_by p (body ++ b ∷ [])
begins_by-front p [] b rest = refl
begins_by-front p (c ∷ cs) b rest = refl

pub close_end-first : (body rest : List ℕ) → has_close (body ++ 42 ∷ []) ≡ false →
    close_end (body ++ (42 ∷ (47 ∷ rest))) ≡ Some (length body + 2)
close_end-first [] rest h = refl
close_end-first (b ∷ bs) rest h =
    let none = (or_parts (nat_eq b 42 && begins_by is_solidus (bs ++ 42 ∷ []))
    (has_close (bs ++ 42 ∷ [])) h).0 in
    let later = (or_parts (nat_eq b 42 && begins_by is_solidus (bs ++ 42 ∷ []))
    (has_close (bs ++ 42 ∷ [])) h).1 in
    let unlike = close_here b (bs ++ (42 ∷ (47 ∷ rest))) ∙
    ap (λ t. nat_eq b 42 && t) (begins_by-front is_solidus bs 42 (47 ∷ rest)) ∙ none in
    let n : 1 + (length bs + 2) ≡ length (b ∷ bs) + 2 = omega arith in
    close_later b (bs ++ (42 ∷ (47 ∷ rest))) unlike ∙ ap (plus 1) (close_end-first bs rest later) ∙
    ap (λ (n : ℕ). Some n) n

pub record IsClosed (s : List ℕ) (width : ℕ) : Type 0 where
  pub body : List ℕ
  pub rest : List ℕ
  pub parts : s ≡ body ++ (42 ∷ (47 ∷ rest))
  pub width_is : width ≡ length body + 2
  pub first : has_close (body ++ 42 ∷ []) ≡ false

closed_here : (b : ℕ) (bs : List ℕ) → begins_with 42 47 (b ∷ bs) ≡ true → IsClosed (b ∷ bs) 2
closed_here b [] h = cc
closed_here b (c ∷ cs) h =
    let e = eqb-true b 42 (and_parts (nat_eq b 42) (nat_eq c 47) h).0 in
    let f = eqb-true c 47 (and_parts (nat_eq b 42) (nat_eq c 47) h).1 in
    record { body = []; rest = cs; parts = λ i. e i ∷ (f i ∷ cs); width_is = refl; first = refl }

closed_later : (b : ℕ) (bs : List ℕ) (n : ℕ) → begins_with 42 47 (b ∷ bs) ≡ false → IsClosed bs n →
    IsClosed (b ∷ bs) (1 + n)
closed_later b bs n h q =
    let unlike : (nat_eq b 42 && begins_by is_solidus (q.body ++ 42 ∷ [])) ≡ false =
    ap (λ t. nat_eq b 42 && t) (sym (begins_by-front is_solidus q.body 42 (47 ∷ q.rest))) ∙
    ap (λ (l : List ℕ). nat_eq b 42 && begins_by is_solidus l) (sym q.parts) ∙
    sym (close_here b bs) ∙ h in
    record {
      body = b ∷ q.body;
      rest = q.rest;
      parts = ap (λ (l : List ℕ). b ∷ l) q.parts;
      width_is = omega (arith, q.width_is);
      first = or_from (nat_eq b 42 && begins_by is_solidus (q.body ++ 42 ∷ []))
          (has_close (q.body ++ 42 ∷ [])) unlike q.first;
    }

pub IsClosed-close_end : (s : List ℕ) (width : ℕ) → close_end s ≡ Some width → IsClosed s width
IsClosed-close_end [] width h = cc
IsClosed-close_end (b ∷ bs) width h =
    elim (begins_with 42 47 (b ∷ bs)) as (λ t. begins_with 42 47 (b ∷ bs) ≡ t →
    IsClosed (b ∷ bs) width) [
      | true ↦ λ e. let read = close_found b bs e in let same : 2 ≡ width = cc in
          subst (IsClosed (b ∷ bs)) same (closed_here b bs e)
      | false ↦ λ e.
          elim (close_end bs) as (λ o. close_end bs ≡ o → plus 1 o ≡ Some width →
          IsClosed (b ∷ bs) width) [
            | None ↦ λ _ k. cc
            | Some n ↦ λ f k. let same : 1 + n ≡ width = cc in
                subst (IsClosed (b ∷ bs)) same (closed_later b bs n e (IsClosed-close_end bs n f))
          ] refl (sym (close_later b bs e) ∙ h)
    ] refl
