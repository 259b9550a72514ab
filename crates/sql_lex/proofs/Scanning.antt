-- One step of each scanning loop.
use Rattle.std.proofs.Common.{ℕ, zero, suc, ◌≡◌, ◌+◌, ◌-◌, ◌*◌, ◌/◌, ◌<◌, ◌≤◌, Bool, true, false}
use Rattle.std.proofs.Common.{◌&&◌, not, List, [], ◌∷◌, ◌++◌, length, take, drop, get_or, refl, sym}
use Rattle.std.proofs.Common.{ap, ◌∙◌, subst, arith, drop-cons, add-one, add-zero, append_assoc}
use Rattle.std.proofs.Common.{nat_eq, nat_le, nat_lt, length-drop, get_or-drop, append-nil}
use Rattle.std.proofs.Common.{length-append}
use Rattle.std.proofs.lemmas.Bool.{and_parts, le-leb}
use Rattle.std.specs.Prelude.{Option, Some, None, pos, if◌then◌else◌}
use Rattle.std.specs.List.{fold, list_all, prefix_len, find}
use Rattle.std.proofs.lemmas.Slice.{between_to_end}
use Rattle.std.proofs.lemmas.List.{drop_all, drop-drop}
use Rattle.std.proofs.lemmas.Bool.Decides.{nat_tests}
use Rattle.sql_texts.specs.Names.{is_digit, is_letter, is_name_part, begins_by, most_characters}
use Rattle.sql_texts.specs.Names.{IsWordLike}
use Rattle.sql_lex.specs.declared.word.Word.{Word}
use Rattle.sql_lex.specs.declared.position.Position.{Position}
use Rattle.sql_lex.specs.Places.{past, moved}
use Rattle.sql_lex.specs.Tokens.{is_quote, digits_value, doubled, most_number}
use Rattle.sql_lex.specs.Scan.{begins_with, close_end, plus, unquoted, with_front, width_in_text}
use Rattle.sql_lex.specs.Scan.{number_of, IsUnquoted, text_of, text_within}
use Rattle.std.specs.Str.{IsUtf8, is_utf8, chars}
use Rattle.std.proofs.lemmas.Str.{IsUtf8-from_is_utf8, is_utf8-from_IsUtf8}
use Rattle.sql_lex.proofs.Sound.{front_is_word}
use Rattle.sql_lex.proofs.Spans.{list_all-prefix}
use Rattle.sql_lex.proofs.Texts.{IsClosed-close_end, IsQuoted-unquoted}

-- what is left from a place on
pub rest_of : (s : List ℕ) (i : ℕ) → take (length s - i) (drop i s) ≡ drop i s
rest_of s i = between_to_end s i (length s) (omega arith)

-- what is left at a place that is not the end
pub left : (s : List ℕ) (i : ℕ) → i < length s → drop i s ≡ get_or s i 0 ∷ drop (i + 1) s
left s i h = rw (add-one, drop-cons s i 0) refl

plus-plus : (m n : ℕ) (o : Option ℕ) → plus m (plus n o) ≡ plus (m + n) o
plus-plus m n None = refl
plus-plus m n (Some k) = let e : m + (n + k) ≡ m + n + k = omega arith in ap (λ (j : ℕ). Some j) e

close_more : (b : ℕ) (bs : List ℕ) → begins_with 42 47 (b ∷ bs) ≡ false →
    close_end (b ∷ bs) ≡ plus 1 (close_end bs)
close_more b bs h = rw h refl

close_here : (b : ℕ) (bs : List ℕ) → begins_with 42 47 (b ∷ bs) ≡ true → close_end (b ∷ bs) ≡ Some 2
close_here b bs h = rw h refl

pub close_end-goes : (s : List ℕ) (i : ℕ) → i < length s →
    begins_with 42 47 (take (length s - i) (drop i s)) ≡ false →
    close_end s ≡ plus i (close_end (drop i s)) →
    close_end s ≡ plus (i + 1) (close_end (drop (i + 1) s))
close_end-goes s i h unlike e =
    let rest = left s i h in
    let m = close_more (get_or s i 0) (drop (i + 1) s)
    (subst (λ l. begins_with 42 47 l ≡ false) (rest_of s i ∙ rest) unlike) in
    e ∙ ap (plus i) (ap close_end rest ∙ m) ∙ plus-plus i 1 (close_end (drop (i + 1) s))

pub close_end-found : (s : List ℕ) (i : ℕ) → i < length s →
    begins_with 42 47 (take (length s - i) (drop i s)) ≡ true →
    close_end s ≡ plus i (close_end (drop i s)) → close_end s ≡ Some (i + 2)
close_end-found s i h alike e =
    let rest = left s i h in
    let m = close_here (get_or s i 0) (drop (i + 1) s)
    (subst (λ l. begins_with 42 47 l ≡ true) (rest_of s i ∙ rest) alike) in
    e ∙ ap (plus i) (ap close_end rest ∙ m)

pub close_end-ends : (s : List ℕ) (i : ℕ) → length s ≤ i →
    close_end s ≡ plus i (close_end (drop i s)) → close_end s ≡ None
close_end-ends s i h e = e ∙ ap (λ (l : List ℕ). plus i (close_end l)) (drop_all i s h)

-- places
pub past-goes : (s : List ℕ) (i : ℕ) (p : Position) → i < length s →
    past (drop i s) p ≡ past (drop (i + 1) s) (moved (get_or s i 0) p)
past-goes s i p h = ap (λ (l : List ℕ). past l p) (left s i h)

-- numbers
abbrev carry : ℕ → ℕ → ℕ
carry n b = 10 * n + (b - 48)

pub fold-goes : (s : List ℕ) (i n : ℕ) → i < length s →
    fold carry n (drop i s) ≡ fold carry (10 * n + (get_or s i 0 - 48)) (drop (i + 1) s)
fold-goes s i n h = ap (λ (l : List ℕ). fold carry n l) (left s i h)

-- more digits make no number smaller
carry_grows : (s : List ℕ) (n : ℕ) → n ≤ fold carry n s
carry_grows [] n = omega arith
carry_grows (b ∷ bs) n = omega (arith, carry_grows bs (carry n b))

pub number_of-past : (s : List ℕ) (i n : ℕ) → i < length s → n ≤ most_number → get_or s i 0 ≤ 57 →
    (most_number - (get_or s i 0 - 48)) / 10 < n → fold carry n (drop i s) ≡ digits_value s →
    number_of s ≡ None
number_of-past s i n h m d over e =
    let g : fold carry n (drop i s) ≡ fold carry (10 * n + (get_or s i 0 - 48)) (drop (i + 1) s) =
    fold-goes s i n h in
    let k : 10 * n + (get_or s i 0 - 48) ≤ digits_value s =
    omega (arith, carry_grows (drop (i + 1) s) (10 * n + (get_or s i 0 - 48))) in
    let past_most : most_number < digits_value s = omega arith in
    grind (arith, nat_tests)

pub number_of-is : (s : List ℕ) (n : ℕ) → n ≤ most_number → n ≡ digits_value s →
    number_of s ≡ Some (pos n)
number_of-is s n m e = grind (arith, nat_tests)

-- texts
with_front-with_front : (p q : List ℕ) (m n : ℕ) (o : Option (List ℕ × ℕ)) →
    with_front p m (with_front q n o) ≡ with_front (p ++ q) (m + n) o
with_front-with_front p q m n None = refl
with_front-with_front p q m n (Some r) =
    let e : m + (n + r.1) ≡ m + n + r.1 = omega arith in
    let l = sym (append_assoc p q r.0) in
    ap (λ (x : List ℕ × ℕ). Some x) (λ i. (l i, e i))

digit_most : (b : ℕ) → is_digit b ≡ true → b ≤ 57
digit_most b h = grind (arith, nat_tests)

pub each_digit_most : (s : List ℕ) (i : ℕ) → list_all is_digit s ≡ true → get_or s i 0 ≤ 57
each_digit_most [] i h = omega arith
each_digit_most (b ∷ bs) zero h = digit_most b (and_parts _ _ h).0
each_digit_most (b ∷ bs) (suc i) h = each_digit_most bs i (and_parts _ _ h).1

-- texts
begins_long : (b c x y : ℕ) (ys : List ℕ) → begins_with b c (x ∷ (y ∷ ys)) ≡
    (nat_lt 1 (length (x ∷ (y ∷ ys))) && (nat_eq x b && nat_eq y c))
begins_long b c x y ys =
    let h : nat_lt 1 (length (x ∷ (y ∷ ys))) ≡ true = grind (arith, nat_tests) in rw h refl

pub begins_with-is : (b c : ℕ) (s : List ℕ) →
    begins_with b c s ≡ (nat_lt 1 (length s) &&
    (nat_eq (get_or s 0 0) b && nat_eq (get_or s 1 0) c))
begins_with-is b c [] = refl
begins_with-is b c (x ∷ []) = refl
begins_with-is b c (x ∷ (y ∷ ys)) = begins_long b c x y ys

abbrev one : Option ℕ
one = Some 1

abbrev two : Option ℕ
two = Some 2

abbrev nothing : Option ℕ
nothing = None

abbrev closed : Option (List ℕ × ℕ)
closed = Some ([], 1)

abbrev unread : Option (List ℕ × ℕ)
unread = None

closes : (s : List ℕ) → 0 < length s → width_in_text s ≡ None → unquoted s ≡ Some ([], 1)
closes [] h e = absurd (omega arith)
closes (b ∷ []) h e =
    elim (is_quote b) as (λ q. (if not q then one else nothing) ≡ nothing →
    (if q then closed else unread) ≡ closed) [ true ↦ λ e. refl | false ↦ λ e. cc ] e
closes (b ∷ (c ∷ cs)) h e =
    elim (is_quote b) as (λ q. (if not q then one else if q && is_quote c then two else nothing) ≡
    nothing → (if q then (if is_quote c then with_front (b ∷ []) 2 (unquoted cs) else closed) else
    with_front (b ∷ []) 1 (unquoted (c ∷ cs))) ≡ closed) [
      | true ↦ elim (is_quote c) as (λ r. (if r then two else nothing) ≡ nothing →
          (if r then with_front (b ∷ []) 2 (unquoted cs) else closed) ≡ closed) [
            | true ↦ λ e. cc
            | false ↦ λ e. refl
          ]
      | false ↦ λ e. cc
    ] e

goes_on : (s : List ℕ) (w : ℕ) → 0 < length s → width_in_text s ≡ Some w →
    unquoted s ≡ with_front (get_or s 0 0 ∷ []) w (unquoted (drop w s))
goes_on [] w h e = absurd (omega arith)
goes_on (b ∷ []) w h e =
    elim (is_quote b) as (λ q. (if not q then one else nothing) ≡ Some w →
    (if q then closed else unread) ≡ with_front (b ∷ []) w (unquoted (drop w (b ∷ [])))) [
      | true ↦ λ e. cc
      | false ↦ λ e. let k : 1 ≡ w = cc in subst
          (λ (n : ℕ). unread ≡ with_front (b ∷ []) n (unquoted (drop n (b ∷ [])))) k refl
    ] e
goes_on (b ∷ (c ∷ cs)) w h e =
    elim (is_quote b) as (λ q. (if not q then one else if q && is_quote c then two else nothing) ≡
    Some w → (if q then (if is_quote c then with_front (b ∷ []) 2 (unquoted cs) else closed) else
    with_front (b ∷ []) 1 (unquoted (c ∷ cs))) ≡ with_front (b ∷ []) w
    (unquoted (drop w (b ∷ (c ∷ cs))))) [
      | true ↦ elim (is_quote c) as (λ r. (if r then two else nothing) ≡ Some w →
          (if r then with_front (b ∷ []) 2 (unquoted cs) else closed) ≡ with_front (b ∷ []) w
          (unquoted (drop w (b ∷ (c ∷ cs))))) [
            | true ↦ λ e. let k : 2 ≡ w = cc in subst
                (λ (n : ℕ). with_front (b ∷ []) 2 (unquoted cs) ≡ with_front (b ∷ []) n
                (unquoted (drop n (b ∷ (c ∷ cs))))) k refl
            | false ↦ λ e. cc
          ]
      | false ↦ λ e. let k : 1 ≡ w = cc in subst
          (λ (n : ℕ). with_front (b ∷ []) 1 (unquoted (c ∷ cs)) ≡ with_front (b ∷ []) n
          (unquoted (drop n (b ∷ (c ∷ cs))))) k refl
    ] e

pub unquoted-closes : (s read : List ℕ) (i : ℕ) → i < length s →
    width_in_text (take (length s - i) (drop i s)) ≡ None →
    unquoted s ≡ with_front read i (unquoted (drop i s)) → unquoted s ≡ Some (read, i + 1)
unquoted-closes s read i h none e =
    let long : 0 < length (drop i s) = simp length-drop (omega arith) in
    let c = closes (drop i s) long (subst (λ (l : List ℕ). width_in_text l ≡ None)
    (rest_of s i) none) in
    let r = append-nil read in
    e ∙ ap (with_front read i) c ∙ ap (λ (l : List ℕ). Some (l, i + 1)) r

pub unquoted-goes : (s read : List ℕ) (i w : ℕ) → i < length s →
    width_in_text (take (length s - i) (drop i s)) ≡ Some w →
    unquoted s ≡ with_front read i (unquoted (drop i s)) →
    unquoted s ≡ with_front (read ++ get_or s i 0 ∷ []) (i + w) (unquoted (drop (i + w) s))
unquoted-goes s read i w h some e =
    let long : 0 < length (drop i s) = simp length-drop (omega arith) in
    let g = goes_on (drop i s) w long (subst (λ (l : List ℕ). width_in_text l ≡ Some w)
    (rest_of s i) some) in
    let first : get_or (drop i s) 0 0 ≡ get_or s i 0 = get_or-drop i s 0 0 ∙
    ap (λ (n : ℕ). get_or s n 0) (add-zero i) in
    let rest : drop w (drop i s) ≡ drop (i + w) s = drop-drop w i s in
    e ∙ ap (with_front read i) (g ∙ (λ j. with_front (first j ∷ []) w (unquoted (rest j)))) ∙
    with_front-with_front read (get_or s i 0 ∷ []) i w (unquoted (drop (i + w) s))

pub unquoted-ends : (s read : List ℕ) (i : ℕ) → length s ≤ i →
    unquoted s ≡ with_front read i (unquoted (drop i s)) → unquoted s ≡ None
unquoted-ends s read i h e = e ∙ ap (λ (l : List ℕ). with_front read i (unquoted l))
    (drop_all i s h)

no-front : (o : Option (List ℕ × ℕ)) → o ≡ with_front [] 0 o
no-front None = refl
no-front (Some r) = let e : r.1 ≡ 0 + r.1 = omega arith in ap (λ (n : ℕ). Some (r.0, n)) e

pub unquoted-starts : (s : List ℕ) → unquoted s ≡ with_front [] 0 (unquoted s)
unquoted-starts s = no-front (unquoted s)

pub pushed : (new text old read : List ℕ) (b : ℕ) → new ≡ text ++ b ∷ [] → text ≡ old ++ read →
    new ≡ old ++ (read ++ b ∷ [])
pushed new text old read b grown e = grown ∙ ap (λ (l : List ℕ). l ++ b ∷ []) e ∙
    append_assoc old read (b ∷ [])

-- how far the readings reach
pub close_end-within : (s : List ℕ) (width : ℕ) → close_end s ≡ Some width → width ≤ length s
close_end-within s width h =
    let q = IsClosed-close_end s width h in
    omega (arith, q.width_is, ap length q.parts, length-append q.body (42 ∷ (47 ∷ q.rest)))

pub unquoted-within : (s old new : List ℕ) (read : Option ℕ) (width : ℕ) →
    IsUnquoted (unquoted s) old new read → read ≡ Some width → width ≤ length s
unquoted-within s old new None width h e = cc
unquoted-within s old new (Some n) width h e =
    let same : n ≡ width = cc in
    let q = IsQuoted-unquoted s h.0 n h.1 in
    omega (arith, q.width_is, ap length q.parts, length-append (doubled h.0) (39 ∷ q.rest))

-- words
pub front_is_word_like : (s : List ℕ) (n : ℕ) → begins_by is_letter s ≡ true →
    n ≡ prefix_len is_name_part s → n ≤ 128 → IsWordLike (take n s)
front_is_word_like [] n h e m = cc
front_is_word_like (b ∷ bs) n h e m =
    let Like : ℕ → Type 0 = λ k. IsWordLike (take k (b ∷ bs)) in
    let short : nat_le (prefix_len is_name_part (b ∷ bs)) most_characters ≡ true =
    le-leb (prefix_len is_name_part (b ∷ bs)) most_characters (omega arith) in
    subst Like (sym e) (front_is_word b bs h short)

pub front_is_digits : (s : List ℕ) (n : ℕ) → n ≡ prefix_len is_digit s →
    list_all is_digit (take n s) ≡ true
front_is_digits s n e = ap (λ k. list_all is_digit (take k s)) e ∙ list_all-prefix is_digit s

-- reserved words
pub find-goes : (p : Word → Bool) (ws : List Word) (i : ℕ) (d : Word) → i < length ws →
    p (get_or ws i d) ≡ false → find p (drop i ws) ≡ find p (drop (i + 1) ws)
find-goes p ws i d h e = rw (add-one, drop-cons ws i d, e) refl

pub find-here : (p : Word → Bool) (ws : List Word) (i : ℕ) (d : Word) → i < length ws →
    p (get_or ws i d) ≡ true → find p (drop i ws) ≡ Some (get_or ws i d)
find-here p ws i d h e = rw (drop-cons ws i d, e) refl

-- texts
pub text_of-utf8 : (bytes string : List ℕ) → string ≡ bytes → IsUtf8 string →
    text_within (chars string) ≡ text_of bytes
text_of-utf8 bytes string e utf8 =
    let Is : Bool → Option (List ℕ) = λ t. if t then text_within (chars bytes) else None in
    ap (λ (l : List ℕ). text_within (chars l)) e ∙
    sym (ap Is (is_utf8-from_IsUtf8 bytes (subst IsUtf8 e utf8)))

pub text_of-other : (bytes : List ℕ) → (IsUtf8 bytes → false ≡ true) → text_of bytes ≡ None
text_of-other bytes not_utf8 =
    let Is : Bool → Option (List ℕ) = λ t. if t then text_within (chars bytes) else None in
    elim (is_utf8 bytes) as (λ t. is_utf8 bytes ≡ t → Is t ≡ None)
    [ true ↦ λ e. let never = not_utf8 (IsUtf8-from_is_utf8 bytes e) in cc | false ↦ λ e. refl ]
    refl
