-- UTF-8 keeps the order: the bytes of two texts stand to each other as their characters do.
use Rattle.std.proofs.Common.{ℕ, ◌≡◌, ◌<◌, ◌≤◌, ◌+◌, ◌/◌, ◌%◌, ⊎_elim, List, [], ◌∷◌, ◌++◌, refl}
use Rattle.std.proofs.Common.{sym, ap, ◌∙◌, arith, subst}
use Rattle.std.specs.declared.cmp.Ordering.{Ordering}
use Rattle.std.specs.declared.cmp.Ordering.TheVariants.{Less, Equal, Greater}
use Rattle.std.specs.Ordering.{nat_cmp, ordering_then, ordering_reverse, is_eq}
use Rattle.std.specs.Cmp.Lexicographic.{slice_cmp, nat_list_cmp_total, texts_ties}
use Rattle.std.specs.Str.{chars, IsUtf8, bytes_eq}
use Rattle.std.proofs.lemmas.Str.{encodes-chars}
use Rattle.std.proofs.lemmas.Bool.Decides.{nat_tests}
use Rattle.std.proofs.lemmas.Bool.{cases_lt, cases_order}
use lib.Utf8.{encode, encodes}

-- ---- the first bytes decide

lower_first : (a b : ℕ) (r t : List ℕ) → a < b → slice_cmp nat_cmp (a ∷ r) (b ∷ t) ≡ Less
lower_first a b r t h = grind (arith, nat_tests)

level : (a : ℕ) → nat_cmp a a ≡ Equal
level a = grind (arith, nat_tests)

same_first : (a b : ℕ) (r t : List ℕ) → a ≡ b →
    slice_cmp nat_cmp (a ∷ r) (b ∷ t) ≡ slice_cmp nat_cmp r t
same_first a b r t e = rw (e, level) refl

same_front : (front r t : List ℕ) → slice_cmp nat_cmp (front ++ r) (front ++ t) ≡
    slice_cmp nat_cmp r t
same_front [] r t = refl
same_front (a ∷ front) r t = same_first a a (front ++ r) (front ++ t) refl ∙ same_front front r t

-- ---- the bytes of a character, by its size; its last bytes hold six bits each

abbrev in_two : ℕ → ℕ → List ℕ → List ℕ
in_two base c r = (base + c / 64) ∷ (128 + c % 64) ∷ r

abbrev in_three : ℕ → ℕ → List ℕ → List ℕ
in_three base c r = in_two base (c / 64) ((128 + c % 64) ∷ r)

abbrev in_four : ℕ → ℕ → List ℕ → List ℕ
in_four base c r = in_three base (c / 64) ((128 + c % 64) ∷ r)

one_byte : (c : ℕ) (r : List ℕ) → c < 128 → encode c ++ r ≡ c ∷ r
unfolding encode
one_byte c r h = grind (arith, nat_tests)

two_bytes : (c : ℕ) (r : List ℕ) → 128 ≤ c → c < 2048 → encode c ++ r ≡ in_two 192 c r
unfolding encode
two_bytes c r h k = grind (arith, nat_tests)

three_bytes : (c : ℕ) (r : List ℕ) → 2048 ≤ c → c < 65536 → encode c ++ r ≡ in_three 224 c r
unfolding encode
three_bytes c r h k = let e : c / 4096 ≡ c / 64 / 64 = omega arith in grind (arith, nat_tests)

four_bytes : (c : ℕ) (r : List ℕ) → 65536 ≤ c → encode c ++ r ≡ in_four 240 c r
unfolding encode
four_bytes c r h = let e : c / 4096 ≡ c / 64 / 64 = omega arith in
    let f : c / 262144 ≡ c / 64 / 64 / 64 = omega arith in grind (arith, nat_tests)

-- ---- of two characters of one size the lesser has the lesser bytes

lower_two : (base c d : ℕ) (r t : List ℕ) → c < d →
    slice_cmp nat_cmp (in_two base c r) (in_two base d t) ≡ Less
lower_two base c d r t h = ⊎_elim
    (λ k. lower_first (base + c / 64) (base + d / 64) ((128 + c % 64) ∷ r) ((128 + d % 64) ∷ t)
    (omega arith))
    (λ k. same_first (base + c / 64) (base + d / 64) ((128 + c % 64) ∷ r) ((128 + d % 64) ∷ t)
    (omega arith)
    ∙ lower_first (128 + c % 64) (128 + d % 64) r t (omega arith))
    (cases_lt (c / 64) (d / 64))

same_two : (base c d : ℕ) (r t : List ℕ) → c ≡ d →
    slice_cmp nat_cmp (in_two base c r) (in_two base d t) ≡ slice_cmp nat_cmp r t
same_two base c d r t e =
    same_first (base + c / 64) (base + d / 64) ((128 + c % 64) ∷ r) ((128 + d % 64) ∷ t)
    (omega arith) ∙ same_first (128 + c % 64) (128 + d % 64) r t (omega arith)

lower_three : (base c d : ℕ) (r t : List ℕ) → c < d →
    slice_cmp nat_cmp (in_three base c r) (in_three base d t) ≡ Less
lower_three base c d r t h = ⊎_elim
    (λ k. lower_two base (c / 64) (d / 64) ((128 + c % 64) ∷ r) ((128 + d % 64) ∷ t) k)
    (λ k. same_two base (c / 64) (d / 64) ((128 + c % 64) ∷ r) ((128 + d % 64) ∷ t) (omega arith) ∙
    lower_first (128 + c % 64) (128 + d % 64) r t (omega arith))
    (cases_lt (c / 64) (d / 64))

same_three : (base c d : ℕ) (r t : List ℕ) → c ≡ d →
    slice_cmp nat_cmp (in_three base c r) (in_three base d t) ≡ slice_cmp nat_cmp r t
same_three base c d r t e =
    same_two base (c / 64) (d / 64) ((128 + c % 64) ∷ r) ((128 + d % 64) ∷ t) (omega arith) ∙
    same_first (128 + c % 64) (128 + d % 64) r t (omega arith)

lower_four : (base c d : ℕ) (r t : List ℕ) → c < d →
    slice_cmp nat_cmp (in_four base c r) (in_four base d t) ≡ Less
lower_four base c d r t h = ⊎_elim
    (λ k. lower_three base (c / 64) (d / 64) ((128 + c % 64) ∷ r) ((128 + d % 64) ∷ t) k)
    (λ k. same_three base (c / 64) (d / 64) ((128 + c % 64) ∷ r) ((128 + d % 64) ∷ t)
    (omega arith) ∙ lower_first (128 + c % 64) (128 + d % 64) r t (omega arith))
    (cases_lt (c / 64) (d / 64))

-- ---- of any two characters

data Size (c : ℕ) : Type 0 where
  one : c < 128 → Size c
  two : 128 ≤ c → c < 2048 → Size c
  three : 2048 ≤ c → c < 65536 → Size c
  four : 65536 ≤ c → Size c

size : (c : ℕ) → Size c
size c = ⊎_elim one (λ a. ⊎_elim (two a) (λ b. ⊎_elim (three b) four (cases_lt c 65536))
    (cases_lt c 2048)) (cases_lt c 128)

lower_bytes : (c d : ℕ) (r t : List ℕ) → Size c → Size d → c < d →
    slice_cmp nat_cmp (encode c ++ r) (encode d ++ t) ≡ Less
lower_bytes c d r t (one a) (one b) h = rw (one_byte c r a, one_byte d t b) (lower_first c d r t h)
lower_bytes c d r t (one a) (two b e) h = rw (one_byte c r a, two_bytes d t b e)
    (lower_first c (192 + d / 64) r ((128 + d % 64) ∷ t) (omega arith))
lower_bytes c d r t (one a) (three b e) h =
    rw (one_byte c r a, three_bytes d t b e) (lower_first c (224 + d / 64 / 64) r
    ((128 + d / 64 % 64) ∷ (128 + d % 64) ∷ t) (omega arith))
lower_bytes c d r t (one a) (four b) h =
    rw (one_byte c r a, four_bytes d t b) (lower_first c (240 + d / 64 / 64 / 64) r
    ((128 + d / 64 / 64 % 64) ∷ (128 + d / 64 % 64) ∷ (128 + d % 64) ∷ t) (omega arith))
lower_bytes c d r t (two a k) (one b) h = absurd (omega arith)
lower_bytes c d r t (two a k) (two b e) h = rw (two_bytes c r a k, two_bytes d t b e)
    (lower_two 192 c d r t h)
lower_bytes c d r t (two a k) (three b e) h =
    rw (two_bytes c r a k, three_bytes d t b e)
    (lower_first (192 + c / 64) (224 + d / 64 / 64) ((128 + c % 64) ∷ r)
    ((128 + d / 64 % 64) ∷ (128 + d % 64) ∷ t) (omega arith))
lower_bytes c d r t (two a k) (four b) h =
    rw (two_bytes c r a k, four_bytes d t b)
    (lower_first (192 + c / 64) (240 + d / 64 / 64 / 64) ((128 + c % 64) ∷ r)
    ((128 + d / 64 / 64 % 64) ∷ (128 + d / 64 % 64) ∷ (128 + d % 64) ∷ t) (omega arith))
lower_bytes c d r t (three a k) (one b) h = absurd (omega arith)
lower_bytes c d r t (three a k) (two b e) h = absurd (omega arith)
lower_bytes c d r t (three a k) (three b e) h =
    rw (three_bytes c r a k, three_bytes d t b e) (lower_three 224 c d r t h)
lower_bytes c d r t (three a k) (four b) h =
    rw (three_bytes c r a k, four_bytes d t b)
    (lower_first (224 + c / 64 / 64) (240 + d / 64 / 64 / 64)
    ((128 + c / 64 % 64) ∷ (128 + c % 64) ∷ r)
    ((128 + d / 64 / 64 % 64) ∷ (128 + d / 64 % 64) ∷ (128 + d % 64) ∷ t)
    (omega arith))
lower_bytes c d r t (four a) (one b) h = absurd (omega arith)
lower_bytes c d r t (four a) (two b e) h = absurd (omega arith)
lower_bytes c d r t (four a) (three b e) h = absurd (omega arith)
lower_bytes c d r t (four a) (four b) h = rw (four_bytes c r a, four_bytes d t b)
    (lower_four 240 c d r t h)

lower : (c d : ℕ) → c < d → nat_cmp c d ≡ Less
lower c d h = grind (arith, nat_tests)

higher : (c d : ℕ) → d < c → nat_cmp c d ≡ Greater
higher c d h = grind (arith, nat_tests)

turned : (xs ys : List ℕ) → slice_cmp nat_cmp ys xs ≡ Less → slice_cmp nat_cmp xs ys ≡ Greater
turned xs ys e = nat_list_cmp_total.antisymm xs ys ∙ ap ordering_reverse e

same_character : (c d : ℕ) (r t : List ℕ) → c ≡ d →
    slice_cmp nat_cmp (encode c ++ r) (encode d ++ t) ≡ ordering_then (nat_cmp c d)
    (slice_cmp nat_cmp r t)
same_character c d r t e =
    subst (λ (x : ℕ). slice_cmp nat_cmp (encode x ++ r) (encode d ++ t) ≡ ordering_then
    (nat_cmp x d) (slice_cmp nat_cmp r t)) (sym e)
    (same_front (encode d) r t ∙ sym (ap (λ (o : Ordering). ordering_then o (slice_cmp nat_cmp r t))
    (level d)))

-- the first characters decide, or else what follows them
by_characters : (c d : ℕ) (r t : List ℕ) → slice_cmp nat_cmp (encode c ++ r) (encode d ++ t) ≡
    ordering_then (nat_cmp c d) (slice_cmp nat_cmp r t)
by_characters c d r t = ⊎_elim
    (same_character c d r t)
    (λ k. ⊎_elim
    (λ h. rw (lower c d h) (lower_bytes c d r t (size c) (size d) h))
    (λ h. rw (higher c d h) (turned (encode c ++ r) (encode d ++ t)
    (lower_bytes d c t r (size d) (size c) h))) k)
    (cases_order c d)

-- a character has a byte
none_first : (d : ℕ) (t : List ℕ) → Size d → slice_cmp nat_cmp [] (encode d ++ t) ≡ Less
none_first d t (one a) = rw (one_byte d t a) refl
none_first d t (two a k) = rw (two_bytes d t a k) refl
none_first d t (three a k) = rw (three_bytes d t a k) refl
none_first d t (four a) = rw (four_bytes d t a) refl

order-encodes : (cs ds : List ℕ) → slice_cmp nat_cmp (encodes cs) (encodes ds) ≡
    slice_cmp nat_cmp cs ds
order-encodes [] [] = refl
order-encodes [] (d ∷ ds) = none_first d (encodes ds) (size d)
order-encodes (c ∷ cs) [] = turned (encode c ++ encodes cs) [] (none_first c (encodes cs) (size c))
order-encodes (c ∷ cs) (d ∷ ds) = by_characters c d (encodes cs) (encodes ds) ∙
    ap (ordering_then (nat_cmp c d)) (order-encodes cs ds)

pub order_of_characters : (xs ys : List ℕ) → IsUtf8 xs → IsUtf8 ys →
    slice_cmp nat_cmp xs ys ≡ slice_cmp nat_cmp (chars xs) (chars ys)
order_of_characters xs ys u v =
    sym (λ i. slice_cmp nat_cmp (encodes-chars xs u i) (encodes-chars ys v i)) ∙
    order-encodes (chars xs) (chars ys)

pub same_characters : (xs ys : List ℕ) → IsUtf8 xs → IsUtf8 ys →
    bytes_eq xs ys ≡ bytes_eq (chars xs) (chars ys)
same_characters xs ys u v = texts_ties xs ys ∙ ap is_eq (order_of_characters xs ys u v) ∙
    sym (texts_ties (chars xs) (chars ys))
