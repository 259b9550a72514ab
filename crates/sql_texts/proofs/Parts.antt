-- The characters of texts that are put together or cut.
use Rattle.std.proofs.Common.{ℕ, ◌≡◌, ◌≤◌, true, List, [], ◌∷◌, ◌++◌, take, drop, zero, suc, length}
use Rattle.std.proofs.Common.{refl, ap, ◌∙◌, arith, length-take, length-drop}
use Rattle.std.specs.Str.{chars, IsUtf8}
use Rattle.std.proofs.lemmas.Str.{chars-append, chars-encodes, scalars-chars}
use Rattle.std.proofs.lemmas.Bool.{and_parts, and_from}
use lib.Utf8.{encodes, scalar, scalars}

-- ---- one text after another

pub chars-joined : (made front rest s t : List ℕ) → made ≡ front ++ rest → IsUtf8 front →
    chars front ≡ s → chars rest ≡ t → chars made ≡ s ++ t
chars-joined made front rest s t e u f g = ap chars e ∙ chars-append front rest u ∙
    (λ i. f i ++ g i)

-- ---- a part of a text

scalars-drop : (n : ℕ) (cs : List ℕ) → scalars cs ≡ true → scalars (drop n cs) ≡ true
scalars-drop zero cs h = h
scalars-drop (suc n) [] h = refl
scalars-drop (suc n) (c ∷ cs) h = scalars-drop n cs (and_parts (scalar c) (scalars cs) h).1

scalars-take : (n : ℕ) (cs : List ℕ) → scalars cs ≡ true → scalars (take n cs) ≡ true
scalars-take zero cs h = refl
scalars-take (suc n) [] h = refl
scalars-take (suc n) (c ∷ cs) h = and_from (scalar c) (scalars (take n cs))
    (and_parts (scalar c) (scalars cs) h).0 (scalars-take n cs
    (and_parts (scalar c) (scalars cs) h).1)

pub chars-part : (made bytes : List ℕ) (left_out count : ℕ) → IsUtf8 bytes →
    made ≡ encodes (take count (drop left_out (chars bytes))) →
    chars made ≡ take count (drop left_out (chars bytes))
chars-part made bytes left_out count u e =
    ap chars e ∙ chars-encodes (take count (drop left_out (chars bytes)))
    (scalars-take count (drop left_out (chars bytes))
    (scalars-drop left_out (chars bytes) (scalars-chars bytes u)))

pub part-shorter : (left_out count most : ℕ) (s : List ℕ) → length s ≤ most →
    length (take count (drop left_out s)) ≤ most
part-shorter left_out count most s h = omega (
  arith,
  length-take count (drop left_out s),
  length-drop left_out s,
)
