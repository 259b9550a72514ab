-- A word's letters, folded.
use Rattle.std.proofs.Common.{ℕ, ◌≡◌, true, ◌&&◌, List, [], ◌∷◌, length, refl, sym, arith, subst}
use Rattle.std.specs.Prelude.{nat_le}
use Rattle.std.specs.List.{list_all}
use Rattle.std.specs.Char.{to_ascii_uppercase}
use Rattle.sql_texts.specs.Names.{is_letter, is_name_part, begins_by, is_word_like, folded}
use Rattle.sql_texts.specs.Names.{IsWordLike, IsName, most_characters}
use Rattle.std.proofs.lemmas.Bool.{and_parts, and_from}
use Rattle.std.proofs.lemmas.Bool.Decides.{nat_tests}

part_folded : (b : ℕ) → is_name_part b ≡ true → is_name_part (to_ascii_uppercase b) ≡ true
part_folded b h = grind (arith, nat_tests)

letter_folded : (b : ℕ) → is_letter b ≡ true → is_letter (to_ascii_uppercase b) ≡ true
letter_folded b h = grind (arith, nat_tests)

twice_folded : (b : ℕ) → to_ascii_uppercase (to_ascii_uppercase b) ≡ to_ascii_uppercase b
twice_folded b = grind (arith, nat_tests)

folded-folded : (word : List ℕ) → folded (folded word) ≡ folded word
folded-folded [] = refl
folded-folded (b ∷ bs) = let e = twice_folded b in let es = folded-folded bs in cc

length-folded : (word : List ℕ) → length (folded word) ≡ length word
length-folded [] = refl
length-folded (b ∷ bs) = grind (arith, length-folded bs)

parts_folded : (word : List ℕ) → list_all is_name_part word ≡ true →
    list_all is_name_part (folded word) ≡ true
parts_folded [] h = refl
parts_folded (b ∷ bs) h =
    and_from (is_name_part (to_ascii_uppercase b)) (list_all is_name_part (folded bs))
    (part_folded b (and_parts (is_name_part b) (list_all is_name_part bs) h).0)
    (parts_folded bs (and_parts (is_name_part b) (list_all is_name_part bs) h).1)

begins_folded : (word : List ℕ) → begins_by is_letter word ≡ true →
    begins_by is_letter (folded word) ≡ true
begins_folded [] h = h
begins_folded (b ∷ bs) h = letter_folded b h

word_folded : (word : List ℕ) → is_word_like word ≡ true → is_word_like (folded word) ≡ true
word_folded word h =
    let k = (and_parts (begins_by is_letter word)
    (list_all is_name_part word && nat_le (length word) most_characters) h).1 in
    and_from (begins_by is_letter (folded word))
    (list_all is_name_part (folded word) && nat_le (length (folded word)) most_characters)
    (begins_folded word (and_parts (begins_by is_letter word)
    (list_all is_name_part word && nat_le (length word) most_characters) h).0)
    (and_from (list_all is_name_part (folded word)) (nat_le (length (folded word)) most_characters)
    (parts_folded word (and_parts (list_all is_name_part word)
    (nat_le (length word) most_characters) k).0)
    (rw length-folded (and_parts (list_all is_name_part word) (nat_le (length word) most_characters)
    k).1))

pub IsName-folded : (letters word : List ℕ) → letters ≡ folded word → IsWordLike word →
    IsName letters
IsName-folded letters word e h = subst IsName (sym e) (word_folded word h, folded-folded word)
