-- The longest front of some bytes whose bytes pass a test.
use Rattle.std.proofs.Common.{ℕ, zero, suc, ◌≡◌, ◌<◌, Bool, true, false, List, [], ◌∷◌, ◌++◌}
use Rattle.std.proofs.Common.{length, take, drop, refl, sym, ap, ◌∙◌, subst, arith, one-add}
use Rattle.std.proofs.lemmas.Bool.{and_parts, and_from}
use Rattle.std.specs.List.{list_all, prefix_len}
use Rattle.std.proofs.lemmas.List.{length-take-le}
use Rattle.std.proofs.lemmas.List.Sums.{prefix_len-le-length}
use Rattle.sql_texts.specs.Names.{begins_by}

module _ (p : ℕ → Bool) where
  -- bytes that pass, before one that does not
  pub prefix_len-whole : (bytes rest : List ℕ) → list_all p bytes ≡ true →
      begins_by p rest ≡ false → prefix_len p (bytes ++ rest) ≡ length bytes
  prefix_len-whole [] [] h k = refl
  prefix_len-whole [] (c ∷ cs) h k = rw k refl
  prefix_len-whole (b ∷ bs) rest h k =
      let here = (and_parts (p b) (list_all p bs) h).0 in
      rw here (one-add (prefix_len p (bs ++ rest)) ∙
      ap suc (prefix_len-whole bs rest (and_parts (p b) (list_all p bs) h).1 k))

  prefix_yes : (b : ℕ) (bs : List ℕ) → p b ≡ true → prefix_len p (b ∷ bs) ≡ suc (prefix_len p bs)
  prefix_yes b bs e = rw e (one-add (prefix_len p bs))

  prefix_no : (b : ℕ) (bs : List ℕ) → p b ≡ false → prefix_len p (b ∷ bs) ≡ 0
  prefix_no b bs e = rw e refl

  pub list_all-prefix : (s : List ℕ) → list_all p (take (prefix_len p s) s) ≡ true
  list_all-prefix [] = refl
  list_all-prefix (b ∷ bs) =
      let Goal : ℕ → Type 0 = λ n. list_all p (take n (b ∷ bs)) ≡ true in
      elim (p b) as (λ t. p b ≡ t → Goal (prefix_len p (b ∷ bs))) [
        | true ↦ λ e. subst Goal (sym (prefix_yes b bs e))
            (and_from (p b) (list_all p (take (prefix_len p bs) bs)) e (list_all-prefix bs))
        | false ↦ λ e. subst Goal (sym (prefix_no b bs e)) refl
      ] refl

  pub begins_by-prefix : (s : List ℕ) → begins_by p (drop (prefix_len p s) s) ≡ false
  begins_by-prefix [] = refl
  begins_by-prefix (b ∷ bs) =
      let Goal : ℕ → Type 0 = λ n. begins_by p (drop n (b ∷ bs)) ≡ false in
      elim (p b) as (λ t. p b ≡ t → Goal (prefix_len p (b ∷ bs))) [
        | true ↦ λ e. subst Goal (sym (prefix_yes b bs e)) (begins_by-prefix bs)
        | false ↦ λ e. subst Goal (sym (prefix_no b bs e)) e
      ] refl

  pub length-prefix : (s : List ℕ) → length (take (prefix_len p s) s) ≡ prefix_len p s
  length-prefix s = length-take-le (prefix_len p s) s (prefix_len-le-length p s)

  -- a front that is not empty, where the first byte passes
  pub prefix_len-pos : (b : ℕ) (bs : List ℕ) → p b ≡ true → 0 < prefix_len p (b ∷ bs)
  prefix_len-pos b bs e = omega (arith, prefix_yes b bs e)

  pub begins_by-front : (b : ℕ) (bs : List ℕ) (n : ℕ) → 0 < n → begins_by p (take n (b ∷ bs)) ≡ p b
  begins_by-front b bs zero h = absurd (omega arith)
  begins_by-front b bs (suc n) h = refl

  pub begins_by-weaker : (q : ℕ → Bool) → ((b : ℕ) → q b ≡ true → p b ≡ true) → (s : List ℕ) →
      begins_by p s ≡ false → begins_by q s ≡ false
  begins_by-weaker q weak [] h = refl
  begins_by-weaker q weak (b ∷ bs) h = elim (q b) as (λ t. q b ≡ t → t ≡ false)
      [ true ↦ λ e. let f = weak b e in cc | false ↦ λ e. refl ] refl
