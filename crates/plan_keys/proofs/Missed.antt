-- Rows that terms leave out, one by one and in runs.
use Rattle.std.proofs.Common.{◌≡◌, ◌≤◌, ℕ, zero, suc, Bool, true, false, not, List, [], ◌∷◌}
use Rattle.std.proofs.Common.{refl, ap, sym, ◌∙◌, drop, arith}
use Rattle.std.specs.List.{list_all}
use Rattle.std.proofs.lemmas.Bool.{true≢false, and_parts, and_from}
use Rattle.sql_values.specs.declared.value.Value.{Value}
use Rattle.row_types.specs.Rows.{Row}
use Rattle.plan_keys.specs.Bounds.{stands_before}
use Rattle.plan_keys.specs.Terms.{misses}
use Rattle.plan_keys.specs.declared.terms.Term.{Term}

module _ {X : Type 0} where
  pub all_so : (p q : X → Bool) (xs : List X) → ((x : X) → p x ≡ true → q x ≡ true) →
      list_all p xs ≡ true → list_all q xs ≡ true
  all_so p q [] f h = refl
  all_so p q (x ∷ xs) f h =
      let both = and_parts (p x) (list_all p xs) h in
      and_from (q x) (list_all q xs) (f x both.0) (all_so p q xs f both.1)

  pub all_later : (p : X → Bool) (xs : List X) (i j : ℕ) → i ≤ j → list_all p (drop i xs) ≡ true →
      list_all p (drop j xs) ≡ true
  all_later p [] zero zero l h = refl
  all_later p [] zero (suc j) l h = refl
  all_later p [] (suc i) zero l h = refl
  all_later p [] (suc i) (suc j) l h = refl
  all_later p (x ∷ xs) zero zero l h = h
  all_later p (x ∷ xs) zero (suc j) l h =
      all_later p xs zero j (omega arith) ((and_parts (p x) (list_all p xs) h).1)
  all_later p (x ∷ xs) (suc i) zero l h = absurd (omega (arith, l))
  all_later p (x ∷ xs) (suc i) (suc j) l h = all_later p xs i j (omega (arith, l)) h

-- what has to be so where something is not
pub so_unless : (m s high : Bool) → (m ≡ false → s ≡ high) → s ≡ not high → m ≡ true
so_unless true s high f h = refl
so_unless false s true f h = absurd (true≢false (sym (f refl) ∙ h))
so_unless false s false f h = absurd (true≢false (sym (sym (f refl) ∙ h)))

pub not_so : (s : Bool) → not s ≡ true → s ≡ false
not_so true h = absurd (true≢false (sym h))
not_so false h = refl

-- rows on one side of the place of a bound
pub side_missed : (key k : List ℕ) (sought s : List Value) (through high : Bool) (terms : List Term)
    (row : Row) → k ≡ key → s ≡ sought →
    ((r : Row) → misses terms r ≡ false → stands_before k sought through r ≡ high) →
    stands_before key s through row ≡ not high → misses terms row ≡ true
side_missed key k sought s through high terms row e d f h =
    so_unless (misses terms row) (stands_before k sought through row) high (f row)
    (ap (λ q. stands_before q sought through row) e ∙
    (ap (λ q. stands_before key q through row) (sym d) ∙ h))

pub all_true : {X : Type 0} (p : X → Bool) (xs : List X) → ((x : X) → p x ≡ true) →
    list_all p xs ≡ true
all_true p [] f = refl
all_true p (x ∷ xs) f = and_from (p x) (list_all p xs) (f x) (all_true p xs f)
