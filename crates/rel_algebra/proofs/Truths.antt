-- Truth values, and equality of what two arguments give.
use Rattle.std.proofs.Common.{◌≡◌, ℕ, Bool, true, false, cond, ◌&&◌, nat_eq, refl, ap, ◌∙◌, arith}
use Rattle.std.proofs.Common.{◌||◌, sym}

pub both : {A B C : Type 0} (f : A → B → C) (a a' : A) (b b' : B) → a ≡ a' → b ≡ b' →
    f a b ≡ f a' b'
both f a a' b b' p q = ap (λ x. f x b) p ∙ ap (f a') q

pub if_cells : {A B : Type 0} (f : A → B) (b : Bool) (x y : A) → f (cond b x y) ≡ cond b (f x) (f y)
if_cells f true x y = refl
if_cells f false x y = refl

pub and_true : (a b : Bool) → a ≡ true → b ≡ true → (a && b) ≡ true
and_true true b p q = q
and_true false b p q = p

pub left_true : (a b : Bool) → (a && b) ≡ true → a ≡ true
left_true true b p = refl
left_true false b p = p

pub right_true : (a b : Bool) → (a && b) ≡ true → b ≡ true
right_true true b p = p
right_true false true p = refl
right_true false false p = p

pub never : {A : Type 0} → false ≡ true → A
never h = absurd cc

pub left_false : (a b : Bool) → (a || b) ≡ false → a ≡ false
left_false true b p = p
left_false false b p = refl

pub right_false : (a b : Bool) → (a || b) ≡ false → b ≡ false
right_false true b p = never (sym p)
right_false false b p = p

pub equal_numbers : (n m : ℕ) → nat_eq n m ≡ true → n ≡ m
equal_numbers n m h = grind arith
