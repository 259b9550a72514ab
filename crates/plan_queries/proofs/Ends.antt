-- What is promised of results.
use Rattle.std.proofs.Common.{Result, Ok, Err, IfOk, OnOk}

-- of two promises a third
pub if_both : {A B : Type 0} → (r : Result A B) (P Q R : A → Type 0) → IfOk r P → IfOk r Q →
    ((x : A) → P x → Q x → R x) → IfOk r R
if_both (Ok x) P Q R p q f = f x p q
if_both (Err e) P Q R p q f = p

-- and of three a fourth
pub if_three : {A B : Type 0} → (r : Result A B) (P Q R S : A → Type 0) → IfOk r P → IfOk r Q →
    IfOk r R → ((x : A) → P x → Q x → R x → S x) → IfOk r S
if_three (Ok x) P Q R S p q s f = f x p q s
if_three (Err e) P Q R S p q s f = p

-- the same of what does not speak of the value
pub on_ok : {A B : Type 0} → (r : Result A B) (P Q : Type 0) → OnOk r P → (P → Q) → OnOk r Q
on_ok (Ok x) P Q p f = f p
on_ok (Err e) P Q p f = p

pub on_any : {A B : Type 0} → (r : Result A B) (Q : Type 0) → Q → OnOk r Q
on_any (Ok x) Q q = q
on_any (Err e) Q q = tt
