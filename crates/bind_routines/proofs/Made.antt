-- What is made of a value, where there was memory for it.
use Rattle.std.proofs.Common.{◌≡◌, sym, subst, Result, Ok, Err}
use Rattle.std.specs.Prelude.{IfOk}
use Rattle.bind_routines.specs.Statements.{made}

-- what holds of the value holds of what is made of it
pub made-value : {A B E : Type 0} (f : A → B) (r : Result A E) (s : Result B E) (P : A → Type 0)
    (Q : B → Type 0) → s ≡ made f r → IfOk r P → ((a : A) → P a → Q (f a)) → IfOk s Q
made-value {A} {B} {E} f (Ok a) s P Q e h go =
    subst (λ (z : Result B E). IfOk z Q) (sym e) (go a h)
made-value {A} {B} {E} f (Err wanting) s P Q e h go =
    subst (λ (z : Result B E). IfOk z Q) (sym e) tt
