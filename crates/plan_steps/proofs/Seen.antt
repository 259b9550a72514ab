-- Columns of slots, and handlers in sight.
use Rattle.std.proofs.Common.{◌≡◌, ℕ, zero, suc, ◌+◌, Bool, true, false, ◌||◌, List, [], ◌∷◌, map}
use Rattle.std.proofs.Common.{length, None, Some, slice_get, refl, sym, ap, ◌∙◌, IsTrue, ◌↔◌}
use Rattle.bound_trees.specs.declared.statement.BoundHandler.{BoundHandler, out-BoundHandler}
use Rattle.rel_algebra.specs.BodyChain.{column_at}
use Rattle.rel_algebra.specs.BodyDispatch.{Codes, any_continue, count, has_continue, is_continue}
use Rattle.block_plans.specs.Callees.{Callees}
use Rattle.routine_views.specs.Views.{handler_type}
use Rattle.plan_expressions.proofs.Laws.{length-map}
use Rattle.plan_steps.specs.Places.{any_continues, codes_in, coded_in, scope_in}
use Rattle.plan_steps.specs.declared.sight.Scope.{Scope}
use Rattle.plan_steps.specs.declared.sight.Sight.{Sight}

-- ---- slots

pub slot_there : (n : ℕ) (cs : List ℕ) (x c : ℕ) → Some c ≡ slice_get cs x → c ≡ column_at n cs x
slot_there n [] x c h = absurd (let never = h in cc)
slot_there n (d ∷ ds) zero c h = (let same : c ≡ d = cc in same)
slot_there n (d ∷ ds) (suc x) c h = slot_there n ds x c h

pub no_slot : (n : ℕ) (cs : List ℕ) (x : ℕ) → None ≡ slice_get cs x → n ≡ column_at n cs x
no_slot n [] x h = refl
no_slot n (d ∷ ds) zero h = absurd (let never = h in cc)
no_slot n (d ∷ ds) (suc x) h = no_slot n ds x h

-- ---- handlers in sight

pub continues_same : (k : Callees) (outer : Codes) (hs : List BoundHandler) →
    any_continues hs ≡ any_continue (map (coded_in k outer) hs)
continues_same k outer [] = refl
continues_same k outer (h ∷ hs) =
    ap (λ b. is_continue (handler_type (out-BoundHandler h).handler_type) || b)
    (continues_same k outer hs)

-- the handlers of a compound statement, where one goes on
pub continues_here : (k : Callees) (s : Scope) (outer x : Sight) (own : Bool) →
    codes_in k x ≡ scope_in k (codes_in k outer) s ∷ codes_in k outer →
    own ≡ any_continues s.handlers.now → own ≡ true → own ≡ has_continue (codes_in k x)
continues_here k s outer x own is here goes =
    goes ∙ sym (ap has_continue is ∙ ap (λ (b : Bool). b || has_continue (codes_in k outer))
    (sym (continues_same k (codes_in k outer) s.handlers.now) ∙ sym here ∙ goes))

-- the same, where none does
pub continues_around : (k : Callees) (s : Scope) (outer x : Sight) (own others : Bool) →
    codes_in k x ≡ scope_in k (codes_in k outer) s ∷ codes_in k outer →
    own ≡ any_continues s.handlers.now → own ≡ false → others ≡ has_continue (codes_in k outer) →
    others ≡ has_continue (codes_in k x)
continues_around k s outer x own others is here stops there =
    there ∙ sym (ap has_continue is ∙ ap (λ (b : Bool). b || has_continue (codes_in k outer))
    (sym (continues_same k (codes_in k outer) s.handlers.now) ∙ sym here ∙ stops))

-- one compound statement more
pub scope_count : (k : Callees) (s : Scope) (outer : Codes) (n m many : ℕ) →
    n ≡ many + m → many ≡ length s.handlers.now → m ≡ count outer →
    n ≡ count (scope_in k outer s ∷ outer)
scope_count k s outer n m many h g f =
    h ∙ (λ j. (g ∙ sym (length-map (coded_in k outer) s.handlers.now)) j + f j)

-- ---- lists without elements

pub none_in : {X : Type 0} → (xs : List X) (b : Bool) → (IsTrue b ↔ (xs ≡ [])) → b ≡ true →
    xs ≡ []
none_in xs b h t = h.0 t

pub some_in : {X : Type 0} → (xs : List X) (b : Bool) → (IsTrue b ↔ (xs ≡ [])) → b ≡ false →
    ¬ (xs ≡ [])
some_in xs b h f e = let never : false ≡ true = sym f ∙ h.1 e in cc
