-- Which handler is chosen, by the handlers in code.
use Rattle.std.proofs.Common.{◌≡◌, ℕ, suc, ◌+◌, ◌-◌, ◌<◌, ◌≤◌, List, [], ◌∷◌, ◌++◌, length, take}
use Rattle.std.proofs.Common.{refl, sym, ap, ◌∙◌, arith, Bool, true, false, Option, Some, None}
use Rattle.std.proofs.Common.{cond, get_or, map, Bor, IfSome}
use Rattle.std.specs.Option.{option_copied}
use Rattle.std.proofs.lemmas.List.{take_more}
use Rattle.sql_conditions.specs.Conditions.{Area}
use Rattle.bound_trees.specs.declared.statement.BoundHandler.{BoundHandler}
use Rattle.rel_algebra.specs.Doing.{Doing}
use Rattle.rel_algebra.specs.Handlers.{Scopes, best, best_here, first_with, or_else}
use Rattle.rel_algebra.specs.Handlers.{names_it, covers_it, of_scope}
use Rattle.run_outcomes.specs.declared.choice.Scope.{Scope as HeldScope}
use Rattle.run_outcomes.specs.declared.choice.Manner.TheVariants.{ByName, ByClass}
use Rattle.run_outcomes.specs.Scopes.{Acts, handling_by, mapped, scope_by, scopes_from, scopes_by}
use Rattle.run_outcomes.specs.Scopes.{taking, AmongThem}

-- ---- one compound statement

mapped_cond : {A B : Type 0} (f : A → B) (b : Bool) (x : A) (o : Option A) →
    cond b (Some (f x)) (mapped f o) ≡ mapped f (cond b (Some x) o)
mapped_cond f true x o = refl
mapped_cond f false x o = refl

-- the first of a mapped list
first_map : {A B : Type 0} (f : A → B) (p : B → Bool) (xs : List A) →
    first_with p (map f xs) ≡ mapped f (first_with (λ x. p (f x)) xs)
first_map f p [] = refl
first_map f p (x ∷ xs) =
    ap (λ o. cond (p (f x)) (Some (f x)) o) (first_map f p xs)
    ∙ mapped_cond f (p (f x)) x (first_with (λ y. p (f y)) xs)

mapped_else : {A B : Type 0} (f : A → B) (a b : Option A) →
    or_else (mapped f a) (mapped f b) ≡ mapped f (or_else a b)
mapped_else f None b = refl
mapped_else f (Some x) b = refl

-- the best handler of a compound statement, by those in code
pub here_is : (action : BoundHandler → Area → Doing) (state : List ℕ) (hs : List BoundHandler) →
    best_here state (map (handling_by action) hs)
    ≡ mapped (handling_by action)
    (or_else (first_with (taking ByName state) hs) (first_with (taking ByClass state) hs))
here_is action state hs =
    ap (λ o. or_else o (first_with (covers_it state) (map (handling_by action) hs)))
    (first_map (handling_by action) (names_it state) hs)
    ∙ ap (λ o. or_else (mapped (handling_by action) (first_with (taking ByName state) hs)) o)
    (first_map (handling_by action) (covers_it state) hs)
    ∙ mapped_else (handling_by action) (first_with (taking ByName state) hs)
    (first_with (taking ByClass state) hs)

-- the handler that names the state
pub found_named : (action : BoundHandler → Area → Doing) (state : List ℕ)
    (hs : List BoundHandler) (h : BoundHandler) →
    Some h ≡ first_with (taking ByName state) hs →
    best_here state (map (handling_by action) hs) ≡ Some (handling_by action h)
found_named action state hs h e =
    here_is action state hs
    ∙ ap (λ o. mapped (handling_by action) (or_else o (first_with (taking ByClass state) hs)))
    (sym e)

-- the handler of the class, where none names the state
pub found_general : (action : BoundHandler → Area → Doing) (state : List ℕ)
    (hs : List BoundHandler) (o : Option BoundHandler) →
    None ≡ first_with (taking ByName state) hs → o ≡ first_with (taking ByClass state) hs →
    best_here state (map (handling_by action) hs) ≡ mapped (handling_by action) o
found_general action state hs o none e =
    here_is action state hs
    ∙ ap (λ p. mapped (handling_by action) (or_else p (first_with (taking ByClass state) hs)))
    (sym none)
    ∙ ap (mapped (handling_by action)) (sym e)

stands_by : {A : Type 0} (b : Bool) (x y : A) (ys : List A) (o : Option A) →
    (o ≡ Some x → AmongThem ys x) → cond b (Some y) o ≡ Some x → AmongThem (y ∷ ys) x
stands_by true x y ys o go h = (0, h)
stands_by false x y ys o go h = let there = go h in (suc there.0, there.1)

-- the first that passes stands in the list
pub first_stands : {A : Type 0} (p : A → Bool) (xs : List A) (x : A) →
    first_with p xs ≡ Some x → AmongThem xs x
first_stands p [] x h = absurd cc
first_stands p (y ∷ ys) x h =
    stands_by (p y) x y ys (first_with p ys) (first_stands p ys x) h

-- what is found stands in the list
pub found_stands : (p : BoundHandler → Bool) (hs : List BoundHandler)
    (r : Option (Bor BoundHandler)) → option_copied r ≡ first_with p hs →
    IfSome r (λ h. AmongThem hs h.now)
found_stands p hs None e = tt
found_stands p hs (Some h) e = first_stands p hs h.now (sym e)

-- ---- compound statements, the innermost last

from_end : (acts : Acts) (outer : Scopes) (ss : List HeldScope) (s : HeldScope) →
    scopes_from acts outer (ss ++ s ∷ [])
    ≡ scope_by acts (scopes_from acts outer ss) s ∷ scopes_from acts outer ss
from_end acts outer [] s = refl
from_end acts outer (t ∷ ss) s = from_end acts (scope_by acts outer t ∷ outer) ss s

-- one more compound statement inside
pub scopes_by-append : (acts : Acts) (ss : List HeldScope) (s : HeldScope) →
    scopes_by acts (ss ++ s ∷ []) ≡ scope_by acts (scopes_by acts ss) s ∷ scopes_by acts ss
scopes_by-append acts ss s = from_end acts [] ss s

-- one more of a list of compound statements
pub one_more : (acts : Acts) (ss : List HeldScope) (k : ℕ) (s : HeldScope) → k < length ss →
    get_or ss k s ≡ s → scopes_by acts (take (k + 1) ss)
    ≡ scope_by acts (scopes_by acts (take k ss)) s ∷ scopes_by acts (take k ss)
one_more acts ss k s h is =
    ap (scopes_by acts) (take_more ss k s h ∙ ap (λ t. take k ss ++ t ∷ []) is)
    ∙ scopes_by-append acts (take k ss) s

-- what the innermost compound statement of some chooses, where a handler of it takes the state
pub inner_chosen : (acts : Acts) (state : List ℕ) (ss : List HeldScope) (n : ℕ) (s : HeldScope)
    (h : BoundHandler) → 0 < n → n ≤ length ss → s ≡ get_or ss (n - 1) s →
    ((action : BoundHandler → Area → Doing) →
    best_here state (map (handling_by action) s.handlers.now) ≡ Some (handling_by action h)) →
    best state (scopes_by acts (take n ss))
    ≡ Some (record {
      handling = handling_by (acts (scopes_by acts (take (n - 1) ss)) s) h;
      scope = scope_by acts (scopes_by acts (take (n - 1) ss)) s;
    })
inner_chosen acts state ss n s h some within is here =
    let before : n - 1 + 1 ≡ n = omega arith in
    let below : n - 1 < length ss = omega arith in
    let outer = scopes_by acts (take (n - 1) ss) in
    ap (λ m. best state (scopes_by acts (take m ss))) (sym before)
    ∙ ap (best state) (one_more acts ss (n - 1) s below (sym is))
    ∙ ap (λ o. or_else (of_scope (scope_by acts outer s) o) (best state outer))
    (here (acts outer s))

-- the choice is that of those outside, where no handler of the innermost one takes the state
pub outer_chosen : (acts : Acts) (state : List ℕ) (ss : List HeldScope) (n : ℕ) (s : HeldScope) →
    0 < n → n ≤ length ss → s ≡ get_or ss (n - 1) s →
    ((action : BoundHandler → Area → Doing) →
    best_here state (map (handling_by action) s.handlers.now) ≡ None) →
    best state (scopes_by acts (take n ss)) ≡ best state (scopes_by acts (take (n - 1) ss))
outer_chosen acts state ss n s some within is here =
    let before : n - 1 + 1 ≡ n = omega arith in
    let below : n - 1 < length ss = omega arith in
    let outer = scopes_by acts (take (n - 1) ss) in
    ap (λ m. best state (scopes_by acts (take m ss))) (sym before)
    ∙ ap (best state) (one_more acts ss (n - 1) s below (sym is))
    ∙ ap (λ o. or_else (of_scope (scope_by acts outer s) o) (best state outer))
    (here (acts outer s))
