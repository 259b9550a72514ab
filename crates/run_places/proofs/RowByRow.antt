-- Joins made left row by left row, and lists made row by row. ISO/IEC 9075-2, 7.10 (joined table).
use Rattle.std.proofs.Common.{ℕ, ◌≡◌, ◌<◌, ◌+◌, ◌++◌, ◌∷◌, [], List, Option, Some, None, length}
use Rattle.std.proofs.Common.{drop, get_or, map, refl, sym, ap, ◌∙◌, subst, Result, Ok, Err, Bool}
use Rattle.row_types.specs.Rows.{Row}
use Rattle.rel_algebra.specs.Tree.{Exprs}
use Rattle.rel_algebra.specs.World.{World, Frame, Ends, Eval, after, give, with_front, tested}
use Rattle.rel_algebra.specs.World.{each_kept, each_listed, kept, Called}
use Rattle.rel_algebra.specs.Meaning.{holds}
use Rattle.rel_algebra.specs.Joins.{pairs}
use Rattle.run_choices.specs.declared.stop.Stop.{Stop}
use Rattle.run_expressions.specs.Content.{Content, world_of}
use Rattle.run_expressions.specs.Ending.{Ended}
use Rattle.run_expressions.specs.Following.{Follows}
use Rattle.run_places.specs.Joins.{match_of, matched}
use Rattle.run_expressions.proofs.Laws.{Going, follows, several_stop, several_go, adds_stop}
use Rattle.run_expressions.proofs.Laws.{adds_go, after_give, same_after, deep}
use Rattle.run_places.proofs.Trees.{rest}

front : {A : Type 0} (o : Option A) (xs ys : List A) →
    with_front o (xs ++ ys) ≡ with_front o xs ++ ys
front None xs ys = refl
front (Some x) xs ys = refl

-- each of two lists
abbrev both : {A B : Type 0} → (A → Eval (Option B)) → List A → List A → Eval (List B)
both f xs ys w = after (each_kept f xs w) (λ us v. after (each_kept f ys v) (λ vs. give (us ++ vs)))

front_each : {A B : Type 0} (f : A → Eval (Option B)) (o : Option B) (xs ys : List A) (w : World) →
    after (each_kept f xs w) (λ us v. after (each_kept f ys v)
    (λ vs. give (with_front o (us ++ vs)))) ≡ after (each_kept f xs w)
    (λ us v. after (each_kept f ys v) (λ vs. give (with_front o us ++ vs)))
front_each f o xs ys w = λ i. after (each_kept f xs w)
    (λ us v. after (each_kept f ys v) (λ vs. give (front o us vs i)))

front_both : {A B : Type 0} (f : A → Eval (Option B)) (o : Option B) (xs ys : List A) (w : World) →
    each_kept f (xs ++ ys) w ≡ both f xs ys w →
    after (each_kept f (xs ++ ys) w) (λ vs. give (with_front o vs)) ≡ after (each_kept f xs w)
    (λ us v. after (each_kept f ys v) (λ vs. give (with_front o us ++ vs)))
front_both f o xs ys w h =
    ap (λ e. after e (λ vs. give (with_front o vs))) h ∙
    deep (each_kept f xs w) (λ us. each_kept f ys) (λ us vs. give (us ++ vs))
    (λ vs. give (with_front o vs)) ∙ front_each f o xs ys w

each_kept-append : {A B : Type 0} (f : A → Eval (Option B)) (xs ys : List A) (w : World) →
    each_kept f (xs ++ ys) w ≡ both f xs ys w
each_kept-append f [] ys w = sym (after_give (each_kept f ys w))
each_kept-append f (x ∷ xs) ys w =
    same_after (f x w) (λ o u. after (each_kept f (xs ++ ys) u) (λ vs. give (with_front o vs)))
    (λ o u. after (each_kept f xs u) (λ us v. after (each_kept f ys v)
    (λ vs. give (with_front o us ++ vs))))
    (λ o u. front_both f o xs ys u (each_kept-append f xs ys u))
    ∙ sym (deep (f x w) (λ o. each_kept f xs) (λ o us. give (with_front o us))
    (λ us v. after (each_kept f ys v) (λ vs. give (us ++ vs))))

pub each_kept-map : {A B C : Type 0} (f : B → Eval (Option C)) (g : A → B) (xs : List A)
    (w : World) → each_kept f (map g xs) w ≡ each_kept (λ x. f (g x)) xs w
each_kept-map f g [] w = refl
each_kept-map f g (x ∷ xs) w = λ i. after (f (g x) w)
    (λ o u. after (each_kept-map f g xs u i) (λ ys. give (with_front o ys)))

-- ---- JOIN

abbrev test : Called → Exprs → List Row → Frame → Row → Eval (Option Row)
test self on outer f row = tested (holds on self (row ∷ outer) f) (give row)

-- the pairs of which ON holds, left row by left row
pub row_by_row : (self : Called) (on : Exprs) (outer : List Row) (f : Frame) (left right : List Row)
    (w : World) →
    each_kept (test self on outer f) (pairs left right) w ≡ matched self on None outer f left right
    w
row_by_row self on outer f [] right w = refl
row_by_row self on outer f (l ∷ ls) right w =
    each_kept-append (test self on outer f) (map (λ (r : Row). l ++ r) right) (pairs ls right) w
    ∙ ap (λ e. after e (λ us v. after (each_kept (test self on outer f) (pairs ls right) v)
    (λ vs. give (us ++ vs)))) (each_kept-map (test self on outer f) (λ (r : Row). l ++ r) right w)
    ∙ same_after (each_kept (match_of self on outer f l) right w)
    (λ us v. after (each_kept (test self on outer f) (pairs ls right) v) (λ vs. give (us ++ vs)))
    (λ us v. after (matched self on None outer f ls right v) (λ vs. give (us ++ vs)))
    (λ us v. ap (λ e. after e (λ vs. give (us ++ vs))) (row_by_row self on outer f ls right v))
    ∙ ap (λ e. after e (λ us v. after (matched self on None outer f ls right v)
    (λ vs. give (us ++ vs))))
    (sym (after_give (each_kept (match_of self on outer f l) right w)))

-- ---- the loop over left rows

listed_at : (part : Row → Eval (List Row)) (xs : List Row) (i : ℕ) (x : Row) (w : World) →
    i < length xs → x ≡ get_or xs i x →
    each_listed part (drop i xs) w ≡ after (part x w)
    (λ ys u. after (each_listed part (drop (i + 1) xs) u) (λ zs. give (ys ++ zs)))
listed_at part xs i x w h is = ap (λ (ys : List Row). each_listed part ys w) (rest xs i x h is)

module _ (part : Row → Eval (List Row)) (xs : List Row) (i : ℕ) (x : Row) (old now new : Content)
    (first : Result (List Row) Stop) (vs : List Row) (whole : Ends (List Row)) where
  -- a row stops
  pub listed_stop : (s : Stop) (r : Result (List Row) Stop) → i < length xs → x ≡ get_or xs i x →
      Going old now (after (each_listed part (drop i xs) (world_of now)) (λ ts. give (vs ++ ts)))
      whole → Ended now new first (part x (world_of now)) →
      Follows {B = List Row} first (Err s) (λ ys. give (vs ++ ys)) → r ≡ Err s →
      Ended old new r whole
  listed_stop s r h is g d made answer =
      several_stop old now new (part x (world_of now)) vs (each_listed part (drop (i + 1) xs))
      (each_listed part (drop i xs) (world_of now)) whole s r
      (listed_at part xs i x (world_of now) h is) g
      (follows {B = List Row} now new first (Err s) (part x (world_of now))
      (λ ys. give (vs ++ ys)) made d) answer

  -- what it gives is added, and the next follows
  pub listed_go : (us : List Row) → i < length xs → x ≡ get_or xs i x →
      Going old now (after (each_listed part (drop i xs) (world_of now)) (λ ts. give (vs ++ ts)))
      whole → Ended now new first (part x (world_of now)) →
      Follows first (Ok us) (λ ys. give (vs ++ ys)) →
      Going old new (after (each_listed part (drop (i + 1) xs) (world_of new))
      (λ ts. give (us ++ ts))) whole
  listed_go us h is g d made =
      several_go old now new (part x (world_of now)) vs (each_listed part (drop (i + 1) xs))
      (each_listed part (drop i xs) (world_of now)) whole us
      (listed_at part xs i x (world_of now) h is) g
      (follows now new first (Ok us) (part x (world_of now)) (λ ys. give (vs ++ ys)) made d)

-- ---- loops that keep some

pub kept_at : {A B : Type 0} (part : A → Eval (Option B)) (xs : List A) (i : ℕ) (x : A)
    (w : World) → i < length xs → x ≡ get_or xs i x →
    each_kept part (drop i xs) w ≡ after (part x w)
    (λ o u. after (each_kept part (drop (i + 1) xs) u) (λ ys. give (with_front o ys)))
kept_at {A} part xs i x w h is = ap (λ (ys : List A). each_kept part ys w) (rest xs i x h is)

module _ {A B : Type 0} (part : A → Eval (Option B)) (xs : List A) (i : ℕ) (x : A)
    (old now new : Content) (first : Result (Option B) Stop) (vs : List B)
    (whole : Ends (List B)) where
  -- one stops
  pub kept_stop : (s : Stop) (r : Result (List B) Stop) → i < length xs → x ≡ get_or xs i x →
      Going old now (after (each_kept part (drop i xs) (world_of now)) (λ ts. give (vs ++ ts)))
      whole → Ended now new first (part x (world_of now)) →
      Follows {B = List B} first (Err s) (λ o. give (vs ++ with_front o [])) → r ≡ Err s →
      Ended old new r whole
  kept_stop s r h is g d made answer =
      adds_stop old now new (part x (world_of now)) (λ o. o) vs (each_kept part (drop (i + 1) xs))
      (each_kept part (drop i xs) (world_of now)) whole s r
      (kept_at part xs i x (world_of now) h is) g
      (follows {B = List B} now new first (Err s) (part x (world_of now))
      (λ o. give (vs ++ with_front o [])) made d) answer

  -- what it gives is added, and the next follows
  pub kept_go : (us : List B) → i < length xs → x ≡ get_or xs i x →
      Going old now (after (each_kept part (drop i xs) (world_of now)) (λ ts. give (vs ++ ts)))
      whole → Ended now new first (part x (world_of now)) →
      Follows first (Ok us) (λ o. give (vs ++ with_front o [])) →
      Going old new (after (each_kept part (drop (i + 1) xs) (world_of new))
      (λ ts. give (us ++ ts))) whole
  kept_go us h is g d made =
      adds_go old now new (part x (world_of now)) (λ o. o) vs (each_kept part (drop (i + 1) xs))
      (each_kept part (drop i xs) (world_of now)) whole us
      (kept_at part xs i x (world_of now) h is) g
      (follows now new first (Ok us) (part x (world_of now)) (λ o. give (vs ++ with_front o []))
      made d)

-- ---- one pair

-- the pair of two rows, where ON holds of it
pub match_ends : (self : Called) (on : Exprs) (outer sight : List Row) (f : Frame) (l r row : Row)
    (old new : Content) (keep : Result Bool Stop) (answer : Result (Option Row) Stop) →
    row ≡ l ++ r → sight ≡ row ∷ outer →
    Ended old new keep (holds on self sight f (world_of old)) →
    Follows keep answer (λ yes. kept yes (give row)) →
    Ended old new answer (match_of self on outer f l r (world_of old))
match_ends self on outer sight f l r row old new keep answer row_is seen_is d made =
    subst (λ (p : Row). Ended old new answer (tested (holds on self (p ∷ outer) f) (give p)
    (world_of old))) row_is
    (subst (λ (s : List Row). Ended old new answer (tested (holds on self s f) (give row)
    (world_of old))) seen_is
    (follows old new keep answer (holds on self sight f (world_of old))
    (λ yes. kept yes (give row)) made d))
