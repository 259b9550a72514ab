-- How the sets of users change, and that they count the entries that use a name.
use Rattle.std.proofs.Common.{◌≡◌, ℕ, zero, suc, ◌+◌, ◌<◌, ◌≤◌, ◌||◌, ◌&&◌, not, Bool, true, false}
use Rattle.std.proofs.Common.{cond, List, [], ◌∷◌, length, take, filter, position, option_map}
use Rattle.std.proofs.Common.{Option, Some, None, is_some, nat_lt, unwrap_or, slice_index_or, refl}
use Rattle.std.proofs.Common.{sym, ap, ◌∙◌, subst, arith, take_all, true≢false}
use Rattle.std.proofs.lemmas.Bool.Decides.{nat_tests}
use Rattle.std.proofs.lemmas.List.Folds.{list_any_more}
use Rattle.std.proofs.lemmas.Map.Entries.{length-keys_of}
use Rattle.std.proofs.lemmas.Map.Made.{IsDistinct-keys_filter, length-from_same_keys}
use Rattle.std.specs.Cmp.Lexicographic.{nat_list_eq_equiv}
use Rattle.std.specs.List.{IsDistinct, list_any, position_or_len}
use Rattle.std.specs.Map.{keys_of, lookup}
use Rattle.std.specs.Str.{bytes_eq}
use Rattle.indexmap.specs.IndexMap.{set_value_at}
use Rattle.catalog_store.specs.Using.{Held, entry_uses, has_user, held_user, other_use, users_at}
use Rattle.catalog_store.proofs.Named.{same_bytes}

abbrev Sets : Type 0
Sets = List (List ℕ × List (List ℕ))

-- ---- truths

or_false : (a : Bool) → (a || false) ≡ a
or_false true = refl
or_false false = refl

and_true : (a : Bool) → (a && true) ≡ a
and_true true = refl
and_true false = refl

and_false : (a : Bool) → (a && false) ≡ false
and_false true = refl
and_false false = refl

added : (a u : Bool) → cond u true a ≡ (a || (true && u))
added true true = refl
added true false = refl
added false true = refl
added false false = refl

taken_out : (a u : Bool) → cond u false a ≡ (a && not (true && u))
taken_out true true = refl
taken_out true false = refl
taken_out false true = refl
taken_out false false = refl

-- ---- a set in the place of another

none_some : {A : Type 0} (x : A) → None ≡ Some x → ⊥
none_some x h = true≢false (sym (ap is_some h))

some_same : {A : Type 0} (x y : A) → Some x ≡ Some y → x ≡ y
some_same x y h = ap (λ o. unwrap_or o x) h

further : (t : Bool) (k : ℕ) → cond t (Some (1 + k)) None ≡ option_map suc (cond t (Some k) None)
further true k = let e : 1 + k ≡ suc k = omega arith in ap (λ j. Some j) e
further false k = refl

both_on : (k n : ℕ) → nat_lt (1 + k) (suc n) ≡ nat_lt k n
both_on k n = grind (arith, nat_tests)

any_on : (n : ℕ) → nat_lt 0 (suc n) ≡ true
any_on n = grind (arith, nat_tests)

one_on : (b : Bool) (k n : ℕ) → cond (nat_lt (cond (not b) (1 + k) 0) (suc n))
    (Some (cond (not b) (1 + k) 0)) None ≡ cond b (Some 0)
    (option_map suc (cond (nat_lt k n) (Some k) None))
one_on true k n = ap (λ t. cond t (Some 0) None) (any_on n)
one_on false k n = ap (λ t. cond t (Some (1 + k)) None) (both_on k n) ∙ further (nat_lt k n) k

twice : {A : Type 0} (x : Bool) (a b c : A) → cond x a c ≡ cond x a (cond x b c)
twice true a b c = refl
twice false a b c = refl

either : {A : Type 0} (x y : Bool) (a b c : A) → (x ≡ true → y ≡ true → ⊥) →
    cond x a (cond y b c) ≡ cond y b (cond x a c)
either true true a b c h = absurd (h refl refl)
either true false a b c h = refl
either false y a b c h = refl

-- each name has its set, but for the one whose set is written
pub set_at : (used : List ℕ) (us : Sets) (i : ℕ) (w : List (List ℕ)) →
    position (bytes_eq used) (keys_of us) ≡ Some i → (name : List ℕ) →
    lookup (bytes_eq name) (set_value_at us i w) ≡ cond (bytes_eq used name) (Some w)
    (lookup (bytes_eq name) us)
set_at used [] i w h name = absurd (none_some i h)
set_at used (u ∷ us) i w h name =
    by (bytes_eq used u.0) refl (position (bytes_eq used) (keys_of us)) refl
    (sym (one_on (bytes_eq used u.0) (position_or_len (bytes_eq used) (keys_of us))
    (length (keys_of us))) ∙ h) (λ j p. set_at used us j w p name)
  where
    here : bytes_eq used u.0 ≡ true →
        cond (bytes_eq name u.0) (Some w) (lookup (bytes_eq name) us) ≡
        cond (bytes_eq used name) (Some w)
        (cond (bytes_eq name u.0) (Some u.1) (lookup (bytes_eq name) us))
    here e =
        let same : bytes_eq used name ≡ bytes_eq name u.0 =
        nat_list_eq_equiv.congr used u.0 name e ∙ nat_list_eq_equiv.symm u.0 name in
        twice (bytes_eq name u.0) (Some w) (Some u.1) (lookup (bytes_eq name) us)
        ∙ ap (λ b. cond b (Some w) (cond (bytes_eq name u.0) (Some u.1)
        (lookup (bytes_eq name) us))) (sym same)

    apart : bytes_eq used u.0 ≡ false → bytes_eq name u.0 ≡ true → bytes_eq used name ≡ true → ⊥
    apart e p q = true≢false (sym p ∙ (sym (nat_list_eq_equiv.congr used name u.0 q) ∙ e))

    by : (b : Bool) → bytes_eq used u.0 ≡ b → (o : Option ℕ) →
        position (bytes_eq used) (keys_of us) ≡ o →
        cond b (Some 0) (option_map suc o) ≡ Some i →
        ((j : ℕ) → position (bytes_eq used) (keys_of us) ≡ Some j →
        lookup (bytes_eq name) (set_value_at us j w) ≡ cond (bytes_eq used name) (Some w)
        (lookup (bytes_eq name) us)) →
        lookup (bytes_eq name) (set_value_at (u ∷ us) i w) ≡ cond (bytes_eq used name) (Some w)
        (cond (bytes_eq name u.0) (Some u.1) (lookup (bytes_eq name) us))
    by true e o p k rest =
        subst (λ j. lookup (bytes_eq name) (set_value_at (u ∷ us) j w) ≡
        cond (bytes_eq used name) (Some w)
        (cond (bytes_eq name u.0) (Some u.1) (lookup (bytes_eq name) us))) (some_same 0 i k)
        (here e)
    by false e None p k rest = absurd (none_some i k)
    by false e (Some j) p k rest =
        subst (λ m. lookup (bytes_eq name) (set_value_at (u ∷ us) m w) ≡
        cond (bytes_eq used name) (Some w)
        (cond (bytes_eq name u.0) (Some u.1) (lookup (bytes_eq name) us))) (some_same (suc j) i k)
        (ap (λ o. cond (bytes_eq name u.0) (Some u.1) o) (rest j p)
        ∙ either (bytes_eq name u.0) (bytes_eq used name) (Some u.1) (Some w)
        (lookup (bytes_eq name) us) (apart e))

-- ---- one user

module _ (used user : List ℕ) (us new : Sets) (s w : List (List ℕ))
    (sets : (name : List ℕ) → lookup (bytes_eq name) new ≡ cond (bytes_eq used name) (Some w)
    (lookup (bytes_eq name) us)) (there : users_at used us ≡ s) (name other : List ℕ) where
  of_new : (b : Bool) → bytes_eq used name ≡ b →
      has_user name other new ≡ list_any (bytes_eq other)
      (unwrap_or (cond b (Some w) (lookup (bytes_eq name) us)) [])
  of_new b e = ap (λ o. list_any (bytes_eq other) (unwrap_or o []))
      (sets name ∙ ap (λ t. cond t (Some w) (lookup (bytes_eq name) us)) e)

  of_old : bytes_eq used name ≡ true → has_user name other us ≡ list_any (bytes_eq other) s
  of_old e =
      ap (λ n. list_any (bytes_eq other) (users_at n us)) (sym (same_bytes used name e))
      ∙ ap (λ ks. list_any (bytes_eq other) ks) there

  pub user_added : ((q : List ℕ) → list_any (bytes_eq q) w ≡ cond (bytes_eq user q) true
      (list_any (bytes_eq q) s)) →
      has_user name other new ≡ (has_user name other us || (bytes_eq used name &&
      bytes_eq user other))
  user_added h = by (bytes_eq used name) refl
    where
      by : (b : Bool) → bytes_eq used name ≡ b →
          has_user name other new ≡ (has_user name other us || (b && bytes_eq user other))
      by true e =
          of_new true e ∙ h other
          ∙ added (list_any (bytes_eq other) s) (bytes_eq user other)
          ∙ ap (λ t. t || (true && bytes_eq user other)) (sym (of_old e))
      by false e = of_new false e ∙ sym (or_false (has_user name other us))

  pub user_removed : ((q : List ℕ) → list_any (bytes_eq q) w ≡ cond (bytes_eq user q) false
      (list_any (bytes_eq q) s)) →
      has_user name other new ≡ (has_user name other us && not (bytes_eq used name &&
      bytes_eq user other))
  user_removed h = by (bytes_eq used name) refl
    where
      by : (b : Bool) → bytes_eq used name ≡ b →
          has_user name other new ≡ (has_user name other us && not (b && bytes_eq user other))
      by true e =
          of_new true e ∙ h other
          ∙ taken_out (list_any (bytes_eq other) s) (bytes_eq user other)
          ∙ ap (λ t. t && not (true && bytes_eq user other)) (sym (of_old e))
      by false e = of_new false e ∙ sym (and_true (has_user name other us))

-- a set that stays
pub set_stays : (used : List ℕ) (us : Sets) (i : ℕ) (s w : List (List ℕ)) →
    position (bytes_eq used) (keys_of us) ≡ Some i → lookup (bytes_eq used) us ≡ Some s → w ≡ s →
    (name other : List ℕ) → has_user name other (set_value_at us i w) ≡ has_user name other us
set_stays used us i s w p there e name other =
    ap (λ o. list_any (bytes_eq other) (unwrap_or o []))
    (set_at used us i w p name ∙ by (bytes_eq used name) refl)
  where
    by : (b : Bool) → bytes_eq used name ≡ b →
        cond b (Some w) (lookup (bytes_eq name) us) ≡ lookup (bytes_eq name) us
    by true q = ap Some e ∙ sym (subst (λ n. lookup (bytes_eq n) us ≡ Some s)
        (same_bytes used name q) there)
    by false q = refl

-- the set of a name where it lies
pub set_found : {A : Type 0} (o : Option A) (x : Option A) (s : A) → x ≡ Some s → x ≡ o →
    o ≡ Some s
set_found o x s e h = sym h ∙ e

pub users_found : (name : List ℕ) (us : Sets) (s : List (List ℕ)) →
    lookup (bytes_eq name) us ≡ Some s → users_at name us ≡ s
users_found name us s e = ap (λ o. unwrap_or o []) e

pub users_none : (name : List ℕ) (us : Sets) → lookup (bytes_eq name) us ≡ None →
    users_at name us ≡ []
users_none name us e = ap (λ o. unwrap_or o []) e

pub none_found : {A : Type 0} (o : Option A) → false ≡ is_some o → o ≡ None
none_found None h = refl
none_found (Some x) h = absurd (true≢false (sym h))

-- no user goes where there is none
pub none_removed : (used user : List ℕ) (us : Sets) → lookup (bytes_eq used) us ≡ None →
    (name other : List ℕ) →
    has_user name other us ≡ (has_user name other us && not (bytes_eq used name &&
    bytes_eq user other))
none_removed used user us none name other = by (bytes_eq used name) refl
  where
    by : (b : Bool) → bytes_eq used name ≡ b →
        has_user name other us ≡ (has_user name other us && not (b && bytes_eq user other))
    by true e =
        let gone : has_user name other us ≡ false =
        ap (λ n. has_user n other us) (sym (same_bytes used name e))
        ∙ ap (λ o. list_any (bytes_eq other) (unwrap_or o [])) none in
        gone ∙ sym (ap (λ t. t && not (true && bytes_eq user other)) gone)
    by false e = sym (and_true (has_user name other us))

-- ---- a user of several names

-- a name that is not the user's own
other_one : (a u n b : Bool) → (b ≡ true → n ≡ true) →
    (a || (b && u)) ≡ (a || (u && (n && (b || false))))
other_one true u n b h = refl
other_one false true true true h = refl
other_one false true true false h = refl
other_one false true false true h = absurd (true≢false (sym (h refl)))
other_one false true false false h = refl
other_one false false n true h = refl
other_one false false n false h = refl

-- the user's own name
own_one : (a u n b : Bool) → (b ≡ true → n ≡ false) → a ≡ (a || (u && (n && (b || false))))
own_one true u n b h = refl
own_one false true true true h = absurd (true≢false (h refl))
own_one false true true false h = refl
own_one false true false b h = refl
own_one false false n b h = refl

pub other_added : (used user : List ℕ) (us new : Sets) → bytes_eq used user ≡ false →
    ((name other : List ℕ) → has_user name other new ≡ (has_user name other us ||
    (bytes_eq used name && bytes_eq user other))) →
    (name other : List ℕ) → has_user name other new ≡ (has_user name other us ||
    (bytes_eq user other && other_use name user (used ∷ [])))
other_added used user us new apart h name other =
    h name other
    ∙ other_one (has_user name other us) (bytes_eq user other) (not (bytes_eq user name))
    (bytes_eq used name)
    (λ e. ap not (nat_list_eq_equiv.symm user name ∙ (sym (nat_list_eq_equiv.congr used name user e)
    ∙ apart)))

pub own_added : (used user : List ℕ) (us : Sets) → bytes_eq used user ≡ true →
    (name other : List ℕ) → has_user name other us ≡ (has_user name other us ||
    (bytes_eq user other && other_use name user (used ∷ [])))
own_added used user us same name other =
    own_one (has_user name other us) (bytes_eq user other) (not (bytes_eq user name))
    (bytes_eq used name)
    (λ e. ap not (nat_list_eq_equiv.symm user name ∙ (sym (nat_list_eq_equiv.congr used name user e)
    ∙ same)))

none_yet : (a u n : Bool) → a ≡ (a || (u && (n && false)))
none_yet true u n = refl
none_yet false true true = refl
none_yet false true false = refl
none_yet false false n = refl

one_more : (a u n l b : Bool) → ((a || (u && (n && l))) || (u && (n && (b || false)))) ≡
    (a || (u && (n && (l || b))))
one_more true u n l b = refl
one_more false false n l b = refl
one_more false true false l b = refl
one_more false true true true b = refl
one_more false true true false b = or_false b

-- the names so far
abbrev Noted : List ℕ → List (List ℕ) → Sets → Sets → Type 0
Noted user uses us new = (name other : List ℕ) → has_user name other new ≡ (has_user name other us
    || (bytes_eq user other && other_use name user uses))

pub none_noted : (user : List ℕ) (uses : List (List ℕ)) (us : Sets) → Noted user (take 0 uses) us us
none_noted user uses us name other = none_yet (has_user name other us) (bytes_eq user other)
    (not (bytes_eq user name))

pub one_noted : (user used : List ℕ) (uses : List (List ℕ)) (i : ℕ) (us so new : Sets) →
    i < length uses → used ≡ slice_index_or uses i used → Noted user (take i uses) us so →
    Noted user (used ∷ []) so new → Noted user (take (i + 1) uses) us new
one_noted user used uses i us so new l at h k name other =
    let a = has_user name other us in
    let u = bytes_eq user other in
    let n = not (bytes_eq user name) in
    let so_far = list_any (λ one. bytes_eq one name) (take i uses) in
    let more : list_any (λ one. bytes_eq one name) (take (i + 1) uses) ≡ (so_far ||
    bytes_eq used name) =
    list_any_more (λ one. bytes_eq one name) uses i used l
    ∙ ap (λ one. so_far || bytes_eq one name) (sym at) in
    k name other
    ∙ ap (λ t. t || (u && (n && (bytes_eq used name || false)))) (h name other)
    ∙ one_more a u n so_far (bytes_eq used name)
    ∙ ap (λ t. a || (u && (n && t))) (sym more)

pub all_noted : (user : List ℕ) (uses : List (List ℕ)) (i : ℕ) (us new : Sets) → length uses ≤ i →
    Noted user (take i uses) us new → Noted user uses us new
all_noted user uses i us new l h = subst (λ taken. Noted user taken us new) (take_all i uses l) h

-- where memory ran out, nothing changed but for the names of this user
some_yet : (u n l : Bool) (m : Bool) → (l ≡ true → m ≡ true) → (u && m) ≡ false →
    (u && (n && l)) ≡ false
some_yet false n l m h k = refl
some_yet true n l true h k = absurd (true≢false k)
some_yet true n true false h k = absurd (true≢false (sym (h refl)))
some_yet true n false false h k = and_false n

any_taken : (p : List ℕ → Bool) (uses : List (List ℕ)) (i : ℕ) → list_any p (take i uses) ≡ true →
    list_any p uses ≡ true
any_taken p [] zero h = absurd (true≢false (sym h))
any_taken p [] (suc i) h = absurd (true≢false (sym h))
any_taken p (one ∷ uses) zero h = absurd (true≢false (sym h))
any_taken p (one ∷ uses) (suc i) h = by (p one) h (λ k. any_taken p uses i k)
  where
    by : (b : Bool) → (b || list_any p (take i uses)) ≡ true →
        (list_any p (take i uses) ≡ true → list_any p uses ≡ true) →
        (b || list_any p uses) ≡ true
    by true k rest = refl
    by false k rest = rest k

pub some_noted : (user : List ℕ) (uses : List (List ℕ)) (i : ℕ) (us so new : Sets) →
    Noted user (take i uses) us so →
    ((name other : List ℕ) → has_user name other new ≡ has_user name other so) →
    (name other : List ℕ) →
    (bytes_eq user other && list_any (λ one. bytes_eq one name) uses) ≡ false →
    has_user name other new ≡ has_user name other us
some_noted user uses i us so new h k name other e =
    k name other
    ∙ (h name other
    ∙ (ap (λ t. has_user name other us || t)
    (some_yet (bytes_eq user other) (not (bytes_eq user name))
    (list_any (λ one. bytes_eq one name) (take i uses)) (list_any (λ one. bytes_eq one name) uses)
    (any_taken (λ one. bytes_eq one name) uses i) e)
    ∙ or_false (has_user name other us)))

-- ---- a user less of several names

abbrev Freed : List ℕ → List (List ℕ) → Sets → Sets → Type 0
Freed user uses us new = (name other : List ℕ) → has_user name other new ≡ (has_user name other us
    && not (bytes_eq user other && list_any (λ one. bytes_eq one name) uses))

none_less : (a u : Bool) → a ≡ (a && not (u && false))
none_less true true = refl
none_less true false = refl
none_less false u = refl

one_less : (a u l b : Bool) → ((a && not (u && l)) && not (b && u)) ≡ (a && not (u && (l || b)))
one_less false u l b = refl
one_less true false l true = refl
one_less true false l false = refl
one_less true true true b = refl
one_less true true false true = refl
one_less true true false false = refl

pub none_freed : (user : List ℕ) (uses : List (List ℕ)) (us : Sets) → Freed user (take 0 uses) us us
none_freed user uses us name other = none_less (has_user name other us) (bytes_eq user other)

pub one_freed : (user used : List ℕ) (uses : List (List ℕ)) (i : ℕ) (us so new : Sets) →
    i < length uses → used ≡ slice_index_or uses i used → Freed user (take i uses) us so →
    ((name other : List ℕ) → has_user name other new ≡ (has_user name other so &&
    not (bytes_eq used name && bytes_eq user other))) → Freed user (take (i + 1) uses) us new
one_freed user used uses i us so new l at h k name other =
    let a = has_user name other us in
    let u = bytes_eq user other in
    let so_far = list_any (λ one. bytes_eq one name) (take i uses) in
    let more : list_any (λ one. bytes_eq one name) (take (i + 1) uses) ≡ (so_far ||
    bytes_eq used name) =
    list_any_more (λ one. bytes_eq one name) uses i used l
    ∙ ap (λ one. so_far || bytes_eq one name) (sym at) in
    k name other
    ∙ ap (λ t. t && not (bytes_eq used name && u)) (h name other)
    ∙ one_less a u so_far (bytes_eq used name)
    ∙ ap (λ t. a && not (u && t)) (sym more)

pub all_freed : (user : List ℕ) (uses : List (List ℕ)) (i : ℕ) (us new : Sets) → length uses ≤ i →
    Freed user (take i uses) us new → Freed user uses us new
all_freed user uses i us new l h = subst (λ taken. Freed user taken us new) (take_all i uses l) h

-- ---- how many there are

-- a user among those that a test lets through
among : (test : Held → Bool) (name : List ℕ) (hs : List Held) →
    list_any (λ h. bytes_eq name h.0 && test h) hs ≡ list_any (bytes_eq name)
    (keys_of (filter test hs))
among test name [] = refl
among test name (h ∷ hs) = by (test h) (among test name hs)
  where
    by : (b : Bool) → list_any (λ g. bytes_eq name g.0 && test g) hs ≡ list_any (bytes_eq name)
        (keys_of (filter test hs)) →
        ((bytes_eq name h.0 && b) || list_any (λ g. bytes_eq name g.0 && test g) hs) ≡ list_any
        (bytes_eq name) (keys_of (cond b (h ∷ filter test hs) (filter test hs)))
    by true k =
        ap (λ t. t || list_any (λ g. bytes_eq name g.0 && test g) hs) (and_true (bytes_eq name h.0))
        ∙ ap (λ t. bytes_eq name h.0 || t) k
    by false k =
        ap (λ t. t || list_any (λ g. bytes_eq name g.0 && test g) hs)
        (and_false (bytes_eq name h.0)) ∙ k

pub users_counted : (name : List ℕ) (us : Sets) (hs : List Held) →
    IsDistinct bytes_eq (users_at name us) → IsDistinct bytes_eq (keys_of hs) →
    ((user : List ℕ) → has_user name user us ≡ entry_uses name user hs) →
    length (users_at name us) ≡ length (filter (held_user name) hs)
users_counted name us hs d e h =
    length-from_same_keys nat_list_eq_equiv (users_at name us)
    (keys_of (filter (held_user name) hs)) d
    (IsDistinct-keys_filter bytes_eq (held_user name) hs e)
    (λ user. h user ∙ among (held_user name) user hs)
    ∙ length-keys_of (filter (held_user name) hs)
