-- Names that were noted, over the parts of a statement: how lists of called names go together, and
-- what is bound part by part.
use Rattle.std.proofs.Common.{◌≡◌, ℕ, true, List, [], ◌∷◌, ◌++◌, map, Option}
use Rattle.std.proofs.Common.{append_assoc, ◌∙◌, subst}
use Rattle.std.proofs.lemmas.Bool.{or_left, or_right}
use Rattle.std.proofs.lemmas.List.Folds.{list_any-append}
use Rattle.std.specs.List.{AllByRecursion, flat_map}
use Rattle.std.specs.Str.{bytes_eq}
use Rattle.catalog_store.specs.Catalog.{Catalog}
use Rattle.bind_faults.specs.Faults.{Noted}
use Rattle.bind_sight.specs.declared.scope.EnclosingRoutine.{EnclosingRoutine}
use Rattle.bind_parts.specs.Turns.{each_noted}
use Rattle.bind_queries.proofs.Laws.{front_nil, back_nil}
use Rattle.viewing_laws.specs.Calls.{CalledNames, all_calls}
use Rattle.viewing_laws.specs.Standing.{is_called}
use Rattle.viewing_laws.proofs.Laws.{each_so}
use Rattle.listed_calls.specs.Listed.{IsNoted}

-- what holds of all holds of each
pub each_of : {X : Type 0} {P : X → Type 0} → ((x : X) → P x) → (xs : List X) →
    AllByRecursion P xs
each_of f [] = tt
each_of f (x ∷ xs) = (f x, each_of f xs)

-- and in another way where each has it in another
pub each_as : {X : Type 0} {P Q : X → Type 0} → ((x : X) → P x → Q x) → (xs : List X) →
    AllByRecursion P xs → AllByRecursion Q xs
each_as f [] h = tt
each_as f (x ∷ xs) h = (f x h.0, each_as f xs h.1)

-- among more names
called-front : (name : List ℕ) (u v : CalledNames) → is_called name u ≡ true →
    is_called name (u ++ v) ≡ true
called-front name u v h = list_any-append (λ called. bytes_eq called name) u v ∙
    or_left (is_called name u) (is_called name v) h

called-back : (name : List ℕ) (u v : CalledNames) → is_called name v ≡ true →
    is_called name (u ++ v) ≡ true
called-back name u v h = list_any-append (λ called. bytes_eq called name) u v ∙
    or_right (is_called name u) (is_called name v) h

module _ (own : Option EnclosingRoutine) (known : Catalog) where
  -- each of these calls was noted among these uses
  abbrev pub Listed : CalledNames → CalledNames → Type 0
  Listed uses calls = AllByRecursion (IsNoted own known uses) calls

  pub listed-append : (uses a b : CalledNames) → Listed uses a → Listed uses b →
      Listed uses (a ++ b)
  listed-append uses [] b p q = q
  listed-append uses (x ∷ a) b p q = (p.0, listed-append uses a b p.1 q)

  -- among more uses
  pub listed-front : (u v calls : CalledNames) → Listed u calls → Listed (u ++ v) calls
  listed-front u v calls h = each_so (IsNoted own known u) (IsNoted own known (u ++ v))
      (λ name n. record { noted = called-front name u v n.noted; stands = n.stands }) calls h

  pub listed-back : (u v calls : CalledNames) → Listed v calls → Listed (u ++ v) calls
  listed-back u v calls h = each_so (IsNoted own known v) (IsNoted own known (u ++ v))
      (λ name n. record { noted = called-back name u v n.noted; stands = n.stands }) calls h

  pub listed-both : (u v a b : CalledNames) → Listed u a → Listed v b → Listed (u ++ v) (a ++ b)
  listed-both u v a b p q = listed-append (u ++ v) a b (listed-front u v a p)
      (listed-back u v b q)

  -- ---- lists of parts

  -- what each of these calls was noted
  abbrev pub EachListed : {A : Type 0} → (A → CalledNames) → CalledNames → List A → Type 0
  EachListed calls uses xs = AllByRecursion (λ x. Listed uses (calls x)) xs

  module _ {A : Type 0} (calls : A → CalledNames) where
    pub each-front : (u v : CalledNames) (xs : List A) → EachListed calls u xs →
        EachListed calls (u ++ v) xs
    each-front u v xs h = each_as (λ x l. listed-front u v (calls x) l) xs h

    pub each-back : (u v : CalledNames) (xs : List A) → EachListed calls v xs →
        EachListed calls (u ++ v) xs
    each-back u v xs h = each_as (λ x l. listed-back u v (calls x) l) xs h

    pub each-last : (uses : CalledNames) (xs : List A) (x : A) → EachListed calls uses xs →
        Listed uses (calls x) → EachListed calls uses (xs ++ x ∷ [])
    each-last uses [] x h l = (l, tt)
    each-last uses (y ∷ xs) x h l = (h.0, each-last uses xs x h.1 l)

    pub each-all : (uses : CalledNames) (xs : List A) → EachListed calls uses xs →
        Listed uses (all_calls (map calls xs))
    each-all uses [] h = tt
    each-all uses (x ∷ xs) h = listed-append uses (calls x) (all_calls (map calls xs)) h.0
        (each-all uses xs h.1)

    pub each-flat : (uses : CalledNames) (xs : List A) → EachListed calls uses xs →
        Listed uses (flat_map calls xs)
    each-flat uses [] h = tt
    each-flat uses (x ∷ xs) h = listed-append uses (calls x) (flat_map calls xs) h.0
        (each-flat uses xs h.1)

  -- ---- what is judged

  -- without faults what the value calls was noted
  abbrev pub Notes : {A : Type 0} → (A → CalledNames) → Noted A → Type 0
  Notes calls x = x.faults ≡ [] → Listed x.uses (calls x.value)

  -- one part more at the end of a list
  pub last-listed : {A : Type 0} (calls : A → CalledNames) (u : CalledNames) (so : List A)
      (x : Noted A) → Notes calls x → x.faults ≡ [] → EachListed calls u so →
      EachListed calls (u ++ x.uses) (so ++ x.value ∷ [])
  last-listed calls u so x h f l = each-last calls (u ++ x.uses) so x.value
      (each-front calls u x.uses so l) (listed-back u x.uses (calls x.value) (h f))

-- ---- turn by turn

-- A turn keeps what holds of what was made so far among the uses so far.
abbrev pub Turn : {A X : Type 0} → (A → X → Noted A) → (CalledNames → A → Type 0) → X → Type 0
Turn f P x = (u : CalledNames) (so : _) → (f so x).faults ≡ [] → P u so →
    P (u ++ (f so x).uses) (f so x).value

module _ {A X : Type 0} (f : A → X → Noted A) (P : CalledNames → A → Type 0)
    (more : (u v : CalledNames) (so : A) → P u so → P (u ++ v) so) where
  -- and so do all turns
  pub turns : (xs : List X) → AllByRecursion (Turn f P) xs → (u : CalledNames) (so : A) →
      (each_noted f so xs).faults ≡ [] → P u so →
      P (u ++ (each_noted f so xs).uses) (each_noted f so xs).value
  turns [] t u so e h = more u [] so h
  turns (x ∷ xs) t u so e h =
      let one = f so x in
      let rest = each_noted f one.value xs in
      subst (λ (us : CalledNames). P us rest.value) (append_assoc u one.uses rest.uses)
      (turns xs t.1 (u ++ one.uses) one.value (back_nil one.faults rest.faults e)
      (t.0 u so (front_nil one.faults rest.faults e) h))
