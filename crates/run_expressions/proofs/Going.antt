-- A run in its midst: what is left to be evaluated from here ends as the whole does.
use Rattle.std.proofs.Common.{◌≡◌, ◌++◌, [], ◌∷◌, List, Option, Some, None, refl, sym, ap, ◌∙◌}
use Rattle.std.proofs.Common.{subst, Result, Ok, Err, append_assoc}
use Rattle.std.proofs.lemmas.List.{append-nil}
use Rattle.sql_values.specs.declared.value.Value.{Value}
use Rattle.sql_values.specs.declared.value.ValueFault.{ValueFault}
use Rattle.sql_values.specs.declared.value.ValueFault.TheVariants.{TooLong, OutOfRange, DivZero}
use Rattle.sql_values.specs.declared.value.ValueFault.TheVariants.{BadCast, BadSubstring}
use Rattle.sql_values.specs.declared.value.ValueFault.TheVariants.{NoMemory as WantOfMemory}
use Rattle.sql_values.specs.Values.{Outcome, UnlessNoMemory}
use Rattle.rel_algebra.specs.Endings.{Ending, ending_of}
use Rattle.rel_algebra.specs.Meaning.{carried}
use Rattle.rel_algebra.specs.World.{World, Ends, Gives, Raises, RunsOut, Eval, after, give}
use Rattle.rel_algebra.specs.World.{with_front, outcome}
use Rattle.run_choices.specs.declared.stop.Stop.{Stop}
use Rattle.run_choices.specs.declared.stop.Stop.TheVariants.{Raised, Spent, NoMemory}
use Rattle.run_expressions.specs.Content.{Content, world_of, Stays}
use Rattle.run_expressions.specs.Ending.{Ended}
use Rattle.run_expressions.specs.Following.{Follows}
use Rattle.run_choices.specs.Ending.{Tells}
use Rattle.run_choices.specs.Faults.{stopped_by}
use Rattle.run_expressions.proofs.Stays.{stays_same, stays_on}

pub record Going {A : Type 0} (old now : Content) (left whole : Ends A) : Type 0 where
  pub same : left ≡ whole
  pub stays : Stays old now

pub going : {A : Type 0} (m : Content) (left whole : Ends A) → left ≡ whole → Going m m left whole
going m left whole h = record { same = h; stays = stays_same m }

-- the next part gives, and the rest goes on from there
pub goes_on : {A B : Type 0} (old now new : Content) (a : A) (e : Ends A) (go : A → Eval B)
    (left whole : Ends B) → left ≡ after e go →
    Going old now left whole → Ended now new (Ok a) e → Going old new (go a (world_of new)) whole
goes_on old now new a e go left whole is g d =
    record {
      same = ap (λ x. after x go) (sym d.tells) ∙ sym is ∙ g.same;
      stays =
          stays_on old now new g.stays d.stays;
    }

pub stops_too : {A B : Type 0} (w : World) (s : Stop) (e : Ends A) (go : A → Eval B) →
    Tells {A = A} w (Err s) e → Tells {A = B} w (Err s) (after e go)
stops_too w (Raised area) e go h = ap (λ x. after x go) h
stops_too w Spent e go h = ap (λ x. after x go) h
stops_too w NoMemory e go h = tt

pub ended_as : {A : Type 0} (old new : Content) (r q : Result A Stop) (e f : Ends A) → r ≡ q →
    e ≡ f → Stays old new → Tells (world_of new) q e → Ended old new r f
ended_as {A} old new r q e f h g kept t =
    record {
      tells = subst (λ (x : Result A Stop). Tells (world_of new) x f) (sym h)
          (subst (λ x. Tells (world_of new) q x) g t);
      stays = kept;
    }

-- the next part stops, and the whole stops
pub stops : {A B : Type 0} (old now new : Content) (s : Stop) (e : Ends A) (go : A → Eval B)
    (left whole : Ends B) (r : Result B Stop) → left ≡ after e go →
    Going old now left whole → Ended {A = A} now new (Err s) e → r ≡ Err s → Ended old new r whole
stops {A} {B} old now new s e go left whole r is g d h =
    ended_as old new r (Err s) (after e go) whole h (sym is ∙ g.same)
    (stays_on old now new g.stays d.stays) (stops_too {A = A} {B = B} (world_of new) s e go
    d.tells)

-- nothing is left but to give
pub gives : {A : Type 0} (old now : Content) (a : A) (r : Result A Stop) (left whole : Ends A) →
    Going old now left whole → left ≡ Gives a (world_of now) → r ≡ Ok a → Ended old now r whole
gives old now a r left whole g h is = ended_as old now r (Ok a) left whole is g.same g.stays h

-- the rest ends as the whole
pub ends_as : {A : Type 0} (old now new : Content) (left whole e : Ends A) (r : Result A Stop) →
    Going old now left whole → left ≡ e → Ended now new r e → Ended old new r whole
ends_as old now new left whole e r g is d = record {
  tells = subst (λ x. Tells (world_of new) r x)
      (sym is ∙ g.same) d.tells;
  stays = stays_on old now new g.stays d.stays;
}

-- what goes on from an answer ends as the answer that is made of it
pub follows : {A B : Type 0} (old new : Content) (first : Result A Stop) (r : Result B Stop)
    (e : Ends A) (go : A → Eval B) → Follows first r go → Ended old new first e →
    Ended old new r (after e go)
follows {A} {B} old new (Ok a) r e go h d = record {
  tells = subst (λ (x : Ends B). Tells (world_of new) r x) (sym (ap (λ x. after x go) d.tells))
      (h (world_of new));
  stays = d.stays;
}
follows {A} {B} old new (Err s) r e go h d = record {
  tells = subst (λ (q : Result B Stop). Tells (world_of new) q (after e go)) (sym h)
      (stops_too {A = A} {B = B} (world_of new) s e go d.tells);
  stays = d.stays;
}

-- ---- parts of parts

pub after_give : {A : Type 0} (e : Ends A) → after e give ≡ e
after_give (Gives a w) = refl
after_give (Raises area w) = refl
after_give (RunsOut w) = refl

pub after_after : {A B C : Type 0} (e : Ends A) (go : A → Eval B) (more : B → Eval C) →
    after (after e go) more ≡ after e (λ x w. after (go x w) more)
after_after (Gives a w) go more = refl
after_after (Raises area w) go more = refl
after_after (RunsOut w) go more = refl

-- the same where what follows is the same
pub same_after : {A B : Type 0} (e : Ends A) (go on : A → Eval B) →
    ((x : A) (w : World) → go x w ≡ on x w) → after e go ≡ after e on
same_after e go on h = λ i. after e (λ x w. h x w i)

-- three parts, one after another
pub deep : {A B C D : Type 0} (e : Ends A) (go : A → Eval B) (part : A → B → Eval C)
    (more : C → Eval D) →
    after (after e (λ x u. after (go x u) (part x))) more ≡ after e
    (λ x u. after (go x u) (λ y v. after (part x y v) more))
deep e go part more =
    after_after e (λ x u. after (go x u) (part x)) more
    ∙ same_after e (λ x u. after (after (go x u) (part x)) more)
    (λ x u. after (go x u) (λ y v. after (part x y v) more))
    (λ x u. after_after (go x u) (part x) more)

-- the first part of a part gives
pub goes_within : {A B C : Type 0} (old now new : Content) (a : A) (e : Ends A) (go : A → Eval B)
    (part : Ends B) (more : B → Eval C) (whole : Ends C) → part ≡ after e go →
    Going old now (after part more) whole → Ended now new (Ok a) e →
    Going old new (after (go a (world_of new)) more) whole
goes_within old now new a e go part more whole is g d =
    goes_on old now new a e (λ x w. after (go x w) more) (after part more) whole
    (ap (λ x. after x more) is ∙ after_after e go more) g d

-- the first part of a part stops
pub stops_within : {A B C : Type 0} (old now new : Content) (s : Stop) (e : Ends A)
    (go : A → Eval B) (part : Ends B) (more : B → Eval C) (whole : Ends C) (r : Result C Stop) →
    part ≡ after e go →
    Going old now (after part more) whole → Ended {A = A} now new (Err s) e → r ≡ Err s →
    Ended old new r whole
stops_within {A} {B} {C} old now new s e go part more whole r is g d h =
    stops {A = A} {B = C} old now new s e (λ x w. after (go x w) more) (after part more) whole r
    (ap (λ x. after x more) is ∙ after_after e go more) g d h

-- ---- lists: these elements are there, and `list` is the end of what gives the others

front_first : {A : Type 0} (o : Option A) (vs us : List A) →
    (vs ++ with_front o []) ++ us ≡ vs ++ with_front o us
front_first None vs us = ap (λ xs. xs ++ us) (append-nil vs)
front_first (Some x) vs us = append_assoc vs (x ∷ []) us

pub regrouped : {A : Type 0} (vs : List A) (o : Option A) (e : Ends (List A)) →
    after e (λ us. give ((vs ++ with_front o []) ++ us)) ≡ after
    (after e (λ us. give (with_front o us))) (λ us. give (vs ++ us))
regrouped vs o (Gives us w) = ap (λ xs. Gives xs w) (front_first o vs us)
regrouped vs o (Raises area w) = refl
regrouped vs o (RunsOut w) = refl

-- none is there yet
pub none_yet : {A : Type 0} (m : Content) (whole : Ends (List A)) (vs : List A) → vs ≡ [] →
    Going m m (after whole (λ ts. give (vs ++ ts))) whole
none_yet m whole vs none = going m (after whole (λ ts. give (vs ++ ts))) whole
    (ap (λ xs. after whole (λ ts. give (xs ++ ts))) none ∙ after_give whole)

-- the next gives one more, or none, and more may follow
abbrev adding : {A X : Type 0} → Ends X → (X → Option A) → List A → Ends (List A)
adding e o vs = after e (λ x. give (vs ++ with_front (o x) []))

added : {A X : Type 0} (e : Ends X) (o : X → Option A) (vs : List A) (more : Eval (List A)) →
    after (after e (λ x u. after (more u) (λ ys. give (with_front (o x) ys))))
    (λ ts. give (vs ++ ts)) ≡ after (adding e o vs) (λ us u. after (more u)
    (λ ts. give (us ++ ts)))
added (Gives x w) o vs more = sym (regrouped vs (o x) (more w))
added (Raises area w) o vs more = refl
added (RunsOut w) o vs more = refl

module _ {A X : Type 0} (old now new : Content) (e : Ends X) (o : X → Option A) (vs : List A)
    (more : Eval (List A)) (list whole : Ends (List A)) where
  pub adds_stop : (s : Stop) (r : Result (List A) Stop) →
      list ≡ after e (λ x u. after (more u) (λ ys. give (with_front (o x) ys))) →
      Going old now (after list (λ ts. give (vs ++ ts))) whole →
      Ended {A = List A} now new (Err s) (after e (λ x. give (vs ++ with_front (o x) []))) →
      r ≡ Err s → Ended old new r whole
  adds_stop s r is g d answer =
      stops {A = List A} {B = List A} old now new s (adding e o vs)
      (λ us u. after (more u) (λ ts. give (us ++ ts))) (after list (λ ts. give (vs ++ ts))) whole r
      (ap (λ x. after x (λ ts. give (vs ++ ts))) is ∙ added e o vs more) g d answer

  pub adds_go : (us : List A) →
      list ≡ after e (λ x u. after (more u) (λ ys. give (with_front (o x) ys))) →
      Going old now (after list (λ ts. give (vs ++ ts))) whole →
      Ended now new (Ok us) (after e (λ x. give (vs ++ with_front (o x) []))) →
      Going old new (after (more (world_of new)) (λ ts. give (us ++ ts))) whole
  adds_go us is g d =
      goes_on old now new us (adding e o vs) (λ us u. after (more u) (λ ts. give (us ++ ts)))
      (after list (λ ts. give (vs ++ ts))) whole
      (ap (λ x. after x (λ ts. give (vs ++ ts))) is ∙ added e o vs more) g d

-- the next gives several more, and more may follow
grouped : {A : Type 0} (vs ys : List A) (e : Ends (List A)) →
    after (after e (λ zs. give (ys ++ zs))) (λ ts. give (vs ++ ts)) ≡ after e
    (λ ts. give ((vs ++ ys) ++ ts))
grouped vs ys (Gives zs w) = ap (λ xs. Gives xs w) (sym (append_assoc vs ys zs))
grouped vs ys (Raises area w) = refl
grouped vs ys (RunsOut w) = refl

several : {A : Type 0} (e : Ends (List A)) (vs : List A) (more : Eval (List A)) →
    after (after e (λ ys u. after (more u) (λ zs. give (ys ++ zs)))) (λ ts. give (vs ++ ts)) ≡
    after (after e (λ ys. give (vs ++ ys))) (λ us u. after (more u) (λ ts. give (us ++ ts)))
several (Gives ys w) vs more = grouped vs ys (more w)
several (Raises area w) vs more = refl
several (RunsOut w) vs more = refl

module _ {A : Type 0} (old now new : Content) (e : Ends (List A)) (vs : List A)
    (more : Eval (List A)) (list whole : Ends (List A)) where
  pub several_stop : (s : Stop) (r : Result (List A) Stop) →
      list ≡ after e (λ ys u. after (more u) (λ zs. give (ys ++ zs))) →
      Going old now (after list (λ ts. give (vs ++ ts))) whole →
      Ended {A = List A} now new (Err s) (after e (λ ys. give (vs ++ ys))) → r ≡ Err s →
      Ended old new r whole
  several_stop s r is g d answer =
      stops {A = List A} {B = List A} old now new s (after e (λ ys. give (vs ++ ys)))
      (λ us u. after (more u) (λ ts. give (us ++ ts))) (after list (λ ts. give (vs ++ ts))) whole r
      (ap (λ x. after x (λ ts. give (vs ++ ts))) is ∙ several e vs more) g d answer

  pub several_go : (us : List A) →
      list ≡ after e (λ ys u. after (more u) (λ zs. give (ys ++ zs))) →
      Going old now (after list (λ ts. give (vs ++ ts))) whole →
      Ended now new (Ok us) (after e (λ ys. give (vs ++ ys))) →
      Going old new (after (more (world_of new)) (λ ts. give (us ++ ts))) whole
  several_go us is g d =
      goes_on old now new us (after e (λ ys. give (vs ++ ys)))
      (λ us u. after (more u) (λ ts. give (us ++ ts))) (after list (λ ts. give (vs ++ ts))) whole
      (ap (λ x. after x (λ ts. give (vs ++ ts))) is ∙ several e vs more) g d

-- ---- operations

-- a fault stops the run as the definition raises
pub fault_tells : (fault : ValueFault) (o : Outcome) (w : World) →
    UnlessNoMemory {A = Value} (Err fault) (Err fault ≡ o) →
    Tells {A = Value} w (Err (stopped_by fault)) (outcome o w)
fault_tells TooLong o w h = ap (λ x. outcome x w) (sym h)
fault_tells OutOfRange o w h = ap (λ x. outcome x w) (sym h)
fault_tells DivZero o w h = ap (λ x. outcome x w) (sym h)
fault_tells BadCast o w h = ap (λ x. outcome x w) (sym h)
fault_tells BadSubstring o w h = ap (λ x. outcome x w) (sym h)
fault_tells WantOfMemory o w h = tt

pub fault_carried : (fault : ValueFault) (e : Ending Value) (w : World) →
    UnlessNoMemory {A = Value} (Err fault) (ending_of (Err fault) ≡ e) →
    Tells {A = Value} w (Err (stopped_by fault)) (carried e w)
fault_carried TooLong e w h = ap (λ x. carried x w) (sym h)
fault_carried OutOfRange e w h = ap (λ x. carried x w) (sym h)
fault_carried DivZero e w h = ap (λ x. carried x w) (sym h)
fault_carried BadCast e w h = ap (λ x. carried x w) (sym h)
fault_carried BadSubstring e w h = ap (λ x. carried x w) (sym h)
fault_carried WantOfMemory e w h = tt

pub outcome_gives : (o : Outcome) (v : Value) (w : World) → Ok v ≡ o → outcome o w ≡ Gives v w
outcome_gives o v w h = ap (λ x. outcome x w) (sym h)
