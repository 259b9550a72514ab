-- What parameters take, one after another, and what comes back.
use Rattle.std.proofs.Common.{◌≡◌, ℕ, zero, suc, ◌+◌, List, [], ◌∷◌, ◌++◌, drop}
use Rattle.std.proofs.Common.{refl, sym, ap, ◌∙◌, subst, Result, Option, Some, None, Ok, Err, map}
use Rattle.std.proofs.Common.{slice_get, append_assoc, append-nil, add-one}
use Rattle.std.proofs.Math.Seq.{drop-nil}
use Rattle.sql_values.specs.declared.value.Value.{Value}
use Rattle.sql_values.specs.declared.value.SqlType.{SqlType}
use Rattle.catalog_store.specs.declared.entry.ParameterMode.{ParameterMode}
use Rattle.sql_values.specs.Casts.{assigned}
use Rattle.sql_values.specs.Values.{Outcome}
use Rattle.bound_trees.specs.declared.statement.BoundTarget.{BoundTarget}
use Rattle.rel_algebra.specs.Tree.{InMode, Parameter, Target}
use Rattle.rel_algebra.specs.World.{World, Ends, Gives, Raises, RunsOut, after, give}
use Rattle.rel_algebra.specs.World.{outcome}
use Rattle.rel_algebra.specs.Doing.{take_values}
use Rattle.routine_views.specs.Views.{target}
use Rattle.run_choices.specs.declared.stop.Stop.{Stop}
use Rattle.run_choices.specs.declared.stop.Stop.TheVariants.{NoMemory, Raised, Spent}
use Rattle.run_choices.specs.Ending.{Tells}
use Rattle.rel_algebra.specs.Calls.{passed, passed_by}
use Rattle.routine_views.specs.Routines.{mode_of, with_modes}
use Rattle.run_places.specs.Passing.{mode_in}
use Rattle.run_places.proofs.Catalogs.{same_there}

abbrev no_modes : List ParameterMode
no_modes = []

-- no mode is at any place
no_mode : (i : ℕ) → slice_get no_modes i ≡ slice_get no_modes (suc i)
no_mode zero = refl
no_mode (suc i) = refl

-- the parameter at a place takes a value by its mode and its type
pub passed_there : (ms : List ParameterMode) (ts : List SqlType) (i : ℕ) (t : SqlType)
    (v : Value) → slice_get ts i ≡ Some t →
    passed (drop i (with_modes ms ts)) v ≡ passed_by (mode_in (slice_get ms i)) t v
passed_there ms [] i t v e = absurd cc
passed_there [] (u ∷ ts) zero t v e =
    ap (λ (x : SqlType). passed_by InMode x v) (same_there u t e)
passed_there (m ∷ ms) (u ∷ ts) zero t v e =
    ap (λ (x : SqlType). passed_by (mode_of m) x v) (same_there u t e)
passed_there [] (u ∷ ts) (suc i) t v e = passed_there [] ts i t v e
    ∙ ap (λ (o : Option ParameterMode). passed_by (mode_in o) t v) (no_mode i)
passed_there (m ∷ ms) (u ∷ ts) (suc i) t v e = passed_there ms ts i t v e

-- where no parameter is, it goes on as it is
pub passed_past : (ms : List ParameterMode) (ts : List SqlType) (i : ℕ) (v : Value) →
    slice_get ts i ≡ None → passed (drop i (with_modes ms ts)) v ≡ Ok v
passed_past ms [] i v e = ap (λ (ps : List Parameter). passed ps v) (drop-nil i)
passed_past ms (u ∷ ts) zero v e = absurd cc
passed_past [] (u ∷ ts) (suc i) v e = passed_past [] ts i v e
passed_past (m ∷ ms) (u ∷ ts) (suc i) v e = passed_past ms ts i v e

-- ---- values as their targets take them

-- an answer that is a stop
pub stop_tells : (r : Result (List Value) Stop) (s : Stop) (w : World) (e : Ends (List Value)) →
    r ≡ Err s → Tells w (Err s) e → Tells w r e
stop_tells r s w e is h =
    subst (λ (x : Result (List Value) Stop). Tells w x e) (sym is) h

-- what stands at a place of a list, and what comes after it
at_place : {A : Type 0} (vs : List A) (i : ℕ) (v : A) → slice_get vs i ≡ Some v →
    drop i vs ≡ v ∷ drop (i + 1) vs
at_place {A} [] i v e = absurd cc
at_place {A} (x ∷ xs) zero v e = ap (λ (y : A). y ∷ xs) (same_there x v e)
at_place {A} (x ∷ xs) (suc i) v e = at_place xs i v e
    ∙ ap (λ n. v ∷ drop n (x ∷ xs)) (ap suc (add-one i) ∙ sym (add-one (suc i)))

past_end : {A : Type 0} (vs : List A) (i : ℕ) → slice_get vs i ≡ None → drop i vs ≡ []
past_end [] i e = drop-nil i
past_end (x ∷ xs) zero e = absurd cc
past_end (x ∷ xs) (suc i) e = past_end xs i e

-- one value more in front of what follows
front : (values : List Value) (v : Value) (e : Ends (List Value)) →
    after (after e (λ xs. give (v ∷ xs))) (λ xs. give (values ++ xs)) ≡
    after e (λ xs. give ((values ++ v ∷ []) ++ xs))
front values v (Gives xs w) = ap (λ ys. Gives ys w) (sym (append_assoc values (v ∷ []) xs))
front values v (Raises area w) = refl
front values v (RunsOut w) = refl

module _ (ts : List BoundTarget) (vs taken : List Value) (i : ℕ) (w : World) where
  -- what is left of the targets and the values from a place on
  abbrev pub left_from : ℕ → List Value → Ends (List Value)
  left_from n so_far = after (take_values (map target (drop n ts)) (drop n vs) w)
      (λ xs. give (so_far ++ xs))

  -- by how the value at the place is taken
  by_taken : (t : BoundTarget) (v : Value) (o : Outcome) → slice_get ts i ≡ Some t →
      slice_get vs i ≡ Some v → assigned t.data_type v ≡ o →
      left_from i taken ≡ after (after (outcome o w)
      (λ x u. after (take_values (map target (drop (i + 1) ts)) (drop (i + 1) vs) u)
      (λ xs. give (x ∷ xs)))) (λ xs. give (taken ++ xs))
  by_taken t v o is there made =
      ap (λ (us : List BoundTarget). after (take_values (map target us) (drop i vs) w)
      (λ xs. give (taken ++ xs))) (at_place ts i t is)
      ∙ ap (λ (us : List Value). after (take_values (map target (t ∷ drop (i + 1) ts)) us w)
      (λ xs. give (taken ++ xs))) (at_place vs i v there)
      ∙ ap (λ (r : Outcome). after (after (outcome r w)
      (λ x u. after (take_values (map target (drop (i + 1) ts)) (drop (i + 1) vs) u)
      (λ xs. give (x ∷ xs)))) (λ xs. give (taken ++ xs))) made

  -- what one value more gives, or stops with
  abbrev one_more : Outcome → Ends (List Value)
  one_more o = after (outcome o w) (λ x. give (taken ++ x ∷ []))

  -- the values that are there
  abbrev given_or : List Value → Ends (List Value) → List Value
  given_or d (Gives xs u) = xs
  given_or d (Raises area u) = d
  given_or d (RunsOut u) = d

  goes_by : (o : Outcome) (us : List Value) (whole : Ends (List Value)) →
      one_more o ≡ Gives us w → after (after (outcome o w)
      (λ x u. after (take_values (map target (drop (i + 1) ts)) (drop (i + 1) vs) u)
      (λ xs. give (x ∷ xs)))) (λ xs. give (taken ++ xs)) ≡ whole →
      left_from (i + 1) us ≡ whole
  goes_by (Ok x) us whole made so_far =
      ap (left_from (i + 1)) (sym (ap (given_or us) made))
      ∙ sym (front taken x (take_values (map target (drop (i + 1) ts)) (drop (i + 1) vs) w))
      ∙ so_far
  goes_by (Err fault) us whole made so_far = absurd cc

  stops_by : (o : Outcome) (s : Stop) (whole : Ends (List Value)) →
      Tells w (Err s) (one_more o) → after (after (outcome o w)
      (λ x u. after (take_values (map target (drop (i + 1) ts)) (drop (i + 1) vs) u)
      (λ xs. give (x ∷ xs)))) (λ xs. give (taken ++ xs)) ≡ whole →
      Tells w (Err s) whole
  stops_by (Ok x) (Raised area) whole made so_far = absurd cc
  stops_by (Ok x) Spent whole made so_far = absurd cc
  stops_by (Ok x) NoMemory whole made so_far = tt
  stops_by (Err fault) (Raised area) whole made so_far =
      sym so_far ∙ made
  stops_by (Err fault) Spent whole made so_far = absurd cc
  stops_by (Err fault) NoMemory whole made so_far = tt

  -- it is taken, and the next follows
  pub taken_goes : (t : BoundTarget) (v : Value) (us : List Value) (whole : Ends (List Value)) →
      slice_get ts i ≡ Some t → slice_get vs i ≡ Some v →
      one_more (assigned t.data_type v) ≡ Gives us w →
      left_from i taken ≡ whole → left_from (i + 1) us ≡ whole
  taken_goes t v us whole is there made so_far =
      goes_by (assigned t.data_type v) us whole made
      (sym (by_taken t v (assigned t.data_type v) is there refl) ∙ so_far)

  -- it is refused
  pub taken_stops : (t : BoundTarget) (v : Value) (s : Stop) (whole : Ends (List Value)) →
      slice_get ts i ≡ Some t → slice_get vs i ≡ Some v →
      Tells w (Err s) (one_more (assigned t.data_type v)) →
      left_from i taken ≡ whole → Tells w (Err s) whole
  taken_stops t v s whole is there made so_far =
      stops_by (assigned t.data_type v) s whole made
      (sym (by_taken t v (assigned t.data_type v) is there refl) ∙ so_far)

  -- no value is left
  pub taken_ends : (whole : Ends (List Value)) → slice_get vs i ≡ None →
      left_from i taken ≡ whole → whole ≡ Gives taken w
  taken_ends whole none so_far =
      sym so_far ∙ ap (λ (us : List Value). after (take_values (map target (drop i ts)) us w)
      (λ xs. give (taken ++ xs))) (past_end vs i none)
      ∙ none_left (map target (drop i ts))
    where
      none_left : (us : List Target) → after (take_values us [] w)
          (λ xs. give (taken ++ xs)) ≡ Gives taken w
      none_left [] = ap (λ xs. Gives xs w) (append-nil taken)
      none_left (u ∷ us) = ap (λ xs. Gives xs w) (append-nil taken)

  -- no target is left
  pub targets_end : (whole : Ends (List Value)) → slice_get ts i ≡ None →
      left_from i taken ≡ whole → whole ≡ Gives taken w
  targets_end whole none so_far =
      sym so_far ∙ ap (λ (us : List BoundTarget). after
      (take_values (map target us) (drop i vs) w) (λ xs. give (taken ++ xs))) (past_end ts i none)
      ∙ ap (λ xs. Gives xs w) (append-nil taken)
