-- The rows of an argument: each has a first value, which the argument's parser passes, and what
-- clap makes of rows keeps it so.
use Rattle.std.proofs.Common.{◌≡◌, Bool, cond, true, false, refl, List, [], ◌∷◌, ◌++◌}
use Rattle.std.proofs.Common.{Some, arith, length, subst}
use Rattle.std.specs.Prelude.{◌&&◌, ◌||◌, IfSome, find, fold, if◌then◌else◌, nat_lt, slice_get}
use Rattle.std.specs.Prelude.{option_and_then}
use Rattle.std.specs.List.{list_all}
use Rattle.std.specs.Option.{option_map_or}
use Rattle.std.specs.Str.{bytes_eq}
use Rattle.std.proofs.lemmas.Bool.{ne_eqb}
use Rattle.clap.proofs.WalkLemmas.{both}
use Rattle.clap.specs.Facts.{parser_of_value, unwrap_or_range}
use Rattle.clap.specs.Faults.{action_fault, default_fault, defaults_fault, given_default_fault}
use Rattle.clap.specs.Faults.{set_fault, use_fault}
use Rattle.clap.specs.Kinds.{Kinds, or_else, range_kinds}
use Rattle.clap.specs.ValueTests.{accepts}
use Rattle.clap.specs.Walk.{Row, Rule, Text, action_of, at_row, default_rows, first_of, has_row}
use Rattle.clap.specs.Walk.{is_empty, more_values, most_values, reading_by, used, used_as}
use Rattle.clap.specs.Walk.{values_or_missing, with_default, with_values, without}
use Rattle.clap.specs.declared.builder.action.ArgAction.{ArgAction}
use Rattle.clap.specs.declared.builder.action.ArgAction.TheVariants.{Set, SetTrue, SetFalse}
use Rattle.clap.specs.declared.builder.value_parser.Reading.{Reading}
use Rattle.clap.specs.declared.error.kind.ErrorKind.{ErrorKind}
use Rattle.clap.specs.declared.error.kind.ErrorKind.TheVariants.{InvalidValue}
use Rattle.clap.specs.declared.parser.matches.ValueSource.{ValueSource}
use Rattle.clap.specs.declared.parser.matches.ValueSource.TheVariants.{CommandLine, DefaultValue}

-- ---- the first of several steps that may fail

pub first : (a b : Kinds) → or_else a b ≡ [] → a ≡ []
first [] b none = refl
first (k ∷ ks) b none = cc

pub second : (a b : Kinds) → or_else a b ≡ [] → b ≡ []
second [] b none = none
second (k ∷ ks) b none = cc

-- ---- the arguments beside which one is looked at

-- an action that sets the values of its one use
abbrev pub is_setting : ArgAction → Bool
is_setting Set = true
is_setting SetTrue = true
is_setting SetFalse = true
is_setting _ = false

abbrev pub has_some : {X : Type 0} → List X → Bool
has_some [] = false
has_some (x ∷ xs) = true

-- a use of the argument gives it a value
abbrev pub gives_value : Rule → Bool
gives_value a = nat_lt 0 (unwrap_or_range a.range).start_inclusive || has_some a.missing

-- each use of `a` sets its value, and it is `o` where it has the id of `o`
abbrev pub Fits : Rule → Rule → Type 0
Fits o a = (is_setting (action_of a) ≡ true) × (gives_value a ≡ true)
    × (bytes_eq a.id o.id ≡ true → a ≡ o)

abbrev pub AllFit : Rule → List Rule → Type 0
AllFit o [] = Unit {0}
AllFit o (a ∷ rest) = Fits o a × AllFit o rest

-- so it is with the first of them that passes a test
pub found : (o : Rule) (test : Rule → Bool) (c : List Rule) → AllFit o c →
    IfSome (find test c) (Fits o)
found o test [] fits = tt
found o test (a ∷ rest) fits = go (test a) (found o test rest fits.1)
  where
    go : (b : Bool) → IfSome (find test rest) (Fits o) →
        IfSome (cond b (Some a) (find test rest)) (Fits o)
    go true later = fits.0
    go false later = later

-- ---- rows whose first value passes

and_true : (a b : Bool) → a ≡ true → b ≡ true → (a && b) ≡ true
and_true true b p q = q
and_true false b p q = cc

-- the parser of the argument passes the text
abbrev pub passes : Rule → Text → Bool
passes o text = accepts o.ignore_case (parser_of_value o.parser) text

module _ (o : Rule) where
  -- there is a first value, and the parser passes it
  abbrev pub passes_first : List Text → Bool
  passes_first [] = false
  passes_first (v ∷ vs) = passes o v

  abbrev pub row_passes : Row → Bool
  row_passes r = cond (bytes_eq r.id o.id) (passes_first r.values) true

  -- so it is with each row of the argument
  abbrev pub all_pass : List Row → Bool
  all_pass rows = list_all row_passes rows

  joined : (a b : List Row) → all_pass a ≡ true → all_pass b ≡ true → all_pass (a ++ b) ≡ true
  joined [] b p q = q
  joined (r ∷ a) b p q =
      let parts = both _ _ p in and_true _ _ parts.0 (joined a b parts.1 q)

  -- a change of the rows of an id that keeps it of a row keeps it of all
  changed : (id : Text) (change : Row → List Row) (missing : List Row) (rows : List Row) →
      ((r : Row) → row_passes r ≡ true → all_pass (change r) ≡ true)
      → all_pass missing ≡ true → all_pass rows ≡ true
      → all_pass (at_row id change missing rows) ≡ true
  changed id change missing [] f m p = m
  changed id change missing (r ∷ rs) f m p =
      let parts = both _ _ p in
      go (bytes_eq r.id id) (f r parts.0) parts.0 parts.1
      (changed id change missing rs f m parts.1)
    where
      go : (b : Bool) → all_pass (change r) ≡ true → row_passes r ≡ true →
          all_pass rs ≡ true → all_pass (at_row id change missing rs) ≡ true → all_pass
          (cond b (change r ++ rs) (r ∷ at_row id change missing rs)) ≡ true
      go true new old rest later = joined (change r) rs new rest
      go false new old rest later = and_true _ _ old later

  longer : (b : Bool) (xs ys : List Text) → cond b (passes_first xs) true ≡ true →
      cond b (passes_first (xs ++ ys)) true ≡ true
  longer false xs ys p = refl
  longer true [] ys p = cc
  longer true (x ∷ xs) ys p = p

  where_so : (b c : Bool) → (b ≡ true → c ≡ true) → cond b c true ≡ true
  where_so true c p = p refl
  where_so false c p = refl

  -- values that are given keep it
  given : (id : Text) (how : Reading) (s : ValueSource) (values : List Text) (rows : List Row) →
      (bytes_eq id o.id ≡ true → passes_first values ≡ true) → all_pass rows ≡ true
      → all_pass (with_values id how s values rows) ≡ true
  given id how s values rows v p = changed id (more_values s values) _ rows
      (λ r old. and_true _ _ (longer (bytes_eq r.id o.id) r.values values old) refl)
      (and_true _ _ (where_so (bytes_eq id o.id) (passes_first values) v) refl) p

  -- ---- one use of an argument

  accepted : (b : Bool) (k : ErrorKind) → (if b then [] else k ∷ []) ≡ [] → b ≡ true
  accepted true k none = refl
  accepted false k none = cc

  -- a use without fault keeps it,
  setting_passes : (again : Bool) (a : Rule) (values : List Text) (rows : List Row) →
      (bytes_eq a.id o.id ≡ true → a ≡ o) → has_some values ≡ true
      → set_fault again a values rows ≡ [] → all_pass rows ≡ true
      → all_pass (with_values a.id (reading_by a) CommandLine values (without a.id rows)) ≡ true
  setting_passes again a [] rows same some none p = cc
  setting_passes again a (v ∷ vs) rows same some none p =
      given a.id (reading_by a) CommandLine (v ∷ vs) (without a.id rows)
      (λ is. subst (λ (x : Rule). passes x v ≡ true) (same is)
      (accepted _ _ (first _ _ (second _ _ none))))
      (changed a.id (λ _. []) [] rows (λ r old. refl) refl p)

  action_passes : (x : ArgAction) (again : Bool) (a : Rule) (values : List Text)
      (rows : List Row) → is_setting x ≡ true → (bytes_eq a.id o.id ≡ true → a ≡ o)
      → has_some values ≡ true → action_fault x again a values rows ≡ [] → all_pass rows ≡ true
      → all_pass (used_as x a.id (reading_by a) values rows) ≡ true
  action_passes Set again a values rows is same some none p =
      setting_passes again a values rows same some none p
  action_passes SetTrue again a values rows is same some none p =
      setting_passes again a values rows same some none p
  action_passes SetFalse again a values rows is same some none p =
      setting_passes again a values rows same some none p
  action_passes _ again a values rows is same some none p = cc

  has_value : (a : Rule) (values : List Text) → gives_value a ≡ true →
      range_kinds (unwrap_or_range a.range).start_inclusive (most_values a) (length values) ≡ []
      → has_some (values_or_missing a values) ≡ true
  has_value a (v ∷ vs) gives none = refl
  has_value a [] gives none = go (nat_lt 0 (unwrap_or_range a.range).start_inclusive) _ gives none
    where
      go : (b : Bool) (rest : Kinds) → (b || has_some a.missing) ≡ true →
          cond (b && true) (InvalidValue ∷ []) rest ≡ [] → has_some a.missing ≡ true
      go true rest gives none = cc
      go false rest gives none = gives

  pub used_passes : (again : Bool) (a : Rule) (values : List Text) (rows : List Row) →
      Fits o a → use_fault again a values rows ≡ [] → all_pass rows ≡ true
      → all_pass (used a values rows) ≡ true
  used_passes again a values rows fit none p =
      action_passes (action_of a) again a (values_or_missing a values) rows fit.0 fit.2
      (has_value a values fit.1 (first _ _ none)) (second _ _ none) p

  -- ---- defaults

  default_accepted : (a : Rule) (d : Text) (ds : List Text) →
      given_default_fault a (d ∷ ds) ≡ [] → passes a d ≡ true
  default_accepted a d ds none = accepted _ _ (first _ _ (second _ _ none))

  not_empty : (d : Text) (ds : List Text) → is_empty (d ∷ ds) ≡ false
  not_empty d ds = ne_eqb (length (d ∷ ds)) 0 (λ is. omega arith)

  not_skipped : (empty : Bool) (kinds : Kinds) → empty ≡ false →
      cond (false || empty) [] kinds ≡ [] → kinds ≡ []
  not_skipped true kinds is none = cc
  not_skipped false kinds is none = none

  default_passes : (a : Rule) (rows : List Row) → Fits o a → default_fault rows a ≡ [] →
      all_pass rows ≡ true → all_pass (with_default rows a) ≡ true
  default_passes a rows fit none p = go (has_row a.id rows) a.defaults none
    where
      go : (b : Bool) (ds : List Text) →
          cond (b || is_empty ds) [] (given_default_fault a ds) ≡ []
          → all_pass (cond b rows (default_rows a.id (reading_by a) ds rows)) ≡ true
      go true ds none = p
      go false [] none = p
      go false (d ∷ ds) none = given a.id (reading_by a) DefaultValue (d ∷ ds) rows
          (λ is. subst (λ (x : Rule). passes x d ≡ true) (fit.2 is)
          (default_accepted a d ds (not_skipped (is_empty (d ∷ ds))
          (given_default_fault a (d ∷ ds)) (not_empty d ds) none))) p

  -- the defaults of all keep it
  pub defaults_pass : (c : List Rule) (rows : List Row) → AllFit o c →
      defaults_fault rows c ≡ [] → all_pass rows ≡ true
      → all_pass (fold with_default rows c) ≡ true
  unfolding defaults_fault
  defaults_pass [] rows fits none p = p
  defaults_pass (a ∷ rest) rows fits none p = defaults_pass rest (with_default rows a) fits.1
      (second _ _ none) (default_passes a rows fits.0 (first _ _ none) p)

  -- ---- the first value

  -- where the argument has a row, its first value passes
  pub value_passes : (rows : List Row) → all_pass rows ≡ true → has_row o.id rows ≡ true →
      option_map_or (passes o) (first_of o.id rows) false ≡ true
  value_passes [] p has = cc
  value_passes (r ∷ rs) p has =
      let parts = both _ _ p in
      go (bytes_eq r.id o.id) parts.0 has (value_passes rs parts.1)
    where
      here : (values : List Text) → passes_first values ≡ true →
          option_map_or (passes o) (slice_get values 0) false ≡ true
      here [] p = cc
      here (v ∷ vs) p = p

      go : (b : Bool) → cond b (passes_first r.values) true ≡ true →
          (b || has_row o.id rs) ≡ true
          → (has_row o.id rs ≡ true → option_map_or (passes o) (first_of o.id rs) false ≡ true)
          → option_map_or (passes o) (option_and_then (λ (x : Row). slice_get x.values 0)
          (cond b (Some r) (find (λ (x : Row). bytes_eq x.id o.id) rs))) false ≡ true
      go true p has later = here r.values p
      go false p has later = later has
