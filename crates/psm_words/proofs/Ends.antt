-- What stands at the end of clap's walk: an argument that has a default, or is required, has a
-- value that its parser passes, where the words have no fault.
use Rattle.std.proofs.Common.{◌≡◌, ◌⊎◌, Bool, cond, true, false, refl, List, [], ◌∷◌, ◌++◌}
use Rattle.std.proofs.Common.{Some, inl, inr, subst, sym}
use Rattle.std.specs.Prelude.{◌&&◌, ◌||◌, find, fold, not}
use Rattle.std.specs.List.{list_any}
use Rattle.std.specs.Option.{option_map_or}
use Rattle.std.specs.Str.{bytes_eq}
use Rattle.clap.specs.Facts.{explicit_source}
use Rattle.clap.specs.Faults.{check_fault, defaults_fault, level_fault, settle_fault, walk_fault}
use Rattle.clap.specs.Kinds.{check_kinds, or_else}
use Rattle.clap.specs.Simple.{Shape}
use Rattle.clap.specs.Takes.{is_given}
use Rattle.clap.specs.Walk.{Row, Rule, Text, default_rows, finished, first_of, has_row, more_values}
use Rattle.clap.specs.Walk.{nothing_held, reading_by, rows_after, settled, walk, walk_from}
use Rattle.clap.specs.Walk.{with_default, with_values}
use Rattle.clap.specs.declared.builder.value_parser.Reading.{Reading}
use Rattle.clap.specs.declared.parser.matches.ValueSource.{ValueSource}
use Rattle.clap.specs.declared.parser.matches.ValueSource.TheVariants.{DefaultValue}
use Rattle.psm_words.proofs.Rows.{AllFit, defaults_pass, first, has_some, passes, second}
use Rattle.psm_words.proofs.Rows.{value_passes}
use Rattle.psm_words.proofs.Walking.{settled_passes, words_pass}

abbrev pub IsIn : Rule → List Rule → Type 0
IsIn o [] = ⊥
IsIn o (a ∷ rest) = (a ≡ o) ⊎ IsIn o rest

-- ---- defaults

or_later : (c x y : Bool) → (c || x) ≡ true → (x ≡ true → y ≡ true) → (c || y) ≡ true
or_later true x y h f = refl
or_later false x y h f = f h

-- values for an id keep the rows that there are,
row_stays : (id other : Text) (how : Reading) (s : ValueSource) (values : List Text)
    (rows : List Row) → has_row id rows ≡ true
    → has_row id (with_values other how s values rows) ≡ true
row_stays id other how s values [] has = cc
row_stays id other how s values (r ∷ rs) has =
    go (bytes_eq r.id other) (row_stays id other how s values rs)
  where
    go : (b : Bool) → (has_row id rs ≡ true → has_row id (with_values other how s values rs) ≡ true)
        → has_row id (cond b (more_values s values r ++ rs)
        (r ∷ with_values other how s values rs)) ≡ true
    go true later = has
    go false later = or_later (bytes_eq r.id id) (has_row id rs) _ has later

default_stays : (id : Text) (a : Rule) (rows : List Row) → has_row id rows ≡ true →
    has_row id (with_default rows a) ≡ true
default_stays id a rows has = go (has_row a.id rows) a.defaults
  where
    go : (b : Bool) (ds : List Text) → has_row id
        (cond b rows (default_rows a.id (reading_by a) ds rows)) ≡ true
    go true ds = has
    go false [] = has
    go false (d ∷ ds) = row_stays id a.id (reading_by a) DefaultValue (d ∷ ds) rows has

defaults_stay : (id : Text) (c : List Rule) (rows : List Row) → has_row id rows ≡ true →
    has_row id (fold with_default rows c) ≡ true
defaults_stay id [] rows has = has
defaults_stay id (a ∷ rest) rows has =
    defaults_stay id rest (with_default rows a) (default_stays id a rows has)

-- and give the id one
row_given : (id : Text) (how : Reading) (s : ValueSource) (values : List Text) (rows : List Row) →
    bytes_eq id id ≡ true → has_row id (with_values id how s values rows) ≡ true
row_given id how s values [] same = rw same refl
row_given id how s values (r ∷ rs) same =
    go (bytes_eq r.id id) refl (row_given id how s values rs same)
  where
    go : (b : Bool) → bytes_eq r.id id ≡ b → has_row id (with_values id how s values rs) ≡ true →
        has_row id (cond b (more_values s values r ++ rs)
        (r ∷ with_values id how s values rs)) ≡ true
    go true is later = rw is refl
    go false is later = rw is later

default_given : (o : Rule) (rows : List Row) → bytes_eq o.id o.id ≡ true →
    has_some o.defaults ≡ true → has_row o.id (with_default rows o) ≡ true
default_given o rows same some = go (has_row o.id rows) refl o.defaults some
  where
    go : (b : Bool) → has_row o.id rows ≡ b → (ds : List Text) → has_some ds ≡ true →
        has_row o.id (cond b rows (default_rows o.id (reading_by o) ds rows)) ≡ true
    go true has ds some = has
    go false has [] some = cc
    go false has (d ∷ ds) some =
        row_given o.id (reading_by o) DefaultValue (d ∷ ds) rows same

-- an argument with a default has a row at the end
has_default : (o : Rule) (c : List Rule) (rows : List Row) → IsIn o c →
    bytes_eq o.id o.id ≡ true → has_some o.defaults ≡ true
    → has_row o.id (fold with_default rows c) ≡ true
has_default o [] rows among same some = absurd among
has_default o (a ∷ rest) rows (inl here) same some =
    defaults_stay o.id rest (with_default rows a)
    (subst (λ (x : Rule). has_row o.id (with_default rows x) ≡ true) (sym here)
    (default_given o rows same some))
has_default o (a ∷ rest) rows (inr later) same some =
    has_default o rest (with_default rows a) later same some

-- ---- what is required

none_wanted : (help subcommand argument : Bool) → check_kinds help subcommand argument ≡ [] →
    argument ≡ false
none_wanted true subcommand argument none = cc
none_wanted false true argument none = cc
none_wanted false false true none = cc
none_wanted false false false none = refl

or_false : (a b : Bool) → (a || b) ≡ false → (a ≡ false) × (b ≡ false)
or_false true b none = cc
or_false false b none = (refl, none)

given_row : (id : Text) (rows : List Row) → is_given id rows ≡ true → has_row id rows ≡ true
given_row id [] given = cc
given_row id (r ∷ rs) given = go (bytes_eq r.id id) given (given_row id rs)
  where
    go : (b : Bool) → option_map_or (λ (x : Row). explicit_source x.source)
        (cond b (Some r) (find (λ (x : Row). bytes_eq x.id id) rs)) false ≡ true
        → (is_given id rs ≡ true → has_row id rs ≡ true) → (b || has_row id rs) ≡ true
    go true given later = refl
    go false given later = later given

not_wanted : (required given : Bool) → required ≡ true → (required && not given) ≡ false →
    given ≡ true
not_wanted true true is none = refl
not_wanted true false is none = cc
not_wanted false given is none = cc

has_required : (o : Rule) (c : List Rule) (rows : List Row) → IsIn o c → o.required ≡ true →
    list_any (λ a. a.required && not (is_given a.id rows)) c ≡ false → has_row o.id rows ≡ true
has_required o [] rows among is none = absurd among
has_required o (a ∷ rest) rows (inl here) is none =
    let there = subst (λ (x : Rule). (x.required && not (is_given x.id rows)) ≡ false) here
    (or_false _ _ none).0 in
    given_row o.id rows (not_wanted _ _ is there)
has_required o (a ∷ rest) rows (inr later) is none =
    has_required o rest rows later is (or_false _ _ none).1

not_free : (b any : Bool) → (not (b && false) && any) ≡ false → any ≡ false
not_free true any none = none
not_free false any none = none

-- ---- both

-- at the end the argument has a row,
has_row_at_end : (o : Rule) (s : Shape) (rows : List Row) → IsIn o s.rules →
    bytes_eq o.id o.id ≡ true → (has_some o.defaults || o.required) ≡ true
    → check_fault s (fold with_default rows s.rules) false ≡ []
    → has_row o.id (fold with_default rows s.rules) ≡ true
has_row_at_end o s rows among same has none = go (has_some o.defaults) refl has
  where
    go : (b : Bool) → has_some o.defaults ≡ b → (b || o.required) ≡ true →
        has_row o.id (fold with_default rows s.rules) ≡ true
    go true some has = has_default o s.rules rows among same some
    go false some has = has_required o s.rules (fold with_default rows s.rules) among has
        (not_free s.subcommand_negates_reqs _ (none_wanted _ _ _ none))

-- so words without fault give it a value that its parser passes
pub value_at_end : (o : Rule) (s : Shape) → AllFit o s.rules → IsIn o s.rules →
    bytes_eq o.id o.id ≡ true → (has_some o.defaults || o.required) ≡ true → (words : List Text)
    → level_fault s [] nothing_held words false [] ≡ []
    → option_map_or (passes o) (first_of o.id (rows_after s.rules [] words)) false ≡ true
value_at_end o s fits among same has words none =
    let end = (walk s.rules [] nothing_held words).held in
    let again = s.args_override_self in
    let walking = walk_fault s [] (walk_from nothing_held) words in
    let settling = settle_fault s.rules again end in
    let filling = defaults_fault (settled s.rules end).rows s.rules in
    let checking = check_fault s (finished s.rules end) false in
    let after_walk = second walking (or_else settling (or_else filling checking)) none in
    let after_settling = second settling (or_else filling checking) after_walk in
    let walked_pass = words_pass o s fits (walk_from nothing_held) words
    (first walking (or_else settling (or_else filling checking)) none) refl in
    let rows_pass = settled_passes o s.rules fits again end.pending end.rows
    (first settling (or_else filling checking) after_walk) walked_pass in
    value_passes o (finished s.rules end)
    (defaults_pass o s.rules (settled s.rules end).rows fits
    (first filling checking after_settling) rows_pass)
    (has_row_at_end o s (settled s.rules end).rows among same has
    (second filling checking after_settling))
