-- The command is one of those of which clap says exactly which words they take, and words that it
-- takes are a command.
use Rattle.std.proofs.Common.{◌≡◌, ◌↔◌, refl, true, false, List, [], ◌∷◌, Option, Some, None, Bool}
use Rattle.std.proofs.Common.{ap, ◌∙◌, sym, subst, is_some, option_map, inl, inr, cond, ℕ, arith}
use Rattle.std.specs.Prelude.{◌≢◌, Result, Ok, Err, IsSome, IfOk, option_and_then, not, ◌&&◌}
use Rattle.std.specs.Prelude.{◌^◌, codes, nat_le, nat_lt}
use Rattle.std.specs.List.{list_any}
use Rattle.std.specs.Option.{option_map_or}
use Rattle.std.specs.Str.Parse.{digits_value, without_leading_plus}
use Rattle.std.proofs.lemmas.Bool.{le-leb, leb-true}
use Rattle.clap.proofs.WalkLemmas.{both}
use Rattle.clap.specs.Facts.{explicit_source}
use Rattle.clap.specs.Takes.{is_given}
use Rattle.clap.specs.Words.{Row, Shape, Text, fault_of, kind_of, subcommand_of}
use Rattle.clap.specs.Faults.{check_fault, defaults_fault, entered_fault, is_simple_and_free}
use Rattle.clap.specs.Faults.{level_fault, settle_fault, walk_fault}
use Rattle.clap.specs.Kinds.{HasKind, IsAmong, Kinds, check_kinds, or_else}
use Rattle.clap.specs.Simple.{argument_words, built, built_leaf, entered, filled, inherited}
use Rattle.clap.specs.Simple.{label_of, marked_built, names_of, rows_at, with_leaf_noted}
use Rattle.clap.specs.ValueTests.{accepts, is_numeral}
use Rattle.clap.specs.Walk.{Held, Names, answers_to, finished, first_of, nothing_held, rows_after}
use Rattle.clap.specs.Walk.{settled, stop_after, walk, walk_from}
use Rattle.clap.specs.declared.builder.value_parser.ValueParser.TheVariants.{Unsigned}
use Rattle.clap.specs.declared.error.kind.ErrorKind.{ErrorKind}
use Rattle.clap.specs.declared.error.kind.ErrorKind.TheVariants.{OutOfMemory}
use Rattle.clap.specs.declared.error.Error.{Error}
use Rattle.clap.proofs.OnLiterals.{clap_on_literals}
use Rattle.psm_words.proofs.Ends.{value_at_end}
use Rattle.psm_words.proofs.Rows.{AllFit, first, second}
use Rattle.psm_words.specs.Words.{IsTaken, budget, check, command_entered, command_of, demo}
use Rattle.psm_words.specs.Words.{demo_options_of, dump, has_flag, most_rows, most_u32, most_u64}
use Rattle.psm_words.specs.Words.{number_of, number_up_to, psm, row_count, run, run_options_of, seed}
use Rattle.psm_words.specs.Words.{unless_fault}
use Rattle.psm_words.specs.declared.command.Command.{Command}
use Rattle.psm_words.specs.declared.command.Command.TheVariants.{Run, Demo}

pub psm_is_simple : is_simple_and_free psm ≡ true
unfolding clap_on_literals
psm_is_simple = refl

-- ---- words that are taken have a subcommand

last_empty : (a b c d e : Kinds) → or_else a (or_else b (or_else c (or_else d e))) ≡ [] → e ≡ []
last_empty a b c d e is = second d e (second c (or_else d e) (second b (or_else c (or_else d e))
    (second a (or_else b (or_else c (or_else d e))) is)))

wants_subcommand : (help required argument : Bool) → required ≡ true →
    check_kinds help required argument ≡ [] → ⊥
wants_subcommand true true argument is e = cc
wants_subcommand false true argument is e = cc
wants_subcommand help false argument is e = cc is

check_subcommand : (s : Shape) (rows : List Row) (has : Bool) → s.subcommand_required ≡ true →
    check_fault s rows has ≡ [] → has ≡ true
check_subcommand s rows true required e = refl
check_subcommand s rows false required e = absurd (wants_subcommand
    (s.arg_required_else_help && not (list_any (λ r. explicit_source r.source) rows))
    s.subcommand_required
    (not (s.subcommand_negates_reqs && false) && list_any
    (λ a. a.required && not (is_given a.id rows)) s.rules) required e)

level_subcommand : (s : Shape) (names : Names) (h : Held) (words : List Text) (has : Bool)
    (below : Kinds) → s.subcommand_required ≡ true
    → level_fault s names h words has below ≡ [] → has ≡ true
level_subcommand s names h words has below required e =
    let end = (walk s.rules names h words).held in
    check_subcommand s (finished s.rules end) has required
    (last_empty (walk_fault s names (walk_from h) words) below
    (settle_fault s.rules s.args_override_self end)
    (defaults_fault (settled s.rules end).rows s.rules)
    (check_fault s (finished s.rules end) has) e)

required : (built psm).top.subcommand_required ≡ true
unfolding clap_on_literals
required = refl

has_subcommand : (words : List Text) → IsTaken words → is_some (subcommand_of psm words) ≡ true
has_subcommand words taken = level_subcommand _ _ _ _ _ _ required taken

-- ---- and each subcommand is a command, since what is below it has no fault either

below_empty : (words : List Text) → IsTaken words →
    entered_fault (built psm) (stop_after (built psm).top.rules (names_of (built psm))
    (argument_words psm words)) ≡ []
below_empty words taken = first _ _ (second _ _ taken)

-- what building leaves of the subcommands
abbrev built_below : Shape → Shape
built_below s = built_leaf (inherited (with_leaf_noted (marked_built psm.top)) s)

abbrev run_built : Shape
run_built = built_below run.top

abbrev check_built : Shape
check_built = built_below check.top

abbrev demo_built : Shape
demo_built = built_below demo.top

-- a text that the parser passes is a number
accepted_number : (least most greatest : ℕ) → nat_le most greatest ≡ true → (o : Option Text) →
    option_map_or (λ v. accepts false (Unsigned least most) v) o false ≡ true
    → is_some (option_and_then (number_up_to greatest) o) ≡ true
accepted_number least most greatest below None is = cc
accepted_number least most greatest below (Some v) is =
    let ds = without_leading_plus v in
    let n = digits_value 10 ds in
    let a = both (is_numeral ds) (nat_lt n (2 ^ 64) && (nat_le least n && nat_le n most)) is in
    let b = both (nat_lt n (2 ^ 64)) (nat_le least n && nat_le n most) a.1 in
    let c = both (nat_le least n) (nat_le n most) b.1 in
    let small = leb-true n most c.1 in
    let wide = leb-true most greatest below in
    let fits : nat_le n greatest ≡ true = le-leb n greatest (omega (arith, small, wide)) in
    rw (a.0, fits) refl

budget_fits : AllFit (filled budget) run_built.rules
unfolding clap_on_literals
budget_fits = ((refl, refl, λ is. refl), ((refl, refl, λ is. cc), ((refl, refl, λ is. cc), tt)))

seed_fits : AllFit (filled seed) demo_built.rules
unfolding clap_on_literals
seed_fits = ((refl, refl, λ is. refl), ((refl, refl, λ is. cc), tt))

row_count_fits : AllFit (filled row_count) demo_built.rules
unfolding clap_on_literals
row_count_fits = ((refl, refl, λ is. cc), ((refl, refl, λ is. refl), tt))

some_run : (o : Option ℕ) (dump plain : Bool) → is_some o ≡ true → is_some (option_map (λ r. Run r)
    (option_map (λ n. record { budget = n; dump = dump; plain = plain }) o)) ≡ true
some_run None dump plain is = cc
some_run (Some n) dump plain is = refl

some_demo : (o p : Option ℕ) → is_some o ≡ true → is_some p ≡ true → is_some
    (option_map (λ d. Demo d) (option_and_then (λ s. option_map
    (λ n. record { seed = s; rows = n }) p) o)) ≡ true
some_demo None p is has = cc
some_demo (Some s) None is has = cc
some_demo (Some s) (Some n) is has = refl

-- words after `run` and `demo` that have no fault are a command with these options
run_is_some : (words : List Text) → level_fault run_built [] nothing_held words false [] ≡ [] →
    is_some (option_map (λ o. Run o) (run_options_of (rows_after run_built.rules [] words))) ≡ true
run_is_some words none =
    let rows = rows_after run_built.rules [] words in
    some_run (number_of most_u32 (codes "budget") rows) (has_flag (codes "dump") rows)
    (has_flag (codes "plain") rows)
    (accepted_number 0 most_u32 most_u32 refl (first_of (codes "budget") rows)
    (value_at_end (filled budget) run_built budget_fits (inl refl) refl refl words none))

demo_is_some : (words : List Text) → level_fault demo_built [] nothing_held words false [] ≡ [] →
    is_some (option_map (λ o. Demo o) (demo_options_of (rows_after demo_built.rules [] words)))
    ≡ true
demo_is_some words none =
    let rows = rows_after demo_built.rules [] words in
    some_demo (number_of most_u64 (codes "seed") rows) (number_of most_u32 (codes "rows") rows)
    (accepted_number 0 most_u64 most_u64 refl (first_of (codes "seed") rows)
    (value_at_end (filled seed) demo_built seed_fits (inl refl) refl refl words none))
    (accepted_number 1 most_rows most_u32 refl (first_of (codes "rows") rows)
    (value_at_end (filled row_count) demo_built row_count_fits (inr (inl refl)) refl refl words
    none))

-- the first of them that is met
abbrev below : Bool → Bool → Bool → Option Shape
below b c d = cond b (Some run_built) (cond c (Some check_built) (cond d (Some demo_built) None))

entered_command : (stop : Option (Text × List Text)) → entered_fault (built psm) stop ≡ [] →
    is_some (entered (built psm) stop) ≡ true → is_some
    (option_and_then command_entered (entered (built psm) stop)) ≡ true
entered_command None none is = cc
entered_command (Some p) none is = go (answers_to p.0 (label_of run_built))
    (answers_to p.0 (label_of check_built)) (answers_to p.0 (label_of demo_built)) none is
  where
    go : (b c d : Bool) → option_map_or (λ s. level_fault s [] nothing_held p.1 false [])
        (below b c d) [] ≡ []
        → is_some (option_map (λ s. rows_at s p.1) (below b c d)) ≡ true
        → is_some (option_and_then command_entered
        (option_map (λ s. rows_at s p.1) (below b c d))) ≡ true
    go true c d none is = run_is_some p.1 none
    go false true d none is = refl
    go false false true none is = demo_is_some p.1 none
    go false false false none is = cc

-- the definition at words that are taken
at_taken : (words : List Text) → IsTaken words →
    command_of words ≡ option_and_then command_entered (subcommand_of psm words)
at_taken words taken = ap (λ (k : Kinds). unless_fault k
    (option_and_then command_entered (subcommand_of psm words))) taken

-- words that are taken are a command
pub taken_is_command : (words : List Text) → IsTaken words → IsSome (command_of words)
taken_is_command words taken =
    let stop = stop_after (built psm).top.rules (names_of (built psm)) (argument_words psm words) in
    ap (λ (o : Option Command). is_some o) (at_taken words taken) ∙
    entered_command stop (below_empty words taken) (has_subcommand words taken)

gate_open : {T : Type 0} (k : Kinds) (o : Option T) → is_some (unless_fault k o) ≡ true → k ≡ []
gate_open [] o is = refl
gate_open (x ∷ xs) o is = cc

-- and no others are
pub command_is_taken : (words : List Text) → IsSome (command_of words) → IsTaken words
command_is_taken words is = gate_open (fault_of psm words)
    (option_and_then command_entered (subcommand_of psm words)) is

-- so the command that was read is one exactly where the words are taken
pub read_is_taken : (words : List Text) (read : Option Command) → read ≡ command_of words →
    IsSome read ↔ IsTaken words
read_is_taken words read is = (
  λ some. command_is_taken words (subst (λ (o : Option Command). IsSome o) is some),
  λ taken. subst (λ (o : Option Command). IsSome o) (sym is) (taken_is_command words taken),
)

gate_shut : {T : Type 0} (kind : ErrorKind) (k : Kinds) (o : Option T) → IsAmong kind k →
    unless_fault k o ≡ None
gate_shut kind [] o among = absurd among
gate_shut kind (x ∷ xs) o among = refl

-- words that clap refuses, but for want of memory, are no command
pub refused_is_none : {E : Type 0} (words : List Text) (error : Error)
    (r : Result (Option Command) E) → HasKind (fault_of psm words) error
    → IfOk r (λ c. (c ≡ None) × (kind_of error ≢ OutOfMemory)) → IfOk r (λ c. c ≡ command_of words)
refused_is_none words error (Err e) kinds says = tt
refused_is_none words error (Ok c) (inl memory) says = absurd (says.1 memory)
refused_is_none words error (Ok c) (inr among) says =
    says.0 ∙ sym (gate_shut (kind_of error) (fault_of psm words)
    (option_and_then command_entered (subcommand_of psm words)) among)
