-- The command of the program, which words it takes, and as what: clap's rule for one simple
-- command.
use Rattle.std.specs.Prelude.{◌≡◌, ◌&&◌, ℕ, Bool, true, false, List, [], ◌∷◌, Option, Some, None}
use Rattle.std.specs.Prelude.{codes, if◌then◌else◌, nat_le, option_and_then, option_map}
use Rattle.std.specs.Option.{option_map_or}
use Rattle.std.specs.Str.{bytes_eq}
use Rattle.std.specs.Str.Parse.{digits_value, without_leading_plus}
use Rattle.clap.specs.Words.{App, Row, Rule, Text, fault_of, first_of, new_app, new_rule}
use Rattle.clap.specs.Words.{subcommand_of, with_rule, with_subcommand}
use Rattle.clap.specs.Simple.{on_top}
use Rattle.clap.specs.ValueTests.{is_numeral}
use Rattle.clap.specs.declared.builder.action.ArgAction.TheVariants.{SetTrue}
use Rattle.clap.specs.declared.builder.value_parser.ValueParser.TheVariants.{Unsigned}
use Rattle.clap.specs.Kinds.{Kinds}
use Rattle.psm_words.specs.declared.command.Command.{Command}
use Rattle.psm_words.specs.declared.command.Command.TheVariants.{Run, Check, Demo}
use Rattle.psm_words.specs.declared.command.DemoOptions.{DemoOptions}
use Rattle.psm_words.specs.declared.command.RunOptions.{RunOptions}

-- a subcommand is required, and there is no help
abbrev pub without_help : App → App
without_help a = on_top (λ s. record s {
  disable_help_flag = true;
  disable_help_subcommand = true;
  subcommand_required = true;
}) a

-- the greatest numbers of 32 and of 64 bits
abbrev pub most_u32 : ℕ
most_u32 = 4294967295

abbrev pub most_u64 : ℕ
most_u64 = 18446744073709551615

-- the most rows that `demo` makes
abbrev pub most_rows : ℕ
most_rows = 10000

-- `--budget N`, an option with a number in its range, which is 1,000,000 where it is not given
abbrev pub budget : Rule
budget = record (new_rule (codes "budget")) {
  long = Some (codes "budget");
  defaults = codes "1000000" ∷ [];
  parser = Some (Unsigned 0 most_u32);
}

-- `--dump`, a flag
abbrev pub dump : Rule
dump = record (new_rule (codes "dump")) { long = Some (codes "dump"); action = Some SetTrue }

-- `--plain`, a flag
abbrev pub plain : Rule
plain = record (new_rule (codes "plain")) { long = Some (codes "plain"); action = Some SetTrue }

-- `--seed S` and `--rows N`, options with a number in its range, which have to be given
abbrev pub seed : Rule
seed = record (new_rule (codes "seed")) {
  long = Some (codes "seed");
  required = true;
  parser = Some (Unsigned 0 most_u64);
}

abbrev pub row_count : Rule
row_count = record (new_rule (codes "rows")) {
  long = Some (codes "rows");
  required = true;
  parser = Some (Unsigned 1 most_rows);
}

-- `run`, with its option and its flags
abbrev pub run : App
run = with_rule (with_rule (with_rule (new_app (codes "run")) budget) dump) plain

-- `check`, with no argument of its own
abbrev pub check : App
check = new_app (codes "check")

-- `demo`, with its two options
abbrev pub demo : App
demo = with_rule (with_rule (new_app (codes "demo")) seed) row_count

-- the whole command
abbrev pub psm : App
psm = with_subcommand
    (with_subcommand (with_subcommand (without_help (new_app (codes "psm"))) run.top) check.top)
    demo.top

-- the command takes the words: clap has no fault for them
abbrev pub IsTaken : List Text → Type 0
IsTaken words = fault_of psm words ≡ []

-- the number that a text is, where it is one up to the greatest: digits, before which a plus may
-- stand
abbrev pub number_up_to : ℕ → Text → Option ℕ
number_up_to most text =
    let digits = without_leading_plus text in
    if is_numeral digits && nat_le (digits_value 10 digits) most
    then Some (digits_value 10 digits) else None

-- the number that these matches have for an argument
abbrev pub number_of : ℕ → Text → List Row → Option ℕ
number_of most id rows = option_and_then (number_up_to most) (first_of id rows)

-- whether these matches have a flag
abbrev pub has_flag : Text → List Row → Bool
has_flag id rows = option_map_or (λ text. bytes_eq text (codes "true")) (first_of id rows) false

-- the options of `run` that these matches have
abbrev pub run_options_of : List Row → Option RunOptions
run_options_of rows = option_map (λ n. record {
  budget = n;
  dump = has_flag (codes "dump") rows;
  plain = has_flag (codes "plain") rows;
}) (number_of most_u32 (codes "budget") rows)

-- and those of `demo`
abbrev pub demo_options_of : List Row → Option DemoOptions
demo_options_of rows = option_and_then (λ s. option_map (λ n. record { seed = s; rows = n })
    (number_of most_u32 (codes "rows") rows)) (number_of most_u64 (codes "seed") rows)

-- the command that a subcommand is, by its name and its matches
abbrev pub command_entered : Text × List Row → Option Command
command_entered p =
    if bytes_eq p.0 (codes "run") then option_map (λ o. Run o) (run_options_of p.1)
    else if bytes_eq p.0 (codes "check") then Some Check
    else if bytes_eq p.0 (codes "demo") then option_map (λ o. Demo o) (demo_options_of p.1)
    else None

-- what is said, and nothing where there is a fault
abbrev pub unless_fault : {T : Type 0} → Kinds → Option T → Option T
unless_fault [] said = said
unless_fault (fault ∷ faults) said = None

-- the command that the words are, and none where they are not taken
abbrev pub command_of : List Text → Option Command
command_of words = unless_fault (fault_of psm words)
    (option_and_then command_entered (subcommand_of psm words))
