-- Worked rows: which words are which command.
use Rattle.std.specs.Prelude.{◌≡◌, ℕ, true, false, Some, None, [], ◌∷◌, codes, refl}
use Rattle.clap.proofs.OnLiterals.{clap_on_literals}
use Rattle.clap.specs.Words.{Text, fault_of}
use Rattle.clap.specs.declared.error.kind.ErrorKind.TheVariants.{MissingSubcommand}
use Rattle.psm_words.specs.Words.{IsTaken, command_of, psm}
use Rattle.psm_words.specs.declared.command.Command.{Command}
use Rattle.psm_words.specs.declared.command.Command.TheVariants.{Run, Check, Demo}
use Rattle.psm_words.specs.declared.command.TheConstants.{DEFAULT_BUDGET}

-- `run` with so many turns a statement, without a dump
abbrev runs : ℕ → Command
runs n = Run (record { budget = n; dump = false; plain = false })

-- and with one
abbrev dumps : ℕ → Command
dumps n = Run (record { budget = n; dump = true; plain = false })

-- row by row
abbrev plains : ℕ → Command
plains n = Run (record { budget = n; dump = false; plain = true })

-- and both
abbrev plain_dumps : ℕ → Command
plain_dumps n = Run (record { budget = n; dump = true; plain = true })

-- `demo` with this seed and so many rows
abbrev makes : ℕ → ℕ → Command
makes s n = Demo (record { seed = s; rows = n })

-- `psm run`
pub run_alone : command_of (codes "psm" ∷ codes "run" ∷ []) ≡ Some (runs 1000000)
unfolding clap_on_literals
run_alone = refl

-- The budget is the constant where none is given, whatever the program's name is.
pub default_budget :
    (name : Text) → command_of (name ∷ codes "run" ∷ []) ≡ Some (runs DEFAULT_BUDGET)
unfolding clap_on_literals
default_budget name = refl

-- `psm check`
pub check_alone : command_of (codes "psm" ∷ codes "check" ∷ []) ≡ Some Check
unfolding clap_on_literals
check_alone = refl

-- The first word is the program's name, and is not read.
pub any_name : command_of (codes "./a" ∷ codes "run" ∷ []) ≡ Some (runs 1000000)
unfolding clap_on_literals
any_name = refl

-- No subcommand is no command.
pub name_alone : command_of (codes "psm" ∷ []) ≡ None
unfolding clap_on_literals
name_alone = refl

-- No words at all are none.
pub no_words : command_of [] ≡ None
unfolding clap_on_literals
no_words = refl

-- Another word is no subcommand.
pub other_word : command_of (codes "psm" ∷ codes "foo" ∷ []) ≡ None
unfolding clap_on_literals
other_word = refl

-- The budget is what comes after `--budget`,
pub budget_given :
    command_of (codes "psm" ∷ codes "run" ∷ codes "--budget" ∷ codes "5" ∷ []) ≡ Some (runs 5)
unfolding clap_on_literals
budget_given = refl

-- or after an equals sign;
pub budget_equals : command_of (codes "psm" ∷ codes "run" ∷ codes "--budget=0" ∷ []) ≡ Some (runs 0)
unfolding clap_on_literals
budget_equals = refl

-- leading zeros and a plus say nothing.
pub budget_zeros :
    command_of (codes "psm" ∷ codes "run" ∷ codes "--budget=+007" ∷ []) ≡ Some (runs 7)
unfolding clap_on_literals
budget_zeros = refl

-- The greatest budget is taken,
pub budget_greatest : command_of (codes "psm" ∷ codes "run" ∷ codes "--budget" ∷
    codes "4294967295" ∷ []) ≡ Some (runs 4294967295)
unfolding clap_on_literals
budget_greatest = refl

-- and the number after it is not,
pub budget_too_great : command_of (codes "psm" ∷ codes "run" ∷ codes "--budget" ∷
    codes "4294967296" ∷ []) ≡ None
unfolding clap_on_literals
budget_too_great = refl

-- nor is a word that is no number,
pub budget_no_number :
    command_of (codes "psm" ∷ codes "run" ∷ codes "--budget" ∷ codes "x" ∷ []) ≡ None
unfolding clap_on_literals
budget_no_number = refl

-- nor one below zero,
pub budget_below_zero : command_of (codes "psm" ∷ codes "run" ∷ codes "--budget=-1" ∷ []) ≡ None
unfolding clap_on_literals
budget_below_zero = refl

-- nor an empty one,
pub budget_empty : command_of (codes "psm" ∷ codes "run" ∷ codes "--budget=" ∷ []) ≡ None
unfolding clap_on_literals
budget_empty = refl

-- nor none,
pub budget_missing : command_of (codes "psm" ∷ codes "run" ∷ codes "--budget" ∷ []) ≡ None
unfolding clap_on_literals
budget_missing = refl

-- nor more words than one,
pub budget_word_more : command_of (codes "psm" ∷ codes "run" ∷ codes "--budget" ∷ codes "5" ∷
    codes "6" ∷ []) ≡ None
unfolding clap_on_literals
budget_word_more = refl

-- nor what comes after `--`.
pub budget_after_dashes : command_of (codes "psm" ∷ codes "run" ∷ codes "--" ∷ codes "--budget" ∷
    codes "5" ∷ []) ≡ None
unfolding clap_on_literals
budget_after_dashes = refl

-- A budget stands once,
pub budget_twice : command_of (codes "psm" ∷ codes "run" ∷ codes "--budget" ∷ codes "5" ∷
    codes "--budget" ∷ codes "5" ∷ []) ≡ None
unfolding clap_on_literals
budget_twice = refl

-- after `run`,
pub budget_above :
    command_of (codes "psm" ∷ codes "--budget" ∷ codes "5" ∷ codes "run" ∷ []) ≡ None
unfolding clap_on_literals
budget_above = refl

-- and not after `check`,
pub budget_of_check :
    command_of (codes "psm" ∷ codes "check" ∷ codes "--budget" ∷ codes "5" ∷ []) ≡ None
unfolding clap_on_literals
budget_of_check = refl

-- nor in other words, as with one dash.
pub budget_one_dash :
    command_of (codes "psm" ∷ codes "run" ∷ codes "-budget" ∷ codes "5" ∷ []) ≡ None
unfolding clap_on_literals
budget_one_dash = refl

-- `--dump` is a flag of `run`,
pub dump_alone : command_of (codes "psm" ∷ codes "run" ∷ codes "--dump" ∷ []) ≡ Some (dumps 1000000)
unfolding clap_on_literals
dump_alone = refl

-- before a budget
pub dump_before : command_of (codes "psm" ∷ codes "run" ∷ codes "--dump" ∷ codes "--budget" ∷ codes "5" ∷ []) ≡ Some (dumps 5)
unfolding clap_on_literals
dump_before = refl

-- or behind it.
pub dump_behind : command_of (codes "psm" ∷ codes "run" ∷ codes "--budget" ∷ codes "5" ∷ codes "--dump" ∷ []) ≡ Some (dumps 5)
unfolding clap_on_literals
dump_behind = refl

-- It stands once,
pub dump_twice : command_of (codes "psm" ∷ codes "run" ∷ codes "--dump" ∷ codes "--dump" ∷ []) ≡ None
unfolding clap_on_literals
dump_twice = refl

-- has no value,
pub dump_equals : command_of (codes "psm" ∷ codes "run" ∷ codes "--dump=x" ∷ []) ≡ None
unfolding clap_on_literals
dump_equals = refl

-- not even its own,
pub dump_true : command_of (codes "psm" ∷ codes "run" ∷ codes "--dump=true" ∷ []) ≡ None
unfolding clap_on_literals
dump_true = refl

-- is no budget,
pub dump_for_budget : command_of (codes "psm" ∷ codes "run" ∷ codes "--budget" ∷ codes "--dump" ∷ []) ≡ None
unfolding clap_on_literals
dump_for_budget = refl

-- and does not stand after `check`,
pub dump_of_check : command_of (codes "psm" ∷ codes "check" ∷ codes "--dump" ∷ []) ≡ None
unfolding clap_on_literals
dump_of_check = refl

-- nor after `demo`.
pub dump_of_demo : command_of (codes "psm" ∷ codes "demo" ∷ codes "--seed" ∷ codes "0" ∷ codes "--rows" ∷ codes "1" ∷ codes "--dump" ∷ []) ≡ None
unfolding clap_on_literals
dump_of_demo = refl

-- `--plain` is a flag of `run` too,
pub plain_alone : command_of (codes "psm" ∷ codes "run" ∷ codes "--plain" ∷ []) ≡ Some (plains 1000000)
unfolding clap_on_literals
plain_alone = refl

-- before a budget and a dump
pub plain_before : command_of (codes "psm" ∷ codes "run" ∷ codes "--plain" ∷ codes "--budget" ∷ codes "5" ∷ codes "--dump" ∷ []) ≡ Some (plain_dumps 5)
unfolding clap_on_literals
plain_before = refl

-- or behind them.
pub plain_behind : command_of (codes "psm" ∷ codes "run" ∷ codes "--dump" ∷ codes "--budget=5" ∷ codes "--plain" ∷ []) ≡ Some (plain_dumps 5)
unfolding clap_on_literals
plain_behind = refl

-- It stands once,
pub plain_twice : command_of (codes "psm" ∷ codes "run" ∷ codes "--plain" ∷ codes "--plain" ∷ []) ≡ None
unfolding clap_on_literals
plain_twice = refl

-- has no value,
pub plain_equals : command_of (codes "psm" ∷ codes "run" ∷ codes "--plain=x" ∷ []) ≡ None
unfolding clap_on_literals
plain_equals = refl

-- not even its own,
pub plain_true : command_of (codes "psm" ∷ codes "run" ∷ codes "--plain=true" ∷ []) ≡ None
unfolding clap_on_literals
plain_true = refl

-- is no budget,
pub plain_for_budget : command_of (codes "psm" ∷ codes "run" ∷ codes "--budget" ∷ codes "--plain" ∷ []) ≡ None
unfolding clap_on_literals
plain_for_budget = refl

-- stands behind `run`,
pub plain_above : command_of (codes "psm" ∷ codes "--plain" ∷ codes "run" ∷ []) ≡ None
unfolding clap_on_literals
plain_above = refl

-- and does not stand after `check`,
pub plain_of_check : command_of (codes "psm" ∷ codes "check" ∷ codes "--plain" ∷ []) ≡ None
unfolding clap_on_literals
plain_of_check = refl

-- nor after `demo`.
pub plain_of_demo : command_of (codes "psm" ∷ codes "demo" ∷ codes "--seed" ∷ codes "0" ∷ codes "--rows" ∷ codes "1" ∷ codes "--plain" ∷ []) ≡ None
unfolding clap_on_literals
plain_of_demo = refl

-- `demo` has a seed and a number of rows,
pub seed_and_rows : command_of (codes "psm" ∷ codes "demo" ∷ codes "--seed" ∷ codes "7" ∷ codes "--rows" ∷ codes "20" ∷ []) ≡ Some (makes 7 20)
unfolding clap_on_literals
seed_and_rows = refl

-- in either order,
pub rows_and_seed : command_of (codes "psm" ∷ codes "demo" ∷ codes "--rows" ∷ codes "20" ∷ codes "--seed=7" ∷ []) ≡ Some (makes 7 20)
unfolding clap_on_literals
rows_and_seed = refl

-- and both: not the rows alone,
pub no_seed : command_of (codes "psm" ∷ codes "demo" ∷ codes "--rows" ∷ codes "20" ∷ []) ≡ None
unfolding clap_on_literals
no_seed = refl

-- nor the seed alone,
pub no_rows : command_of (codes "psm" ∷ codes "demo" ∷ codes "--seed" ∷ codes "7" ∷ []) ≡ None
unfolding clap_on_literals
no_rows = refl

-- nor none of them.
pub demo_alone : command_of (codes "psm" ∷ codes "demo" ∷ []) ≡ None
unfolding clap_on_literals
demo_alone = refl

-- There is one row at least,
pub rows_none : command_of (codes "psm" ∷ codes "demo" ∷ codes "--seed" ∷ codes "7" ∷ codes "--rows" ∷ codes "0" ∷ []) ≡ None
unfolding clap_on_literals
rows_none = refl

-- and one is taken;
pub rows_least : command_of (codes "psm" ∷ codes "demo" ∷ codes "--seed" ∷ codes "7" ∷ codes "--rows" ∷ codes "1" ∷ []) ≡ Some (makes 7 1)
unfolding clap_on_literals
rows_least = refl

-- there are 10,000 at most,
pub rows_most : command_of (codes "psm" ∷ codes "demo" ∷ codes "--seed" ∷ codes "7" ∷ codes "--rows" ∷ codes "10000" ∷ []) ≡ Some (makes 7 10000)
unfolding clap_on_literals
rows_most = refl

-- and not one more.
pub rows_too_many : command_of (codes "psm" ∷ codes "demo" ∷ codes "--seed" ∷ codes "7" ∷ codes "--rows" ∷ codes "10001" ∷ []) ≡ None
unfolding clap_on_literals
rows_too_many = refl

-- The least seed is 0,
pub seed_least : command_of (codes "psm" ∷ codes "demo" ∷ codes "--seed" ∷ codes "0" ∷ codes "--rows" ∷ codes "1" ∷ []) ≡ Some (makes 0 1)
unfolding clap_on_literals
seed_least = refl

-- the greatest is 2 ^ 64 - 1,
pub seed_greatest : command_of (codes "psm" ∷ codes "demo" ∷ codes "--seed" ∷ codes "18446744073709551615" ∷ codes "--rows" ∷ codes "1" ∷ []) ≡ Some (makes 18446744073709551615 1)
unfolding clap_on_literals
seed_greatest = refl

-- and the number after it is none.
pub seed_too_great : command_of (codes "psm" ∷ codes "demo" ∷ codes "--seed" ∷ codes "18446744073709551616" ∷ codes "--rows" ∷ codes "1" ∷ []) ≡ None
unfolding clap_on_literals
seed_too_great = refl

-- Each stands once,
pub seed_twice : command_of (codes "psm" ∷ codes "demo" ∷ codes "--seed" ∷ codes "1" ∷ codes "--rows" ∷ codes "1" ∷ codes "--seed" ∷ codes "1" ∷ []) ≡ None
unfolding clap_on_literals
seed_twice = refl

-- and no other word with them,
pub demo_word_more : command_of (codes "psm" ∷ codes "demo" ∷ codes "--seed" ∷ codes "1" ∷ codes "--rows" ∷ codes "1" ∷ codes "x" ∷ []) ≡ None
unfolding clap_on_literals
demo_word_more = refl

-- not even a budget.
pub demo_budget : command_of (codes "psm" ∷ codes "demo" ∷ codes "--seed" ∷ codes "1" ∷ codes "--rows" ∷ codes "1" ∷ codes "--budget" ∷ codes "1" ∷ []) ≡ None
unfolding clap_on_literals
demo_budget = refl

-- A subcommand takes no other words,
pub a_word_more : command_of (codes "psm" ∷ codes "run" ∷ codes "x" ∷ []) ≡ None
unfolding clap_on_literals
a_word_more = refl

-- not even the other subcommand,
pub both : command_of (codes "psm" ∷ codes "run" ∷ codes "check" ∷ []) ≡ None
unfolding clap_on_literals
both = refl

-- in either order.
pub both_turned : command_of (codes "psm" ∷ codes "check" ∷ codes "run" ∷ []) ≡ None
unfolding clap_on_literals
both_turned = refl

-- There is no --help above,
pub help_flag : command_of (codes "psm" ∷ codes "--help" ∷ []) ≡ None
unfolding clap_on_literals
help_flag = refl

-- nor below a subcommand,
pub help_flag_below : command_of (codes "psm" ∷ codes "run" ∷ codes "--help" ∷ []) ≡ None
unfolding clap_on_literals
help_flag_below = refl

-- and no subcommand help.
pub help_word : command_of (codes "psm" ∷ codes "help" ∷ []) ≡ None
unfolding clap_on_literals
help_word = refl

-- clap lets `--` stand before arguments by position, of which neither has one

-- After a subcommand `--` alone is taken, and says nothing;
pub dashes_below : command_of (codes "psm" ∷ codes "run" ∷ codes "--" ∷ []) ≡ Some (runs 1000000)
unfolding clap_on_literals
dashes_below = refl

-- before it, it is not.
pub dashes_above : command_of (codes "psm" ∷ codes "--" ∷ codes "run" ∷ []) ≡ None
unfolding clap_on_literals
dashes_above = refl

-- the same rows, as clap has them

-- `psm run` is without fault.
pub taken : IsTaken (codes "psm" ∷ codes "run" ∷ [])
unfolding clap_on_literals
taken = refl

-- The fault of no subcommand is that it is missing.
pub missing : fault_of psm (codes "psm" ∷ []) ≡ MissingSubcommand ∷ []
unfolding clap_on_literals
missing = refl
