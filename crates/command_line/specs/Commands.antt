-- The words of the command line, as the definition of the command takes them.
use Rattle.std.specs.Prelude.{Bool, true, false, if◌then◌else◌, List, [], ◌∷◌, ℕ, Option, Some, None, codes}
use Rattle.std.specs.Str.{bytes_eq}
use Rattle.std.specs.Str.Parse.{digits_value, without_leading_plus}
use Rattle.clap.specs.Words.{App, Rule, Row, Text, Kinds, new_app, new_rule, with_rule, with_subcommand, fault_of, subcommand_of, first_of}
use Rattle.clap.specs.ValueTests.{is_unsigned_in}
use Rattle.clap.specs.declared.builder.ArgAction.TheVariants.{Set, SetTrue}
use Rattle.clap.specs.declared.builder.value_parser.ValueParser.TheVariants.{Unsigned}
use Rattle.command_line.specs.declared.words.Command.{Command}
use Rattle.command_line.specs.declared.words.Command.TheVariants.{Run, Gen, Check, Mrt}

-- a flag, which may be there
abbrev pub flag_rule : Text → Rule
flag_rule name = record (new_rule name) { long = Some name; action = Some SetTrue }

-- a number that must be there, and is at most so large
abbrev pub number_rule : Text → ℕ → Rule
number_rule id most = record (new_rule id) { action = Some Set; required = true; parser = Some (Unsigned 0 most) }

abbrev pub largest_seed : ℕ
largest_seed = 18446744073709551615

abbrev pub most_events : ℕ
most_events = 60000

-- `run`, which has a flag
abbrev pub run_app : App
run_app = with_rule (new_app (codes "run")) (flag_rule (codes "quiet"))

-- `gen SEED COUNT`, which has it, too
abbrev pub gen_app : App
gen_app = with_rule (with_rule (with_rule (new_app (codes "gen")) (number_rule (codes "seed") largest_seed)) (number_rule (codes "count") most_events)) (flag_rule (codes "quiet"))

-- `mrt`, which has a flag of its own
abbrev pub mrt_app : App
mrt_app = with_rule (new_app (codes "mrt")) (flag_rule (codes "as4"))

-- `replay` with its commands, of which `check` has no further word
abbrev pub replay_app : App
replay_app = with_subcommand (with_subcommand (with_subcommand (with_subcommand (new_app (codes "replay")) run_app.top) gen_app.top) (new_app (codes "check")).top) mrt_app.top

abbrev pub is_true : Option Text → Bool
is_true None = false
is_true (Some text) = bytes_eq text (codes "true")

-- whether a flag stands among the words of a command
abbrev pub has_flag : Text → List Row → Bool
has_flag name rows = is_true (first_of name rows)

-- the number that a text is, where it is one that is at most so large
abbrev pub number_in : ℕ → Text → Option ℕ
number_in most text = if is_unsigned_in 0 most text then Some (digits_value 10 (without_leading_plus text)) else None

abbrev pub number_to : ℕ → Option Text → Option ℕ
number_to most None = None
number_to most (Some text) = number_in most text

-- `gen` with its numbers
abbrev pub generation : Option ℕ → Option ℕ → Bool → Option Command
generation (Some seed) (Some count) quiet = Some (Gen seed count quiet)
generation seed count quiet = None

abbrev pub generated : List Row → Option Command
generated rows = generation (number_to largest_seed (first_of (codes "seed") rows)) (number_to most_events (first_of (codes "count") rows)) (has_flag (codes "quiet") rows)

-- the command of this name
abbrev pub named : Option (Text × List Row) → Option Command
named None = None
named (Some sub) =
    if bytes_eq sub.0 (codes "run") then Some (Run (has_flag (codes "quiet") sub.1))
    else if bytes_eq sub.0 (codes "gen") then generated sub.1
    else if bytes_eq sub.0 (codes "check") then Some Check
    else if bytes_eq sub.0 (codes "mrt") then Some (Mrt (has_flag (codes "as4") sub.1))
    else None

-- words that are taken name a command, or none; words with a fault, or that ask for help, are none
abbrev pub unless_faulty : Kinds → Option Command → Option Command
unless_faulty [] command = command
unless_faulty (kind ∷ kinds) command = None

-- the command that the words are; the first word is the program's name
unfoldable pub command_of : List (List ℕ) → Option Command
command_of words = unless_faulty (fault_of replay_app words) (named (subcommand_of replay_app words))
