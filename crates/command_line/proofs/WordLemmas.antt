-- The words of the command line, and what was met among them.
use Rattle.std.proofs.Common.{◌≡◌, ◌≢◌, ⊎_elim, true, List, [], ◌∷◌, None, refl, sym, ap, ◌∙◌}
use Rattle.clap.specs.Words.{App, Text, Kinds, HasKind, IsAmong, HasMatchesOf, fault_of, is_simple, is_simple_and_free, kind_of, subcommand_of, subcommand_rows_of}
use Rattle.clap.specs.declared.parser.matches.ArgMatches.{ArgMatches}
use Rattle.clap.specs.declared.error.Error.{Error}
use Rattle.clap.specs.declared.error.ErrorKind.TheVariants as kinds
use Rattle.clap.proofs.OnLiterals.{clap_on_literals}
use Rattle.command_line.specs.Commands.{replay_app, named, command_of, unless_faulty}

simple : is_simple replay_app ≡ true
unfolding clap_on_literals
simple = refl

free : is_simple_and_free replay_app ≡ true
unfolding clap_on_literals
free = refl

pub is_free : (app : App) → app ≡ replay_app → is_simple_and_free app ≡ true
is_free app e = ap is_simple_and_free e ∙ free

-- words that were taken
pub of_taken : (app : App) (words : List Text) (m : ArgMatches) → app ≡ replay_app → HasMatchesOf app words m → fault_of app words ≡ [] → named (subcommand_rows_of m) ≡ command_of words
unfolding command_of
of_taken app words m e has none =
    ap named ((has (ap is_simple e ∙ simple)).1 ∙ ap (λ (a : App). subcommand_of a words) e)
    ∙ ap (λ (k : Kinds). unless_faulty k (named (subcommand_of replay_app words))) (sym none ∙ ap (λ (a : App). fault_of a words) e)

-- words with a fault
pub of_faulty : (app : App) (words : List Text) (error : Error) → app ≡ replay_app → HasKind (fault_of app words) error → kind_of error ≢ kinds.OutOfMemory → None ≡ command_of words
unfolding command_of
of_faulty app words error e has other = by_kinds (fault_of app words) (⊎_elim (λ is. absurd (other is)) (λ among. among) has) (ap (λ (a : App). fault_of a words) e)
  where
    by_kinds : (k : Kinds) → IsAmong (kind_of error) k → k ≡ fault_of replay_app words → None ≡ unless_faulty (fault_of replay_app words) (named (subcommand_of replay_app words))
    by_kinds [] among same = absurd among
    by_kinds (k ∷ ks) among same = ap (λ (x : Kinds). unless_faulty x (named (subcommand_of replay_app words))) same
