-- What peers hear of the steps of the exits.
use Rattle.std.specs.Prelude.{◌≡◌, ℕ, Bool, true, false, List, map, Option, Some, None}
use Rattle.std.specs.List.{AllByRecursion}
use Rattle.std.specs.FinMap as tables
use Rattle.bgp_attr.specs.declared.speaker.Neighbour.{Neighbour}
use Rattle.bgp_attr.specs.declared.speaker.Profile.{Profile}
use Rattle.journal_text.specs.Lines.{Line}
use Rattle.journal_text.specs.declared.line.Line.TheVariants.{Out, Journal}
use Rattle.journal_text.specs.Lines.{Entry}
use Rattle.journal_text.specs.declared.entry.Entry.TheVariants.{Begin, End}
use Rattle.journal_text.specs.declared.link.Link.TheVariants.{Adv}
use Rattle.journal_text.specs.Lines.{Value}
use Rattle.out_chain.specs.Chains.{OutChained}
use Rattle.exit_side.specs.Exits.{Exited, chain_at}
use Rattle.live_state.specs.Lives.{Routes}
use Rattle.live_state.specs.Heard.{Views}

-- ---- views
-- what was sent in a session, or nothing where none is up
abbrev pub sent_by : Option OutChained → Routes
sent_by None = tables.empty
sent_by (Some c) = c.sent

-- the views of peers that have heard exactly what they were sent: the rows of each `adv.J.S`
abbrev pub views_of : Exited → Views
views_of e j = sent_by (chain_at j e)

-- Messages are written by the profile of the file, and each exit is a declared peer's, by its words.
pub record AreDeclared (written : Profile) (peers : ℕ → Option Neighbour) (e : Exited) : Type 0 where
  pub profile : e.profile ≡ written
  pub words : (j : ℕ) (c : OutChained) → chain_at j e ≡ Some c → peers j ≡ Some c.peer

-- ---- lines
-- whether a peer hears anything by the line, or its session begins or ends
abbrev pub is_heard : Line → Bool
is_heard (Out j octets) = true
is_heard (Journal (Begin (Adv j s))) = true
is_heard (Journal (End (Adv j s))) = true
is_heard other = false

-- nobody hears anything by them
abbrev pub AreUnheard : List Line → Type 0
AreUnheard lines = AllByRecursion (λ line. is_heard line ≡ false) lines

-- the lines of these entries
abbrev pub entry_lines : List (Entry Value) → List Line
entry_lines entries = map (λ e. Journal e) entries
