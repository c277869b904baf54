-- Laws of what is printed, and of what `check` says of it.
use Rattle.std.specs.Prelude.{◌≡◌, ◌↔◌, ◌⊎◌, ℕ, ◌^◌, ◌<◌, ◌≤◌, Bool, false, List, [], ◌∷◌, ◌++◌, length, Option, Some, IfSome}
use Rattle.std.specs.List.{AllByRecursion}
use Rattle.addr4.specs.Families.{IsPrefixOf}
use Rattle.addr4.specs.Prefixes.{AddressPrefix}
use Rattle.bgp_attr.specs.Attributes.{Attrs}
use Rattle.bgp_attr.specs.Routes.{Route}
use Rattle.bgp_attr.specs.Speakers.{Speaker}
use Rattle.bgp_attr.specs.declared.speaker.Neighbour.{Neighbour}
use Rattle.bgp_attr.specs.declared.speaker.Profile.{Profile}
use Rattle.bgp_wire.specs.declared.message.Update.{Update}
use Rattle.bgp_wire.specs.declared.message.Message.TheVariants as messages
use Rattle.bgp_wire.specs.Grammar.{Reads}
use Rattle.bgp_wire.specs.Readable.{AreOctets, said_of}
use Rattle.policy_rules.specs.Rules.{Rule}
use Rattle.policy_rules.specs.Ranges.{AreRules}
use Rattle.filter_bank.specs.Filtered.{filtered}
use Rattle.journal_text.specs.Texts.{value_text, line_text}
use Rattle.journal_text.specs.Walk.{Links, IsLawful, Leads, fold_links, no_links, change_entries}
use Rattle.journal_text.specs.Links.{same_link}
use Rattle.journal_text.specs.Names.{IsNamed}
use Rattle.journal_text.specs.Falls.{IsWhole, IsCut}
use Rattle.journal_text.specs.declared.link.Link.{Link}
use Rattle.link_change.specs.Rows.{Rows}
use Rattle.journal_text.specs.Lines.{Value}
use Rattle.journal_text.specs.declared.value.Value.TheVariants as values
use Rattle.journal_text.specs.Lines.{Entry}
use Rattle.journal_text.specs.declared.line.Code.{Code}
use Rattle.journal_text.specs.Lines.{Line}
use Rattle.journal_text.specs.declared.line.Line.TheVariants.{Journal, Refused}
use Rattle.journal_check.specs.Readings.{reading_of}
use Rattle.journal_check.specs.Judged.{IsChecked}
use Rattle.journal_check.specs.Laws.{said}
use Rattle.journal_check.specs.declared.checked.Checked.TheVariants.{Lawful}
use Rattle.check_run.specs.Lines.{lines_of}
use Rattle.check_run.specs.Answers.{Ends}
use Rattle.check_run.specs.declared.ending.Ending.{Ending}
use Rattle.check_run.specs.declared.ending.Ending.TheVariants as endings
use Rattle.journal_laws.specs.Printed.{Printing, IsShortLine, IsWellTold, IsPrinted, IsPrintable, values_of}
use Rattle.journal_laws.specs.FamilyLines.{FamilyLine, text_of, AreLawfulLines, IsPrintedLine}
use Rattle.journal_laws.specs.TextLinks.{text_links, text_entries}

-- Attributes that a peer said in a message of prefixes of a family can be printed as that family's.
abbrev pub ReadIsPrintable : Type 0
ReadIsPrintable =
    (printing : Printing) (p : Profile) (external : Bool) (bytes : List ℕ) (u : Update) (a : Attrs) → AreOctets bytes → Reads p external bytes (messages.Update u) → (said_of printing.v6 u).attrs ≡ Some a
    → IsPrintable printing (values.Attrs a)

-- A route that rules make of attributes that can be printed can be printed.
abbrev pub FilteredIsPrintable : Type 0
FilteredIsPrintable =
    (printing : Printing) (me : Speaker) (peer : Neighbour) (as4 : Bool) (rules : List Rule) (p : AddressPrefix) (a : Attrs) (r : Route) → printing.peers peer.number ≡ Some peer → peer.number < 2 ^ 8
    → AreRules printing.v6 as4 rules → IsPrintable printing (values.Attrs a) → filtered me peer rules p (Some a) ≡ Some r → IsPrintable printing (values.Route r)

-- A printed line has at most 65,536 bytes and its LF.
abbrev pub PrintedLinesAreShort : Type 0
PrintedLinesAreShort = (v6 : Bool) (line : Line) → IsShortLine v6 line → length (line_text v6 line) ≤ 65537

-- A printed line is read as what it says.
abbrev pub PrintedLinesAreRead : Type 0
PrintedLinesAreRead = (v6 : Bool) (line : Line) (text : List ℕ) → IsShortLine v6 line → line_text v6 line ≡ text ++ 10 ∷ [] → reading_of text ≡ said v6 line

-- Values of one text are the same, in one network.
abbrev pub ValuesAreTold : Type 0
ValuesAreTold = (p : Printing) (a b : Value) → IsWellTold p a → IsWellTold p b → value_text p.v6 a ≡ value_text p.v6 b → a ≡ b

-- A walk that is lawful is lawful with texts in the place of values, and leads to their links.
abbrev pub TextsAreWalked : Type 0
TextsAreWalked =
    (p : Printing) (links : Links Value) (entries : List (Entry Value)) → AllByRecursion (λ e. AllByRecursion (IsWellTold p) (values_of e)) entries → IsLawful links entries
    → Leads (text_links p.v6 links) (text_entries p.v6 entries) (text_links p.v6 (fold_links links entries))

-- A journal obeys the rules exactly where it does with texts in the place of values.
abbrev pub TextsTellWalks : Type 0
TextsTellWalks =
    (p : Printing) (entries : List (Entry Value)) → AllByRecursion (λ e. AllByRecursion (IsWellTold p) (values_of e)) entries
    → IsLawful no_links entries ↔ IsLawful no_links (text_entries p.v6 entries)

-- Of the text of lines of both networks, where the entries of each obey the rules, from no link at all, it is to be said that it is
-- lawful, where it has fewer lines than a journal may have.
abbrev pub PrintedIsLawful : Type 0
PrintedIsLawful =
    (peers : Bool → ℕ → Option Neighbour) (quiet : Bool) (out : List FamilyLine) → AllByRecursion (IsPrintedLine peers) out → length (lines_of (text_of quiet out)) < 4294967296 → AreLawfulLines out
    → IsChecked (lines_of (text_of quiet out)) Lawful

-- So it is where the line that refuses an event stands behind them.
abbrev pub RefusedIsLawful : Type 0
RefusedIsLawful =
    (peers : Bool → ℕ → Option Neighbour) (quiet : Bool) (out : List FamilyLine) (number : ℕ) (code : Code) → AllByRecursion (IsPrintedLine peers) out → number < 2 ^ 64
    → length (lines_of (text_of quiet out ++ line_text false (Refused number code))) < 4294967296 → AreLawfulLines out
    → IsChecked (lines_of (text_of quiet out ++ line_text false (Refused number code))) Lawful

-- And nothing else: this is how a run of `check` over such a text ends, where it gives an answer.
abbrev pub LawfulEndsLawful : Type 0
LawfulEndsLawful = (text : List ℕ) (ending : Ending) → IsChecked (lines_of text) Lawful → Ends text ending → ending ≡ endings.Lawful

-- links whose names are in their ranges, each of them once
abbrev pub AreEachOnce : List Link → Type 0
AreEachOnce [] = Unit {0}
AreEachOnce (link ∷ links) = IsNamed link × AllByRecursion (λ other. same_link link other ≡ false) links × AreEachOnce links

-- each row at the prefix can be printed
abbrev pub HasPrintable : Printing → AddressPrefix → Links Value → Type 0
HasPrintable printing p links = (link : Link) (rows : Rows Value) (value : Value) → links link ≡ Some rows → rows p ≡ Some value → IsPrintable printing value

-- Messages at one prefix down a way can be printed, where the rows before and after them can.
abbrev pub FallsArePrinted : Type 0
FallsArePrinted =
    (printing : Printing) (p : AddressPrefix) (way : List Link) (entries : List (Entry Value)) (old new : Links Value) → IsPrefixOf printing.v6 p → AreEachOnce way → IsWhole p way entries ⊎ IsCut p way entries
    → Leads old entries new → HasPrintable printing p old → HasPrintable printing p new → AllByRecursion (λ e. IsPrinted printing (Journal e)) entries

-- So can the entry of a change of rows that can.
abbrev pub ChangesArePrinted : Type 0
ChangesArePrinted =
    (printing : Printing) (link : Link) (p : AddressPrefix) (before after : Option Value) → IsNamed link → IsPrefixOf printing.v6 p → IfSome before (IsPrintable printing) → IfSome after (IsPrintable printing)
    → AllByRecursion (λ e. IsPrinted printing (Journal e)) (change_entries link p before after)
