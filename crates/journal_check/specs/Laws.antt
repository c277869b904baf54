-- Laws of the judge: printed lines are read back, and there is one answer.
use Rattle.std.specs.Prelude.{◌≡◌, ℕ, ◌^◌, ◌<◌, ◌≤◌, Bool, true, List, [], ◌∷◌, ◌++◌, length, Option, Some, None, option_map}
use Rattle.std.specs.List.{AllByRecursion}
use Rattle.addr4.specs.Families.{IsAddress, IsPrefixOf}
use Rattle.addr4.specs.Prefixes.{AddressPrefix}
use Rattle.bgp_attr.specs.declared.path.Segment.{Segment}
use Rattle.bgp_attr.specs.declared.attrs.Aggregator.{Aggregator}
use Rattle.bgp_attr.specs.declared.unrecognized.Unrecognized.{Unrecognized}
use Rattle.bgp_attr.specs.Attributes.{Attrs}
use Rattle.bgp_attr.specs.Routes.{Route}
use Rattle.rib_route.specs.Ifaces.{is_iface_name}
use Rattle.journal_text.specs.Names.{IsNamed, IsNamedTask}
use Rattle.journal_text.specs.Texts.{sender_number, value_text, line_text}
use Rattle.journal_text.specs.declared.link.Task.{Task}
use Rattle.journal_text.specs.Lines.{Value}
use Rattle.journal_text.specs.declared.value.Value.TheVariants as values
use Rattle.journal_text.specs.Lines.{Entry}
use Rattle.journal_text.specs.declared.entry.Entry.TheVariants.{Begin, Inherit, Add, Delete, Replace, Asked, Weld, End}
use Rattle.journal_text.specs.Lines.{Line}
use Rattle.journal_text.specs.declared.line.Line.TheVariants.{Journal, Out, Note, Row, Rows, Cover, Settled, Work, Bound, Idle, Ignored, Absent, Refused}
use Rattle.journal_check.specs.Entries.{TextEntry}
use Rattle.journal_check.specs.Readings.{reading_of}
use Rattle.journal_check.specs.Judged.{IsChecked}
use Rattle.journal_check.specs.declared.checked.Checked.{Checked}
use Rattle.journal_check.specs.declared.reading.Reading.{Reading}
use Rattle.journal_check.specs.declared.reading.Reading.TheVariants.{Skipped, Read}

-- ---- values that the program can have: numbers and octets in their ranges

abbrev pub AreOctets : List ℕ → Type 0
AreOctets octets = AllByRecursion (λ b. b < 2 ^ 8) octets

abbrev pub IsNumberIfAny : Option ℕ → Type 0
IsNumberIfAny None = Unit {0}
IsNumberIfAny (Some n) = n < 2 ^ 32

abbrev pub HasNumbers : Segment → Type 0
HasNumbers s = AllByRecursion (λ n. n < 2 ^ 32) s.numbers

abbrev pub HasNumber : Option Aggregator → Type 0
HasNumber None = Unit {0}
HasNumber (Some g) = g.asn < 2 ^ 32

abbrev pub HasOctets : Unrecognized → Type 0
HasOctets u = (u.kind < 2 ^ 8) × AreOctets u.value

pub record HasRanges (a : Attrs) : Type 0 where
  pub path : AllByRecursion HasNumbers a.path
  pub med : IsNumberIfAny a.med
  pub local_pref : IsNumberIfAny a.local_pref
  pub aggregator : HasNumber a.aggregator
  pub unrecognized : AllByRecursion HasOctets a.unrecognized

pub record HasRouteRanges (r : Route) : Type 0 where
  pub attrs : HasRanges r.attrs
  pub pref : r.pref < 2 ^ 32
  pub med : IsNumberIfAny r.med
  pub prepend : r.prepend < 2 ^ 8
  pub igp : IsNumberIfAny r.igp
  pub from : sender_number r.from < 2 ^ 8

abbrev pub IsValue : Value → Type 0
IsValue (values.Attrs a) = HasRanges a
IsValue (values.Route r) = HasRouteRanges r
IsValue (values.Interior r) = (is_iface_name r.iface ≡ true) × (r.metric < 2 ^ 32)
IsValue (values.External r) = Unit {0}
IsValue (values.FibRow r) = is_iface_name r.iface ≡ true

abbrev pub IsAnswer : Option Value → Type 0
IsAnswer None = Unit {0}
IsAnswer (Some value) = IsValue value

-- an entry of a family that the program can print
abbrev pub IsEntry : Bool → Entry Value → Type 0
IsEntry v6 (Begin link) = IsNamed link
IsEntry v6 (Inherit link from) = IsNamed link × IsNamed from
IsEntry v6 (Add link p new) = IsNamed link × IsPrefixOf v6 p × IsValue new
IsEntry v6 (Delete link p old) = IsNamed link × IsPrefixOf v6 p × IsValue old
IsEntry v6 (Replace link p old new) = IsNamed link × IsPrefixOf v6 p × IsValue old × IsValue new
IsEntry v6 (Asked link p row) = IsNamed link × IsPrefixOf v6 p × IsAnswer row
IsEntry v6 (Weld upper lower) = IsNamed upper × IsNamed lower
IsEntry v6 (End link) = IsNamed link

abbrev pub IsMatch : Bool → Option AddressPrefix → Type 0
IsMatch v6 None = Unit {0}
IsMatch v6 (Some p) = IsPrefixOf v6 p

abbrev pub IsNamedIfAny : Option Task → Type 0
IsNamedIfAny None = Unit {0}
IsNamedIfAny (Some task) = IsNamedTask task

-- a line of a family that the program can print
abbrev pub IsLine : Bool → Line → Type 0
IsLine v6 (Journal entry) = IsEntry v6 entry
IsLine v6 (Out k octets) = (k < 2 ^ 32) × AreOctets octets
IsLine v6 (Note k octets) = (k < 2 ^ 32) × AreOctets octets
IsLine v6 (Row link p value) = IsNamed link × IsPrefixOf v6 p × IsValue value
IsLine v6 (Rows link count) = IsNamed link × (count < 2 ^ 128)
IsLine v6 (Cover addr found subnet) = IsAddress v6 addr × IsMatch v6 found × IsPrefixOf v6 subnet
IsLine v6 (Settled p held) = IsPrefixOf v6 p × IsNamedIfAny held
IsLine v6 (Work turns) = turns < 2 ^ 128
IsLine v6 (Bound turns) = turns < 2 ^ 128
IsLine v6 (Idle turns) = turns < 2 ^ 128
IsLine v6 Ignored = Unit {0}
IsLine v6 Absent = Unit {0}
IsLine v6 (Refused number code) = number < 2 ^ 64

-- ---- what is read

-- the entry of a family, with a text in the place of each value
abbrev pub texts_of : Bool → Entry Value → TextEntry
texts_of v6 (Begin link) = Begin link
texts_of v6 (Inherit link from) = Inherit link from
texts_of v6 (Add link p new) = Add link p (value_text v6 new)
texts_of v6 (Delete link p old) = Delete link p (value_text v6 old)
texts_of v6 (Replace link p old new) = Replace link p (value_text v6 old) (value_text v6 new)
texts_of v6 (Asked link p row) = Asked link p (option_map (value_text v6) row)
texts_of v6 (Weld upper lower) = Weld upper lower
texts_of v6 (End link) = End link

-- what a printed line of a family says of links
abbrev pub said : Bool → Line → Reading
said v6 (Journal entry) = Read (record { v6 = v6; entry = texts_of v6 entry })
said v6 other = Skipped

-- A line of a family that the program prints, of at most 65,536 bytes without its LF, is read as what it says.
abbrev pub PrintedLinesAreReadBack : Type 0
PrintedLinesAreReadBack = (v6 : Bool) (line : Line) (text : List ℕ) → IsLine v6 line → line_text v6 line ≡ text ++ 10 ∷ [] → length text ≤ 65536 → reading_of text ≡ said v6 line

-- One thing alone is to be said of the lines of a journal.
abbrev pub OneAnswer : Type 0
OneAnswer = (lines : List (List ℕ)) (a b : Checked) → IsChecked lines a → IsChecked lines b → a ≡ b
