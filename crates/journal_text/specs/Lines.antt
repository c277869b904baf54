-- Values, entries and lines, whatever the family of their addresses.
use Rattle.std.specs.Prelude.{ℕ}
use Rattle.addr4.specs.Prefixes.{AddressPrefix}
use Rattle.bgp_attr.specs.Attributes.{Attrs}
use Rattle.journal_text.specs.declared.value.Value as values
use Rattle.journal_text.specs.declared.entry.Entry as entries
use Rattle.journal_text.specs.declared.line.Line as lines

abbrev pub Value : Type 0
Value = values.Value Attrs ℕ

abbrev pub Entry : Type 0 → Type 0
Entry V = entries.Entry V AddressPrefix

abbrev pub Line : Type 0
Line = lines.Line Attrs ℕ AddressPrefix
