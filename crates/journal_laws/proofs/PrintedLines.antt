-- Lines that can be printed, beside those of falls.
use Rattle.std.proofs.Common.{◌≡◌, ℕ, ◌≤◌, List, [], ◌∷◌, map, length, Option, Some, None, refl, sym, subst, arith}
use Rattle.std.specs.List.{AllByRecursion}
use Rattle.addr4.specs.Families.{IsPrefixOf}
use Rattle.addr4.specs.Prefixes.{AddressPrefix}
use Rattle.link_change.specs.Rows.{Rows}
use Rattle.journal_text.specs.Names.{IsNamed, IsNameNumber}
use Rattle.journal_text.specs.declared.entry.Entry.TheVariants as entries
use Rattle.journal_text.specs.Lines.{Line}
use Rattle.journal_text.specs.declared.line.Line.TheVariants as lines
use Rattle.journal_text.specs.declared.link.Link.{Link}
use Rattle.journal_text.specs.Lines.{Value}
use Rattle.journal_check.specs.Laws.{AreOctets, IsLine}
use Rattle.journal_laws.specs.Printed.{Printing, HasShortText, IsTold, IsPrintable, IsPrinted, values_in, octets_in}

module _ (printing : Printing) where
  -- one without values and octets
  pub plain_printed : (line : Line) → values_in line ≡ [] → octets_in line ≡ [] → IsLine printing.v6 line → IsPrinted printing line
  plain_printed line none empty ranges = record {
    short = record {
      ranges = ranges;
      values = subst (λ (vs : List Value). AllByRecursion (HasShortText printing.v6) vs) (sym none) tt;
      octets = subst (λ (octets : List ℕ). length octets ≤ 4096) (sym empty) (omega arith);
    };
    told = subst (λ (vs : List Value). AllByRecursion (IsTold printing) vs) (sym none) tt;
  }

  pub note_printed : (k : ℕ) (octets : List ℕ) → IsNameNumber k → AreOctets octets → length octets ≤ 4096 → IsPrinted printing (lines.Note k octets)
  note_printed k octets named each few = record { short = record { ranges = (named.1, each); values = tt; octets = few }; told = tt }

  -- rows, and answers of lookups
  module _ (link : Link) (rows : Rows Value) (named : IsNamed link) (prints : (p : AddressPrefix) (v : Value) → rows p ≡ Some v → IsPrefixOf printing.v6 p × IsPrintable printing v) where
    pub answer_printed : (p : AddressPrefix) → IsPrefixOf printing.v6 p → IsPrinted printing (lines.Journal (entries.Asked link p (rows p)))
    answer_printed p prefix = by_row (rows p) refl
      where
        by_row : (o : Option Value) → rows p ≡ o → IsPrinted printing (lines.Journal (entries.Asked link p o))
        by_row None is = plain_printed (lines.Journal (entries.Asked link p None)) refl refl (named, prefix, tt)
        by_row (Some v) is =
            let own = (prints p v is).1 in
            record { short = record { ranges = (named, prefix, own.well_told.ranges); values = (own.short, tt); octets = omega arith }; told = (own.well_told.told, tt) }

    pub rows_printed : (listed : List (AddressPrefix × Value)) → AllByRecursion (λ r. rows r.0 ≡ Some r.1) listed → AllByRecursion (IsPrinted printing) (map (λ r. lines.Row link r.0 r.1) listed)
    rows_printed [] each = tt
    rows_printed (r ∷ rs) each =
        let own = prints r.0 r.1 each.0 in
        let is = own.1 in (
          record { short = record { ranges = (named, own.0, is.well_told.ranges); values = (is.short, tt); octets = omega arith }; told = (is.well_told.told, tt) },
          rows_printed rs each.1,
        )
