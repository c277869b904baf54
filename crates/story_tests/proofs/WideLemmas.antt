-- Attributes that fit AS numbers of two octets fit those of four, too.
use Rattle.std.proofs.Common.{◌≡◌, ℕ, Bool, true, false, ◌||◌, refl}
use Rattle.std.proofs.lemmas.List.Elements.{All-weaker}
use Rattle.bgp_attr.specs.Attributes.{Attrs}
use Rattle.bgp_attr.specs.declared.path.Segment.{Segment}
use Rattle.bgp_wire.specs.Spelling.{FitsWidth, FitsSegment, FitsAttrs}

not_wide : (as4 wide : Bool) → (as4 || wide) ≡ false → as4 ≡ false
not_wide true wide e = absurd (let clash : true ≡ false = e in cc)
not_wide false wide e = refl

module _ (as4 wide : Bool) where
  wider : (n : ℕ) → FitsWidth as4 n → FitsWidth (as4 || wide) n
  wider n fits = λ narrow. fits (not_wide as4 wide narrow)

  wider_segment : (s : Segment) → FitsSegment as4 s → FitsSegment (as4 || wide) s
  wider_segment s fits = record { some = fits.some; few = fits.few; numbers = All-weaker (FitsWidth as4) (FitsWidth (as4 || wide)) wider s.numbers fits.numbers }

  pub wider_attrs : (a : Attrs) → FitsAttrs as4 a → FitsAttrs (as4 || wide) a
  wider_attrs a fits = record { path = All-weaker (FitsSegment as4) (FitsSegment (as4 || wide)) wider_segment a.path fits.path; aggregator = λ g at. wider g.asn (fits.aggregator g at) }
