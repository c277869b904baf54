-- A path with an AS put in front is still one that can be sent.
use Rattle.std.proofs.Common.{◌≡◌, ℕ, zero, suc, ◌^◌, ◌<◌, Bool, true, false, cond, ltb, List, [], ◌∷◌, length, refl, ◌∙◌, arith}
use Rattle.std.specs.Prelude.{All}
use Rattle.std.proofs.lemmas.Bool.{ltb-true}
use Rattle.bgp_attr.specs.Attributes.{Attrs}
use Rattle.bgp_attr.specs.declared.path.Segment.{Segment}
use Rattle.bgp_attr.specs.declared.path.SegmentKind.{SegmentKind}
use Rattle.bgp_attr.specs.declared.path.SegmentKind.TheVariants.{Set, Sequence}
use Rattle.bgp_attr.specs.declared.speaker.Profile.{Profile}
use Rattle.bgp_attr.specs.Paths.{takes_one_more, in_front, times_in_front}
use Rattle.bgp_wire.specs.Paths.{width_of}
use Rattle.bgp_wire.specs.Spelling.{FitsWidth, FitsSegment, FitsAttrs}
use Rattle.bgp_wire.specs.Readable.{IsReadableSegment, IsReadable}
use Rattle.bgp_wire.proofs.ReadableLaws.{Every, every_all, all_every}

alone : (as4 : Bool) (asn : ℕ) → asn < 256 ^ width_of as4 → IsReadableSegment as4 (record { kind = Sequence; numbers = asn ∷ [] })
alone as4 asn fits = record { some = omega arith; few = omega arith; numbers = every_all (λ n. n < 256 ^ width_of as4) (asn ∷ []) (fits, tt) }

every_in_front : (as4 : Bool) (asn : ℕ) (path : List Segment) → asn < 256 ^ width_of as4 → Every (IsReadableSegment as4) path → Every (IsReadableSegment as4) (in_front asn path)
every_in_front as4 asn [] fits every = (alone as4 asn fits, tt)
every_in_front as4 asn (s ∷ ss) fits every = by_room (takes_one_more s.kind s.numbers) (room s.kind)
  where
    below : (b : Bool) → ltb (length s.numbers) 255 ≡ b → b ≡ true → length s.numbers < 255
    below b is e = ltb-true _ _ (is ∙ e)

    room : (kind : SegmentKind) → takes_one_more kind s.numbers ≡ true → length s.numbers < 255
    room Set e = absurd (cc)
    room Sequence e = ltb-true _ _ e

    by_room : (b : Bool) → (b ≡ true → length s.numbers < 255)
        → Every (IsReadableSegment as4) (cond b (record { kind = Sequence; numbers = asn ∷ s.numbers } ∷ ss) (record { kind = Sequence; numbers = asn ∷ [] } ∷ s ∷ ss))
    by_room true has = (
      record { some = omega arith; few = omega (arith, has refl); numbers = every_all (λ n. n < 256 ^ width_of as4) (asn ∷ s.numbers) (fits, all_every (λ n. n < 256 ^ width_of as4) s.numbers every.0.numbers) },
      every.1,
    )
    by_room false has = (alone as4 asn fits, every)

every_times : (as4 : Bool) (n asn : ℕ) (path : List Segment) → asn < 256 ^ width_of as4 → Every (IsReadableSegment as4) path → Every (IsReadableSegment as4) (times_in_front n asn path)
every_times as4 zero asn path fits every = every
every_times as4 (suc n) asn path fits every = every_in_front as4 asn (times_in_front n asn path) fits (every_times as4 n asn path fits every)

pub prepended_is_readable : (as4 : Bool) (n asn : ℕ) (path : List Segment) → asn < 256 ^ width_of as4 → All (IsReadableSegment as4) path → All (IsReadableSegment as4) (times_in_front n asn path)
prepended_is_readable as4 n asn path fits all = every_all (IsReadableSegment as4) (times_in_front n asn path) (every_times as4 n asn path fits (all_every (IsReadableSegment as4) path all))

-- ---- what is readable can be written

two_octets : (as4 : Bool) (n : ℕ) → n < 256 ^ width_of as4 → FitsWidth as4 n
two_octets true n lt e = absurd (cc)
two_octets false n lt e = omega arith

pub segment_fits : (as4 : Bool) (s : Segment) → IsReadableSegment as4 s → FitsSegment as4 s
segment_fits as4 s is = record { some = is.some; few = is.few; numbers = λ k d lt. two_octets as4 _ (is.numbers k d lt) }

pub readable_fits : (v6 : Bool) (p : Profile) (external : Bool) (a : Attrs) → IsReadable v6 p external a → FitsAttrs p.as4 a
readable_fits v6 p external a is = record { path = λ k d lt. segment_fits p.as4 _ (is.path k d lt); aggregator = λ g e. two_octets p.as4 g.asn (is.aggregator g e).0 }
