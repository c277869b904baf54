-- What an AS that was put in front leads.
use Rattle.std.specs.Prelude.{ℕ, List, ◌∷◌}
use Rattle.bgp_attr.specs.declared.path.SegmentKind.TheVariants.{Sequence}
use Rattle.bgp_attr.specs.declared.path.Segment.{Segment}

-- an AS_SEQUENCE of the AS and the numbers behind it, and the segments behind that
abbrev pub path_led_by : ℕ → List ℕ → List Segment → List Segment
path_led_by asn numbers segments = record { kind = Sequence; numbers = asn ∷ numbers } ∷ segments
