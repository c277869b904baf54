use Rattle.std.proofs.Common.{◌≡◌, ℕ, suc, ◌+◌, ◌↔◌}
use Rattle.bgp_attr.specs.Paths.{times_in_front}
use Rattle.bgp_attr.specs.Fronts.{path_led_by}
use Rattle.bgp_attr.proofs.fronted.Behind.is_in_front.Given as goal

abbrev pub invariant-loop-turn : goal.invariant-loop-turn
invariant-loop-turn l =
    (left : ℕ) → l.turn + left ≡ l.more →
    (path_led_by l.asn l.fn.self.numbers.now l.fn.self.segments ≡ times_in_front (l.more + 1) l.asn l.path) ↔
    (path_led_by l.asn l.behind.numbers.now l.behind.segments ≡ times_in_front (suc left) l.asn l.path)
