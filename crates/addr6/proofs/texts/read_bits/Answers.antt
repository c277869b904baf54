use Rattle.std.proofs.Common.{◌≡◌, ℕ, Option, None, Some, ◌∙◌, sym, ap, true≢false, refl}
use Rattle.std.specs.Net.Addr.{ipv6_bits, ipv6_segments}
use Rattle.addr4.specs.Texts.{addr6_of}
use Rattle.addr6.proofs.AddrLemmas.{told, spelled, eight_groups, bits_same}
use Rattle.addr6.proofs.texts.read_bits.Goals as goal

none : (o : Option ℕ) → ((n : ℕ) → o ≡ Some n → ⊥) → None ≡ o
none None never = refl
none (Some n) never = absurd (never n refl)

pub returns-then-not-has_no_dot : goal.returns-then-not-has_no_dot
returns-then-not-has_no_dot c = none (addr6_of c.args.text.now) λ n is. true≢false (sym (spelled c.args.text.now n is).1 ∙ sym c.has_no_dot.ensures ∙ c.if-not-has_no_dot.true)

pub returns-in-Ok : goal.returns-in-Ok
unfolding ipv6_bits
returns-in-Ok c =
    let groups = ipv6_segments c.in-Ok.address in
    let eight = eight_groups c.args.text.now groups c.in-Ok.ensures in
    ap Some (c.to_bits.ensures ∙ bits_same groups eight) ∙ sym (told c.args.text.now groups (sym c.has_no_dot.ensures ∙ c.if-not-has_no_dot.false) c.in-Ok.ensures)

pub returns-in-Err : goal.returns-in-Err
returns-in-Err c = none (addr6_of c.args.text.now) λ n is. let s = spelled c.args.text.now n is in c.in-Err.ensures (record { segments = s.0 }) s.2
