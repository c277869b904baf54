-- Whether an answer came with a subnet.
use Rattle.std.proofs.Common.{◌≡◌, true, ◌&&◌, refl, sym, ap, ◌∙◌, Option, Some, None}
use Rattle.std.specs.Ordering.{nat_cmp, ordering_then, is_eq}
use Rattle.std.specs.declared.cmp.Ordering.{Ordering}
use Rattle.std.specs.declared.cmp.Ordering.TheVariants.{Less, Equal, Greater}
use Rattle.std.specs.Cmp.{unsigned_tied}
use Rattle.addr4.specs.Prefixes.{AddressPrefix, prefix_cmp, same_prefix}
use Rattle.addr4.proofs.PrefixOrder.{one_prefix, itself}
use Rattle.nexthop_known.specs.Hops.{is_with}

pub both_equal : (o p : Ordering) → is_eq (ordering_then o p) ≡ (is_eq o && is_eq p)
both_equal Less p = refl
both_equal Equal p = refl
both_equal Greater p = refl

pub same_is : (s t : AddressPrefix) → is_eq (prefix_cmp s t) ≡ same_prefix s t
same_is s t = both_equal (nat_cmp s.address t.address) (nat_cmp s.length t.length) ∙ (λ i. unsigned_tied s.address t.address i && unsigned_tied s.length t.length i)

pub same_told : (s t : AddressPrefix) → same_prefix s t ≡ true → s ≡ t
same_told s t e = one_prefix s t (same_is s t ∙ e)

pub same_self : (s : AddressPrefix) → same_prefix s s ≡ true
same_self s = sym (same_is s s) ∙ itself s

pub with_told : (s : AddressPrefix) (came : Option AddressPrefix) → is_with s came ≡ true → came ≡ Some s
with_told s None e = absurd (cc)
with_told s (Some t) e = ap Some (same_told t s e)

pub with_itself : (s : AddressPrefix) → is_with s (Some s) ≡ true
with_itself s = same_self s
