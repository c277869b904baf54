-- The keys of links.
use Rattle.std.proofs.Common.{ℕ, ap}
use Rattle.std.specs.Ordering.{nat_cmp, ordering_then}
use Rattle.std.specs.declared.cmp.Ordering.{Ordering}
use Rattle.std.specs.Cmp.{IsTotalOrder, nat_cmp_total}
use Rattle.std.specs.FinMap.{IsAntisymmetric}
use Rattle.std.proofs.lemmas.Cmp.{on_total, then_total}
use Rattle.std.proofs.lemmas.Map.Lookups.{exact_pairs, exact_unsigned}
use Rattle.journal_check.specs.declared.links.Key.{Key}
use Rattle.journal_check.specs.Maps.{key_cmp}

pub keys_total : IsTotalOrder key_cmp
keys_total = then_total (on_total (λ (k : Key). k.kind) nat_cmp_total) (then_total (on_total (λ (k : Key). k.owner) nat_cmp_total) (on_total (λ (k : Key). k.number) nat_cmp_total))

abbrev pair_cmp : ℕ × ℕ → ℕ × ℕ → Ordering
pair_cmp a b = ordering_then (nat_cmp a.0 b.0) (nat_cmp a.1 b.1)

exact_numbers : IsAntisymmetric pair_cmp
exact_numbers = exact_pairs nat_cmp nat_cmp exact_unsigned exact_unsigned

pub exact_keys : IsAntisymmetric key_cmp
exact_keys a b h = ap (λ (k : ℕ × (ℕ × ℕ)). record { kind = k.0; owner = k.1.0; number = k.1.1 })
    (exact_pairs nat_cmp pair_cmp exact_unsigned exact_numbers (a.kind, (a.owner, a.number)) (b.kind, (b.owner, b.number)) h)
