-- Prefixes: what is read is in the grammar, and what is in the grammar is read.
use Rattle.std.proofs.Common.{◌≡◌, ℕ, ◌<◌, Bool, false, cond, ltb, List, [], ◌∷◌, ◌++◌, length, take, drop, Ok, Err, refl, sym, ap, subst, ◌∙◌, ◌≤◌, ◌%◌, ◌-◌, ◌*◌, ◌^◌, ◌/◌, inl, inr, arith}
use Rattle.std.proofs.lemmas.List.{length-take, length-append, take-append-drop, take_at, drop_at}
use Rattle.std.proofs.lemmas.Bool.{ltb-false, le-ltb, cases_lt}
use Rattle.std.proofs.lemmas.Nat.{div-add-mod', mod_below}
use Rattle.addr4.specs.Blocks.{width, size_of_length, masked_to}
use Rattle.addr4.proofs.BlockLemmas.{apart, finer, masked_down, size_pos, size_splits, to_masked}
use Rattle.addr4.specs.Families.{bits_of}
use Rattle.addr4.specs.Prefixes.{AddressPrefix}
use Rattle.bgp_wire.specs.declared.notice.Notice.{Notice}
use Rattle.bgp_wire.specs.Prefixes.{octets_for, masked, IsPrefix, ArePrefixes, prefix_at, prefixes_at}
use Rattle.bgp_wire.proofs.ResultLemmas.{same_ok, guard_ok}
use Rattle.bgp_wire.proofs.ItemLaws.{items_take, items_again}

pub prefix_takes : (v6 : Bool) (bad : Notice) (bytes : List ℕ) (x : AddressPrefix × List ℕ) → prefix_at v6 bad bytes ≡ Ok x → (octets : List ℕ) × (bytes ≡ octets ++ x.1) × IsPrefix v6 octets x.0
unfolding prefix_at
prefix_takes v6 bad [] x e = absurd (cc)
prefix_takes v6 bad (bits ∷ rest) x e =
    let k = octets_for bits in
    let made : AddressPrefix × List ℕ = (masked (take k rest) bits, drop k rest) in
    let a = guard_ok (ltb (bits_of v6) bits) bad (cond (ltb (length rest) k) (Err bad) (Ok made)) x e in
    let b = guard_ok (ltb (length rest) k) bad (Ok made) x a.1 in
    let parts : rest ≡ take k rest ++ drop k rest = sym (take-append-drop k rest) in
    let whole : bits ∷ rest ≡ (bits ∷ take k rest) ++ made.1 = ap (λ (r : List ℕ). bits ∷ r) parts in
    subst (λ (y : AddressPrefix × List ℕ). (octets : List ℕ) × (bits ∷ rest ≡ octets ++ y.1) × IsPrefix v6 octets y.0) (same_ok made x b.1)
    (bits ∷ take k rest, whole, record { bits = take k rest; spelled = refl; short = ltb-false _ _ a.0; fewest = omega (arith, length-take k rest, ltb-false _ _ b.0); value = refl })

pub prefix_shortens : (v6 : Bool) (bad : Notice) (bytes : List ℕ) (x : AddressPrefix × List ℕ) → prefix_at v6 bad bytes ≡ Ok x → length x.1 < length bytes
prefix_shortens v6 bad bytes x e =
    let t = prefix_takes v6 bad bytes x e in
    omega (arith, ap length t.1, length-append t.0 x.1, ap length t.2.spelled)

pub prefix_again : (v6 : Bool) (bad : Notice) (octets rest : List ℕ) (p : AddressPrefix) → IsPrefix v6 octets p → (0 < length octets) × (prefix_at v6 bad (octets ++ rest) ≡ Ok (p, rest))
unfolding prefix_at
prefix_again v6 bad octets rest p is =
    let k = octets_for p.length in
    let short : ltb (bits_of v6) p.length ≡ false = le-ltb _ _ is.short in
    let enough : ltb (length (is.bits ++ rest)) k ≡ false = le-ltb _ _ (omega (arith, length-append is.bits rest, is.fewest)) in
    let front : take k (is.bits ++ rest) ≡ is.bits = take_at is.bits rest k is.fewest in
    let back : drop k (is.bits ++ rest) ≡ rest = drop_at is.bits rest k is.fewest in
    let read : prefix_at v6 bad (p.length ∷ (is.bits ++ rest)) ≡ Ok (p, rest) = rw (short, enough, front, back) (λ i. Ok (sym is.value i, rest)) in
    (omega (arith, ap length is.spelled), ap (λ (o : List ℕ). prefix_at v6 bad (o ++ rest)) is.spelled ∙ read)

pub prefixes_take : (v6 : Bool) (bad : Notice) (bytes : List ℕ) (ps : List AddressPrefix) → prefixes_at v6 bad bytes ≡ Ok ps → ArePrefixes v6 bytes ps
prefixes_take v6 bad bytes ps e = items_take (prefix_at v6 bad) (IsPrefix v6) bytes ps (prefix_shortens v6 bad) (prefix_takes v6 bad) e

pub prefixes_again : (v6 : Bool) (bad : Notice) (bytes : List ℕ) (ps : List AddressPrefix) → ArePrefixes v6 bytes ps → prefixes_at v6 bad bytes ≡ Ok ps
prefixes_again v6 bad bytes ps is = items_again (prefix_at v6 bad) (IsPrefix v6) bytes ps (prefix_shortens v6 bad) (prefix_again v6 bad) is

-- ---- masks

-- what is masked to more bits first is masked to fewer as it is
pub masked_once : (n i j : ℕ) → i ≤ j → j ≤ width → masked_to width (masked_to width n j) i ≡ masked_to width n i
masked_once n i j le top =
    let s = size_of_length width i in
    let t = size_of_length width j in
    let x = masked_to width n i in
    let m = masked_to width n j in
    let zeros : x % s ≡ 0 = masked_down n s (size_pos width i) in
    let fine : x % t ≡ 0 = finer (2 ^ (j - i)) t x (size_pos width j) (ap (λ y. x % y) (sym (size_splits width i j le top)) ∙ zeros) in
    let below = mod_below n s (size_pos width i) in
    let near = mod_below n t (size_pos width j) in
    let from : x ≤ m = elim (cases_lt m x) [
      | inl less ↦ let up = apart t m x (masked_down n t (size_pos width j)) fine less in absurd (omega (arith, up, near, div-add-mod' n s, div-add-mod' n t))
      | inr more ↦ more
    ] in
    to_masked s x m zeros from (omega (arith, below, div-add-mod' n s))
