-- Links by kind, owner and number.
use Rattle.std.proofs.Common.{◌≡◌, ℕ, ◌==◌, Bool, true, false, ◌&&◌, if◌then◌else◌, refl, sym, ap, ◌∙◌, arith}
use Rattle.std.proofs.lemmas.Bool.{eq-eqb}
use Rattle.std.proofs.lemmas.Bool.Decides.{nat_tests}
use Rattle.rib_route.specs.declared.Proto.{Proto}
use Rattle.rib_route.specs.declared.Proto.TheVariants.{Connected, Static, Ospf, Rip}
use Rattle.journal_text.specs.declared.link.Link.{Link}
use Rattle.journal_text.specs.declared.link.Link.TheVariants.{In, Peer, Filt, Res, Org, Lost, Low, Dyn, Int, Red, Best, ReadRib, Ebgp, Ibgp, Ext, Fib, Read, Outf, Adv}
use Rattle.journal_text.specs.Links.{proto_number, kind_of, owner_of, number_of, same_link}

abbrev pub proto_by : ℕ → Proto
proto_by n = if n == 0 then Connected else if n == 1 then Static else if n == 2 then Ospf else Rip

pub proto_back : (proto : Proto) → proto_by (proto_number proto) ≡ proto
proto_back Connected = refl
proto_back Static = refl
proto_back Ospf = refl
proto_back Rip = refl

abbrev shared_by : ℕ → Link
shared_by kind =
    if kind == 6 then Low else if kind == 7 then Dyn else if kind == 8 then Int else if kind == 9 then Red else if kind == 10 then Best
    else if kind == 11 then ReadRib else if kind == 12 then Ebgp else if kind == 13 then Ibgp else if kind == 14 then Ext else Fib

abbrev link_by : ℕ → ℕ → ℕ → Link
link_by kind owner number =
    if kind == 0 then In owner else if kind == 1 then Peer owner number else if kind == 2 then Filt owner else if kind == 3 then Res owner
    else if kind == 4 then Org (proto_by owner) else if kind == 5 then Lost (proto_by owner) number
    else if kind == 16 then Read owner number else if kind == 17 then Outf owner number else if kind == 18 then Adv owner number
    else shared_by kind

link_back : (a : Link) → link_by (kind_of a) (owner_of a) (number_of a) ≡ a
link_back (Org proto) = ap Org (proto_back proto)
link_back (Lost proto n) = ap (λ (p : Proto). Lost p n) (proto_back proto)
link_back other = refl

true_and : (p q r : Bool) → p ≡ true → q ≡ true → r ≡ true → (p && (q && r)) ≡ true
true_and p q r hp hq hr = cc

and_true : (p q r : Bool) → (p && (q && r)) ≡ true → (p ≡ true) × (q ≡ true) × (r ≡ true)
and_true true true true e = (refl, refl, refl)
and_true true true false e = cc
and_true true false r e = cc
and_true false q r e = cc

equal_by : (m n : ℕ) → (m == n) ≡ true → m ≡ n
equal_by m n e = grind (arith, nat_tests)

pub same_link-refl : (a : Link) → same_link a a ≡ true
same_link-refl a = true_and _ _ _ (eq-eqb (kind_of a) (kind_of a) refl) (eq-eqb (owner_of a) (owner_of a) refl) (eq-eqb (number_of a) (number_of a) refl)

pub same_link-yes : (a b : Link) → same_link a b ≡ true → a ≡ b
same_link-yes a b e =
    let parts = and_true (kind_of a == kind_of b) (owner_of a == owner_of b) (number_of a == number_of b) e in
    let kinds = equal_by (kind_of a) (kind_of b) parts.0 in
    let owners = equal_by (owner_of a) (owner_of b) parts.1 in
    let numbers = equal_by (number_of a) (number_of b) parts.2 in
    sym (link_back a) ∙ (λ i. link_by (kinds i) (owners i) (numbers i)) ∙ link_back b

pub same_link-no : (a b : Link) → (a ≡ b → ⊥) → same_link a b ≡ false
same_link-no a b apart = elim (same_link a b) as (λ v. same_link a b ≡ v → v ≡ false) [ true ↦ λ e. absurd (apart (same_link-yes a b e)) | false ↦ λ _. refl ] refl
