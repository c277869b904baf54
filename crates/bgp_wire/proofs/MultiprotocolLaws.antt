-- MP_REACH_NLRI and MP_UNREACH_NLRI: what is read is in the grammar, and what is in the grammar is read.
use Rattle.std.proofs.Common.{◌≡◌, ◌⊎◌, ℕ, ◌+◌, ◌<◌, ◌≤◌, Bool, true, false, cond, eqb, ltb, not, ◌||◌, ◌&&◌, List, [], ◌∷◌, ◌++◌, length, take, drop, get_or, Option, Some, None, Result, Ok, Err, refl, sym, ap, subst, ◌∙◌, inl, inr, arith}
use Rattle.std.proofs.lemmas.List.{length-append, length-take, take-append-drop, take_at, drop_at, drop_more, drop-drop}
use Rattle.std.proofs.lemmas.Bool.{eqb-true, eq-eqb, ltb-false, le-ltb}
use Rattle.byteorder.specs.Endian.{big_number}
use Rattle.byteorder.specs.Numbers.{big_from-take}
use Rattle.addr4.specs.Hosts.{is_host}
use Rattle.addr4.specs.Prefixes.{AddressPrefix}
use Rattle.bgp_wire.specs.declared.multiprotocol.Reach.{Reach}
use Rattle.bgp_wire.specs.declared.notice.Notice.{Notice}
use Rattle.bgp_wire.specs.Faults.{◌>>=◌}
use Rattle.bgp_wire.specs.Prefixes.{prefixes_at}
use Rattle.bgp_wire.specs.Attributes.{Attribute}
use Rattle.bgp_wire.specs.Multiprotocol.{HopLength, IsReach, IsUnreach, IsOther, if_ipv6, is_hop_length, reach_behind, reach_at, unreach_at}
use Rattle.bgp_wire.specs.Routes.{Says}
use Rattle.bgp_wire.proofs.TestLemmas.{and_left, and_right, not_false, or_false_left, or_false_right}
use Rattle.bgp_wire.proofs.ResultLemmas.{bind_ok, same_ok, guard_ok, not_both}
use Rattle.bgp_wire.proofs.PrefixLaws.{prefixes_take, prefixes_again}

-- how what stands behind the families is read, and what it is
pub record ReadsBehind {A : Type 0} (read : List ℕ → Result A Notice) (Is : List ℕ → A → Type 0) : Type 0 where
  pub takes : (rest : List ℕ) (x : A) → read rest ≡ Ok x → Is (0 ∷ 2 ∷ 1 ∷ rest) x
  pub again : (value : List ℕ) (x : A) → Is value x → (rest : List ℕ) × (value ≡ 0 ∷ 2 ∷ 1 ∷ rest) × (read rest ≡ Ok x)

families : (high low subsequent : ℕ) (rest : List ℕ) → (eqb high 0 && (eqb low 2 && eqb subsequent 1)) ≡ true → high ∷ low ∷ subsequent ∷ rest ≡ 0 ∷ 2 ∷ 1 ∷ rest
families high low subsequent rest e =
    let later = and_right (eqb high 0) (eqb low 2 && eqb subsequent 1) e in
    let a = eqb-true _ _ (and_left (eqb high 0) (eqb low 2 && eqb subsequent 1) e) in
    let b = eqb-true _ _ (and_left (eqb low 2) (eqb subsequent 1) later) in
    let c = eqb-true _ _ (and_right (eqb low 2) (eqb subsequent 1) later) in
    λ i. a i ∷ b i ∷ c i ∷ rest

other : (high low subsequent : ℕ) (rest : List ℕ) → (eqb high 0 && (eqb low 2 && eqb subsequent 1)) ≡ false → IsOther (high ∷ low ∷ subsequent ∷ rest)
other high low subsequent rest e behind is =
    let a : high ≡ 0 = cc in
    let b : low ≡ 2 = cc in
    let c : subsequent ≡ 1 = cc in
    never (sym e ∙ (λ i. eqb (a i) 0 && (eqb (b i) 2 && eqb (c i) 1)))
  where
    never : false ≡ true → ⊥
    never e = absurd (cc)

-- what was read is said
pub says_takes : {A : Type 0} (bad : Notice) (read : List ℕ → Result A Notice) (Is : List ℕ → A → Type 0) → ReadsBehind read Is → (a : Attribute) (o : Option A) → if_ipv6 bad read a.value ≡ Ok o → Says Is (Some a) o
unfolding if_ipv6
says_takes {A = A} bad read Is back a o e = by_value a.value refl
  where
    by_test : (high low subsequent : ℕ) (rest : List ℕ) (b : Bool) → (eqb high 0 && (eqb low 2 && eqb subsequent 1)) ≡ b → a.value ≡ high ∷ low ∷ subsequent ∷ rest → cond b (read rest >>= λ x. Ok (Some x)) (Ok None) ≡ Ok o → Says Is (Some a) o
    by_test high low subsequent rest true t is e =
        let x = bind_ok (read rest) (λ x. Ok (Some x)) o e in
        let whole : a.value ≡ 0 ∷ 2 ∷ 1 ∷ rest = is ∙ families high low subsequent rest t in
        subst (Says Is (Some a)) (same_ok (Some x.0) o x.2) (subst (λ v. Is v x.0) (sym whole) (back.takes rest x.0 x.1))
    by_test high low subsequent rest false t is e = subst (Says Is (Some a)) (same_ok None o e) (subst IsOther (sym is) (other high low subsequent rest t))

    by_value : (value : List ℕ) → a.value ≡ value → Says Is (Some a) o
    by_value [] is = absurd (not_both bad o (sym (ap (if_ipv6 bad read) is) ∙ e))
    by_value (high ∷ []) is = absurd (not_both bad o (sym (ap (if_ipv6 bad read) is) ∙ e))
    by_value (high ∷ low ∷ []) is = absurd (not_both bad o (sym (ap (if_ipv6 bad read) is) ∙ e))
    by_value (high ∷ low ∷ subsequent ∷ rest) is = by_test high low subsequent rest _ refl is (sym (ap (if_ipv6 bad read) is) ∙ e)

-- what is in the grammar is read
pub reads_again : {A : Type 0} (bad : Notice) (read : List ℕ → Result A Notice) (Is : List ℕ → A → Type 0) → ReadsBehind read Is → (value : List ℕ) (x : A) → Is value x → if_ipv6 bad read value ≡ Ok (Some x)
unfolding if_ipv6
reads_again bad read Is back value x is =
    let rest = back.again value x is in
    ap (if_ipv6 bad read) rest.1 ∙ ap (λ r. r >>= λ x. Ok (Some x)) rest.2

-- and nothing else is
pub says_same : {A : Type 0} (bad : Notice) (read : List ℕ → Result A Notice) (Is : List ℕ → A → Type 0) → ReadsBehind read Is → (a : Attribute) (o x : Option A) → if_ipv6 bad read a.value ≡ Ok o → Says Is (Some a) x → o ≡ x
unfolding if_ipv6
says_same bad read Is back a o (Some x) e says = same_ok o (Some x) (sym e ∙ reads_again bad read Is back a.value x says)
says_same {A = A} bad read Is back a o None e says = by_value a.value refl
  where
    by_test : (high low subsequent : ℕ) (rest : List ℕ) (b : Bool) → (eqb high 0 && (eqb low 2 && eqb subsequent 1)) ≡ b → a.value ≡ high ∷ low ∷ subsequent ∷ rest → cond b (read rest >>= λ x. Ok (Some x)) (Ok None) ≡ Ok o → o ≡ None
    by_test high low subsequent rest true t is e = absurd (says rest (is ∙ families high low subsequent rest t))
    by_test high low subsequent rest false t is e = same_ok o None (sym e)

    by_value : (value : List ℕ) → a.value ≡ value → o ≡ None
    by_value [] is = absurd (not_both bad o (sym (ap (if_ipv6 bad read) is) ∙ e))
    by_value (high ∷ []) is = absurd (not_both bad o (sym (ap (if_ipv6 bad read) is) ∙ e))
    by_value (high ∷ low ∷ []) is = absurd (not_both bad o (sym (ap (if_ipv6 bad read) is) ∙ e))
    by_value (high ∷ low ∷ subsequent ∷ rest) is = by_test high low subsequent rest _ refl is (sym (ap (if_ipv6 bad read) is) ∙ e)

-- ---- MP_UNREACH_NLRI
pub unreach_back : (bad : Notice) → ReadsBehind (prefixes_at true bad) IsUnreach
unreach_back bad = record {
  takes = λ rest x e. record { prefixes = rest; spelled = refl; withdraws = prefixes_take true bad rest x e };
  again = λ value x is. (is.prefixes, is.spelled, prefixes_again true bad is.prefixes x is.withdraws);
}

-- ---- MP_REACH_NLRI
hop_length : (n : ℕ) → is_hop_length n ≡ true → HopLength n
hop_length n e = by_test (eqb n 16) refl e
  where
    by_test : (b : Bool) → eqb n 16 ≡ b → (b || eqb n 32) ≡ true → HopLength n
    by_test true t e = inl (eqb-true _ _ t)
    by_test false t e = inr (eqb-true _ _ e)

hop_length_again : (n : ℕ) → HopLength n → is_hop_length n ≡ true
hop_length_again n is = elim is [
  | inl e ↦ ap is_hop_length e
  | inr e ↦ ap is_hop_length e
]

at_least : (n : ℕ) → HopLength n → 0 + 16 ≤ n
at_least n is = elim is [
  | inl e ↦ omega (arith, e)
  | inr e ↦ omega (arith, e)
]

reach_takes : (bad : Notice) (rest : List ℕ) (r : Reach) → reach_behind bad rest ≡ Ok r → IsReach (0 ∷ 2 ∷ 1 ∷ rest) r
unfolding reach_behind
reach_takes bad [] r e = absurd (not_both bad r e)
reach_takes bad (size ∷ rest) r e =
    let read : Result Reach Notice = prefixes_at true bad (drop (size + 1) rest) >>= λ announced. Ok (record { next_hop = big_number 16 rest; announced = announced }) in
    let a = guard_ok (not (is_hop_length size) || ltb (length rest) (size + 1)) bad (cond (not (is_host true (big_number 16 rest))) (Err bad) read) r e in
    let b = guard_ok (not (is_host true (big_number 16 rest))) bad read r a.1 in
    let x = bind_ok (prefixes_at true bad (drop (size + 1) rest)) (λ announced. Ok (record { next_hop = big_number 16 rest; announced = announced })) r b.1 in
    let long : size + 1 ≤ length rest = ltb-false _ _ (or_false_right (not (is_hop_length size)) (ltb (length rest) (size + 1)) a.0) in
    let hop_size = hop_length size (not_false _ (or_false_left (not (is_hop_length size)) (ltb (length rest) (size + 1)) a.0)) in
    let hop = take size rest in
    let whole : length hop ≡ size = omega (arith, length-take size rest) in
    let tail : drop size rest ≡ get_or rest size 0 ∷ drop (size + 1) rest = drop_more rest size 0 (omega arith) in
    let made : Reach = record { next_hop = big_number 16 rest; announced = x.0 } in
    subst (IsReach (0 ∷ 2 ∷ 1 ∷ size ∷ rest)) (same_ok made r x.2) (record {
      hop = hop;
      reserved = get_or rest size 0;
      prefixes = drop (size + 1) rest;
      spelled = λ i. 0 ∷ 2 ∷ 1 ∷ sym whole i ∷ (sym (take-append-drop size rest) ∙ ap (λ (os : List ℕ). hop ++ os) tail) i;
      size = subst HopLength (sym whole) hop_size;
      next_hop = sym (big_from-take 0 16 size rest (at_least size hop_size));
      host = not_false _ b.0;
      announces = prefixes_take true bad (drop (size + 1) rest) x.0 x.1;
    })

reach_again : (bad : Notice) (value : List ℕ) (r : Reach) → IsReach value r → (rest : List ℕ) × (value ≡ 0 ∷ 2 ∷ 1 ∷ rest) × (reach_behind bad rest ≡ Ok r)
unfolding reach_behind
reach_again bad value r is =
    let size = length is.hop in
    let rest = is.hop ++ is.reserved ∷ is.prefixes in
    let front : take size rest ≡ is.hop = take_at is.hop (is.reserved ∷ is.prefixes) size refl in
    let back : drop (size + 1) rest ≡ is.prefixes = sym (drop-drop 1 size rest) ∙ ap (drop 1) (drop_at is.hop (is.reserved ∷ is.prefixes) size refl) in
    let enough : ltb (length rest) (size + 1) ≡ false = le-ltb _ _ (omega (arith, length-append is.hop (is.reserved ∷ is.prefixes))) in
    let number : big_number 16 rest ≡ r.next_hop = sym (big_from-take 0 16 size rest (at_least size is.size)) ∙ ap (big_number 16) front ∙ sym is.next_hop in
    (size ∷ rest, is.spelled, rw (hop_length_again size is.size, enough, number, is.host, back, prefixes_again true bad is.prefixes r.announced is.announces) refl)

pub reach_back : (bad : Notice) → ReadsBehind (reach_behind bad) IsReach
reach_back bad = record { takes = reach_takes bad; again = reach_again bad }
