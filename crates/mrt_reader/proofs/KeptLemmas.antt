-- The front of a body tells what the whole does.
use Rattle.std.proofs.Common.{◌≡◌, ℕ, zero, suc, ◌+◌, ◌-◌, ◌*◌, ◌^◌, ◌<◌, ◌≤◌, Bool, true, false, cond, not, ◌&&◌, eqb, ltb, leb, List, length, take, drop, get_or, refl, sym, ap, ◌∙◌, arith}
use Rattle.std.proofs.lemmas.List.{get_or-take, get_or-drop, take_all, length-drop}
use Rattle.std.proofs.lemmas.Bool.{leb-true, lt-ltb, le-ltb, eq-eqb, ne_eqb}
use Rattle.byteorder.specs.Endian.{big_from}
use Rattle.addr4.specs.Families.{in_front}
use Rattle.mrt_reader.specs.Records.{number_at}
use Rattle.mrt_reader.specs.Fields.{Told, Said, Message, NoMessage, Malformed, Unused, Session, width_of, start_of, interface_at, is_used, is_well_sized, sides_in, are_speakers, told_by_state, told_by_message, told_in, said_of_ipv4, said_in, state_subtype}

pub first_case : {A : Type 0} (b : Bool) (x y : A) → b ≡ true → x ≡ cond b x y
first_case true x y is = refl
first_case false x y is = absurd (cc)

pub second_case : {A : Type 0} (b : Bool) (x y z : A) → b ≡ false → z ≡ y → z ≡ cond b x y
second_case true x y z is e = absurd (cc)
second_case false x y z is e = e

big_kept : (n j : ℕ) (xs ys : List ℕ) → ((k : ℕ) → k < j + n → get_or xs k 0 ≡ get_or ys k 0) → big_from j n xs ≡ big_from j n ys
big_kept zero j xs ys same = refl
big_kept (suc n) j xs ys same =
    let here : get_or xs j 0 ≡ get_or ys j 0 = same j (omega arith) in
    let rest : big_from (suc j) n xs ≡ big_from (suc j) n ys = big_kept n (suc j) xs ys (λ k below. same k (omega (arith, below))) in
    λ i. here i * 256 ^ n + rest i

pub number_kept : (n i m : ℕ) (xs : List ℕ) → i + n ≤ m → number_at n i (take m xs) ≡ number_at n i xs
number_kept n i m xs fits =
    big_kept n 0 (drop i (take m xs)) (drop i xs) (λ k below. get_or-drop i (take m xs) k 0 ∙ (get_or-take m xs (i + k) 0 (omega (arith, fits, below)) ∙ sym (get_or-drop i xs k 0)))

start_small : (kind : ℕ) → start_of kind ≤ 4
start_small kind = by_test (eqb kind 17)
  where
    by_test : (b : Bool) → cond b 4 0 ≤ 4
    by_test true = omega arith
    by_test false = omega arith

width_small : (as4 : Bool) → width_of as4 ≤ 4
width_small true = omega arith
width_small false = omega arith

pub sides_kept : (as4 : Bool) (kind : ℕ) (xs : List ℕ) → sides_in as4 kind (take 4120 xs) ≡ sides_in as4 kind xs
sides_kept as4 kind xs =
    let s = start_small kind in
    let w = width_small as4 in
    let peer_as = number_kept (width_of as4) (start_of kind) 4120 xs (omega (arith, s, w)) in
    let local_as = number_kept (width_of as4) (start_of kind + width_of as4) 4120 xs (omega (arith, s, w)) in
    let peer = number_kept 4 (interface_at as4 kind + 4) 4120 xs (omega (arith, s, w)) in
    let local = number_kept 4 (interface_at as4 kind + 8) 4120 xs (omega (arith, s, w)) in
    λ i. record { peer_as = peer_as i; local_as = local_as i; peer = in_front (peer i); local = in_front (local i) }

-- ---- what is told

pub state_told : (as4 : Bool) (kind subtype : ℕ) (kept whole : List ℕ) (told : Told) → eqb subtype (state_subtype as4) ≡ true → kept ≡ take 4120 whole → told ≡ told_by_state (number_at 2 (interface_at as4 kind + 14) kept) → told ≡ told_in as4 kind subtype whole
state_told as4 kind subtype kept whole told is front e =
    let s = start_small kind in
    let w = width_small as4 in
    let here : number_at 2 (interface_at as4 kind + 14) kept ≡ number_at 2 (interface_at as4 kind + 14) whole =
    ap (number_at 2 (interface_at as4 kind + 14)) front ∙ number_kept 2 (interface_at as4 kind + 14) 4120 whole (omega (arith, s, w)) in
    e ∙ (ap told_by_state here ∙ first_case (eqb subtype (state_subtype as4)) _ _ is)

message_kept : (place n : ℕ) (kept whole : List ℕ) → place ≤ 24 → length whole ≡ n → kept ≡ take 4120 whole → (b : Bool) → leb (n - place) 4096 ≡ b → (a : Bool) → cond (a && b) (Message (drop place kept)) NoMessage ≡ cond (a && b) (Message (drop place whole)) NoMessage
message_kept place n kept whole early size front true few true =
    let less : n - place ≤ 4096 = leb-true _ _ few in
    ap (λ xs. Message (drop place xs)) (front ∙ take_all 4120 whole (omega (arith, less, size, early)))
message_kept place n kept whole early size front true few false = refl
message_kept place n kept whole early size front false few true = refl
message_kept place n kept whole early size front false few false = refl

pub message_told : (as4 : Bool) (kind subtype n : ℕ) (kept whole : List ℕ) (told : Told) → eqb subtype (state_subtype as4) ≡ false → length whole ≡ n → kept ≡ take 4120 whole → told ≡ cond (leb 1 (n - (interface_at as4 kind + 12)) && leb (n - (interface_at as4 kind + 12)) 4096) (Message (drop (interface_at as4 kind + 12) kept)) NoMessage → told ≡ told_in as4 kind subtype whole
message_told as4 kind subtype n kept whole told is size front e =
    let s = start_small kind in
    let w = width_small as4 in
    let place = interface_at as4 kind + 12 in
    let long : length (drop place whole) ≡ n - place = length-drop place whole ∙ ap (λ k. k - place) size in
    let same : told ≡ told_by_message (drop place whole) =
    e ∙ (message_kept place n kept whole (omega (arith, s, w)) size front (leb (n - place) 4096) refl (leb 1 (n - place))
    ∙ ap (λ k. cond (leb 1 k && leb k 4096) (Message (drop place whole)) NoMessage) (sym long)) in
    second_case (eqb subtype (state_subtype as4)) _ _ told is same

-- ---- what is said by the fields of IPv4

pub ipv4_malformed : (as4 : Bool) (kind subtype n : ℕ) (whole : List ℕ) → length whole ≡ n → is_well_sized as4 kind subtype n ≡ false → Malformed ≡ said_of_ipv4 as4 kind subtype whole
unfolding said_of_ipv4
ipv4_malformed as4 kind subtype n whole size wrong =
    first_case (not (is_well_sized as4 kind subtype (length whole))) _ _ (ap (λ k. not (is_well_sized as4 kind subtype k)) size ∙ ap not wrong)

pub ipv4_unused : (as4 : Bool) (kind subtype n : ℕ) (kept whole : List ℕ) → length whole ≡ n → kept ≡ take 4120 whole → is_well_sized as4 kind subtype n ≡ true → are_speakers (sides_in as4 kind kept) ≡ false → Unused ≡ said_of_ipv4 as4 kind subtype whole
unfolding said_of_ipv4
ipv4_unused as4 kind subtype n kept whole size front right strange =
    let same : sides_in as4 kind kept ≡ sides_in as4 kind whole = ap (sides_in as4 kind) front ∙ sides_kept as4 kind whole in
    second_case (not (is_well_sized as4 kind subtype (length whole))) _ _ Unused (ap (λ k. not (is_well_sized as4 kind subtype k)) size ∙ ap not right)
    (second_case (are_speakers (sides_in as4 kind whole)) _ _ Unused (ap are_speakers (sym same) ∙ strange) refl)

pub ipv4_session : (as4 : Bool) (kind subtype n : ℕ) (kept whole : List ℕ) (told : Told) → length whole ≡ n → kept ≡ take 4120 whole → is_well_sized as4 kind subtype n ≡ true → are_speakers (sides_in as4 kind kept) ≡ true → told ≡ told_in as4 kind subtype whole → Session (sides_in as4 kind kept) told ≡ said_of_ipv4 as4 kind subtype whole
unfolding said_of_ipv4
ipv4_session as4 kind subtype n kept whole told size front right fine e =
    let same : sides_in as4 kind kept ≡ sides_in as4 kind whole = ap (sides_in as4 kind) front ∙ sides_kept as4 kind whole in
    second_case (not (is_well_sized as4 kind subtype (length whole))) _ _ (Session (sides_in as4 kind kept) told) (ap (λ k. not (is_well_sized as4 kind subtype k)) size ∙ ap not right)
    ((λ i. Session (same i) (e i)) ∙ first_case (are_speakers (sides_in as4 kind whole)) _ _ (ap are_speakers (sym same) ∙ fine))

-- ---- what is said by the fields up to the AFI

pub body_unused : (as4 : Bool) (kind subtype : ℕ) (whole : List ℕ) → is_used as4 kind subtype ≡ false → Unused ≡ said_in as4 kind subtype whole
unfolding said_in
body_unused as4 kind subtype whole other = first_case (not (is_used as4 kind subtype)) _ _ (ap not other)

pub body_malformed : (as4 : Bool) (kind subtype n : ℕ) (whole : List ℕ) → length whole ≡ n → is_used as4 kind subtype ≡ true → n < interface_at as4 kind + 4 → Malformed ≡ said_in as4 kind subtype whole
unfolding said_in
body_malformed as4 kind subtype n whole size used short =
    second_case (not (is_used as4 kind subtype)) _ _ Malformed (ap not used)
    (first_case (ltb (length whole) (interface_at as4 kind + 4)) _ _ (lt-ltb _ _ (omega (arith, size, short))))

afi_kept : (as4 : Bool) (kind : ℕ) (kept whole : List ℕ) → kept ≡ take 4120 whole → number_at 2 (interface_at as4 kind + 2) kept ≡ number_at 2 (interface_at as4 kind + 2) whole
afi_kept as4 kind kept whole front =
    let s = start_small kind in
    let w = width_small as4 in
    ap (number_at 2 (interface_at as4 kind + 2)) front ∙ number_kept 2 (interface_at as4 kind + 2) 4120 whole (omega (arith, s, w))

pub body_foreign : (as4 : Bool) (kind subtype n : ℕ) (kept whole : List ℕ) → length whole ≡ n → kept ≡ take 4120 whole → is_used as4 kind subtype ≡ true → interface_at as4 kind + 4 ≤ n → (number_at 2 (interface_at as4 kind + 2) kept ≡ 1 → ⊥) → Unused ≡ said_in as4 kind subtype whole
unfolding said_in
body_foreign as4 kind subtype n kept whole size front used long other =
    second_case (not (is_used as4 kind subtype)) _ _ Unused (ap not used)
    (second_case (ltb (length whole) (interface_at as4 kind + 4)) _ _ Unused (le-ltb _ _ (omega (arith, size, long)))
    (second_case (eqb (number_at 2 (interface_at as4 kind + 2) whole) 1) _ _ Unused (ne_eqb _ _ (λ e. other (afi_kept as4 kind kept whole front ∙ e))) refl))

pub body_ipv4 : (as4 : Bool) (kind subtype n : ℕ) (kept whole : List ℕ) (said : Said) → length whole ≡ n → kept ≡ take 4120 whole → is_used as4 kind subtype ≡ true → interface_at as4 kind + 4 ≤ n → number_at 2 (interface_at as4 kind + 2) kept ≡ 1 → said ≡ said_of_ipv4 as4 kind subtype whole → said ≡ said_in as4 kind subtype whole
unfolding said_in
body_ipv4 as4 kind subtype n kept whole said size front used long ipv4 e =
    second_case (not (is_used as4 kind subtype)) _ _ said (ap not used)
    (second_case (ltb (length whole) (interface_at as4 kind + 4)) _ _ said (le-ltb _ _ (omega (arith, size, long)))
    (e ∙ first_case (eqb (number_at 2 (interface_at as4 kind + 2) whole) 1) _ _ (eq-eqb _ _ (sym (afi_kept as4 kind kept whole front) ∙ ipv4))))
