-- Attributes are told by their text.
use Rattle.std.proofs.Common.{◌≡◌, ℕ, ◌^◌, ◌<◌, ◌&&◌, ◌||◌, Bool, true, false, cond, nat_eq, List, [], ◌∷◌, ◌++◌, Option, Some, None, refl, sym, ap, ◌∙◌, arith, append_assoc, codes}
use Rattle.std.proofs.lemmas.Bool.Decides.{nat_tests}
use Rattle.std.specs.Char.{is_ascii_digit}
use Rattle.std.specs.Fmt.{decimal}
use Rattle.std.specs.List.{flat_map}
use Rattle.addr4.specs.Texts.{addr_text, id_text}
use Rattle.bgp_attr.specs.declared.attrs.Origin.{Origin}
use Rattle.bgp_attr.specs.declared.attrs.Origin.TheVariants.{Igp, Egp, Incomplete}
use Rattle.bgp_attr.specs.declared.attrs.Aggregator.{Aggregator}
use Rattle.bgp_attr.specs.Attributes.{Attrs}
use Rattle.bgp_attr.specs.declared.unrecognized.Unrecognized.{Unrecognized}
use Rattle.journal_text.specs.Texts.{origin_number, path_text, lettered, aggregator_text, addresses_text, originator_text, clusters_text, reflection_text, unrecognized_text, required_text, optional_text, attrs_text}
use Rattle.journal_check.specs.Laws.{IsNumberIfAny, HasNumber, HasRanges}
use Rattle.journal_check.proofs.InkLemmas.{both_true}
use Rattle.journal_laws.specs.Printed.{HasAddress, HasAddresses, IsIdIfAny}
use Rattle.journal_laws.proofs.Spans.{begins, clash, rest_same}
use Rattle.journal_laws.proofs.NumberTexts.{AreSmall, is_dotted, is_addr_byte, is_listed, number_told, addr_told, addresses_told, id_told}
use Rattle.journal_laws.proofs.PathTexts.{path_told, all_told}

-- ---- what may follow: nothing, or a comma and one of some letters

abbrev opens : (ℕ → Bool) → List ℕ → Bool
opens letters [] = true
opens letters (c ∷ []) = false
opens letters (c ∷ d ∷ s) = nat_eq c 44 && letters d

comma : (c : ℕ) → nat_eq c 44 ≡ true → c ≡ 44
comma c e = grind (arith, nat_tests)

-- where only commas stand, a test that commas fail fails
not_begun : (test letters : ℕ → Bool) (s : List ℕ) → test 44 ≡ false → opens letters s ≡ true → begins test s ≡ false
not_begun test letters [] fails f = refl
not_begun test letters (c ∷ []) fails f = absurd (cc)
not_begun test letters (c ∷ d ∷ s) fails f = ap test (comma c (both_true (nat_eq c 44) (letters d) f).0) ∙ fails

-- ---- parts that are there or not

abbrev tagged : {A : Type 0} → ℕ → (A → List ℕ) → Option A → List ℕ
tagged letter text None = []
tagged letter text (Some x) = 44 ∷ letter ∷ text x

tag_told : {A : Type 0} (letter : ℕ) (later : ℕ → Bool) (text : A → List ℕ) (m n : Option A) (s t : List ℕ) → later letter ≡ false → opens later s ≡ true → opens later t ≡ true
    → ((x y : A) → m ≡ Some x → n ≡ Some y → text x ++ s ≡ text y ++ t → (x ≡ y) × (s ≡ t)) → tagged letter text m ++ s ≡ tagged letter text n ++ t → (m ≡ n) × (s ≡ t)
tag_told letter later text None None s t last f g each e = (refl, e)
tag_told letter later text None (Some y) s t last f g each e = absurd (clash (later letter) last (sym (ap (opens later) e) ∙ f))
tag_told letter later text (Some x) None s t last f g each e = absurd (clash (later letter) last (ap (opens later) e ∙ g))
tag_told letter later text (Some x) (Some y) s t last f g each e =
    let told = each x y refl refl (rest_same letter letter (text x ++ s) (text y ++ t) (rest_same 44 44 (letter ∷ (text x ++ s)) (letter ∷ (text y ++ t)) e)) in
    (ap Some told.0, told.1)

-- whether the part is there or not, what may follow it may follow with its letter too
tag_opens : {A : Type 0} (letter : ℕ) (later here : ℕ → Bool) (text : A → List ℕ) (m : Option A) (s : List ℕ) → here letter ≡ true → ((d : ℕ) → later d ≡ true → here d ≡ true) → opens later s ≡ true → opens here (tagged letter text m ++ s) ≡ true
tag_opens letter later here text (Some x) s is more f = is
tag_opens letter later here text None [] is more f = refl
tag_opens letter later here text None (c ∷ []) is more f = absurd (cc)
tag_opens letter later here text None (c ∷ d ∷ s) is more f =
    let both = both_true (nat_eq c 44) (later d) f in
    and_yes (nat_eq c 44) (here d) both.0 (more d both.1)
  where
    and_yes : (a b : Bool) → a ≡ true → b ≡ true → (a && b) ≡ true
    and_yes a b ha hb = cc

-- ---- the letters, from the last on

abbrev last_letters : ℕ → Bool
last_letters d = nat_eq d 120

abbrev clusters_letters : ℕ → Bool
clusters_letters d = nat_eq d 99 || last_letters d

abbrev originator_letters : ℕ → Bool
originator_letters d = nat_eq d 114 || clusters_letters d

abbrev aggregator_letters : ℕ → Bool
aggregator_letters d = nat_eq d 103 || originator_letters d

abbrev atomic_letters : ℕ → Bool
atomic_letters d = nat_eq d 97 || aggregator_letters d

abbrev local_letters : ℕ → Bool
local_letters d = nat_eq d 108 || atomic_letters d

abbrev med_letters : ℕ → Bool
med_letters d = nat_eq d 109 || local_letters d

or_right : (a b : Bool) → b ≡ true → (a || b) ≡ true
or_right true b e = refl
or_right false b e = e

-- ---- single parts

small_number : (o : Option ℕ) (n : ℕ) → IsNumberIfAny o → o ≡ Some n → n < 2 ^ 64
small_number None n h e = absurd (cc)
small_number (Some m) n h e = let same : m ≡ n = cc in omega arith

as_letter : (letter : ℕ) (o : Option ℕ) → lettered letter o ≡ tagged letter decimal o
as_letter letter None = refl
as_letter letter (Some x) = refl

lettered_told : (letter : ℕ) (later : ℕ → Bool) (m n : Option ℕ) (s t : List ℕ) → later letter ≡ false → opens later s ≡ true → opens later t ≡ true → IsNumberIfAny m → IsNumberIfAny n → lettered letter m ++ s ≡ lettered letter n ++ t → (m ≡ n) × (s ≡ t)
lettered_told letter later m n s t last f g hm hn e =
    tag_told letter later decimal m n s t last f g
    (λ x y is_x is_y same. number_told x y s t (small_number m x hm is_x) (small_number n y hn is_y) (not_begun is_ascii_digit later s refl f) (not_begun is_ascii_digit later t refl g) same)
    (ap (λ u. u ++ s) (sym (as_letter letter m)) ∙ (e ∙ ap (λ u. u ++ t) (as_letter letter n)))

abbrev flag_of : Bool → Option Bool
flag_of true = Some true
flag_of false = None

abbrev is_flag : Option Bool → Bool
is_flag None = false
is_flag (Some b) = true

flag_back : (b : Bool) → is_flag (flag_of b) ≡ b
flag_back true = refl
flag_back false = refl

abbrev no_text : Bool → List ℕ
no_text b = []

as_flag : (b : Bool) → cond b (codes ",a") [] ≡ tagged 97 no_text (flag_of b)
as_flag true = refl
as_flag false = refl

flags_same : (b : Bool) (x : Bool) → flag_of b ≡ Some x → true ≡ x
flags_same true x e = cc
flags_same false x e = absurd (cc)

atomic_told : (a b : Bool) (s t : List ℕ) → opens aggregator_letters s ≡ true → opens aggregator_letters t ≡ true → cond a (codes ",a") [] ++ s ≡ cond b (codes ",a") [] ++ t → (a ≡ b) × (s ≡ t)
atomic_told a b s t f g e =
    let told = tag_told 97 aggregator_letters no_text (flag_of a) (flag_of b) s t refl f g
    (λ x y is_x is_y same. (sym (flags_same a x is_x) ∙ flags_same b y is_y, same))
    (ap (λ u. u ++ s) (sym (as_flag a)) ∙ (e ∙ ap (λ u. u ++ t) (as_flag b))) in
    (sym (flag_back a) ∙ (ap is_flag told.0 ∙ flag_back b), told.1)

-- `!` or nothing, behind which nothing but a comma stands
partial_told : (letters : ℕ → Bool) (a b : Bool) (s t : List ℕ) → opens letters s ≡ true → opens letters t ≡ true → cond a (33 ∷ []) [] ++ s ≡ cond b (33 ∷ []) [] ++ t → (a ≡ b) × (s ≡ t)
partial_told letters true true s t f g e = (refl, rest_same 33 33 s t e)
partial_told letters false false s t f g e = (refl, e)
partial_told letters true false s t f g e = absurd (clash (begins (λ c. nat_eq c 33) t) (not_begun (λ c. nat_eq c 33) letters t refl g) (ap (begins (λ c. nat_eq c 33)) (sym e)))
partial_told letters false true s t f g e = absurd (clash (begins (λ c. nat_eq c 33) s) (not_begun (λ c. nat_eq c 33) letters s refl f) (ap (begins (λ c. nat_eq c 33)) e))

abbrev speaker_text : Aggregator → List ℕ
speaker_text g = decimal g.asn ++ 47 ∷ id_text g.addr ++ cond g.partial (33 ∷ []) []

speaker_parted : (g : Aggregator) (s : List ℕ) → speaker_text g ++ s ≡ decimal g.asn ++ 47 ∷ (id_text g.addr ++ (cond g.partial (33 ∷ []) [] ++ s))
speaker_parted g s =
    append_assoc (decimal g.asn ++ 47 ∷ id_text g.addr) (cond g.partial (33 ∷ []) []) s
    ∙ append_assoc (decimal g.asn) (47 ∷ id_text g.addr) (cond g.partial (33 ∷ []) [] ++ s)

not_dotted : (letters : ℕ → Bool) (b : Bool) (s : List ℕ) → opens letters s ≡ true → begins is_dotted (cond b (33 ∷ []) [] ++ s) ≡ false
not_dotted letters true s f = refl
not_dotted letters false s f = not_begun is_dotted letters s refl f

speaker_told : (letters : ℕ → Bool) (x y : Aggregator) (s t : List ℕ) → x.asn < 2 ^ 32 → y.asn < 2 ^ 32 → x.addr < 2 ^ 32 → y.addr < 2 ^ 32 → opens letters s ≡ true → opens letters t ≡ true → speaker_text x ++ s ≡ speaker_text y ++ t → (x ≡ y) × (s ≡ t)
speaker_told letters x y s t hx hy ax ay f g e =
    let behind_x = cond x.partial (33 ∷ []) [] ++ s in
    let behind_y = cond y.partial (33 ∷ []) [] ++ t in
    let asn = number_told x.asn y.asn (47 ∷ (id_text x.addr ++ behind_x)) (47 ∷ (id_text y.addr ++ behind_y)) (omega arith) (omega arith) refl refl (sym (speaker_parted x s) ∙ (e ∙ speaker_parted y t)) in
    let addr = id_told x.addr y.addr behind_x behind_y ax ay (not_dotted letters x.partial s f) (not_dotted letters y.partial t g) (rest_same 47 47 (id_text x.addr ++ behind_x) (id_text y.addr ++ behind_y) asn.1) in
    let partial = partial_told letters x.partial y.partial s t f g addr.1 in
    ((λ i. record { asn = asn.0 i; addr = addr.0 i; partial = partial.0 i }), partial.1)

as_speaker : (g : Option Aggregator) → aggregator_text g ≡ tagged 103 speaker_text g
unfolding aggregator_text
as_speaker None = refl
as_speaker (Some g) = refl

asn_small : (o : Option Aggregator) (g : Aggregator) → HasNumber o → o ≡ Some g → g.asn < 2 ^ 32
asn_small None g h e = absurd (cc)
asn_small (Some x) g h e = let same : x ≡ g = cc in let at = ap (λ (a : Aggregator). a.asn) same in omega arith

addr_small : (o : Option Aggregator) (g : Aggregator) → HasAddress o → o ≡ Some g → g.addr < 2 ^ 32
addr_small None g h e = absurd (cc)
addr_small (Some x) g h e = let same : x ≡ g = cc in let at = ap (λ (a : Aggregator). a.addr) same in omega arith

aggregator_told : (m n : Option Aggregator) (s t : List ℕ) → HasNumber m → HasNumber n → HasAddress m → HasAddress n → opens originator_letters s ≡ true → opens originator_letters t ≡ true → aggregator_text m ++ s ≡ aggregator_text n ++ t → (m ≡ n) × (s ≡ t)
aggregator_told m n s t hm hn am an f g e =
    tag_told 103 originator_letters speaker_text m n s t refl f g
    (λ x y is_x is_y same. speaker_told originator_letters x y s t (asn_small m x hm is_x) (asn_small n y hn is_y) (addr_small m x am is_x) (addr_small n y an is_y) f g same)
    (ap (λ u. u ++ s) (sym (as_speaker m)) ∙ (e ∙ ap (λ u. u ++ t) (as_speaker n)))

-- ---- what reflectors added

as_originator : (o : Option ℕ) → originator_text o ≡ tagged 114 id_text o
unfolding originator_text
as_originator None = refl
as_originator (Some id) = refl

small_address : (o : Option ℕ) (a : ℕ) → IsIdIfAny o → o ≡ Some a → a < 2 ^ 32
small_address None a h e = absurd (cc)
small_address (Some x) a h e = let same : x ≡ a = cc in omega arith

originator_told : (m n : Option ℕ) (s t : List ℕ) → IsIdIfAny m → IsIdIfAny n → opens clusters_letters s ≡ true → opens clusters_letters t ≡ true → originator_text m ++ s ≡ originator_text n ++ t → (m ≡ n) × (s ≡ t)
originator_told m n s t hm hn f g e =
    tag_told 114 clusters_letters id_text m n s t refl f g
    (λ x y is_x is_y same. id_told x y s t (small_address m x hm is_x) (small_address n y hn is_y) (not_begun is_dotted clusters_letters s refl f) (not_begun is_dotted clusters_letters t refl g) same)
    (ap (λ u. u ++ s) (sym (as_originator m)) ∙ (e ∙ ap (λ u. u ++ t) (as_originator n)))

abbrev if_any : List ℕ → Option (List ℕ)
if_any [] = None
if_any (n ∷ ns) = Some (n ∷ ns)

as_clusters : (cs : List ℕ) → clusters_text cs ≡ tagged 99 addresses_text (if_any cs)
unfolding clusters_text
as_clusters [] = refl
as_clusters (c ∷ cs) = refl

clusters_told : (ms ns s t : List ℕ) → AreSmall ms → AreSmall ns → opens last_letters s ≡ true → opens last_letters t ≡ true → clusters_text ms ++ s ≡ clusters_text ns ++ t → (ms ≡ ns) × (s ≡ t)
unfolding clusters_text
clusters_told [] [] s t hm hn f g e = (refl, e)
clusters_told [] (n ∷ ns) s t hm hn f g e = absurd (clash (last_letters 99) refl (sym (ap (opens last_letters) e) ∙ f))
clusters_told (m ∷ ms) [] s t hm hn f g e = absurd (clash (last_letters 99) refl (ap (opens last_letters) e ∙ g))
clusters_told (m ∷ ms) (n ∷ ns) s t hm hn f g e =
    let x = addresses_text (m ∷ ms) ++ s in
    let y = addresses_text (n ∷ ns) ++ t in
    addresses_told m n ms ns s t hm hn (not_begun is_listed last_letters s refl f) (not_begun is_listed last_letters t refl g) (rest_same 99 99 x y (rest_same 44 44 (99 ∷ x) (99 ∷ y) e))

-- ---- all parts, each with those behind it

abbrev pub behind_clusters : Attrs → List ℕ
behind_clusters a = flat_map unrecognized_text a.unrecognized

abbrev pub behind_originator : Attrs → List ℕ
behind_originator a = clusters_text a.reflection.clusters ++ behind_clusters a

abbrev pub behind_aggregator : Attrs → List ℕ
behind_aggregator a = originator_text a.reflection.originator ++ behind_originator a

abbrev pub behind_atomic : Attrs → List ℕ
behind_atomic a = aggregator_text a.aggregator ++ behind_aggregator a

abbrev pub behind_local : Attrs → List ℕ
behind_local a = cond a.atomic (codes ",a") [] ++ behind_atomic a

abbrev pub behind_med : Attrs → List ℕ
behind_med a = lettered 108 a.local_pref ++ behind_local a

abbrev pub behind_next_hop : Attrs → List ℕ
behind_next_hop a = lettered 109 a.med ++ behind_med a

abbrev pub behind_path : Bool → Attrs → List ℕ
behind_path v6 a = 44 ∷ 110 ∷ (addr_text v6 a.next_hop ++ behind_next_hop a)

abbrev pub behind_origin : Bool → Attrs → List ℕ
behind_origin v6 a = 44 ∷ 112 ∷ (path_text a.path ++ behind_path v6 a)

optional_parted : (a : Attrs) → optional_text a ++ behind_aggregator a ≡ behind_next_hop a
unfolding optional_text
optional_parted a =
    let m = lettered 109 a.med in
    let l = lettered 108 a.local_pref in
    let c = cond a.atomic (codes ",a") [] in
    append_assoc (m ++ l ++ c) (aggregator_text a.aggregator) (behind_aggregator a)
    ∙ (append_assoc (m ++ l) c (behind_atomic a)
    ∙ append_assoc m l (behind_local a))

required_parted : (v6 : Bool) (a : Attrs) (s : List ℕ) → required_text v6 a ++ s ≡ 111 ∷ (decimal (origin_number a.origin) ++ 44 ∷ 112 ∷ (path_text a.path ++ 44 ∷ 110 ∷ (addr_text v6 a.next_hop ++ s)))
unfolding required_text
required_parted v6 a s =
    let o = codes "o" ++ decimal (origin_number a.origin) in
    let p = path_text a.path in
    let h = addr_text v6 a.next_hop in
    append_assoc (o ++ codes ",p" ++ p ++ codes ",n") h s
    ∙ (append_assoc (o ++ codes ",p" ++ p) (codes ",n") (h ++ s)
    ∙ (append_assoc (o ++ codes ",p") p (codes ",n" ++ (h ++ s))
    ∙ append_assoc o (codes ",p") (p ++ (codes ",n" ++ (h ++ s)))))

pub attrs_parted : (v6 : Bool) (a : Attrs) → attrs_text v6 a ≡ 111 ∷ (decimal (origin_number a.origin) ++ behind_origin v6 a)
unfolding attrs_text
attrs_parted v6 a =
    append_assoc (required_text v6 a ++ optional_text a) (reflection_text a.reflection) (behind_clusters a)
    ∙ (ap (λ s. required_text v6 a ++ optional_text a ++ s) (append_assoc (originator_text a.reflection.originator) (clusters_text a.reflection.clusters) (behind_clusters a))
    ∙ (append_assoc (required_text v6 a) (optional_text a) (behind_aggregator a)
    ∙ (ap (λ s. required_text v6 a ++ s) (optional_parted a) ∙ required_parted v6 a (behind_next_hop a))))

open_clusters : (a : Attrs) → opens last_letters (behind_clusters a) ≡ true
unfolding unrecognized_text
open_clusters a = by a.unrecognized
  where
    by : (us : List Unrecognized) → opens last_letters (flat_map unrecognized_text us) ≡ true
    by [] = refl
    by (u ∷ us) = refl

open_originator : (a : Attrs) → opens clusters_letters (behind_originator a) ≡ true
open_originator a =
    ap (λ t. opens clusters_letters (t ++ behind_clusters a)) (as_clusters a.reflection.clusters)
    ∙ tag_opens 99 last_letters clusters_letters addresses_text (if_any a.reflection.clusters) (behind_clusters a) refl (λ d e. or_right (nat_eq d 99) (last_letters d) e) (open_clusters a)

open_aggregator : (a : Attrs) → opens originator_letters (behind_aggregator a) ≡ true
open_aggregator a =
    ap (λ t. opens originator_letters (t ++ behind_originator a)) (as_originator a.reflection.originator)
    ∙ tag_opens 114 clusters_letters originator_letters id_text a.reflection.originator (behind_originator a) refl (λ d e. or_right (nat_eq d 114) (clusters_letters d) e) (open_originator a)

open_atomic : (a : Attrs) → opens aggregator_letters (behind_atomic a) ≡ true
open_atomic a =
    ap (λ t. opens aggregator_letters (t ++ behind_aggregator a)) (as_speaker a.aggregator)
    ∙ tag_opens 103 originator_letters aggregator_letters speaker_text a.aggregator (behind_aggregator a) refl (λ d e. or_right (nat_eq d 103) (originator_letters d) e) (open_aggregator a)

open_local : (a : Attrs) → opens atomic_letters (behind_local a) ≡ true
open_local a =
    ap (λ t. opens atomic_letters (t ++ behind_atomic a)) (as_flag a.atomic)
    ∙ tag_opens 97 aggregator_letters atomic_letters no_text (flag_of a.atomic) (behind_atomic a) refl (λ d e. or_right (nat_eq d 97) (aggregator_letters d) e) (open_atomic a)

open_med : (a : Attrs) → opens local_letters (behind_med a) ≡ true
open_med a =
    ap (λ t. opens local_letters (t ++ behind_local a)) (as_letter 108 a.local_pref)
    ∙ tag_opens 108 atomic_letters local_letters decimal a.local_pref (behind_local a) refl (λ d e. or_right (nat_eq d 108) (atomic_letters d) e) (open_local a)

open_next_hop : (a : Attrs) → opens med_letters (behind_next_hop a) ≡ true
open_next_hop a =
    ap (λ t. opens med_letters (t ++ behind_med a)) (as_letter 109 a.med)
    ∙ tag_opens 109 local_letters med_letters decimal a.med (behind_med a) refl (λ d e. or_right (nat_eq d 109) (local_letters d) e) (open_med a)

-- a comma is no byte of an address
no_address : (v6 : Bool) (s : List ℕ) → opens med_letters s ≡ true → begins (is_addr_byte v6) s ≡ false
no_address true s f = not_begun (is_addr_byte true) med_letters s refl f
no_address false s f = not_begun (is_addr_byte false) med_letters s refl f

-- ---- all of them

abbrev origin_by : ℕ → Origin
origin_by n = cond (nat_eq n 0) Igp (cond (nat_eq n 1) Egp Incomplete)

origin_back : (o : Origin) → origin_by (origin_number o) ≡ o
origin_back Igp = refl
origin_back Egp = refl
origin_back Incomplete = refl

origin_small : (o : Origin) → origin_number o < 2 ^ 64
origin_small Igp = omega arith
origin_small Egp = omega arith
origin_small Incomplete = omega arith

pub attrs_told : (v6 : Bool) (a b : Attrs) → HasRanges a → HasRanges b → HasAddresses v6 a → HasAddresses v6 b → attrs_text v6 a ≡ attrs_text v6 b → a ≡ b
attrs_told v6 a b ha hb aa ab e =
    let whole = rest_same 111 111 (decimal (origin_number a.origin) ++ behind_origin v6 a) (decimal (origin_number b.origin) ++ behind_origin v6 b) (sym (attrs_parted v6 a) ∙ (e ∙ attrs_parted v6 b)) in
    let origin = number_told (origin_number a.origin) (origin_number b.origin) (behind_origin v6 a) (behind_origin v6 b) (origin_small a.origin) (origin_small b.origin) refl refl whole in
    let from_path = rest_same 112 112 (path_text a.path ++ behind_path v6 a) (path_text b.path ++ behind_path v6 b) (rest_same 44 44 (112 ∷ (path_text a.path ++ behind_path v6 a)) (112 ∷ (path_text b.path ++ behind_path v6 b)) origin.1) in
    let path = path_told a.path b.path (behind_path v6 a) (behind_path v6 b) ha.path hb.path refl refl from_path in
    let from_hop = rest_same 110 110 (addr_text v6 a.next_hop ++ behind_next_hop a) (addr_text v6 b.next_hop ++ behind_next_hop b) (rest_same 44 44 (110 ∷ (addr_text v6 a.next_hop ++ behind_next_hop a)) (110 ∷ (addr_text v6 b.next_hop ++ behind_next_hop b)) path.1) in
    let next_hop = addr_told v6 a.next_hop b.next_hop (behind_next_hop a) (behind_next_hop b) aa.next_hop ab.next_hop (no_address v6 (behind_next_hop a) (open_next_hop a)) (no_address v6 (behind_next_hop b) (open_next_hop b)) from_hop in
    let med = lettered_told 109 local_letters a.med b.med (behind_med a) (behind_med b) refl (open_med a) (open_med b) ha.med hb.med next_hop.1 in
    let local_pref = lettered_told 108 atomic_letters a.local_pref b.local_pref (behind_local a) (behind_local b) refl (open_local a) (open_local b) ha.local_pref hb.local_pref med.1 in
    let atomic = atomic_told a.atomic b.atomic (behind_atomic a) (behind_atomic b) (open_atomic a) (open_atomic b) local_pref.1 in
    let aggregator = aggregator_told a.aggregator b.aggregator (behind_aggregator a) (behind_aggregator b) ha.aggregator hb.aggregator aa.aggregator ab.aggregator (open_aggregator a) (open_aggregator b) atomic.1 in
    let originator = originator_told a.reflection.originator b.reflection.originator (behind_originator a) (behind_originator b) aa.originator ab.originator (open_originator a) (open_originator b) aggregator.1 in
    let clusters = clusters_told a.reflection.clusters b.reflection.clusters (behind_clusters a) (behind_clusters b) aa.clusters ab.clusters (open_clusters a) (open_clusters b) originator.1 in
    let unrecognized = all_told a.unrecognized b.unrecognized ha.unrecognized hb.unrecognized clusters.1 in
    let same : origin_by (origin_number a.origin) ≡ origin_by (origin_number b.origin) = ap origin_by origin.0 in
    let origins = sym (origin_back a.origin) ∙ (same ∙ origin_back b.origin) in
    λ i. record {
      origin = origins i;
      path = path.0 i;
      next_hop = next_hop.0 i;
      med = med.0 i;
      local_pref = local_pref.0 i;
      atomic = atomic.0 i;
      aggregator = aggregator.0 i;
      reflection = record { originator = originator.0 i; clusters = clusters.0 i };
      unrecognized = unrecognized i;
    }
