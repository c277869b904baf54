-- An UPDATE is read step after step.
use Rattle.std.proofs.Common.{◌≡◌, ℕ, zero, suc, ◌≤◌, ◌<◌, Bool, true, false, cond, eqb, not, ◌||◌, ◌&&◌, length, List, [], ◌∷◌, get_or, Option, Some, None, Result, Ok, refl, sym, ap, subst, ◌∙◌, arith}
use Rattle.std.specs.Prelude.{find, is_some, option_map, option_and_then}
use Rattle.std.specs.List.{list_any}
use Rattle.std.specs.Result.{result_ok}
use Rattle.addr4.specs.Prefixes.{AddressPrefix}
use Rattle.bgp_attr.specs.Attributes.{Attrs}
use Rattle.bgp_attr.specs.declared.path.Segment.{Segment}
use Rattle.bgp_attr.specs.declared.speaker.Profile.{Profile}
use Rattle.bgp_wire.specs.declared.found.Found.{Found}
use Rattle.bgp_wire.specs.declared.gathered.Gathered.{Gathered}
use Rattle.bgp_wire.specs.declared.message.Update.{Update}
use Rattle.bgp_wire.specs.declared.notice.Notice.{Notice}
use Rattle.bgp_wire.specs.declared.notice.Refusal.{Refusal}
use Rattle.bgp_wire.specs.declared.notice.Refusal.TheVariants as refusals
use Rattle.bgp_wire.specs.Faults.{Fails, ◌>>=◌}
use Rattle.bgp_wire.specs.Prefixes.{prefixes_at}
use Rattle.bgp_wire.specs.Paths.{width_of, IsPath, path_at}
use Rattle.bgp_wire.specs.Attributes.{Attribute, Kept, hop_at, attributes_at}
use Rattle.bgp_wire.specs.Multiprotocol.{announced_by, hop_by, withdrawn_by}
use Rattle.bgp_wire.specs.Routes.{kept_of, hop_of, code_of_origin, AreAttrs}
use Rattle.bgp_wire.specs.Found.{origin_of, Gathers, missing_from, lacks_from, attrs_by, attrs_from, said_by, update_of}
use Rattle.bgp_wire.specs.Updates.{Fields, fields_at, has_kind, missing, lack, lacks, bad_prefix, reach_in, unreach_in, Reading, reading_at}
use Rattle.bgp_wire.specs.Grammar.{AreAttrsFor, IsSaidBy, IsUpdateBy}
use Rattle.bgp_wire.proofs.TestLemmas.{or_false_right}
use Rattle.bgp_wire.proofs.PathLaws.{path_takes}
use Rattle.bgp_wire.proofs.AttributeLaws.{attributes_take}
use Rattle.bgp_wire.proofs.RouteLaws.{kept_are, good_of, rule_at_1, rule_at_2, origin_below, path_good, has_kept, some_and, HasAll}
use Rattle.bgp_wire.proofs.MessageLaws.{has_for, hop_beside}

-- ---- steps
pub fails_first : {A B : Type 0} (e : Refusal) (r : Result A Notice) (f : A → Result B Notice) → Fails e r → Fails e (r >>= f)
fails_first refusals.Memory r f fails = tt
fails_first (refusals.Fault n) r f fails = ap (λ r. r >>= f) fails

fails_later : {A B : Type 0} (e : Refusal) (r : Result A Notice) (x : A) (f : A → Result B Notice) → r ≡ Ok x → Fails e (f x) → Fails e (r >>= f)
fails_later e r x f is fails = subst (λ r. Fails e (r >>= f)) (sym is) fails

-- what was read of an UPDATE until a step
pub record IsRead (p : Profile) (external : Bool) (bytes : List ℕ) (f : Fields) (withdrawn : List AddressPrefix) (k : Kept) (announced : List AddressPrefix) : Type 0 where
  pub fields : fields_at bytes ≡ Ok f
  pub withdraws : prefixes_at false bad_prefix f.withdrawn ≡ Ok withdrawn
  pub attributes : attributes_at p external [] f.attributes ≡ Ok k
  pub announces : prefixes_at false bad_prefix f.announced ≡ Ok announced

abbrev reading_of : Profile → List AddressPrefix → List AddressPrefix → Kept → Bool → Reading
reading_of p withdrawn announced k withdraw = record { withdrawn = withdrawn; announced = announced; reach = reach_in p k.0; unreach = unreach_in p k.0; kept = k.0; withdraw = withdraw }

abbrev made : Profile → List AddressPrefix → List AddressPrefix → Kept → Bool → Result Reading Notice
made p withdrawn announced k lacking = Ok (reading_of p withdrawn announced k (k.1 || lacking))

pub fields_fail : (p : Profile) (external : Bool) (bytes : List ℕ) (e : Refusal) → Fails e (fields_at bytes) → Fails e (reading_at p external bytes)
unfolding reading_at
fields_fail p external bytes e fails = fails_first e (fields_at bytes) (λ f. prefixes_at false bad_prefix f.withdrawn >>= λ w. attributes_at p external [] f.attributes >>= λ k. prefixes_at false bad_prefix f.announced >>= λ n. lacks p n (announced_by (reach_in p k.0)) k.0 >>= λ l. made p w n k l) fails

pub withdrawn_fail : (p : Profile) (external : Bool) (bytes : List ℕ) (f : Fields) (e : Refusal) → fields_at bytes ≡ Ok f → Fails e (prefixes_at false bad_prefix f.withdrawn) → Fails e (reading_at p external bytes)
unfolding reading_at
withdrawn_fail p external bytes f e fields fails =
    fails_later e (fields_at bytes) f (λ f. prefixes_at false bad_prefix f.withdrawn >>= λ w. attributes_at p external [] f.attributes >>= λ k. prefixes_at false bad_prefix f.announced >>= λ n. lacks p n (announced_by (reach_in p k.0)) k.0 >>= λ l. made p w n k l) fields
    (fails_first e (prefixes_at false bad_prefix f.withdrawn) (λ w. attributes_at p external [] f.attributes >>= λ k. prefixes_at false bad_prefix f.announced >>= λ n. lacks p n (announced_by (reach_in p k.0)) k.0 >>= λ l. made p w n k l) fails)

pub attributes_fail : (p : Profile) (external : Bool) (bytes : List ℕ) (f : Fields) (w : List AddressPrefix) (e : Refusal) → fields_at bytes ≡ Ok f → prefixes_at false bad_prefix f.withdrawn ≡ Ok w → Fails e (attributes_at p external [] f.attributes) → Fails e (reading_at p external bytes)
unfolding reading_at
attributes_fail p external bytes f w e fields withdraws fails =
    fails_later e (fields_at bytes) f (λ f. prefixes_at false bad_prefix f.withdrawn >>= λ w. attributes_at p external [] f.attributes >>= λ k. prefixes_at false bad_prefix f.announced >>= λ n. lacks p n (announced_by (reach_in p k.0)) k.0 >>= λ l. made p w n k l) fields
    (fails_later e (prefixes_at false bad_prefix f.withdrawn) w (λ w. attributes_at p external [] f.attributes >>= λ k. prefixes_at false bad_prefix f.announced >>= λ n. lacks p n (announced_by (reach_in p k.0)) k.0 >>= λ l. made p w n k l) withdraws
    (fails_first e (attributes_at p external [] f.attributes) (λ k. prefixes_at false bad_prefix f.announced >>= λ n. lacks p n (announced_by (reach_in p k.0)) k.0 >>= λ l. made p w n k l) fails))

pub announced_fail : (p : Profile) (external : Bool) (bytes : List ℕ) (f : Fields) (w : List AddressPrefix) (k : Kept) (e : Refusal) → fields_at bytes ≡ Ok f → prefixes_at false bad_prefix f.withdrawn ≡ Ok w → attributes_at p external [] f.attributes ≡ Ok k → Fails e (prefixes_at false bad_prefix f.announced) → Fails e (reading_at p external bytes)
unfolding reading_at
announced_fail p external bytes f w k e fields withdraws attributes fails =
    fails_later e (fields_at bytes) f (λ f. prefixes_at false bad_prefix f.withdrawn >>= λ w. attributes_at p external [] f.attributes >>= λ k. prefixes_at false bad_prefix f.announced >>= λ n. lacks p n (announced_by (reach_in p k.0)) k.0 >>= λ l. made p w n k l) fields
    (fails_later e (prefixes_at false bad_prefix f.withdrawn) w (λ w. attributes_at p external [] f.attributes >>= λ k. prefixes_at false bad_prefix f.announced >>= λ n. lacks p n (announced_by (reach_in p k.0)) k.0 >>= λ l. made p w n k l) withdraws
    (fails_later e (attributes_at p external [] f.attributes) k (λ k. prefixes_at false bad_prefix f.announced >>= λ n. lacks p n (announced_by (reach_in p k.0)) k.0 >>= λ l. made p w n k l) attributes
    (fails_first e (prefixes_at false bad_prefix f.announced) (λ n. lacks p n (announced_by (reach_in p k.0)) k.0 >>= λ l. made p w n k l) fails)))

read_to : (p : Profile) (external : Bool) (bytes : List ℕ) (f : Fields) (w : List AddressPrefix) (k : Kept) (n : List AddressPrefix) → IsRead p external bytes f w k n → reading_at p external bytes ≡ (lacks p n (announced_by (reach_in p k.0)) k.0 >>= λ l. made p w n k l)
unfolding reading_at
read_to p external bytes f w k n is =
    ap (λ r. r >>= λ f. prefixes_at false bad_prefix f.withdrawn >>= λ w. attributes_at p external [] f.attributes >>= λ k. prefixes_at false bad_prefix f.announced >>= λ n. lacks p n (announced_by (reach_in p k.0)) k.0 >>= λ l. made p w n k l) is.fields
    ∙ ap (λ r. r >>= λ w. attributes_at p external [] f.attributes >>= λ k. prefixes_at false bad_prefix f.announced >>= λ n. lacks p n (announced_by (reach_in p k.0)) k.0 >>= λ l. made p w n k l) is.withdraws
    ∙ ap (λ r. r >>= λ k. prefixes_at false bad_prefix f.announced >>= λ n. lacks p n (announced_by (reach_in p k.0)) k.0 >>= λ l. made p w n k l) is.attributes
    ∙ ap (λ r. r >>= λ n. lacks p n (announced_by (reach_in p k.0)) k.0 >>= λ l. made p w n k l) is.announces

-- ---- what was found and what is kept
is_some-find : {A : Type 0} (t : A → Bool) (xs : List A) → is_some (find t xs) ≡ list_any t xs
is_some-find t [] = refl
is_some-find t (x ∷ xs) = by_test (t x) (is_some-find t xs)
  where
    by_test : (b : Bool) → is_some (find t xs) ≡ list_any t xs → is_some (cond b (Some x) (find t xs)) ≡ (b || list_any t xs)
    by_test true later = refl
    by_test false later = later

is_some-map : {A B : Type 0} (f : A → B) (o : Option A) → is_some (option_map f o) ≡ is_some o
is_some-map f None = refl
is_some-map f (Some x) = refl

-- a path that is kept is one
paths : (p : Profile) (external : Bool) (bytes : List ℕ) (k : Kept) → attributes_at p external [] bytes ≡ Ok k → (a : Attribute) → kept_of 2 k.0 ≡ Some a → (path : List Segment) × (path_at (width_of p.as4) a.value ≡ Ok path)
paths p external bytes k read a found =
    let s = attributes_take p external [] bytes k read in
    let is = kept_are p external [] bytes s.steps s.runs s.are 2 a (ap (λ (k : Kept). kept_of 2 k.0) (sym s.kept) ∙ found) in
    path_good a p.as4 is.is (good_of p external a _ is.kept (rule_at_2 p external a.kind is.is)).value

origins : (p : Profile) (external : Bool) (bytes : List ℕ) (k : Kept) → attributes_at p external [] bytes ≡ Ok k → (a : Attribute) → kept_of 1 k.0 ≡ Some a → get_or a.value 0 0 ≤ 2
origins p external bytes k read a found =
    let s = attributes_take p external [] bytes k read in
    let is = kept_are p external [] bytes s.steps s.runs s.are 1 a (ap (λ (k : Kept). kept_of 1 k.0) (sym s.kept) ∙ found) in
    origin_below a p.as4 is.is (good_of p external a _ is.kept (rule_at_1 p external a.kind is.is)).value

same_missing : (p : Profile) (external : Bool) (bytes : List ℕ) (k : Kept) (found : Found) (ipv4 : Bool) → attributes_at p external [] bytes ≡ Ok k → Gathers p k.0 found → missing_from ipv4 found ≡ missing ipv4 k.0
same_missing p external bytes k found ipv4 read g =
    let one : is_some found.origin ≡ has_kind 1 k.0 = ap is_some g.origin ∙ is_some-map (λ (a : Attribute). origin_of (get_or a.value 0 0)) (kept_of 1 k.0) ∙ is_some-find (λ (a : Attribute). eqb a.kind 1) k.0 in
    let two : is_some found.path ≡ has_kind 2 k.0 = ap is_some g.path ∙ by_path (kept_of 2 k.0) refl ∙ is_some-find (λ (a : Attribute). eqb a.kind 2) k.0 in
    let three : is_some found.next_hop ≡ has_kind 3 k.0 = ap is_some g.next_hop ∙ is_some-map (λ (a : Attribute). hop_at a.value) (kept_of 3 k.0) ∙ is_some-find (λ (a : Attribute). eqb a.kind 3) k.0 in
    λ i. cond (not (one i)) (Some 1) (cond (not (two i)) (Some 2) (cond (ipv4 && not (three i)) (Some 3) None))
  where
    by_path : (o : Option Attribute) → kept_of 2 k.0 ≡ o → is_some (option_and_then (λ a. result_ok (path_at (width_of p.as4) a.value)) o) ≡ is_some o
    by_path None e = refl
    by_path (Some a) e = let path = paths p external bytes k read a e in ap (λ r. is_some (result_ok r)) path.1

lacks_same : (p : Profile) (external : Bool) (bytes : List ℕ) (k : Kept) (found : Found) (ns ms : List AddressPrefix) → attributes_at p external [] bytes ≡ Ok k → Gathers p k.0 found → lacks_from p ns ms found ≡ lacks p ns ms k.0
lacks_same p external bytes k found [] [] read g = refl
lacks_same p external bytes k found [] (m ∷ ms) read g = ap (lack p) (same_missing p external bytes k found false read g)
lacks_same p external bytes k found (n ∷ ns) ms read g = ap (lack p) (same_missing p external bytes k found true read g)

pub same_lacks : (p : Profile) (external : Bool) (bytes : List ℕ) (k : Kept) (found : Found) (ns : List AddressPrefix) → attributes_at p external [] bytes ≡ Ok k → Gathers p k.0 found → lacks_from p ns (announced_by found.reach) found ≡ lacks p ns (announced_by (reach_in p k.0)) k.0
same_lacks p external bytes k found ns read g = lacks_same p external bytes k found ns (announced_by found.reach) read g ∙ ap (λ r. lacks p ns (announced_by r) k.0) g.reach

pub lacking_fail : (p : Profile) (external : Bool) (bytes : List ℕ) (f : Fields) (w : List AddressPrefix) (k : Kept) (n : List AddressPrefix) (found : Found) (e : Refusal) → IsRead p external bytes f w k n → Gathers p k.0 found → Fails e (lacks_from p n (announced_by found.reach) found) → Fails e (reading_at p external bytes)
lacking_fail p external bytes f w k n found e is g fails =
    subst (Fails e) (sym (read_to p external bytes f w k n is)) (fails_first e (lacks p n (announced_by (reach_in p k.0)) k.0) (λ l. made p w n k l) (subst (Fails e) (same_lacks p external f.attributes k found n is.attributes g) fails))

origin_again : (n : ℕ) → n ≤ 2 → n ≡ code_of_origin (origin_of n)
origin_again zero le = refl
origin_again (suc zero) le = refl
origin_again (suc (suc zero)) le = refl
origin_again (suc (suc (suc n))) le = absurd (omega arith)

-- the attributes of one family's routes are found
attrs_found : (p : Profile) (external : Bool) (bytes : List ℕ) (k : Kept) (found : Found) → attributes_at p external [] bytes ≡ Ok k → Gathers p k.0 found → HasAll k.0 → (hop : Option ℕ) (n : ℕ) → hop ≡ Some n → (attrs : Attrs) × (attrs_from external found hop ≡ Some attrs) × AreAttrs p external k.0 hop attrs
attrs_found p external bytes k found read g has hop n hop_is =
    let o = has_kept 1 k.0 has.origin in
    let s = has_kept 2 k.0 has.path in
    let path = paths p external bytes k read s.0 s.1 in
    let origin_is : found.origin ≡ Some (origin_of (get_or o.0.value 0 0)) = g.origin ∙ ap (option_map (λ (a : Attribute). origin_of (get_or a.value 0 0))) o.1 in
    let path_is : found.path ≡ Some path.0 = g.path ∙ ap (option_and_then (λ (a : Attribute). result_ok (path_at (width_of p.as4) a.value))) s.1 ∙ ap result_ok path.1 in (
      record {
        origin = origin_of (get_or o.0.value 0 0);
        path = path.0;
        next_hop = n;
        med = found.med;
        local_pref = cond external None found.local_pref;
        atomic = found.atomic;
        aggregator = found.aggregator;
        reflection = record { originator = found.originator; clusters = found.clusters };
        unrecognized = found.unrecognized;
      },
      λ i. attrs_by external found (origin_is i) (path_is i) (hop_is i),
      record {
        origin = ap (option_map (λ (a : Attribute). get_or a.value 0 0)) o.1 ∙ ap (λ n. Some n) (origin_again (get_or o.0.value 0 0) (origins p external bytes k read o.0 o.1));
        path = some_and (kept_of 2 k.0) s.0 (λ a. IsPath (width_of p.as4) a.value path.0) s.1 (path_takes (width_of p.as4) s.0.value path.0 path.1);
        next_hop = hop_is;
        med = g.med;
        local_pref = ap (λ o. cond external None o) g.local_pref;
        atomic = g.atomic;
        aggregator = g.aggregator;
        originator = g.originator;
        clusters = g.clusters;
        unrecognized = g.unrecognized;
      },
    )

-- what is said of one family
said_is : (p : Profile) (external : Bool) (bytes : List ℕ) (k : Kept) (found : Found) → attributes_at p external [] bytes ≡ Ok k → Gathers p k.0 found → (withdraw : Bool) (hop : Option ℕ) (ws ns : List AddressPrefix)
    → (withdraw ≡ false → 0 < length ns → HasAll k.0 × ((n : ℕ) × (hop ≡ Some n))) → IsSaidBy p external k.0 withdraw hop ws ns (said_by external withdraw found hop ws ns)
said_is p external bytes k found read g true hop ws ns has = record { withdrawn = refl; announced = refl; attrs = refl }
said_is p external bytes k found read g false hop ws [] has = record { withdrawn = refl; announced = refl; attrs = refl }
said_is p external bytes k found read g false hop ws (n ∷ ns) has =
    let all = has refl (omega arith) in
    let a = attrs_found p external bytes k found read g all.0 hop all.1.0 all.1.1 in
    record { withdrawn = refl; announced = refl; attrs = subst (AreAttrsFor p external k.0 hop (n ∷ ns)) (sym a.1) a.2 }

-- the UPDATE
pub update_is : (p : Profile) (external : Bool) (bytes : List ℕ) (f : Fields) (w : List AddressPrefix) (k : Kept) (n : List AddressPrefix) (g : Gathered) (l : Bool) → IsRead p external bytes f w k n → Gathers p k.0 g.found → g.withdraw ≡ k.1 → lacks_from p n (announced_by g.found.reach) g.found ≡ Ok l
    → (u : Update) → u ≡ update_of external (g.withdraw || l) w n g.found → (r : Reading) × (reading_at p external bytes ≡ Ok r) × IsUpdateBy p external r r.withdraw u
update_is p external bytes f w k n g l is gathers withdraw lacking u u_is =
    let complete : lacks p n (announced_by (reach_in p k.0)) k.0 ≡ Ok l = sym (same_lacks p external f.attributes k g.found n is.attributes gathers) ∙ lacking in
    let read = read_to p external bytes f w k n is ∙ ap (λ r. r >>= λ l. made p w n k l) complete in
    let has = λ (e : (k.1 || l) ≡ false). has_for p n (announced_by (reach_in p k.0)) k.0 (complete ∙ ap (λ b. Ok b) (or_false_right k.1 l e)) in
    let whole : u ≡ record {
      first = said_by external (k.1 || l) g.found (hop_of k.0) w n;
      second = said_by external (k.1 || l) g.found (hop_by (reach_in p k.0)) (withdrawn_by (unreach_in p k.0)) (announced_by (reach_in p k.0));
    } = u_is ∙ (λ i. record {
      first = said_by external (withdraw i || l) g.found (gathers.next_hop i) w n;
      second = said_by external (withdraw i || l) g.found (hop_by (gathers.reach i)) (withdrawn_by (gathers.unreach i)) (announced_by (gathers.reach i));
    }) in (
      reading_of p w n k (k.1 || l),
      read,
      subst (IsUpdateBy p external (reading_of p w n k (k.1 || l)) (k.1 || l)) (sym whole) (record {
        first = said_is p external f.attributes k g.found is.attributes gathers (k.1 || l) (hop_of k.0) w n (λ e some. (has e).first some);
        second = said_is p external f.attributes k g.found is.attributes gathers (k.1 || l) (hop_by (reach_in p k.0)) (withdrawn_by (unreach_in p k.0)) (announced_by (reach_in p k.0)) (λ e some. ((has e).second some, hop_beside (reach_in p k.0) some));
      }),
    )
