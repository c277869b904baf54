-- Whole messages: what is read is in the grammar, and what is in the grammar is read.
use Rattle.std.proofs.Common.{◌≡◌, ℕ, ◌*◌, ◌+◌, ◌≤◌, ◌<◌, Bool, true, false, cond, eqb, ltb, not, ◌||◌, List, [], ◌∷◌, ◌++◌, length, take, drop, get_or, Result, Ok, Err, refl, sym, ap, subst, ◌∙◌, arith}
use Rattle.std.specs.Prelude.{replicate}
use Rattle.std.specs.List.{list_all}
use Rattle.std.proofs.lemmas.List.{length-drop, length-take, length-append, take-append-drop, take_at, drop_at, drop_more, drop-drop, get_or-drop, nil_from_length}
use Rattle.std.proofs.lemmas.Bool.{ltb-false, le-ltb, eqb-true, eqb-false, eq-eqb}
use Rattle.addr4.specs.Prefixes.{AddressPrefix}
use Rattle.bgp_attr.specs.declared.speaker.Profile.{Profile}
use Rattle.bgp_wire.specs.declared.notice.Notice.{Notice}
use Rattle.bgp_wire.specs.declared.message.RouteRefresh.{RouteRefresh}
use Rattle.bgp_wire.specs.Faults.{notice, ◌>>=◌}
use Rattle.bgp_wire.specs.Prefixes.{prefixes_at}
use Rattle.bgp_wire.specs.Attributes.{Kept, kept_by, attributes_at}
use Rattle.bgp_wire.specs.Updates.{number_at, is_marked, length_field, has_wrong_length, header_at, Fields, fields_at, lacks, bad_prefix, reach_in, unreach_in, Reading, reading_at, Content, update, keepalive, notification, opening, refresh, refresh_at, content_for, content_at}
use Rattle.bgp_wire.specs.Grammar.{IsFrame, IsReading, IsRefresh, Holds}
use Rattle.bgp_wire.proofs.TestLemmas.{or_false_left, or_false_right, not_false, and_left, and_right, nonzero, not_zero}
use Rattle.bgp_wire.proofs.ResultLemmas.{bind_ok, same_ok, guard_ok}
use Rattle.bgp_wire.specs.Multiprotocol.{IsReach, IsUnreach, announced_by}
use Rattle.bgp_wire.specs.Routes.{multiprotocol_of, Says}
use Rattle.bgp_wire.proofs.SpokenLaws.{says_reach, says_unreach, one_reach, one_unreach}
use Rattle.bgp_wire.proofs.PrefixLaws.{prefixes_take, prefixes_again}
use Rattle.bgp_wire.proofs.AttributeLaws.{attributes_take, attributes_again}

all_ones : (xs : List ℕ) → list_all (λ b. eqb b 255) xs ≡ true → xs ≡ replicate (length xs) 255
all_ones [] e = refl
all_ones (x ∷ xs) e = let here : x ≡ 255 = eqb-true _ _ (and_left (eqb x 255) _ e) in let rest = all_ones xs (and_right (eqb x 255) _ e) in λ i. here i ∷ rest i

-- the parts of a header
pub record IsHeader (bytes : List ℕ) (kind : ℕ) : Type 0 where
  pub body : List ℕ
  pub frame : IsFrame bytes kind body
  pub is : kind ≡ get_or bytes 18 0
  pub enough : has_wrong_length kind (length bytes) ≡ false
  pub some : 0 < kind
  pub few : kind < 6

pub header_takes : (bytes : List ℕ) (kind : ℕ) → header_at bytes ≡ Ok kind → IsHeader bytes kind
unfolding header_at
header_takes bytes kind e =
    let at = get_or bytes 18 0 in
    let r5 : Result ℕ Notice = cond (has_wrong_length at (length bytes)) (Err (notice 1 2 (length_field bytes))) (Ok at) in
    let r4 : Result ℕ Notice = cond (eqb at 0 || ltb 5 at) (Err (notice 1 3 (take 1 (drop 18 bytes)))) r5 in
    let r3 : Result ℕ Notice = cond (ltb (number_at bytes 16) 19 || ltb 4096 (number_at bytes 16) || not (eqb (number_at bytes 16) (length bytes))) (Err (notice 1 2 (length_field bytes))) r4 in
    let r2 : Result ℕ Notice = cond (not (is_marked bytes)) (Err (notice 1 1 [])) r3 in
    let a = guard_ok (ltb (length bytes) 19) (notice 1 2 []) r2 kind e in
    let b = guard_ok (not (is_marked bytes)) (notice 1 1 []) r3 kind a.1 in
    let c = guard_ok (ltb (number_at bytes 16) 19 || ltb 4096 (number_at bytes 16) || not (eqb (number_at bytes 16) (length bytes))) (notice 1 2 (length_field bytes)) r4 kind b.1 in
    let d = guard_ok (eqb at 0 || ltb 5 at) (notice 1 3 (take 1 (drop 18 bytes))) r5 kind c.1 in
    let f = guard_ok (has_wrong_length at (length bytes)) (notice 1 2 (length_field bytes)) (Ok at) kind d.1 in
    let is : at ≡ kind = same_ok at kind f.1 in
    let long : 19 ≤ length bytes = ltb-false _ _ a.0 in
    let sixteen : length (take 16 bytes) ≡ 16 = omega (arith, length-take 16 bytes) in
    let marker : take 16 bytes ≡ replicate 16 255 = all_ones (take 16 bytes) (not_false _ b.0) ∙ ap (λ n. replicate n 255) sixteen in
    let three : drop 16 bytes ≡ get_or bytes 16 0 ∷ get_or bytes 17 0 ∷ get_or bytes 18 0 ∷ drop 19 bytes =
    drop_more bytes 16 0 (omega arith) ∙ (λ i. get_or bytes 16 0 ∷ (drop_more bytes 17 0 (omega arith) ∙ (λ j. get_or bytes 17 0 ∷ drop_more bytes 18 0 (omega arith) j)) i) in
    let parts : bytes ≡ replicate 16 255 ++ get_or bytes 16 0 ∷ get_or bytes 17 0 ∷ kind ∷ drop 19 bytes =
    sym (take-append-drop 16 bytes) ∙ (λ i. marker i ++ three i) ∙ ap (λ k. replicate 16 255 ++ get_or bytes 16 0 ∷ get_or bytes 17 0 ∷ k ∷ drop 19 bytes) is in
    let c1 = or_false_left _ _ c.0 in
    let len : number_at bytes 16 ≡ length bytes = eqb-true _ _ (not_false _ (or_false_right _ _ c.0)) in
    let top : number_at bytes 16 ≤ 4096 = ltb-false _ _ (or_false_right (ltb (number_at bytes 16) 19) _ c1) in
    record {
      body = drop 19 bytes;
      frame = record { high = get_or bytes 16 0; low = get_or bytes 17 0; parts = parts; size = len; top = omega (arith, len, top) };
      is = sym is;
      enough = ap (λ k. has_wrong_length k (length bytes)) (sym is) ∙ f.0;
      some = subst (λ k. 0 < k) is (nonzero at (or_false_left _ _ d.0));
      few = subst (λ k. k < 6) is (omega (arith, ltb-false _ _ (or_false_right (eqb at 0) _ d.0)));
    }

-- a frame's parts
frame_kind : (bytes : List ℕ) (kind : ℕ) (body : List ℕ) → IsFrame bytes kind body → get_or bytes 18 0 ≡ kind
frame_kind bytes kind body f = ap (λ (b : List ℕ). get_or b 18 0) f.parts

frame_len : (bytes : List ℕ) (kind : ℕ) (body : List ℕ) → IsFrame bytes kind body → length bytes ≡ 19 + length body
frame_len bytes kind body f = omega (arith, ap length f.parts)

pub header_again : (bytes : List ℕ) (kind : ℕ) (body : List ℕ) → IsFrame bytes kind body → 0 < kind → kind < 6 → has_wrong_length kind (length bytes) ≡ false → header_at bytes ≡ Ok kind
unfolding header_at
header_again bytes kind body f some few enough =
    let at = frame_kind bytes kind body f in
    let size = frame_len bytes kind body f in
    let number : number_at bytes 16 ≡ length bytes = ap (λ (b : List ℕ). number_at b 16) f.parts ∙ f.size in
    let t1 : ltb (length bytes) 19 ≡ false = le-ltb _ _ (omega arith) in
    let t2 : not (is_marked bytes) ≡ false = ap (λ (b : List ℕ). not (is_marked b)) f.parts in
    let t3a : ltb (number_at bytes 16) 19 ≡ false = le-ltb _ _ (omega arith) in
    let t3b : ltb 4096 (number_at bytes 16) ≡ false = le-ltb _ _ (omega (arith, f.top)) in
    let t3c : eqb (number_at bytes 16) (length bytes) ≡ true = eq-eqb _ _ number in
    let t4a : eqb kind 0 ≡ false = not_zero kind some in
    let t4b : ltb 5 kind ≡ false = le-ltb _ _ (omega arith) in
    rw (t1, t2, t3a, t3b, t3c, at, t4a, t4b, enough) refl

abbrev ok_reading : Reading → Result Reading Notice
ok_reading r = Ok r

-- ---- the fields
pub record IsFields (bytes : List ℕ) (f : Fields) : Type 0 where
  pub first_high : ℕ
  pub first_low : ℕ
  pub second_high : ℕ
  pub second_low : ℕ
  pub frame : IsFrame bytes 2 (first_high ∷ first_low ∷ (f.withdrawn ++ (second_high ∷ second_low ∷ (f.attributes ++ f.announced))))
  pub withdrawn_size : first_high * 256 + first_low ≡ length f.withdrawn
  pub attributes_size : second_high * 256 + second_low ≡ length f.attributes

pub fields_take : (bytes : List ℕ) (f : Fields) → IsFrame bytes 2 (drop 19 bytes) → 23 ≤ length bytes → fields_at bytes ≡ Ok f → IsFields bytes f
unfolding fields_at
fields_take bytes f frame long e =
    let w = number_at bytes 19 in
    let a = number_at bytes (21 + w) in
    let made : Fields = record { withdrawn = take w (drop 21 bytes); attributes = take a (drop (23 + w) bytes); announced = drop (23 + w + a) bytes } in
    let r : Result Fields Notice = cond (ltb (length bytes) (w + a + 23)) (Err (notice 3 1 [])) (Ok made) in
    let g = guard_ok (ltb (length bytes) (w + 23)) (notice 3 1 []) r f e in
    let h = guard_ok (ltb (length bytes) (w + a + 23)) (notice 3 1 []) (Ok made) f g.1 in
    let fits : w + 23 ≤ length bytes = ltb-false _ _ g.0 in
    let fits_both : w + a + 23 ≤ length bytes = ltb-false _ _ h.0 in
    let one : drop 19 bytes ≡ get_or bytes 19 0 ∷ get_or bytes 20 0 ∷ drop 21 bytes = drop_more bytes 19 0 (omega arith) ∙ (λ i. get_or bytes 19 0 ∷ drop_more bytes 20 0 (omega arith) i) in
    let two : drop 21 bytes ≡ take w (drop 21 bytes) ++ drop (21 + w) bytes = sym (take-append-drop w (drop 21 bytes)) ∙ ap (λ (t : List ℕ). take w (drop 21 bytes) ++ t) (drop-drop w 21 bytes) in
    let next : 21 + w + 1 ≡ 22 + w = omega arith in
    let third : 22 + w + 1 ≡ 23 + w = omega arith in
    let three : drop (21 + w) bytes ≡ get_or bytes (21 + w) 0 ∷ get_or bytes (21 + w + 1) 0 ∷ drop (23 + w) bytes =
    drop_more bytes (21 + w) 0 (omega arith) ∙ (λ i. get_or bytes (21 + w) 0 ∷ (drop_more bytes (21 + w + 1) 0 (omega arith) ∙ ap (λ n. get_or bytes (21 + w + 1) 0 ∷ drop n bytes) (ap (λ n. n + 1) next ∙ third)) i) in
    let four : drop (23 + w) bytes ≡ take a (drop (23 + w) bytes) ++ drop (23 + w + a) bytes = sym (take-append-drop a (drop (23 + w) bytes)) ∙ ap (λ (t : List ℕ). take a (drop (23 + w) bytes) ++ t) (drop-drop a (23 + w) bytes) in
    let whole : drop 19 bytes ≡ get_or bytes 19 0 ∷ get_or bytes 20 0 ∷ (take w (drop 21 bytes) ++ (get_or bytes (21 + w) 0 ∷ get_or bytes (21 + w + 1) 0 ∷ (take a (drop (23 + w) bytes) ++ drop (23 + w + a) bytes))) =
    one ∙ (λ i. get_or bytes 19 0 ∷ get_or bytes 20 0 ∷ (two ∙ (λ j. take w (drop 21 bytes) ++ (three ∙ (λ k. get_or bytes (21 + w) 0 ∷ get_or bytes (21 + w + 1) 0 ∷ four k)) j)) i) in
    subst (IsFields bytes) (same_ok made f h.1) (record {
      first_high = get_or bytes 19 0;
      first_low = get_or bytes 20 0;
      second_high = get_or bytes (21 + w) 0;
      second_low = get_or bytes (21 + w + 1) 0;
      frame = subst (IsFrame bytes 2) whole frame;
      withdrawn_size = omega (arith, length-take w (drop 21 bytes), length-drop 21 bytes);
      attributes_size = omega (arith, length-take a (drop (23 + w) bytes), length-drop (23 + w) bytes);
    })

pub fields_again : (bytes : List ℕ) (f : Fields) → IsFields bytes f → fields_at bytes ≡ Ok f
unfolding fields_at
fields_again bytes f is =
    let w = length f.withdrawn in
    let a = length f.attributes in
    let later = f.attributes ++ f.announced in
    let body = is.first_high ∷ is.first_low ∷ (f.withdrawn ++ (is.second_high ∷ is.second_low ∷ later)) in
    let wn : number_at bytes 19 ≡ w = ap (λ (b : List ℕ). number_at b 19) is.frame.parts ∙ is.withdrawn_size in
    let d21 : drop 21 bytes ≡ f.withdrawn ++ (is.second_high ∷ is.second_low ∷ later) = ap (drop 21) is.frame.parts in
    let dw : drop (21 + w) bytes ≡ is.second_high ∷ is.second_low ∷ later = sym (drop-drop w 21 bytes) ∙ ap (drop w) d21 ∙ drop_at f.withdrawn (is.second_high ∷ is.second_low ∷ later) w refl in
    let zero_at : 21 + w + 0 ≡ 21 + w = omega arith in
    let high : get_or bytes (21 + w) 0 ≡ is.second_high = sym (get_or-drop (21 + w) bytes 0 0 ∙ ap (λ n. get_or bytes n 0) zero_at) ∙ ap (λ (b : List ℕ). get_or b 0 0) dw in
    let low : get_or bytes (21 + w + 1) 0 ≡ is.second_low = sym (get_or-drop (21 + w) bytes 1 0) ∙ ap (λ (b : List ℕ). get_or b 1 0) dw in
    let an : number_at bytes (21 + w) ≡ a = (λ i. high i * 256 + low i) ∙ is.attributes_size in
    let two : 21 + w + 2 ≡ 23 + w = omega arith in
    let d23 : drop (23 + w) bytes ≡ later = ap (λ n. drop n bytes) (sym two) ∙ sym (drop-drop 2 (21 + w) bytes) ∙ ap (drop 2) dw in
    let dn : drop (23 + w + a) bytes ≡ f.announced = sym (drop-drop a (23 + w) bytes) ∙ ap (drop a) d23 ∙ drop_at f.attributes f.announced a refl in
    let tw : take w (drop 21 bytes) ≡ f.withdrawn = ap (take w) d21 ∙ take_at f.withdrawn (is.second_high ∷ is.second_low ∷ later) w refl in
    let ta : take a (drop (23 + w) bytes) ≡ f.attributes = ap (take a) d23 ∙ take_at f.attributes f.announced a refl in
    let size = frame_len bytes 2 body is.frame in
    let rest_len : length (f.withdrawn ++ (is.second_high ∷ is.second_low ∷ later)) ≡ w + (2 + (a + length f.announced)) = omega (arith, length-append f.withdrawn (is.second_high ∷ is.second_low ∷ later), length-append f.attributes f.announced) in
    let t1 : ltb (length bytes) (w + 23) ≡ false = le-ltb _ _ (omega arith) in
    let t2 : ltb (length bytes) (w + a + 23) ≡ false = le-ltb _ _ (omega arith) in
    ap (λ n. cond (ltb (length bytes) (n + 23)) (Err (notice 3 1 [])) (cond (ltb (length bytes) (n + number_at bytes (21 + n) + 23)) (Err (notice 3 1 [])) (Ok (record {
      withdrawn = take n (drop 21 bytes);
      attributes = take (number_at bytes (21 + n)) (drop (23 + n) bytes);
      announced = drop (23 + n + number_at bytes (21 + n)) bytes;
    })))) wn
    ∙ ap (λ m. cond (ltb (length bytes) (w + 23)) (Err (notice 3 1 [])) (cond (ltb (length bytes) (w + m + 23)) (Err (notice 3 1 [])) (Ok (record {
      withdrawn = take w (drop 21 bytes);
      attributes = take m (drop (23 + w) bytes);
      announced = drop (23 + w + m) bytes;
    })))) an
    ∙ ap (λ b. cond b (Err (notice 3 1 [])) (cond (ltb (length bytes) (w + a + 23)) (Err (notice 3 1 [])) (Ok (record { withdrawn = take w (drop 21 bytes); attributes = take a (drop (23 + w) bytes); announced = drop (23 + w + a) bytes })))) t1
    ∙ ap (λ b. cond b (Err (notice 3 1 [])) (Ok (record { withdrawn = take w (drop 21 bytes); attributes = take a (drop (23 + w) bytes); announced = drop (23 + w + a) bytes }))) t2
    ∙ (λ i. Ok (record { withdrawn = tw i; attributes = ta i; announced = dn i }))

-- ---- an UPDATE
pub reading_takes : (p : Profile) (external : Bool) (bytes : List ℕ) (r : Reading) → IsFrame bytes 2 (drop 19 bytes) → 23 ≤ length bytes → reading_at p external bytes ≡ Ok r → IsReading p external bytes r
unfolding reading_at
reading_takes p external bytes r frame long e =
    let k4 = λ (w n : List AddressPrefix) (k : Kept) (l : Bool). ok_reading (record { withdrawn = w; announced = n; reach = reach_in p k.0; unreach = unreach_in p k.0; kept = k.0; withdraw = k.1 || l }) in
    let a = bind_ok (fields_at bytes) (λ f. prefixes_at false bad_prefix f.withdrawn >>= λ w. attributes_at p external [] f.attributes >>= λ k. prefixes_at false bad_prefix f.announced >>= λ n. lacks p n (announced_by (reach_in p k.0)) k.0 >>= λ l. k4 w n k l) r e in
    let f = a.0 in
    let b = bind_ok (prefixes_at false bad_prefix f.withdrawn) (λ w. attributes_at p external [] f.attributes >>= λ k. prefixes_at false bad_prefix f.announced >>= λ n. lacks p n (announced_by (reach_in p k.0)) k.0 >>= λ l. k4 w n k l) r a.2 in
    let c = bind_ok (attributes_at p external [] f.attributes) (λ k. prefixes_at false bad_prefix f.announced >>= λ n. lacks p n (announced_by (reach_in p k.0)) k.0 >>= λ l. k4 b.0 n k l) r b.2 in
    let d = bind_ok (prefixes_at false bad_prefix f.announced) (λ n. lacks p n (announced_by (reach_in p c.0.0)) c.0.0 >>= λ l. k4 b.0 n c.0 l) r c.2 in
    let g = bind_ok (lacks p d.0 (announced_by (reach_in p c.0.0)) c.0.0) (λ l. k4 b.0 d.0 c.0 l) r d.2 in
    let made : Reading = record { withdrawn = b.0; announced = d.0; reach = reach_in p c.0.0; unreach = unreach_in p c.0.0; kept = c.0.0; withdraw = c.0.1 || g.0 } in
    let is = fields_take bytes f frame long a.1 in
    let s = attributes_take p external [] f.attributes c.0 c.1 in
    subst (IsReading p external bytes) (same_ok made r g.2) (record {
      withdrawn = f.withdrawn;
      attributes = f.attributes;
      announced = f.announced;
      first_high = is.first_high;
      first_low = is.first_low;
      second_high = is.second_high;
      second_low = is.second_low;
      frame = is.frame;
      withdrawn_size = is.withdrawn_size;
      attributes_size = is.attributes_size;
      withdraws = prefixes_take false bad_prefix f.withdrawn b.0 b.1;
      announces = prefixes_take false bad_prefix f.announced d.0 d.1;
      reaches = subst (λ (k : Kept). Says IsReach (multiprotocol_of p 14 k.0) (reach_in p k.0)) (sym s.kept) (says_reach p external f.attributes s.steps s.runs s.are);
      unreaches = subst (λ (k : Kept). Says IsUnreach (multiprotocol_of p 15 k.0) (unreach_in p k.0)) (sym s.kept) (says_unreach p external f.attributes s.steps s.runs s.are);
      steps = s.steps;
      runs = s.runs;
      lacking = g.0;
      are = s.are;
      kept = ap (λ (k : Kept). k.0) s.kept;
      complete = g.1;
      withdraw = ap (λ (k : Kept). k.1 || g.0) s.kept;
    })

pub reading_again : (p : Profile) (external : Bool) (bytes : List ℕ) (r : Reading) → IsReading p external bytes r → reading_at p external bytes ≡ Ok r
unfolding reading_at
reading_again p external bytes r is =
    let f : Fields = record { withdrawn = is.withdrawn; attributes = is.attributes; announced = is.announced } in
    let fields : fields_at bytes ≡ Ok f = fields_again bytes f (record { first_high = is.first_high; first_low = is.first_low; second_high = is.second_high; second_low = is.second_low; frame = is.frame; withdrawn_size = is.withdrawn_size; attributes_size = is.attributes_size }) in
    let k : Kept = kept_by is.steps is.runs in
    let reach : reach_in p k.0 ≡ r.reach = one_reach p external is.attributes is.steps is.runs is.are r.reach (subst (λ ks. Says IsReach (multiprotocol_of p 14 ks) r.reach) is.kept is.reaches) in
    let unreach : unreach_in p k.0 ≡ r.unreach = one_unreach p external is.attributes is.steps is.runs is.are r.unreach (subst (λ ks. Says IsUnreach (multiprotocol_of p 15 ks) r.unreach) is.kept is.unreaches) in
    let complete : lacks p r.announced (announced_by (reach_in p k.0)) k.0 ≡ Ok is.lacking = (λ i. lacks p r.announced (announced_by (reach i)) (sym is.kept i)) ∙ is.complete in
    rw (fields, prefixes_again false bad_prefix is.withdrawn r.withdrawn is.withdraws, attributes_again p external [] is.attributes is.steps is.runs is.are, prefixes_again false bad_prefix is.announced r.announced is.announces, complete)
    (λ i. Ok (record { withdrawn = r.withdrawn; announced = r.announced; reach = reach i; unreach = unreach i; kept = sym is.kept i; withdraw = sym is.withdraw i }))

-- ---- a ROUTE-REFRESH
refresh_takes : (bytes : List ℕ) → IsFrame bytes 5 (drop 19 bytes) → length bytes ≡ 23 → IsRefresh bytes (refresh_at bytes)
refresh_takes bytes frame exact =
    let nothing : drop 23 bytes ≡ [] = nil_from_length (drop 23 bytes) (omega (arith, length-drop 23 bytes)) in
    let last : drop 22 bytes ≡ get_or bytes 22 0 ∷ [] = drop_more bytes 22 0 (omega arith) ∙ ap (λ (t : List ℕ). get_or bytes 22 0 ∷ t) nothing in
    let two : drop 21 bytes ≡ get_or bytes 21 0 ∷ get_or bytes 22 0 ∷ [] = drop_more bytes 21 0 (omega arith) ∙ ap (λ (t : List ℕ). get_or bytes 21 0 ∷ t) last in
    let three : drop 20 bytes ≡ get_or bytes 20 0 ∷ get_or bytes 21 0 ∷ get_or bytes 22 0 ∷ [] = drop_more bytes 20 0 (omega arith) ∙ ap (λ (t : List ℕ). get_or bytes 20 0 ∷ t) two in
    let four : drop 19 bytes ≡ get_or bytes 19 0 ∷ get_or bytes 20 0 ∷ get_or bytes 21 0 ∷ get_or bytes 22 0 ∷ [] = drop_more bytes 19 0 (omega arith) ∙ ap (λ (t : List ℕ). get_or bytes 19 0 ∷ t) three in
    record { high = get_or bytes 19 0; low = get_or bytes 20 0; reserved = get_or bytes 21 0; frame = subst (IsFrame bytes 5) four frame; afi = refl }

refresh_again : (bytes : List ℕ) (r : RouteRefresh) → IsRefresh bytes r → refresh_at bytes ≡ r
refresh_again bytes r is =
    let afi : number_at bytes 19 ≡ r.afi = ap (λ (b : List ℕ). number_at b 19) is.frame.parts ∙ is.afi in
    let safi : get_or bytes 22 0 ≡ r.safi = ap (λ (b : List ℕ). get_or b 22 0) is.frame.parts in
    λ i. record { afi = afi i; safi = safi i }

-- ---- messages
header_frame : (bytes : List ℕ) (kind : ℕ) (h : IsHeader bytes kind) → IsFrame bytes kind (drop 19 bytes)
header_frame bytes kind h = subst (IsFrame bytes kind) (sym (ap (drop 19) h.frame.parts)) h.frame

short_of : (kind k len : ℕ) → kind ≡ k → has_wrong_length kind len ≡ false → has_wrong_length k len ≡ false
short_of kind k len e s = subst (λ n. has_wrong_length n len ≡ false) e s

pub only_two : (kind : ℕ) → 0 < kind → kind < 6 → eqb kind 1 ≡ false → eqb kind 3 ≡ false → eqb kind 4 ≡ false → eqb kind 5 ≡ false → kind ≡ 2
only_two kind some few a b c d = omega (arith, eqb-false _ _ a, eqb-false _ _ b, eqb-false _ _ c, eqb-false _ _ d)

pub content_takes : (p : Profile) (external : Bool) (bytes : List ℕ) (c : Content) → content_at p external bytes ≡ Ok c → Holds p external bytes c
unfolding content_at
content_takes p external bytes c e =
    let a = bind_ok (header_at bytes) (λ kind. content_for p external bytes kind) c e in
    let kind = a.0 in
    let h = header_takes bytes kind a.1 in
    let frame = header_frame bytes kind h in
    let size : length bytes ≡ 19 + length (drop 19 bytes) = frame_len bytes kind (drop 19 bytes) frame in
    let others : Result Content Notice = cond (eqb kind 5) (Ok (refresh (refresh_at bytes))) (reading_at p external bytes >>= λ r. Ok (update r)) in
    elim (eqb kind 1) as (λ b. eqb kind 1 ≡ b → cond b (Ok opening) (cond (eqb kind 3) (Ok notification) (cond (eqb kind 4) (Ok keepalive) others)) ≡ Ok c → Holds p external bytes c) [
      | true ↦ λ is e.
          let one : kind ≡ 1 = eqb-true _ _ is in
          let long : 29 ≤ length bytes = ltb-false _ _ (short_of kind 1 (length bytes) one h.enough) in
          subst (Holds p external bytes) (same_ok opening c e) (drop 19 bytes, subst (λ k. IsFrame bytes k (drop 19 bytes)) one frame, omega arith)
      | false ↦ λ not_one. elim (eqb kind 3) as (λ b. eqb kind 3 ≡ b → cond b (Ok notification) (cond (eqb kind 4) (Ok keepalive) others) ≡ Ok c → Holds p external bytes c) [
        | true ↦ λ is e.
            let three : kind ≡ 3 = eqb-true _ _ is in
            let long : 21 ≤ length bytes = ltb-false _ _ (short_of kind 3 (length bytes) three h.enough) in
            subst (Holds p external bytes) (same_ok notification c e) (drop 19 bytes, subst (λ k. IsFrame bytes k (drop 19 bytes)) three frame, omega arith)
        | false ↦ λ not_three. elim (eqb kind 4) as (λ b. eqb kind 4 ≡ b → cond b (Ok keepalive) others ≡ Ok c → Holds p external bytes c) [
          | true ↦ λ is e.
              let four : kind ≡ 4 = eqb-true _ _ is in
              let exact : length bytes ≡ 19 = eqb-true _ _ (not_false _ (short_of kind 4 (length bytes) four h.enough)) in
              let nothing : drop 19 bytes ≡ [] = nil_from_length (drop 19 bytes) (omega arith) in
              subst (Holds p external bytes) (same_ok keepalive c e) (subst (IsFrame bytes 4) nothing (subst (λ k. IsFrame bytes k (drop 19 bytes)) four frame))
          | false ↦ λ not_four. elim (eqb kind 5) as (λ b. eqb kind 5 ≡ b → cond b (Ok (refresh (refresh_at bytes))) (reading_at p external bytes >>= λ r. Ok (update r)) ≡ Ok c → Holds p external bytes c) [
            | true ↦ λ is e.
                let five : kind ≡ 5 = eqb-true _ _ is in
                let exact : length bytes ≡ 23 = eqb-true _ _ (not_false _ (short_of kind 5 (length bytes) five h.enough)) in
                subst (Holds p external bytes) (same_ok (refresh (refresh_at bytes)) c e) (refresh_takes bytes (subst (λ k. IsFrame bytes k (drop 19 bytes)) five frame) exact)
            | false ↦ λ not_five e.
                let two = only_two kind h.some h.few not_one not_three not_four not_five in
                let long : 23 ≤ length bytes = ltb-false _ _ (short_of kind 2 (length bytes) two h.enough) in
                let u = bind_ok (reading_at p external bytes) (λ r. Ok (update r)) c e in
                subst (Holds p external bytes) (same_ok (update u.0) c u.2) (reading_takes p external bytes u.0 (subst (λ k. IsFrame bytes k (drop 19 bytes)) two frame) long u.1)
          ] refl
        ] refl
      ] refl
    ] refl a.2

pub content_again : (p : Profile) (external : Bool) (bytes : List ℕ) (c : Content) → Holds p external bytes c → content_at p external bytes ≡ Ok c
unfolding content_at
content_again p external bytes opening is =
    let size = frame_len bytes 1 is.0 is.1 in
    let enough : has_wrong_length 1 (length bytes) ≡ false = le-ltb _ _ (omega (arith, is.2)) in
    ap (λ r. r >>= λ kind. content_for p external bytes kind) (header_again bytes 1 is.0 is.1 (omega arith) (omega arith) enough)
content_again p external bytes notification is =
    let size = frame_len bytes 3 is.0 is.1 in
    let enough : has_wrong_length 3 (length bytes) ≡ false = le-ltb _ _ (omega (arith, is.2)) in
    ap (λ r. r >>= λ kind. content_for p external bytes kind) (header_again bytes 3 is.0 is.1 (omega arith) (omega arith) enough)
content_again p external bytes keepalive is =
    let size : length bytes ≡ 19 = omega (arith, frame_len bytes 4 [] is) in
    let enough : has_wrong_length 4 (length bytes) ≡ false = ap not (eq-eqb _ _ size) in
    ap (λ r. r >>= λ kind. content_for p external bytes kind) (header_again bytes 4 [] is (omega arith) (omega arith) enough)
content_again p external bytes (refresh r) is =
    let size : length bytes ≡ 23 = omega (arith, frame_len bytes 5 _ is.frame) in
    let enough : has_wrong_length 5 (length bytes) ≡ false = ap not (eq-eqb _ _ size) in
    ap (λ r. r >>= λ kind. content_for p external bytes kind) (header_again bytes 5 _ is.frame (omega arith) (omega arith) enough)
    ∙ ap (λ (r : RouteRefresh). Ok (refresh r)) (refresh_again bytes r is)
content_again p external bytes (update r) is =
    let size = frame_len bytes 2 _ is.frame in
    let more : 4 ≤ length (is.first_high ∷ is.first_low ∷ (is.withdrawn ++ (is.second_high ∷ is.second_low ∷ (is.attributes ++ is.announced)))) = omega (arith, length-append is.withdrawn (is.second_high ∷ is.second_low ∷ (is.attributes ++ is.announced))) in
    let enough : has_wrong_length 2 (length bytes) ≡ false = le-ltb _ _ (omega arith) in
    ap (λ r. r >>= λ kind. content_for p external bytes kind) (header_again bytes 2 _ is.frame (omega arith) (omega arith) enough)
    ∙ ap (λ x. x >>= λ r. Ok (update r)) (reading_again p external bytes r is)
