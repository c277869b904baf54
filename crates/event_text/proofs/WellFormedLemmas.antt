-- Each event that is read is well-formed.
use Rattle.std.proofs.Common.{◌≡◌, ℕ, ◌^◌, ◌<◌, Bool, true, false, not, ◌&&◌, ◌||◌, List, [], ◌∷◌, drop, length, Option, Some, None, Result, Ok, Err, cond, nat_eq, refl, subst, arith, IfSome, codes}
use Rattle.std.proofs.lemmas.Bool.Decides.{nat_tests}
use Rattle.std.proofs.lemmas.List.{get_or_default}
use Rattle.std.specs.List.{All, starts_with}
use Rattle.std.specs.Option.{option_and_then}
use Rattle.std.specs.Result.{result_ok}
use Rattle.std.specs.Str.{bytes_eq}
use Rattle.hex.specs.Hex.{decode_of}
use Rattle.hex.specs.declared.FromHexError.{FromHexError}
use Rattle.hex.proofs.HexLemmas.{decode_of-ok}
use Rattle.addr4.specs.Texts.{number_below, number_of, id_of, addr_of, prefix_of, parts}
use Rattle.journal_text.specs.declared.link.Task.TheVariants as tasks
use Rattle.journal_text.specs.Names.{name_number, with_both, proto_of, plain_task, peer_task, task_of_two, task_of_three, task_from_parts, task_of, link_of, is_marked, IsNamed}
use Rattle.journal_text.proofs.ReadNames.{read_number_named, read_link_named}
use Rattle.rib_route.specs.declared.Proto.{Proto}
use Rattle.rib_route.specs.Ifaces.{is_iface_name, iface_of}
use Rattle.event_text.specs.declared.event.Event.TheVariants as events
use Rattle.event_text.specs.declared.event.WholeFile.TheVariants as whole
use Rattle.policy_rules.specs.Rules.{Rule}
use Rattle.policy_rules.specs.Ranges.{AreRules}
use Rattle.policy_rules.specs.Grammar.{rules_of}
use Rattle.policy_rules.proofs.RangeLemmas.{and_then, either, below, id_fits, addr_fits, prefix_ok, rules_ok}
use Rattle.addr4.specs.Families.{IsAddress, IsIpv4, IsPrefixOf}
use Rattle.addr4.specs.Hosts.{is_host}
use Rattle.bgp_attr.specs.Speakers.{IsSpeaker, MayBeClient, asn_bound}
use Rattle.bgp_attr.specs.declared.speaker.Profile.{Profile}
use Rattle.event_text.specs.Words.{from_one, speaker_by, speaker_of, client_of, octets_of, way_out, way_over, interior_of, switch_of, link_named, task_named, host6_of}
use Rattle.event_text.specs.Events.{local_of, peer_of, one_number, bgp_of, filter_on, filter_of, route_add_of, route_del_of, route_of, lost_of, redist_of, cover_of, profile_event, interior_event, work_of, ask_of, show_of, settled_of, plain_event, named_event, event_of}
use Rattle.event_text.specs.WellFormed.{IsNumber, IsMessage, IsGateway, IsInterior, IsTask, IsWellFormed}

-- ---- steps that may fail
told : {A : Type 0} (b : Bool) (x y : Option A) (P : A → Type 0) → (b ≡ true → IfSome x P) → (b ≡ false → IfSome y P) → IfSome (cond b x y) P
told true x y P hx hy = hx refl
told false x y P hx hy = hy refl

-- ---- words
from_one_ok : (word : List ℕ) → IfSome (from_one word) IsNumber
unfolding from_one
from_one_ok word =
    and_then (number_of word) _ (λ n. n < 2 ^ 32) IsNumber (below (2 ^ 32) word) (λ n fits. told (nat_eq n 0) None (Some n) IsNumber (λ _. tt) (λ other. record { least = grind (arith, nat_tests); fits = fits }))

speaker_told : (as4 : Bool) (a i h : ℕ) → a < asn_bound as4 → i < 2 ^ 32 → IsIpv4 h → (x y z : Bool) → nat_eq a 0 ≡ x → nat_eq i 0 ≡ y → is_host false h ≡ z → IfSome (cond (x || y || not z) None (Some (record { asn = a; id = i; addr = h }))) (IsSpeaker false as4)
speaker_told as4 a i h fa fi fh true y z ea ei eh = tt
speaker_told as4 a i h fa fi fh false true z ea ei eh = tt
speaker_told as4 a i h fa fi fh false false false ea ei eh = tt
speaker_told as4 a i h fa fi fh false false true ea ei eh =
    record { asn_least = grind (arith, nat_tests); asn_most = fa; id_least = grind (arith, nat_tests); id_fits = fi; host = eh; addr_fits = fh }

speaker_by_ok : (as4 : Bool) (asn id addr : List ℕ) → IfSome (speaker_by as4 asn id addr) (IsSpeaker false as4)
unfolding speaker_by
speaker_by_ok as4 asn id addr =
    and_then (number_below (asn_bound as4) asn) _ (λ n. n < asn_bound as4) (IsSpeaker false as4) (below (asn_bound as4) asn) (λ a fa.
    and_then (id_of id) _ (λ n. n < 2 ^ 32) (IsSpeaker false as4) (id_fits id) (λ i fi.
    and_then (addr_of false addr) _ IsIpv4 (IsSpeaker false as4) (addr_fits false addr) (λ h fh.
    speaker_told as4 a i h fa fi fh (nat_eq a 0) (nat_eq i 0) (is_host false h) refl refl refl)))

host_told : (h : ℕ) (b : Bool) → is_host true h ≡ b → IsAddress true h → IfSome (cond b (Some h) None) (λ a. (is_host true a ≡ true) × IsAddress true a)
host_told h true e fits = (e, fits)
host_told h false e fits = tt

pub host6_ok : (word : List ℕ) → IfSome (host6_of word) (λ a. (is_host true a ≡ true) × IsAddress true a)
unfolding host6_of
host6_ok word =
    and_then (addr_of true word) _ (IsAddress true) (λ a. (is_host true a ≡ true) × IsAddress true a) (addr_fits true word) (λ h fits. host_told h (is_host true h) refl fits)

speaker_ok : (as4 : Bool) (ws : List (List ℕ)) → IfSome (speaker_of as4 ws) (IsSpeaker false as4)
unfolding speaker_of
speaker_ok as4 [] = tt
speaker_ok as4 (asn ∷ []) = tt
speaker_ok as4 (asn ∷ id ∷ []) = tt
speaker_ok as4 (asn ∷ id ∷ addr ∷ []) = speaker_by_ok as4 asn id addr
speaker_ok as4 (asn ∷ id ∷ addr ∷ x ∷ more) = tt

both_true : (a b : Bool) → (a && b) ≡ true → a ≡ true
both_true true b e = refl
both_true false b e = absurd (cc)

client_ok : (p : Profile) (ws : List (List ℕ)) → IfSome (client_of p ws) (MayBeClient p)
unfolding client_of
client_ok p [] = λ client. absurd (cc)
client_ok p (word ∷ []) = told (p.reflect && bytes_eq word (codes "client")) (Some true) None (MayBeClient p) (λ e _. both_true _ _ e) (λ _. tt)
client_ok p (word ∷ x ∷ more) = tt

decoded : (digits : List ℕ) (r : Result (List ℕ) FromHexError) → decode_of digits ≡ r → IfSome (result_ok r) (λ bytes. All (λ b. b < 256) bytes)
decoded digits (Err e) is = tt
decoded digits (Ok bytes) is = λ k d lt. subst (λ b. b < 256) (get_or_default bytes k 0 d lt) ((decode_of-ok digits bytes is).3 k)

octets_ok : (digits : List ℕ) → IfSome (octets_of digits) IsMessage
unfolding octets_of
octets_ok digits =
    and_then (result_ok (decode_of digits)) _ (λ bytes. All (λ b. b < 256) bytes) IsMessage (decoded digits (decode_of digits) refl) (λ bytes all.
    told (nat_eq (length bytes) 0) None (Some bytes) IsMessage (λ _. tt) (λ other. record { some = grind (arith, nat_tests); bytes = all }))

-- ---- interior routes
way_out_ok : (v6 : Bool) (proto : Proto) (gateway : Option ℕ) (ws : List (List ℕ)) → IsGateway v6 gateway → IfSome (way_out proto gateway ws) (IsInterior v6)
unfolding way_out
way_out_ok v6 proto gateway [] h = tt
way_out_ok v6 proto gateway (name ∷ []) h = tt
way_out_ok v6 proto gateway (name ∷ metric ∷ []) h =
    and_then (iface_of name) _ (λ i. is_iface_name i ≡ true) (IsInterior v6)
    (told (is_iface_name name) (Some name) None (λ i. is_iface_name i ≡ true) (λ e. e) (λ _. tt)) (λ i hi.
    and_then (number_of metric) _ (λ n. n < 2 ^ 32) (IsInterior v6) (below (2 ^ 32) metric) (λ m hm. record { gateway = h; name = hi; metric = hm }))
way_out_ok v6 proto gateway (name ∷ metric ∷ x ∷ more) h = tt

way_over_ok : (v6 : Bool) (proto : Proto) (ws : List (List ℕ)) → IfSome (way_over v6 proto ws) (IsInterior v6)
unfolding way_over
way_over_ok v6 proto [] = tt
way_over_ok v6 proto (gateway ∷ ws) = and_then (addr_of v6 gateway) _ (IsAddress v6) (IsInterior v6) (addr_fits v6 gateway) (λ a h. way_out_ok v6 proto (Some a) ws h)

interior_ok : (v6 : Bool) (proto : Proto) (ws : List (List ℕ)) → IfSome (interior_of v6 proto ws) (IsInterior v6)
unfolding interior_of
interior_ok v6 proto [] = tt
interior_ok v6 proto (way ∷ ws) =
    either (bytes_eq way (codes "direct")) _ _ (IsInterior v6) (way_out_ok v6 proto None ws tt)
    (either (bytes_eq way (codes "via")) _ None (IsInterior v6) (way_over_ok v6 proto ws) tt)

-- ---- links and tasks
each : {A : Type 0} (o : Option A) (P : A → Type 0) → ((x : A) → o ≡ Some x → P x) → IfSome o P
each None P h = tt
each (Some x) P h = h x refl

link_ok : (word : List ℕ) → IfSome (link_of word) IsNamed
link_ok word = each (link_of word) IsNamed (read_link_named word)

number_ok : (word : List ℕ) → IfSome (name_number word) IsNumber
number_ok word = each (name_number word) IsNumber (λ n e. let h = read_number_named word n e in record { least = h.0; fits = h.1 })

plain_task_ok : (w : List ℕ) → IfSome (plain_task w) IsTask
unfolding plain_task
plain_task_ok w = either (bytes_eq w (codes "red")) (Some tasks.Red) _ IsTask tt (either (bytes_eq w (codes "ext")) (Some tasks.Ext) None IsTask tt tt)

peer_task_ok : (w : List ℕ) (k : ℕ) → IsNumber k → IfSome (peer_task w k) IsTask
unfolding peer_task
peer_task_ok w k h =
    either (bytes_eq w (codes "fin")) (Some (tasks.Fin k)) _ IsTask h
    (either (bytes_eq w (codes "nh")) (Some (tasks.Nh k)) _ IsTask h
    (either (bytes_eq w (codes "out")) (Some (tasks.Out k)) _ IsTask h
    (either (bytes_eq w (codes "ref")) (Some (tasks.Ref k)) None IsTask h tt)))

number_task_ok : (w : List ℕ) (k : Option ℕ) → IfSome k IsNumber → IfSome (option_and_then (peer_task w) k) IsTask
number_task_ok w None h = tt
number_task_ok w (Some k) h = peer_task_ok w k h

two_parts_ok : (w a : List ℕ) → IfSome (task_of_two w a) IsTask
unfolding task_of_two
two_parts_ok w a =
    either (bytes_eq w (codes "rd")) _ _ IsTask (either (bytes_eq a (codes "rib")) (Some tasks.ReadRib) None IsTask tt tt)
    (number_task_ok w (name_number a) (number_ok a))

del_ok : (k s : Option ℕ) → IfSome k IsNumber → IfSome s IsNumber → IfSome (with_both (λ k s. Some (tasks.Del k s)) k s) IsTask
del_ok None s hk hs = tt
del_ok (Some k) None hk hs = tt
del_ok (Some k) (Some s) hk hs = (hk, hs)

rdel_ok : (proto : Option Proto) (n : Option ℕ) → IfSome n IsNumber → IfSome (with_both (λ proto n. Some (tasks.Rdel proto n)) proto n) IsTask
rdel_ok None n h = tt
rdel_ok (Some proto) None h = tt
rdel_ok (Some proto) (Some n) h = h

task_parts_ok : (ps : List (List ℕ)) → IfSome (task_from_parts ps) IsTask
unfolding task_from_parts task_of_three
task_parts_ok [] = tt
task_parts_ok (w ∷ []) = plain_task_ok w
task_parts_ok (w ∷ a ∷ []) = two_parts_ok w a
task_parts_ok (w ∷ a ∷ b ∷ []) =
    either (bytes_eq w (codes "del")) _ _ IsTask (del_ok (name_number a) (name_number b) (number_ok a) (number_ok b))
    (either (bytes_eq w (codes "rdel")) _ None IsTask (rdel_ok (proto_of a) (name_number b) (number_ok b)) tt)
task_parts_ok (w ∷ a ∷ b ∷ x ∷ more) = tt

task_ok : (word : List ℕ) → IfSome (task_of word) IsTask
task_ok word = task_parts_ok (parts 46 word)

link_named_ok : (v6 : Bool) (word : List ℕ) → IfSome (link_named v6 word) IsNamed
unfolding link_named
link_named_ok false word = link_ok word
link_named_ok true word = either (is_marked word) _ None IsNamed (link_ok (drop 2 word)) tt

task_named_ok : (v6 : Bool) (word : List ℕ) → IfSome (task_named v6 word) IsTask
unfolding task_named
task_named_ok false word = task_ok word
task_named_ok true word = either (is_marked word) _ None IsTask (task_ok (drop 2 word)) tt

-- ---- what either network is told
module _ (v6 : Bool) (profile : Profile) where
  filter_on_ok : (side : List ℕ) (k : ℕ) (rules : List Rule) → IsNumber k → AreRules v6 profile.as4 rules → IfSome (filter_on side k rules) (IsWellFormed v6 profile)
  unfolding filter_on
  filter_on_ok side k rules hk hr =
      either (bytes_eq side (codes "in")) (Some (events.FilterIn k rules)) _ (IsWellFormed v6 profile) (hk, hr)
      (either (bytes_eq side (codes "out")) (Some (events.FilterOut k rules)) None (IsWellFormed v6 profile) (hk, hr) tt)

  pub filter_ok : (ws : List (List ℕ)) → IfSome (filter_of v6 profile.as4 ws) (IsWellFormed v6 profile)
  unfolding filter_of
  filter_ok [] = tt
  filter_ok (side ∷ []) = tt
  filter_ok (side ∷ k ∷ ws) =
      and_then (from_one k) _ IsNumber (IsWellFormed v6 profile) (from_one_ok k) (λ n hn.
      and_then (rules_of v6 profile.as4 ws) _ (AreRules v6 profile.as4) (IsWellFormed v6 profile) (rules_ok v6 profile.as4 ws) (λ rules hr. filter_on_ok side n rules hn hr))

  route_add_ok : (ws : List (List ℕ)) → IfSome (route_add_of v6 ws) (IsWellFormed v6 profile)
  unfolding route_add_of
  route_add_ok [] = tt
  route_add_ok (proto ∷ []) = tt
  route_add_ok (proto ∷ p ∷ ws) =
      and_then (proto_of proto) _ (λ _. Unit {0}) (IsWellFormed v6 profile) (each (proto_of proto) (λ _. Unit {0}) (λ _ _. tt)) (λ o _.
      and_then (prefix_of v6 p) _ (IsPrefixOf v6) (IsWellFormed v6 profile) (prefix_ok v6 p) (λ n hn.
      and_then (interior_of v6 o ws) _ (IsInterior v6) (IsWellFormed v6 profile) (interior_ok v6 o ws) (λ row hr. (hn, hr))))

  route_del_ok : (ws : List (List ℕ)) → IfSome (route_del_of v6 ws) (IsWellFormed v6 profile)
  unfolding route_del_of
  route_del_ok [] = tt
  route_del_ok (proto ∷ []) = tt
  route_del_ok (proto ∷ p ∷ []) =
      and_then (proto_of proto) _ (λ _. Unit {0}) (IsWellFormed v6 profile) (each (proto_of proto) (λ _. Unit {0}) (λ _ _. tt)) (λ o _.
      and_then (prefix_of v6 p) _ (IsPrefixOf v6) (IsWellFormed v6 profile) (prefix_ok v6 p) (λ n hn. hn))
  route_del_ok (proto ∷ p ∷ x ∷ more) = tt

  pub route_ok : (ws : List (List ℕ)) → IfSome (route_of v6 ws) (IsWellFormed v6 profile)
  unfolding route_of
  route_ok [] = tt
  route_ok (w ∷ ws) =
      either (bytes_eq w (codes "add")) _ _ (IsWellFormed v6 profile) (route_add_ok ws)
      (either (bytes_eq w (codes "del")) _ None (IsWellFormed v6 profile) (route_del_ok ws) tt)

  pub lost_ok : (ws : List (List ℕ)) → IfSome (lost_of ws) (IsWellFormed v6 profile)
  unfolding lost_of
  lost_ok [] = tt
  lost_ok (proto ∷ []) = and_then (proto_of proto) _ (λ _. Unit {0}) (IsWellFormed v6 profile) (each (proto_of proto) (λ _. Unit {0}) (λ _ _. tt)) (λ o _. tt)
  lost_ok (proto ∷ x ∷ more) = tt

  pub redist_ok : (ws : List (List ℕ)) → IfSome (redist_of ws) (IsWellFormed v6 profile)
  unfolding redist_of
  redist_ok [] = tt
  redist_ok (proto ∷ []) = tt
  redist_ok (proto ∷ state ∷ []) =
      and_then (proto_of proto) _ (λ _. Unit {0}) (IsWellFormed v6 profile) (each (proto_of proto) (λ _. Unit {0}) (λ _ _. tt)) (λ o _.
      and_then (switch_of state) _ (λ _. Unit {0}) (IsWellFormed v6 profile) (each (switch_of state) (λ _. Unit {0}) (λ _ _. tt)) (λ on _. tt))
  redist_ok (proto ∷ state ∷ x ∷ more) = tt

  pub cover_ok : (ws : List (List ℕ)) → IfSome (cover_of v6 ws) (IsWellFormed v6 profile)
  unfolding cover_of
  cover_ok [] = tt
  cover_ok (addr ∷ []) = and_then (addr_of v6 addr) _ (IsAddress v6) (IsWellFormed v6 profile) (addr_fits v6 addr) (λ a h. h)
  cover_ok (addr ∷ x ∷ more) = tt

  pub work_ok : (ws : List (List ℕ)) → IfSome (work_of v6 ws) (IsWellFormed v6 profile)
  unfolding work_of
  work_ok [] = tt
  work_ok (task ∷ []) = tt
  work_ok (task ∷ turns ∷ []) = and_then (task_named v6 task) _ IsTask (IsWellFormed v6 profile) (task_named_ok v6 task) (λ t ht. and_then (number_of turns) _ (λ n. n < 2 ^ 32) (IsWellFormed v6 profile) (below (2 ^ 32) turns) (λ n hn. (ht, hn)))
  work_ok (task ∷ turns ∷ x ∷ more) = tt

  pub ask_ok : (ws : List (List ℕ)) → IfSome (ask_of v6 ws) (IsWellFormed v6 profile)
  unfolding ask_of
  ask_ok [] = tt
  ask_ok (link ∷ []) = tt
  ask_ok (link ∷ p ∷ []) = and_then (link_named v6 link) _ IsNamed (IsWellFormed v6 profile) (link_named_ok v6 link) (λ l hl. and_then (prefix_of v6 p) _ (IsPrefixOf v6) (IsWellFormed v6 profile) (prefix_ok v6 p) (λ n hn. (hl, hn)))
  ask_ok (link ∷ p ∷ x ∷ more) = tt

  pub show_ok : (ws : List (List ℕ)) → IfSome (show_of v6 ws) (IsWellFormed v6 profile)
  unfolding show_of
  show_ok [] = tt
  show_ok (link ∷ []) = and_then (link_named v6 link) _ IsNamed (IsWellFormed v6 profile) (link_named_ok v6 link) (λ l hl. hl)
  show_ok (link ∷ x ∷ more) = tt

  pub settled_ok : (ws : List (List ℕ)) → IfSome (settled_of v6 ws) (IsWellFormed v6 profile)
  unfolding settled_of
  settled_ok [] = tt
  settled_ok (p ∷ []) = and_then (prefix_of v6 p) _ (IsPrefixOf v6) (IsWellFormed v6 profile) (prefix_ok v6 p) (λ n hn. hn)
  settled_ok (p ∷ x ∷ more) = tt

-- ---- lines
module _ (profile : Profile) where
  local_ok : (ws : List (List ℕ)) → IfSome (local_of profile.as4 ws) (IsWellFormed false profile)
  unfolding local_of
  local_ok ws = and_then (speaker_of profile.as4 ws) _ (IsSpeaker false profile.as4) (IsWellFormed false profile) (speaker_ok profile.as4 ws) (λ s h. h)

  peer_ok : (ws : List (List ℕ)) → IfSome (peer_of profile ws) (IsWellFormed false profile)
  unfolding peer_of
  peer_ok [] = tt
  peer_ok (k ∷ []) = tt
  peer_ok (k ∷ asn ∷ []) = tt
  peer_ok (k ∷ asn ∷ id ∷ []) = tt
  peer_ok (k ∷ asn ∷ id ∷ addr ∷ ws) =
      and_then (from_one k) _ IsNumber (IsWellFormed false profile) (from_one_ok k) (λ n hn.
      and_then (speaker_by profile.as4 asn id addr) _ (IsSpeaker false profile.as4) (IsWellFormed false profile) (speaker_by_ok profile.as4 asn id addr) (λ s hs.
      and_then (client_of profile ws) _ (MayBeClient profile) (IsWellFormed false profile) (client_ok profile ws) (λ client hc. (hn, hs, hc))))

  one_number_ok : (ws : List (List ℕ)) → IfSome (one_number ws) IsNumber
  unfolding one_number
  one_number_ok [] = tt
  one_number_ok (k ∷ []) = from_one_ok k
  one_number_ok (k ∷ x ∷ more) = tt

  bgp_ok : (ws : List (List ℕ)) → IfSome (bgp_of ws) (IsWellFormed false profile)
  unfolding bgp_of
  bgp_ok [] = tt
  bgp_ok (k ∷ []) = tt
  bgp_ok (k ∷ digits ∷ []) = and_then (from_one k) _ IsNumber (IsWellFormed false profile) (from_one_ok k) (λ n hn. and_then (octets_of digits) _ IsMessage (IsWellFormed false profile) (octets_ok digits) (λ octets ho. (hn, ho)))
  bgp_ok (k ∷ digits ∷ x ∷ more) = tt

  profile_ok : (w : List ℕ) (ws : List (List ℕ)) → IfSome (profile_event w ws) (IsWellFormed false profile)
  unfolding profile_event
  profile_ok w ws =
      either (bytes_eq w (codes "as4")) _ _ (IsWellFormed false profile) (either (nat_eq (length ws) 0) (Some (events.Whole whole.As4)) None (IsWellFormed false profile) tt tt)
      (either (bytes_eq w (codes "revised")) _ _ (IsWellFormed false profile) (either (nat_eq (length ws) 0) (Some (events.Whole whole.Revised)) None (IsWellFormed false profile) tt tt)
      (either (bytes_eq w (codes "reflect")) _ None (IsWellFormed false profile) (either (nat_eq (length ws) 0) (Some (events.Whole whole.Reflect)) None (IsWellFormed false profile) tt tt) tt))

  interior_event_ok : (w : List ℕ) (ws : List (List ℕ)) → IfSome (interior_event w ws) (IsWellFormed false profile)
  unfolding interior_event
  interior_event_ok w ws =
      either (bytes_eq w (codes "route")) _ _ (IsWellFormed false profile) (route_ok false profile ws)
      (either (bytes_eq w (codes "lost")) _ _ (IsWellFormed false profile) (lost_ok false profile ws)
      (either (bytes_eq w (codes "redist")) _ _ (IsWellFormed false profile) (redist_ok false profile ws)
      (either (bytes_eq w (codes "cover")) _ _ (IsWellFormed false profile) (cover_ok false profile ws) (profile_ok w ws))))

  plain_ok : (w : List ℕ) (ws : List (List ℕ)) → IfSome (plain_event w ws) (IsWellFormed false profile)
  unfolding plain_event
  plain_ok w ws =
      either (bytes_eq w (codes "up")) _ _ (IsWellFormed false profile) (and_then (one_number ws) _ IsNumber (IsWellFormed false profile) (one_number_ok ws) (λ k h. h))
      (either (bytes_eq w (codes "down")) _ _ (IsWellFormed false profile) (and_then (one_number ws) _ IsNumber (IsWellFormed false profile) (one_number_ok ws) (λ k h. h))
      (either (bytes_eq w (codes "idle")) _ _ (IsWellFormed false profile) (either (nat_eq (length ws) 0) (Some events.Idle) None (IsWellFormed false profile) tt tt)
      (either (bytes_eq w (codes "work")) _ _ (IsWellFormed false profile) (work_ok false profile ws)
      (either (bytes_eq w (codes "ask")) _ _ (IsWellFormed false profile) (ask_ok false profile ws)
      (either (bytes_eq w (codes "show")) _ _ (IsWellFormed false profile) (show_ok false profile ws)
      (either (bytes_eq w (codes "settled")) _ _ (IsWellFormed false profile) (settled_ok false profile ws) (interior_event_ok w ws)))))))

  named_ok : (w : List ℕ) (ws : List (List ℕ)) → IfSome (named_event profile w ws) (IsWellFormed false profile)
  unfolding named_event
  named_ok w ws =
      either (bytes_eq w (codes "local")) _ _ (IsWellFormed false profile) (local_ok ws)
      (either (bytes_eq w (codes "peer")) _ _ (IsWellFormed false profile) (peer_ok ws)
      (either (bytes_eq w (codes "bgp")) _ _ (IsWellFormed false profile) (bgp_ok ws)
      (either (bytes_eq w (codes "filter")) _ _ (IsWellFormed false profile) (filter_ok false profile ws) (plain_ok w ws))))

  -- the event of a line's words is well-formed
  pub event_ok : (ws : List (List ℕ)) → IfSome (event_of profile ws) (IsWellFormed false profile)
  unfolding event_of
  event_ok [] = tt
  event_ok (w ∷ ws) = either (starts_with nat_eq w (codes "#")) (Some events.Nothing) (named_event profile w ws) (IsWellFormed false profile) tt (named_ok w ws)
