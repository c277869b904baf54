-- Too many words, and the protocol of one.
use Rattle.std.proofs.Common.{◌≡◌, ℕ, Bool, false, List, [], ◌∷◌, length, Option, Some, None, codes, nat_eq, refl}
use Rattle.std.specs.Prelude.{if◌then◌else◌}
use Rattle.std.specs.Str.{bytes_eq}
use Rattle.rib_route.specs.declared.Proto.{Proto}
use Rattle.rib_route.specs.declared.Proto.TheVariants.{Connected, Static, Ospf, Rip}
use Rattle.journal_text.specs.Names.{proto_of}
use Rattle.policy_rules.specs.Words.{words}
use Rattle.bgp_attr.specs.declared.speaker.Profile.{Profile}
use Rattle.event_text.specs.Words.{speaker_of, client_of, way_out}
use Rattle.event_text.specs.FileEvents.{local6_of}
use Rattle.event_text.specs.Events.{one_number, bgp_of, route_del_of, lost_of, redist_of, cover_of, work_of, ask_of, show_of, settled_of}

four : (as4 : Bool) (a b c : List ℕ) (more : List (List ℕ)) → nat_eq (length more) 0 ≡ false → speaker_of as4 (a ∷ b ∷ c ∷ more) ≡ None
unfolding speaker_of
four as4 a b c [] some = absurd (cc)
four as4 a b c (d ∷ more) some = refl

pub no_fourth_word : (as4 : Bool) (a b c r : List ℕ) → nat_eq (length (words r)) 0 ≡ false → speaker_of as4 (a ∷ b ∷ c ∷ words r) ≡ None
no_fourth_word as4 a b c r some = four as4 a b c (words r) some

behind_client : (p : Profile) (a : List ℕ) (more : List (List ℕ)) → nat_eq (length more) 0 ≡ false → client_of p (a ∷ more) ≡ None
unfolding client_of
behind_client p a [] some = absurd (cc)
behind_client p a (d ∷ more) some = refl

pub no_word_behind_client : (p : Profile) (a r : List ℕ) → nat_eq (length (words r)) 0 ≡ false → client_of p (a ∷ words r) ≡ None
no_word_behind_client p a r some = behind_client p a (words r) some

behind_octets : (a b : List ℕ) (more : List (List ℕ)) → nat_eq (length more) 0 ≡ false → bgp_of (a ∷ b ∷ more) ≡ None
unfolding bgp_of
behind_octets a b [] some = absurd (cc)
behind_octets a b (d ∷ more) some = refl

pub no_word_behind_octets : (a b r : List ℕ) → nat_eq (length (words r)) 0 ≡ false → bgp_of (a ∷ b ∷ words r) ≡ None
no_word_behind_octets a b r some = behind_octets a b (words r) some

behind_turns : (v6 : Bool) (a b : List ℕ) (more : List (List ℕ)) → nat_eq (length more) 0 ≡ false → work_of v6 (a ∷ b ∷ more) ≡ None
unfolding work_of
behind_turns v6 a b [] some = absurd (cc)
behind_turns v6 a b (d ∷ more) some = refl

pub no_word_behind_turns : (v6 : Bool) (a b r : List ℕ) → nat_eq (length (words r)) 0 ≡ false → work_of v6 (a ∷ b ∷ words r) ≡ None
no_word_behind_turns v6 a b r some = behind_turns v6 a b (words r) some

behind_prefix : (v6 : Bool) (a b : List ℕ) (more : List (List ℕ)) → nat_eq (length more) 0 ≡ false → ask_of v6 (a ∷ b ∷ more) ≡ None
unfolding ask_of
behind_prefix v6 a b [] some = absurd (cc)
behind_prefix v6 a b (d ∷ more) some = refl

pub no_word_behind_prefix : (v6 : Bool) (a b r : List ℕ) → nat_eq (length (words r)) 0 ≡ false → ask_of v6 (a ∷ b ∷ words r) ≡ None
no_word_behind_prefix v6 a b r some = behind_prefix v6 a b (words r) some

behind_number : (a : List ℕ) (more : List (List ℕ)) → nat_eq (length more) 0 ≡ false → one_number (a ∷ more) ≡ None
unfolding one_number
behind_number a [] some = absurd (cc)
behind_number a (d ∷ more) some = refl

pub no_word_behind_number : (a r : List ℕ) → nat_eq (length (words r)) 0 ≡ false → one_number (a ∷ words r) ≡ None
no_word_behind_number a r some = behind_number a (words r) some

behind_link : (v6 : Bool) (a : List ℕ) (more : List (List ℕ)) → nat_eq (length more) 0 ≡ false → show_of v6 (a ∷ more) ≡ None
unfolding show_of
behind_link v6 a [] some = absurd (cc)
behind_link v6 a (d ∷ more) some = refl

pub no_word_behind_link : (v6 : Bool) (a r : List ℕ) → nat_eq (length (words r)) 0 ≡ false → show_of v6 (a ∷ words r) ≡ None
no_word_behind_link v6 a r some = behind_link v6 a (words r) some

behind_metric : (proto : Proto) (gateway : Option ℕ) (a b : List ℕ) (more : List (List ℕ)) → nat_eq (length more) 0 ≡ false → way_out proto gateway (a ∷ b ∷ more) ≡ None
unfolding way_out
behind_metric proto gateway a b [] some = absurd (cc)
behind_metric proto gateway a b (d ∷ more) some = refl

pub no_word_behind_metric : (proto : Proto) (gateway : Option ℕ) (a b r : List ℕ) → nat_eq (length (words r)) 0 ≡ false → way_out proto gateway (a ∷ b ∷ words r) ≡ None
no_word_behind_metric proto gateway a b r some = behind_metric proto gateway a b (words r) some

behind_route : (v6 : Bool) (a b : List ℕ) (more : List (List ℕ)) → nat_eq (length more) 0 ≡ false → route_del_of v6 (a ∷ b ∷ more) ≡ None
unfolding route_del_of
behind_route v6 a b [] some = absurd (cc)
behind_route v6 a b (d ∷ more) some = refl

pub no_word_behind_route : (v6 : Bool) (a b r : List ℕ) → nat_eq (length (words r)) 0 ≡ false → route_del_of v6 (a ∷ b ∷ words r) ≡ None
no_word_behind_route v6 a b r some = behind_route v6 a b (words r) some

behind_protocol : (a : List ℕ) (more : List (List ℕ)) → nat_eq (length more) 0 ≡ false → lost_of (a ∷ more) ≡ None
unfolding lost_of
behind_protocol a [] some = absurd (cc)
behind_protocol a (d ∷ more) some = refl

pub no_word_behind_protocol : (a r : List ℕ) → nat_eq (length (words r)) 0 ≡ false → lost_of (a ∷ words r) ≡ None
no_word_behind_protocol a r some = behind_protocol a (words r) some

behind_switch : (a b : List ℕ) (more : List (List ℕ)) → nat_eq (length more) 0 ≡ false → redist_of (a ∷ b ∷ more) ≡ None
unfolding redist_of
behind_switch a b [] some = absurd (cc)
behind_switch a b (d ∷ more) some = refl

pub no_word_behind_switch : (a b r : List ℕ) → nat_eq (length (words r)) 0 ≡ false → redist_of (a ∷ b ∷ words r) ≡ None
no_word_behind_switch a b r some = behind_switch a b (words r) some

behind_addr : (v6 : Bool) (a : List ℕ) (more : List (List ℕ)) → nat_eq (length more) 0 ≡ false → cover_of v6 (a ∷ more) ≡ None
unfolding cover_of
behind_addr v6 a [] some = absurd (cc)
behind_addr v6 a (d ∷ more) some = refl

pub no_word_behind_addr : (v6 : Bool) (a r : List ℕ) → nat_eq (length (words r)) 0 ≡ false → cover_of v6 (a ∷ words r) ≡ None
no_word_behind_addr v6 a r some = behind_addr v6 a (words r) some

behind_one_prefix : (v6 : Bool) (a : List ℕ) (more : List (List ℕ)) → nat_eq (length more) 0 ≡ false → settled_of v6 (a ∷ more) ≡ None
unfolding settled_of
behind_one_prefix v6 a [] some = absurd (cc)
behind_one_prefix v6 a (d ∷ more) some = refl

pub no_word_behind_one_prefix : (v6 : Bool) (a r : List ℕ) → nat_eq (length (words r)) 0 ≡ false → settled_of v6 (a ∷ words r) ≡ None
no_word_behind_one_prefix v6 a r some = behind_one_prefix v6 a (words r) some

behind_addr6 : (a : List ℕ) (more : List (List ℕ)) → nat_eq (length more) 0 ≡ false → local6_of (a ∷ more) ≡ None
unfolding local6_of
behind_addr6 a [] some = absurd (cc)
behind_addr6 a (d ∷ more) some = refl

pub no_word_behind_addr6 : (a r : List ℕ) → nat_eq (length (words r)) 0 ≡ false → local6_of (a ∷ words r) ≡ None
no_word_behind_addr6 a r some = behind_addr6 a (words r) some

-- ---- protocols
pub protocol_is : (w : List ℕ) → proto_of w ≡ (if bytes_eq w (codes "connected") then Some Connected else if bytes_eq w (codes "static") then Some Static else if bytes_eq w (codes "ospf") then Some Ospf else if bytes_eq w (codes "rip") then Some Rip else None)
unfolding proto_of
protocol_is w = refl
