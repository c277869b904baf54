-- Events of the second network alone, and `local6`.
use Rattle.std.proofs.Common.{◌≡◌, ℕ, suc, ◌==◌, ◌||◌, Bool, true, false, not, cond, List, [], ◌∷◌, length, Option, Some, None, is_none, refl, sym, ap, subst, ◌∙◌, arith}
use Rattle.std.proofs.lemmas.Bool.Decides.{nat_tests}
use Rattle.bgp_attr.specs.Speakers.{Speaker, IsSpeaker}
use Rattle.bgp_attr.specs.declared.speaker.Profile.{Profile}
use Rattle.journal_text.specs.declared.line.Code.{Code}
use Rattle.journal_text.specs.declared.line.Code.TheVariants.{E4, E7, E9}
use Rattle.event_text.specs.Event.{Event}
use Rattle.event_text.specs.declared.event.Event.TheVariants.{Nothing, FilterIn, FilterOut, RouteAdd, RouteDel, Lose, Redist, Idle, Work, Query}
use Rattle.event_text.specs.declared.event.FileEvent.TheVariants.{Second}
use Rattle.event_text.specs.declared.declared.DeclaredPeer.{DeclaredPeer}
use Rattle.event_text.specs.Declarations.{Declaration, refusal, refusal_at, refusal_by, IsDeclaredBy, IsDeclaration}
use Rattle.event_text.specs.FileEvents.{file_refusal, second_refusal, is_of_one}
use Rattle.event_text.specs.WellFormed.{IsWellFormed}
use Rattle.router.specs.Ties.{in_second, with_addr}
use Rattle.router.proofs.ToldLemmas.{one_declaration}
use Rattle.router.specs.Laws.{MayStandAlone, SecondMayStand, Local6MayStand}

-- ---- of the second network alone
-- what one network is told has no other words of its family in the way of it, and leaves what was declared
alone_by : (profile : Profile) (me me6 : Speaker) (peers : List DeclaredPeer) (event : Event) → refusal_by false me peers event ≡ None → IsWellFormed true profile event → is_of_one event ≡ true
    → MayStandAlone (record { v6 = true; profile = in_second profile; speaker = Some me6; peers = peers }) event
unfolding refusal
alone_by profile me me6 peers (FilterIn k rules) admitted formed own = record { admitted = admitted; formed = formed; stays = refl }
alone_by profile me me6 peers (FilterOut k rules) admitted formed own = record { admitted = admitted; formed = formed; stays = refl }
alone_by profile me me6 peers (RouteAdd p row) admitted formed own = record { admitted = admitted; formed = formed; stays = refl }
alone_by profile me me6 peers (RouteDel proto p) admitted formed own = record { admitted = admitted; formed = formed; stays = refl }
alone_by profile me me6 peers (Lose proto) admitted formed own = record { admitted = admitted; formed = formed; stays = refl }
alone_by profile me me6 peers (Redist proto on) admitted formed own = record { admitted = admitted; formed = formed; stays = refl }
alone_by profile me me6 peers (Work task n) admitted formed own = record { admitted = admitted; formed = formed; stays = refl }
alone_by profile me me6 peers (Query question) admitted formed own = record { admitted = admitted; formed = formed; stays = refl }
alone_by profile me me6 peers other admitted formed own = absurd (cc)

-- where `local` was declared and IPv6 is spoken
refused_alone : (d : Declaration) (me : Speaker) (event : Event) → d.speaker ≡ Some me → d.profile.v6 ≡ true → second_refusal d event ≡ None → refusal_by d.v6 me d.peers event ≡ None
unfolding refusal
refused_alone d me event local spoken e =
    subst (λ (s : Option Speaker). refusal (record d { speaker = s }) event ≡ None) local
    (ap (λ b. cond b (refusal d event) (Some E9)) (sym spoken) ∙ (ap (λ s. cond (is_none s) (Some E4) (cond d.profile.v6 (refusal d event) (Some E9))) (sym local) ∙ e))

-- whose network it is doesn't matter to why such an event is refused
in_first : (me : Speaker) (peers : List DeclaredPeer) (event : Event) (v6 : Bool) → is_of_one event ≡ true → refusal_by v6 me peers event ≡ None → refusal_by false me peers event ≡ None
in_first me peers (FilterIn k rules) v6 own e = e
in_first me peers (FilterOut k rules) v6 own e = e
in_first me peers (RouteAdd p row) v6 own e = e
in_first me peers (RouteDel proto p) v6 own e = e
in_first me peers (Lose proto) v6 own e = e
in_first me peers (Redist proto on) v6 own e = e
in_first me peers (Work task n) v6 own e = e
in_first me peers (Query question) v6 own e = e
in_first me peers other v6 own e = absurd (cc)

pub second_may : SecondMayStand
unfolding file_refusal
second_may d d6 event t admitted formed =
    let is6 : record { v6 = true; profile = in_second d.profile; speaker = Some (with_addr t.addr t.me); peers = d.peers } ≡ d6 = one_declaration d6 true (in_second d.profile) (Some (with_addr t.addr t.me)) d.peers t.family t.profile t.speaker6 t.peers in
    subst (λ (x : Declaration). MayStandAlone x event) is6
    (alone_by d.profile t.me (with_addr t.addr t.me) d.peers event (in_first t.me d.peers event d.v6 formed.1 (refused_alone d t.me event t.speaker t.spoken admitted)) formed.0 formed.1)

-- ---- `local6`
some_are : (n : ℕ) → (suc n == 0) ≡ false
some_are n = grind (arith, nat_tests)

-- what the two tests leave
pub begins : (s : Option Speaker) (v6 : Bool) (peers : List DeclaredPeer) → cond (is_none s) (Some E4) (cond (v6 || not (length peers == 0)) (Some E7) None) ≡ None
    → ((me : Speaker) × (s ≡ Some me)) × (v6 ≡ false) × (peers ≡ [])
begins None v6 peers e = absurd (cc)
begins (Some me) true peers e = absurd (let clash : ◌≡◌ {A = Option Code} (Some E7) None = e in cc)
begins (Some me) false [] e = ((me, refl), refl, refl)
begins (Some me) false (p ∷ ps) e = absurd (let clash : ◌≡◌ {A = Option Code} (Some E7) None = ap (λ b. cond {A = Option Code} (not b) (Some E7) None) (sym (some_are (length ps))) ∙ e in cc)

me_declared : (d : Declaration) (me : Speaker) → d.v6 ≡ false → d.speaker ≡ Some me → IsDeclaration d → IsSpeaker false d.profile.as4 me
me_declared d me first local is = subst (λ v6. IsSpeaker v6 d.profile.as4 me) first (subst (λ (s : Option Speaker). IsDeclaredBy d.v6 d.profile s d.peers) local is).speaker

pub local6_may : Local6MayStand
unfolding file_refusal
local6_may d addr declared first admitted said =
    let b = begins d.speaker d.profile.v6 d.peers admitted in
    let w = me_declared d b.0.0 first b.0.1 declared in
    record {
      me = b.0.0;
      local = b.0.1;
      alone = b.2;
      unspoken = b.1;
      words = record { asn_least = w.asn_least; asn_most = w.asn_most; id_least = w.id_least; id_fits = w.id_fits; host = said.0; addr_fits = said.1 };
      family = record { second = refl; spoken = λ _. refl };
      tied = record { family = refl; spoken = refl; profile = refl; me = b.0.0; addr = addr; speaker = b.0.1; speaker6 = refl; peers = sym b.2 };
    }

-- where an event of the second network may stand, it is there
spoken_by : (o : Option Speaker) (v6 : Bool) (r : Option Code) → cond (is_none o) (Some E4) (cond v6 r (Some E9)) ≡ None → v6 ≡ true
spoken_by None v6 r e = absurd (let clash : ◌≡◌ {A = Option Code} (Some E4) None = e in cc)
spoken_by (Some me) true r e = refl
spoken_by (Some me) false r e = absurd (let clash : ◌≡◌ {A = Option Code} (Some E9) None = e in cc)

pub second_is_spoken : (d : Declaration) (event : Event) → file_refusal d (Second event) ≡ None → d.profile.v6 ≡ true
unfolding file_refusal
second_is_spoken d event e = spoken_by d.speaker d.profile.v6 (refusal d event) e

-- an idle may stand wherever `local` was said
pub idle_may : (d : Declaration) (me : Speaker) → d.speaker ≡ Some me → refusal d Idle ≡ None
unfolding refusal
idle_may d me local = subst (λ (s : Option Speaker). refusal (record d { speaker = s }) Idle ≡ None) (sym local) refl

-- a line without words may stand anywhere
pub nothing_may : (d : Declaration) → refusal d Nothing ≡ None
unfolding refusal
nothing_may d = by_speaker d.speaker
  where
    by_speaker : (s : Option Speaker) → refusal_at d.v6 d.profile s d.peers Nothing ≡ None
    by_speaker None = refl
    by_speaker (Some me) = refl
