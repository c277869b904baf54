-- A protocol that is redistributed from now on, or isn't: that changes no row yet.
use Rattle.router_moments.proofs.Common.{sym, subst, ◌∙◌, ap, ◌≡◌, refl, true, false, Bool, cond, Route, Speaker, Redist, AllStand, AllLead, leads_nowhere, Rows, joined, Region, Decided, Redistributed, Outward, speaker_since, Passed, present, redistributed, has, Protos, StandsOver, Proto, Connected, Static, Ospf, Rip, Interior, int_rows, own_rows, best_at, best_links, own_links, live_state, Moment, best_of, router_links, own_of, read_rows_by, parts, read_links, with_redist, Stands, HasStepped}
use Rattle.std.proofs.Common.{[], Option, Some, None, IsSome, is_some}
use Rattle.pass_core.specs.Passed.{edited}
use Rattle.pass_core.proofs.TurnLemmas.{an_edit_keeps_the_rows}
use Rattle.redist.specs.Protocols.{with_proto}
use Rattle.event_text.specs.Declarations.{refusal}
use Rattle.exit_side.specs.Exits.{exit_links}
use Rattle.link_region.specs.declared.regions.Region.TheVariants.{External}
use Rattle.live_state.specs.Lives.{with_redistributed, same_protocol}
use Rattle.router_moments.proofs.HeardSteps.{heard_quiet}
use Rattle.router_moments.proofs.PeerLemmas.{present_edited}

-- the set has what was put into it, and of all else what it had
put_in : (s : Protos) (proto : Proto) (on : Bool) (other : Proto) → has (with_proto s proto on) other ≡ cond (same_protocol other proto) on (has s other)
put_in s Connected on other = elim other as (λ o. has (with_proto s Connected on) o ≡ cond (same_protocol o Connected) on (has s o)) [ Connected ↦ refl | Static ↦ refl | Ospf ↦ refl | Rip ↦ refl ]
put_in s Static on other = elim other as (λ o. has (with_proto s Static on) o ≡ cond (same_protocol o Static) on (has s o)) [ Connected ↦ refl | Static ↦ refl | Ospf ↦ refl | Rip ↦ refl ]
put_in s Ospf on other = elim other as (λ o. has (with_proto s Ospf on) o ≡ cond (same_protocol o Ospf) on (has s o)) [ Connected ↦ refl | Static ↦ refl | Ospf ↦ refl | Rip ↦ refl ]
put_in s Rip on other = elim other as (λ o. has (with_proto s Rip on) o ≡ cond (same_protocol o Rip) on (has s o)) [ Connected ↦ refl | Static ↦ refl | Ospf ↦ refl | Rip ↦ refl ]

-- rows of this speaker's own, where the sets are edited
pub own_edited : (speaker : Option Speaker) (s : Passed Protos) (latest : Protos) (int : Rows Interior) → own_rows speaker (edited s latest) int ≡ own_rows speaker s int
own_edited None s latest int = refl
own_edited (Some me) s latest int = an_edit_keeps_the_rows (redistributed me) s latest int

module _ (m : Moment) (proto : Proto) (on : Bool) (stands : Stands m) (since : IsSome m.declared.speaker) where
  abbrev latest : Protos
  latest = with_proto (present m.redist) proto on

  abbrev then : Moment
  then = with_redist m (edited m.redist latest)

  same_own : own_of then ≡ own_of m
  same_own = own_edited m.declared.speaker m.redist latest (int_rows m.tree)

  same_best : best_of then ≡ best_of m
  same_best = ap (λ (own : Rows Route). best_at own m.chains m.hops) same_own

  then_stands : Stands then
  then_stands = record {
    peers = stands.peers;
    interior = stands.interior;
    registered = stands.registered;
    hops = stands.hops;
    exits = record {
      rows = stands.exits.rows;
      each = stands.exits.each;
      all = subst (λ (rows : Rows Route). AllLead m.exits.queue rows) (sym same_best) stands.exits.all;
      read = subst (λ (rows : Rows Route). AllStand rows m.exits) (sym same_best) stands.exits.read;
      profile = stands.exits.profile;
      sender = stands.exits.sender;
      sessions = stands.exits.sessions;
      one = stands.exits.one;
      external = subst (λ (rows : Rows Route). StandsOver (read_rows_by m.exits.queue m.reader rows) m.rib) (sym same_best) stands.exits.external;
    };
    external = stands.external;
    waits = record { own = λ none. absurd (let clash : true ≡ false = sym since ∙ ap is_some none in cc); external = stands.waits.external };
  }

  same_parts : parts then ≡ parts m
  same_parts i r = each r i
    where
      each : (r : Region) → parts then r ≡ parts m r
      each Redistributed = ap (own_links m.declared.speaker) same_own
      each Decided = ap (best_links m.declared.speaker) same_best
      each External = ap (read_links m.exits.queue m.reader) same_best
      each Outward = ap (exit_links m.exits) same_best
      each other = refl

  same_links : router_links then ≡ router_links m
  same_links = ap joined same_parts

  redistributes : HasStepped m (Redist proto on) 0 then []
  redistributes = record {
    block = (refl, refl, refl);
    live = record (live_state m) { redistributed = with_redistributed (live_state m).redistributed proto on };
    after = refl;
    keeps = record {
      leads = leads_nowhere (router_links m) (router_links then) (sym same_links);
      live = ap (λ (s : Protos). record (live_state m) { redistributed = has s }) (present_edited m.redist.in_force m.redist.walk latest)
          ∙ (λ i. record (live_state m) { redistributed = λ other. put_in (present m.redist) proto on other i });
      stands = then_stands;
      heard = heard_quiet m then [] tt refl;
    };
  }

pub own_is_edited : (m v : Moment) (proto : Proto) (on : Bool) (s : Passed Protos) → v ≡ m → Stands m → refusal m.declared (Redist proto on) ≡ None → s ≡ edited v.redist (with_proto (present v.redist) proto on)
    → HasStepped m (Redist proto on) 0 (record v { redist = s }) []
own_is_edited m v proto on s view stands admitted is =
    subst (λ (n : Moment). HasStepped n (Redist proto on) 0 (record v { redist = s }) []) view
    (subst (λ (x : Passed Protos). HasStepped v (Redist proto on) 0 (record v { redist = x }) []) (sym is)
    (redistributes v proto on (subst Stands (sym view) stands) (subst (λ (n : Moment). IsSome n.declared.speaker) (sym view) (speaker_since m.declared (Redist proto on) (λ e. cc) admitted))))
