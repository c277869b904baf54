-- Each event of a file is well said; and what stays true behind `local6`.
use Rattle.std.proofs.Common.{◌≡◌, ℕ, Bool, true, List, [], ◌∷◌, Option, Some, None, option_map, refl, IfSome, codes}
use Rattle.std.specs.Str.{bytes_eq}
use Rattle.addr4.specs.Families.{IsAddress}
use Rattle.addr4.specs.Hosts.{is_host}
use Rattle.addr4.specs.Texts.{number_of, addr_of, prefix_of}
use Rattle.bgp_attr.specs.Speakers.{Speaker}
use Rattle.bgp_attr.specs.declared.speaker.Profile.{Profile}
use Rattle.journal_text.specs.Names.{proto_of}
use Rattle.policy_rules.specs.Grammar.{rules_of}
use Rattle.policy_rules.specs.Rules.{Rule}
use Rattle.policy_rules.specs.Words.{◌>>=◌}
use Rattle.policy_rules.proofs.RangeLemmas.{either, and_then}
use Rattle.event_text.specs.Event.{Event}
use Rattle.event_text.specs.declared.event.Event.TheVariants as events
use Rattle.event_text.specs.declared.event.FileEvent.TheVariants.{Second}
use Rattle.event_text.specs.declared.declared.DeclaredPeer.{DeclaredPeer}
use Rattle.event_text.specs.Words.{from_one, interior_of, switch_of, link_named, task_named, host6_of}
use Rattle.event_text.specs.Events.{filter_on, filter_of, route_add_of, route_del_of, route_of, lost_of, redist_of, cover_of, work_of, ask_of, show_of, settled_of}
use Rattle.event_text.specs.FileEvents.{worded_event, second_named, local6_of, second_of, with_ipv6, is_of_one, IsWellSaid}
use Rattle.event_text.specs.Declarations.{Declaration, with_profile, to_peers, ArePeersOf, IsDeclaredBy, IsDeclaration}
use Rattle.event_text.specs.WellFormed.{IsWellFormed}
use Rattle.event_text.proofs.WellFormedLemmas.{host6_ok, filter_ok, route_ok, lost_ok, redist_ok, cover_ok, work_ok, ask_ok, show_ok, settled_ok}

-- ---- one network is told it
abbrev IsOne : Event → Type 0
IsOne event = is_of_one event ≡ true

behind : {A : Type 0} (o : Option A) (f : A → Option Event) → ((x : A) → IfSome (f x) IsOne) → IfSome (o >>= f) IsOne
behind None f each = tt
behind (Some x) f each = each x

filter_on_one : (side : List ℕ) (k : ℕ) (rules : List Rule) → IfSome (filter_on side k rules) IsOne
unfolding filter_on
filter_on_one side k rules =
    either (bytes_eq side (codes "in")) (Some (events.FilterIn k rules)) _ IsOne refl
    (either (bytes_eq side (codes "out")) (Some (events.FilterOut k rules)) None IsOne refl tt)

filter_one : (as4 : Bool) (ws : List (List ℕ)) → IfSome (filter_of true as4 ws) IsOne
unfolding filter_of
filter_one as4 [] = tt
filter_one as4 (side ∷ []) = tt
filter_one as4 (side ∷ k ∷ ws) = behind (from_one k) _ (λ n. behind (rules_of true as4 ws) _ (λ rules. filter_on_one side n rules))

route_add_one : (ws : List (List ℕ)) → IfSome (route_add_of true ws) IsOne
unfolding route_add_of
route_add_one [] = tt
route_add_one (proto ∷ []) = tt
route_add_one (proto ∷ p ∷ ws) = behind (proto_of proto) _ (λ o. behind (prefix_of true p) _ (λ n. behind (interior_of true o ws) _ (λ row. refl)))

route_del_one : (ws : List (List ℕ)) → IfSome (route_del_of true ws) IsOne
unfolding route_del_of
route_del_one [] = tt
route_del_one (proto ∷ []) = tt
route_del_one (proto ∷ p ∷ []) = behind (proto_of proto) _ (λ o. behind (prefix_of true p) _ (λ n. refl))
route_del_one (proto ∷ p ∷ x ∷ more) = tt

route_one : (ws : List (List ℕ)) → IfSome (route_of true ws) IsOne
unfolding route_of
route_one [] = tt
route_one (w ∷ ws) =
    either (bytes_eq w (codes "add")) _ _ IsOne (route_add_one ws)
    (either (bytes_eq w (codes "del")) _ None IsOne (route_del_one ws) tt)

lost_one : (ws : List (List ℕ)) → IfSome (lost_of ws) IsOne
unfolding lost_of
lost_one [] = tt
lost_one (proto ∷ []) = behind (proto_of proto) _ (λ o. refl)
lost_one (proto ∷ x ∷ more) = tt

redist_one : (ws : List (List ℕ)) → IfSome (redist_of ws) IsOne
unfolding redist_of
redist_one [] = tt
redist_one (proto ∷ []) = tt
redist_one (proto ∷ state ∷ []) = behind (proto_of proto) _ (λ o. behind (switch_of state) _ (λ on. refl))
redist_one (proto ∷ state ∷ x ∷ more) = tt

cover_one : (ws : List (List ℕ)) → IfSome (cover_of true ws) IsOne
unfolding cover_of
cover_one [] = tt
cover_one (addr ∷ []) = behind (addr_of true addr) _ (λ a. refl)
cover_one (addr ∷ x ∷ more) = tt

settled_one : (ws : List (List ℕ)) → IfSome (settled_of true ws) IsOne
unfolding settled_of
settled_one [] = tt
settled_one (p ∷ []) = behind (prefix_of true p) _ (λ n. refl)
settled_one (p ∷ x ∷ more) = tt

work_one : (ws : List (List ℕ)) → IfSome (work_of true ws) IsOne
unfolding work_of
work_one [] = tt
work_one (task ∷ []) = tt
work_one (task ∷ turns ∷ []) = behind (task_named true task) _ (λ t. behind (number_of turns) _ (λ n. refl))
work_one (task ∷ turns ∷ x ∷ more) = tt

ask_one : (ws : List (List ℕ)) → IfSome (ask_of true ws) IsOne
unfolding ask_of
ask_one [] = tt
ask_one (link ∷ []) = tt
ask_one (link ∷ p ∷ []) = behind (link_named true link) _ (λ l. behind (prefix_of true p) _ (λ n. refl))
ask_one (link ∷ p ∷ x ∷ more) = tt

show_one : (ws : List (List ℕ)) → IfSome (show_of true ws) IsOne
unfolding show_of
show_one [] = tt
show_one (link ∷ []) = behind (link_named true link) _ (λ l. refl)
show_one (link ∷ x ∷ more) = tt

-- ---- lines
module _ (profile : Profile) where
  abbrev IsSecond : Event → Type 0
  IsSecond event = IsWellFormed true profile event × IsOne event

  both : (o : Option Event) → IfSome o (IsWellFormed true profile) → IfSome o IsOne → IfSome o IsSecond
  both None formed one = tt
  both (Some event) formed one = (formed, one)

  worded_ok : (w : List ℕ) (ws : List (List ℕ)) → IfSome (worded_event w ws) IsSecond
  unfolding worded_event
  worded_ok w ws =
      either (bytes_eq w (codes "route")) _ _ IsSecond (both (route_of true ws) (route_ok true profile ws) (route_one ws))
      (either (bytes_eq w (codes "cover")) _ _ IsSecond (both (cover_of true ws) (cover_ok true profile ws) (cover_one ws))
      (either (bytes_eq w (codes "settled")) _ _ IsSecond (both (settled_of true ws) (settled_ok true profile ws) (settled_one ws))
      (either (bytes_eq w (codes "work")) _ _ IsSecond (both (work_of true ws) (work_ok true profile ws) (work_one ws))
      (either (bytes_eq w (codes "ask")) _ _ IsSecond (both (ask_of true ws) (ask_ok true profile ws) (ask_one ws))
      (either (bytes_eq w (codes "show")) _ None IsSecond (both (show_of true ws) (show_ok true profile ws) (show_one ws)) tt)))))

  second_named_ok : (w : List ℕ) (ws : List (List ℕ)) → IfSome (second_named profile w ws) IsSecond
  unfolding second_named
  second_named_ok w ws =
      either (bytes_eq w (codes "filter6")) _ _ IsSecond (both (filter_of true profile.as4 ws) (filter_ok true profile ws) (filter_one profile.as4 ws))
      (either (bytes_eq w (codes "lost6")) _ _ IsSecond (both (lost_of ws) (lost_ok true profile ws) (lost_one ws))
      (either (bytes_eq w (codes "redist6")) _ _ IsSecond (both (redist_of ws) (redist_ok true profile ws) (redist_one ws)) (worded_ok w ws)))

  local6_ok : (ws : List (List ℕ)) → IfSome (local6_of ws) (IsWellSaid profile)
  unfolding local6_of
  local6_ok [] = tt
  local6_ok (addr ∷ []) = and_then (host6_of addr) _ (λ a. (is_host true a ≡ true) × IsAddress true a) (IsWellSaid profile) (host6_ok addr) (λ a h. h)
  local6_ok (addr ∷ x ∷ more) = tt

  said_second : (o : Option Event) → IfSome o IsSecond → IfSome (option_map Second o) (IsWellSaid profile)
  said_second None h = tt
  said_second (Some event) h = h

  pub second_ok : (ws : List (List ℕ)) → IfSome (second_of profile ws) (IsWellSaid profile)
  unfolding second_of
  second_ok [] = tt
  second_ok (w ∷ ws) = either (bytes_eq w (codes "local6")) _ _ (IsWellSaid profile) (local6_ok ws) (said_second (second_named profile w ws) (second_named_ok w ws))

-- ---- behind `local6`
peers_ipv6 : (profile : Profile) (local : Speaker) (ps : List DeclaredPeer) → ArePeersOf profile local ps → ArePeersOf (with_ipv6 profile) local ps
peers_ipv6 profile local [] each = tt
peers_ipv6 profile local (p ∷ ps) each =
    let w = each.0.words in (
      record {
        words = record { neighbour = w.neighbour; internal = w.internal; client = w.client; reflected = w.reflected; foreign = w.foreign };
        begun = each.0.begun;
      },
      peers_ipv6 profile local ps each.1,
    )

pub ipv6_kept : (d : Declaration) → IsDeclaration d → IsDeclaration (with_profile d (with_ipv6 d.profile))
ipv6_kept d declared = by_speaker d.speaker declared
  where
    by_speaker : (o : Option Speaker) → IsDeclaredBy d.v6 d.profile o d.peers → IsDeclaredBy d.v6 (with_ipv6 d.profile) o d.peers
    by_speaker None none = none
    by_speaker (Some local) are =
        record {
          speaker = record { asn_least = are.speaker.asn_least; asn_most = are.speaker.asn_most; id_least = are.speaker.id_least; id_fits = are.speaker.id_fits; host = are.speaker.host; addr_fits = are.speaker.addr_fits };
          each = peers_ipv6 d.profile (to_peers d.v6 local) d.peers are.each;
          counted = are.counted;
          addrs = are.addrs;
        }
