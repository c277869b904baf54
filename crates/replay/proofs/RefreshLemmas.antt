-- What was said since a peer asked for all routes again.
use Rattle.std.proofs.Common.{◌≡◌, ℕ, ◌+◌, not, Bool, false, List, [], Option, Some, None, refl, sym, ap, subst, ◌∙◌}
use Rattle.std.specs.FinMap as tables
use Rattle.std.specs.FinMap.{get-empty}
use Rattle.addr4.specs.Prefixes.{AddressPrefix, prefix_cmp}
use Rattle.bgp_attr.specs.Attributes.{Attrs}
use Rattle.bgp_attr.specs.declared.speaker.Neighbour.{Neighbour}
use Rattle.bgp_attr.specs.declared.speaker.Profile.{Profile}
use Rattle.bgp_attr.specs.Speakers.{Speaker}
use Rattle.journal_text.specs.Lines.{Line}
use Rattle.journal_text.specs.declared.link.Task.TheVariants.{Ref}
use Rattle.event_text.specs.declared.event.FileEvent.{FileEvent}
use Rattle.event_text.specs.declared.declared.DeclaredPeer.{DeclaredPeer}
use Rattle.event_text.specs.Declarations.{peer_at}
use Rattle.journal_laws.specs.FamilyLines.{lines_in}
use Rattle.live_state.specs.Declared.{declared_after}
use Rattle.live_state.specs.Laws.{SessionsEnd}
use Rattle.live_state.specs.Refreshes.{IsAnnounced}
use Rattle.out_chain.specs.Chains.{OutChained}
use Rattle.exit_side.specs.Exits.{chain_at}
use Rattle.exit_laws.specs.Views.{sent_by, views_of}
use Rattle.exit_laws.specs.Served.{IsServed}
use Rattle.exit_laws.proofs.ServedLemmas.{serving_ends}
use Rattle.router_moments.specs.declared.tasks.Phase.TheVariants as phases
use Rattle.router_moments.specs.Moments.{Moment, Policies}
use Rattle.router_moments.specs.Refreshes.{IsServedAt}
use Rattle.router_moments.specs.Stands.{Stands, ExitsAt}
use Rattle.router_moments.specs.Turns.{has_work}
use Rattle.router.specs.Told.{told, declared_behind}
use Rattle.router.specs.Steps.{BothAct, FileActs}
use Rattle.replay.specs.Output.{AllStand}
use Rattle.replay.specs.Refreshes.{RefreshesAreServed, RefreshesEnd}
use Rattle.replay.proofs.Acted.{of_network, of_family_follows, both_move, moves_follow, networks_stand}
use Rattle.replay.proofs.Asking.{serves_from}
use Rattle.replay.proofs.Follows.{IsFollowed}
use Rattle.replay.proofs.Runs.{run_follows}
use Rattle.replay.proofs.SettledLinks.{IsIdled, all_idled}

-- ---- whose session an exit is
record IsExitOfPeer (p : DeclaredPeer) (c : OutChained) : Type 0 where
  session : c.session ≡ p.session
  words : c.peer ≡ p.words

exit_of : (s : Option Speaker) (policies : Policies) (j : ℕ) (o : Option DeclaredPeer) (p : DeclaredPeer) (c : OutChained) → o ≡ Some p → ExitsAt s policies j o (Some c) → IsExitOfPeer p c
exit_of None policies j o p c there is = absurd is
exit_of (Some me) policies j None p c there is = absurd is
exit_of (Some me) policies j (Some q) p c there is = let same : q ≡ p = (let both : Some q ≡ Some p = there in cc) in subst (λ (x : DeclaredPeer). IsExitOfPeer x c) same (record { session = is.session; words = is.words })

-- the exit of a peer that has a route
with_row : (o : Option OutChained) (p : AddressPrefix) (attrs : Attrs) → tables.get (sent_by o) p ≡ Some attrs → (c : OutChained) × (o ≡ Some c)
with_row None p attrs is = absurd (let none : tables.get (sent_by None) p ≡ None = get-empty prefix_cmp p in let clash : Some attrs ≡ None = sym is ∙ none in cc)
with_row (Some c) p attrs is = (c, refl)

-- ---- the theorem
-- where a network stands, and a peer was served by the lines since
module _ (at : Moment) (stands : Stands at) (k : ℕ) (peer : DeclaredPeer) (out : List Line) (there : peer_at k at.declared.peers ≡ Some peer) where
  announced : (session : ℕ) → peer.session ≡ session → IsServedAt k session at out → has_work (Ref k) at ≡ false → (p : AddressPrefix) (attrs : Attrs) → tables.get (views_of at.exits k) p ≡ Some attrs
      → IsAnnounced at.declared.profile (not peer.words.internal) k out p attrs
  announced asked is served done p attrs has =
      let chain = with_row (chain_at k at.exits) p attrs has in
      let c = chain.0 in
      let own : IsExitOfPeer peer c = exit_of at.declared.speaker at.outgoing k (peer_at k at.declared.peers) peer c there
      (subst (ExitsAt at.declared.speaker at.outgoing k (peer_at k at.declared.peers)) chain.1 (stands.exits.sessions k)) in
      let session : asked ≡ c.session = sym (own.session ∙ is) in
      let told : IsAnnounced c.exit.profile c.exit.external k out p attrs =
      serving_ends k at.exits out c chain.1 (subst (λ (s : ℕ). IsServed k s at.exits out) session served.served) done p attrs has in
      let profile : c.exit.profile ≡ at.declared.profile = (stands.exits.each.each k c chain.1).profile ∙ stands.exits.profile in
      let kind : c.exit.external ≡ not peer.words.internal = (stands.exits.read k c chain.1).chain.kind ∙ ap (λ (w : Neighbour). not w.internal) own.words in
      subst (λ (f : Profile). IsAnnounced f (not peer.words.internal) k out p attrs) profile
      (subst (λ (external : Bool). IsAnnounced c.exit.profile external k out p attrs) kind told)

pub refreshes_are_served : SessionsEnd → RefreshesAreServed
refreshes_are_served law v6 k out end at since done p attrs has =
    let step = since.step in
    let m = since.m in
    let next = since.next in
    let event = since.event in
    let acts : BothAct m event (told m.first.declared event) step.turns next since.said = subst (λ (e : FileEvent). FileActs m e step.turns next since.said) since.told step.acts in
    let declared : next.first.declared ≡ declared_after m.first.declared event = subst (λ (e : FileEvent). next.first.declared ≡ declared_behind m.first.declared e) since.told step.declared in
    let first = serves_from law k event since.asker v6 m next since.before step.turns since.said since.was since.asks step.same declared acts in
    let moves = both_move m next event (told m.first.declared event) step.turns since.said (λ is. ap (told m.first.declared) is) acts in
    let stand : AllStand next = networks_stand m next since.said (moves_follow m next since.said moves) in
    let followed : IsFollowed first.0 (lines_in v6 out) at = of_family_follows v6 next end out first.0 at (run_follows (since.n + 1) next end since.later out stand since.run) first.1 since.is in
    announced at followed.stands k since.peer (lines_in v6 out) since.there since.asker.session since.session (followed.serves k since.asker.session [] first.2) done p attrs has

pub refreshes_end : RefreshesEnd
refreshes_end v6 n k m next at line said step is there =
    (of_network (λ v6. IsIdled) v6 next at (all_idled m next step.event step.turns said step.acts is) there).settled phases.Ref k
