-- A refresh that a peer asked for, and one turn of it: the walk of its exit becomes another, and nothing else changes.
use Rattle.router_moments.proofs.Common.{sym, subst, ◌∙◌, ap, ◌≡◌, ℕ, refl, List, true, arith, false, Bool, cond, AddressPrefix, Route, Speaker, peer_at, DeclaredPeer, Exited, Queued, AllLead, neighbours, leads_nowhere, Journaled, flushed, entries_of, Leads, Links, Entry, Line, Link, Value, OutChained, live_state, Moment, best_of, router_links, with_exits, read_by, Policies, most_unread, unread_if, best_beyond, Stands, ExitsAt, Keeps, TakesTurn, IsWork, Taken}
use Rattle.std.proofs.Common.{[], length, Option, Some, None}
use Rattle.std.specs.FinMap as tables
use Rattle.journal_text.specs.declared.link.Link.TheVariants as links
use Rattle.journal_text.specs.declared.link.Task.TheVariants as tasks
use Rattle.bgp_wire.specs.declared.message.RouteRefresh.{RouteRefresh}
use Rattle.bgp_wire.specs.Grammar.{is_served}
use Rattle.out_chain.specs.Chains.{walk_on, refreshed as walk_begun}
use Rattle.exit_side.specs.Exits.{AreOutChains, chain_at as exit_at, refreshed_by, refreshed_exits}
use Rattle.exit_side.specs.Steps.{ResendsExit, ComesAgain}
use Rattle.exit_side.specs.Laws.{AreSameButRefresh}
use Rattle.exit_side.proofs.SwapLemmas.{by_number}
use Rattle.exit_side.proofs.RefreshLemmas.{refresh_keeps, resend_keeps, resend_leaves_fewer, standing_are_chains}
use Rattle.exit_laws.proofs.ResendLemmas.{resend_is_heard, refresh_keeps_views}
use Rattle.exit_laws.proofs.ViewLemmas.{put_here}
use Rattle.router_moments.specs.declared.tasks.Done.TheVariants.{Nothing}
use Rattle.router_moments.specs.declared.tasks.Phase.TheVariants as phases
use Rattle.router_moments.specs.Blocks.{refreshed}
use Rattle.router_moments.specs.Moments.{longest_of}
use Rattle.router_moments.specs.Turns.{IsRefreshTurn}
use Rattle.router_moments.specs.Printable.{IsHeard}
use Rattle.router_moments.proofs.HeardSteps.{heard_quiet, exits_declared}
use Rattle.router_moments.proofs.KeepLemmas.{keeps_none}
use Rattle.router_moments.proofs.StaleLemmas.{none_as_before}
use Rattle.router_moments.proofs.SessionLemmas.{stands_exits, external_kept, strangers_read, reads_as}
use Rattle.router_moments.proofs.SpendLemmas.{Spent}
use Rattle.router_moments.proofs.WorkLemmas.{one_turn}

-- the same session under the same rules, whatever its walk is
same_session : (s : Option Speaker) (policies : Policies) (k : ℕ) (p : Option DeclaredPeer) (c : OutChained) (walk : Option (Option AddressPrefix)) → ExitsAt s policies k p (Some c) → ExitsAt s policies k p (Some (record c { refresh = walk }))
same_session (Some me) policies k (Some p) c walk is = record { up = is.up; session = is.session; words = is.words; speaker = is.speaker; latest = is.latest }
same_session (Some me) policies k None c walk is = absurd is
same_session None policies k p c walk is = absurd is

-- ---- where the walk of one peer alone became another
module _ (m : Moment) (k : ℕ) (e : Exited) (stands : Stands m) (same : AreSameButRefresh k m.exits e) (here : ExitsAt m.declared.speaker m.outgoing k (peer_at k m.declared.peers) (exit_at k e)) where
  unread_same : (r : ℕ) → tables.get e.queue r ≡ tables.get m.exits.queue r
  unread_same r = ap (λ (q : Queued Route). tables.get q r) same.queue

  sessions : (j : ℕ) → ExitsAt m.declared.speaker m.outgoing j (peer_at j m.declared.peers) (exit_at j e)
  sessions j = by_number j k (λ b. ExitsAt m.declared.speaker m.outgoing j (peer_at j m.declared.peers) (exit_at j e))
      (λ is. subst (λ (n : ℕ). ExitsAt m.declared.speaker m.outgoing n (peer_at n m.declared.peers) (exit_at n e)) (sym is) here)
      (λ differ. subst (λ (o : Option OutChained). ExitsAt m.declared.speaker m.outgoing j (peer_at j m.declared.peers) o) (sym (same.others j differ)) (stands.exits.sessions j))

  rewalked_stands : Stands (with_exits m e)
  rewalked_stands = stands_exits m e stands same.sound (subst (λ (q : Queued Route). AllLead q (best_of m)) (sym same.queue) stands.exits.all) (same.stand (best_of m) stands.exits.read) (same.profile ∙ stands.exits.profile) sessions
      (strangers_read m.declared.speaker m.reader m.exits e (λ r is. record { own = same.strangers r (reads_as m stands r is).own; unread = unread_same r }) stands.exits.one) (external_kept m e stands (λ r is. unread_same r))

  same_links : router_links (with_exits m e) ≡ router_links m
  same_links i link = each link i
    where
      each : (link : Link) → router_links (with_exits m e) link ≡ router_links m link
      each (links.Read j s) = ap (λ (l : Links Value). l (links.Read j s)) (same.links (best_of m))
      each (links.Outf j s) = ap (λ (l : Links Value). l (links.Outf j s)) (same.links (best_of m))
      each (links.Adv j s) = ap (λ (l : Links Value). l (links.Adv j s)) (same.links (best_of m))
      each links.ReadRib = ap (λ (q : Queued Route). read_by q m.reader (best_of m)) same.queue
      each other = refl

  pub rewalked : (said : List Line) → entries_of said ≡ [] → IsHeard m said (with_exits m e) → Keeps (live_state m) m (with_exits m e) said
  rewalked said none heard = record {
    leads = subst (λ (es : List (Entry Value)). Leads (router_links m) es (router_links (with_exits m e))) (sym none) (leads_nowhere (router_links m) (router_links (with_exits m e)) (sym same_links));
    live = refl;
    stands = rewalked_stands;
    heard = heard;
  }

-- ---- a refresh that a peer asked for
module _ (k : ℕ) (m : Moment) (stands : Stands m) where
  asked_here : ExitsAt m.declared.speaker m.outgoing k (peer_at k m.declared.peers) (exit_at k (refreshed_exits k m.exits))
  asked_here = by_chain (exit_at k m.exits) refl (stands.exits.sessions k)
    where
      by_chain : (o : Option OutChained) → exit_at k m.exits ≡ o → ExitsAt m.declared.speaker m.outgoing k (peer_at k m.declared.peers) o → ExitsAt m.declared.speaker m.outgoing k (peer_at k m.declared.peers) (exit_at k (refreshed_by k o m.exits))
      by_chain None at is = stands.exits.sessions k
      by_chain (Some c) at is = subst (λ (o : Option OutChained). ExitsAt m.declared.speaker m.outgoing k (peer_at k m.declared.peers) o) (sym (put_here k (walk_begun c) m.exits.queue m.exits)) (same_session m.declared.speaker m.outgoing k (peer_at k m.declared.peers) c (walk_begun c).refresh is)

  pub refreshed_keeps : (r : RouteRefresh) → Keeps (live_state m) m (refreshed k r m) []
  refreshed_keeps r = by_served (is_served m.declared.profile.second r)
    where
      by_served : (b : Bool) → Keeps (live_state m) m (cond b (with_exits m (refreshed_exits k m.exits)) m) []
      by_served true = rewalked m k (refreshed_exits k m.exits) stands (refresh_keeps k m.exits stands.exits.each) asked_here [] refl (heard_quiet m (with_exits m (refreshed_exits k m.exits)) [] tt (refresh_keeps_views k m.exits))
      by_served false = keeps_none m stands

-- the router that the call makes is that
pub refresh_is : (m v : Moment) (k : ℕ) (r : RouteRefresh) (e : Exited) → v ≡ m → e ≡ refreshed_exits k v.exits → is_served m.declared.profile.second r ≡ true → with_exits v e ≡ refreshed k r m
refresh_is m v k r e view is served =
    ap (with_exits v) is ∙ ap (λ (n : Moment). with_exits n (refreshed_exits k n.exits)) view ∙ ap (λ (b : Bool). cond b (with_exits m (refreshed_exits k m.exits)) m) (sym served)

pub unserved_is : (m : Moment) (k : ℕ) (r : RouteRefresh) → is_served m.declared.profile.second r ≡ false → m ≡ refreshed k r m
unserved_is m k r other = ap (λ (b : Bool). cond b (with_exits m (refreshed_exits k m.exits)) m) (sym other)

-- ---- one turn of it
module _ (k : ℕ) (m : Moment) (e : Exited) (said : List Line) (stands : Stands m) (t : ResendsExit k m.exits e said) where
  same : AreSameButRefresh k m.exits e
  same = resend_keeps k m.exits e said stands.exits.each t

  turned_here : ExitsAt m.declared.speaker m.outgoing k (peer_at k m.declared.peers) (exit_at k e)
  turned_here = subst (λ (o : Option OutChained). ExitsAt m.declared.speaker m.outgoing k (peer_at k m.declared.peers) o) (sym (ap (exit_at k) t.after ∙ put_here k t.taken m.exits.queue m.exits ∙ ap Some t.resends.after))
      (same_session m.declared.speaker m.outgoing k (peer_at k m.declared.peers) t.chain (walk_on t.chain.sent (Some t.resends.prefix))
      (subst (λ (o : Option OutChained). ExitsAt m.declared.speaker m.outgoing k (peer_at k m.declared.peers) o) t.there (stands.exits.sessions k)))

  keeps : Keeps (live_state m) m (with_exits m e) said
  keeps = rewalked m k e stands same turned_here said (ap entries_of t.resends.line) (resend_is_heard m.declared.profile (neighbours m.declared) k (best_of m) m.exits e said (exits_declared m stands) stands.exits.each stands.exits.read t)

  spent : Spent phases.Ref m (with_exits m e)
  spent =
      let fewer = resend_leaves_fewer k m.exits e said t in
      let unread : length (unread_if e.queue m.reader) ≡ length (unread_if m.exits.queue m.reader) = ap (λ (q : Queued Route). length (unread_if q m.reader)) same.queue in
      let left = same.left (best_beyond m.chains m.tree) in
      let most : most_unread e ≡ most_unread m.exits = ap (λ (q : Queued Route). longest_of (tables.values q)) same.queue in (
        fewer,
        fewer,
        (omega arith, (omega arith, (omega arith, (omega arith, (omega arith, (omega (arith, unread), (omega (arith, left), (omega arith, tt)))))))),
        record { peers = omega arith; protocols = omega arith },
        omega (arith, most),
      )

  turn_does : IsWork phases.Ref 1 m (with_exits m e) said
  turn_does = one_turn phases.Ref m (with_exits m e) (with_exits m e) said refl keeps spent (omega arith, omega arith) (none_as_before m (with_exits m e) refl refl)

pub refresh_works : (k : ℕ) (m : Moment) (said : List Line) (m' : Moment) → Stands m → IsRefreshTurn k m said m' → IsWork phases.Ref 1 m m' said
refresh_works k m said m' stands t = subst (λ (n : Moment). IsWork phases.Ref 1 m n said) (sym t.after) (turn_does k m m'.exits said stands t.turn)

-- what the call asks for
pub exits_are_chains : (m v : Moment) → v ≡ m → Stands m → AreOutChains v.exits
exits_are_chains m v view stands = standing_are_chains v.exits (best_of v) (subst Stands (sym view) stands).exits.read

-- by what it came to
pub refresh_took : (m v : Moment) (k : ℕ) (e : Exited) (before j now : Journaled) (again : Bool) → again ≡ true → v ≡ m → ComesAgain k v.exits e before j again → now ≡ flushed j → TakesTurn (tasks.Ref k) m (with_exits v e) before now Taken
refresh_took m v k e before j now true some view comes flush =
    subst (λ (n : Moment). TakesTurn (tasks.Ref k) n (with_exits v e) before now Taken) view (comes.0, flush ∙ ap flushed comes.1, record { turn = comes.2; after = refl })
refresh_took m v k e before j now false some view comes flush = absurd (cc)

pub refresh_rests : (m v : Moment) (k : ℕ) (e : Exited) (before now : Journaled) (again : Bool) → again ≡ false → v ≡ m → ComesAgain k v.exits e before now again → TakesTurn (tasks.Ref k) m (with_exits v e) before now Nothing
refresh_rests m v k e before now false none view comes =
    subst (λ (n : Moment). TakesTurn (tasks.Ref k) n (with_exits v e) before now Nothing) view (comes.0, ap (with_exits v) comes.1, comes.2)
refresh_rests m v k e before now true none view comes = absurd (cc)
