-- The loss of a session.
use Rattle.router_moments.proofs.Common.{sym, subst, ◌∙◌, ap, ◌≡◌, ℕ, refl, List, true, ◌+◌, Bool, ◌++◌, cond, nat_eq, same_Some, peer_at, Declaration, without_session, DeclaredPeer, others_are_unheard, Exited, Chained, Journaled, flushed, Adds, Entry, Line, Value, Inward, no_table, OutChained, chain_at, Chains, peer_links, overdue_at, live_state, Moment, own_of, Gives, with_exits, with_chains, Stands, ExitsAt, StandsAt, PeerStands, ExitsStand, open_session, journal_lines, Pushes, Keeps}
use Rattle.std.proofs.Common.{Option, Some, None, is_some}
use Rattle.std.specs.FinMap as tables
use Rattle.in_chain.specs.Steps.{lost}
use Rattle.peer_side.specs.Peers.{overdue_by, AreBefore}
use Rattle.peer_side.specs.Steps.{MayLose, LosesInward}
use Rattle.loss_chain.proofs.TableLemmas.{equal_by}
use Rattle.link_region.proofs.RegionLemmas.{by_bool}
use Rattle.exit_side.specs.Exits.{chain_at as exit_at}
use Rattle.exit_side.specs.Steps.{EndsExit}
use Rattle.live_state.specs.Lives.{ended}
use Rattle.router_moments.specs.Works.{HasRoom, IsSession, HasLost, Ends}
use Rattle.live_state.proofs.AdmittedLemmas.{down, ended_same, ended_other, ended_length}
use Rattle.router_moments.proofs.BestLemmas.{best_quiet}
use Rattle.router_moments.proofs.HopLemmas.{hops_quiet}
use Rattle.router_moments.proofs.RegionLemmas.{leads_inward}
use Rattle.router_moments.proofs.StandLemmas.{remade, peer_of, same_peers, chain_there, KeepsOthers, stands_put, live_routed}
use Rattle.router_moments.proofs.KeepLemmas.{keeps_then, gives_push, push_gives}
use Rattle.router_moments.proofs.HeardRows.{put_heard, lost_heard}
use Rattle.router_moments.proofs.HeardSteps.{heard_quiet}
use Rattle.router_moments.proofs.QueueLemmas.{exits_none, exits_stay}
use Rattle.router_moments.proofs.SessionLemmas.{silenced}
use Rattle.exit_laws.proofs.ViewLemmas.{gone_here}

-- ---- what stands after the loss
-- of a peer that is up the lost sessions are earlier than the present one
before_up : (p : DeclaredPeer) (s : ℕ) (c : Chained) → p.up ≡ true → p.session ≡ s → AreBefore (open_session p) c → AreBefore s c
before_up p s c up same before = subst (λ (n : ℕ). AreBefore n c) (ap (λ (b : Bool). cond b p.session (p.session + 1)) up ∙ same) before

-- a session that is up may be lost, where there is room
pub may_lose : (k s : ℕ) (m v : Moment) → v ≡ m → Stands m → IsSession k s m → overdue_at k m.chains ≡ None → MayLose k s v.chains
may_lose k s m v view stands up free = subst (λ (n : Moment). MayLose k s n.chains) (sym view) (record {
  chain = there.0;
  at = there.1;
  room = sym (ap overdue_by there.1) ∙ free;
  later = before_up up.0 s there.0 up.2 up.3 there.2.earlier;
})
  where
    there : (c : Chained) × (chain_at k m.chains ≡ Some c) × PeerStands up.0 c
    there = chain_there m stands k up.0 up.1

-- the loss in a peer's chain is one of the router
ends_one : (k s : ℕ) (m : Moment) (cs : Chains) (entries : List (Entry Value)) → Stands m → IsSession k s m → exit_at k m.exits ≡ None → LosesInward k s m.chains cs entries → Ends k s m (remade m (without_session m.declared k) cs) (journal_lines entries)
ends_one k s m cs entries stands up silent f =
    let c : Chained = f.loses.chain in
    let peer = peer_of m stands k c f.loses.at in
    let session : peer.0.session ≡ s = ap (λ (q : DeclaredPeer). q.session) (same_Some peer.0 up.0 (sym peer.1 ∙ up.1)) ∙ up.3 in
    let here : PeerStands (down peer.0) (lost s c) = record { words = peer.2.words; earlier = subst (λ (n : ℕ). AreBefore (n + 1) (lost s c)) (sym session) f.before; silent = refl } in
    record {
      between = with_chains m cs;
      loses = record { chains = cs; entries = entries; part = f; lines = refl; after = refl };
      after = refl;
      keeps = record {
        leads = leads_inward m cs entries f.quiet f.step.leads;
        live = live_routed m (without_session m.declared k) k c (lost s c) cs f.loses.at f.loses.after refl;
        stands = stands_put m (without_session m.declared k) k c (lost s c) cs m.registry m.hops m.exits stands f.loses.at f.loses.after f.step.sound refl keeps
            (subst (λ (o : Option DeclaredPeer). StandsAt o (Some (lost s c))) (sym (ended_same k m.declared.peers peer.0 peer.1)) here) refl stands.external.agree
            (hops_quiet m cs stands f.quiet (same_peers m k c (lost s c) cs f.loses.at f.loses.after))
            (still c (exits_stay m (with_chains m cs) stands (put_heard m.declared.profile k (lost s c) m.chains cs f.loses.after (lost_heard m.declared.profile s c (stands.exits.rows k c f.loses.at)) stands.exits.rows)
            (best_quiet (own_of m) m.chains cs m.hops f.quiet) refl refl refl refl (λ rows over. over)));
        heard = heard_quiet m (remade m (without_session m.declared k) cs) (journal_lines entries) (others_are_unheard Inward (peer_links m.chains) (peer_links cs) entries refl f.step.leads) refl;
      };
    }
  where
    -- no exit of the peer is left
    sessions : (j : ℕ) → ExitsAt m.declared.speaker m.outgoing j (peer_at j (without_session m.declared k).peers) (exit_at j m.exits)
    sessions j = by_bool (nat_eq j k) (λ b. ExitsAt m.declared.speaker m.outgoing j (peer_at j (without_session m.declared k).peers) (exit_at j m.exits))
        (λ same. subst (λ (n : ℕ). ExitsAt m.declared.speaker m.outgoing n (peer_at n (without_session m.declared k).peers) (exit_at n m.exits)) (sym (equal_by j k same))
        (subst (λ (o : Option OutChained). ExitsAt m.declared.speaker m.outgoing k (peer_at k (without_session m.declared k).peers) o) (sym silent) (exits_none m.declared.speaker m.outgoing k (peer_at k (without_session m.declared k).peers))))
        (λ apart. subst (λ (o : Option DeclaredPeer). ExitsAt m.declared.speaker m.outgoing j o (exit_at j m.exits)) (sym (ended_other k j m.declared.peers apart)) (stands.exits.sessions j))

    still : (c : Chained) → ExitsStand (with_chains m cs) → ExitsStand (remade m (without_session m.declared k) cs)
    still c x = record { rows = x.rows; each = x.each; all = x.all; read = x.read; profile = x.profile; sender = x.sender; sessions = sessions; one = x.one; external = x.external }

    keeps : KeepsOthers k m.declared (without_session m.declared k)
    keeps = record { speaker = refl; count = ended_length k m.declared.peers; others = λ j e. ended_other k j m.declared.peers e }

pub one_ended : (k s : ℕ) (m v : Moment) (now : Declaration) (cs : Chains) (before after : Journaled) → v ≡ m → Stands m → IsSession k s m → exit_at k m.exits ≡ None → now ≡ without_session v.declared k → Adds (LosesInward k s v.chains cs) before after
    → Pushes (Ends k s m (remade v now cs)) before after
one_ended k s m v now cs before after view stands up silent is f =
    subst (λ (n : Moment). Pushes (Ends k s n (remade v now cs)) before after) view
    (subst (λ (d : Declaration). Pushes (Ends k s v (remade v d cs)) before after) (sym is)
    (journal_lines f.0, f.1, ends_one k s v cs f.0 (subst Stands (sym view) stands) (subst (IsSession k s) (sym view) up) (ap (λ (x : Moment). exit_at k x.exits) view ∙ silent) f.2))

-- ---- both

pub silenced_stands : (k : ℕ) (m v : Moment) (e : Exited) (entries : List (Entry Value)) → v ≡ m → Stands m → EndsExit k v.exits e entries → Stands (with_exits v e)
silenced_stands k m v e entries view stands ends = (silenced k v e entries (subst Stands (sym view) stands) ends).stands

pub room_silent : (k : ℕ) (m room : Moment) (e : Exited) (entries : List (Entry Value)) (before now : Journaled) → EndsExit k m.exits e entries → Gives (HasRoom k (with_exits m e) room) before now → exit_at k room.exits ≡ None
room_silent k m room e entries before now ends r = no_table (exit_at k room.exits) (r.2.same k ∙ ap is_some (ap (exit_at k) ends.after ∙ gone_here k (tables.remove m.exits.queue ends.chain.reader) m.exits))

pub lost_all : (k s : ℕ) (m v room m' : Moment) (e : Exited) (before first j j' now : Journaled) → v ≡ m → Stands m → Adds (EndsExit k v.exits e) before first → Gives (HasRoom k (with_exits v e) room) first j → Pushes (Ends k s room m') j j' → now ≡ flushed j'
    → Gives (HasLost k s m m') before now
lost_all k s m v room m' e before first j j' now view stands ends r gone is =
    subst (λ (x : Moment). Gives (HasLost k s x m') before now) view
    (push_gives (λ xs. Σ_is xs) (Falls) (HasLost k s v m') all before first now (journal_lines ends.0, ends.1, refl)
    (gives_push (HasRoom k (with_exits v e) room) (Ends k s room m') (Falls) (λ xs ys p q. (xs, ys, p, q, refl)) first j j' now r gone is))
  where
    Σ_is : List Line → Type 0
    Σ_is xs = xs ≡ journal_lines ends.0

    Falls : List Line → Type 0
    Falls said = (xs ys : List Line) × HasRoom k (with_exits v e) room xs × Ends k s room m' ys × (said ≡ xs ++ ys)

    all : (zs said : List Line) → Σ_is zs → Falls said → HasLost k s v m' (zs ++ said)
    all zs said own f = record {
      loses = record {
        there = f.2.there;
        silenced = e;
        entries = ends.0;
        ends = ends.2;
        first = f.0;
        room = room;
        runs = f.2.runs;
        last = f.1;
        between = f.3.between;
        loses = f.3.loses;
        lines = ap (λ (l : List Line). l ++ said) own ∙ ap (λ (l : List Line). journal_lines ends.0 ++ l) f.4;
        after = f.3.after;
      };
      keeps = subst (λ (l : List Line). Keeps (ended (live_state v) k) v m' (l ++ said)) (sym own)
          (keeps_then v (with_exits v e) m' (journal_lines ends.0) said (λ l. ended l k) (silenced k v e ends.0 (subst Stands (sym view) stands) ends.2)
          (subst (λ (l : List Line). Keeps (ended (live_state v) k) (with_exits v e) m' l) (sym f.4) (keeps_then (with_exits v e) room m' f.0 f.1 (λ l. ended l k) f.2.keeps f.3.keeps)));
    }
