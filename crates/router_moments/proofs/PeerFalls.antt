-- A fall in the chain of a peer, what follows it, and the weld behind both: where its entries lead to, and what stands then.
use Rattle.router_moments.proofs.Common.{sym, subst, ◌∙◌, ap, ◌≡◌, ℕ, refl, List, ◌++◌, AddressPrefix, Route, peer_at, DeclaredPeer, GoesOn, Chained, welded, Entry, Line, Value, IsSent, Rows, Change, LiveState, chain_at, Chains, filt_at, put_chain, all_at, best_at, best_entries, live_state, Moment, best_of, own_of, with_exits, with_chains, with_hops, Stands, PeerStands, journal_lines, FallsPeer, Keeps, SettlesPeer}
use Rattle.std.proofs.Common.{Option, Some, is_some}
use Rattle.peer_side.specs.Steps.{FallsInward, Changes}
use Rattle.peer_side.proofs.WeldLemmas.{weld_after}
use Rattle.router_moments.proofs.KeepLemmas.{keeps_as}
use Rattle.router_moments.proofs.HeardSteps.{heard_quiet, queue_views, falls_unheard}
use Rattle.router_moments.proofs.HeardRows.{IsHeardChain, put_heard}
use Rattle.router_moments.proofs.BestLemmas.{best_quiet}
use Rattle.router_moments.proofs.QueueLemmas.{reader_live, exits_fall}
use Rattle.router_moments.proofs.HopLemmas.{all_comes, falls_lead, hops_fall}
use Rattle.router_moments.proofs.StandLemmas.{resolver_there, speaker_there, same_peers, not_zero, external_agrees, stands_with}

module _ (k : ℕ) (sent : Option (Change Route)) (P : Chains → List (Entry Value) → Type 0) (m : Moment) (said : List Line) (m' : Moment) (stands : Stands m) (f : FallsPeer k sent P m said m')
    (c less : Chained) (at : chain_at k m.chains ≡ Some c) (after : f.fallen ≡ put_chain k less m.chains) (p : AddressPrefix) (changes : Changes k p sent m.chains f.fallen) where
  -- what it leaves
  abbrev pub behind : Moment
  behind = with_exits (with_hops (with_chains m m'.chains) m'.registry m'.hops) m'.exits

  pub welded_put : m'.chains ≡ put_chain k (welded less) m.chains
  welded_put = weld_after k m.chains f.fallen m'.chains less f.weld after f.welds.welds

  quiet : filt_at m'.chains ≡ filt_at f.fallen
  quiet i j = f.welds.quiet j i

  -- the change goes on through the peer's resolver, and what is decided is decided of the best routes then
  pub fall_goes : GoesOn k p f.passed m.hops m'.hops f.resolved (filt_at m.chains) (filt_at f.fallen)
  fall_goes = f.below.goes (filt_at m.chains) (filt_at f.fallen) p stands.hops.counted (record { here = changes.rows; others = changes.others })

  decides : IsSent (best_of m) (best_at (own_of m) f.fallen m'.hops) p f.decided.best
  decides = f.decided.decides (all_at (own_of m) m.chains m.hops) p (all_comes (own_of m) m.chains f.fallen m.hops m'.hops k p f.passed (not_zero k (stands.peers.numbers k (ap is_some at)).0) fall_goes.comes)

  pub fall_chosen : IsSent (best_of m) (best_of behind) p f.decided.best
  fall_chosen = subst (λ (rows : Rows Route). IsSent (best_of m) rows p f.decided.best) (sym (best_quiet (own_of m) f.fallen m'.chains m'.hops f.welds.quiet)) decides

  pub fall_keeps : (live : LiveState) (q : DeclaredPeer) → FallsInward k m.chains f.fallen f.entries → (welded less).me ≡ c.me → live_state behind ≡ live → peer_at k m.declared.peers ≡ Some q → PeerStands q (welded less) → IsHeardChain m.declared.profile (welded less)
      → Keeps live m m' said
  fall_keeps live q fall me lives there here heard = keeps_as live m behind m' (journal_lines (f.entries ++ (f.resolved ++ (best_entries f.decided.best ++ f.weld)))) said f.after
      (f.lines ∙ ap (λ (es : List (Entry Value)). journal_lines (f.entries ++ (f.resolved ++ (es ++ f.weld)))) f.decided.lines) (record {
        leads = falls_lead m c.me f.fallen m'.chains m'.registry m'.hops m'.exits p f.entries f.resolved f.weld f.decided.best (speaker_there m stands k c at) (reader_live m stands) fall.leads fall_goes.leads decides f.welds.step.leads quiet f.queued;
        live = lives;
        stands = stands_with m k c (welded less) m'.chains m'.registry m'.hops m'.exits q stands at welded_put f.welds.step.sound me there here f.below.agreed.others.rows (external_agrees m stands k c m'.registry at f.below.agreed.others)
            (hops_fall m k f.fallen m'.chains m'.registry m'.hops stands f.below.agreed fall_goes.counted quiet (resolver_there m stands k c at) (same_peers m k c (welded less) m'.chains at welded_put))
            (exits_fall m behind f.decided.best p stands (put_heard m.declared.profile k (welded less) m.chains m'.chains welded_put heard stands.exits.rows) f.queued fall_chosen refl refl refl (λ rows over. over));
        heard = heard_quiet m behind (journal_lines (f.entries ++ (f.resolved ++ (best_entries f.decided.best ++ f.weld)))) (falls_unheard _ _ _ _ _ _ f.entries f.resolved f.weld f.decided.best fall.leads fall_goes.leads f.welds.step.leads)
            (queue_views f.decided.best m.exits m'.exits f.queued);
      })

-- as the calls make it, one after the other
pub fall_settled : (k : ℕ) (sent : Option (Change Route)) (P : Chains → List (Entry Value) → Type 0) (m : Moment) (fallen : Chains) (m' : Moment) (entries rest : List (Entry Value)) → P fallen entries → SettlesPeer k sent (with_chains m fallen) m' rest
    → FallsPeer k sent P m (journal_lines (entries ++ rest)) m'
fall_settled k sent P m fallen m' entries rest part w = record {
  fallen = fallen;
  entries = entries;
  part = part;
  resolved = w.resolved;
  passed = w.passed;
  below = w.below;
  best = w.best;
  decided = w.decided;
  weld = w.weld;
  welds = w.welds;
  queued = w.queued;
  lines = ap (λ (es : List (Entry Value)). journal_lines (entries ++ es)) w.lines;
  after = w.after;
}
