-- What stands before `local`: no peer, no chain, no exit, and nobody reads.
use Rattle.router_moments.proofs.Common.{sym, subst, ◌∙◌, ap, ◌≡◌, ℕ, refl, Speaker, peer_at, Declaration, refusal_at, DeclaredPeer, Chained, no_rows, chain_at, Moment, best_of, read_rows_by, read_of, Stands, ExitsAt, StandsAt, ReadsOn}
use Rattle.std.proofs.Common.{Option, Some, None}
use Rattle.event_text.specs.declared.event.Event.TheVariants as events
use Rattle.event_text.specs.Declarations.{refusal}
use Rattle.exit_side.specs.Exits.{chain_at as exit_at}
use Rattle.router_moments.proofs.QueueLemmas.{none_before}

pub local_first : (d : Declaration) (words : Speaker) → refusal d (events.Local words) ≡ None → d.speaker ≡ None
unfolding refusal
local_first d words e = by_speaker d.speaker e
  where
    by_speaker : (s : Option Speaker) → refusal_at d.v6 d.profile s d.peers (events.Local words) ≡ None → s ≡ None
    by_speaker None e = refl
    by_speaker (Some me) e = absurd (cc)

-- ---- what stands there
module _ (m : Moment) (stands : Stands m) (first : m.declared.speaker ≡ None) where
  pub no_chain : (k : ℕ) → chain_at k m.chains ≡ None
  no_chain k = by_chain (chain_at k m.chains) refl
    where
      by_chain : (o : Option Chained) → chain_at k m.chains ≡ o → chain_at k m.chains ≡ None
      by_chain None at = at
      by_chain (Some c) at = absurd (let there = stands.peers.speaker k c at in let clash : None ≡ Some c.me = sym first ∙ there in cc)

  pub no_peer : (k : ℕ) → peer_at k m.declared.peers ≡ None
  no_peer k = by_peer (peer_at k m.declared.peers) (subst (StandsAt (peer_at k m.declared.peers)) (no_chain k) (stands.peers.each k))
    where
      by_peer : (o : Option DeclaredPeer) → StandsAt o None → o ≡ None
      by_peer None is = refl
      by_peer (Some p) is = absurd is

  pub no_exit : (k : ℕ) → exit_at k m.exits ≡ None
  no_exit k = none_before m.outgoing k (peer_at k m.declared.peers) (exit_at k m.exits) (subst (λ (s : Option Speaker). ExitsAt s m.outgoing k (peer_at k m.declared.peers) (exit_at k m.exits)) first (stands.exits.sessions k))

  pub no_reader : m.reader ≡ None
  no_reader = by_reader m.declared.speaker m.reader first stands.exits.one
    where
      by_reader : (s : Option Speaker) (o : Option ℕ) → s ≡ None → ReadsOn s o m.exits → o ≡ None
      by_reader None None is on = refl
      by_reader None (Some r) is on = absurd on
      by_reader (Some me) o is on = absurd (cc)

  -- what the forwarding side has read: nothing
  pub read_before : read_of m ≡ no_rows
  read_before = ap (λ (o : Option ℕ). read_rows_by m.exits.queue o (best_of m)) no_reader
