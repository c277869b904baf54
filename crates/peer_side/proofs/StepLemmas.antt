-- A step of one chain, as one of the side.
use Rattle.std.proofs.Common.{◌≡◌, ℕ, ◌+◌, ◌<◌, ◌≤◌, List, length, Option, Some, None, refl, sym, ap, subst, ◌∙◌, arith}
use Rattle.std.proofs.lemmas.Option.{same_Some}
use Rattle.addr4.specs.Prefixes.{AddressPrefix}
use Rattle.bgp_attr.specs.Attributes.{Attrs}
use Rattle.bgp_attr.specs.Routes.{Route}
use Rattle.bgp_attr.specs.Speakers.{Speaker}
use Rattle.bgp_attr.specs.declared.speaker.Neighbour.{Neighbour}
use Rattle.link_change.specs.Rows.{Rows}
use Rattle.link_change.specs.Changes.{IsSent}
use Rattle.link_change.specs.Changes.{Change}
use Rattle.link_change.specs.Turns.{Turn}
use Rattle.link_change.specs.declared.turn.Turn.TheVariants as turns
use Rattle.policy_rules.specs.Rules.{Rule}
use Rattle.journal_text.specs.declared.link.Task.{Task}
use Rattle.journal_text.specs.Lines.{Entry}
use Rattle.journal_text.specs.Lines.{Value}
use Rattle.journal_text.specs.Journals.{Journaled, with_entries, Adds}
use Rattle.loss_chain.specs.Lost.{Lost}
use Rattle.loss_chain.specs.declared.owner.Owner.TheVariants as owners
use Rattle.loss_chain.specs.Tables.{NoneEmpty, OneEmptyAtMost}
use Rattle.loss_chain.proofs.ListLemmas.{all_so}
use Rattle.loss_chain.proofs.TableLemmas.{few_lost, all_lost}
use Rattle.in_chain.specs.Chains.{Chained, links_of, filt_rows, turns_left, IsChain}
use Rattle.in_chain.specs.Falls.{Falls, LeadsChain, way_of_feed}
use Rattle.in_chain.specs.Incomings.{loss_entries, overdue_of}
use Rattle.in_chain.specs.Steps.{fed, lost, welded, refiltered, new_chain, Turned, IsTaken}
use Rattle.peer_side.specs.Peers.{Chains, chain_at, put_chain, filt_at, filt_by, lost_of, IsPeer, IsPeers, IsFallen, IsPeersBut, AreBefore, peer_of, has_turn_in}
use Rattle.peer_side.specs.Steps.{chain_weld_entries, StepsInward, FallsInward, Changes, MayLose, FeedsInward, LosesInward, EditsInward, WeldsInward, TakesInward, ComesInward}
use Rattle.peer_side.proofs.PutLemmas.{put_here, put_other, put_kept, put_each, put_beside, put_same, put_lost, put_left}
use Rattle.peer_side.proofs.LinkLemmas.{leads_peers, links_kept}
use Rattle.peer_side.proofs.ChainLemmas.{Left, fed_before, fed_few, turn_leads, turn_left, weld_before, weld_few, turn_nears, turn_sent}
use Rattle.peer_side.proofs.CountLemmas.{weld_rows, weld_turns}

module _ (a : Chains) (k : ℕ) (c : Chained) (at : chain_at k a ≡ Some c) (peers : IsPeers a) where
  is_peer : IsPeer k c
  is_peer = peers k c at

  stepped : (c' : Chained) (entries : List (Entry Value)) → c'.incoming.number ≡ c.incoming.number → length c'.incoming.tables.deletions ≤ 16 → LeadsChain c entries c' → IsChain c'
      → NoneEmpty c'.incoming.tables.deletions → StepsInward a (put_chain k c' a) entries
  stepped c' entries same few leads chain full = record {
    leads = leads_peers a k c c' entries at is_peer.number (same ∙ is_peer.number) leads;
    sound = put_each IsPeer k c' a (record { number = same ∙ is_peer.number; chain = chain; full = full; few = few }) peers;
  }

  fallen : (c' : Chained) (entries : List (Entry Value)) → c'.incoming.number ≡ c.incoming.number → length c'.incoming.tables.deletions ≤ length c.incoming.tables.deletions → LeadsChain c entries c' → IsChain c'
      → OneEmptyAtMost c'.incoming.tables.deletions → FallsInward k a (put_chain k c' a) entries
  fallen c' entries same fewer leads chain one = record {
    leads = leads_peers a k c c' entries at is_peer.number (same ∙ is_peer.number) leads;
    sound = record {
      own = λ d there. subst (IsFallen k) (same_Some c' d (sym (put_here k c' a) ∙ there)) (record { number = same ∙ is_peer.number; chain = chain; one_empty = one; few = let was = is_peer.few in omega (arith, fewer, was) });
      others = λ j d other there. peers j d (sym (put_other k c' a j other) ∙ there);
    };
  }

  changed : (c' : Chained) (p : AddressPrefix) (sent : Option (Change Route)) → IsSent (filt_rows c) (filt_rows c') p sent → Changes k p sent a (put_chain k c' a)
  changed c' p sent is = record {
    rows = subst (λ (old : Rows Route). IsSent old (filt_at (put_chain k c' a) k) p sent) (sym (ap filt_by at)) (subst (λ (new : Rows Route). IsSent (filt_rows c) new p sent) (sym (ap filt_by (put_here k c' a))) is);
    others = λ j other. ap filt_by (put_other k c' a j other);
  }

  -- ---- a feed
  pub fed_adds : (p : AddressPrefix) (row : Option Attrs) (sent : Option (Change Route)) (c' : Chained) (before now : Journaled) → IsSent (filt_rows c) (filt_rows c') p sent → c' ≡ fed c p row
      → Adds (Falls c c' p (way_of_feed c.incoming) sent) before now → IsChain c' → OneEmptyAtMost c'.incoming.tables.deletions → Adds (FeedsInward k p row sent a (put_chain k c' a)) before now
  fed_adds p row sent c' before now rows is adds chain one = (
    adds.0,
    adds.1,
    record {
      feeds = record {
        chain = c;
        at = at;
        falls = subst (λ (x : Chained). Falls c x p (way_of_feed c.incoming) sent adds.0) is adds.2;
        rows = subst (λ (x : Chained). IsSent (filt_rows c) (filt_rows x) p sent) is rows;
        after = ap (λ (x : Chained). put_chain k x a) is;
      };
      fall = fallen c' adds.0 (ap (λ (x : Chained). x.incoming.number) is) (subst (λ (x : Chained). length x.incoming.tables.deletions ≤ length c.incoming.tables.deletions) (sym is) (fed_few p row c)) adds.2.leads chain one;
      changes = changed c' p sent rows;
      before = λ s all. fed_before s p row c all;
    },
  )

  -- ---- a loss
  later : (s : ℕ) → AreBefore s c → AreBefore (s + 1) (lost s c)
  later s all = all_lost (λ (d : Lost Attrs). d.number < s + 1) s c.incoming.tables (all_so (λ (d : Lost Attrs). d.number < s) (λ d. d.number < s + 1) (λ d lt. omega (arith, lt)) c.incoming.tables.deletions all) (omega arith)

  lost_inward : (s : ℕ) (c' : Chained) → overdue_of c.incoming ≡ None → AreBefore s c → c' ≡ lost s c → LeadsChain c (loss_entries s c.incoming) c' → filt_rows c' ≡ filt_rows c → IsChain c' → NoneEmpty c'.incoming.tables.deletions
      → LosesInward k s a (put_chain k c' a) (loss_entries s c.incoming)
  lost_inward s c' room before is leads rows chain full = record {
    loses = record { chain = c; at = at; lines = refl; after = ap (λ (x : Chained). put_chain k x a) is };
    step = stepped c' (loss_entries s c.incoming) (ap (λ (x : Chained). x.incoming.number) is)
        (subst (λ (x : Chained). length x.incoming.tables.deletions ≤ 16) (sym is) (few_lost (owners.Peer c.incoming.number) s c.incoming.tables is_peer.few room)) leads chain full;
    quiet = put_kept filt_by k c' a (rows ∙ ap filt_by (sym at));
    before = later s before;
  }

  pub lost_adds : (s : ℕ) (c' : Chained) (old now : Journaled) → overdue_of c.incoming ≡ None → AreBefore s c → c' ≡ lost s c → now ≡ with_entries old (loss_entries s c.incoming) → LeadsChain c (loss_entries s c.incoming) c'
      → filt_rows c' ≡ filt_rows c → IsChain c' → NoneEmpty c'.incoming.tables.deletions → Adds (LosesInward k s a (put_chain k c' a)) old now
  lost_adds s c' old now room before is lines leads rows chain full = (loss_entries s c.incoming, lines, lost_inward s c' room before is leads rows chain full)

  -- ---- new rules
  pub edited_inward : (rules : List Rule) (c' : Chained) → c' ≡ refiltered rules c → filt_rows c' ≡ filt_rows c → links_of c' ≡ links_of c → EditsInward k rules a (put_chain k c' a)
  edited_inward rules c' is rows links = record {
    edits = record { chain = c; at = at; after = ap (λ (x : Chained). put_chain k x a) is };
    links = links_kept a k c c' at links;
    quiet = put_kept filt_by k c' a (rows ∙ ap filt_by (sym at));
    sound = put_each IsPeer k c' a (subst (IsPeer k) (sym is) (record { number = is_peer.number; chain = is_peer.chain; full = is_peer.full; few = is_peer.few })) peers;
  }

-- the chain of the peer whose session may be lost
pub may_lose_here : (k s : ℕ) (a : Chains) (c : Chained) → MayLose k s a → chain_at k a ≡ Some c → (overdue_of c.incoming ≡ None) × AreBefore s c
may_lose_here k s a c may at = subst (λ (x : Chained). (overdue_of x.incoming ≡ None) × AreBefore s x) (same_Some may.chain c (sym may.at ∙ at)) (may.room, may.later)

-- a peer that is new
pub begun_sound : (a : Chains) (k : ℕ) (me : Speaker) (words : Neighbour) → words.number ≡ k → IsPeers a → IsPeers (put_chain k (new_chain me words) a)
begun_sound a k me words own peers = put_each IsPeer k (new_chain me words) a (record { number = own; chain = record { apart = tt; rising = tt }; full = tt; few = omega arith }) peers

-- ---- a weld
pub weld_adds : (k : ℕ) (a : Chains) (c c' : Chained) (before now : Journaled) → chain_at k a ≡ Some c → IsPeersBut k a → c' ≡ welded c → now ≡ with_entries before (chain_weld_entries c) → LeadsChain c (chain_weld_entries c) c' → filt_rows c' ≡ filt_rows c
    → IsChain c' → NoneEmpty c'.incoming.tables.deletions → Adds (WeldsInward k a (put_chain k c' a)) before now
weld_adds k a c c' before now at peers is lines leads rows chain full = (
  chain_weld_entries c,
  lines,
  record {
    welds = record { chain = c; at = at; lines = refl; after = ap (λ (x : Chained). put_chain k x a) is };
    step = record {
      leads = leads_peers a k c c' (chain_weld_entries c) at own.number number leads;
      sound = put_beside IsPeer k c' a (record { number = number; chain = chain; full = full; few = few }) peers.others;
    };
    quiet = put_kept filt_by k c' a (rows ∙ ap filt_by (sym at));
    before = λ s all. weld_before s c all;
    lost = let l = put_lost k c c' a at in let same = ap (λ (x : Chained). lost_of x) is ∙ weld_rows c in omega (arith, l, same);
    left = let l = put_left k c c' a at in let same = ap (λ (x : Chained). turns_left x) is in let less = weld_turns c in omega (arith, l, same, less);
  },
)
  where
    own : IsFallen k c
    own = peers.own c at

    number : c'.incoming.number ≡ k
    number = ap (λ (x : Chained). x.incoming.number) is ∙ own.number

    few : length c'.incoming.tables.deletions ≤ 16
    few = let same = ap (λ (x : Chained). length x.incoming.tables.deletions) is in let less = weld_few c in let was = own.few in omega (arith, same, less, was)

-- ---- turns
took_adds : (task : Task) (sent : Option (Change Route)) (a : Chains) (c less : Chained) (before now : Journaled) → chain_at (peer_of task) a ≡ Some c → IsPeers a → Adds (Turned c less task sent) before now → IsChain less
    → OneEmptyAtMost less.incoming.tables.deletions → Adds (TakesInward task sent a (put_chain (peer_of task) less a)) before now
took_adds task sent a c less before now at peers adds chain one = (
  adds.0,
  adds.1,
  record {
    turn = record { chain = c; at = at; turned_chain = less; turned = adds.2; after = refl };
    fall = fallen a (peer_of task) c at peers less adds.0 left.number left.few (turn_leads task c less sent adds.0 adds.2) chain one;
    changes = (out.0, changed a (peer_of task) c at peers less out.0 sent out.1);
    leaves = left.leaves;
    nearer = turn_nears task a (peer_of task) c less sent adds.0 at (peers (peer_of task) c at).chain adds.2;
  },
)
  where
    left : Left c less
    left = turn_left task c less sent adds.0 adds.2

    out : (p : AddressPrefix) × IsSent (filt_rows c) (filt_rows less) p sent
    out = turn_sent task c less sent adds.0 adds.2

pub comes_inward : (task : Task) (a : Chains) (k : ℕ) (c less : Chained) (before now : Journaled) (turn : Turn Route) → k ≡ peer_of task → chain_at k a ≡ Some c → IsPeers a → IsTaken c less task before now turn → IsChain less
    → OneEmptyAtMost less.incoming.tables.deletions → ComesInward task a (put_chain k less a) before now turn
comes_inward task a k c less before now turn is at peers taken chain one = subst (λ (n : ℕ). ComesInward task a (put_chain n less a) before now turn) (sym is) (by_turn turn taken)
  where
    there : chain_at (peer_of task) a ≡ Some c
    there = ap (λ (n : ℕ). chain_at n a) (sym is) ∙ at

    by_turn : (t : Turn Route) → IsTaken c less task before now t → ComesInward task a (put_chain (peer_of task) less a) before now t
    by_turn turns.Nothing t = (ap (has_turn_in task) there ∙ t.0, ap (λ (x : Chained). put_chain (peer_of task) x a) t.1.0 ∙ put_same (peer_of task) c a there, t.1.1)
    by_turn turns.Quiet t = took_adds task None a c less before now there peers t chain one
    by_turn (turns.Sent change) t = took_adds task (Some change) a c less before now there peers t chain one
