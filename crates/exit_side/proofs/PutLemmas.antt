-- A change of `best` joins the queue; and what readers do that are no peer's.
use Rattle.std.proofs.Common.{◌≡◌, ◌≢◌, ℕ, Option, Some, None, refl, sym, ap, subst}
use Rattle.std.specs.Prelude.{IsSome}
use Rattle.std.specs.FinMap as tables
use Rattle.addr4.specs.Prefixes.{AddressPrefix}
use Rattle.bgp_attr.specs.Routes.{Route}
use Rattle.bgp_attr.specs.declared.speaker.Profile.{Profile}
use Rattle.link_change.specs.Rows.{Rows}
use Rattle.link_change.specs.Changes.{IsSent}
use Rattle.link_change.specs.Changes.{Change}
use Rattle.link_change.specs.InOrder.{rows_before}
use Rattle.peer_out.specs.Changes.{MayBeHeard}
use Rattle.fanout_queue.specs.Queues.{Queued, AppendsToAll}
use Rattle.fanout_queue.specs.Readers.{unread_or_none, KeepsOtherReaders}
use Rattle.fanout_queue.proofs.LeadLemmas.{put_keeps_readers, put_keeps_read}
use Rattle.out_chain.specs.Chains.{OutChained, out_links}
use Rattle.out_chain.specs.Laws.{PutKeepsStanding, OthersKeepStanding}
use Rattle.exit_side.specs.Exits.{Exited, chain_at, with_queue, links_by, IsExits}
use Rattle.exit_side.specs.Steps.{PutsExit}
use Rattle.exit_side.specs.Laws.{StaysWithQueue, StrangersReadOn}
use Rattle.exit_side.proofs.LinkLemmas.{links_same}
use Rattle.exit_side.proofs.CountLemmas.{put_more, left_same}

-- where each reader that was live is
with_live : (e : Exited) (queue : Queued Route) → IsExits e → ((k : ℕ) (c : OutChained) → chain_at k e ≡ Some c → IsSome (tables.get queue c.reader)) → IsExits (with_queue queue e)
with_live e queue sound live = record {
  each = λ k c at. let was = sound.each k c at in record { number = was.number; profile = was.profile; live = live k c at };
  apart = sound.apart;
}

module _ (e : Exited) (queue : Queued Route) (sound : IsExits e) where
  module _ (law : PutKeepsStanding) (change : Change Route) (appends : AppendsToAll change e.queue queue) where
    put_links : (best now : Rows Route) (p : AddressPrefix) → IsSent best now p (Some change) → (o : Option OutChained) → ((c : OutChained) → o ≡ Some c → IsSome (tables.get e.queue c.reader))
        → links_by queue now o ≡ links_by e.queue best o
    put_links best now p sent None live = refl
    put_links best now p sent (Some c) live = ap (out_links c) (put_keeps_read e.queue queue best now p change c.reader appends sent (live c refl))

    puts : PutsExit change e (with_queue queue e)
    puts = record {
      after = refl;
      appends = appends;
      links = λ best now p sent. links_same e (with_queue queue e) best now (λ k. put_links best now p sent (chain_at k e) (λ c at. (sound.each k c at).live));
      stand = λ best now p sent heard all k c at.
          law c e.queue queue best now p change (all k c at) appends sent (λ r is. subst (λ (profile : Profile). MayBeHeard profile r.attrs) (sym (sound.each k c at).profile) (heard r is));
      left = λ beyond. put_more beyond e queue change sound appends;
      sound = with_live e queue sound (λ k c at. put_keeps_readers e.queue queue change appends c.reader (sound.each k c at).live);
    }

    pub puts_for : (m e' : Exited) → e ≡ m → e' ≡ with_queue queue e → PutsExit change m e'
    puts_for m e' view is = subst (λ (x : Exited). PutsExit change x e') view (subst (PutsExit change e) (sym is) puts)

  -- ---- strangers
  module _ (law : OthersKeepStanding) (reader : ℕ) (apart : (k : ℕ) (c : OutChained) → chain_at k e ≡ Some c → c.reader ≢ reader) (keeps : KeepsOtherReaders reader e.queue queue) where
    same : (k : ℕ) (c : OutChained) → chain_at k e ≡ Some c → tables.get queue c.reader ≡ tables.get e.queue c.reader
    same k c at = keeps c.reader (apart k c at)

    same_links : (best : Rows Route) (o : Option OutChained) → ((c : OutChained) → o ≡ Some c → tables.get queue c.reader ≡ tables.get e.queue c.reader) → links_by queue best o ≡ links_by e.queue best o
    same_links best None is = refl
    same_links best (Some c) is = ap (λ u. out_links c (rows_before (unread_or_none u) best)) (is c refl)

    stays : StaysWithQueue e queue
    stays = record {
      links = λ best. links_same e (with_queue queue e) best best (λ k. same_links best (chain_at k e) (λ c at. same k c at));
      stand = λ best all k c at. law c e.queue queue best reader (apart k c at) keeps (all k c at);
      left = λ beyond. left_same beyond e queue same;
      sound = with_live e queue sound (λ k c at. subst (λ u. IsSome u) (sym (same k c at)) (sound.each k c at).live);
    }

pub strangers_read_on : OthersKeepStanding → StrangersReadOn
strangers_read_on law e queue reader sound apart keeps = stays e queue sound law reader apart keeps
