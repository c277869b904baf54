-- Readers of the queue that are no peer's.
use Rattle.std.proofs.Common.{◌≡◌, ◌≢◌, ℕ, List, [], Option, Some, None, cond, refl, sym, ap, subst, ◌∙◌}
use Rattle.std.proofs.Common.{Result, Ok, Err, IfOk}
use Rattle.std.specs.Prelude.{IsSome}
use Rattle.std.specs.Option.{ForSome}
use Rattle.std.specs.BTreeMap.{BTreeMap}
use Rattle.std.specs.FinMap as tables
use Rattle.std.specs.FinMap.{get-insert, get-remove}
use Rattle.std.specs.Cmp.{nat_cmp_total}
use Rattle.bgp_attr.specs.Routes.{Route}
use Rattle.bgp_attr.specs.declared.speaker.Profile.{Profile}
use Rattle.bgp_attr.specs.Speakers.{Speaker}
use Rattle.bgp_attr.specs.declared.speaker.Neighbour.{Neighbour}
use Rattle.policy_rules.specs.Rules.{Rule}
use Rattle.fanout_queue.specs.Queues.{Queued}
use Rattle.fanout_queue.specs.Readers.{KeepsOtherReaders}
use Rattle.fanout_queue.proofs.Cases.{other_number}
use Rattle.fanout_queue.proofs.LeadLemmas.{take_keeps_others}
use Rattle.out_chain.specs.Chains.{OutChained}
use Rattle.out_chain.specs.Steps.{exit_to, new_out, with_rules}
use Rattle.out_chain.specs.Laws.{OthersKeepStanding}
use Rattle.exit_side.specs.Exits.{Exited, chain_at, with_queue, with_exit, without_exit, IsExits}
use Rattle.exit_side.specs.Steps.{edited_by}
use Rattle.exit_side.specs.Laws.{IsStranger, KeepsStranger, StrangersJoin, StrangersTake, BeginKeepsStrangers, EndKeepsStrangers, EditKeepsStrangers, TurnKeepsStrangers, PutKeepsStrangers}
use Rattle.exit_side.proofs.HeldLemmas.{seen}
use Rattle.exit_side.proofs.SwapLemmas.{Swaps, swaps_in, swaps_out, others_apart, swap_each}
use Rattle.exit_side.proofs.StepLemmas.{of_one, of_none, live_apart}
use Rattle.exit_side.proofs.PutLemmas as puts

-- what every other reader hasn't taken stays where one joins, and where one leaves
joined_others : (queued : Queued Route) (reader : ℕ) → KeepsOtherReaders reader queued (tables.insert queued reader [])
joined_others queued reader other differ = get-insert nat_cmp_total queued reader [] other ∙ ap (λ b. cond b (Some []) (tables.get queued other)) (other_number other reader differ)

dropped_others : (queued : Queued Route) (reader : ℕ) → KeepsOtherReaders reader queued (tables.remove queued reader)
dropped_others queued reader other differ = get-remove nat_cmp_total queued reader other ∙ ap (λ b. cond b None (tables.get queued other)) (other_number other reader differ)

-- ---- the exits with another queue, against the fields that hold them
module _ (profile : Profile) (queue after : Queued Route) (chains : BTreeMap ℕ OutChained) (e : Exited) (view : seen profile queue chains ≡ e) where
  pub queue_is : queue ≡ e.queue
  queue_is = ap (λ (x : Exited). x.queue) view

  pub with_after : seen profile after chains ≡ with_queue after e
  with_after = ap (with_queue after) view

  pub joined : {E : Type 0} (r : Result ℕ E) → IfOk r (λ reader. after ≡ tables.insert queue reader [])
      → IfOk r (λ reader. seen profile after chains ≡ with_queue (tables.insert e.queue reader []) e)
  joined (Ok reader) is = with_after ∙ ap (λ (q : Queued Route). with_queue q e) (is ∙ ap (λ (q : Queued Route). tables.insert q reader []) queue_is)
  joined (Err x) is = tt

  pub unchanged : after ≡ queue → seen profile after chains ≡ e
  unchanged is = ap (λ (q : Queued Route). seen profile q chains) is ∙ view

-- ---- it joins, and takes
pub strangers_join : OthersKeepStanding → StrangersJoin
strangers_join law e reader sound fresh =
    let own : IsStranger reader e = λ k c at. live_apart e.queue c.reader reader (sound.each k c at).live fresh in
    (own, puts.strangers_read_on law e (tables.insert e.queue reader []) reader sound own (joined_others e.queue reader))

pub strangers_take : OthersKeepStanding → StrangersTake
strangers_take law e queue reader result sound own takes = puts.strangers_read_on law e queue reader sound own (take_keeps_others e.queue queue reader result takes)

-- ---- what is done with the exits
module _ (reader : ℕ) (e : Exited) (sound : IsExits e) (own : IsStranger reader e) where
  swapped : (j r : ℕ) (o : Option OutChained) (e' : Exited) → Swaps j r o e e' → reader ≢ r → ForSome o (λ c. c.reader ≢ reader) → KeepsStranger reader e e'
  swapped j r o e' swaps apart mine = record {
    own = swap_each j r o e e' swaps (λ k c. c.reader ≢ reader) mine (λ k c differ at. own k c at);
    unread = swaps.queue reader apart;
  }

  not_of : (j : ℕ) (c : OutChained) → chain_at j e ≡ Some c → reader ≢ c.reader
  not_of j c at is = own j c at (sym is)

  begun : (me : Speaker) (peer : Neighbour) (session : ℕ) (rules : List Rule) (r : ℕ) → IsSome (tables.get e.queue reader) → tables.get e.queue r ≡ None
      → KeepsStranger reader e (with_exit peer.number (new_out (exit_to e.profile me peer) peer session r rules) (tables.insert e.queue r []) e)
  begun me peer session rules r live fresh =
      let chain : OutChained = new_out (exit_to e.profile me peer) peer session r rules in
      let queue : Queued Route = tables.insert e.queue r [] in
      swapped peer.number r (Some chain) (with_exit peer.number chain queue e)
      (swaps_in peer.number r chain queue e (joined_others e.queue r) (λ k d differ at. live_apart e.queue d.reader r (sound.each k d at).live fresh))
      (live_apart e.queue reader r live fresh) (of_one (λ (c : OutChained). c.reader ≢ reader) chain (λ is. live_apart e.queue reader r live fresh (sym is)))

  ended : (j : ℕ) (c : OutChained) → chain_at j e ≡ Some c → KeepsStranger reader e (without_exit j (tables.remove e.queue c.reader) e)
  ended j c at =
      let queue : Queued Route = tables.remove e.queue c.reader in
      swapped j c.reader None (without_exit j queue e) (swaps_out j c.reader queue e (dropped_others e.queue c.reader) (others_apart e j c sound at))
      (not_of j c at) (of_none (λ (d : OutChained). d.reader ≢ reader))

  -- another chain of the same peer, with the same reader
  put_in : (j : ℕ) (c taken : OutChained) (queue : Queued Route) → chain_at j e ≡ Some c → taken.reader ≡ c.reader → KeepsOtherReaders c.reader e.queue queue
      → KeepsStranger reader e (with_exit j taken queue e)
  put_in j c taken queue at same others =
      swapped j c.reader (Some taken) (with_exit j taken queue e) (swaps_in j c.reader taken queue e others (others_apart e j c sound at))
      (not_of j c at) (of_one (λ (d : OutChained). d.reader ≢ reader) taken (λ is. own j c at (sym same ∙ is)))

  edited : (j : ℕ) (rules : List Rule) (o : Option OutChained) → chain_at j e ≡ o → KeepsStranger reader e (edited_by j rules o e)
  edited j rules None at = record { own = own; unread = refl }
  edited j rules (Some c) at = put_in j c (with_rules rules c) e.queue at refl (λ other differ. refl)

pub begin_keeps : BeginKeepsStrangers
begin_keeps reader me peer session rules e e' entries sound own live begins =
    subst (KeepsStranger reader e) (sym begins.after) (begun reader e sound own me peer session rules begins.reader live begins.fresh)

pub end_keeps : EndKeepsStrangers
end_keeps reader j e e' entries sound own ends = subst (KeepsStranger reader e) (sym ends.after) (ended reader e sound own j ends.chain ends.at)

pub edit_keeps : EditKeepsStrangers
edit_keeps reader j rules e e' sound own edits = subst (KeepsStranger reader e) (sym edits.after) (edited reader e sound own j rules (chain_at j e) refl)

pub turn_keeps : TurnKeepsStrangers
turn_keeps reader j candidates best sent e e' said sound own turns =
    subst (KeepsStranger reader e) (sym turns.after) (put_in reader e sound own j turns.chain turns.taken e'.queue turns.at turns.same.reader turns.others)

pub put_keeps : PutKeepsStrangers
put_keeps reader change e e' own is = subst (IsStranger reader) (sym is.after) own
