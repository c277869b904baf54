-- The exits where one peer's chain, or none, takes the place of what was there, and one reader's part of the queue changes.
use Rattle.std.proofs.Common.{◌≡◌, ◌≢◌, ℕ, Bool, true, false, cond, List, Option, Some, None, nat_eq, refl, sym, ap, subst, ◌∙◌, arith}
use Rattle.std.proofs.lemmas.Bool.Decides.{nat_tests}
use Rattle.std.specs.Prelude.{IsSome}
use Rattle.std.specs.Option.{ForSome}
use Rattle.std.specs.FinMap as tables
use Rattle.std.specs.FinMap.{get-insert, get-remove, same_map, nat_cmp-IsAntisymmetric}
use Rattle.std.specs.Cmp.{nat_cmp_total}
use Rattle.bgp_attr.specs.Routes.{Route}
use Rattle.link_change.specs.Rows.{Rows}
use Rattle.link_change.specs.Changes.{Change}
use Rattle.link_change.specs.InOrder.{rows_before}
use Rattle.fanout_queue.specs.Queues.{Queued}
use Rattle.fanout_queue.specs.Readers.{unread_or_none, KeepsOtherReaders}
use Rattle.fanout_queue.proofs.Cases.{by_bool, same_number, other_number}
use Rattle.fanout_queue.proofs.Cases as cases
use Rattle.out_chain.specs.Chains.{OutChained, out_links, OutStands}
use Rattle.out_chain.specs.Laws.{OthersKeepStanding}
use Rattle.exit_side.specs.Exits.{Exited, OutChains, chain_at, with_exit, without_exit, links_by, IsExit, IsExits, AllStand}

equal_by : (m n : ℕ) → nat_eq m n ≡ true → m ≡ n
equal_by m n e = grind (arith, nat_tests)

differ_by : (m n : ℕ) → nat_eq m n ≡ false → m ≢ n
differ_by m n e is = let clash : nat_eq m n ≡ true = grind (arith, nat_tests, is) in cc

-- at a number, or at another
pub by_number : (m n : ℕ) (P : Bool → Type 0) → (m ≡ n → P true) → (m ≢ n → P false) → P (nat_eq m n)
by_number m n P here apart = by_bool (nat_eq m n) P (λ e. here (equal_by m n e)) (λ e. apart (differ_by m n e))

pub record Swaps (j : ℕ) (reader : ℕ) (o : Option OutChained) (e e' : Exited) : Type 0 where
  pub profile : e'.profile ≡ e.profile
  pub here : chain_at j e' ≡ o
  pub other : (k : ℕ) → k ≢ j → chain_at k e' ≡ chain_at k e
  pub queue : KeepsOtherReaders reader e.queue e'.queue
  pub apart : (k : ℕ) (c : OutChained) → k ≢ j → chain_at k e ≡ Some c → c.reader ≢ reader

-- ---- such a change
pub swaps_in : (j reader : ℕ) (c : OutChained) (queue : Queued Route) (e : Exited) → KeepsOtherReaders reader e.queue queue
    → ((k : ℕ) (d : OutChained) → k ≢ j → chain_at k e ≡ Some d → d.reader ≢ reader) → Swaps j reader (Some c) e (with_exit j c queue e)
swaps_in j reader c queue e keeps apart = record {
  profile = refl;
  here = get-insert nat_cmp_total e.chains j c j ∙ ap (λ b. cond b (Some c) (chain_at j e)) (same_number j);
  other = λ k differ. get-insert nat_cmp_total e.chains j c k ∙ ap (λ b. cond b (Some c) (chain_at k e)) (other_number k j differ);
  queue = keeps;
  apart = apart;
}

pub swaps_out : (j reader : ℕ) (queue : Queued Route) (e : Exited) → KeepsOtherReaders reader e.queue queue
    → ((k : ℕ) (d : OutChained) → k ≢ j → chain_at k e ≡ Some d → d.reader ≢ reader) → Swaps j reader None e (without_exit j queue e)
swaps_out j reader queue e keeps apart = record {
  profile = refl;
  here = get-remove nat_cmp_total e.chains j j ∙ ap (λ b. cond b None (chain_at j e)) (same_number j);
  other = λ k differ. get-remove nat_cmp_total e.chains j k ∙ ap (λ b. cond b None (chain_at k e)) (other_number k j differ);
  queue = keeps;
  apart = apart;
}

-- to put the chain that is there changes nothing
pub put_back : (e : Exited) (j : ℕ) (c : OutChained) → chain_at j e ≡ Some c → with_exit j c e.queue e ≡ e
put_back e j c at =
    ap (λ (m : OutChains). record { profile = e.profile; queue = e.queue; chains = m }) (same_map nat_cmp_total nat_cmp-IsAntisymmetric (tables.insert e.chains j c) e.chains (λ k.
    get-insert nat_cmp_total e.chains j c k ∙ cases.by_number k j (λ b. cond b (Some c) (chain_at k e) ≡ chain_at k e) (λ is. sym at ∙ ap (λ (n : ℕ). chain_at n e) (sym is)) (λ _. refl)))

-- readers of other peers aren't the one of this peer
pub others_apart : (e : Exited) (j : ℕ) (c : OutChained) → IsExits e → chain_at j e ≡ Some c → (k : ℕ) (d : OutChained) → k ≢ j → chain_at k e ≡ Some d → d.reader ≢ c.reader
others_apart e j c sound at k d differ there same = differ (sound.apart k j d c there at same)

-- ---- what it keeps
module _ (j reader : ℕ) (o : Option OutChained) (e e' : Exited) (swaps : Swaps j reader o e e') where
  -- what another peer's reader hasn't taken stays
  pub unread_stays : (k : ℕ) (c : OutChained) → k ≢ j → chain_at k e ≡ Some c → tables.get e'.queue c.reader ≡ tables.get e.queue c.reader
  unread_stays k c differ at = swaps.queue c.reader (swaps.apart k c differ at)

  -- a chain after it is the one that was put, or one of another peer
  pub swap_each : (P : ℕ → OutChained → Type 0) → ForSome o (P j) → ((k : ℕ) (c : OutChained) → k ≢ j → chain_at k e ≡ Some c → P k c)
      → (k : ℕ) (c : OutChained) → chain_at k e' ≡ Some c → P k c
  swap_each P own each k c at = by_number k j (λ b. P k c) (λ is. subst (λ (n : ℕ). P n c) (sym is) (own c (sym swaps.here ∙ ap (λ (n : ℕ). chain_at n e') (sym is) ∙ at))) (λ differ. each k c differ (sym (swaps.other k differ) ∙ at))

  pub swap_stands : OthersKeepStanding → (best : Rows Route) → ForSome o (λ c. OutStands c e'.queue best) → AllStand best e → AllStand best e'
  swap_stands law best own all = swap_each (λ k c. OutStands c e'.queue best) own (λ k c differ at.
      law c e.queue e'.queue best reader (swaps.apart k c differ at) swaps.queue (all k c at))

  -- another peer's links stay
  pub links_stay : (best : Rows Route) (k : ℕ) → k ≢ j → links_by e'.queue best (chain_at k e') ≡ links_by e.queue best (chain_at k e)
  links_stay best k differ = ap (links_by e'.queue best) (swaps.other k differ) ∙ same (chain_at k e) refl
    where
      same : (x : Option OutChained) → chain_at k e ≡ x → links_by e'.queue best x ≡ links_by e.queue best x
      same None at = refl
      same (Some c) at = ap (λ (u : Option (List (Change Route))). out_links c (rows_before (unread_or_none u) best)) (unread_stays k c differ at)

  module _ (sound : IsExits e) (own : ForSome o (λ c. IsExit e' j c × (c.reader ≡ reader))) where
    other_is : (k : ℕ) (c : OutChained) → k ≢ j → chain_at k e ≡ Some c → IsExit e' k c
    other_is k c differ at =
        let was = sound.each k c at in
        record { number = was.number; profile = was.profile ∙ sym swaps.profile; live = subst (λ u. IsSome u) (sym (unread_stays k c differ at)) was.live }

    apart_then : (i k : ℕ) (c d : OutChained) → chain_at i e' ≡ Some c → chain_at k e' ≡ Some d → c.reader ≡ d.reader → i ≡ k
    apart_then i k c d first second same =
        by_number i j (λ b. i ≡ k)
        (λ i_is. by_number k j (λ b. i ≡ k) (λ k_is. i_is ∙ sym k_is)
        (λ k_differs.
        let mine : c.reader ≡ reader = (own c (sym swaps.here ∙ ap (λ (n : ℕ). chain_at n e') (sym i_is) ∙ first)).1 in
        absurd (swaps.apart k d k_differs (sym (swaps.other k k_differs) ∙ second) (sym same ∙ mine))))
        (λ i_differs. by_number k j (λ b. i ≡ k)
        (λ k_is.
        let mine : d.reader ≡ reader = (own d (sym swaps.here ∙ ap (λ (n : ℕ). chain_at n e') (sym k_is) ∙ second)).1 in
        absurd (swaps.apart i c i_differs (sym (swaps.other i i_differs) ∙ first) (same ∙ mine)))
        (λ k_differs. sound.apart i k c d (sym (swaps.other i i_differs) ∙ first) (sym (swaps.other k k_differs) ∙ second) same))

    pub swap_sound : IsExits e'
    swap_sound = record { each = swap_each (IsExit e') (λ c is. (own c is).0) other_is; apart = apart_then }
