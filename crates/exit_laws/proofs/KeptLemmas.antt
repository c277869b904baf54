-- What stands in the exits and can be printed, kept by each step.
use Rattle.std.proofs.Common.{◌≡◌, ℕ, Bool, cond, List, [], ◌∷◌, Option, Some, None, refl, sym, ap, subst, ◌∙◌}
use Rattle.std.specs.Prelude.{option_map}
use Rattle.std.specs.Option.{ForSome}
use Rattle.std.specs.List.{AllByRecursion}
use Rattle.std.specs.FinMap as tables
use Rattle.std.specs.FinMap.{get-insert, get-remove, get-empty}
use Rattle.std.specs.Ordering.{eq_by_cmp}
use Rattle.std.specs.Cmp.{nat_cmp_total}
use Rattle.addr4.specs.Prefixes.{AddressPrefix, prefix_cmp}
use Rattle.addr4.proofs.PrefixOrder.{prefixes_total, itself, by_prefix}
use Rattle.bgp_attr.specs.Attributes.{Attrs}
use Rattle.bgp_attr.specs.Routes.{Route}
use Rattle.bgp_attr.specs.declared.speaker.Profile.{Profile}
use Rattle.link_change.specs.Rows.{Rows}
use Rattle.link_change.specs.InOrder.{rows_before, with_last}
use Rattle.link_change.specs.Changes.{Change}
use Rattle.policy_rules.specs.Rules.{Rule}
use Rattle.cache_stage.specs.Caches.{kept_after}
use Rattle.fanout_queue.specs.Queues.{Queued, Takes, AppendsToAll}
use Rattle.fanout_queue.specs.Readers.{unread_or_none}
use Rattle.fanout_queue.proofs.Cases.{by_number as at_number}
use Rattle.journal_check.proofs.InkLemmas.{all_append}
use Rattle.journal_laws.specs.Printed.{Printing}
use Rattle.journal_text.specs.Names.{IsNamed}
use Rattle.journal_text.specs.declared.link.Link.TheVariants.{Adv}
use Rattle.live_state.specs.Lives.{Routes}
use Rattle.out_chain.specs.Chains.{OutChained}
use Rattle.out_chain.specs.Steps.{with_rules, sent_after}
use Rattle.exit_side.specs.Exits.{Exited, chain_at, with_queue, with_exit, without_exit}
use Rattle.exit_side.specs.Steps.{edited_by}
use Rattle.exit_side.proofs.SwapLemmas.{by_number}
use Rattle.exit_laws.specs.Printable.{IsPrintableBest, AreBestRows, IsBestChange, AreBestChanges, IsPrintableSent, IsPrintableExit, ArePrintableExits}
use Rattle.exit_laws.specs.Laws.{EmptyIsPrinted, EditIsPrinted, PutIsPrinted, JoinIsPrinted}
use Rattle.exit_laws.proofs.ViewLemmas.{put_here, put_other, gone_here, gone_other}

module _ (profile : Profile) (printing : Printing) where
  -- ---- what readers haven't taken
  abbrev pub AllBest : List (Change Route) → Type 0
  AllBest changes = AllByRecursion (IsBestChange profile printing) changes

  -- the rows that a reader has
  pub rows_read : (changes : List (Change Route)) (best : Rows Route) → AllBest changes → AreBestRows profile printing best → AreBestRows profile printing (rows_before changes best)
  rows_read [] best all rows p row is = rows p row is
  rows_read (c ∷ cs) best all rows p row is = by_prefix p c.prefix (λ (b : Bool). cond b c.before (rows_before cs best p) ≡ Some row → IsPrintableBest profile printing p row)
      (λ at was. subst (λ (q : AddressPrefix). IsPrintableBest profile printing q row) (sym at) (all.0.before row was))
      (λ _ was. rows_read cs best all.1 rows p row was) is

  of_unread : (queued : Queued Route) (reader : ℕ) (o : Option (List (Change Route))) → AreBestChanges profile printing queued → tables.get queued reader ≡ o → AllBest (unread_or_none o)
  of_unread queued reader o all at = subst (λ (x : Option (List (Change Route))). AllBest (unread_or_none x)) at (all reader)

  -- the change that a reader takes
  pub taken_change : (queued left : Queued Route) (reader : ℕ) (change : Change Route) → AreBestChanges profile printing queued → Takes queued left reader (Some change) → IsBestChange profile printing change
  taken_change queued left reader change all takes = (of_unread queued reader (Some (change ∷ takes.0)) all takes.1).0

  pub queue_insert : (queued : Queued Route) (reader : ℕ) (unread : List (Change Route)) → AreBestChanges profile printing queued → AllBest unread → AreBestChanges profile printing (tables.insert queued reader unread)
  queue_insert queued reader unread all own other =
      subst (λ (o : Option (List (Change Route))). AllBest (unread_or_none o)) (sym (get-insert nat_cmp_total queued reader unread other))
      (at_number other reader (λ (b : Bool). AllBest (unread_or_none (cond b (Some unread) (tables.get queued other)))) (λ _. own) (λ _. all other))

  queue_remove : (queued : Queued Route) (reader : ℕ) → AreBestChanges profile printing queued → AreBestChanges profile printing (tables.remove queued reader)
  queue_remove queued reader all other =
      subst (λ (o : Option (List (Change Route))). AllBest (unread_or_none o)) (sym (get-remove nat_cmp_total queued reader other))
      (at_number other reader (λ (b : Bool). AllBest (unread_or_none (cond b None (tables.get queued other)))) (λ _. tt) (λ _. all other))

  pub queue_taken : (queued left : Queued Route) (reader : ℕ) (result : Option (Change Route)) → AreBestChanges profile printing queued → Takes queued left reader result → AreBestChanges profile printing left
  queue_taken queued left reader None all takes = subst (AreBestChanges profile printing) (sym takes.1) all
  queue_taken queued left reader (Some change) all takes =
      subst (AreBestChanges profile printing) (sym takes.2) (queue_insert queued reader takes.0 all (of_unread queued reader (Some (change ∷ takes.0)) all takes.1).1)

  joined_by : (change : Change Route) (o : Option (List (Change Route))) → IsBestChange profile printing change → AllBest (unread_or_none o) → AllBest (unread_or_none (option_map (with_last change) o))
  joined_by change None is all = tt
  joined_by change (Some unread) is all = all_append (IsBestChange profile printing) unread (change ∷ []) all (is, tt)

  queue_joined : (change : Change Route) (queued put : Queued Route) → IsBestChange profile printing change → AppendsToAll change queued put → AreBestChanges profile printing queued → AreBestChanges profile printing put
  queue_joined change queued put is appends all reader =
      subst (λ (o : Option (List (Change Route))). AllBest (unread_or_none o)) (sym (appends reader)) (joined_by change (tables.get queued reader) is (all reader))

  -- ---- chains
  abbrev pub EachChain : Exited → Type 0
  EachChain e = (j : ℕ) (c : OutChained) → chain_at j e ≡ Some c → IsPrintableExit printing j c

  same_chain : (c d : OutChained) (o : Option OutChained) → o ≡ Some c → o ≡ Some d → c ≡ d
  same_chain c d o first second = let same : Some c ≡ Some d = sym first ∙ second in cc

  no_chain : (d : OutChained) (o : Option OutChained) (P : Type 0) → o ≡ None → o ≡ Some d → P
  no_chain d o P none there = absurd (let clash : Some d ≡ None = sym there ∙ none in cc)

  pub each_put : (j : ℕ) (c : OutChained) (queue : Queued Route) (e : Exited) → IsPrintableExit printing j c → EachChain e → EachChain (with_exit j c queue e)
  each_put j c queue e own each k d at = by_number k j (λ (b : Bool). IsPrintableExit printing k d)
      (λ is. subst (λ (n : ℕ). IsPrintableExit printing n d) (sym is)
      (subst (IsPrintableExit printing j) (same_chain c d (chain_at j (with_exit j c queue e)) (put_here j c queue e) (ap (λ (n : ℕ). chain_at n (with_exit j c queue e)) (sym is) ∙ at)) own))
      (λ differ. each k d (sym (put_other j k c queue e differ) ∙ at))

  each_gone : (j : ℕ) (queue : Queued Route) (e : Exited) → EachChain e → EachChain (without_exit j queue e)
  each_gone j queue e each k d at = by_number k j (λ (b : Bool). IsPrintableExit printing k d)
      (λ is. no_chain d (chain_at j (without_exit j queue e)) (IsPrintableExit printing k d) (gone_here j queue e) (ap (λ (n : ℕ). chain_at n (without_exit j queue e)) (sym is) ∙ at))
      (λ differ. each k d (sym (gone_other j k queue e differ) ∙ at))

  -- ---- what was sent
  kept_get : (rows : Routes) (p : AddressPrefix) (after : Option Attrs) (q : AddressPrefix) → tables.get (kept_after rows p after) q ≡ cond (eq_by_cmp prefix_cmp q p) after (tables.get rows q)
  kept_get rows p None q = get-remove prefixes_total rows p q
  kept_get rows p (Some a) q = get-insert prefixes_total rows p a q

  pub sent_there : (rows : Routes) (change : Change Attrs) → tables.get (sent_after rows (Some change)) change.prefix ≡ change.after
  sent_there rows change = kept_get rows change.prefix change.after change.prefix ∙ ap (λ (b : Bool). cond b change.after (tables.get rows change.prefix)) (itself change.prefix)

  pub sent_kept : (rows : Routes) (sent : Option (Change Attrs)) → ((p : AddressPrefix) → ForSome (tables.get rows p) (IsPrintableSent printing p))
      → ((change : Change Attrs) → sent ≡ Some change → ForSome change.after (IsPrintableSent printing change.prefix)) → (p : AddressPrefix) → ForSome (tables.get (sent_after rows sent) p) (IsPrintableSent printing p)
  sent_kept rows None was now p a is = was p a is
  sent_kept rows (Some change) was now p a is = by_prefix p change.prefix (λ (b : Bool). cond b change.after (tables.get rows p) ≡ Some a → IsPrintableSent printing p a)
      (λ at e. subst (λ (q : AddressPrefix). IsPrintableSent printing q a) (sym at) (now change refl a e)) (λ _ e. was p a e) (sym (kept_get rows change.prefix change.after p) ∙ is)

  -- ---- steps
  begun_exit : (j : ℕ) (c : OutChained) → IsNamed (Adv j c.session) → c.sent ≡ tables.empty → IsPrintableExit printing j c
  begun_exit j c named none = record {
    named = named;
    sent = λ p a is. absurd (let nothing : tables.get c.sent p ≡ None = ap (λ (r : Routes). tables.get r p) none ∙ get-empty prefix_cmp p in let clash : Some a ≡ None = sym is ∙ nothing in cc);
  }

  pub begun_exits : (j reader : ℕ) (c : OutChained) (e : Exited) → c.sent ≡ tables.empty → IsNamed (Adv j c.session) → ArePrintableExits profile printing e → ArePrintableExits profile printing (with_exit j c (tables.insert e.queue reader []) e)
  begun_exits j reader c e none named are = record {
    family = are.family;
    unread = queue_insert e.queue reader [] are.unread tt;
    each = each_put j c (tables.insert e.queue reader []) e (begun_exit j c named none) are.each;
  }

  pub ended_exits : (j reader : ℕ) (e : Exited) → ArePrintableExits profile printing e → ArePrintableExits profile printing (without_exit j (tables.remove e.queue reader) e)
  ended_exits j reader e are = record { family = are.family; unread = queue_remove e.queue reader are.unread; each = each_gone j (tables.remove e.queue reader) e are.each }

  edited_exits : (j : ℕ) (rules : List Rule) (o : Option OutChained) (e : Exited) → chain_at j e ≡ o → ArePrintableExits profile printing e → ArePrintableExits profile printing (edited_by j rules o e)
  edited_exits j rules None e at are = are
  edited_exits j rules (Some c) e at are =
      let own = are.each j c at in
      record { family = are.family; unread = are.unread; each = each_put j (with_rules rules c) e.queue e (record { named = own.named; sent = own.sent }) are.each }

  pub with_unread : (queue : Queued Route) (e : Exited) → AreBestChanges profile printing queue → ArePrintableExits profile printing e → ArePrintableExits profile printing (with_queue queue e)
  with_unread queue e all are = record { family = are.family; unread = all; each = are.each }

pub empty_is_printed : EmptyIsPrinted
empty_is_printed profile printing e family none empty = record {
  family = family;
  unread = λ reader. subst (AllBest profile printing) (sym (empty reader)) tt;
  each = λ j c at. no_chain profile printing c (chain_at j e) (IsPrintableExit printing j c) (none j) at;
}

pub edit_is_printed : EditIsPrinted
edit_is_printed profile printing j rules e e' are edits = subst (ArePrintableExits profile printing) (sym edits.after) (edited_exits profile printing j rules (chain_at j e) e refl are)

pub put_is_printed : PutIsPrinted
put_is_printed profile printing change e e' is are puts =
    subst (ArePrintableExits profile printing) (sym puts.after) (with_unread profile printing e'.queue e (queue_joined profile printing change e.queue e'.queue is puts.appends are.unread) are)

pub join_is_printed : JoinIsPrinted
join_is_printed profile printing reader e are = with_unread profile printing (tables.insert e.queue reader []) e (queue_insert profile printing e.queue reader [] are.unread tt) are
