-- The laws of outgoing chains.
use Rattle.std.proofs.Common.{◌≡◌, ℕ, Bool, true, false, ◌||◌, ◌&&◌, is_some, cond, List, [], ◌∷◌, length, Option, Some, None, IsSome, refl, sym, ap, subst, ◌∙◌, arith}
use Rattle.std.specs.Option.{option_map, ForSome}
use Rattle.std.specs.FinMap as map
use Rattle.addr4.specs.Prefixes.{AddressPrefix}
use Rattle.bgp_attr.specs.Attributes.{Attrs}
use Rattle.bgp_attr.specs.Routes.{Route}
use Rattle.bgp_attr.specs.declared.speaker.Profile.{Profile}
use Rattle.link_change.specs.Rows.{Rows, with_row}
use Rattle.link_change.specs.Changes.{IsSent}
use Rattle.link_change.specs.InOrder.{ChangesLead, rows_before, with_last, changed_in}
use Rattle.addr4.proofs.PrefixOrder.{by_prefix}
use Rattle.link_change.proofs.InOrderLemmas.{put_keeps_before, put_leads, unchanged_stays}
use Rattle.link_change.proofs.RowLemmas.{not_first as first_false, not_second as second_false}
use Rattle.link_change.specs.Changes.{Change}
use Rattle.policy_rules.specs.Rules.{Rule}
use Rattle.pass_core.specs.Passed.{Passed, Walked, present, holds_up}
use Rattle.pass_core.specs.Left.{walk_turns}
use Rattle.pass_core.specs.Turns.{row_lags}
use Rattle.pass_core.proofs.TurnLemmas.{exact_unless_held_up as latest_row, none_lags_without_a_walk}
use Rattle.pass_core.proofs.LeftLemmas.{left_is_bounded}
use Rattle.peer_out.specs.Changes.{MayBeHeard}
use Rattle.fanout_queue.specs.Readers.{unread_or_none, unread_by, read_rows}
use Rattle.fanout_queue.proofs.LeadLemmas.{put_keeps_read, put_keeps_readers}
use Rattle.out_chain.specs.Chains.{made_by, outf_rows, is_unread, HasSent, RowsMayBeHeard, ChangesMayBeHeard}
use Rattle.out_chain.specs.Laws.{ExactUnlessHeldUp, NoneHeldUpWithoutWork, BestRowTells, PutKeepsStanding, OthersKeepStanding, NoTurnsWithoutWork, OutTurnsAreBounded}

pub exact_unless_held_up : ExactUnlessHeldUp
exact_unless_held_up c queued best p has none =
    let unread = unread_by queued c.reader in
    let read = read_rows queued c.reader best p in
    let same : read ≡ best p = unchanged_stays best unread p (first_false (changed_in unread p) (row_lags c.filter p read) none) in
    (same, ap (λ (rows : Rows Attrs). rows p) has ∙ latest_row (made_by c) c.filter p read (λ rules q. refl) (second_false (changed_in unread p) (row_lags c.filter p read) none) ∙ ap (made_by c (present c.filter) p) same)

none_changed : (unread : List (Change Route)) (p : AddressPrefix) → is_unread unread ≡ false → changed_in unread p ≡ false
none_changed [] p none = refl
none_changed (change ∷ changes) p none = absurd (let clash : true ≡ false = none in cc)

none_waits : {F : Type 0} (s : Passed F) (p : AddressPrefix) (has_row : Bool) → is_some s.walk ≡ false → (has_row && holds_up s p) ≡ false
none_waits s p true none = none_lags_without_a_walk s p (Some p) none
none_waits s p false none = refl

pub none_held_up_without_work : NoneHeldUpWithoutWork
none_held_up_without_work c unread p has_row none =
    ap (λ (b : Bool). b || (has_row && holds_up c.filter p)) (none_changed unread p (first_false (is_unread unread) (is_some c.filter.walk) none))
    ∙ none_waits c.filter p has_row (second_false (is_unread unread) (is_some c.filter.walk) none)

pub best_row_tells : BestRowTells
best_row_tells c queued best p = by_change (changed_in (unread_by queued c.reader) p) refl
  where
    by_change : (b : Bool) → changed_in (unread_by queued c.reader) p ≡ b → (b || (is_some (best p) && holds_up c.filter p)) ≡ (b || (is_some (read_rows queued c.reader best p) && holds_up c.filter p))
    by_change true there = refl
    by_change false none = ap (λ (row : Option Route). is_some row && holds_up c.filter p) (sym (unchanged_stays best (unread_by queued c.reader) p none))

heard_last : (profile : Profile) (change : Change Route) (changes : List (Change Route)) → ChangesMayBeHeard profile changes → ForSome change.after (λ r. MayBeHeard profile r.attrs)
    → ChangesMayBeHeard profile (with_last change changes)
heard_last profile change [] heard after = (after, tt)
heard_last profile change (c ∷ cs) heard after = (heard.0, heard_last profile change cs heard.1 after)

heard_more : (profile : Profile) (change : Change Route) (unread : Option (List (Change Route))) → ChangesMayBeHeard profile (unread_or_none unread) → ForSome change.after (λ r. MayBeHeard profile r.attrs)
    → ChangesMayBeHeard profile (unread_or_none (option_map (with_last change) unread))
heard_more profile change None heard after = tt
heard_more profile change (Some changes) heard after = heard_last profile change changes heard after

put_leads_on : (old new : Option (List (Change Route))) (best now : Rows Route) (p : AddressPrefix) (change : Change Route) → new ≡ option_map (with_last change) old → IsSent best now p (Some change) → IsSome old
    → ChangesLead (rows_before (unread_or_none old) best) (unread_or_none old) best → ChangesLead (rows_before (unread_or_none new) now) (unread_or_none new) now
put_leads_on None new best now p change is sent live leads = absurd (cc)
put_leads_on (Some changes) new best now p change is sent live leads =
    let Q : Option (List (Change Route)) → Type 0 = λ o. ChangesLead (rows_before (unread_or_none o) now) (unread_or_none o) now in
    subst Q (sym is)
    (subst (λ (r : Rows Route). ChangesLead r (with_last change changes) now) (sym (put_keeps_before best now p change changes sent))
    (put_leads (rows_before changes best) best now p change changes sent leads))

heard_with : (profile : Profile) (best : Rows Route) (p : AddressPrefix) (row : Option Route) → RowsMayBeHeard profile best → ForSome row (λ r. MayBeHeard profile r.attrs) → RowsMayBeHeard profile (with_row best p row)
heard_with profile best p row all heard q = by_prefix q p (λ b. ForSome (cond b row (best q)) (λ (r : Route). MayBeHeard profile r.attrs)) (λ _. heard) (λ _. all q)

pub put_keeps_standing : PutKeepsStanding
put_keeps_standing c queued put best now p change was appends sent after =
    let read : read_rows put c.reader now ≡ read_rows queued c.reader best = put_keeps_read queued put best now p change c.reader appends sent was.live in
    let unread : unread_by put c.reader ≡ unread_or_none (option_map (with_last change) (map.get queued c.reader)) = ap unread_or_none (appends c.reader) in
    record {
      chain = was.chain;
      live = put_keeps_readers queued put change appends c.reader was.live;
      leads = put_leads_on (map.get queued c.reader) (map.get put c.reader) best now p change (appends c.reader) sent was.live was.leads;
      exact = was.exact ∙ ap (outf_rows c) (sym read);
      heard = subst (RowsMayBeHeard c.exit.profile) (sym sent.2) (heard_with c.exit.profile best change.prefix change.after was.heard after);
      unread = subst (ChangesMayBeHeard c.exit.profile) (sym unread) (heard_more c.exit.profile change (map.get queued c.reader) was.unread after);
    }

pub others_keep_standing : OthersKeepStanding
others_keep_standing c queued left best other apart keeps was =
    let P : Option (List (Change Route)) → Type 0 = λ o. IsSome o in
    let Q : Option (List (Change Route)) → Type 0 = λ o. ChangesLead (rows_before (unread_or_none o) best) (unread_or_none o) best in
    let E : Option (List (Change Route)) → Type 0 = λ o. HasSent c (rows_before (unread_or_none o) best) in
    let H : Option (List (Change Route)) → Type 0 = λ o. ChangesMayBeHeard c.exit.profile (unread_or_none o) in
    let same : map.get left c.reader ≡ map.get queued c.reader = keeps c.reader apart in
    record {
      chain = was.chain;
      live = subst P (sym same) was.live;
      leads = subst Q (sym same) was.leads;
      exact = subst E (sym same) was.exact;
      heard = was.heard;
      unread = subst H (sym same) was.unread;
    }

nothing_unread : (unread : List (Change Route)) → length unread ≡ 0 → unread ≡ []
nothing_unread [] e = refl
nothing_unread (change ∷ changes) e = absurd (omega arith)

no_walk : (beyond : Option AddressPrefix → ℕ) (walk : Option (Walked (Option (List Rule)))) → walk_turns beyond walk ≡ 0 → walk ≡ None
no_walk beyond None e = refl
no_walk beyond (Some w) e = absurd (omega arith)

pub no_turns_without_work : NoTurnsWithoutWork
no_turns_without_work beyond c unread e = (nothing_unread unread (omega arith), no_walk beyond c.filter.walk (omega arith))

pub out_turns_are_bounded : OutTurnsAreBounded
out_turns_are_bounded candidates beyond c unread counts = let most = left_is_bounded candidates beyond c.filter counts in omega (arith, most)
