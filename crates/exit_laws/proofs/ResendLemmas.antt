-- A refresh, and the turns of its walk: what the peer hears by them it has already, and they can be printed.
use Rattle.std.proofs.Common.{◌≡◌, ℕ, ◌+◌, Bool, true, cond, List, Option, Some, None, refl, sym, ap, subst, ◌∙◌}
use Rattle.std.specs.Prelude.{nat_le, All}
use Rattle.std.specs.List.{AllByRecursion}
use Rattle.std.specs.FinMap as tables
use Rattle.std.specs.FinMap.{get-insert, same_map}
use Rattle.addr4.specs.Prefixes.{AddressPrefix}
use Rattle.addr4.proofs.PrefixOrder.{prefixes_total, by_prefix, exact_prefixes}
use Rattle.addr4.specs.Hosts.{is_host_prefix}
use Rattle.bgp_attr.specs.Attributes.{Attrs}
use Rattle.bgp_attr.specs.declared.speaker.Profile.{Profile}
use Rattle.bgp_wire.specs.Lengths.{announcement_length}
use Rattle.bgp_wire.specs.Readable.{IsReadableSegment}
use Rattle.link_change.specs.Rows.{Rows}
use Rattle.link_change.specs.Changes.{Change}
use Rattle.pass_core.specs.Passed.{function_at}
use Rattle.fanout_queue.specs.Readers.{read_rows}
use Rattle.journal_laws.specs.Printed.{Printing}
use Rattle.journal_text.specs.Names.{IsNamed}
use Rattle.journal_text.specs.Lines.{Line}
use Rattle.journal_text.specs.declared.link.Link.TheVariants.{Adv}
use Rattle.peer_out.specs.Changes.{IsSentOf}
use Rattle.peer_out.specs.Forms.{Exit, sent_form}
use Rattle.out_chain.specs.Chains.{OutChained, form_of, outf_rows, refreshed}
use Rattle.out_chain.specs.Steps.{message_lines, announcing, IsTold}
use Rattle.exit_side.specs.Exits.{chain_at, refreshed_by}
use Rattle.live_state.specs.Lives.{Routes, with_routes}
use Rattle.live_state.specs.Heard.{Views, Hears}
use Rattle.exit_laws.specs.Views.{sent_by, views_of}
use Rattle.exit_laws.specs.Printable.{IsPrintableSent, IsPrintableExit, ArePrintableExits}
use Rattle.exit_laws.specs.Laws.{ArePrinted, RefreshKeepsViews, ResendKeepsViews, ResendIsHeard, RefreshIsPrinted, ResendIsPrinted}
use Rattle.exit_laws.proofs.OctetLemmas.{HasFewNumbers, CanBeSpelled}
use Rattle.exit_laws.proofs.ViewLemmas.{views_put, routes_same, hears_message, hosts_alone}
use Rattle.exit_laws.proofs.KeptLemmas.{each_put}
use Rattle.exit_laws.proofs.PrintLemmas.{IsFormOfOne, IsSayable, of_fitting, sent_few, octets_small, message_printed}

-- ---- views
pub refresh_keeps_views : RefreshKeepsViews
refresh_keeps_views j e = by_chain (chain_at j e) refl
  where
    by_chain : (o : Option OutChained) → chain_at j e ≡ o → views_of (refreshed_by j o e) ≡ views_of e
    by_chain None at = refl
    by_chain (Some c) at = views_put j (refreshed c) e.queue e ∙ routes_same (views_of e) j c.sent (ap sent_by at)

pub resend_keeps_views : ResendKeepsViews
resend_keeps_views j e e' said resends =
    let same : resends.taken.sent ≡ resends.chain.sent = ap (λ (c : OutChained). c.sent) resends.resends.after in
    ap views_of resends.after ∙ views_put j resends.taken e.queue e ∙ routes_same (views_of e) j resends.taken.sent (ap sent_by resends.there ∙ sym same)

same_change : (change other : Change Attrs) → Some change ≡ Some other → change ≡ other
same_change change other e = cc

-- to announce a row that is there changes nothing
put_again : (rows : Routes) (p : AddressPrefix) (attrs : Attrs) → tables.get rows p ≡ Some attrs → rows ≡ tables.insert rows p attrs
put_again rows p attrs there = same_map prefixes_total exact_prefixes rows (tables.insert rows p attrs) (λ q.
    by_prefix q p (λ (b : Bool). tables.get rows q ≡ cond b (Some attrs) (tables.get rows q)) (λ at. ap (tables.get rows) at ∙ there) (λ _. refl)
    ∙ sym (get-insert prefixes_total rows p attrs q))

pub resend_is_heard : ResendIsHeard
resend_is_heard profile peers j best e e' said declared sound stand resends =
    let c = resends.chain in
    let r = resends.resends in
    let own = sound.each j c resends.there in
    let stands = stand j c resends.there in
    let same : c.exit.profile ≡ profile = own.profile ∙ declared.profile in
    let made : outf_rows c (read_rows e.queue c.reader best) r.prefix ≡ Some r.attrs = ap (λ (rows : Rows Attrs). rows r.prefix) (sym stands.exact) ∙ r.row in
    let host : is_host_prefix profile.second r.prefix ≡ true = subst (λ (w : Profile). is_host_prefix w.second r.prefix ≡ true) same (hosts_alone (form_of c.exit) c.peer (function_at c.filter r.prefix) r.prefix (read_rows e.queue c.reader best r.prefix) r.attrs made) in
    let heard : Hears profile peers (views_of e) (message_lines c (Some (announcing r.prefix r.attrs))) (with_routes (views_of e) j c.sent) =
    hears_message profile peers j c (views_of e) own.number (declared.words j c resends.there) same stands.chain.kind (ap sent_by resends.there) (Some (announcing r.prefix r.attrs)) c.sent (put_again c.sent r.prefix r.attrs r.row)
    (λ change is. subst (λ (x : Change Attrs). IsTold c.exit x) (same_change (announcing r.prefix r.attrs) change is) r.told)
    (λ change is a after. subst (λ (x : Change Attrs). is_host_prefix profile.second x.prefix ≡ true) (same_change (announcing r.prefix r.attrs) change is) host) in
    subst (λ (ls : List Line). Hears profile peers (views_of e) ls (views_of e')) (sym r.line)
    (subst (λ (v : Views). Hears profile peers (views_of e) (message_lines c (Some (announcing r.prefix r.attrs))) v) (routes_same (views_of e) j c.sent (ap sent_by resends.there) ∙ sym (resend_keeps_views j e e' said resends)) heard)

-- ---- what is printed
pub refresh_is_printed : RefreshIsPrinted
refresh_is_printed profile printing j e are = by_chain (chain_at j e) refl
  where
    by_chain : (o : Option OutChained) → chain_at j e ≡ o → ArePrintableExits profile printing (refreshed_by j o e)
    by_chain None at = are
    by_chain (Some c) at =
        let own = are.each j c at in
        record { family = are.family; unread = are.unread; each = each_put profile printing j (refreshed c) e.queue e (record { named = own.named; sent = own.sent }) are.each }

-- what is sent of a route that may be heard can be spelled, where it can be printed
spelled_of : (printing : Printing) (profile : Profile) (external : Bool) (p : AddressPrefix) (a : Attrs) → IsSentOf profile external p a → IsPrintableSent printing p a → CanBeSpelled a
spelled_of printing profile external p a of printed =
    let exit : Exit = record { profile = profile; me = of.me; external = external } in
    let form : IsFormOfOne exit of.row a = of_fitting exit p of.row a of.row (nat_le (announcement_length profile.second profile.as4 p (sent_form profile of.me external of.row)) 4096) refl of.sent in
    let r = form.route in
    let few = sent_few profile.as4 external (1 + r.prepend) of.me.asn r.attrs.path of.sender.asn (subst (λ (x : Attrs). All (IsReadableSegment profile.as4) x.path) (sym form.attrs) of.heard.path) in
    record { path = subst (λ (x : Attrs). AllByRecursion HasFewNumbers x.path) (sym form.is) few; unrecognized = printed.printed.well_told.ranges.unrecognized }

pub resend_is_printed : ResendIsPrinted
resend_is_printed profile printing j best e e' said sound stand are resends =
    let c = resends.chain in
    let r = resends.resends in
    let change = announcing r.prefix r.attrs in
    let own = are.each j c resends.there in
    let names : IsNamed (Adv c.peer.number c.session) = subst (λ (n : ℕ). IsNamed (Adv n c.session)) (sym (sound.each j c resends.there).number) own.named in
    let printed : IsPrintableSent printing r.prefix r.attrs = own.sent r.prefix r.attrs r.row in
    let can : CanBeSpelled r.attrs = spelled_of printing c.exit.profile c.exit.external r.prefix r.attrs ((stand j c resends.there).chain.sayable r.prefix r.attrs r.row) printed in
    let is : IsSayable printing change = record {
      prefix = printed.prefix;
      before = λ a none. absurd (let clash : ◌≡◌ {A = Option Attrs} None (Some a) = none in cc);
      after = λ a there. subst (IsPrintableSent printing r.prefix) (let same : r.attrs ≡ a = (let both : Some r.attrs ≡ Some a = there in cc) in same) printed;
      octets = λ v6 as4. octets_small v6 as4 r.prefix (Some r.attrs) printed.prefix.masked.0 (λ a there. subst CanBeSpelled (let same : r.attrs ≡ a = (let both : Some r.attrs ≡ Some a = there in cc) in same) can);
    } in
    let lines : ArePrinted printing (message_lines c (Some change)) = message_printed printing c (Some change) names.0.1 (λ x there. subst (IsTold c.exit) (same_change change x there) r.told) (λ x there. subst (IsSayable printing) (same_change change x there) is) in
    record {
      lines = subst (ArePrinted printing) (sym r.line) lines;
      exits = subst (ArePrintableExits profile printing) (sym resends.after) (record {
        family = are.family;
        unread = are.unread;
        each = each_put profile printing j resends.taken e.queue e (subst (IsPrintableExit printing j) (sym r.after) (record { named = own.named; sent = own.sent })) are.each;
      });
    }
