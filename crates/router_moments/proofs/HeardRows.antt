-- Rows whose attributes may be heard: those of the chains, this speaker's own, and so those of `best`.
use Rattle.router_moments.proofs.Common.{sym, subst, ◌≡◌, ◌<◌, ℕ, refl, List, true, false, Bool, suc, zero, inr, inl, ForSome, AddressPrefix, is_host_prefix, Attrs, Route, Profile, Speaker, AreOctets, Message, Update, best_is_a_branchs, filtered, resolver_at, Resolvers, rows_by, Chained, filt_rows, welded, fed, Entry, Task, Value, Rows, Change, changes_of, announced_with, withdrawn_from, all_both, route_hop, with_metric, Resolving, in_force_by, fresh_by, walk_to, goes_on, Metric, RowsMayBeHeard, Passed, function_at, IsSender, MayBeHeard, put_each, chain_at, Chains, filt_at, filt_by, put_chain, Protos, Interior, int_rows, own_rows, all_at, best_at, Moment, best_of, own_of, Stands, MaySend, AreHeard, IsHeardMessage}
use Rattle.std.proofs.Common.{◌^◌, Option, Some, None}
use Rattle.std.proofs.lemmas.List.Elements.{All-nil}
use Rattle.std.specs.Prelude.{filter, map, [], ◌∷◌}
use Rattle.bgp_wire.specs.Grammar.{Reads, without}
use Rattle.bgp_wire.specs.Grammar as grammar
use Rattle.bgp_wire.specs.Attributes.{is_old_form}
use Rattle.bgp_wire.specs.Readable.{IsReadableSegment, reads_reflection, said_of}
use Rattle.bgp_wire.specs.Routes.{is_unrecognized}
use Rattle.bgp_wire.specs.declared.message.Message.TheVariants as messages
use Rattle.loss_chain.specs.Rows.{AllRows}
use Rattle.loss_chain.proofs.FeedLemmas.{feeds_bring_one_row, losses_bring_no_row, welds_bring_no_row, turns_bring_no_row, lowest_rows_are_rows}
use Rattle.pass_core.specs.Passed.{function_of}
use Rattle.filter_bank.proofs.LawLemmas.{filtered_keeps_attrs}
use Rattle.nexthop_resolver.specs.Kept.{with_igp}
use Rattle.nexthop_resolver.specs.Resolving.{Answers, made_by}
use Rattle.journal_text.specs.declared.link.Task.TheVariants.{Del, Fin}
use Rattle.in_chain.specs.Incomings.{in_rows}
use Rattle.in_chain.specs.Steps.{lost, swept, Turned}
use Rattle.peer_out.proofs.SentLemmas.{read_may_be_heard}
use Rattle.redist.specs.Local.{local_attrs}
use Rattle.redist.proofs.LawLemmas.{only_own_routes}
use Rattle.router_moments.specs.Stands.{RowsWereHeard}

-- ---- the rows of a chain
abbrev pub IsHeardChain : Profile → Chained → Type 0
IsHeardChain profile c = AllRows (MayBeHeard profile) c.incoming.tables

pub fed_heard : (profile : Profile) (c : Chained) (p : AddressPrefix) (row : Option Attrs) → ForSome row (MayBeHeard profile) → IsHeardChain profile c → IsHeardChain profile (fed c p row)
fed_heard profile c p row new heard q r is = elim (feeds_bring_one_row c.incoming.tables p row q r is) as (λ _. MayBeHeard profile r) [
  | inl old ↦ heard q r old
  | inr own ↦ new r own.1
]

pub lost_heard : (profile : Profile) (s : ℕ) (c : Chained) → IsHeardChain profile c → IsHeardChain profile (lost s c)
lost_heard profile s c heard q r is = heard q r (losses_bring_no_row s c.incoming.tables q r is)

pub weld_heard : (profile : Profile) (c : Chained) → IsHeardChain profile c → IsHeardChain profile (welded c)
weld_heard profile c heard q r is = heard q r (welds_bring_no_row c.incoming.tables q r is)

swept_heard : (profile : Profile) (s : ℕ) (p : AddressPrefix) (c : Chained) → IsHeardChain profile c → IsHeardChain profile (swept s p c)
swept_heard profile s p c heard q r is = heard q r (turns_bring_no_row s p c.incoming.tables q r is)

pub turned_heard : (profile : Profile) (task : Task) (c less : Chained) (sent : Option (Change Route)) (fall : List (Entry Value)) → Turned c less task sent fall → IsHeardChain profile c → IsHeardChain profile less
turned_heard profile (Del k s) c less sent fall t heard = subst (IsHeardChain profile) (sym t.1.after) (swept_heard profile s t.1.prefix c heard)
turned_heard profile (Fin k) c less sent fall t heard = subst (IsHeardChain profile) (sym t.1.after) heard
turned_heard profile other c less sent fall t heard = absurd t

-- and of all chains, where another stands for a peer
pub put_heard : (profile : Profile) (k : ℕ) (c' : Chained) (a cs : Chains) → cs ≡ put_chain k c' a → IsHeardChain profile c' → RowsWereHeard profile a → RowsWereHeard profile cs
put_heard profile k c' a cs is own each = subst (RowsWereHeard profile) (sym is) (put_each (λ j c. IsHeardChain profile c) k c' a own each)

-- ---- the rows below
heard_filt : (profile : Profile) (c : Chained) → IsHeardChain profile c → RowsMayBeHeard profile (filt_rows c)
heard_filt profile c heard p r is = by_attrs (in_rows c.incoming p) refl is
  where
    by_attrs : (o : Option Attrs) → in_rows c.incoming p ≡ o → filtered c.me c.peer (function_at c.filter p) p o ≡ Some r → MayBeHeard profile r.attrs
    by_attrs None at is = absurd (cc)
    by_attrs (Some a) at is = subst (MayBeHeard profile) (sym (filtered_keeps_attrs c.me c.peer (function_at c.filter p) p a r is).same_attrs) (heard p a (lowest_rows_are_rows c.incoming.tables p a at))

heard_filt_at : (profile : Profile) (a : Chains) (k : ℕ) → RowsWereHeard profile a → RowsMayBeHeard profile (filt_at a k)
heard_filt_at profile a k each = by_chain (chain_at k a) refl
  where
    by_chain : (o : Option Chained) → chain_at k a ≡ o → RowsMayBeHeard profile (filt_by o)
    by_chain None at p r is = absurd (cc)
    by_chain (Some c) at p r is = heard_filt profile c (each k c at) p r is

with_heard : (profile : Profile) (r row : Route) (igp : Option ℕ) → with_igp r igp ≡ Some row → MayBeHeard profile r.attrs → MayBeHeard profile row.attrs
with_heard profile r row None is h = absurd (cc)
with_heard profile r row (Some n) is h = let same : record r { igp = Some n } ≡ row = cc in subst (λ (x : Route). MayBeHeard profile x.attrs) same h

goes_heard : (profile : Profile) (answers : Answers Metric) (o : Option Route) (row : Route) → ForSome o (λ r. MayBeHeard profile r.attrs) → goes_on route_hop with_metric answers o ≡ Some row → MayBeHeard profile row.attrs
goes_heard profile answers None row each is = absurd (cc)
goes_heard profile answers (Some r) row each is = by_answer (answers (route_hop r)) is
  where
    by_answer : (x : Option Metric) → made_by route_hop with_metric r x ≡ Some row → MayBeHeard profile row.attrs
    by_answer None is = absurd (cc)
    by_answer (Some x) is = with_heard profile r row x.igp is (each r refl)

heard_res : (profile : Profile) (o : Option (Resolving Metric)) (upper : Rows Route) → RowsMayBeHeard profile upper → RowsMayBeHeard profile (rows_by o upper)
heard_res profile None upper above p row is = absurd (cc)
heard_res profile (Some s) upper above p row is = goes_heard profile (function_of (in_force_by s.known) (walk_to (fresh_by s.known) s.walk) p) (upper p) row (above p) is

-- ---- this speaker's own
local_heard : (profile : Profile) (me : Speaker) → IsSender profile me → MayBeHeard profile (local_attrs me.addr)
local_heard profile me sender = record {
  path = All-nil (IsReadableSegment profile.as4);
  next_hop = sender.addr;
  med = λ n is. absurd (cc);
  local_pref = λ n is. absurd (cc);
  aggregator = λ g is. absurd (cc);
  originator = λ n is. absurd (cc);
  clusters = All-nil (λ n. (reads_reflection profile false ≡ true) × (n < 2 ^ 32));
  order = tt;
  types = All-nil (λ u. (is_unrecognized profile u.kind ≡ true) × (is_old_form profile u.kind ≡ false));
}

pub heard_own_rows : (profile : Profile) (speaker : Option Speaker) (s : Passed Protos) (int : Rows Interior) → MaySend profile speaker → RowsMayBeHeard profile (own_rows speaker s int)
heard_own_rows profile None s int sender p r is = absurd (cc)
heard_own_rows profile (Some me) s int sender p r is = subst (λ (x : Route). MayBeHeard profile x.attrs) (sym (only_own_routes me (function_at s p) p (int p) r is)) (local_heard profile me sender)

pub heard_own : (m : Moment) → Stands m → RowsMayBeHeard m.declared.profile (own_of m)
heard_own m stands = heard_own_rows m.declared.profile m.declared.speaker m.redist (int_rows m.tree) stands.exits.sender

-- ---- the best of all
heard_all : (profile : Profile) (own : Rows Route) (a : Chains) (h : Resolvers) → RowsMayBeHeard profile own → RowsWereHeard profile a → (k : ℕ) → RowsMayBeHeard profile (all_at own a h k)
heard_all profile own a h mine each zero p r is = mine p r is
heard_all profile own a h mine each (suc k) p r is = heard_res profile (resolver_at (suc k) h) (filt_at a (suc k)) (heard_filt_at profile a (suc k) each) p r is

pub heard_best : (profile : Profile) (own : Rows Route) (a : Chains) (h : Resolvers) → RowsMayBeHeard profile own → RowsWereHeard profile a → RowsMayBeHeard profile (best_at own a h)
heard_best profile own a h mine each p r is = let b = best_is_a_branchs (all_at own a h) p r is in heard_all profile own a h mine each b.0 p r b.2

pub heard_of : (m : Moment) → Stands m → RowsMayBeHeard m.declared.profile (best_of m)
heard_of m stands = heard_best m.declared.profile (own_of m) m.chains m.hops (heard_own m stands) stands.exits.rows

-- ---- what an UPDATE announces
announced_heard : (profile : Profile) (o : Option Attrs) → ForSome o (MayBeHeard profile) → (ns : List AddressPrefix) → AreHeard profile (map (announced_with o) ns)
announced_heard profile o own [] = tt
announced_heard profile o own (n ∷ ns) = (own, announced_heard profile o own ns)

withdrawn_heard : (profile : Profile) (ns : List AddressPrefix) → AreHeard profile (map withdrawn_from ns)
withdrawn_heard profile [] = tt
withdrawn_heard profile (n ∷ ns) = ((λ a is. absurd (cc)), withdrawn_heard profile ns)

pub changes_heard : (profile : Profile) (u : Update) → ForSome (said_of profile.second u).attrs (MayBeHeard profile) → AreHeard profile (changes_of profile u)
changes_heard profile u own =
    let s = said_of profile.second u in
    all_both (λ c. ForSome c.1 (MayBeHeard profile)) (map withdrawn_from (without s.announced s.withdrawn)) (map (announced_with s.attrs) (filter (is_host_prefix profile.second) s.announced))
    (withdrawn_heard profile (without s.announced s.withdrawn)) (announced_heard profile s.attrs own (filter (is_host_prefix profile.second) s.announced))

-- what octets say may be heard
pub message_heard : (profile : Profile) (external : Bool) (octets : List ℕ) (message : Message) → AreOctets octets → grammar.Answers profile external octets message → IsHeardMessage profile message
message_heard profile external octets (messages.Update u) are reads = λ a at. read_may_be_heard profile external octets u a are reads at
message_heard profile external octets other are reads = tt
