-- The RIB's exit in the router: what its entries lead to, what stands then, and one turn of the external routes' next hops.
use Rattle.router_moments.proofs.Common.{sym, subst, ◌∙◌, ap, ◌≡◌, ℕ, refl, List, true, arith, false, ◌+◌, Bool, ◌≤◌, ◌≢◌, AddressPrefix, Speaker, peer_at, others_are_unheard, AreUnheard, Exited, AllStand, IsExits, AllLead, resolver_at, HasNoInterest, entries_of_entries, Journaled, flushed, Leads, Links, Entry, Line, Value, Change, Turn, joined, with_side, Sides, Region, Forward, no_table, way_of, over, external_hop, chain_at, Registry, StandsOver, ext_rows, AgreesWith, RibExit, FibRow, Interior, int_rows, Moment, best_of, router_links, with_exits, read_rows_by, read_of, parts, forward_by, with_rib, external_beyond, Stands, ExitsAt, ReadsOn, journal_lines, TakesTurn, IsWork, Taken}
use Rattle.std.proofs.Common.{Option, Some, None, is_some}
use Rattle.std.specs.Prelude.{MatchBool}
use Rattle.std.specs.FinMap as tables
use Rattle.link_change.specs.declared.turn.Turn.TheVariants as turns
use Rattle.nexthop_resolver.specs.Registered.{KeepsOthers}
use Rattle.journal_text.specs.declared.link.Task.TheVariants as tasks
use Rattle.rib_exit.specs.Exits.{exit_links as external_links, ext_candidates, IsExit, left_in}
use Rattle.rib_exit.specs.Steps.{LeadsExit, KeepsAgreed, TurnsExit, ComesOut}
use Rattle.rib_exit.proofs.LawLemmas.{stands_at_first}
use Rattle.exit_side.specs.Exits.{chain_at as exit_at}
use Rattle.hop_side.proofs.LawLemmas.{strangers_agree}
use Rattle.loss_chain.specs.Tables.{table_beyond}
use Rattle.router_moments.specs.Turns.{IsExternalTurn}
use Rattle.router_moments.proofs.HeardSteps.{heard_quiet}
use Rattle.router_moments.proofs.StaleLemmas.{turned, all_as_before, none_goes_stale}
use Rattle.router_moments.proofs.BeyondLemmas.{external_counted}
use Rattle.router_moments.proofs.RibLinks.{exit_leads}
use Rattle.router_moments.proofs.SpendLemmas.{Spent}
use Rattle.router_moments.proofs.WorkLemmas.{one_turn}
use Rattle.router_moments.specs.declared.tasks.Phase.TheVariants as phases

-- ---- the region of the external routes
-- peers hear nothing of it
pub exit_unheard : (old new : Links Value) (entries : List (Entry Value)) → LeadsExit old entries new → AreUnheard (journal_lines entries)
exit_unheard old new entries leads = others_are_unheard Forward old new entries refl (exit_leads old new entries leads)

-- in the router, from `local` on
pub forward_leads : (m : Moment) (me : Speaker) (r : Registry Interior) (x : RibExit) (entries : List (Entry Value)) → m.declared.speaker ≡ Some me
    → LeadsExit (external_links m.rib (int_rows m.tree)) entries (external_links x (int_rows m.tree)) → Leads (router_links m) entries (router_links (with_rib m r x))
forward_leads m me r x entries since leads =
    subst (λ (s : Sides). Leads (router_links m) entries (joined s)) set
    (exit_leads (external_links m.rib (int_rows m.tree)) (external_links x (int_rows m.tree)) entries leads (parts m) (ap (λ (s : Option Speaker). forward_by s m.rib (int_rows m.tree)) since))
  where
    each : (s : Region) → with_side (parts m) Forward (external_links x (int_rows m.tree)) s ≡ parts (with_rib m r x) s
    each Forward = ap (λ (s : Option Speaker). forward_by s x (int_rows m.tree)) (sym since)
    each other = refl

    set : with_side (parts m) Forward (external_links x (int_rows m.tree)) ≡ parts (with_rib m r x)
    set i s = each s i

-- ---- the register's clients, where the exit asked
-- no peer has its number
none_at_zero : (m : Moment) → Stands m → resolver_at 0 m.hops ≡ None
none_at_zero m stands = no_table (resolver_at 0 m.hops) (stands.hops.same 0 ∙ by_chain (is_some (chain_at 0 m.chains)) refl)
  where
    by_chain : (b : Bool) → is_some (chain_at 0 m.chains) ≡ b → is_some (chain_at 0 m.chains) ≡ false
    by_chain true is = absurd (let small : 1 ≤ 0 = (stands.peers.numbers 0 is).0 in omega (arith, small))
    by_chain false is = is

strangers_stay : (m : Moment) (r : Registry Interior) → Stands m → KeepsOthers 0 m.registry r → (k : ℕ) → k ≢ 0 → resolver_at k m.hops ≡ None → HasNoInterest k r
strangers_stay m r stands keeps k other none s = ap is_some (keeps.interests (record { subnet = s; client = k }) other) ∙ stands.hops.strangers k other none s

-- ---- what stands then: the exits of peers and the RIB's exit became these
pub stands_forward : (m : Moment) (me : Speaker) (e : Exited) (r : Registry Interior) (x : RibExit) → Stands m → m.declared.speaker ≡ Some me → KeepsAgreed m.registry r x → IsExits e → AllLead e.queue (best_of m) → AllStand (best_of m) e → e.profile ≡ m.declared.profile
    → ((k : ℕ) → ExitsAt m.declared.speaker m.outgoing k (peer_at k m.declared.peers) (exit_at k e)) → ReadsOn m.declared.speaker m.reader e → StandsOver (read_rows_by e.queue m.reader (best_of m)) x → Stands (with_rib (with_exits m e) r x)
stands_forward m me e r x stands since agreed sound all stand profile sessions reader external = record {
  peers = stands.peers;
  interior = stands.interior;
  registered = ap tables.get agreed.others.rows ∙ stands.registered;
  hops = record {
    sound = stands.hops.sound;
    same = stands.hops.same;
    agree = strangers_agree m.hops 0 m.registry r stands.hops.sound (none_at_zero m stands) agreed.others stands.hops.agree;
    counted = stands.hops.counted;
    strangers = strangers_stay m r stands agreed.others;
    matches = agreed.stands;
  };
  exits = record {
    rows = stands.exits.rows;
    each = sound;
    all = all;
    read = stand;
    profile = profile;
    sender = stands.exits.sender;
    sessions = sessions;
    one = reader;
    external = external;
  };
  external = record {
    sound = agreed.sound;
    agree = agreed.agree;
  };
  waits = record { own = stands.waits.own; external = λ none. absurd (let clash : None ≡ Some me = sym none ∙ since in cc) };
}

-- ---- a turn of the next hops
module _ (m : Moment) (r : Registry Interior) (x : RibExit) (sent : Option (Change FibRow)) (entries : List (Entry Value)) (stands : Stands m) (t : TurnsExit (int_rows m.tree) sent m.registry r m.rib x entries) where
  -- as many candidates lie beyond each place
  beyond_same : external_beyond x ≡ external_beyond m.rib
  beyond_same = ap (λ s. λ (place : Option AddressPrefix). table_beyond place s.ebgp + table_beyond place s.ibgp) t.rows

  fewer : left_in (external_beyond x) x + 1 ≤ left_in (external_beyond m.rib) m.rib
  fewer = subst (λ (beyond : Option AddressPrefix → ℕ). left_in beyond x + 1 ≤ left_in (external_beyond m.rib) m.rib) (sym beyond_same) (t.fewer (external_beyond m.rib) (external_counted m.rib))

  -- before `local` there is none
  local : (me : Speaker) × (m.declared.speaker ≡ Some me)
  local = by_speaker m.declared.speaker refl
    where
      by_speaker : (s : Option Speaker) → m.declared.speaker ≡ s → (me : Speaker) × (m.declared.speaker ≡ Some me)
      by_speaker (Some me) since = (me, since)
      by_speaker None first =
          let none : left_in (external_beyond m.rib) m.rib ≡ 0 = ap (left_in (external_beyond m.rib)) (stands.waits.external first) ∙ stands_at_first.left (external_beyond m.rib) in
          let some = fewer in
          absurd (omega (arith, none, some))

  external_does : IsWork phases.Ext 1 m (with_rib m r x) (journal_lines entries)
  external_does = one_turn phases.Ext m (with_rib m r x) (with_rib m r x) (journal_lines entries) refl (record {
    leads = subst (λ (es : List (Entry Value)). Leads (router_links m) es (router_links (with_rib m r x))) (sym (entries_of_entries entries)) (forward_leads m local.0 r x entries local.1 t.leads);
    live = refl;
    stands = stands_forward m local.0 m.exits r x stands local.1 t.agreed stands.exits.each stands.exits.all stands.exits.read stands.exits.profile stands.exits.sessions stands.exits.one (t.stands (read_of m) stands.exits.external);
    heard = heard_quiet m (with_rib m r x) (journal_lines entries) (exit_unheard _ _ entries t.leads) refl;
  }) spent (omega arith, let same = t.known in omega (arith, same)) (none_goes_stale m (with_rib m r x) (all_as_before m.hops m.hops refl)
      (turned external_hop over (ext_candidates m.rib) (ext_rows m.rib) way_of m.registry r m.rib.forwarding x.forwarding t.resolved t.turned))
    where
      spent : Spent phases.Ext m (with_rib m r x)
      spent =
          let less = fewer in
          (omega (arith, less), omega (arith, less), (omega arith, (omega arith, (omega arith, (omega arith, (omega arith, (omega arith, (omega arith, tt))))))), record { peers = omega arith; protocols = omega arith }, omega arith)

pub external_works : (m : Moment) (said : List Line) (m' : Moment) → Stands m → IsExternalTurn m said m' → IsWork phases.Ext 1 m m' said
external_works m said m' stands t = subst (λ (n : Moment). IsWork phases.Ext 1 m n said) (sym t.after) (subst (λ (l : List Line). IsWork phases.Ext 1 m (with_rib m m'.registry m'.rib) l) (sym t.lines) (external_does m m'.registry m'.rib t.fib t.entries stands t.turn))

-- by what it came to
pub external_took : (m v m' : Moment) (r : Registry Interior) (x : RibExit) (before j now : Journaled) (turn : Turn FibRow) (rested : Bool) → MatchBool rested (turn ≡ turns.Nothing) (turn ≢ turns.Nothing) → rested ≡ false → v ≡ m
    → ComesOut (int_rows v.tree) v.registry r v.rib x before j turn → m' ≡ with_rib v r x → now ≡ flushed j → TakesTurn tasks.Ext m m' before now Taken
external_took m v m' r x before j now turn rested is some view comes after flush =
    subst (λ (n : Moment). TakesTurn tasks.Ext n m' before now Taken) view (subst (λ (n : Moment). TakesTurn tasks.Ext v n before now Taken) (sym after) (by_turn turn (subst (λ (b : Bool). MatchBool b (turn ≡ turns.Nothing) (turn ≢ turns.Nothing)) some is) comes))
  where
    by_turn : (t : Turn FibRow) → t ≢ turns.Nothing → ComesOut (int_rows v.tree) v.registry r v.rib x before j t → TakesTurn tasks.Ext v (with_rib v r x) before now Taken
    by_turn turns.Nothing other c = absurd (other refl)
    by_turn turns.Quiet other c = (journal_lines c.0, flush ∙ ap flushed c.1, record { fib = None; entries = c.0; turn = c.2; lines = refl; after = refl })
    by_turn (turns.Sent change) other c = (journal_lines c.0, flush ∙ ap flushed c.1, record { fib = Some change; entries = c.0; turn = c.2; lines = refl; after = refl })

-- what the calls ask for
pub rib_sound : (m v : Moment) → v ≡ m → Stands m → IsExit v.rib
rib_sound m v view stands = (subst Stands (sym view) stands).external.sound

pub rib_agrees : (m v : Moment) → v ≡ m → Stands m → AgreesWith v.rib v.registry
rib_agrees m v view stands = (subst Stands (sym view) stands).external.agree
