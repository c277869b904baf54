-- Steps that change no row of a branch and no candidate: what the decision's state knows stays known.
use Rattle.router_moments.proofs.Common.{sym, subst, ◌∙◌, ap, ◌≡◌, ℕ, refl, List, true, false, Bool, Speaker, put_chain, chain_at, lent_rows, own_of, int_rows, Event, Task, Line, peer_at, DeclaredPeer, Journaled, HasStepped, Gives, Exited, Moment, with_exits, Stands, IsBlock, ByPeer, BeginsIf, Declares, BySpeaker, IsTurn, TakesTurn}
use Rattle.std.proofs.Common.{Option, Some, None, Result}
use Rattle.std.specs.Result.{OnOk, IfOk}
use Rattle.exit_side.specs.Exits.{refreshed_exits}
use Rattle.std.proofs.Common.{Ok, Err}
use Rattle.event_text.specs.declared.event.Event.TheVariants as events
use Rattle.event_text.specs.Declarations.{refusal, words_of}
use Rattle.journal_text.specs.declared.link.Task.TheVariants as tasks
use Rattle.link_change.specs.Rows.{with_rows}
use Rattle.in_chain.specs.Steps.{new_chain}
use Rattle.in_chain.proofs.CandidateLemmas.{no_candidate_at_first}
use Rattle.nexthop_resolver.specs.Resolving.{nothing_known}
use Rattle.hop_side.specs.Resolvers.{put_resolver}
use Rattle.pass_core.specs.Passed.{present}
use Rattle.redist.specs.Protocols.{with_proto}
use Rattle.router_moments.specs.declared.tasks.Done.{Done}
use Rattle.router_moments.specs.declared.tasks.Done.TheVariants.{Nothing, Taken}
use Rattle.router_moments.specs.Bests.{candidates_by}
use Rattle.router_moments.specs.Moments.{profiled}
use Rattle.router_moments.specs.Blocks.{declared_peer, declared_speaker, begun, Begins, refreshed}
use Rattle.bgp_wire.specs.declared.message.RouteRefresh.{RouteRefresh}
use Rattle.bgp_wire.specs.Grammar.{is_served}
use Rattle.std.proofs.Common.{cond}
use Rattle.router_moments.proofs.BeforeLocal.{local_first}
use Rattle.router_moments.proofs.PeerLemmas.{quiet, same_resolved, no_chain_yet, peer_absent}
use Rattle.router_network.specs.Informed.{Contested, Informed, branch_rows, branch_candidates, counted_over}
use Rattle.router_network.proofs.BranchRows.{quiet_rows, resolved_rows, candidates_kept}
use Rattle.router_network.proofs.KnownRows.{informed_as, informed_same, informed_own}
use Rattle.router_network.proofs.ChainShifts.{edits_informed}
use Rattle.router_network.proofs.LocalLemmas.{own_before, own_then}
use Rattle.router_network.proofs.RedistEdits.{own_edited}

-- ---- turns of who reads `best`, of what peers are sent, and of external routes
abbrev pub IsReading : Task → Type 0
IsReading tasks.ReadRib = Unit {0}
IsReading (tasks.Out k) = Unit {0}
IsReading (tasks.Ref k) = Unit {0}
IsReading tasks.Ext = Unit {0}
IsReading other = ⊥

pub reading_informed : (task : Task) (contests : Contested) (m m' : Moment) (said : List Line) → IsReading task → IsTurn task m said m' → Informed contests m → Informed contests m'
reading_informed tasks.ReadRib contests m m' said reading t i = informed_same contests m m' (ap (λ (x : Moment). x.declared.speaker) t.after) (ap (λ (x : Moment). x.tree) t.after) (ap (λ (x : Moment). x.redist) t.after) (ap (λ (x : Moment). x.chains) t.after) (ap (λ (x : Moment). x.hops) t.after) i
reading_informed (tasks.Out k) contests m m' said reading t i = informed_same contests m m' (ap (λ (x : Moment). x.declared.speaker) t.after) (ap (λ (x : Moment). x.tree) t.after) (ap (λ (x : Moment). x.redist) t.after) (ap (λ (x : Moment). x.chains) t.after) (ap (λ (x : Moment). x.hops) t.after) i
reading_informed (tasks.Ref k) contests m m' said reading t i = informed_same contests m m' (ap (λ (x : Moment). x.declared.speaker) t.after) (ap (λ (x : Moment). x.tree) t.after) (ap (λ (x : Moment). x.redist) t.after) (ap (λ (x : Moment). x.chains) t.after) (ap (λ (x : Moment). x.hops) t.after) i
reading_informed tasks.Ext contests m m' said reading t i = informed_same contests m m' (ap (λ (x : Moment). x.declared.speaker) t.after) (ap (λ (x : Moment). x.tree) t.after) (ap (λ (x : Moment). x.redist) t.after) (ap (λ (x : Moment). x.chains) t.after) (ap (λ (x : Moment). x.hops) t.after) i
reading_informed other contests m m' said reading t i = absurd reading

by_done : (task : Task) (contests : Contested) (m m' : Moment) (before now : Journaled) (done : Done) → IsReading task → TakesTurn task m m' before now done → Informed contests m → Informed contests m'
by_done task contests m m' before now Nothing reading t i = subst (Informed contests) (sym t.1) i
by_done task contests m m' before now Taken reading t i = reading_informed task contests m m' t.0 reading t.2 i

pub reading_taken : {E : Type 0} (result : Result Done E) (task : Task) (contests : Contested) (m m' : Moment) (before now : Journaled) → IsReading task → IfOk result (TakesTurn task m m' before now) → Informed contests m → OnOk result (Informed contests m')
reading_taken (Ok done) task contests m m' before now reading t i = by_done task contests m m' before now done reading t i
reading_taken (Err e) task contests m m' before now reading t i = tt

-- ---- events that neither tell nor take a route
abbrev pub IsQuiet : Event → Type 0
IsQuiet events.Nothing = Unit {0}
IsQuiet (events.Whole word) = Unit {0}
IsQuiet (events.Local words) = Unit {0}
IsQuiet (events.Peer k words client) = Unit {0}
IsQuiet (events.Up k) = Unit {0}
IsQuiet (events.FilterIn k rules) = Unit {0}
IsQuiet (events.FilterOut k rules) = Unit {0}
IsQuiet (events.Redist proto on) = Unit {0}
IsQuiet (events.Query question) = Unit {0}
IsQuiet other = ⊥

profile_informed : (contests : Contested) (m m' : Moment) (profile : _) → m' ≡ profiled m profile → Informed contests m → Informed contests m'
profile_informed contests m m' profile after i = subst (Informed contests) (sym after) (informed_same contests m (profiled m profile) refl refl refl refl refl i)

-- `local`: nothing was redistributed before it, and no interior route stands
local_informed : (contests : Contested) (m m' : Moment) (words : Speaker) (exits : _) (reader : Option ℕ) → Stands m → refusal m.declared (events.Local words) ≡ None → m' ≡ record (declared_speaker m words) { exits = exits; reader = reader } → Informed contests m → Informed contests m'
local_informed contests m m' words exits reader stands admitted after i =
    let first = local_first m.declared words admitted in
    subst (Informed contests) (sym after) (informed_own contests m _ (own_then m words stands first ∙ sym (own_before m first)) i (record (declared_speaker m words) { exits = exits; reader = reader }) refl refl)

-- a peer that is declared has no route
peer_informed : (contests : Contested) (m m' : Moment) (me : Speaker) (k : ℕ) (words : Speaker) (client : Bool) → m.declared.speaker ≡ Some me → Stands m → refusal m.declared (events.Peer k words client) ≡ None → m' ≡ declared_peer m me k words client → Informed contests m
    → Informed contests m'
peer_informed contests m m' me k words client since stands admitted after i = subst (Informed contests) (sym after) (informed_as contests m (declared_peer m me k words client) rows candidates i)
  where
    absent : peer_at k m.declared.peers ≡ None
    absent = peer_absent m.declared k words client admitted

    rows : lent_rows (own_of m) (put_chain k (new_chain me (words_of m.declared.speaker k words client)) m.chains) (put_resolver k (nothing_known k) m.hops) ≡ branch_rows m
    rows = resolved_rows (own_of m) (put_chain k (new_chain me (words_of m.declared.speaker k words client)) m.chains) m.hops (put_resolver k (nothing_known k) m.hops) (same_resolved m me k words client since stands absent)
        ∙ quiet_rows (own_of m) m.chains (put_chain k (new_chain me (words_of m.declared.speaker k words client)) m.chains) m.hops (quiet m me k words client since stands absent)

    none : candidates_by (Some (new_chain me (words_of m.declared.speaker k words client))) ≡ candidates_by (chain_at k m.chains)
    none = (λ i q. no_candidate_at_first me (words_of m.declared.speaker k words client) q i) ∙ sym (ap candidates_by (no_chain_yet m me k words client since stands absent))

    candidates : counted_over (own_of m) (put_chain k (new_chain me (words_of m.declared.speaker k words client)) m.chains) ≡ branch_candidates m
    candidates = candidates_kept (with_rows (own_of m)) m.chains k (new_chain me (words_of m.declared.speaker k words client)) none

declares_informed : (s : Option Speaker) (contests : Contested) (m m' : Moment) (k : ℕ) (words : Speaker) (client : Bool) (said : List Line) (turns : ℕ) → m.declared.speaker ≡ s → Stands m → refusal m.declared (events.Peer k words client) ≡ None → Declares m s k words client said turns m' → Informed contests m
    → Informed contests m'
declares_informed None contests m m' k words client said turns since stands admitted d i = absurd d
declares_informed (Some me) contests m m' k words client said turns since stands admitted d i = peer_informed contests m m' me k words client since stands admitted d.2 i

-- a session that begins
by_speaker : (s : Option Speaker) (k : ℕ) (p : DeclaredPeer) (contests : Contested) (m m' : Moment) (said : List Line) → BySpeaker (λ me. Begins me k p m said m') s → Informed contests m → Informed contests m'
by_speaker None k p contests m m' said b i = absurd b
by_speaker (Some me) k p contests m m' said b i = subst (Informed contests) (sym b.after) (informed_same contests m (with_exits (begun m k) m'.exits) refl refl refl refl refl i)

begins_informed : (up : Bool) (k : ℕ) (p : DeclaredPeer) (contests : Contested) (m m' : Moment) (said : List Line) (turns : ℕ) → BeginsIf up m k p said turns m' → Informed contests m → Informed contests m'
begins_informed true k p contests m m' said turns b i = subst (Informed contests) (sym b.2) i
begins_informed false k p contests m m' said turns b i = by_speaker m.declared.speaker k p contests m m' said b.1 i

up_informed : (o : Option DeclaredPeer) (k : ℕ) (contests : Contested) (m m' : Moment) (said : List Line) (turns : ℕ) → ByPeer (λ p. BeginsIf p.up m k p said turns m') o → Informed contests m → Informed contests m'
up_informed None k contests m m' said turns b i = absurd b
up_informed (Some p) k contests m m' said turns b i = begins_informed p.up k p contests m m' said turns b i

pub quiet_informed : (event : Event) (contests : Contested) (m m' : Moment) (said : List Line) (turns : ℕ) → IsQuiet event → Stands m → refusal m.declared event ≡ None → IsBlock m event said turns m' → Informed contests m → Informed contests m'
quiet_informed events.Nothing contests m m' said turns q stands admitted b i = subst (Informed contests) (sym b.2) i
quiet_informed (events.Whole word) contests m m' said turns q stands admitted b i = profile_informed contests m m' _ b.2 i
quiet_informed (events.Local words) contests m m' said turns q stands admitted b i = local_informed contests m m' words _ _ stands admitted b.1.after i
quiet_informed (events.Peer k words client) contests m m' said turns q stands admitted b i = declares_informed m.declared.speaker contests m m' k words client said turns refl stands admitted b i
quiet_informed (events.Up k) contests m m' said turns q stands admitted b i = up_informed (peer_at k m.declared.peers) k contests m m' said turns b i
quiet_informed (events.FilterIn k rules) contests m m' said turns q stands admitted b i = subst (Informed contests) (sym b.2.2) (edits_informed k rules contests m b.0 b.1 i)
quiet_informed (events.FilterOut k rules) contests m m' said turns q stands admitted b i = subst (Informed contests) (sym b.2.2) (informed_same contests m _ refl refl refl refl refl i)
quiet_informed (events.Redist proto on) contests m m' said turns q stands admitted b i =
    subst (Informed contests) (sym b.2) (informed_own contests m _ (own_edited m.declared.speaker m.redist (with_proto (present m.redist) proto on) (int_rows m.tree)) i _ refl refl)
quiet_informed (events.Query question) contests m m' said turns q stands admitted b i = subst (Informed contests) (sym b.1) i
quiet_informed other contests m m' said turns q stands admitted b i = absurd q

pub quiet_stepped : {E : Type 0} (result : Result ℕ E) (event admitted : Event) (contests : Contested) (m m' : Moment) (before now : Journaled) → Stands m → refusal m.declared admitted ≡ None → admitted ≡ event → IfOk result (λ turns. Gives (HasStepped m event turns m') before now)
    → Informed contests m → IsQuiet event → OnOk result (Informed contests m')
quiet_stepped (Ok turns) event admitted contests m m' before now stands may is steps i quiet =
    quiet_informed event contests m m' steps.0 turns quiet stands (subst (λ (e : Event). refusal m.declared e ≡ None) is may) steps.2.block i
quiet_stepped (Err e) event admitted contests m m' before now stands may is steps i quiet = tt

-- a refresh, whether it is served or not
by_served : (t : Bool) (contests : Contested) (m : Moment) (e : Exited) → Informed contests m → Informed contests (cond t (with_exits m e) m)
by_served true contests m e i = informed_same contests m (with_exits m e) refl refl refl refl refl i
by_served false contests m e i = i

pub refreshed_informed : (k : ℕ) (r : RouteRefresh) (contests : Contested) (m m' : Moment) → m' ≡ refreshed k r m → Informed contests m → Informed contests m'
refreshed_informed k r contests m m' is i = subst (Informed contests) (sym is) (by_served (is_served m.declared.profile.second r) contests m (refreshed_exits k m.exits) i)
