-- What peers hear of a step: of the lines of all other parts nothing.
use Rattle.router_moments.proofs.Common.{sym, subst, ◌∙◌, ap, ◌≡◌, ℕ, refl, List, ◌++◌, Route, Speaker, peer_at, Declaration, DeclaredPeer, unheard_joins, others_are_unheard, AreUnheard, Exited, OutChains, LeadsRes, neighbours, words_in, entries_of, fib_value, sent_entries, Links, Entry, Line, Link, Best, Fib, Value, Rows, Change, LeadsIn, Inward, Resolved, OutChained, FibRow, Interior, best_entries, Queues, own_entries, Moment, Policies, Stands, ExitsAt, journal_lines, BelowInt}
use Rattle.std.proofs.Common.{[], Option, Some, None, option_map}
use Rattle.std.specs.FinMap as tables
use Rattle.journal_text.specs.declared.link.Link.TheVariants.{Red}
use Rattle.exit_laws.specs.Views.{views_of, sent_by, AreDeclared}
use Rattle.exit_laws.proofs.HearLemmas.{hearing_joins, nothing_is_heard, changes_are_unheard}
use Rattle.live_state.specs.Heard.{Hears, Views}
use Rattle.rib_exit.specs.Steps.{fib_entries}
use Rattle.router_moments.specs.Printable.{IsHeard}
use Rattle.router_moments.proofs.HopLemmas.{res_leads}
use Rattle.router_moments.proofs.QueueLemmas.{queue_chains}

-- lines without entries, of which nobody hears anything
abbrev pub AreQuiet : List Line → Type 0
AreQuiet said = (entries_of said ≡ []) × AreUnheard said

pub heard_quiet : (m m' : Moment) (said : List Line) → AreUnheard said → views_of m'.exits ≡ views_of m.exits → IsHeard m said m'
heard_quiet m m' said unheard same = subst (λ (v : Views). Hears m.declared.profile (neighbours m.declared) (views_of m.exits) said v) (sym same) (nothing_is_heard m.declared.profile (neighbours m.declared) (views_of m.exits) said unheard)

pub heard_join : (a b c : Moment) (xs ys : List Line) → b.declared ≡ a.declared → IsHeard a xs b → IsHeard b ys c → IsHeard a (xs ++ ys) c
heard_join a b c xs ys same x y =
    hearing_joins a.declared.profile (neighbours a.declared) (views_of a.exits) (views_of b.exits) (views_of c.exits) xs ys x
    (subst (λ (d : Declaration). Hears d.profile (neighbours d) (views_of b.exits) ys (views_of c.exits)) same y)

pub same_views : (e e' : Exited) → e'.chains ≡ e.chains → views_of e' ≡ views_of e
same_views e e' same = ap {B = Views} (λ (a : OutChains) (j : ℕ). sent_by (tables.get a j)) same

pub queue_views : (best : Option (Change Route)) (e e' : Exited) → Queues best e e' → views_of e' ≡ views_of e
queue_views best e e' q = same_views e e' (queue_chains e e' best q)

-- each exit is a declared peer's
exit_words : (s : Option Speaker) (policies : Policies) (j : ℕ) (p : Option DeclaredPeer) (c : OutChained) → ExitsAt s policies j p (Some c) → words_in p ≡ Some c.peer
exit_words (Some me) policies j (Some p) c is = ap Some (sym is.words)
exit_words (Some me) policies j None c is = absurd is
exit_words None policies j p c is = absurd is

pub exits_declared : (m : Moment) → Stands m → AreDeclared m.declared.profile (neighbours m.declared) m.exits
exits_declared m stands = record {
  profile = stands.exits.profile;
  words = λ j c at. exit_words m.declared.speaker m.outgoing j (peer_at j m.declared.peers) c (subst (λ (o : Option OutChained). ExitsAt m.declared.speaker m.outgoing j (peer_at j m.declared.peers) o) at (stands.exits.sessions j));
}

-- ---- of what a stage sends
pub sent_unheard : {R : Type 0} (value : R → Value) (link : Link) (sent : Option (Change R)) → AreUnheard (journal_lines (sent_entries value link sent))
sent_unheard value link None = tt
sent_unheard value link (Some c) = changes_are_unheard link c.prefix (option_map value c.before) (option_map value c.after)

-- of a fall in a peer's chain, what goes on below it, and the weld behind both
pub falls_unheard : (a b c d : Links Value) (r r' : Links Value) (entries resolved weld : List (Entry Value)) (best : Option (Change Route)) → LeadsIn Inward a entries b → LeadsRes r resolved r' → LeadsIn Inward c weld d
    → AreUnheard (journal_lines (entries ++ (resolved ++ (best_entries best ++ weld))))
falls_unheard a b c d r r' entries resolved weld best falls goes welds =
    unheard_joins entries (resolved ++ (best_entries best ++ weld)) (others_are_unheard Inward a b entries refl falls)
    (unheard_joins resolved (best_entries best ++ weld) (others_are_unheard Resolved r r' resolved refl (res_leads r r' resolved goes))
    (unheard_joins (best_entries best) weld (sent_unheard _ Best best) (others_are_unheard Inward c d weld refl welds)))

pub hops_unheard : (r r' : Links Value) (resolved : List (Entry Value)) (best : Option (Change Route)) → LeadsRes r resolved r' → AreUnheard (journal_lines (resolved ++ best_entries best))
hops_unheard r r' resolved best goes = unheard_joins resolved (best_entries best) (others_are_unheard Resolved r r' resolved refl (res_leads r r' resolved goes)) (sent_unheard _ Best best)

-- ---- of a change of this speaker's own routes, and what follows it
pub own_unheard : (own best : Option (Change Route)) → AreUnheard (journal_lines (own_entries own ++ best_entries best))
own_unheard own best = unheard_joins (own_entries own) (best_entries best) (sent_unheard _ Red own) (sent_unheard _ Best best)

-- ---- of what goes on to `fib`: from the splitter, with all that each part causes,

-- and from `int`
pub fib_unheard : (fib : Option (Change FibRow)) → AreUnheard (journal_lines (fib_entries fib))
fib_unheard fib = sent_unheard fib_value Fib fib

-- ---- of what follows a change of `int`
pub below_unheard : (sent : Option (Change Interior)) (int : Rows Interior) (m m' : Moment) (entries : List (Entry Value)) → BelowInt sent int m m' entries → AreUnheard (journal_lines entries)
below_unheard None int m m' entries below = subst (λ (es : List (Entry Value)). AreUnheard (journal_lines es)) (sym below.1) tt
below_unheard (Some change) int m m' entries below =
    let f = below.0 in
    let lines : entries ≡ (own_entries f.own.own ++ best_entries f.own.decided.best) ++ fib_entries f.fib =
    f.lines
    ∙ ap (λ (es : List (Entry Value)). es ++ f.fib_lines) (f.own.lines ∙ ap (λ (es : List (Entry Value)). own_entries f.own.own ++ es) f.own.decided.lines)
    ∙ ap (λ (es : List (Entry Value)). (own_entries f.own.own ++ best_entries f.own.decided.best) ++ es) f.forwards.lines in
    subst (λ (es : List (Entry Value)). AreUnheard (journal_lines es)) (sym lines)
    (unheard_joins (own_entries f.own.own ++ best_entries f.own.decided.best) (fib_entries f.fib) (own_unheard f.own.own f.own.decided.best) (fib_unheard f.fib))
